-- Joining and leaving.
use Rattle.std.specs.Prelude.{ℕ, ◌+◌, List, [], Some, None, Bool, true, not, ◌&&◌, ◌||◌, ◌==◌, nat_lt, nat_le, if◌then◌else◌}
use Rattle.am_base.specs.declared.image.Report.{Report}
use Rattle.am_base.specs.declared.image.Row.{Row}
use Rattle.am_base.specs.declared.image.Image.{Image}
use Rattle.am_base.specs.declared.name.Stamp.{Stamp}
use Rattle.am_base.specs.declared.entry.Entry.TheVariants.{Join, Leave}
use Rattle.am_base.specs.declared.outcome.Outcome.{Outcome}
use Rattle.am_base.specs.declared.outcome.Outcome.TheVariants as said
use Rattle.am_base.specs.Names.{place_of_name, life_of_name, name_of_place_and_life, without_name}
use Rattle.am_base.specs.Stamps.{stamp_is_less, stamps_are_equal}
use Rattle.am_base.specs.Lists.{fits, row_at_place, row_of_name}
use Rattle.am_node_defs.specs.Cores.{CoreState}
use Rattle.am_node_defs.specs.Reports as reports
use Rattle.am_model.specs.declared.status.Status.TheVariants as status
use Rattle.am_model.specs.Node.{Node, top, image_of_node, view, set_of_one_name, has_room, is_member, number_is_within_bound, report_fits}
use Rattle.am_model.specs.Refresh.{concerned_names, node_least_stored}
use Rattle.am_model.specs.Emit.{Plan, plan_without_letters, plan_with_letter, plan_with_poll, with_letter_where, plan_numbering_entry, bcast_packet_of, nack_packet_of, welcome_packet_of, gone_packet_of, fetch_packet_of}
use Rattle.am_model.specs.Sequencing.{row_of_name_in_list, has_no_join, take_report}

-- ---- joining

-- the joiner's reports begin at the base
abbrev pub node_with_joiner_reports : Node → ℕ → Node
node_with_joiner_reports m s = record m { reports = reports.reports_with_joiner m.reports s m.core.base }

-- the Join is numbered, and the joiner welcomed once that is accepted
abbrev pub number_join_and_welcome : Node → ℕ → Plan
number_join_and_welcome m s =
    with_letter_where (λ n. nat_le (top m + 1) n.core.acc) (plan_numbering_entry (node_with_joiner_reports m s) (Join s) (said.Numbered (top m + 1)) (λ n. bcast_packet_of n (top m + 1) (Join s)))
    (set_of_one_name s) (λ n. welcome_packet_of n s)

-- a request to join, where the row of its place is q
abbrev pub answer_join_ask : Node → ℕ → Row → Plan
answer_join_ask m s q =
    if nat_lt (life_of_name s) q.life then plan_without_letters m said.Stranger
    else if (q.life == life_of_name s) && nat_lt 0 q.left then plan_without_letters m said.Stranger
    else if nat_lt q.life (life_of_name s) && (nat_lt 0 q.life && ((q.left == 0) || nat_lt m.core.acc q.left)) then plan_without_letters m
    (said.Occupied (name_of_place_and_life (place_of_name s) q.life))
    else if fits (image_of_node m) (Join s) && not (has_room m) then plan_with_poll m (said.Held m.core.base (top m))
    else if fits (image_of_node m) (Join s) then number_join_and_welcome m s
    else if nat_le q.joined (m.reports s).stored || nat_lt m.core.acc q.joined then plan_without_letters m said.Again
    else plan_with_letter m (said.Welcomed q.joined) (set_of_one_name s) (λ n. welcome_packet_of n s)

unfoldable pub join_ask_row : Node → ℕ → Plan
join_ask_row m s = answer_join_ask m s (row_at_place (image_of_node m) s)

-- the list begins at the base, with what was told up to there
abbrev pub core_of_welcomed : CoreState → Stamp → ℕ → ℕ → Image → CoreState
core_of_welcomed c v base join image = record c {
  log = record { start = base; image = image; entries = [] };
  base = base;
  promise = v;
  told = base;
  acc = base;
  taken = base;
  start = join;
}

abbrev pub node_of_welcomed : Node → Stamp → ℕ → ℕ → Image → Node
node_of_welcomed m v base join image = record m { core = core_of_welcomed m.core v base join image; status = status.Member }

-- a joiner asks for what comes next, in the view that it begins in
abbrev pub ask_for_next_entries : Node → ℕ → Stamp → ℕ → Plan
ask_for_next_entries m s v join =
    if stamps_are_equal (view m) v then plan_with_letter m (said.Welcomed join) (set_of_one_name s) nack_packet_of
    else plan_with_letter m (said.Welcomed join) (set_of_one_name s) fetch_packet_of

unfoldable pub welcome_row : Node → ℕ → Stamp → ℕ → ℕ → Image → Plan
welcome_row m s v base join image =
    if is_member m.status then plan_without_letters m said.Known
    else if stamp_is_less v m.core.promise then plan_without_letters m said.Elsewhere
    else if nat_le join base || (not (number_is_within_bound m base join)
    || (stamp_is_less v image.view || nat_lt 0 (row_of_name image m.core.who).joined)) then plan_without_letters m said.Unfit
    else ask_for_next_entries (node_of_welcomed m v base join image) s v join

-- ---- leaving

-- everybody else who is concerned has stored this number
abbrev pub all_others_stored : Node → List ℕ → ℕ → Bool
all_others_stored n set number = elim (node_least_stored n set) [ None ↦ true | Some least ↦ nat_le number least ]

-- a leaver may go: its Leave is accepted, and everybody else who is concerned has stored it
abbrev pub leaver_may_go : Node → ℕ → Bool
leaver_may_go n s = nat_lt 0 (row_of_name_in_list n s).left && (nat_le (row_of_name_in_list n s).left n.core.acc && all_others_stored n (without_name (concerned_names n) s) (row_of_name_in_list n s).left)

abbrev pub outcome_of_letting_go : Node → ℕ → Node → Outcome
outcome_of_letting_go m s n = if leaver_may_go n s then said.LetGo (row_of_name_in_list m s).left else said.Again

abbrev pub with_gone_where_it_may_go : Plan → ℕ → Plan
with_gone_where_it_may_go p s = with_letter_where (λ n. leaver_may_go n s) p (set_of_one_name s) (λ n. gone_packet_of n (row_of_name_in_list n s).left)

-- a request to leave, once its report is taken
abbrev pub answer_leave_ask : Node → ℕ → Plan
answer_leave_ask m s =
    if ((row_of_name_in_list m s).left == 0) && not (has_room m) then plan_with_poll m (said.Held m.core.base (top m))
    else if (row_of_name_in_list m s).left == 0 then with_gone_where_it_may_go (plan_numbering_entry m (Leave s) (said.Numbered (top m + 1)) (λ n. bcast_packet_of n (top m + 1) (Leave s))) s
    else with_gone_where_it_may_go (record (plan_without_letters m said.Again) { outcome = outcome_of_letting_go m s }) s

-- the report is one of this view, and could be made of this list
abbrev pub report_counts : Node → Stamp → Report → Bool
report_counts m v report = stamps_are_equal v (view m) && report_fits m report

unfoldable pub leave_ask_row : Node → ℕ → Stamp → Report → Plan
leave_ask_row m s v report =
    if has_no_join m s then plan_without_letters m said.Stranger
    else if report_counts m v report then answer_leave_ask (take_report m s report) s
    else answer_leave_ask m s

unfoldable pub gone_row : Node → Plan
gone_row m = if m.leaving then plan_without_letters (record m { status = status.Departed }) said.Departed else plan_without_letters m said.Known
