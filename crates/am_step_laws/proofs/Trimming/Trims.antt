-- What a node keeps of its numbers and its list: it trims no more than its own application has taken, through a refresh and through its end.
use Rattle.am_step_laws.proofs.Words.{taken_le_skipped_taken, has_member_is_in_row, ◌≡◌, ⊎_elim, ℕ, ◌+◌, ◌-◌, ◌<◌, ◌≤◌, ◌==◌, max, nat_lt, Bool, true, false, if◌then◌else◌, List}
use Rattle.am_step_laws.proofs.Words.{length, set, Option, Some, None, refl, sym, ap, ◌∙◌, subst, arith, length-append, cases_lt, nat_tests, map-set, Entry}
use Rattle.am_step_laws.proofs.Words.{Leave, Report, Image, place_of_name, life_of_name, has, size, names_of, Log, member_life_of_row, top_of_log, image_of_log, log_members_at}
use Rattle.am_step_laws.proofs.Words.{members_of_image, row_at_place, after, Packet, CoreState, raise_accepted_to_told, pass_over_below_join, union_of_members_at, members_since_accepted, image_at_top_is_told, image_at_below_push, UnusedPlacesHaveNoLife}
use Rattle.am_step_laws.proofs.Words.{row_at_place_of_image, unused_places_after_entries, member_has_life_of_row, life_of_place_after_leave, least_of_names, least_taken_of_names, raise_own_report, tell_accept_front, advance_with_reports, trim_to_least_taken, mod_sixteen_lt, Node}
use Rattle.am_step_laws.proofs.Words.{Ballot, top, image_of_node, members, other_members, is_sequencer, push_entry, trim_node_up_to, advance_node, refresh_as_sequencer, refresh, settle_waiting_send, refresh_at_end}
use Rattle.am_step_laws.proofs.Words.{split_on_bool, settle_changes_only_sends, image_of_pushed_entry, JoinIsNextLife, JoinsAreNextLives}
use Rattle.am_packet.specs.declared.packet.Packet.TheVariants as packet
use Rattle.am_node_defs.proofs.Leaders.{empty_set_names_nobody}
use Rattle.am_step_laws.proofs.Numbers.Counts.{skipped_taken_le_accepted, base_after_is_within, base_after_keeps_lower_bound}
use Rattle.am_step_laws.proofs.Trimming.LeaderRows.{joins_fit_with_pushed_entry, least_taken_le_own_taken}

-- ---- what a node has

-- By the list and the numbers of a node: what its name's own report says it has taken, too.
pub record TrimFrontsAreInOrder (log : Log) (low taken acc told : ℕ) : Type 0 where
  pub used : UnusedPlacesHaveNoLife log.image
  pub joins : JoinsAreNextLives log.image (log.start + 1) log.entries
  pub kept : log.start ≤ low
  pub base : low ≤ taken
  pub given : taken ≤ acc
  pub accepted : acc ≤ top_of_log log
  pub reported : told ≤ taken

abbrev pub NodeTrimFronts : Node → Type 0
NodeTrimFronts m = TrimFrontsAreInOrder m.core.log m.core.base m.core.taken m.core.acc (m.reports m.core.who).taken

-- with another report of its own
pub lower_own_report_keeps_fronts : {log : Log} {low taken acc before : ℕ} (told : ℕ) → told ≤ taken → TrimFrontsAreInOrder log low taken acc before → TrimFrontsAreInOrder log low taken acc told
lower_own_report_keeps_fronts told within h =
    record { used = h.used; joins = h.joins; kept = h.kept; base = h.base; given = h.given; accepted = h.accepted; reported = within }

-- nobody has its own vote
abbrev pub BallotHasNoOwnVote : ℕ → Option Ballot → Type 0
BallotHasNoOwnVote who None = Unit {0}
BallotHasNoOwnVote who (Some b) = b.votes who ≡ None

pub record TrimsNoMoreThanTaken (m : Node) : Type 0 where
  pub fronts : NodeTrimFronts m
  pub leads : is_sequencer m ≡ true → has (members m) m.core.who ≡ true
  pub vote : BallotHasNoOwnVote m.core.who m.ballot

-- the image of a Welcome has sixteen rows, and no life where nobody joined
abbrev pub WelcomeImageIsUsed : Packet → Type 0
WelcomeImageIsUsed (packet.Welcome s v base join image) = UnusedPlacesHaveNoLife image
WelcomeImageIsUsed _ = Unit {0}

pub told_image_is_used : (m : Node) → NodeTrimFronts m → UnusedPlacesHaveNoLife (image_of_node m)
told_image_is_used m h = unused_places_after_entries m.core.log.image (m.core.log.start + 1) m.core.log.entries (omega arith) h.used

-- ---- an entry more

pub pushed_entry_keeps_trim_fronts : (m : Node) (e : Entry) → JoinIsNextLife (image_of_node m) e → NodeTrimFronts m → NodeTrimFronts (push_entry m e)
pushed_entry_keeps_trim_fronts m e fit h =
    record {
      used = h.used;
      joins = joins_fit_with_pushed_entry m.core.log.image (m.core.log.start + 1) m.core.log.entries e h.joins fit;
      kept = h.kept;
      base = h.base;
      given = h.given;
      accepted = simp length-append (omega arith);
      reported = h.reported;
    }

pub trim_keeps_trim_fronts : (m : Node) (base : ℕ) → base ≤ m.core.taken → NodeTrimFronts m → NodeTrimFronts (trim_node_up_to m base)
trim_keeps_trim_fronts m base low h =
    record { used = h.used; joins = h.joins; kept = omega arith; base = omega arith; given = h.given; accepted = h.accepted; reported = h.reported }

-- ---- a refresh

-- its own membership, or its own Leave last
pub record LeastTakenLeOwn (m : Node) : Type 0 where
  pub least : (reports : ℕ → Report) (c : CoreState) (to : ℕ) → c.log ≡ m.core.log → c.who ≡ m.core.who → c.log.start ≤ c.acc → c.acc ≤ top_of_log c.log
      → (reports c.who).taken ≤ c.taken → least_taken_of_names reports (members_since_accepted c) ≡ Some to → to ≤ c.taken

pub own_member_bounds_least_taken : (m : Node) → NodeTrimFronts m → has (members m) m.core.who ≡ true → LeastTakenLeOwn m
own_member_bounds_least_taken m h member = record {
  least = λ reports c to log who low high own least.
      (let used : UnusedPlacesHaveNoLife c.log.image = subst (λ (l : Log). UnusedPlacesHaveNoLife l.image) (sym log) h.used in
      let joins : JoinsAreNextLives c.log.image (c.log.start + 1) c.log.entries = subst (λ (l : Log). JoinsAreNextLives l.image (l.start + 1) l.entries) (sym log) h.joins in
      let here : has (members_of_image (image_of_log c.log)) c.who ≡ true =
      subst (λ (l : Log). has (members_of_image (image_of_log l)) c.who ≡ true) (sym log) (subst (λ w. has (members m) w ≡ true) (sym who) member) in
      let at : has (log_members_at c.log (top_of_log c.log)) c.who ≡ true = ap (λ i. has (members_of_image i) c.who) (image_at_top_is_told c.log) ∙ here in
      let told_is = unused_places_after_entries c.log.image (c.log.start + 1) c.log.entries (omega arith) used in
      least_taken_le_own_taken reports c (top_of_log c.log) to used joins low high (omega arith) at (member_has_life_of_row (image_of_log c.log) c.who told_is here) own least);
}

-- a name's own report
own_reported : (reports : ℕ → Report) (who stored taken : ℕ) → (reports who).taken ≤ taken
    → (if who == who then record { stored = max (reports who).stored stored; taken = max (reports who).taken taken } else reports who).taken ≤ taken
own_reported reports who stored taken h = let t : (who == who) ≡ true = grind (arith, nat_tests) in rw t (omega arith)

lead_fronts : (m : Node) → LeastTakenLeOwn m → NodeTrimFronts m → NodeTrimFronts (refresh_as_sequencer m)
unfolding refresh_as_sequencer raise_own_report tell_accept_front advance_with_reports trim_to_least_taken raise_accepted_to_told pass_over_below_join
lead_fronts m leads h =
    let c = (refresh_as_sequencer m).core in
    let base = h.base in let kept = h.kept in let given = h.given in let accepted = h.accepted in
    let first = own_reported m.reports m.core.who (top m) m.core.taken h.reported in
    let up = taken_le_skipped_taken m.core.taken c.acc m.core.start in
    let low = skipped_taken_le_accepted m.core.taken c.acc m.core.start (omega arith) in
    let second = own_reported (raise_own_report (record { core = m.core; reports = m.reports })).reports m.core.who (top m) c.taken (omega arith) in
    record {
      used = h.used;
      joins = h.joins;
      kept = base_after_keeps_lower_bound m.core.log.start m.core.base _ h.kept;
      base = base_after_is_within c.taken m.core.base _ (omega arith)
          (λ to is. leads.least (refresh_as_sequencer m).reports (record c { base = m.core.base }) to refl refl (omega arith) (omega arith) second is);
      given = low;
      accepted = omega arith;
      reported = second;
    }

advance_fronts : (m : Node) → NodeTrimFronts m → NodeTrimFronts (advance_node m)
unfolding raise_accepted_to_told pass_over_below_join
advance_fronts m h =
    let c = (advance_node m).core in
    let base = h.base in let kept = h.kept in let given = h.given in let accepted = h.accepted in let reported = h.reported in
    let up = taken_le_skipped_taken m.core.taken c.acc m.core.start in
    record {
      used = h.used;
      joins = h.joins;
      kept = h.kept;
      base = omega arith;
      given = skipped_taken_le_accepted m.core.taken c.acc m.core.start (omega arith);
      accepted = omega arith;
      reported = omega arith;
    }

pub refresh_keeps_trim_fronts : (m : Node) → (is_sequencer m ≡ true → LeastTakenLeOwn m) → NodeTrimFronts m → NodeTrimFronts (refresh m)
unfolding refresh
refresh_keeps_trim_fronts m leads h = split_on_bool (is_sequencer m) (λ t. rw t (lead_fronts m (leads t) h)) (λ f. rw f (advance_fronts m h))

settle_fronts : (m : Node) → NodeTrimFronts m → NodeTrimFronts (settle_waiting_send m)
settle_fronts m h = subst NodeTrimFronts (sym (settle_changes_only_sends m)) h

pub end_refresh_keeps_trim_fronts : (m : Node) → LeastTakenLeOwn m → NodeTrimFronts m → NodeTrimFronts (refresh_at_end m)
unfolding refresh_at_end
end_refresh_keeps_trim_fronts m leads h = settle_fronts (refresh m) (refresh_keeps_trim_fronts m (λ t. leads) h)

-- ---- the last member's own Leave

members_at_last_leave : (image : Image) (n name : ℕ) → 0 < n → length image.rows ≡ 16 → has (members_of_image image) name ≡ true
    → members_of_image (after image n (Leave name)) ≡ set (members_of_image image) (place_of_name name) 0
unfolding after
members_at_last_leave image n name up long member =
    let is = has_member_is_in_row image name long member in
    let alive : ((row_at_place image name).life == life_of_name name) ≡ true = let l = is.is in grind (arith, nat_tests) in
    let none : member_life_of_row (record (row_at_place image name) { left = n }) ≡ 0 = grind (arith, nat_tests) in
    rw alive (map-set member_life_of_row image.rows (place_of_name name) (record (row_at_place image name) { left = n }) ∙ ap (set (members_of_image image) (place_of_name name)) none)

none_least : (f : ℕ → ℕ) (names : List ℕ) (to : ℕ) → size names ≡ 0 → least_of_names f (names_of names) ≡ Some to → ⊥
unfolding least_of_names
none_least f names to none is = let e : None ≡ Some to = sym (ap (least_of_names f) (empty_set_names_nobody names 0 none)) ∙ is in cc

pub last_leave_bounds_least_taken : (m : Node) → NodeTrimFronts m → has (members m) m.core.who ≡ true → nat_lt 0 (size (other_members m)) ≡ false → LeastTakenLeOwn (push_entry m (Leave m.core.who))
unfolding union_of_members_at
last_leave_bounds_least_taken m h member alone =
    let who = m.core.who in
    let e = Leave who in
    let p = push_entry m e in
    let n = top m + 1 in
    let told_is = image_of_pushed_entry m e in
    let used = told_image_is_used m h in
    let used_p = pushed_entry_keeps_trim_fronts m e tt h in
    let high_p : top p ≡ n = simp length-append (omega arith) in
    let members_p : members p ≡ other_members m = ap members_of_image told_is ∙ members_at_last_leave (image_of_node m) n who (omega arith) used.places member
    ∙ sym (ap (λ (b : Bool). if b then set (members m) (place_of_name who) 0 else members m) member) in
    let nobody : size (members p) ≡ 0 = ap size members_p ∙ (let z : size (other_members m) ≡ 0 = grind (arith, nat_tests) in z) in
    let before : has (log_members_at p.core.log (top m)) who ≡ true =
    ap (λ (i : Image). has (members_of_image i) who) (image_at_below_push m.core.log e (top m) (omega arith) ∙ image_at_top_is_told m.core.log) ∙ member in
    let life : (row_at_place_of_image (image_of_node p) (place_of_name who)).life ≡ life_of_name who = ap (λ (i : Image). (row_at_place_of_image i (place_of_name who)).life) told_is
    ∙ life_of_place_after_leave (image_of_node m) n who (place_of_name who) (mod_sixteen_lt who) used ∙ member_has_life_of_row (image_of_node m) who used member in
    record {
      least = λ reports c to log is low high own least. (let used_c : UnusedPlacesHaveNoLife c.log.image = subst (λ (l : Log). UnusedPlacesHaveNoLife l.image) (sym log) used_p.used in
          let joins : JoinsAreNextLives c.log.image (c.log.start + 1) c.log.entries =
          subst (λ (l : Log). JoinsAreNextLives l.image (l.start + 1) l.entries) (sym log) used_p.joins in
          let top_c = ap top_of_log log in
          let there : has (log_members_at c.log (top m)) c.who ≡ true =
          subst (λ (l : Log). has (log_members_at l (top m)) c.who
          ≡ true) (sym log) (subst (λ w. has (log_members_at p.core.log (top m)) w ≡ true) (sym is) before) in
          let row : (row_at_place_of_image (image_of_log c.log) (place_of_name c.who)).life ≡ life_of_name c.who =
          subst (λ (l : Log). (row_at_place_of_image (image_of_log l) (place_of_name c.who)).life
          ≡ life_of_name c.who) (sym log) (subst (λ w. (row_at_place_of_image (image_of_node p) (place_of_name w)).life ≡ life_of_name w) (sym is) life) in
          ⊎_elim
          (λ (below : c.acc < n). least_taken_le_own_taken reports c (top m) to used_c joins low (omega arith) (omega arith) there row own least)
          (λ (all : n ≤ c.acc).
          let none : top_of_log c.log - c.acc ≡ 0 = omega arith in
          let at : c.acc ≡ top_of_log c.log = omega arith in
          let since : members_since_accepted c ≡ members p = ap (union_of_members_at c.log c.acc) none ∙ ap (log_members_at c.log) at ∙ ap members_of_image (image_at_top_is_told c.log)
          ∙ ap (λ (l : Log). members_of_image (image_of_log l)) log in
          let z : size (members_since_accepted c) ≡ 0 = ap size since ∙ nobody in
          absurd (none_least (λ name. (reports name).taken) (members_since_accepted c) to z least))
          (cases_lt c.acc n));
    }
