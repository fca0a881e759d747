-- While a schedule runs, a member that has stored and accepted all that its sequencer had has settled all of its own sends that stand there.
use Rattle.am_repair.proofs.RepairWords.{◌≡◌, ◌≢◌, inl, inr, either, ℕ, zero, suc, ◌+◌, ◌-◌, ◌<◌, ◌≤◌, ◌==◌, ◌&&◌, ◌||◌, not, nat_lt, true, false, List, [], ◌∷◌, Some, None, refl, sym, ap, ◌∙◌, subst, arith}
use Rattle.am_repair.proofs.RepairWords.{split_on_bool, eqb-true, eq-eqb, nat_tests, cases_lt, take, Row, Image, Log, top_of_log, log_entry_at, log_image_at, members_of_image, Data, Entry, Rules, MayFound, has}
use Rattle.am_repair.proofs.RepairWords.{place_of_name, life_of_name, Event, Outcome, Node, top, image_of_node, step, World, run, happens, world_with_step, image_at_top_is_told, image_after_entries, fits}
use Rattle.am_repair.proofs.RepairWords.{has_log_by_status, is_member, both_of_and, Repair, acting_name, refresh_rests_with_list, end_refresh_rests_with_list, settle_changes_only_sends, push_entry, Leave, events_have_effects}
use Rattle.am_step_laws.proofs.Words.{find, item_of_index_has_property, entry_at_number_of_log, OwnSend, Change, Changes, changed, unchanged, refreshes, settles, begins_list, looks, asks_to_join, departs, closes, Cause, LooksAtBallot, Ballot}
use Rattle.am_step_laws.proofs.Words.{BallotVerdict, finds_itself_out, EventHappens, steps, world_with_record, is_asking_status, asking_status_has_no_log, member_status_has_log, row, done_row, finish, blank_row, row_at_place, row_of_name, member_life_of_row, min, Option}
use Rattle.std.specs.Prelude.{is_none, All}
use Rattle.am_base.specs.declared.event.NodeEvent.TheVariants as does
use Rattle.am_base.specs.declared.outcome.Outcome.TheVariants as said
use Rattle.am_node_defs.specs.Sends as own
use Rattle.am_node_defs.specs.Sends.{unsettled_sends_are_in_line, next_unsettled_request, is_unsettled, send_has_request}
use Rattle.am_node_defs.proofs.Ends.{image_at_next_number}
use Rattle.am_model.specs.Node.{own_row}
use Rattle.am_model_laws.specs.Laws.{RowStep}
use Rattle.am_model_laws.proofs.Rows.{rows_of_places_go_on}
use Rattle.am_repair.proofs.RepairLists.{entry_at_is_within_log}
use Rattle.am_repair.proofs.Fine.{member_of_repair_is_small, world_grows_by_own_event}
use Rattle.am_repair.proofs.Answered.Outs.{EntryHasGoneOut, greatest_requests_gone_out, run_sends_have_gone_out}
use Rattle.am_repair.proofs.Answered.AnsweredRuns.{accepted_are_answered}
use Rattle.std.proofs.Math.ListN.{get_or-map}
use Rattle.am_repair_takes.specs.Taking.{IsTaking, ours, takes_one}
use Rattle.am_repair_takes.specs.Quiet.{GoesOnBySends, raised}
use Rattle.am_repair_takes.proofs.Calm.{take_goes}
use Rattle.am_repair_takes.proofs.Given.{entry_there, member_status}
use Rattle.am_repair_takes.proofs.Quiet.{QuietRun, fine_of}
use Rattle.am_repair_takes.proofs.OwnSends.{LastStands, run_own_sends_stand}
use Rattle.am_repair_takes.proofs.RoundNumbers.{SettlesRows}

-- ---- a member's row

pub record IsMember (image : Image) (name : ℕ) : Type 0 where
  pub joined : 0 < (row_at_place image name).joined
  pub left : (row_at_place image name).left ≡ 0
  pub life : (row_at_place image name).life ≡ life_of_name name

member_tests : (r : Row) (life : ℕ) → 0 < life → (member_life_of_row r == life) ≡ true → (0 < r.joined) × (r.left ≡ 0) × (r.life ≡ life)
member_tests r life low h = split_on_bool (nat_lt 0 r.joined && (r.left == 0))
    (λ t. let b = both_of_and (nat_lt 0 r.joined) (r.left == 0) t in
    let z = rw t at h in
    (grind (arith, nat_tests), grind (arith, nat_tests), grind (arith, nat_tests)))
    (λ f. let z = rw f at h in absurd (grind (arith, nat_tests)))

pub member_is : (image : Image) (name : ℕ) → has (members_of_image image) name ≡ true → IsMember image name
member_is image name h =
    let e = get_or-map member_life_of_row image.rows (place_of_name name) blank_row in
    let t : (member_life_of_row (row_at_place image name) == life_of_name name) ≡ true = ap (λ n. n == life_of_name name) (sym e) ∙ h in
    let m = member_tests (row_at_place image name) (life_of_name name) (omega arith) t in
    record { joined = m.0; left = m.1; life = m.2 }

-- who is a member before an entry that fits, and after it, joined where it had
joined_after : (n : ℕ) (r s : Row) (life : ℕ) → 0 < n → r.life ≡ life → s.life ≡ life → s.left ≡ 0 → RowStep n r s → s.joined ≡ r.joined
joined_after n r s life some was is left (inl (inl e)) = ap (λ (x : Row). x.joined) e
joined_after n r s life some was is left (inl (inr e)) = ap (λ (x : Row). x.joined) e
joined_after n r s life some was is left (inr (inl e)) = absurd (let z = ap (λ (x : Row). x.left) e.1 in omega arith)
joined_after n r s life some was is left (inr (inr e)) = absurd (let z = ap (λ (x : Row). x.life) e.3 in let low = e.1 in omega arith)

-- while a list goes on by sends of its members, each joined where it had
joined_next : (set : List ℕ) (high : ℕ) (log : Log) (name k : ℕ) → GoesOnBySends set high log → has set name ≡ true → high ≤ k → k < top_of_log log
    → (row_at_place (log_image_at log (k + 1)) name).joined ≡ (row_at_place (log_image_at log k) name).joined
joined_next set high log name k goes there low within = either (cases_lt k log.start)
    (λ short.
    let same : k + 1 - log.start ≡ k - log.start = omega arith in
    ap (λ d. (row_at_place (image_after_entries log.image (log.start + 1) (take d log.entries)) name).joined) same)
    (λ far.
    let e = entry_there log (k + 1) (omega arith) (omega arith) in
    let before : k + 1 - 1 ≡ k = omega arith in
    let fit : fits (log_image_at log k) e.0 ≡ true = ap (λ j. fits (log_image_at log j) e.0) (sym before) ∙ goes.fit_ (k + 1) e.0 e.1 in
    let was = member_is (log_image_at log k) name (ap (λ s. has s name) (goes.members_ k low (omega arith)) ∙ there) in
    let is = member_is (log_image_at log (k + 1)) name (ap (λ s. has s name) (goes.members_ (k + 1) (omega arith) (omega arith)) ∙ there) in
    let next = image_at_next_number log k e.0 far e.1 in
    joined_after (k + 1) (row_at_place (log_image_at log k) name) (row_at_place (log_image_at log (k + 1)) name) (life_of_name name) (omega arith) was.life is.life is.left
    (subst (λ (i : Image). RowStep (k + 1) (row_at_place (log_image_at log k) name) (row_at_place i name)) (sym next)
    (rows_of_places_go_on (log_image_at log k) (k + 1) e.0 name fit was.joined)))

joined_up : (set : List ℕ) (high : ℕ) (log : Log) (name more : ℕ) → GoesOnBySends set high log → has set name ≡ true → high + more ≤ top_of_log log
    → (row_at_place (log_image_at log (high + more)) name).joined ≡ (row_at_place (log_image_at log high) name).joined
joined_up set high log name zero goes there within = let same : high + zero ≡ high = omega arith in ap (λ k. (row_at_place (log_image_at log k) name).joined) same
joined_up set high log name (suc more) goes there within =
    let same : high + suc more ≡ high + more + 1 = omega arith in
    ap (λ k. (row_at_place (log_image_at log k) name).joined) same ∙ joined_next set high log name (high + more) goes there (omega arith) (omega arith)
    ∙ joined_up set high log name more goes there (omega arith)

pub joined_stays : (set : List ℕ) (high : ℕ) (log : Log) (name k : ℕ) → GoesOnBySends set high log → has set name ≡ true → high ≤ k → k ≤ top_of_log log
    → (row_at_place (log_image_at log k) name).joined ≡ (row_at_place (log_image_at log high) name).joined
joined_stays set high log name k goes there low within =
    let same : high + (k - high) ≡ k = omega arith in
    subst (λ j. (row_at_place (log_image_at log j) name).joined ≡ (row_at_place (log_image_at log high) name).joined) same
    (joined_up set high log name (k - high) goes there (omega arith))

-- ---- where a list begins

-- once there is a list it begins where it began
pub record BeginsAsBefore (m n : Node) : Type 0 where
  pub start : n.core.start ≡ m.core.start
  pub log : has_log_by_status n.status ≡ true

looked_before : (m : Node) (b : Ballot) (v : BallotVerdict) → has_log_by_status m.status ≡ true → LooksAtBallot m b v → BeginsAsBefore m v.node
looked_before m b v has_ (finds_itself_out x) = record { start = refl; log = has_ }
looked_before m b v has_ _ = record { start = refl; log = has_ }

begins_before : {c : Cause} {o : Outcome} (m n : Node) → has_log_by_status m.status ≡ true → Change c o m n → BeginsAsBefore m n
begins_before m n has_ refreshes = let r = refresh_rests_with_list m in record { start = r.begins; log = ap has_log_by_status r.rests.status ∙ has_ }
begins_before m n has_ settles =
    let same = settle_changes_only_sends m in
    record { start = ap (λ (x : Node). x.core.start) same; log = ap (λ (x : Node). has_log_by_status x.status) same ∙ has_ }
begins_before m n has_ (begins_list s v base join image is says may) =
    let asks = (both_of_and (not (s == m.core.who)) (is_member m.status || is_asking_status m.status) may.asks).1 in
    let none = asking_status_has_no_log m.status (rw may.no_member at asks) in
    absurd (let z : true ≡ false = sym has_ ∙ none in cc)
begins_before m n has_ (departs s v number is heard leaves) = record { start = refl; log = refl }
begins_before m n has_ (looks b verdict over why look is) = looked_before m b verdict has_ look
begins_before m n has_ (asks_to_join is was) = absurd (let z = ap has_log_by_status was in cc)
begins_before m n has_ (closes leads leaves alone room) =
    let r = end_refresh_rests_with_list (push_entry m (Leave m.core.who)) in record { start = r.begins; log = refl }
begins_before m n has_ _ = record { start = refl; log = has_ }

pub changes_before : {c : Cause} {o : Outcome} (m n : Node) → has_log_by_status m.status ≡ true → Changes c o m n → BeginsAsBefore m n
changes_before m n has_ unchanged = record { start = refl; log = has_ }
changes_before m n has_ (changed {n = x} one more) =
    let a = begins_before m x has_ one in
    let b = changes_before x n a.log more in
    record { start = b.start ∙ a.start; log = b.log }

start_by : (w : World) (e : Event) (v : World) (name : ℕ) → EventHappens w e v → has_log_by_status (w.nodes name).status ≡ true
    → (v.nodes name).core.start ≡ (w.nodes name).core.start
unfolding world_with_record world_with_step
start_by w e v name (steps c s runs cause effect) has_ = split_on_bool (name == acting_name w e)
    (λ t.
    let same = eqb-true name (acting_name w e) t in
    let here = changes_before (w.nodes (acting_name w e)) s.node (subst (λ j. has_log_by_status (w.nodes j).status ≡ true) same has_) effect.changes in
    rw t (here.start ∙ ap (λ j. (w.nodes j).core.start) (sym same)))
    (λ f. rw f refl)
start_by w e v name _ has_ = refl

-- ---- what stays so

-- by the sequencer's list each member joined where its own list begins, or later
unfoldable pub Starts : Repair → World → Type 0
Starts r u = (name : ℕ) → has r.members name ≡ true → (u.nodes name).core.start ≤ (row_at_place (log_image_at (u.nodes r.by).core.log r.high) name).joined

starts_stay : (rules : Rules) (r : Repair) (last : ℕ → ℕ) (total : ℕ) (u : World) (e : Event) → IsTaking r e → QuietRun rules r last total u → Starts r u
    → Starts r (happens u e)
unfolding Starts
starts_stay rules r last total u e is h s name there =
    let fine = fine_of rules r last total u h in
    let member = member_status r rules u name fine there in
    let same = start_by u e (happens u e) name (events_have_effects u e) (member_status_has_log (u.nodes name).status member) in
    let row = ap (λ (i : Image). (row_at_place i name).joined) (grown u e is h) in
    let low = s name there in
    omega arith
  where
    grown : (u : World) (e : Event) → IsTaking r e → QuietRun rules r last total u
        → log_image_at ((happens u e).nodes r.by).core.log r.high ≡ log_image_at (u.nodes r.by).core.log r.high
    grown u e (ours e_ is) h = (world_grows_by_own_event rules r u e is (fine_of rules r last total u h)).log.image r.high h.calm.leads.high
    grown u e (takes_one place) h = (take_goes rules r u place (fine_of rules r last total u h)).1.log.image r.high h.calm.leads.high

-- ---- what that settles

-- the request that waits is pending
waits_pending : (last : ℕ) (q : List OwnSend) → unsettled_sends_are_in_line last q ≡ true → next_unsettled_request last q ≤ last
    → (s : OwnSend) × (find (send_has_request (next_unsettled_request last q)) q ≡ Some s) × (s.number ≡ None)
waits_pending last [] line low = absurd (omega arith)
waits_pending last (x ∷ xs) line low = split_on_bool (is_unsettled x)
    (λ t.
    let here : send_has_request x.req x ≡ true = grind (arith, nat_tests) in
    let next : next_unsettled_request last (x ∷ xs) ≡ x.req = rw t refl in
    let at : find (send_has_request x.req) (x ∷ xs) ≡ Some x = rw here refl in
    subst (λ n. (s : OwnSend) × (find (send_has_request n) (x ∷ xs) ≡ Some s) × (s.number ≡ None)) (sym next) (x, at, unsettled_has_none x t))
    (λ f.
    let l = rw f at line in
    let rest : unsettled_sends_are_in_line last xs ≡ true = grind (arith, nat_tests) in
    let less : nat_lt x.req (next_unsettled_request last xs) ≡ true = grind (arith, nat_tests) in
    let other : send_has_request (next_unsettled_request last xs) x ≡ false = grind (arith, nat_tests) in
    let under : next_unsettled_request last xs ≤ last = rw f at low in
    let found = waits_pending last xs rest under in
    let next : next_unsettled_request last (x ∷ xs) ≡ next_unsettled_request last xs = rw f refl in
    let at : find (send_has_request (next_unsettled_request last xs)) (x ∷ xs) ≡ Some found.0 = rw other found.1 in
    subst (λ n. (s : OwnSend) × (find (send_has_request n) (x ∷ xs) ≡ Some s) × (s.number ≡ None)) (sym next) (found.0, at, found.2))
  where
    none_by : (number : Option ℕ) → is_none number ≡ true → number ≡ None
    none_by None t = refl
    none_by (Some k) t = absurd (cc)

    unsettled_has_none : (s : OwnSend) → is_unsettled s ≡ true → s.number ≡ None
    unsettled_has_none s t = none_by s.number t

-- what isn't pending of what has gone out is settled
settled_by_answer : (m : Node) (req : ℕ) → unsettled_sends_are_in_line m.sends.last m.sends.queue ≡ true → req ≤ min m.sends.last (own.next_request m.sends)
    → ((step m (does.Done req)).outcome ≢ said.Pending req) → req < own.next_request m.sends
unfolding step row done_row finish
settled_by_answer m req line out answered = either (cases_lt req (own.next_request m.sends))
    (λ low. low)
    (λ high. absurd (
    let same : own.next_request m.sends ≡ req = omega arith in
    let w = waits_pending m.sends.last m.sends.queue line (omega arith) in
    let found : find (send_has_request req) m.sends.queue ≡ Some w.0 = ap (λ k. find (send_has_request k) m.sends.queue) (sym same) ∙ w.1 in
    answered (ap (own.outcome_of_done req) found ∙ ap (own.outcome_of_collecting req) w.2)))

-- an entry of a list is one of its entries
entry_has : (P : Entry → Type 0) (log : Log) (number : ℕ) (e : Entry) → All P log.entries → log_entry_at log number ≡ Some e → P e
entry_has P log number e h is =
    let above = (entry_at_is_within_log log number e is).0 in
    let k = number - log.start - 1 in
    item_of_index_has_property P log.entries k e h (sym (entry_at_number_of_log log number k (omega arith)) ∙ is)

run_settles : (rules : Rules) (events : List Event) (name : ℕ) → MayFound rules → name < 256 → (let m = (run rules events).nodes name in m.core.who ≡ name
    → m.core.start ≤ (own_row m).joined → top m ≤ m.core.acc → (own_row m).last < own.next_request m.sends)
run_settles rules events name may few who start all =
    let m = (run rules events).nodes name in
    let k = run_own_sends_stand rules events may name few in
    let first = k.first in
    let out = run_sends_have_gone_out rules events may in
    either k.row.stands
    (λ none. omega arith)
    (λ (l : LastStands m.core.who (own_row m) m.core.log).
    let above = l.2 in
    let within = (entry_at_is_within_log m.core.log l.0 _ l.3).1 in
    let answered = accepted_are_answered rules events name may l.0 (own_row m).last l.1 (omega arith) (omega arith) l.3 in
    let gone : (own_row m).last ≤ greatest_requests_gone_out (run rules events) m.core.who = entry_has (EntryHasGoneOut (greatest_requests_gone_out (run rules events))) m.core.log l.0
    (Data m.core.who (own_row m).last l.1) (out.each name).entries l.3 in
    settled_by_answer m (own_row m).last (out.lined name).line (subst (λ i. (own_row m).last ≤ greatest_requests_gone_out (run rules events) i) who gone) answered)

-- a member's list tells what the sequencer's tells up to there
pub told_there : (rules : Rules) (r : Repair) (last : ℕ → ℕ) (total : ℕ) (u : World) (name : ℕ) → QuietRun rules r last total u → has r.members name ≡ true
    → (image_of_node (u.nodes name) ≡ log_image_at (u.nodes r.by).core.log (top (u.nodes name))) × (top (u.nodes name) ≤ top (u.nodes r.by))
told_there rules r last total u name h there = split_on_bool (name == r.by)
    (λ t. let same = eqb-true name r.by t in
    subst (λ i. (image_of_node (u.nodes i) ≡ log_image_at (u.nodes r.by).core.log (top (u.nodes i))) × (top (u.nodes i) ≤ top (u.nodes r.by))) (sym same)
    (sym (image_at_top_is_told (u.nodes r.by).core.log), omega arith))
    (λ f. let g = h.calm.follows name there f in (g.told_, g.within))

pub starts_settle : (rules : Rules) (r : Repair) (last : ℕ → ℕ) (total : ℕ) (u : World) → QuietRun rules r last total u → Starts r u → (name : ℕ) → has r.members name ≡ true
    → r.high ≤ top (u.nodes name) → top (u.nodes name) ≤ (u.nodes name).core.acc → (own_row (u.nodes name)).last < own.next_request (u.nodes name).sends
unfolding Starts
starts_settle rules r last total u h s name there far all =
    let m = u.nodes name in
    let log = (u.nodes r.by).core.log in
    let fine = fine_of rules r last total u h in
    let few = member_of_repair_is_small rules r u name fine there in
    let told_ = told_there rules r last total u name h there in
    let within = told_.1 in
    let who = h.calm.who name in
    let is = member_is (log_image_at log (top m)) name (ap (λ x. has x name) (h.list.members_ (top m) far within) ∙ there) in
    let life : ((row_at_place (log_image_at log (top m)) name).life == life_of_name name) ≡ true =
    eq-eqb (row_at_place (log_image_at log (top m)) name).life (life_of_name name) is.life in
    let own_ : (own_row m).joined ≡ (row_at_place (log_image_at log (top m)) name).joined = ap (λ k. (row_of_name (image_of_node m) k).joined) who
    ∙ ap (λ (i : Image). (row_of_name i name).joined) told_.0 ∙ rw life refl in
    let stays_ = joined_stays r.members r.high log name (top m) h.list there far within in
    let low = s name there in
    let start : m.core.start ≤ (own_row m).joined = omega arith in
    settles_in u h.run_ few who start all
  where
    settles_in : (v : World) → v ≡ run rules h.events → name < 256 → (v.nodes name).core.who ≡ name → (v.nodes name).core.start ≤ (own_row (v.nodes name)).joined
        → top (v.nodes name) ≤ (v.nodes name).core.acc → (own_row (v.nodes name)).last < own.next_request (v.nodes name).sends
    settles_in v is few who start all =
        subst (λ (x : World). (x.nodes name).core.who ≡ name → (x.nodes name).core.start ≤ (own_row (x.nodes name)).joined
        → top (x.nodes name) ≤ (x.nodes name).core.acc → (own_row (x.nodes name)).last < own.next_request (x.nodes name).sends) (sym is)
        (run_settles rules h.events name h.may few) who start all

pub starts_settle_rows : (rules : Rules) (r : Repair) (last : ℕ → ℕ) (total : ℕ) → SettlesRows rules r last total (Starts r)
starts_settle_rows rules r last total = record {
  stays = starts_stay rules r last total;
  gives = starts_settle rules r last total;
}

-- and so it is for each higher number that the sequencer has reached
pub starts_raised : (rules : Rules) (r : Repair) (last : ℕ → ℕ) (total high : ℕ) (w : World) → QuietRun rules r last total w → r.high ≤ high
    → high ≤ top (w.nodes r.by) → Starts r w → Starts (raised r w high) w
unfolding Starts
starts_raised rules r last total high w h low within s name there =
    let same = joined_stays r.members r.high (w.nodes r.by).core.log name high h.list there low within in
    let start = s name there in
    omega arith
