-- Of every run, that a member's application can take all that it has accepted.
use Rattle.am_step_laws.proofs.Words.{◌≡◌, ℕ, zero, suc, ◌+◌, ◌-◌, ◌<◌, ◌≤◌, ◌==◌, max, min, nat_lt, true, false, if◌then◌else◌, List, [], ◌∷◌}
use Rattle.am_step_laws.proofs.Words.{length, Some, refl, sym, ap, ◌∙◌, subst, arith, split_on_bool, nat_tests, get_or, Entry, Join, Leave}
use Rattle.am_step_laws.proofs.Words.{Outcome, Log, top_of_log}
use Rattle.am_step_laws.proofs.Words.{log_entry_at, top, Rules, Letter, Event, Node, push_entry, is_member, is_sequencer, refresh, refresh_at_end, refresh_as_sequencer}
use Rattle.am_step_laws.proofs.Words.{raise_own_report, tell_accept_front, advance_with_reports, pass_over_below_join, settle_changes_only_sends, step, row, take_row, finish, Plan, plan_without_letters, World, start}
use Rattle.am_step_laws.proofs.Words.{world_with_record}
use Rattle.am_step_laws.proofs.Words.{world_with_step, happens, world_after_events, run, Cause, acting_name, EventHappens, steps, end_refresh_rests_with_list, entry_at_number_of_log, events_have_effects}
use Rattle.std.proofs.lemmas.Option.{slice_get-get_or}
use Rattle.am_base.specs.declared.outcome.Outcome.TheVariants as said
use Rattle.am_base.specs.declared.event.NodeEvent.TheVariants as does
use Rattle.am_node_defs.specs.Cores.{CoreState, raise_accepted_to_told}
use Rattle.am_node_defs.specs.Refresh.{trim_to_least_taken}
use Rattle.am_model.specs.declared.status.Status.TheVariants.{Departed}
use Rattle.am_step_laws.specs.Courses.{EndOfStep, at_end, closing}
use Rattle.am_step_laws.specs.Courses as course
use Rattle.am_step_laws.proofs.Numbers.RunCounts.{number_bounds_hold_in_runs, set_node_keeps_property, founder_or_stranger_has}
use Rattle.am_step_laws.proofs.Trimming.TakenRuns.{trimmed_was_taken_in_runs}
use Rattle.am_repair.specs.Answers.{Gives, AcceptedAreGiven}
use Rattle.am_repair.proofs.Answered.Settled.{front_is_kept_by_end}

-- ---- what a joiner passes over

-- it has passed over what stands before its own Join, as far as it has accepted that
abbrev Passed : CoreState → Type 0
Passed core = core.taken < core.acc → core.start - 1 ≤ core.taken

passed_by : (taken acc start : ℕ)
    → (if nat_lt taken (start - 1) then max taken (min acc (start - 1)) else taken) < acc
    → start - 1 ≤ (if nat_lt taken (start - 1) then max taken (min acc (start - 1)) else taken)
passed_by taken acc start low = split_on_bool (nat_lt taken (start - 1))
    (λ t. let l = rw t at low in rw t (omega arith))
    (λ f. let l = rw f at low in rw f (grind (arith, nat_tests)))

passed_refresh : (m : Node) → Passed (refresh m).core
unfolding refresh refresh_as_sequencer raise_own_report tell_accept_front advance_with_reports trim_to_least_taken raise_accepted_to_told pass_over_below_join
passed_refresh m = split_on_bool (is_sequencer m)
    (λ t. rw t (λ low. passed_by m.core.taken _ m.core.start low))
    (λ f. rw f (λ low. passed_by m.core.taken _ m.core.start low))

passed_end : (m : Node) → Passed (refresh_at_end m).core
unfolding refresh_at_end
passed_end m = subst Passed (sym (ap (λ (x : Node). x.core) (settle_changes_only_sends (refresh m)))) (passed_refresh m)

ended : {c : Cause} {o : Outcome} {letters : List Letter} (m n : Node) → EndOfStep c o m letters n → Passed n.core
ended m n (at_end {x = x} d) = passed_end x
ended m n (course.let_go s v number is heard leaves) = passed_end (record m { status = Departed })
ended m n (closing {x = x} event is course_ leads leaves alone room view) = passed_end (push_entry x (Leave x.core.who))

abbrev AllPassed : World → Type 0
AllPassed w = (name : ℕ) → Passed (w.nodes name).core

passed_after : (w : World) (e : Event) (v : World) → EventHappens w e v → AllPassed w → AllPassed v
unfolding world_with_record world_with_step
passed_after w e v (steps c s runs cause effect) h =
    set_node_keeps_property (λ (x : Node). Passed x.core) w.nodes (acting_name w e) s.node h (ended (w.nodes (acting_name w e)) s.node effect.ending)
passed_after w e v _ h = h

passed_happen : (w : World) (events : List Event) → AllPassed w → AllPassed (world_after_events w events)
unfolding world_after_events
passed_happen w [] h = h
passed_happen w (e ∷ es) h = passed_happen (happens w e) es (passed_after w e (happens w e) (events_have_effects w e) h)

passed_start : (rules : Rules) → AllPassed (start rules)
passed_start rules name = founder_or_stranger_has (λ (x : Node). Passed x.core) rules name (λ low. omega arith) (λ low. omega arith)

-- ---- one entry after another

-- so many entries are there, and accepted
record Hands (last many : ℕ) (m : Node) : Type 0 where
  member : is_member m.status ≡ true
  enough : m.core.taken + many ≤ last
  accepted : last ≤ m.core.acc
  stored : last ≤ top m
  from : m.core.log.start ≤ m.core.taken
  passed : Passed m.core

took : (m : Node) (e : Entry) → is_member m.status ≡ true → (m.core.taken == m.core.acc) ≡ false → log_entry_at m.core.log (m.core.taken + 1) ≡ Some e
    → row m does.Take ≡ plan_without_letters (record m { core = record (m.core) { taken = m.core.taken + 1 } }) (said.Took (m.core.taken + 1) e)
unfolding row take_row
took m e member some there = rw (member, some, there) refl

hands_on : (last many : ℕ) (m : Node) → Hands last (suc many) m
    → Hands last many (refresh_at_end (record m { core = record (m.core) { taken = m.core.taken + 1 } }))
hands_on last many m h =
    let x = record m { core = record (m.core) { taken = m.core.taken + 1 } } in
    let r = end_refresh_rests_with_list x in
    let f = (front_is_kept_by_end x).0 in
    let enough = h.enough in
    let accepted = h.accepted in
    let from = h.from in
    let low : m.core.start - 1 ≤ m.core.taken = h.passed (omega arith) in
    let up = r.rests.taken in
    let acc = r.rests.acc in
    let starts = ap (λ (l : Log). l.start) r.log in
    record {
      member = ap is_member r.rests.status ∙ h.member;
      enough = omega arith;
      accepted = omega arith;
      stored = subst (λ (l : Log). last ≤ top_of_log l) (sym r.log) h.stored;
      from = omega arith;
      passed = passed_end x;
    }

gives : (last many : ℕ) (m : Node) → Hands last many m → Gives many m
unfolding Gives step finish
gives last zero m h = tt
gives last (suc many) m h =
    let enough = h.enough in
    let accepted = h.accepted in
    let stored = h.stored in
    let from = h.from in
    let k = m.core.taken - m.core.log.start in
    let within : k < length m.core.log.entries = omega arith in
    let e = get_or m.core.log.entries k (Join 0) in
    let there : log_entry_at m.core.log (m.core.taken + 1) ≡ Some e =
    entry_at_number_of_log m.core.log (m.core.taken + 1) k (omega arith) ∙ slice_get-get_or m.core.log.entries k (Join 0) within in
    let some : (m.core.taken == m.core.acc) ≡ false = grind (arith, nat_tests) in
    let is = took m e h.member some there in
    let x = record m { core = record (m.core) { taken = m.core.taken + 1 } } in
    let p = plan_without_letters x (said.Took (m.core.taken + 1) e) in
    let answer : (step m does.Take).outcome ≡ said.Took (m.core.taken + 1) e = ap (λ (q : Plan). (finish m q).outcome) is in
    let node : (step m does.Take).node ≡ refresh_at_end x = ap (λ (q : Plan). (finish m q).node) is in
    ((e, there, answer), subst (Gives many) (sym node) (gives last many (refresh_at_end x) (hands_on last many m h)))

pub accepted_are_given : AcceptedAreGiven
accepted_are_given rules events name may few many member enough =
    let n = (number_bounds_hold_in_runs rules events).each name in
    let accepted = n.accepted in
    let kept = n.kept in
    let trims = trimmed_was_taken_in_runs rules events name may few in
    gives ((run rules events).nodes name).core.acc many ((run rules events).nodes name) (record {
      member = member;
      enough = enough;
      accepted = omega arith;
      stored = accepted;
      from = omega arith;
      passed = passed_happen (start rules) events (passed_start rules) name;
    })
