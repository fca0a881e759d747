-- What a group of processes does is a run.
use Rattle.am_lawful_runs.proofs.Words.{append-nil, append_assoc, runs_go_on, one_record_each, eqb-true, has_departed}
use Rattle.am_step_laws.proofs.Words.{◌≡◌, ℕ, ◌+◌, ◌==◌, ◌||◌, true, false, if◌then◌else◌, List, [], ◌∷◌, ◌++◌, length, Option, Some}
use Rattle.am_step_laws.proofs.Words.{None}
use Rattle.am_step_laws.proofs.Words.{refl, sym, ap, ◌∙◌, subst, arith, split_on_bool, All-nil, All-cons, All-append, Rules, MayFound, place_of_name, NodeEvent}
use Rattle.am_step_laws.proofs.Words.{Act, Event, map_with_value, step, World, start, current, is_stopped, world_with_record}
use Rattle.am_step_laws.proofs.Words.{world_with_step}
use Rattle.am_step_laws.proofs.Words.{world_after_act, happens, world_after_events, run, spelled_packet_is_heard, cut_packet_whole_or_refused, BodyIsWithinLimit}
use Rattle.am_base.specs.declared.outcome.Outcome.TheVariants as said
use Rattle.am_group.specs.declared.event.Act.TheVariants as act
use Rattle.am_group.specs.declared.event.Record.{Record}
use Rattle.am_model.specs.Nodes.{HasNumbersLeft}
use Rattle.am_group_defs.specs.World.{record_of, world_after_return, world_with_next_life}
use Rattle.am_step_laws.proofs.Watching.Fresh.{place_of_name_at}
use Rattle.am_safety.specs.Parts.{NodeStep, own_event, HasNumbersAt, HaveNumbers, StaysInRange, step_of_record, part_at, steps_of_records}
use Rattle.am_safety.specs.Processes as group
use Rattle.am_safety.specs.Processes.{Processes, MayBeGiven, send, done, take_, join, state, leave, reset, ask, tick, give_up, hear_some, Goes, acts, stops}
use Rattle.am_safety.specs.Processes.{returns, Came, begins, goes_on, IsRunOf, ProcessesMakeRuns}
use Rattle.am_safety.proofs.Ranges.{run_stays_within_numbers}
use Rattle.am_safety.proofs.RangeBytes.{LettersHoldPackets, limited_world_holds_packets}

-- ---- parts

-- what an event more adds
parts_push : (name : ℕ) (w : World) (events : List Event) (e : Event) (records : List Record) (r : Record) → length records ≡ length events
    → steps_of_records name w (events ++ e ∷ []) (records ++ r ∷ []) ≡ steps_of_records name w events records ++ part_at name (world_after_events w events) e r
unfolding steps_of_records world_after_events
parts_push name w [] e [] r long = append-nil (part_at name w e r)
parts_push name w [] e (x ∷ records) r long = absurd (omega arith)
parts_push name w (y ∷ events) e [] r long = absurd (omega arith)
parts_push name w (y ∷ events) e (x ∷ records) r long =
    let rest = parts_push name (happens w y) events e records r (omega arith) in
    ap (λ l. part_at name w y x ++ l) rest ∙ sym (append_assoc (part_at name w y x) (steps_of_records name (happens w y) events records) _)

numbers_push : (w : World) (events : List Event) (e : Event) → HaveNumbers w events → HasNumbersAt (world_after_events w events) e → HaveNumbers w (events ++ e ∷ [])
unfolding world_after_events HaveNumbers
numbers_push w [] e h now = (now, tt)
numbers_push w (x ∷ events) e h now = (h.0, numbers_push (happens w x) events e h.1 now)

-- ---- a run of processes

-- the processes of a world, with what they did
abbrev processes : World → (ℕ → List NodeStep) → Processes
processes w parts = record { lives = w.lives; nodes = w.nodes; parts = parts; stopped = w.stopped; letters = w.letters }

abbrev parts_by : Rules → List Event → ℕ → List NodeStep
parts_by rules events name = steps_of_records name (start rules) events (run rules events).records

record Follows (rules : Rules) (p : Processes) : Type 0 where
  events : List Event
  range : StaysInRange rules events
  same : processes (run rules events) (parts_by rules events) ≡ p

-- with what an event more adds
abbrev more_parts : (ℕ → List NodeStep) → ℕ → List NodeStep → ℕ → List NodeStep
more_parts parts name more other = parts other ++ (if other == name then more else [])

followed : (rules : Rules) (events : List Event) (e : Event) (v : World) (r : Record) (own : Option NodeEvent) → StaysInRange rules events
    → BodyIsWithinLimit e.act → HasNumbersAt (run rules events) e → happens (run rules events) e ≡ v → v.records ≡ (run rules events).records ++ r ∷ []
    → own_event (run rules events) (current (run rules events) (place_of_name e.node)) e.act ≡ own
    → Follows rules (processes v (more_parts (parts_by rules events) (current (run rules events) (place_of_name e.node)) (step_of_record r own)))
unfolding world_after_events
followed rules events e v r own range body numbers is records owns =
    let w = run rules events in
    let world : run rules (events ++ e ∷ []) ≡ v = runs_go_on (start rules) events (e ∷ []) ∙ is in
    let long : length w.records ≡ length events = one_record_each rules events in
    let by : (other : ℕ) → parts_by rules (events ++ e ∷ []) other
    ≡ more_parts (parts_by rules events) (current w (place_of_name e.node)) (step_of_record r own) other = λ other.
    ap (steps_of_records other (start rules) (events ++ e ∷ [])) (ap (λ (u : World). u.records) world ∙ records)
    ∙ parts_push other (start rules) events e w.records r long
    ∙ ap (λ o. parts_by rules events other ++ (if other == current w (place_of_name e.node) then step_of_record r o else [])) owns in
    record {
      events = events ++ e ∷ [];
      range = record {
        founds = range.founds;
        bodies = All-append (λ (x : Event). BodyIsWithinLimit x.act) events (e ∷ []) range.bodies
            (All-cons (λ (x : Event). BodyIsWithinLimit x.act) e [] body (All-nil (λ (x : Event). BodyIsWithinLimit x.act)));
        numbers = numbers_push (start rules) events e range.numbers numbers;
      };
      same = λ i. processes (world i) (λ other. by other i);
    }

-- told in another way
with_parts : (rules : Rules) (v : World) (parts others : ℕ → List NodeStep) → parts ≡ others → Follows rules (processes v parts)
    → Follows rules (processes v others)
with_parts rules v parts others is h = record { events = h.events; range = h.range; same = h.same ∙ ap (processes v) is }

-- nothing more
same_parts : (parts : ℕ → List NodeStep) (name : ℕ) → more_parts parts name [] ≡ parts
same_parts parts name = λ i other. by other i
  where
    by : (other : ℕ) → more_parts parts name [] other ≡ parts other
    by other = split_on_bool (other == name) (λ t. rw t (append-nil (parts other))) (λ f. rw f (append-nil (parts other)))

-- one name's part
set_parts : (parts : ℕ → List NodeStep) (name : ℕ) (x : NodeStep) → more_parts parts name (x ∷ []) ≡ map_with_value parts name (parts name ++ x ∷ [])
set_parts parts name x = λ i other. by other i
  where
    by : (other : ℕ) → more_parts parts name (x ∷ []) other ≡ map_with_value parts name (parts name ++ x ∷ []) other
    by other = split_on_bool (other == name)
        (λ t. rw t (ap (λ k. parts k ++ x ∷ []) (eqb-true other name t)))
        (λ f. rw f (append-nil (parts other)))

-- ---- what is given

-- the act of it
record Given (w : World) (place name : ℕ) (what : NodeEvent) : Type 0 where
  asked : Act
  body : BodyIsWithinLimit asked
  own : own_event w name asked ≡ Some what
  is : world_after_act w (record { node = place; act = asked }) name asked ≡ world_with_step w (record { node = place; act = asked }) name (step (w.nodes name) what)

given : (w : World) (parts : ℕ → List NodeStep) (place name : ℕ) (what : NodeEvent) → is_stopped w name ≡ false → LettersHoldPackets w
    → MayBeGiven (processes w parts) name what → Given w place name what
given w parts place name what runs holds (send body few) = record { asked = act.Send body; body = few; own = rw runs refl; is = rw runs refl }
given w parts place name what runs holds (done req) = record { asked = act.Done req; body = tt; own = rw runs refl; is = rw runs refl }
given w parts place name what runs holds take_ = record { asked = act.Take; body = tt; own = rw runs refl; is = rw runs refl }
given w parts place name what runs holds join = record { asked = act.Join; body = tt; own = rw runs refl; is = rw runs refl }
given w parts place name what runs holds state = record { asked = act.State; body = tt; own = rw runs refl; is = rw runs refl }
given w parts place name what runs holds leave = record { asked = act.Leave; body = tt; own = rw runs refl; is = rw runs refl }
given w parts place name what runs holds (reset least resilience) =
    record { asked = act.Reset least resilience; body = tt; own = rw runs refl; is = rw runs refl }
given w parts place name what runs holds (ask round) = record { asked = act.Ask round; body = tt; own = rw runs refl; is = rw runs refl }
given w parts place name what runs holds tick = record { asked = act.Tick; body = tt; own = rw runs refl; is = rw runs refl }
given w parts place name what runs holds (give_up other stopped) =
    record { asked = act.GiveUp other; body = tt; own = rw (runs, stopped) refl; is = rw (runs, stopped) refl }
given w parts place name what runs holds (group.hear number letter there addressed) = record {
  asked = act.Hear number;
  body = tt;
  own = rw (there, addressed, runs) refl;
  is = rw (there, addressed, runs) (ap (world_with_step w (record { node = place; act = act.Hear number }) name)
      (sym (spelled_packet_is_heard (w.nodes name) letter.packet (holds number letter there))));
}
given w parts place name what runs holds (hear_some number keep letter there addressed) = record {
  asked = act.Cut number keep;
  body = tt;
  own = rw (there, addressed, runs) refl;
  is = rw (there, addressed, runs) (ap (world_with_step w (record { node = place; act = act.Cut number keep }) name)
      (sym (cut_packet_whole_or_refused (w.nodes name) letter.packet keep (holds number letter there))));
}

-- ---- one thing more

abbrev here : Rules → List Event → Processes
here rules events = processes (run rules events) (parts_by rules events)

acts_at : (rules : Rules) (events : List Event) (place : ℕ) (what : NodeEvent) → StaysInRange rules events
    → group.process_has_stopped (here rules events) (group.process_name (here rules events) (place_of_name place)) ≡ false
    → HasNumbersLeft ((run rules events).nodes (group.process_name (here rules events) (place_of_name place)))
    → MayBeGiven (here rules events) (group.process_name (here rules events) (place_of_name place)) what
    → Follows rules (group.processes_after_event (here rules events) (group.process_name (here rules events) (place_of_name place)) what)
unfolding happens world_with_step
acts_at rules events place what range runs left may =
    let w = run rules events in
    let name = current w (place_of_name place) in
    let g = given w (parts_by rules events) place name what runs (limited_world_holds_packets rules w (run_stays_within_numbers rules events range)) may in
    let e : Event = record { node = place; act = g.asked } in
    let s = step (w.nodes name) what in
    let all = followed rules events e (world_with_step w e name s) (record_of w e s.outcome s.letters) (Some what) range g.body (λ x is. left) g.is refl g.own in
    with_parts rules (world_with_step w e name s) _ _ (set_parts (parts_by rules events) name (group.process_step (w.nodes name) what)) all

stops_at : (rules : Rules) (events : List Event) (place : ℕ) → StaysInRange rules events
    → group.process_has_stopped (here rules events) (group.process_name (here rules events) (place_of_name place)) ≡ false
    → Follows rules (group.end_process (here rules events) (group.process_name (here rules events) (place_of_name place)))
unfolding happens world_with_record
stops_at rules events place range runs =
    let w = run rules events in
    let name = current w (place_of_name place) in
    let e : Event = record { node = place; act = act.Stop } in
    let v = world_with_record (record w { stopped = w.stopped ++ name ∷ [] }) e said.Stopped in
    let is : happens w e ≡ v = rw runs refl in
    let all = followed rules events e v (record_of w e said.Stopped []) None range tt (λ x own. absurd (cc)) is refl refl in
    with_parts rules v _ _ (same_parts (parts_by rules events) name) all

returns_at : (rules : Rules) (events : List Event) (node place : ℕ) → place ≡ place_of_name (current (run rules events) (place_of_name node)) → StaysInRange rules events
    → (group.process_has_stopped (here rules events) (group.process_name (here rules events) place)
    || has_departed ((run rules events).nodes (group.process_name (here rules events) place)).status) ≡ true
    → ((run rules events).lives place == 16) ≡ false → Follows rules (group.process_lives_on (here rules events) place)
unfolding happens world_with_record
returns_at rules events node place at range gone more =
    let w = run rules events in
    let name = current w (place_of_name node) in
    let e : Event = record { node = node; act = act.Return } in
    let v = world_with_next_life (world_with_record w e (said.Returned (w.lives place + 1))) place in
    let back : world_after_return w e place ≡ v = rw (gone, more) refl in
    let is : happens w e ≡ v = ap (world_after_return w e) (sym at) ∙ back in
    let all = followed rules events e v (record_of w e (said.Returned (w.lives place + 1)) []) None range tt (λ x own. absurd (cc)) is refl refl in
    with_parts rules v _ _ (same_parts (parts_by rules events) name) all

-- ---- all that they do

more : (rules : Rules) (events : List Event) (q : Processes) → StaysInRange rules events → Goes (here rules events) q → Follows rules q
more rules events q range (acts place what low runs left may) =
    let p = here rules events in
    let at : place_of_name place ≡ place = omega arith in
    subst (λ k. Follows rules (group.processes_after_event p (group.process_name p k) what)) at
    (acts_at rules events place what range (subst (λ k. group.process_has_stopped p (group.process_name p k) ≡ false) (sym at) runs)
    (subst (λ k. HasNumbersLeft (p.nodes (group.process_name p k))) (sym at) left) (subst (λ k. MayBeGiven p (group.process_name p k) what) (sym at) may))
more rules events q range (stops place low runs) =
    let p = here rules events in
    let at : place_of_name place ≡ place = omega arith in
    subst (λ k. Follows rules (group.end_process p (group.process_name p k))) at
    (stops_at rules events place range (subst (λ k. group.process_has_stopped p (group.process_name p k) ≡ false) (sym at) runs))
more rules events q range (returns place low gone more_) =
    let w = run rules events in
    let at : place_of_name place ≡ place = omega arith in
    let same : place ≡ place_of_name (current w (place_of_name place)) = sym (ap (λ k. place_of_name (current w k)) at ∙ place_of_name_at place (w.lives place) low) in
    returns_at rules events place place same range gone more_

start_follows : (rules : Rules) → MayFound rules → Follows rules (group.begun rules)
unfolding world_after_events steps_of_records HaveNumbers
start_follows rules may = record { events = []; range = record { founds = may; bodies = All-nil (λ (x : Event). BodyIsWithinLimit x.act); numbers = tt }; same = refl }

follows : (rules : Rules) (p : Processes) → MayFound rules → Came rules p → Follows rules p
follows rules p may begins = start_follows rules may
follows rules p may (goes_on {p = old} came goes) =
    let f = follows rules old may came in
    more rules f.events p f.range (subst (λ (x : Processes). Goes x p) (sym f.same) goes)

pub processes_make_runs : ProcessesMakeRuns
processes_make_runs rules p may came =
    let f = follows rules p may came in (
      f.events,
      record {
        range = f.range;
        nodes = λ name. ap (λ (x : Processes). x.nodes name) f.same;
        parts = λ name. ap (λ (x : Processes). x.parts name) f.same;
        letters = ap (λ (x : Processes). x.letters) f.same;
        stopped = ap (λ (x : Processes). x.stopped) f.same;
      },
    )
