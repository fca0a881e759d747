-- What a node's step comes to in the world of which the records tell.
use Rattle.am_race_laws.proofs.Words.{◌≡◌, ℕ, ◌<◌, ◌≤◌, List, [], ◌∷◌, ◌++◌, length, map, true, false, true≢false, Option, Some, sym, refl, ap, ◌∙◌, subst, arith}
use Rattle.am_race_laws.proofs.Words.{◌==◌, nat_tests, length-map, none-some, most_events_of_run, NodeEvent, Rules, place_of_name, name_of_place_and_life, IsPacket, spelling}
use Rattle.am_race_laws.proofs.Words.{CoreFrontsAreInOrder, Letter, Act, Event, Record, is_for, letters_of_records, letter_at, StepResult, step, hear_packet, row, World, is_stopped, world_with_step}
use Rattle.am_race_laws.proofs.Words.{world_after_node_event, world_after_hearing, world_after_act, happens, record_of, current, no_caller, start, run, world_after_events, Node, with_tag, IsEndOf, DoesRow}
use Rattle.am_race_laws.proofs.Words.{spelled_packet_is_heard, HasNumbersLeft, whole_step_comes_to_end, node_end_has_same_top, runs_go_on, number_bounds_hold_in_runs, Terms, EachComesNext, has_stopped, world_after}
use Rattle.am_race_laws.proofs.Words.{IsNext, IsLawfulRecord, what_of, MayAct}
use Rattle.am_base.specs.declared.event.NodeEvent.TheVariants as does
use Rattle.am_group.specs.declared.event.Act.TheVariants as act
use Rattle.am_race_laws.proofs.Knows.{lawful_journal_knows_its_world, current_name_has_first_life, journal_keeps_what_records_keep, world_after_one_more_record}
use Rattle.am_race_laws.proofs.{Legality.told_record_is_its_event}

-- ---- the run

unfoldable pub events_of_records : List Record → List Event
events_of_records records = map (λ r. r.event) records

IsTheRun : Rules → List Record → Type 0
IsTheRun rules before = world_after rules before ≡ run rules (events_of_records before)

events_more : (before : List Record) (r : Record) → events_of_records (before ++ r ∷ []) ≡ events_of_records before ++ r.event ∷ []
unfolding events_of_records
events_more [] r = refl
events_more (q ∷ before) r = ap (λ (es : List Event). q.event ∷ es) (events_more before r)

-- what a lawful journal tells is the run of its events
told_runs : (terms : Terms) (before : List Record) → EachComesNext (IsLawfulRecord terms) before → IsTheRun terms.founding before
unfolding IsTheRun world_after events_of_records world_after_events
told_runs terms before follows =
    journal_keeps_what_records_keep (IsTheRun terms.founding) (IsLawfulRecord terms)
    (λ done r lawful so_far. world_after_one_more_record terms.founding done r ∙ told_record_is_its_event terms.founding done r lawful.next ∙ ap (λ (w : World). happens w r.event) so_far
    ∙ sym (ap (run terms.founding) (events_more done r) ∙ runs_go_on (start terms.founding) (events_of_records done) (r.event ∷ [])))
    [] before refl follows

pub told_world_is_events_run : (terms : Terms) (before : List Record) → EachComesNext (IsLawfulRecord terms) before → world_after terms.founding before
    ≡ run terms.founding (events_of_records before)
unfolding IsTheRun
told_world_is_events_run terms before follows = told_runs terms before follows

-- the numbers of a node are within a step's limits
pub numbers_left_in_journal : (terms : Terms) (before : List Record) (name : ℕ) (m : Node) → EachComesNext (IsLawfulRecord terms) before → length before ≤ most_events_of_run
    → IsEndOf ((world_after terms.founding before).nodes name) m → HasNumbersLeft m
unfolding IsTheRun events_of_records
numbers_left_in_journal terms before name m follows few is =
    let its = subst (λ (w : World). IsEndOf (w.nodes name) m) (told_runs terms before follows) is in
    let lows = (number_bounds_hold_in_runs terms.founding (events_of_records before)).each name in
    let many : length (events_of_records before) ≡ length before = simp length-map in
    let high = node_end_has_same_top ((run terms.founding (events_of_records before)).nodes name) m its in
    let round = ap (λ (n : Node). n.core.promise.round) its.same in
    let last = ap (λ (n : Node). n.sends.last) its.same in
    let a = lows.entries in let b = lows.round in let c = lows.requests in
    record { entries = omega arith; rounds = omega arith; requests = omega arith }

-- ---- an act is a step

some_is : {A : Type 0} (x y : A) → Some x ≡ Some y → x ≡ y
some_is x y e = cc

does_steps : (w : World) (e : Event) (name : ℕ) (mine what : NodeEvent) → Some mine ≡ Some what → is_stopped w name ≡ false
    → world_after_node_event w e name mine ≡ world_with_step w e name (step (w.nodes name) what)
does_steps w e name mine what is runs = rw runs (ap (λ (x : NodeEvent). world_with_step w e name (step (w.nodes name) x)) (some_is mine what is))

hears_steps : (w : World) (e : Event) (name : ℕ) (l : Letter) (what : NodeEvent) → Some (does.Hear (spelling l.packet)) ≡ Some what → is_stopped w name ≡ false
    → is_for l name ≡ true → IsPacket l.packet → world_after_hearing w e name (hear_packet (w.nodes name)) (Some l) ≡ world_with_step w e name (step (w.nodes name) what)
hears_steps w e name l what is runs its packet =
    rw (its, runs) (ap (world_with_step w e name) (sym (spelled_packet_is_heard (w.nodes name) l.packet packet))
    ∙ ap (λ (x : NodeEvent). world_with_step w e name (step (w.nodes name) x)) (some_is (does.Hear (spelling l.packet)) what is))

acts_step : (w : World) (e : Event) (before : List Record) (name : ℕ) (a : Act) (l : Option Letter) (what : NodeEvent) → what_of a l ≡ Some what
    → is_stopped w name ≡ false → w.letters ≡ letters_of_records before → ((k : ℕ) → is_stopped w k ≡ has_stopped before k) → MayAct before name a l
    → world_after_act w e name a ≡ world_with_step w e name (step (w.nodes name) what)
acts_step w e before name (act.GiveUp other) l what is runs sent stopped may =
    let gone : is_stopped w other ≡ true = stopped other ∙ may.given other refl in
    rw (runs, gone) (ap (λ (x : NodeEvent). world_with_step w e name (step (w.nodes name) x)) (some_is (does.GiveUp other) what is))
acts_step w e before name act.Stop l what is runs sent stopped may = absurd (none-some what is)
acts_step w e before name (act.Hear number) l what is runs sent stopped may =
    let h = may.hears number refl in
    let there : letter_at w.letters number ≡ Some h.letter = ap (λ (ls : List Letter). letter_at ls number) sent ∙ h.sent in
    let same : Some (does.Hear (spelling h.letter.packet)) ≡ Some what = sym (ap (what_of (act.Hear number)) h.is) ∙ is in
    ap (world_after_hearing w e name (hear_packet (w.nodes name))) there ∙ hears_steps w e name h.letter what same runs h.its h.packet
acts_step w e before name (act.Cut number keep) l what is runs sent stopped may = absurd (true≢false (sym may.race))
acts_step w e before name act.Return l what is runs sent stopped may = absurd (true≢false (sym may.race))
acts_step w e before name _ l what is runs sent stopped may = does_steps w e name _ what is runs

-- ---- what comes next

-- the record that an act's step makes, and the node that it leaves
pub record RecordComesOfStep (rules : Rules) (before : List Record) (name : ℕ) (n : Node) (item : Record) : Type 0 where
  pub next : IsNext rules before item
  pub node : IsEndOf ((world_after rules (before ++ item ∷ [])).nodes name) n

own_node : (w : World) (e : Event) (name : ℕ) (s : StepResult) → (world_with_step w e name s).nodes name ≡ s.node
unfolding world_with_step
own_node w e name s = let same : (name == name) ≡ true = grind (arith, nat_tests) in rw same refl

stepped_adds : (w : World) (e : Event) (name : ℕ) (s : StepResult) → (world_with_step w e name s).records ≡ w.records ++ record_of w e s.outcome s.letters ∷ []
unfolding world_with_step
stepped_adds w e name s = refl

pub record_comes_of_each_step : (terms : Terms) (before : List Record) (name : ℕ) (m n : Node) (l : Option Letter) (what : NodeEvent) (item : Record)
    → EachComesNext (IsLawfulRecord terms) before → name < 16
    → item.event.node ≡ name → item.life ≡ 1 → MayAct before name item.event.act l → what_of item.event.act l ≡ Some what
    → IsEndOf ((world_after terms.founding before).nodes name) m → CoreFrontsAreInOrder m.core → DoesRow (λ k. row k what) m item.outcome item.packets n
    → RecordComesOfStep terms.founding before name n item
unfolding happens
record_comes_of_each_step terms before name m n l what item follows low_name node life may is end order does =
    let w : World = world_after terms.founding before in
    let kn = lawful_journal_knows_its_world terms before follows in
    let e : Event = item.event in
    let first : name_of_place_and_life (place_of_name name) 1 ≡ name = omega arith in
    let here : current w (place_of_name e.node) ≡ name = current_name_has_first_life terms.founding before kn (place_of_name e.node) ∙ ap (λ (k : ℕ). name_of_place_and_life (place_of_name k) 1) node
    ∙ first in
    let runs : is_stopped w name ≡ false = kn.stopped name ∙ may.runs in
    let s : StepResult = step (w.nodes name) what in
    let c = whole_step_comes_to_end (w.nodes name) m n what item.outcome item.packets end order does in
    let did : happens w e ≡ world_with_step w e name s = ap (λ (k : ℕ). world_after_act w e k e.act) here
    ∙ acts_step w e before name e.act l what is runs kn.letters kn.stopped may in
    let made : record_of w e s.outcome s.letters ≡ with_tag no_caller item =
    λ i. record { event = e; life = (kn.lives (place_of_name e.node) ∙ sym life) i; by = no_caller; outcome = sym c.answer i; packets = sym c.sent i }
    in
    let next : IsNext terms.founding before item = ap (λ (v : World). v.records) did ∙ stepped_adds w e name s
    ∙ ap (λ (r : Record). w.records ++ r ∷ []) made in
    record {
      next = next;
      node = subst (λ (v : Node). IsEndOf v n)
          (sym (ap (λ (v : World). v.nodes name) (world_after_one_more_record terms.founding before item ∙ told_record_is_its_event terms.founding before item next ∙ did)
          ∙ own_node w e name s)) c.node;
    }
