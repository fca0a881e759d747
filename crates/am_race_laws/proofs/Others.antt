-- An event at another place leaves a name's node as it is.
use Rattle.am_race_laws.proofs.Words.{◌≡◌, ◌≢◌, ℕ, ◌+◌, ◌-◌, ◌*◌, ◌%◌, ◌<◌, [], ◌∷◌, ◌++◌, Bool, true, false, Option, Some, None, sym, refl, ap, ◌∙◌, subst}
use Rattle.am_race_laws.proofs.Words.{ne_eqb, arith, fold, if◌then◌else◌, not, ◌==◌, ◌||◌, mod-lt, Outcome, NodeEvent, place_of_name, Packet, Letter, Act, Event}
use Rattle.am_race_laws.proofs.Words.{is_for, letter_at, StepResult, step, hear_packet, World, start, is_stopped, hear_cut, world_with_record, world_with_step, world_after_node_event, world_after_give_up}
use Rattle.am_race_laws.proofs.Words.{world_after_hearing, world_with_next_life, world_after_return, has_departed, world_after_act, happens, current, tells, world_after, OthersStay}
use Rattle.std.proofs.lemmas.List.Sums.{fold-append}
use Rattle.am_group_defs.specs.World.{world_after_stop}
use Rattle.am_base.specs.declared.outcome.Outcome.TheVariants as said
use Rattle.am_base.specs.declared.event.NodeEvent.TheVariants as does
use Rattle.am_group.specs.declared.event.Act.TheVariants as act

-- the names and lives of other places are as they were
record Stays (place : ℕ) (w w' : World) : Type 0 where
  pub nodes : (name : ℕ) → place_of_name name ≢ place → w'.nodes name ≡ w.nodes name
  pub lives : (other : ℕ) → other ≢ place → w'.lives other ≡ w.lives other

unchanged_stays : (place : ℕ) (w : World) (e : Event) (outcome : Outcome) → Stays place w (world_with_record w e outcome)
unfolding world_with_record
unchanged_stays place w e outcome = record { nodes = λ name far. refl; lives = λ other far. refl }

elsewhere : (place name at : ℕ) → place_of_name at ≡ place → place_of_name name ≢ place → name ≢ at
elsewhere place name at its far same = far (ap place_of_name same ∙ its)

stepped_stays : (place : ℕ) (w : World) (e : Event) (at : ℕ) (s : StepResult) → place_of_name at ≡ place → Stays place w (world_with_step w e at s)
unfolding world_with_step
stepped_stays place w e at s its = record {
  nodes = λ name far. ap (λ (b : Bool). if b then s.node else w.nodes name) (ne_eqb name at (elsewhere place name at its far));
  lives = λ other far. refl;
}

either_stays : (place : ℕ) (w x y : World) (b : Bool) → Stays place w x → Stays place w y → Stays place w (if b then x else y)
either_stays place w x y true p q = p
either_stays place w x y false p q = q

does_stays : (place : ℕ) (w : World) (e : Event) (name : ℕ) (event : NodeEvent) → place_of_name name ≡ place → Stays place w (world_after_node_event w e name event)
does_stays place w e name event its =
    either_stays place w (world_with_record w e said.IsStopped) (world_with_step w e name (step (w.nodes name) event)) (is_stopped w name)
    (unchanged_stays place w e said.IsStopped) (stepped_stays place w e name (step (w.nodes name) event) its)

gives_up_stays : (place : ℕ) (w : World) (e : Event) (name other : ℕ) → place_of_name name ≡ place → Stays place w (world_after_give_up w e name other)
gives_up_stays place w e name other its =
    let given : World = world_with_step w e name (step (w.nodes name) (does.GiveUp other)) in
    let not_stopped : World = world_with_record w e said.NotStopped in
    either_stays place w (world_with_record w e said.IsStopped) (if is_stopped w other then given else not_stopped) (is_stopped w name)
    (unchanged_stays place w e said.IsStopped)
    (either_stays place w given not_stopped (is_stopped w other) (stepped_stays place w e name (step (w.nodes name) (does.GiveUp other)) its)
    (unchanged_stays place w e said.NotStopped))

stops_stays : (place : ℕ) (w : World) (e : Event) (name : ℕ) → Stays place w (world_after_stop w e name)
unfolding world_with_record
stops_stays place w e name =
    either_stays place w (world_with_record w e said.IsStopped) (world_with_record (record w { stopped = w.stopped ++ name ∷ [] }) e said.Stopped) (is_stopped w name)
    (unchanged_stays place w e said.IsStopped)
    (record { nodes = λ other far. refl; lives = λ other far. refl })

heard_stays : (place : ℕ) (w : World) (e : Event) (name : ℕ) (hearing : Packet → StepResult) (letter : Option Letter) → place_of_name name ≡ place
    → Stays place w (world_after_hearing w e name hearing letter)
heard_stays place w e name hearing None its = unchanged_stays place w e said.NoPacket
heard_stays place w e name hearing (Some letter) its =
    let hears : World = world_with_step w e name (hearing letter.packet) in
    let stopped : World = world_with_record w e said.IsStopped in
    either_stays place w (world_with_record w e said.NotAddressed) (if is_stopped w name then stopped else hears) (not (is_for letter name))
    (unchanged_stays place w e said.NotAddressed)
    (either_stays place w stopped hears (is_stopped w name) (unchanged_stays place w e said.IsStopped)
    (stepped_stays place w e name (hearing letter.packet) its))

back_stays : (place : ℕ) (w : World) (e : Event) (outcome : Outcome) → Stays place w (world_with_next_life (world_with_record w e outcome) place)
unfolding world_with_record
back_stays place w e outcome = record {
  nodes = λ name far. refl;
  lives = λ other far. ap (λ (b : Bool). if b then w.lives place + 1 else w.lives other) (ne_eqb other place far);
}

returned_stays : (place : ℕ) (w : World) (e : Event) → Stays place w (world_after_return w e place)
returned_stays place w e =
    let again : World = world_with_next_life (world_with_record w e (said.Returned (w.lives place + 1))) place in
    let none : World = world_with_record w e said.NoLife in
    either_stays place w (world_with_record w e (said.Running (w.lives place))) (if w.lives place == 16 then none else again)
    (not (is_stopped w (current w place) || has_departed (w.nodes (current w place)).status)) (unchanged_stays place w e (said.Running (w.lives place)))
    (either_stays place w none again (w.lives place == 16) (unchanged_stays place w e said.NoLife) (back_stays place w e (said.Returned (w.lives place + 1))))

acts_stays : (place : ℕ) (w : World) (e : Event) (name : ℕ) (a : Act) → place_of_name name ≡ place → Stays place w (world_after_act w e name a)
acts_stays place w e name (act.Send body) its = does_stays place w e name (does.Send body) its
acts_stays place w e name (act.Done req) its = does_stays place w e name (does.Done req) its
acts_stays place w e name act.Take its = does_stays place w e name does.Take its
acts_stays place w e name act.Join its = does_stays place w e name does.Join its
acts_stays place w e name act.State its = does_stays place w e name does.State its
acts_stays place w e name act.Leave its = does_stays place w e name does.Leave its
acts_stays place w e name (act.Reset least resilience) its = does_stays place w e name (does.Reset least resilience) its
acts_stays place w e name (act.Ask round) its = does_stays place w e name (does.Ask round) its
acts_stays place w e name (act.GiveUp other) its = gives_up_stays place w e name other its
acts_stays place w e name act.Stop its = stops_stays place w e name
acts_stays place w e name act.Tick its = does_stays place w e name does.Tick its
acts_stays place w e name (act.Hear number) its = heard_stays place w e name (hear_packet (w.nodes name)) (letter_at w.letters number) its
acts_stays place w e name (act.Cut number keep) its = heard_stays place w e name (hear_cut (w.nodes name) keep) (letter_at w.letters number) its
acts_stays place w e name act.Return its = subst (λ (p : ℕ). Stays place w (world_after_return w e p)) (sym its) (returned_stays place w e)

-- the place of a life's name
place_at : (place k : ℕ) → place < 16 → (place + 16 * k) % 16 ≡ place
place_at place k h = omega arith

happens_stays : (w : World) (e : Event) → Stays (place_of_name e.node) w (happens w e)
unfolding happens
happens_stays w e = acts_stays (place_of_name e.node) w e (current w (place_of_name e.node)) e.act
    (place_at (place_of_name e.node) (w.lives (place_of_name e.node) - 1) (mod-lt e.node (omega arith)))

pub others_nodes_stay_through_event : OthersStay
unfolding world_after
others_nodes_stay_through_event rules before r name far =
    let s = happens_stays (fold tells (start rules) before) r.event in
    let e = fold-append tells (start rules) before (r ∷ []) in
    (ap (λ (w : World). w.nodes name) e ∙ s.nodes name far, ap (λ (w : World). w.lives (place_of_name name)) e ∙ s.lives (place_of_name name) far)
