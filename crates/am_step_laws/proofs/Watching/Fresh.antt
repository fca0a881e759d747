-- A life that hasn't begun is a stranger that no one has seen.
use Rattle.am_step_laws.proofs.Words.{◌≡◌, ℕ, ◌+◌, ◌<◌, ◌≤◌, ◌==◌, ◌||◌, not, Bool, true, false, if◌then◌else◌, List, [], ◌∷◌, ◌++◌, Option, Some, None, refl, sym}
use Rattle.am_step_laws.proofs.Words.{ap, ◌∙◌, subst, arith, slice_index, nat_tests, Outcome, NodeEvent, Rules, MayFound, place_of_name, life_of_name, name_of_place_and_life, has, Packet}
use Rattle.am_step_laws.proofs.Words.{Letter, Act, Event, letter_at, is_for, stranger_node, StepResult, step, hear_packet, World, start, run, current, is_stopped, world_with_record}
use Rattle.am_step_laws.proofs.Words.{world_with_step, world_after_hearing, hear_cut, world_with_next_life, world_after_act, happens, world_after_events}
use Rattle.am_step_laws.proofs.Watching.StoredWords.{has_departed, world_after_node_event, world_after_return}
use Rattle.am_model.specs.Node.{Node}
use Rattle.am_group_defs.specs.World.{world_after_give_up, world_after_stop}
use Rattle.am_base.specs.declared.outcome.Outcome.TheVariants as said
use Rattle.am_base.specs.declared.event.NodeEvent.TheVariants as does
use Rattle.am_group.specs.declared.event.Act.TheVariants as act

-- a name's place and life
pub place_of_name_at : (place life : ℕ) → place < 16 → place_of_name (name_of_place_and_life place life) ≡ place
place_of_name_at place life h = omega arith

pub life_of_name_at : (place life : ℕ) → place < 16 → 0 < life → life_of_name (name_of_place_and_life place life) ≡ life
life_of_name_at place life h l = omega arith

-- every place has a life, and the names of greater ones are strangers
record AreFresh (rules : Rules) (lives : ℕ → ℕ) (nodes : ℕ → Node) : Type 0 where
  pub begun : (place : ℕ) → place < 16 → 0 < lives place
  pub strangers : (place life : ℕ) → place < 16 → lives place < life → nodes (name_of_place_and_life place life) ≡ stranger_node rules (name_of_place_and_life place life)

abbrev Fresh : Rules → World → Type 0
Fresh rules w = AreFresh rules w.lives w.nodes

fresh_if : (rules : Rules) (b : Bool) (v w : World) → Fresh rules v → Fresh rules w → Fresh rules (if b then v else w)
fresh_if rules true v w f g = f
fresh_if rules false v w f g = g

fresh_pass : (rules : Rules) (w : World) (e : Event) (o : Outcome) → Fresh rules w → Fresh rules (world_with_record w e o)
unfolding world_with_record
fresh_pass rules w e o h = h

fresh_step : (rules : Rules) (w : World) (e : Event) (place : ℕ) (s : StepResult) → place < 16 → Fresh rules w → Fresh rules (world_with_step w e (current w place) s)
unfolding world_with_step
fresh_step rules w e place s within h = record {
  begun = h.begun;
  strangers = λ other life inside later.
      let lives = h.begun place within in
      let here = h.begun other inside in
      let apart : (name_of_place_and_life other life == current w place) ≡ false = go other life inside later (other == place) refl in
      rw apart (h.strangers other life inside later);
}
  where
    go : (other life : ℕ) → other < 16 → w.lives other < life → (b : Bool) → (other == place) ≡ b → (name_of_place_and_life other life == current w place) ≡ false
    go other life inside later true t =
        let same : other ≡ place = grind (arith, nat_tests) in
        let lives = h.begun place within in
        let less : w.lives place < life = subst (λ k. w.lives k < life) same later in
        let differs : name_of_place_and_life other life ≡ current w place → ⊥ = λ q. omega arith in
        grind (arith, nat_tests)
    go other life inside later false f =
        let apart : other ≡ place → ⊥ = grind (arith, nat_tests) in
        let differs : name_of_place_and_life other life ≡ current w place → ⊥ = λ q. apart (omega arith) in
        grind (arith, nat_tests)

fresh_lives : (rules : Rules) (w : World) (place : ℕ) → Fresh rules w → Fresh rules (world_with_next_life w place)
fresh_lives rules w place h = record {
  begun = λ other inside. least other inside (other == place);
  strangers = λ other life inside later. h.strangers other life inside (before other life later (other == place) refl);
}
  where
    least : (other : ℕ) → other < 16 → (b : Bool) → 0 < (if b then w.lives place + 1 else w.lives other)
    least other inside true = omega arith
    least other inside false = h.begun other inside

    before : (other life : ℕ) → (if other == place then w.lives place + 1 else w.lives other) < life → (b : Bool) → (other == place) ≡ b → w.lives other < life
    before other life later true t =
        let same : other ≡ place = grind (arith, nat_tests) in
        let less : w.lives place + 1 < life = rw t at later in
        subst (λ k. w.lives k < life) (sym same) (omega arith)
    before other life later false f = rw f at later

fresh_does : (rules : Rules) (w : World) (e : Event) (what : NodeEvent) → Fresh rules w → Fresh rules (world_after_node_event w e (current w (place_of_name e.node)) what)
fresh_does rules w e what h =
    let name = current w (place_of_name e.node) in
    fresh_if rules (is_stopped w name) (world_with_record w e said.IsStopped) (world_with_step w e name (step (w.nodes name) what)) (fresh_pass rules w e said.IsStopped h)
    (fresh_step rules w e (place_of_name e.node) (step (w.nodes name) what) (omega arith) h)

fresh_gives : (rules : Rules) (w : World) (e : Event) (other : ℕ) → Fresh rules w → Fresh rules (world_after_give_up w e (current w (place_of_name e.node)) other)
fresh_gives rules w e other h =
    let name = current w (place_of_name e.node) in
    let given = world_with_step w e name (step (w.nodes name) (does.GiveUp other)) in
    fresh_if rules (is_stopped w name) (world_with_record w e said.IsStopped) (if is_stopped w other then given else world_with_record w e said.NotStopped)
    (fresh_pass rules w e said.IsStopped h)
    (fresh_if rules (is_stopped w other) given (world_with_record w e said.NotStopped)
    (fresh_step rules w e (place_of_name e.node) (step (w.nodes name) (does.GiveUp other)) (omega arith) h) (fresh_pass rules w e said.NotStopped h))

fresh_stops : (rules : Rules) (w : World) (e : Event) (name : ℕ) → Fresh rules w → Fresh rules (world_after_stop w e name)
fresh_stops rules w e name h =
    let after_ = record w { stopped = w.stopped ++ name ∷ [] } in
    fresh_if rules (is_stopped w name) (world_with_record w e said.IsStopped) (world_with_record after_ e said.Stopped) (fresh_pass rules w e said.IsStopped h)
    (fresh_pass rules after_ e said.Stopped h)

fresh_heard : (rules : Rules) (w : World) (e : Event) (hearing : Packet → StepResult) (found : Option Letter) → Fresh rules w
    → Fresh rules (world_after_hearing w e (current w (place_of_name e.node)) hearing found)
fresh_heard rules w e hearing None h = fresh_pass rules w e said.NoPacket h
fresh_heard rules w e hearing (Some letter) h =
    let name = current w (place_of_name e.node) in
    let done = world_with_step w e name (hearing letter.packet) in
    let running = if is_stopped w name then world_with_record w e said.IsStopped else done in
    fresh_if rules (not (is_for letter name)) (world_with_record w e said.NotAddressed) running (fresh_pass rules w e said.NotAddressed h)
    (fresh_if rules (is_stopped w name) (world_with_record w e said.IsStopped) done (fresh_pass rules w e said.IsStopped h)
    (fresh_step rules w e (place_of_name e.node) (hearing letter.packet) (omega arith) h))

fresh_returned : (rules : Rules) (w : World) (e : Event) (place : ℕ) → Fresh rules w → Fresh rules (world_after_return w e place)
fresh_returned rules w e place h =
    let life = w.lives place in
    let gone = is_stopped w (current w place) || has_departed (w.nodes (current w place)).status in
    let back = world_with_next_life (world_with_record w e (said.Returned (life + 1))) place in
    fresh_if rules (not gone) (world_with_record w e (said.Running life)) (if life == 16 then world_with_record w e said.NoLife else back)
    (fresh_pass rules w e (said.Running life) h)
    (fresh_if rules (life == 16) (world_with_record w e said.NoLife) back (fresh_pass rules w e said.NoLife h)
    (fresh_lives rules (world_with_record w e (said.Returned (life + 1))) place (fresh_pass rules w e (said.Returned (life + 1)) h)))

fresh_acts : (rules : Rules) (w : World) (e : Event) (a : Act) → Fresh rules w → Fresh rules (world_after_act w e (current w (place_of_name e.node)) a)
fresh_acts rules w e (act.Send body) h = fresh_does rules w e (does.Send body) h
fresh_acts rules w e (act.Done req) h = fresh_does rules w e (does.Done req) h
fresh_acts rules w e act.Take h = fresh_does rules w e does.Take h
fresh_acts rules w e act.Join h = fresh_does rules w e does.Join h
fresh_acts rules w e act.State h = fresh_does rules w e does.State h
fresh_acts rules w e act.Leave h = fresh_does rules w e does.Leave h
fresh_acts rules w e (act.Reset least resilience) h = fresh_does rules w e (does.Reset least resilience) h
fresh_acts rules w e (act.Ask round) h = fresh_does rules w e (does.Ask round) h
fresh_acts rules w e (act.GiveUp other) h = fresh_gives rules w e other h
fresh_acts rules w e act.Stop h = fresh_stops rules w e (current w (place_of_name e.node)) h
fresh_acts rules w e act.Tick h = fresh_does rules w e does.Tick h
fresh_acts rules w e (act.Hear number) h = fresh_heard rules w e (hear_packet (w.nodes (current w (place_of_name e.node)))) (letter_at w.letters number) h
fresh_acts rules w e (act.Cut number keep) h = fresh_heard rules w e (hear_cut (w.nodes (current w (place_of_name e.node))) keep) (letter_at w.letters number) h
fresh_acts rules w e act.Return h = fresh_returned rules w e (place_of_name (current w (place_of_name e.node))) h

fresh_happen : (rules : Rules) (w : World) (events : List Event) → Fresh rules w → Fresh rules (world_after_events w events)
unfolding world_after_events happens
fresh_happen rules w [] h = h
fresh_happen rules w (e ∷ events) h = fresh_happen rules (happens w e) events (fresh_acts rules w e e.act h)

fresh_start : (rules : Rules) → MayFound rules → Fresh rules (start rules)
fresh_start rules may = record {
  begun = λ place inside. omega arith;
  strangers = λ place life inside later.
      let name = name_of_place_and_life place life in
      let most : slice_index rules.founders place ≤ 1 = may.first_lives place (let count = may.names.places in omega arith) in
      let not_has : has rules.founders name ≡ false =
      ap (λ k. slice_index rules.founders k == life_of_name name) (place_of_name_at place life inside)
      ∙ ap (λ l. slice_index rules.founders place == l) (life_of_name_at place life inside (omega arith)) ∙ grind (arith, nat_tests) in
      rw not_has refl;
}

pub unborn_life_is_stranger : (rules : Rules) (events : List Event) (place life : ℕ) → MayFound rules → place < 16 → (run rules events).lives place < life
    → (run rules events).nodes (name_of_place_and_life place life) ≡ stranger_node rules (name_of_place_and_life place life)
unborn_life_is_stranger rules events place life may = (fresh_happen rules (start rules) events (fresh_start rules may)).strangers place life
