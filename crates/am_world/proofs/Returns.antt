-- A place goes on with its next life.
use Rattle.am_world.proofs.Words.{◌≡◌, ℕ, ◌+◌, ◌<◌, ◌≤◌, ◌==◌, ◌≢◌, Bool, true, false, if◌then◌else◌, List, [], ◌∷◌, ◌++◌, append-nil, length, Some}
use Rattle.am_world.proofs.Words.{slice_get, slice_set, slice_index, refl, sym, ap, ◌∙◌, subst, arith, length-set, nat_tests, most_events_of_run, Entry, Rules}
use Rattle.am_world.proofs.Words.{MayFound, place_of_name, life_of_name, name_of_place_and_life, Event, Record, stranger_node, happens, current, is_stopped, world_with_record, world_with_next_life, Node}
use Rattle.am_world.proofs.Words.{state_of, Play, replay, AreNodes, AreLives, AreFlags, IsRun, play_of, EventIsAnswered, after_answer, get_or-set_same}
use Rattle.am_world.proofs.Words.{get_or-set_other}
use Rattle.am_base.specs.declared.outcome.Outcome.TheVariants as said
use Rattle.am_group_defs.specs.World as model
use Rattle.am_step_laws.proofs.Watching.Fresh.{unborn_life_is_stranger, place_of_name_at, life_of_name_at}
use Rattle.am_world.proofs.{Spots.slice_get_where_set, Spots.slice_get_beside_set, Begins.NodeKeepsEndInOrder, Begins.stranger_keeps_end_in_order}
use Rattle.am_world.proofs.{Goes.EventIsRecorded, Goes.world_that_follows_carries_on, Goes.play_shows_its_replay, Stops.flags_with_stopped_name, Stops.flags_with_name_stopped_before, Stops.current_name_is_small}

lives_more : (w : model.World) (lives : List ℕ) (place life : ℕ) → place < 16 → life ≡ w.lives place + 1 → life ≤ 16 → AreLives lives w
    → AreLives (slice_set lives place life) (world_with_next_life w place)
lives_more w lives place life within next most h =
    let count = h.count in
    record {
      count = length-set lives place life ∙ count;
      each = λ i k. at i k (i == place) refl;
      within = λ i k. least i k (i == place) refl;
    }
  where
    at : (i : ℕ) → i < 16 → (b : Bool) → (i == place) ≡ b → slice_index (slice_set lives place life) i ≡ (if b then w.lives place + 1 else w.lives i)
    at i k true e =
        let here : i ≡ place = grind (arith, nat_tests) in
        ap (slice_index (slice_set lives place life)) here ∙ get_or-set_same lives place life 0 (omega arith) ∙ next
    at i k false e = let other : i ≢ place = grind (arith, nat_tests) in get_or-set_other lives place i life 0 other ∙ h.each i k

    least : (i : ℕ) → i < 16 → (b : Bool) → (i == place) ≡ b → (0 < (if b then w.lives place + 1 else w.lives i))
        × ((if b then w.lives place + 1 else w.lives i) ≤ 16)
    least i k true e = (omega arith, omega arith)
    least i k false e = h.within i k

nodes_more : (w : model.World) (rules : Rules) (nodes : List Node) (place life : ℕ) (n : Node) → place < 16 → life ≡ w.lives place + 1
    → w.nodes (name_of_place_and_life place life) ≡ stranger_node rules (name_of_place_and_life place life) → state_of n ≡ stranger_node rules (name_of_place_and_life place life) → AreNodes nodes w
    → AreNodes (slice_set nodes place n) (world_with_next_life w place)
nodes_more w rules nodes place life n within next new is h =
    let count = h.count in
    record {
      count = length-set nodes place n ∙ count;
      each = λ i k at. go i k at (i == place) refl;
    }
  where
    go : (i : ℕ) (k : Node) → slice_get (slice_set nodes place n) i ≡ Some k → (b : Bool) → (i == place) ≡ b
        → NodeKeepsEndInOrder (w.nodes (name_of_place_and_life i (if b then w.lives place + 1 else w.lives i))) (state_of k)
    go i k at true e =
        let here : i ≡ place = grind (arith, nat_tests) in
        let same : n ≡ k = slice_get_where_set nodes place n k (omega arith) (ap (slice_get (slice_set nodes place n)) (sym here) ∙ at) in
        let kept = stranger_keeps_end_in_order rules (name_of_place_and_life place life) (state_of k) (ap state_of (sym same) ∙ is) in
        let all : w.nodes (name_of_place_and_life i (w.lives place + 1)) ≡ stranger_node rules (name_of_place_and_life place life) = ap (λ j. w.nodes (name_of_place_and_life j (w.lives place + 1))) here
        ∙ ap (λ l. w.nodes (name_of_place_and_life place l)) (sym next) ∙ new in
        subst (λ m. NodeKeepsEndInOrder m (state_of k)) (sym all) kept
    go i k at false e =
        let other : i ≡ place → ⊥ = grind (arith, nat_tests) in
        h.each i k (sym (slice_get_beside_set nodes place i n other) ∙ at)

flags_on : (w : model.World) (flags : List Bool) (place : ℕ) → current w place < 256 → AreFlags flags w
    → AreFlags (slice_set flags (current w place) true) (world_with_next_life w place)
flags_on w flags place within h =
    let f = go (is_stopped w (current w place)) refl in
    record { count = f.count; each = f.each }
  where
    go : (b : Bool) → is_stopped w (current w place) ≡ b → AreFlags (slice_set flags (current w place) true)
        (record w { stopped = if b then w.stopped else w.stopped ++ current w place ∷ [] })
    go true e = let f = flags_with_name_stopped_before w (current w place) flags within e h in record { count = f.count; each = f.each }
    go false e = let f = flags_with_stopped_name w (current w place) flags within h in record { count = f.count; each = f.each }

pub return_carries_play_on : (p : Play) (first founding : Rules) (nodes : List Node) (lives : List ℕ) (flags : List Bool) (records pushed : List Record)
    (group : List Entry) (e : Event) (name at also to stop_at life : ℕ) (n : Node)
    → play_of first records ≡ p → IsRun (play_of first records) nodes lives flags records group → length p.events < most_events_of_run
    → name ≡ current (replay p) (place_of_name e.node) → at ≡ place_of_name name → also ≡ place_of_name name → stop_at ≡ name → life ≡ life_of_name name + 1 → life ≤ 16
    → to ≡ name_of_place_and_life (place_of_name name) life → state_of n ≡ stranger_node first to
    → EventIsRecorded (replay p) e (said.Returned life) [] first founding records pushed → happens (replay p) e ≡ after_answer (replay p) e (said.Returned life)
    → IsRun (play_of founding pushed) (slice_set nodes at n) (slice_set lives also life) (slice_set flags stop_at true) pushed group
    × EventIsAnswered p e (said.Returned life)
unfolding world_with_record
return_carries_play_on p first founding nodes lives flags records pushed group e name at also to stop_at life n view ok few here there there_too stops next most goes
    new recorded is =
    let w = replay p in
    let place = place_of_name e.node in
    let within : place < 16 = omega arith in
    let was = play_shows_its_replay p first nodes lives flags records group view ok in
    let short : length group ≤ 1 + length p.events = subst (λ (q : Play). length group ≤ 1 + length q.events) view ok.short in
    let may : MayFound p.rules = subst (λ (q : Play). MayFound q.rules) view ok.founded in
    let rules : first ≡ p.rules = ap (λ (q : Play). q.rules) view in
    let placed : place_of_name name ≡ place = ap place_of_name here ∙ place_of_name_at place (w.lives place) within in
    let living = was.living.within place within in
    let life_is : life ≡ w.lives place + 1 = next ∙ ap (λ k. life_of_name k + 1) here ∙ ap (λ l. l + 1) (life_of_name_at place (w.lives place) within living.0) in
    let name_is : to ≡ name_of_place_and_life place life = goes ∙ ap (λ k. name_of_place_and_life k life) placed in
    let begins : w.nodes (name_of_place_and_life place life) ≡ stranger_node p.rules (name_of_place_and_life place life) = unborn_life_is_stranger p.rules p.events place life may within (omega arith) in
    let node_is : state_of n ≡ stranger_node p.rules (name_of_place_and_life place life) = new ∙ ap (λ r. stranger_node r to) rules ∙ ap (stranger_node p.rules) name_is in
    let v = world_with_next_life (world_with_record w e (said.Returned life)) place in
    let nodes_are = nodes_more w p.rules nodes place life n within life_is begins node_is was.standing in
    let lives_are = lives_more w lives place life within life_is most was.living in
    let flags_are = flags_on w flags place (current_name_is_small w lives place within was.living) was.stopped in
    world_that_follows_carries_on p first founding nodes (slice_set nodes at n) lives (slice_set lives also life) flags (slice_set flags stop_at true) records pushed group group e
    (said.Returned life) [] v view ok few recorded
    (record { happens_ = is; records = refl; letters_ = sym (append-nil w.letters) })
    (subst (λ k. AreNodes (slice_set nodes k n) v) (sym (there ∙ placed)) (record { count = nodes_are.count; each = nodes_are.each }))
    (subst (λ k. AreLives (slice_set lives k life) v) (sym (there_too ∙ placed))
    (record { count = lives_are.count; each = lives_are.each; within = lives_are.within }))
    (subst (λ k. AreFlags (slice_set flags k true) v) (sym (stops ∙ here)) (record { count = flags_are.count; each = flags_are.each }))
    was.agreed (omega arith)
