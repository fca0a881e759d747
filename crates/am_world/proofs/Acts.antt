-- A name's node does a step.
use Rattle.am_world.proofs.Words.{◌≡◌, ℕ, ◌+◌, ◌-◌, ◌<◌, ◌≤◌, ◌==◌, max, Bool, true, false, if◌then◌else◌, List, [], ◌∷◌, ◌++◌, length, take, drop, Some}
use Rattle.am_world.proofs.Words.{slice_get, slice_set, refl, sym, ap, ◌∙◌, subst, arith, length-append, length-drop, length-take, length-set, drop-drop}
use Rattle.am_world.proofs.Words.{nat_tests, most_events_of_run, Entry, Image, Stamp, Outcome, NodeEvent, Rules, place_of_name, Letter, CoreState, CoreFrontsAreInOrder, end_has_image_of_whole_log}
use Rattle.am_world.proofs.Words.{Event, Record, view, step, happens, current, world_with_step, list_with_accepted, list_after_step, record_of, IsEndOf, Node, state_of}
use Rattle.am_world.proofs.Words.{HasNumbersLeft, Play, replay, play_after, AreNodes, AreLives, AreFlags, IsRun, play_of, EventIsAnswered, comes, IsReadyAt, StepsAt}
use Rattle.am_world.proofs.Words.{node_end_has_same_top, whole_step_comes_to_end, NodeNumbers, slice_get_some_below_length}
use Rattle.am_model.specs.Node as protocol
use Rattle.am_group_defs.specs.World as model
use Rattle.am_step_laws.proofs.Watching.Fresh.{place_of_name_at}
use Rattle.am_world.proofs.{Numbers.node_numbers_le_run_length, Numbers.base_le_group_length, Spots.slice_get_where_set, Spots.slice_get_beside_set, Begins.NodeKeepsEndInOrder, Goes.EventIsRecorded}
use Rattle.am_world.proofs.{Goes.WorldFollowsEvent, Goes.world_that_follows_carries_on, Goes.play_shows_its_replay, Goes.replay_with_next_event}
use Rattle.am_journal.specs.declared.asked.Asked.TheVariants as asked

-- ---- the end of a node

end_view : (all m : protocol.Node) → IsEndOf all m → view m ≡ view all
end_view all m is = ap (λ (i : Image). i.view) (end_has_image_of_whole_log all.core.log m.core.log is.stands.kept)

end_who : (all m : protocol.Node) → IsEndOf all m → m.core.who ≡ all.core.who
end_who all m is = ap (λ (n : protocol.Node). n.core.who) is.same

pub base_of_node_end : (all m : protocol.Node) → IsEndOf all m → m.core.base ≡ all.core.base
base_of_node_end all m is = ap (λ (n : protocol.Node). n.core.base) is.same

end_accepted : (all m : protocol.Node) → IsEndOf all m → m.core.acc ≡ all.core.acc
end_accepted all m is = ap (λ (n : protocol.Node). n.core.acc) is.same

-- the group list grows the same by a node and by its end, where that isn't trimmed beyond the group list
grown_end : (group : List Entry) (all m : protocol.Node) → IsEndOf all m → m.core.base ≤ length group → list_with_accepted group m.core ≡ list_with_accepted group all.core
grown_end group all m is base_low =
    let kept = is.stands.kept in
    let at : (m.core.log.start - all.core.log.start) + (length group - m.core.log.start) ≡ length group - all.core.log.start = omega arith in
    let rest : drop (length group - m.core.log.start) m.core.log.entries ≡ drop (length group - all.core.log.start) all.core.log.entries =
    ap (drop (length group - m.core.log.start)) kept.entries
    ∙ drop-drop (length group - m.core.log.start) (m.core.log.start - all.core.log.start) all.core.log.entries ∙ ap (λ k. drop k all.core.log.entries) at in
    ap (λ a. group ++ take (a - length group) (drop (length group - m.core.log.start) m.core.log.entries)) (end_accepted all m is)
    ∙ ap (λ es. group ++ take (all.core.acc - length group) es) rest

if_same : {A : Type 0} (b : Bool) (x y z : A) → x ≡ y → (if b then x else z) ≡ (if b then y else z)
if_same b x y z e = ap (λ v. if b then v else z) e

group_end : (group : List Entry) (all m : protocol.Node) → IsEndOf all m → m.core.base ≤ length group → list_after_step group m ≡ list_after_step group all
group_end group all m is base_low =
    if_same ((view m).by == m.core.who) (list_with_accepted group m.core) (list_with_accepted group all.core) group (grown_end group all m is base_low)
    ∙ ap (λ k. if k == m.core.who then list_with_accepted group all.core else group) (ap (λ (s : Stamp). s.by) (end_view all m is))
    ∙ ap (λ k. if (view all).by == k then list_with_accepted group all.core else group) (end_who all m is)

grown_short : (group : List Entry) (core : CoreState) (most : ℕ) → length group ≤ most → core.acc ≤ most → length (list_with_accepted group core) ≤ most
grown_short group core most g a = simp (length-append, length-take, length-drop) (omega arith)

group_short : (group : List Entry) (m : protocol.Node) (most : ℕ) → length group ≤ most → m.core.acc ≤ most → length (list_after_step group m) ≤ most
group_short group m most g a = go ((view m).by == m.core.who)
  where
    go : (b : Bool) → length (if b then list_with_accepted group m.core else group) ≤ most
    go true = grown_short group m.core most g a
    go false = g

-- ---- before the step

-- the world after it
abbrev pub world_after_node_event : model.World → Event → NodeEvent → model.World
world_after_node_event w e what = comes w e (asked.Step what)

next_node : (w : model.World) (e : Event) (what : NodeEvent)
    → (world_after_node_event w e what).nodes (current w (place_of_name e.node)) ≡ (step (w.nodes (current w (place_of_name e.node))) what).node
unfolding world_with_step
next_node w e what = let same : (current w (place_of_name e.node) == current w (place_of_name e.node)) ≡ true = grind (arith, nat_tests) in rw same refl

numbers_left : (events accepted : ℕ) (all m : protocol.Node) → events < most_events_of_run → NodeNumbers events accepted all → IsEndOf all m → HasNumbersLeft m
numbers_left events accepted all m few lows is =
    let high = node_end_has_same_top all m is in
    let round = ap (λ (n : protocol.Node). n.core.promise.round) is.same in
    let last = ap (λ (n : protocol.Node). n.sends.last) is.same in
    record { entries = omega arith; rounds = omega arith; requests = omega arith }

-- what a step comes to is low, and isn't trimmed beyond the group list
next_low : (p : Play) (e : Event) (what : NodeEvent) (n : protocol.Node) → happens (replay p) e ≡ world_after_node_event (replay p) e what
    → IsEndOf (step ((replay p).nodes (current (replay p) (place_of_name e.node))) what).node n → CoreFrontsAreInOrder n.core → (n.core.base ≤ length (replay p).group)
    × (n.core.acc ≤ length p.events + 2)
next_low p e what n is end order =
    let w = replay p in
    let name = current w (place_of_name e.node) in
    let s = (step (w.nodes name) what).node in
    let now : (replay (play_after p e)).nodes name ≡ s = ap (λ (v : model.World). v.nodes name) (replay_with_next_event p e ∙ is) ∙ next_node w e what in
    let base = base_of_node_end s n end in
    let here : (happens w e).nodes name ≡ s = ap (λ (v : model.World). v.nodes name) is ∙ next_node w e what in
    let trimmed : s.core.base ≤ length w.group = subst (λ (m : protocol.Node). m.core.base ≤ length w.group) here (base_le_group_length p.rules p.events e) in
    let l = length-append p.events (e ∷ []) in
    let high = node_end_has_same_top s n end in
    let stored = (subst (NodeNumbers (length (p.events ++ e ∷ [])) (length (replay (play_after p e)).group)) now (node_numbers_le_run_length p.rules (p.events ++ e ∷ []) name)).entries in
    (omega arith, omega arith)

pub node_is_ready_at_place : (p : Play) (first : Rules) (nodes : List Node) (lives : List ℕ) (flags : List Bool) (records : List Record) (group : List Entry) (e : Event)
    (what : NodeEvent) (name stored room : ℕ)
    → play_of first records ≡ p → IsRun (play_of first records) nodes lives flags records group → length p.events < most_events_of_run
    → name ≡ current (replay p) (place_of_name e.node) → happens (replay p) e ≡ world_after_node_event (replay p) e what
    → stored ≡ length group → max (length p.events + 2) stored ≤ room → IsReadyAt nodes (place_of_name name) what stored room
node_is_ready_at_place p first nodes lives flags records group e what name stored room view ok few here is all_stored has_room = λ n at.
    let w = replay p in
    let place = place_of_name e.node in
    let within : place < 16 = omega arith in
    let was = play_shows_its_replay p first nodes lives flags records group view ok in
    let placed : place_of_name name ≡ place = ap place_of_name here ∙ place_of_name_at place (w.lives place) within in
    let stands = was.standing.each place n (ap (slice_get nodes) (sym placed) ∙ at) in
    let agreed = ap length was.agreed in
    record {
      numbers = numbers_left (length p.events) (length w.group) (w.nodes (current w place)) (state_of n) few (node_numbers_le_run_length p.rules p.events (current w place)) stands.0;
      grows = λ outcome letters m does order.
          let done = whole_step_comes_to_end (w.nodes (current w place)) (state_of n) m what outcome letters stands.0 stands.1 does in
          let lows = next_low p e what m is done.node order in
          (omega arith, omega arith);
    }

-- ---- after it

nodes_step : (w : model.World) (e : Event) (what : NodeEvent) (nodes more : List Node) (place : ℕ) (n : Node) → place < 16 → place ≡ place_of_name e.node
    → more ≡ slice_set nodes place n → NodeKeepsEndInOrder (step (w.nodes (current w place)) what).node (state_of n) → AreNodes nodes w → AreNodes more (world_after_node_event w e what)
unfolding world_with_step
nodes_step w e what nodes more place n within here placed kept h =
    let count = h.count in
    record {
      count = ap length placed ∙ length-set nodes place n ∙ count;
      each = λ i k at. go i k (ap (λ ns. slice_get ns i) (sym placed) ∙ at) (i == place) refl;
    }
  where
    go : (i : ℕ) (k : Node) → slice_get (slice_set nodes place n) i ≡ Some k → (b : Bool) → (i == place) ≡ b
        → NodeKeepsEndInOrder ((world_after_node_event w e what).nodes (current w i)) (state_of k)
    go i k at true t =
        let same_place : i ≡ place = grind (arith, nat_tests) in
        let count = h.count in
        let same : n ≡ k = slice_get_where_set nodes place n k (omega arith) (ap (slice_get (slice_set nodes place n)) (sym same_place) ∙ at) in
        let all : (world_after_node_event w e what).nodes (current w i) ≡ (step (w.nodes (current w place)) what).node =
        ap (λ j. (world_after_node_event w e what).nodes (current w j)) (same_place ∙ here) ∙ next_node w e what
        ∙ ap (λ j. (step (w.nodes (current w j)) what).node) (sym here) in
        subst (λ m. NodeKeepsEndInOrder m (state_of k)) (sym all) (subst (λ (x : Node). NodeKeepsEndInOrder (step (w.nodes (current w place)) what).node (state_of x)) same kept)
    go i k at false f =
        let other : i ≡ place → ⊥ = grind (arith, nat_tests) in
        let old = sym (slice_get_beside_set nodes place i n other) ∙ at in
        let inside = slice_get_some_below_length nodes i k old in
        let apart : (current w i == current w (place_of_name e.node)) ≡ false = grind (arith, nat_tests) in
        rw apart (h.each i k old)

follows_step : (w : model.World) (e : Event) (what : NodeEvent) (outcome : Outcome) (letters : List Letter) → happens w e ≡ world_after_node_event w e what
    → outcome ≡ (step (w.nodes (current w (place_of_name e.node))) what).outcome → letters ≡ (step (w.nodes (current w (place_of_name e.node))) what).letters
    → WorldFollowsEvent w (world_after_node_event w e what) e outcome letters
unfolding world_with_step
follows_step w e what outcome letters is answer sent = record {
  happens_ = is;
  records = ap (λ o. w.records ++ record_of w e o (step (w.nodes (current w (place_of_name e.node))) what).letters ∷ []) (sym answer)
      ∙ ap (λ ls. w.records ++ record_of w e outcome ls ∷ []) (sym sent);
  letters_ = ap (λ ls. w.letters ++ ls) (sym sent);
}

lives_step : (w : model.World) (e : Event) (what : NodeEvent) (lives : List ℕ) → AreLives lives w → AreLives lives (world_after_node_event w e what)
unfolding world_with_step
lives_step w e what lives h = record { count = h.count; each = h.each; within = h.within }

flags_step : (w : model.World) (e : Event) (what : NodeEvent) (flags : List Bool) → AreFlags flags w → AreFlags flags (world_after_node_event w e what)
unfolding world_with_step
flags_step w e what flags h = record { count = h.count; each = h.each }

group_step : (w : model.World) (e : Event) (what : NodeEvent)
    → (world_after_node_event w e what).group ≡ list_after_step w.group (step (w.nodes (current w (place_of_name e.node))) what).node
unfolding world_with_step
group_step w e what = refl

pub act_carries_play_on : (p : Play) (first founding : Rules) (nodes more : List Node) (lives : List ℕ) (flags : List Bool) (records pushed : List Record)
    (group longer : List Entry) (e : Event) (what : NodeEvent) (outcome : Outcome) (letters : List Letter) (name : ℕ)
    → play_of first records ≡ p → IsRun (play_of first records) nodes lives flags records group → length p.events < most_events_of_run
    → name ≡ current (replay p) (place_of_name e.node) → StepsAt nodes more group longer (place_of_name name) what outcome letters
    → EventIsRecorded (replay p) e outcome letters first founding records pushed → happens (replay p) e ≡ world_after_node_event (replay p) e what
    → IsRun (play_of founding pushed) more lives flags pushed longer × EventIsAnswered p e outcome
act_carries_play_on p first founding nodes more lives flags records pushed group longer e what outcome letters name view ok few here steps recorded is =
    let w = replay p in
    let place = place_of_name e.node in
    let within : place < 16 = omega arith in
    let was = play_shows_its_replay p first nodes lives flags records group view ok in
    let short : length group ≤ 1 + length p.events = subst (λ (q : Play). length group ≤ 1 + length q.events) view ok.short in
    let placed : place_of_name name ≡ place = ap place_of_name here ∙ place_of_name_at place (w.lives place) within in
    let m = w.nodes (current w place) in
    let new = state_of steps.next in
    let stands = was.standing.each place steps.before (ap (slice_get nodes) (sym placed) ∙ steps.there) in
    let done = whole_step_comes_to_end m (state_of steps.before) new what outcome letters stands.0 stands.1 steps.does in
    let lows = next_low p e what new is done.node steps.order in
    let base_low : new.core.base ≤ length group = subst (λ g. new.core.base ≤ length g) (sym was.agreed) lows.0 in
    world_that_follows_carries_on p first founding nodes more lives lives flags flags records pushed group longer e outcome letters (world_after_node_event w e what) view ok few recorded
    (follows_step w e what outcome letters is done.answer done.sent)
    (nodes_step w e what nodes more place steps.next within refl (steps.placed ∙ ap (λ k. slice_set nodes k steps.next) placed) (
      done.node,
      steps.order,
    ) was.standing)
    (lives_step w e what lives was.living) (flags_step w e what flags was.stopped)
    (steps.grows ∙ group_end group (step m what).node new done.node base_low ∙ ap (λ g. list_after_step g (step m what).node) was.agreed
    ∙ sym (group_step w e what))
    (subst (λ g. length g ≤ 2 + length p.events) (sym steps.grows) (group_short group new (2 + length p.events) (omega arith) (let a = lows.1 in omega arith)))
