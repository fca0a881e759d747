use Rattle.am_world.proofs.Words.{◌≡◌, ◌+◌, ◌<◌, ◌≤◌, ℕ, Bool, List, Some, max, length, slice_get, slice_index_or, slice_set, vec_len, vec_capacity, ap, ◌∙◌}
use Rattle.am_world.proofs.Words.{arith, most_events_of_run, place_of_name, Rules, Entry, NodeEvent, Event, Record, current, happens, Node, state_of}
use Rattle.am_world.proofs.Words.{WorldIsReady, Play, IsRun, play_of, replay, EventIsAnswered, record_without_caller}
use Rattle.am_world.proofs.{Spots.slice_get_of_read_item, Goes.event_is_recorded_in_play, Goes.lives_of_replay_are_kept, Goes.events_as_many_as_records, Acts.node_is_ready_at_place, Acts.world_after_node_event, Acts.act_carries_play_on}
use Rattle.am_world.proofs.{run.Run.act.Goals.After-push}
use Rattle.am_world.proofs.run.Run.act.Goals as goal

-- the node of an index that is a name's place
there : (nodes : List Node) (name i : ℕ) (n : Node) → length nodes ≡ 16 → i ≡ place_of_name name → n ≡ slice_index_or nodes i n
    → slice_get nodes (place_of_name name) ≡ Some n
there nodes name i n count at is = slice_get_of_read_item nodes i (place_of_name name) n at (omega arith) is

-- it is ready for its step, and the group list for what comes of that
ready : (p : Play) (first : Rules) (nodes : List Node) (lives : List ℕ) (flags : List Bool) (records : List Record) (group : List Entry) (e : Event)
    (what : NodeEvent) (name i stored room : ℕ) (n : Node) → play_of first records ≡ p → IsRun (play_of first records) nodes lives flags records group
    → length p.events < most_events_of_run → name ≡ current (replay p) (place_of_name e.node) → happens (replay p) e ≡ world_after_node_event (replay p) e what
    → stored ≡ length group → max (length records + 2) stored ≤ room → i ≡ place_of_name name → n ≡ slice_index_or nodes i n
    → WorldIsReady (state_of n) what stored room
ready p first nodes lives flags records group e what name i stored room n view ok few here is all_stored has_room at found =
    let events : length p.events ≡ length records = events_as_many_as_records p first records view in
    node_is_ready_at_place p first nodes lives flags records group e what name stored room view ok few here is all_stored (omega arith) n
    (there nodes name i n ok.shows.standing.count at found)

pub act-requires : goal.act-requires
act-requires c =
    let w = c.self.inside in
    let group = c.make_room.new.group in
    let kept = ap length c.records.ensures.value in
    let room = c.in_ok-make_room.ensures.room in
    record {
      numbers = (ready c.args.self.now w.journal.founding w.nodes.items w.lives w.stopped w.journal.records w.group.items
          c.args.event.now c.args.what.now c.args.name c.from.result (vec_len group) (vec_capacity group) c.index_mut-node.result.now
          c.self.view_is c.self.invariant c.requires.few c.requires.name c.requires.comes (c.make_room.ensures.stored ∙ w.group.ok.0) (omega arith)
          (c.from.ensures ∙ c.place.ensures.value) c.index_mut-node.ensures.value).numbers;
    }

pub grow-requires : goal.grow-requires
grow-requires c =
    let w = c.self.inside in
    let group = c.make_room.new.group in
    let kept = ap length c.records.ensures.value in
    let room = c.in_ok-make_room.ensures.room in
    let grows = (ready c.args.self.now w.journal.founding w.nodes.items w.lives w.stopped w.journal.records w.group.items
    c.args.event.now c.args.what.now c.args.name c.from.result (vec_len group) (vec_capacity group)
    c.index_mut-node.result.now c.self.view_is c.self.invariant c.requires.few c.requires.name c.requires.comes (c.make_room.ensures.stored ∙ w.group.ok.0)
    (omega arith) (c.from.ensures ∙ c.place.ensures.value) c.index_mut-node.ensures.value).grows
    c.in_ok-outcome.outcome c.in_ok-outcome.packets (state_of c.act.new.self) c.in_ok-outcome.ensures.does c.in_ok-outcome.ensures.order.1 in
    record { base = grows.0; room = grows.1 }

made : (c : After-push)
    → IsRun (play_of c.push.new.self.founding c.push.new.self.records) (slice_set c.self.inside.nodes.items c.from.result c.act.new.self)
    c.self.inside.lives c.self.inside.stopped c.push.new.self.records c.grow.new.group.items × EventIsAnswered c.args.self.now c.args.event.now c.in_ok-outcome.outcome
made c =
    let w = c.self.inside in
    let p = c.args.self.now in
    let place = c.from.ensures ∙ c.place.ensures.value in
    let living = lives_of_replay_are_kept p w.journal.founding w.nodes.items w.lives w.stopped w.journal.records w.group.items c.self.view_is c.self.invariant in
    act_carries_play_on p w.journal.founding c.push.new.self.founding w.nodes.items (slice_set w.nodes.items c.from.result c.act.new.self) w.lives w.stopped
    w.journal.records c.push.new.self.records w.group.items c.grow.new.group.items c.args.event.now c.args.what.now c.in_ok-outcome.outcome
    c.in_ok-outcome.packets c.args.name c.self.view_is c.self.invariant c.requires.few c.requires.name
    (record {
      before = c.index_mut-node.result.now;
      next = c.act.new.self;
      there = there w.nodes.items c.args.name c.from.result c.index_mut-node.result.now c.self.invariant.shows.standing.count place
          c.index_mut-node.ensures.value;
      placed = ap (λ i. slice_set w.nodes.items i c.act.new.self) place;
      does = c.in_ok-outcome.ensures.does;
      order = c.in_ok-outcome.ensures.order.1;
      grows = rw (← c.make_room.ensures.items) c.grow.ensures;
    })
    (event_is_recorded_in_play (replay p) c.args.event.now c.in_ok-outcome.outcome c.in_ok-outcome.packets living c.requires.name c.life.ensures.value
    (c.record_of.ensures ∙ ap (λ (e : Event). record_without_caller e c.life.result c.in_ok-outcome.outcome c.in_ok-outcome.packets) c.in_ok-done.ensures.copy) (c.push.ensures.founding
    ∙ c.copy_for.ensures.founding) c.copy_for.ensures.records c.push.ensures.records)
    c.requires.comes

pub invariant_of-self-2 : goal.invariant_of-self-2
invariant_of-self-2 c = (made c).0

pub returns-clause-one : goal.returns-clause-one
returns-clause-one c = (c.in_ok-outcome.outcome, (made c).1)
