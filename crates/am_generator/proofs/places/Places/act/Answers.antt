use Rattle.am_world.proofs.Words.{◌≡◌, ◌++◌, List, Some, length, slice_get, slice_index_or, slice_set, ap, ◌∙◌, arith, place_of_name, ℕ}
use Rattle.am_world.proofs.Words.{Node, state_of}
use Rattle.am_world.proofs.Spots.{slice_get_of_read_item}
use Rattle.am_generator.proofs.places.Places.act.Goals as goal

-- the node of an index that is a name's place
there : (nodes : List Node) (name i : ℕ) (n : Node) → length nodes ≡ 16 → i ≡ place_of_name name → n ≡ slice_index_or nodes i n
    → slice_get nodes (place_of_name name) ≡ Some n
there nodes name i n count at is = slice_get_of_read_item nodes i (place_of_name name) n at (omega arith) is

pub act_in_box-requires : goal.act_in_box-requires
act_in_box-requires c =
    let nodes = c.args.self.now.nodes.items in
    record {
      numbers = (c.requires.ready c.index_mut-node.result.now (there nodes c.args.name c.from.result c.index_mut-node.result.now c.requires.places
          (c.from.ensures ∙ c.place.ensures.value) c.index_mut-node.ensures.value)).numbers;
    }

pub grow-requires : goal.grow-requires
grow-requires c =
    let nodes = c.args.self.now.nodes.items in
    let room = c.in_ok-make_room.ensures.room in
    let stored = c.make_room.ensures.stored in
    let long = c.args.self.now.group.ok.0 in
    let grows = (c.requires.ready c.index_mut-node.result.now (there nodes c.args.name c.from.result c.index_mut-node.result.now c.requires.places
    (c.from.ensures ∙ c.place.ensures.value) c.index_mut-node.ensures.value)).grows
    c.in_ok-outcome.outcome c.in_ok-outcome.out (state_of c.act_in_box.new.self) c.in_ok-outcome.ensures.does c.in_ok-outcome.ensures.order.1 in
    record { base = omega (arith, grows.0); room = omega (arith, grows.1) }

pub returns-clause-moves : goal.returns-clause-moves
returns-clause-moves c =
    let nodes = c.args.self.now.nodes.items in
    let place = c.from.ensures ∙ c.place.ensures.value in
    record {
      sent = c.in_ok-outcome.out;
      few = c.in_ok-outcome.ensures.few;
      steps = record {
        before = c.index_mut-node.result.now;
        next = c.act_in_box.new.self;
        there = there nodes c.args.name c.from.result c.index_mut-node.result.now c.requires.places place c.index_mut-node.ensures.value;
        placed = ap (λ i. slice_set nodes i c.act_in_box.new.self) place;
        does = c.in_ok-outcome.ensures.does;
        order = c.in_ok-outcome.ensures.order.1;
        grows = rw (← c.make_room.ensures.items) c.grow.ensures;
      };
      letters = c.append_to.ensures.items ∙ ap (λ ls. ls ++ c.in_ok-outcome.out) c.reserve.ensures.items;
    }
