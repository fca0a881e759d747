use Rattle.am_world.proofs.Words.{ap, ◌∙◌, arith, Rules, first_node}
use Rattle.am_world.proofs.Begins.{first_nodes_with_one_more}
use Rattle.am_world.proofs.run.sixteen.Goals as goal

pub loop-place-preserved : goal.loop-place-preserved
loop-place-preserved c = record {
  first = rw c.push_reserved.ensures.items
      (first_nodes_with_one_more c.args.founding.now c.loop-place.place c.loop-place.nodes.items c.begin_in-node.result c.loop-place.invariant.first (c.begin_in-node.ensures
      ∙ ap (λ (r : Rules). first_node r c.of_byte.result) c.in_ok-room.ensures ∙ ap (first_node c.args.founding.now) c.of_byte.ensures));
  count = omega (arith, c.push_reserved.ensures.len, c.loop-place.invariant.count);
  room = c.push_reserved.ensures.capacity ∙ c.loop-place.invariant.room;
}
