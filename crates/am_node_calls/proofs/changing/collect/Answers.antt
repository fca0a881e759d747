use Rattle.am_node_calls.proofs.Words.{node_of, new_sends_keep_node_order}
use Rattle.am_node_calls.proofs.Changes.{collected_sends_may_be_held}
use Rattle.am_node_calls.proofs.changing.collect.Goals as goal

pub invariant_of-parts : goal.invariant_of-parts
invariant_of-parts c = record {
  keeps = new_sends_keep_node_order (node_of c.args.parts.now) c.collect.new.self
      (collected_sends_may_be_held (node_of c.args.parts.now) c.args.req c.collect.new.self c.args.parts.now.keeps c.collect.ensures.rest c.collect.ensures.next)
      c.args.parts.now.keeps;
}
