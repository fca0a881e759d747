use Rattle.am_node_calls.proofs.Words.{node_of, new_sends_keep_node_order}
use Rattle.am_node_calls.proofs.Changes.{submitted_sends_may_be_held}
use Rattle.am_node_calls.proofs.changing.submit.Goals as goal

pub invariant_of-parts : goal.invariant_of-parts
invariant_of-parts c = record {
  keeps = new_sends_keep_node_order (node_of c.args.parts.now) c.submit.new.self
      (submitted_sends_may_be_held (node_of c.args.parts.now) c.submit.new.self c.args.parts.now.keeps c.requires.member c.requires.stays c.submit.ensures.next)
      c.args.parts.now.keeps;
}
