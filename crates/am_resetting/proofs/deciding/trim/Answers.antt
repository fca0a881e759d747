use Rattle.am_resetting.proofs.DecidingWords.{node_of}
use Rattle.am_resetting.proofs.Nodes.{node_keeps_by_trim, trimmed_core_is_steady}
use Rattle.am_resetting.proofs.deciding.trim.Goals as goal

pub invariant_of-parts : goal.invariant_of-parts
invariant_of-parts c = record {
  keeps = node_keeps_by_trim (node_of c.args.parts.now) c.trim_to.new.self c.args.base c.requires.order.kept c.trim_to.ensures.keeps
      c.args.parts.now.keeps;
}

pub returns-clause-steady : goal.returns-clause-steady
returns-clause-steady c = trimmed_core_is_steady (node_of c.args.parts.now) c.trim_to.new.self c.args.base c.requires.order.kept c.trim_to.ensures.keeps
