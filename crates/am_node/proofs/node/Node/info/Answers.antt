use Rattle.std.proofs.Common.{◌∙◌}
use Rattle.am_node.specs.Stands.{state_of}
use Rattle.am_node.proofs.Told.{info_of_end_is_info}
use Rattle.am_node.proofs.node.Node.info.Goals as goal

pub returns-clause-tells : goal.returns-clause-tells
returns-clause-tells c = λ all end. c.info_of.ensures ∙ info_of_end_is_info all (state_of c.args.self.now) end
