use Rattle.std.proofs.Common.{sym, ap, ◌∙◌}
use Rattle.std.specs.Option.{is_none}
use Rattle.am_packet_writer.proofs.Nobody.{lowest_of_nobody}
use Rattle.am_packet_writer.proofs.out_box.has_nobody.Goals as goal

pub returns-in-Some : goal.returns-in-Some
returns-in-Some c = ap is_none (sym c.in-Some.is ∙ c.lowest.ensures.value) ∙ lowest_of_nobody c.args.set

pub returns-in-None : goal.returns-in-None
returns-in-None c = ap is_none (sym c.in-None.is ∙ c.lowest.ensures.value) ∙ lowest_of_nobody c.args.set
