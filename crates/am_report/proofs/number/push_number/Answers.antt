use Rattle.std.proofs.Common.{subst}
use Rattle.std.specs.Fmt.{WritesInCalls}
use Rattle.am_report.proofs.number.push_number.Goals as goal

pub returns : goal.returns
returns g c = subst (λ words. WritesInCalls g.O.Writer.writes c.args.out.now words c.put.new.self) c.format.ensures.text c.put.ensures
