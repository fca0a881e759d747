use Rattle.std.proofs.Common.{sym, ap}
use Rattle.am_io.proofs.Writers.{two_words_written_in_calls}
use Rattle.am_report.specs.Names.{listed_text}
use Rattle.am_report.proofs.name.push_listed.Goals as goal

pub returns : goal.returns
returns g c = two_words_written_in_calls g.O.Writer.writes _ _ _ _ _ _ c.put.ensures c.push_name-2.ensures (sym (ap (λ b. listed_text b c.args.name) c.if-first.false))
