use Rattle.std.proofs.Common.{refl}
use Rattle.am_io.proofs.Writers.{two_words_written_in_calls}
use Rattle.am_report.proofs.number.push_behind.Goals as goal

pub returns : goal.returns
returns g c = two_words_written_in_calls g.O.Writer.writes _ _ _ _ _ _ c.put.ensures c.push_number.ensures refl
