use Rattle.std.proofs.Common.{refl}
use Rattle.am_io.proofs.Writers.{three_words_written_in_calls}
use Rattle.am_report.proofs.lines.push_entry_end.Goals as goal

pub returns : goal.returns
returns g c = three_words_written_in_calls g.O.Writer.writes _ _ _ _ _ _ _ _ c.put.ensures c.push_entry.ensures c.put-2.ensures refl
