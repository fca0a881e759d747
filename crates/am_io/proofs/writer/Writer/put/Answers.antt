use Rattle.std.proofs.Output.{writes_in_calls_single}
use Rattle.am_io.proofs.writer.Writer.put.Goals as goal

pub returns : goal.returns
returns g c = writes_in_calls_single g.Self.Writer.writes _ _ _ c.write_words.ensures
