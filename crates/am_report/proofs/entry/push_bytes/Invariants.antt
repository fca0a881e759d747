use Rattle.std.proofs.Common.{length}
use Rattle.std.specs.List.{flat_map}
use Rattle.am_io.specs.Writers.{IsLeftToWrite}
use Rattle.am_group_defs.specs.Text.{hex_byte}
use Rattle.am_report.proofs.entry.push_bytes.Given as goal

abbrev pub invariant-chunks : goal.invariant-chunks
invariant-chunks g l = IsLeftToWrite g.O.Writer.writes l.fn.out (flat_map hex_byte l.fn.bytes) l.out (flat_map hex_byte l.rest)

abbrev pub decreases-chunks : goal.decreases-chunks
decreases-chunks g l = length l.rest
