use Rattle.std.proofs.Common.{◌≡◌, ◌++◌, take}
use Rattle.am_packet.specs.Spelling.{rows_bytes}
use Rattle.am_packet_writer.proofs.writer.put_rows.Given as goal

abbrev pub invariant-loop-row : goal.invariant-loop-row
invariant-loop-row l = l.into ≡ l.initial.into ++ rows_bytes (take l.row-index l.rows)
