use Rattle.std.proofs.Common.{◌≡◌, ◌+◌, ◌-◌, ◌*◌, length, take}
use Rattle.am_packet.specs.Reading.{rows_at}
use Rattle.am_packet_reader.proofs.Rows.{read_of_rows_after_front}
use Rattle.am_packet_reader.proofs.field_reader.rows.Given as goal

abbrev pub invariant-loop-place : goal.invariant-loop-place
invariant-loop-place l = record {
  long : length l.rows ≡ 16;
  read : read_of_rows_after_front (take l.place l.rows) (rows_at (16 - l.place) l.bytes (l.at + 13 * l.place)) ≡ rows_at 16 l.bytes l.at;
}
