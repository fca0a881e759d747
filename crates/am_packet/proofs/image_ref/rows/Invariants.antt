use Rattle.std.proofs.Common.{◌≡◌, ◌+◌, ◌-◌, ◌*◌, ◌++◌, length, take}
use Rattle.am_packet.specs.Images.{rows_in}
use Rattle.am_packet.proofs.image_ref.rows.Given as goal

abbrev pub invariant-loop-place : goal.invariant-loop-place
invariant-loop-place l = record {
  long : length l.rows ≡ 16;
  read : take l.place l.rows ++ rows_in (16 - l.place) l.bytes (l.at + 13 * l.place) ≡ rows_in 16 l.bytes l.at;
}
