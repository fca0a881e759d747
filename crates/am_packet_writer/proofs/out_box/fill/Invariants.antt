use Rattle.std.proofs.Common.{◌≤◌, vec_len}
use Rattle.am_packet_writer.proofs.out_box.fill.Given as goal

abbrev pub invariant-loop-count : goal.invariant-loop-count
invariant-loop-count l = l._count ≤ vec_len l.rooms
