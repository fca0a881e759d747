use Rattle.std.proofs.Common.{◌≡◌, length, vec_len}
use Rattle.am_calls.proofs.dealing.boxes_of.Given as goal

abbrev pub invariant-loop-pass : goal.invariant-loop-pass
invariant-loop-pass g l = vec_len l.boxes ≡ length l.yielded
