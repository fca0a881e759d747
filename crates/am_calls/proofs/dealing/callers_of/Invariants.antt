use Rattle.std.proofs.Common.{◌≡◌, length}
use Rattle.am_race_laws.specs.Ran.{fresh_callers}
use Rattle.am_calls.proofs.dealing.callers_of.Given as goal

abbrev pub invariant-loop-share : goal.invariant-loop-share
invariant-loop-share g l = l.callers.items ≡ fresh_callers (length l.yielded)
