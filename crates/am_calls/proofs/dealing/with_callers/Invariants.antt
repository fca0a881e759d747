use Rattle.std.proofs.Common.{◌≡◌, All}
use Rattle.am_race_laws.specs.Ran.{HasPlaces, IsIn}
use Rattle.am_calls.proofs.dealing.with_callers.Given as goal

abbrev pub invariant-loop-caller : goal.invariant-loop-caller
invariant-loop-caller g l = (l.pass.wire ≡ g.N.Racing.wire) × HasPlaces 16 l.pass × All (IsIn g.N.Racing.plan l.pass) l.yielded
