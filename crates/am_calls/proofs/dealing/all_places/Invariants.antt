use Rattle.std.proofs.Common.{◌≡◌, ◌+◌, length}
use Rattle.am_race_laws.specs.Ran.{HasPlaces}
use Rattle.am_calls.proofs.dealing.all_places.Given as goal

abbrev pub invariant-loop-other : goal.invariant-loop-other
invariant-loop-other g l = (l.place ≡ length l.yielded + 1) × (l.pass.wire ≡ g.N.Racing.wire) × HasPlaces l.place l.pass
