use Rattle.std.proofs.Common.{◌≡◌, Some}
use Rattle.am_packet.specs.Boxes.{Letter}
use Rattle.am_group.specs.Journals.{letter_at}
use Rattle.am_world.specs.Runs.{replay}
use Rattle.am_world.proofs.Ways.{DidHearingsUpToPlace}
use Rattle.am_world.proofs.settle.hear_letter.Given as goal

abbrev pub invariant-loop-place : goal.invariant-loop-place
invariant-loop-place l = (letter : Letter) → letter_at (replay l.fn.world).letters l.number ≡ Some letter → DidHearingsUpToPlace l.number letter l.place l.fn.world l.world
