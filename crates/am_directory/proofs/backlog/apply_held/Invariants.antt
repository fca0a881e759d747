use Rattle.std.proofs.Common.{◌≡◌, take}
use Rattle.am_service_defs.specs.Replicas.{apply_held}
use Rattle.am_directory.specs.Holding.{held_in}
use Rattle.am_directory.proofs.backlog.apply_held.Given as goal

abbrev pub invariant-loop-at : goal.invariant-loop-at
invariant-loop-at l = l.directory ≡ apply_held l.initial.directory (held_in (take l.at l.held))
