use Rattle.std.proofs.Common.{◌≡◌, drop}
use Rattle.am_base.specs.Names.{lowest_name_of, first_name_of, names_from}
use Rattle.am_base.proofs.names.Names.lowest.Given as goal

abbrev pub invariant-loop-place : goal.invariant-loop-place
invariant-loop-place l = lowest_name_of l.self-inside.lives ≡ first_name_of (names_from l.place (drop l.place l.self-inside.lives))
