use Rattle.std.proofs.Common.{◌≡◌, ◌<◌, ◌-◌, ◌^◌, drop}
use Rattle.am_base.specs.Names.{mask_of_names}
use Rattle.am_base.proofs.names.Names.mask.Given as goal

abbrev pub invariant-loop-place : goal.invariant-loop-place
invariant-loop-place l = record {
  kept : l.mask ≡ mask_of_names (drop l.place l.self-inside.lives);
  fits : l.mask < 2 ^ (16 - l.place);
}
