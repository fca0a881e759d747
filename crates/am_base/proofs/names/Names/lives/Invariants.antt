use Rattle.std.proofs.Common.{◌≡◌, ◌<◌, ◌-◌, ◌^◌, drop}
use Rattle.am_base.specs.Names.{lives_of_names}
use Rattle.am_base.proofs.names.Names.lives.Given as goal

abbrev pub invariant-loop-place : goal.invariant-loop-place
invariant-loop-place l = record {
  kept : l.lives ≡ lives_of_names (drop l.place l.self-inside.lives);
  fits : l.lives < 16 ^ (16 - l.place);
}
