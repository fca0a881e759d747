use Rattle.std.proofs.Common.{◌≡◌, ◌-◌, ◌++◌, length, take}
use Rattle.am_base.specs.Names.{places_by_mask}
use Rattle.am_base.proofs.names.lives_in.Given as goal

abbrev pub invariant-loop-place : goal.invariant-loop-place
invariant-loop-place l = record {
  long : length l.set ≡ 16;
  filled : take l.place l.set ++ places_by_mask (16 - l.place) l.bits l.rest ≡ places_by_mask 16 l.fn.mask l.fn.lives;
}
