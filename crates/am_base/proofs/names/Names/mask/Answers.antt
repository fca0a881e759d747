use Rattle.std.proofs.Common.{◌-◌, arith}
use Rattle.std.proofs.lemmas.Bool.Decides.{nat_tests}
use Rattle.am_base.proofs.Masks.{mask_of_drop_step, mask_of_drop_sixteen, digit_and_number_below_power}
use Rattle.am_base.proofs.names.Names.mask.Goals as goal

pub loop-place-init : goal.loop-place-init
loop-place-init c = record { kept = mask_of_drop_sixteen c.self.inside.lives (omega (arith, c.self.invariant.places)); fits = omega arith }

pub loop-place-preserved : goal.loop-place-preserved
loop-place-preserved c = record {
  kept = rw c.bit_of.ensures (mask_of_drop_step c.self.inside.lives c.loop-place.place c.loop-place.mask (omega arith)
      (omega (arith, c.self.invariant.places)) c.loop-place.invariant.kept);
  fits = digit_and_number_below_power 2 (16 - c.loop-place.place) _ _ _ (omega arith) (rw c.bit_of.ensures (grind (arith, nat_tests))) c.loop-place.invariant.fits;
}
