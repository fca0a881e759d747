use Rattle.std.proofs.Common.{◌-◌, ◌<◌, ◌≤◌, ◌^◌, get_or, arith}
use Rattle.am_base.proofs.Masks.{lives_of_drop_step, lives_of_drop_sixteen, digit_and_number_below_power, number_below_greater_power}
use Rattle.am_base.proofs.names.Names.lives.Goals as goal

pub loop-place-init : goal.loop-place-init
loop-place-init c = record { kept = lives_of_drop_sixteen c.self.inside.lives (omega (arith, c.self.invariant.places)); fits = omega arith }

pub overflow_mul-lives : goal.overflow_mul-lives
overflow_mul-lives c =
    let few : c.loop-place.lives < 16 ^ 15 = number_below_greater_power 16 16 c.loop-place.place c.loop-place.lives (omega arith) (omega arith)
    (omega arith) c.loop-place.invariant.fits in
    omega (arith, few)

pub overflow_add-lives : goal.overflow_add-lives
overflow_add-lives c =
    let few : c.loop-place.lives < 16 ^ 15 = number_below_greater_power 16 16 c.loop-place.place c.loop-place.lives (omega arith) (omega arith)
    (omega arith) c.loop-place.invariant.fits in
    let life : get_or c.self.inside.lives (c.loop-place.place - 1) 0 ≤ 16 =
    c.self.invariant.lives (c.loop-place.place - 1) (omega (arith, c.self.invariant.places)) in
    omega (arith, few, life, c.from.ensures, c.saturating_sub.ensures)

pub loop-place-preserved : goal.loop-place-preserved
loop-place-preserved c =
    let life : get_or c.self.inside.lives (c.loop-place.place - 1) 0 ≤ 16 =
    c.self.invariant.lives (c.loop-place.place - 1) (omega (arith, c.self.invariant.places)) in
    record {
      kept = rw (c.from.ensures, c.saturating_sub.ensures) (lives_of_drop_step c.self.inside.lives c.loop-place.place c.loop-place.lives (omega arith)
          (omega (arith, c.self.invariant.places)) c.loop-place.invariant.kept);
      fits = digit_and_number_below_power 16 (16 - c.loop-place.place) _ _ _ (omega arith)
          (omega (arith, life, c.from.ensures, c.saturating_sub.ensures)) c.loop-place.invariant.fits;
    }
