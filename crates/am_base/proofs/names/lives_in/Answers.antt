use Rattle.std.proofs.Common.{◌∙◌, arith}
use Rattle.std.proofs.lemmas.List.{length-set}
use Rattle.am_base.proofs.Masks.{fill_next_place_of_mask, places_are_filled_at_sixteen}
use Rattle.am_base.proofs.names.lives_in.Goals as goal

pub loop-place-preserved : goal.loop-place-preserved
loop-place-preserved c = record {
  long = rw length-set c.loop-place.invariant.long;
  filled = rw c.life_in.ensures (fill_next_place_of_mask c.loop-place.set c.loop-place.place c.loop-place.bits c.loop-place.rest c.loop-place.invariant.long (omega arith)
      ∙ c.loop-place.invariant.filled);
}

pub returns : goal.returns
returns c = places_are_filled_at_sixteen _ _ c.loop-place.place c.loop-place.bits c.loop-place.rest c.loop-place.invariant.long (omega arith) c.loop-place.invariant.filled
