use Rattle.std.proofs.Common.{arith}
use Rattle.am_base.proofs.Places.{sixteen_items_are_by_place}
use Rattle.am_base.proofs.names.Names.minus.Goals as goal

pub returns : goal.returns
returns c = rw (← c.self.view_is, ← c.other.view_is) (sixteen_items_are_by_place _ c.loop-place.lives 0 c.loop-place.invariant.long
    (λ k h. c.loop-place.invariant.filled k (omega arith)))
