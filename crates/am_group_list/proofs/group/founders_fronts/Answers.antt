use Rattle.std.proofs.Common.{arith}
use Rattle.am_group_list.proofs.Fronts.{fronts_filled_are_founders_fronts}
use Rattle.am_group_list.proofs.group.founders_fronts.Goals as goal

pub returns : goal.returns
returns c = fronts_filled_are_founders_fronts c.args.founders c.loop-name.fronts c.loop-name.invariant.long (λ k h. c.loop-name.invariant.filled k (omega arith))
