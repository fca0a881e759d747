use Rattle.std.proofs.Common.{◌≡◌, ◌-◌}
use Rattle.am_base.specs.Names.{lives_are_within_mask}
use Rattle.am_base.proofs.names.are_parts.Given as goal

abbrev pub invariant-loop-step : goal.invariant-loop-step
invariant-loop-step l = lives_are_within_mask (16 - l.step) l.bits l.rest ≡ lives_are_within_mask 16 l.fn.mask l.fn.lives
