use Rattle.am_step_laws.proofs.Hearing.{steps_have_effects}
use Rattle.am_step_laws.proofs.step_effects.each_step_has_its_effect.Goals as goal

pub returns : goal.returns
returns c = steps_have_effects
