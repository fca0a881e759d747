use Rattle.am_step_laws.proofs.Hearing.{hearing_has_effects}
use Rattle.am_step_laws.proofs.step_effects.each_hearing_has_its_effect.Goals as goal

pub returns : goal.returns
returns c = hearing_has_effects
