use Rattle.am_step_laws.proofs.Hearing.{refusing_has_effects}
use Rattle.am_step_laws.proofs.step_effects.each_refusal_has_its_effect.Goals as goal

pub returns : goal.returns
returns c = refusing_has_effects
