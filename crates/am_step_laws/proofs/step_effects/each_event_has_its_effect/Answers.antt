use Rattle.am_step_laws.proofs.Events.{events_have_effects}
use Rattle.am_step_laws.proofs.step_effects.each_event_has_its_effect.Goals as goal

pub returns : goal.returns
returns c = events_have_effects
