use Rattle.am_model_laws.proofs.Held.{send_held_exactly_if_full, each_send_is_answered}
use Rattle.am_model_laws.proofs.laws.steps.Goals as goal

pub returns-clause-held : goal.returns-clause-held
returns-clause-held c = send_held_exactly_if_full

pub returns-clause-answered : goal.returns-clause-answered
returns-clause-answered c = each_send_is_answered
