use Rattle.am_trace_laws.proofs.{RacedBodies.race_sends_have_planned_bodies, RacedScripts.races_have_scripts}
use Rattle.am_trace_laws.proofs.scripted.races_have_scripts.Goals as goal

pub returns : goal.returns
returns c = record { bodies = race_sends_have_planned_bodies; events = races_have_scripts }
