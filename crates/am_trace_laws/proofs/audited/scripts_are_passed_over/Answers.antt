use Rattle.am_trace_laws.proofs.Scripts.{scripts_are_passed_over}
use Rattle.am_trace_laws.proofs.audited.scripts_are_passed_over.Goals as goal

pub returns : goal.returns
returns c = scripts_are_passed_over
