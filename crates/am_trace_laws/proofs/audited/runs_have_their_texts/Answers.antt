use Rattle.am_trace_laws.proofs.Agree.{runs_have_their_texts}
use Rattle.am_trace_laws.proofs.audited.runs_have_their_texts.Goals as goal

pub returns : goal.returns
returns c = runs_have_their_texts
