use Rattle.am_trace_laws.proofs.Agree.{lawful_texts_agree}
use Rattle.am_trace_laws.proofs.audited.lawful_texts_agree.Goals as goal

pub returns : goal.returns
returns c = lawful_texts_agree
