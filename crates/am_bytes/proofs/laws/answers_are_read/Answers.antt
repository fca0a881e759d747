use Rattle.am_bytes.proofs.Told.{spelled_answers_are_read}
use Rattle.am_bytes.proofs.laws.answers_are_read.Goals as goal

pub returns : goal.returns
returns c = spelled_answers_are_read
