use Rattle.am_bytes.proofs.Spelled.{spelled_events_are_read}
use Rattle.am_bytes.proofs.laws.events_are_read.Goals as goal

pub returns : goal.returns
returns c = spelled_events_are_read
