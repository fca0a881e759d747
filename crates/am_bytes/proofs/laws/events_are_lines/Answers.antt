use Rattle.am_bytes.proofs.Same.{events_are_asked_as_lines}
use Rattle.am_bytes.proofs.laws.events_are_lines.Goals as goal

pub returns : goal.returns
returns c = events_are_asked_as_lines
