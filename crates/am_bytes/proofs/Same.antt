-- An event and a line that ask the same are answered by what comes of the same.
use Rattle.std.proofs.Common.{◌≡◌, refl, ap}
use Rattle.am_node_lines.specs.declared.line.Line.{Line}
use Rattle.am_node_lines.specs.Answers.{reply_to, line_answer}
use Rattle.am_bytes.specs.Answers.{event_answer}
use Rattle.am_bytes.specs.Laws.{in_words, EventsAreLines}

pub events_are_asked_as_lines : EventsAreLines
unfolding line_answer event_answer
events_are_asked_as_lines rules m text bytes same = (ap (λ (l : Line). in_words rules (reply_to m l)) same, refl)
