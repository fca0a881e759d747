use Rattle.std.proofs.Common.{refl}
use Rattle.am_io.proofs.Writers.{two_words_written_in_calls, three_words_written_in_calls}
use Rattle.am_group_defs.specs.Text.{outcome_parts}
use Rattle.am_report.proofs.outcome.push_parts.Goals as goal

pub returns-in-Took : goal.returns-in-Took
unfolding outcome_parts
returns-in-Took g c = three_words_written_in_calls g.O.Writer.writes _ _ _ _ _ _ _ _ c.push_behind.ensures c.put.ensures c.push_entry.ensures
    (rw (c.from.ensures, c.as_ref.ensures, c.in-Took.is) refl)

pub returns-in-Decided : goal.returns-in-Decided
unfolding outcome_parts
returns-in-Decided g c = three_words_written_in_calls g.O.Writer.writes _ _ _ _ _ _ _ _ c.push_behind-in-Decided.ensures c.put-in-Decided.ensures
    c.push_names-in-Decided.ensures (rw (c.from-in-Decided.ensures, c.in-Decided.is) refl)

pub returns-in-Waiting : goal.returns-in-Waiting
unfolding outcome_parts
returns-in-Waiting g c = two_words_written_in_calls g.O.Writer.writes _ _ _ _ _ _ c.put-in-Waiting.ensures c.push_names.ensures (rw c.in-Waiting.is refl)

pub returns-in-Occupied : goal.returns-in-Occupied
unfolding outcome_parts
returns-in-Occupied g c = two_words_written_in_calls g.O.Writer.writes _ _ _ _ _ _ c.put-in-Occupied.ensures c.push_name.ensures (rw c.in-Occupied.is refl)
