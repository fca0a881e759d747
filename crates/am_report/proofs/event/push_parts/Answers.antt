use Rattle.std.proofs.Common.{refl}
use Rattle.am_io.proofs.Writers.{two_words_written_in_calls}
use Rattle.am_group_defs.specs.Text.{act_parts}
use Rattle.am_report.proofs.event.push_parts.Goals as goal

pub returns-in-Send : goal.returns-in-Send
unfolding act_parts
returns-in-Send g c = two_words_written_in_calls g.O.Writer.writes _ _ _ _ _ _ c.put.ensures c.push_body.ensures (rw (c.bytes.ensures.value, c.in-Send.is) refl)

pub returns-in-Reset : goal.returns-in-Reset
unfolding act_parts
returns-in-Reset g c = two_words_written_in_calls g.O.Writer.writes _ _ _ _ _ _ c.push_behind.ensures c.push_resilience.ensures
    (rw (c.from.ensures, c.in-Reset.is) refl)

pub returns-in-GiveUp : goal.returns-in-GiveUp
unfolding act_parts
returns-in-GiveUp g c = two_words_written_in_calls g.O.Writer.writes _ _ _ _ _ _ c.put-in-GiveUp.ensures c.push_name.ensures (rw c.in-GiveUp.is refl)

pub returns-in-Cut : goal.returns-in-Cut
unfolding act_parts
returns-in-Cut g c = two_words_written_in_calls g.O.Writer.writes _ _ _ _ _ _ c.push_behind-in-Cut.ensures c.push_behind-in-Cut-2.ensures
    (rw (c.from-in-Cut.ensures, c.from-in-Cut-2.ensures, c.in-Cut.is) refl)
