use Rattle.am_group_defs.specs.Text.{event_text}
use Rattle.am_io.proofs.Writers.{three_words_written_in_calls}
use Rattle.am_report.proofs.event.push_event.Goals as goal

pub returns : goal.returns
unfolding event_text
returns g c = three_words_written_in_calls g.O.Writer.writes _ _ _ _ _ _ _ _ c.put.ensures c.push_behind.ensures c.push_parts.ensures
    (cc (c.act_word.ensures, c.from.ensures, c.place.ensures.value))
