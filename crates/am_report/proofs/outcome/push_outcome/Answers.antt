use Rattle.am_group_defs.specs.Text.{outcome_text}
use Rattle.am_io.proofs.Writers.{two_words_written_in_calls}
use Rattle.am_report.proofs.outcome.push_outcome.Goals as goal

pub returns : goal.returns
unfolding outcome_text
returns g c = two_words_written_in_calls g.O.Writer.writes _ _ _ _ _ _ c.put.ensures c.push_parts.ensures (cc c.outcome_word.ensures)
