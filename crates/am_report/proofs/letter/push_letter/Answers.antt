use Rattle.am_group_defs.specs.Text.{letter_text}
use Rattle.am_io.proofs.Writers.{five_words_written_in_calls}
use Rattle.am_report.proofs.letter.push_letter.Goals as goal

pub returns : goal.returns
unfolding letter_text
returns g c = five_words_written_in_calls g.O.Writer.writes _ _ _ _ _ _ _ _ _ _ _ _ c.push_behind.ensures c.put.ensures c.put-2.ensures c.put-3.ensures
    c.push_addressees.ensures (cc c.kind_word.ensures)
