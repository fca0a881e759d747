use Rattle.std.proofs.Common.{sym, ap, ◌∙◌}
use Rattle.am_io.proofs.Writers.{two_words_written_in_calls, three_words_written_in_calls}
use Rattle.am_report.specs.Outcomes.{outcome_numbers_in}
use Rattle.am_report.proofs.Parts.{numbers_text_of_two_numbers, numbers_text_of_three_numbers}
use Rattle.am_report.proofs.outcome.push_numbers.Goals as goal

pub returns-in-Two : goal.returns-in-Two
unfolding outcome_numbers_in
returns-in-Two g c = two_words_written_in_calls g.O.Writer.writes _ _ _ _ _ _ c.push_behind-in-Two.ensures c.push_behind-in-Two-2.ensures
    (numbers_text_of_two_numbers _ _ _ _ _ c.from-in-Two.ensures c.from-in-Two-2.ensures (ap outcome_numbers_in (sym c.in-Two.is) ∙ c.numbers_of.ensures))

pub returns-in-Three : goal.returns-in-Three
unfolding outcome_numbers_in
returns-in-Three g c = three_words_written_in_calls g.O.Writer.writes _ _ _ _ _ _ _ _ c.push_behind-in-Three.ensures c.push_behind-in-Three-2.ensures
    c.push_behind-in-Three-3.ensures
    (numbers_text_of_three_numbers _ _ _ _ _ _ _ c.from-in-Three.ensures c.from-in-Three-2.ensures c.from-in-Three-3.ensures
    (ap outcome_numbers_in (sym c.in-Three.is) ∙ c.numbers_of.ensures))
