use Rattle.std.proofs.Common.{arith}
use Rattle.am_io.proofs.Writers.{all_words_left_at_start, fewer_words_left_to_write, no_word_left_to_write, last_word_left_is_written}
use Rattle.am_group_defs.specs.Text.{names_text}
use Rattle.am_report.specs.Names.{rest_text}
use Rattle.am_report.proofs.Names.{names_from_past_last_place, text_of_places_left}
use Rattle.am_report.proofs.name.push_names.Goals as goal

pub loop-place-init : goal.loop-place-init
loop-place-init g c = all_words_left_at_start g.O.Writer.writes _ _

pub loop-place-preserved : goal.loop-place-preserved
loop-place-preserved g c = fewer_words_left_to_write g.O.Writer.writes _ _ _ _ _ _ _ c.loop-place.invariant c.push_place-first.ensures.text
    (text_of_places_left c.args.names c.loop-place.place c.loop-place.first c.push_place-first.result (omega arith) c.push_place-first.ensures.first)

pub returns-then-first : goal.returns-then-first
unfolding names_text
returns-then-first g c =
    let none = names_from_past_last_place c.args.names c.loop-place.place (omega arith) in
    last_word_left_is_written g.O.Writer.writes _ _ _ _ _ _ c.loop-place.invariant c.put.ensures (λ k. rest_text (c.if-first.true k) (none k))

pub returns-else-first : goal.returns-else-first
unfolding names_text
returns-else-first g c =
    let none = names_from_past_last_place c.args.names c.loop-place.place (omega arith) in
    no_word_left_to_write g.O.Writer.writes _ _ _ _ c.loop-place.invariant (λ k. rest_text (c.if-first.false k) (none k))
