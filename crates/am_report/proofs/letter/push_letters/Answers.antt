use Rattle.std.proofs.Common.{◌≡◌, ◌+◌, subst, arith}
use Rattle.am_io.specs.Writers.{IsLeftToWrite}
use Rattle.am_io.proofs.Writers.{all_words_left_at_start, fewer_words_left_to_write, no_word_left_to_write}
use Rattle.am_group_defs.specs.Text.{letters_text}
use Rattle.am_report.proofs.Parts.{letters_text_with_next_letter, letters_text_past_last_letter}
use Rattle.am_report.proofs.letter.push_letters.Goals as goal

pub loop-at-init : goal.loop-at-init
loop-at-init g c =
    let first : c.args.before + 1 ≡ c.args.before + 1 + 0 = omega arith in
    let all = letters_text c.args.place (c.args.before + 1) c.args.letters.now in
    subst (λ n. IsLeftToWrite g.O.Writer.writes c.args.out.now all c.args.out.now (letters_text c.args.place n c.args.letters.now)) first
    (all_words_left_at_start g.O.Writer.writes c.args.out.now all)

pub loop-at-preserved : goal.loop-at-preserved
loop-at-preserved g c = fewer_words_left_to_write g.O.Writer.writes _ _ _ _ _ _ _ c.loop-at.invariant c.push_letter.ensures
    (letters_text_with_next_letter c.args.place _ _ _ c.args.letters.now c.loop-at.at c.index-letters-at.result c.loop-at-test.true c.index-letters-at.is
    (omega (arith, c.from.ensures)) (omega arith))

pub returns : goal.returns
returns g c = no_word_left_to_write g.O.Writer.writes _ _ _ _ c.loop-at.invariant (letters_text_past_last_letter c.args.place _ c.args.letters.now c.loop-at.at c.loop-at-test.false)
