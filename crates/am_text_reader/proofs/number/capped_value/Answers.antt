use Rattle.std.proofs.Common.{◌+◌, ◌*◌, min, get_or, ◌∙◌, ap₂, ℕ, refl}
use Rattle.am_text_defs.proofs.Digits.{capped_value_with_next_digit, digit_of_numeral_at}
use Rattle.am_text_reader.proofs.number.capped_value.Goals as goal

pub loop-digit-preserved : goal.loop-digit-preserved
loop-digit-preserved c =
    let more = capped_value_with_next_digit c.args.most c.loop-digit.value c.args.word.now c.loop-digit.digit-index (get_or c.args.word.now c.loop-digit.digit-index 0) c.loop-digit-test.true refl
    (digit_of_numeral_at c.args.word.now c.loop-digit.digit-index c.requires.numeral c.loop-digit-test.true) c.loop-digit.invariant in
    c.min-value.ensures ∙ ap₂ (λ (d m : ℕ). min (10 * c.loop-digit.value + d) (m + 1)) c.from.ensures c.from-above.ensures ∙ more
