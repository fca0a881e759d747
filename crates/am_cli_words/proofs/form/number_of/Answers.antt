use Rattle.std.proofs.Common.{◌≡◌, ◌≤◌, length, true, sym, ap, ◌∙◌, arith}
use Rattle.std.specs.List.{list_all}
use Rattle.std.specs.Char.{is_ascii_digit}
use Rattle.am_cli_words.proofs.Digits.{number_parsed_is_number_of, number_of_too_long_text, number_of_text_without_digits}
use Rattle.am_cli_words.proofs.form.number_of.Goals as goal
use Rattle.am_cli_words.proofs.form.number_of.Goals.{else-digits-le20-via-else-digits-le20, else-digits-le20-via-then-digits-le20+else-are_digits}

pub returns-then-are_digits : goal.returns-then-are_digits
returns-then-are_digits c =
    let same = c.as_bytes-digits.ensures.value in
    let few : length c.args.text.now ≤ 20 = omega (arith, ap length same, c.if-digits-le20.true) in
    let all : list_all is_ascii_digit c.args.text.now ≡ true = ap (list_all is_ascii_digit) (sym same) ∙ sym c.are_digits.ensures ∙ c.if-are_digits.true in
    c.ok.ensures.value ∙ number_parsed_is_number_of c.args.text.now c.parse.result c.parse.ensures.value.0 few all

pub returns : goal.returns
returns c =
    let same = c.as_bytes-digits.ensures.value in
    elim c.else-digits-le20.branch [
      | else-digits-le20-via-else-digits-le20 w ↦ number_of_too_long_text c.args.text.now (omega (arith, ap length same, w.if-digits-le20.false))
      | else-digits-le20-via-then-digits-le20+else-are_digits w ↦ number_of_text_without_digits c.args.text.now (ap (list_all is_ascii_digit) (sym same) ∙ sym w.are_digits.ensures
          ∙ w.if-are_digits.false)
    ]
