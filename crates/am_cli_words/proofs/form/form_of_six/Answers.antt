use Rattle.std.proofs.Common.{sym, ◌∙◌, rules}
use Rattle.am_cli_words.proofs.Words.{other_form_script_at_second, other_form_script_at_fourth, other_form_script_at_sixth, other_form_without_script}
use Rattle.am_cli_words.proofs.form.form_of_six.Goals as goal

pub returns-then-eq-clause-value : goal.returns-then-eq-clause-value
returns-then-eq-clause-value c =
    let is = other_form_script_at_second c.args.words.now _ c.requires (sym c.eq.ensures ∙ c.if-eq.true) in
    let given = c.numbers_of_five.ensures.value in
    search rules

pub returns-then-eq-2-clause-value : goal.returns-then-eq-2-clause-value
returns-then-eq-2-clause-value c =
    let is = other_form_script_at_fourth c.args.words.now _ c.requires (sym c.eq.ensures ∙ c.if-eq.false) (sym c.eq-2.ensures ∙ c.if-eq-2.true) in
    let given = c.numbers_of_five-then-eq-2.ensures.value in
    search rules

pub returns-then-eq-3-clause-value : goal.returns-then-eq-3-clause-value
returns-then-eq-3-clause-value c =
    let other = sym c.eq-2.ensures ∙ c.if-eq-2.false in
    let is = other_form_script_at_sixth c.args.words.now _ c.requires (sym c.eq.ensures ∙ c.if-eq.false) other (sym c.eq-3.ensures ∙ c.if-eq-3.true) in
    let given = c.numbers_of_five-then-eq-3.ensures.value in
    search rules

pub returns-clause-value : goal.returns-clause-value
returns-clause-value c =
    let other = sym c.eq-2.ensures ∙ c.if-eq-2.false in
    other_form_without_script c.args.words.now _ c.requires (sym c.eq.ensures ∙ c.if-eq.false) other (sym c.eq-3.ensures ∙ c.if-eq-3.false)
