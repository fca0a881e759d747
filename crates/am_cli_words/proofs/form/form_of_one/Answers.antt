use Rattle.std.proofs.Common.{sym, ◌∙◌, rules}
use Rattle.am_cli_words.proofs.Words.{one_form_of_race, one_form_of_audit, one_form_of_parts, one_form_of_play}
use Rattle.am_cli_words.proofs.form.form_of_one.Goals as goal

pub returns-then-eq-clause-value : goal.returns-then-eq-clause-value
returns-then-eq-clause-value c = one_form_of_race c.args.word.now (sym c.eq.ensures ∙ c.if-eq.true)

pub returns-then-eq-2-clause-value : goal.returns-then-eq-2-clause-value
returns-then-eq-2-clause-value c = one_form_of_audit c.args.word.now (sym c.eq.ensures ∙ c.if-eq.false) (sym c.eq-2.ensures ∙ c.if-eq-2.true)

pub returns-then-eq-3-clause-value : goal.returns-then-eq-3-clause-value
returns-then-eq-3-clause-value c =
    one_form_of_parts c.args.word.now (sym c.eq.ensures ∙ c.if-eq.false) (sym c.eq-2.ensures ∙ c.if-eq-2.false) (sym c.eq-3.ensures ∙ c.if-eq-3.true)

pub returns-clause-value : goal.returns-clause-value
returns-clause-value c =
    let other = one_form_of_play c.args.word.now (sym c.eq.ensures ∙ c.if-eq.false) (sym c.eq-2.ensures ∙ c.if-eq-2.false) (sym c.eq-3.ensures ∙ c.if-eq-3.false) in
    let given = c.shown_of.ensures in
    search rules
