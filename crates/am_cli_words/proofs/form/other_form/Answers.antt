use Rattle.std.proofs.Common.{◌∙◌, rules}
use Rattle.am_cli_words.proofs.Words.{other_form_of_one_word, other_form_of_five_words, other_form_of_other_count}
use Rattle.am_cli_words.proofs.form.other_form.Goals as goal

pub returns-then-words-eq1-clause-value : goal.returns-then-words-eq1-clause-value
returns-then-words-eq1-clause-value c = c.form_of_one.ensures.value ∙ other_form_of_one_word c.args.words.now _ c.if-words-eq1.true

pub returns-then-words-eq5-clause-value : goal.returns-then-words-eq5-clause-value
returns-then-words-eq5-clause-value c =
    let is = other_form_of_five_words c.args.words.now _ _ _ _ _ _ c.if-words-eq5.true c.numbers_of_five.ensures.value in
    search rules

pub returns-clause-value : goal.returns-clause-value
returns-clause-value c = other_form_of_other_count c.args.words.now c.if-words-eq1.false c.if-words-eq5.false c.if-words-eq6.false
