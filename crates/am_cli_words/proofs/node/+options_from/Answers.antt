use Rattle.std.proofs.Common.{◌≡◌, ◌≤◌, length, None, ◌∙◌, arith}
use Rattle.std.proofs.lemmas.Bool.Decides.{nat_tests}
use Rattle.am_cli_words.proofs.Nodes.{options_from_no_words, options_from_one_word, options_from_two_words}
use Rattle.am_cli_words.proofs.node.+options_from.Goals as goal

pub returns-then-is_empty : goal.returns-then-is_empty
returns-then-is_empty t c =
    let e = c.is_empty.ensures in
    let f = c.if-is_empty.true in
    let none : length c.args.words.now ≡ 0 = grind (arith, nat_tests) in
    options_from_no_words c.args.options c.args.words.now none

pub returns-then-words-eq1 : goal.returns-then-words-eq1
returns-then-words-eq1 t c = options_from_one_word c.args.options c.args.words.now c.if-words-eq1.true

pub returns-in_err-more : goal.returns-in_err-more
returns-in_err-more t c =
    let e = c.is_empty.ensures in
    let f = c.if-is_empty.false in
    let g = c.if-words-eq1.false in
    let two : 2 ≤ length c.args.words.now = grind (arith, nat_tests) in
    c.from_residual.ensures ∙ options_from_two_words c.args.options c.args.words.now _ _ None two c.in_err-more.ensures

pub returns : goal.returns
returns t c =
    let e = c.is_empty.ensures in
    let f = c.if-is_empty.false in
    let g = c.if-words-eq1.false in
    let two : 2 ≤ length c.args.words.now = grind (arith, nat_tests) in
    c.options_from.ensures ∙ options_from_two_words c.args.options c.args.words.now _ _ _ two c.in_ok-more.ensures
