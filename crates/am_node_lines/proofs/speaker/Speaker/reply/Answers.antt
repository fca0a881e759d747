use Rattle.std.proofs.Common.{sym, ◌∙◌, ◌↔◌, IsTrue, subst}
use Rattle.am_model.specs.Nodes.{HasNumbersLeft}
use Rattle.am_node.specs.Stands.{state_of}
use Rattle.am_node_lines.proofs.Ends.{info_line_replies_info, line_without_numbers_replies_spent, done_line_replies_told, numbers_left_of_node}
use Rattle.am_node_lines.proofs.speaker.Speaker.reply.Goals as goal

pub returns-then-is_info-clause-ok : goal.returns-then-is_info-clause-ok
returns-then-is_info-clause-ok c = info_line_replies_info _ c.args.line (sym c.is_info.ensures ∙ c.if-is_info.true)

pub returns-then-not-has_numbers_left-clause-ok : goal.returns-then-not-has_numbers_left-clause-ok
returns-then-not-has_numbers_left-clause-ok c =
    let left = subst (λ n. IsTrue c.has_numbers_left.result ↔ HasNumbersLeft (state_of n)) c.deref.ensures c.has_numbers_left.ensures in
    line_without_numbers_replies_spent _ c.args.line (sym c.is_info.ensures ∙ c.if-is_info.false)
    (sym (numbers_left_of_node _ _ left) ∙ c.if-not-has_numbers_left.true)

pub returns-clause-ok : goal.returns-clause-ok
returns-clause-ok c =
    let left = subst (λ n. IsTrue c.has_numbers_left.result ↔ HasNumbersLeft (state_of n)) c.deref.ensures c.has_numbers_left.ensures in
    done_line_replies_told _ _ c.args.line _ (sym c.is_info.ensures ∙ c.if-is_info.false)
    (sym (numbers_left_of_node _ _ left) ∙ c.if-not-has_numbers_left.false) c.do_line.ensures.ok
