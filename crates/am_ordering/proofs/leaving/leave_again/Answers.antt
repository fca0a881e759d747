use Rattle.am_ordering.proofs.JoiningWords.{refl, ap, ◌∙◌, Row, node_of, reply_with_answer, equal_reply_of_equal_plan}
use Rattle.am_node_parts.specs.declared.reply.StepAnswer.TheVariants as answer
use Rattle.am_node_parts.specs.declared.reply.Telling.TheVariants as tell
use Rattle.am_ordering.proofs.Leaves.{leave_again_replies_gone}
use Rattle.am_ordering.proofs.leaving.leave_again.Goals as goal

pub returns : goal.returns
returns c =
    equal_reply_of_equal_plan refl (c.answering.ensures ∙ ap (λ (r : Row). reply_with_answer (answer.LetGo c.args.from r.left) (tell.Gone c.args.from)) c.row-number.ensures.value)
    (leave_again_replies_gone (node_of c.args.parts.now) c.args.from)
