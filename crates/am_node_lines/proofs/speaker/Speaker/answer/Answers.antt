use Rattle.std.proofs.Common.{ap}
use Rattle.am_node.specs.Stands.{state_of}
use Rattle.am_node_lines.proofs.Ends.{told_reply_answers_line}
use Rattle.am_node_lines.proofs.speaker.Speaker.answer.Goals as goal

pub returns-clause-ok : goal.returns-clause-ok
returns-clause-ok c =
    told_reply_answers_line _ _ _ _ _ c.args.line.now c.in_ok-line.line c.in_ok-reply.reply _ _ c.in_ok-reply.ensures.rules (ap state_of c.deref.ensures) c.in_ok-line.ensures c.in_ok-reply.ensures.ok c.in_ok-push_reply.ensures
