use Rattle.am_bytes.proofs.Ends.{told_event_answers_bytes}
use Rattle.am_bytes.proofs.answer.answer.Goals as goal

pub returns-clause-ok : goal.returns-clause-ok
returns-clause-ok c =
    told_event_answers_bytes _ _ _ _ c.args.event.now c.in_ok-event.event c.in_ok-reply.reply c.of.result _ _ _ c.in_ok-event.ensures c.in_ok-reply.ensures.ok
    c.of.ensures c.node.ensures c.in_ok-put.ensures c.put_reply.ensures
