use Rattle.am_node_calls.proofs.Words.{sym, ap, ◌∙◌, set_of_one_name, other_members, node_of, equal_reply_of_equal_plan}
use Rattle.am_base.specs.declared.name.Stamp.{Stamp}
use Rattle.am_node_parts.specs.declared.reply.OwnLetter.TheVariants as own_letter
use Rattle.am_node_parts.proofs.Replying.{reply_sends_own_letter}
use Rattle.am_node_calls.proofs.Emits.{short_body_is_requested, long_body_is_spread}
use Rattle.am_node_calls.proofs.emitting.hand_in.Goals as goal

pub returns-then-is_short : goal.returns-then-is_short
returns-then-is_short c =
    let m = node_of c.args.parts.now in
    let send = c.args.send.now in
    equal_reply_of_equal_plan (short_body_is_requested m send.req send.body c.args.answer c.only.result (sym c.is_short.ensures ∙ c.if-is_short.true)
    (c.only.ensures ∙ ap (λ (s : Stamp). set_of_one_name s.by) c.view.ensures.value)) c.saying.ensures
    (reply_sends_own_letter m c.args.answer c.only.result own_letter.Request (send.req, send.body) c.requires tt)

pub returns : goal.returns
returns c =
    let m = node_of c.args.parts.now in
    let send = c.args.send.now in
    equal_reply_of_equal_plan (long_body_is_spread m send.req send.body c.args.answer c.others.result (sym c.is_short.ensures ∙ c.if-is_short.false) c.others.ensures.value)
    c.saying-2.ensures (reply_sends_own_letter m c.args.answer c.others.result own_letter.Spread (send.req, send.body) c.requires tt)
