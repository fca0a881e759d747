use Rattle.am_node_calls.proofs.Words.{sym, ap, ◌∙◌, node_of, untrimmed_node_ends_itself, Reply, equal_reply_of_equal_plan, true}
use Rattle.am_node_parts.specs.declared.reply.Telling.TheVariants as tell
use Rattle.am_node_calls.proofs.Ticks as ticks
use Rattle.am_node_calls.proofs.ticking.tick_sending.Goals as goal

pub returns-in_default : goal.returns-in_default
returns-in_default c =
    let old = node_of c.args.parts.now in
    equal_reply_of_equal_plan (ticks.tick_sequencer_without_send old c.requires.stays (sym c.in_default.ensures.value)) c.polled.ensures (ticks.polling_tick_replies old old _ (untrimmed_node_ends_itself old))

pub returns-then-not-would_emit : goal.returns-then-not-would_emit
returns-then-not-would_emit c =
    let old = node_of c.args.parts.now in
    equal_reply_of_equal_plan
    (ticks.tick_sequencer_of_numbered_send old c.in-Some.send.req c.in-Some.send.body c.requires.stays
    (sym c.in-Some.ensures.value) (sym c.would_emit.ensures ∙ c.if-not-would_emit.true))
    c.polled-then-not-would_emit.ensures (ticks.polling_tick_replies old old _ (untrimmed_node_ends_itself old))

pub returns-then-not-has_room : goal.returns-then-not-has_room
returns-then-not-has_room c =
    let old = node_of c.args.parts.now in
    equal_reply_of_equal_plan
    (ticks.tick_sequencer_without_room old c.in-Some.send.req c.in-Some.send.body c.put_off.result
    c.requires.stays (sym c.in-Some.ensures.value) (sym c.would_emit.ensures ∙ c.if-not-would_emit.false) c.requires.leads
    (sym c.has_room.ensures.value ∙ c.if-not-has_room.true) c.put_off.ensures)
    c.polled-then-not-has_room.ensures (ticks.polling_tick_replies old old _ (untrimmed_node_ends_itself old))

pub returns : goal.returns
returns c =
    let old = node_of c.args.parts.now in
    let mid = node_of c.number_send-number.new.parts in
    let send = c.in-Some.send in
    let waits = sym c.in-Some.ensures.value in
    let numbered = c.number_send-number.ensures in
    equal_reply_of_equal_plan
    (ticks.tick_sequencer_that_numbers old mid send.req send.body c.requires.stays waits (sym c.would_emit.ensures ∙ c.if-not-would_emit.false) c.requires.leads
    (sym c.has_room.ensures.value ∙ c.if-not-has_room.false) numbered.node)
    (c.numbering.ensures ∙ ap (λ (r : Reply). let x : Reply = record r { numbers = true } in x) (c.polling.ensures
    ∙ ap (λ (r : Reply). let x : Reply = record r { polls = true } in x) (c.and.ensures
    ∙ ap (λ (r : Reply). let x : Reply = record r { second = tell.View } in x) c.saying-sent.ensures)))
    (ticks.numbering_tick_replies_bcast old mid send.req c.number_send-number.result send.body c.others-to.result waits numbered.node numbered.number numbered.within
    c.others-to.ensures.value)
