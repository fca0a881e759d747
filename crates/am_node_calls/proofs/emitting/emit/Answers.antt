use Rattle.am_node_calls.proofs.Words.{refl, sym, ap, ◌∙◌, node_of, untrimmed_node_ends_itself, Reply, equal_reply_of_equal_plan, reply_quiet_with_outcome, true}
use Rattle.am_node_calls.proofs.Emits.{emit_without_waiting_send, emit_of_numbered_send, emit_of_member_hands_in, emit_without_room, emit_of_sequencer_numbers, numbering_plan_replies_bcast}
use Rattle.am_node_calls.proofs.emitting.emit.Goals as goal

pub returns-in_default : goal.returns-in_default
returns-in_default c =
    let old = node_of c.args.parts.now in
    equal_reply_of_equal_plan (emit_without_waiting_send old c.args.answer (sym c.in_default.ensures.value)) c.quiet.ensures (reply_quiet_with_outcome old old _ (untrimmed_node_ends_itself old))

pub returns-then-not-would_emit : goal.returns-then-not-would_emit
returns-then-not-would_emit c =
    let old = node_of c.args.parts.now in
    equal_reply_of_equal_plan
    (emit_of_numbered_send old c.args.answer c.in-Some.send.req c.in-Some.send.body (sym c.in-Some.ensures.value)
    (sym c.would_emit.ensures ∙ c.if-not-would_emit.true))
    c.quiet-then-not-would_emit.ensures (reply_quiet_with_outcome old old _ (untrimmed_node_ends_itself old))

pub hand_in-requires : goal.hand_in-requires
hand_in-requires c = sym c.in-Some.ensures.value

pub returns-then-not-is_sequencer : goal.returns-then-not-is_sequencer
returns-then-not-is_sequencer c =
    equal_reply_of_equal_plan
    (emit_of_member_hands_in (node_of c.args.parts.now) c.args.answer c.in-Some.send.req c.in-Some.send.body (sym c.in-Some.ensures.value)
    (sym c.would_emit.ensures ∙ c.if-not-would_emit.false) (sym c.is_sequencer.ensures.value ∙ c.if-not-is_sequencer.true))
    refl c.hand_in.ensures

pub returns-then-not-has_room : goal.returns-then-not-has_room
returns-then-not-has_room c =
    let old = node_of c.args.parts.now in
    equal_reply_of_equal_plan
    (emit_without_room old c.args.answer c.in-Some.send.req c.in-Some.send.body (sym c.in-Some.ensures.value)
    (sym c.would_emit.ensures ∙ c.if-not-would_emit.false) (sym c.is_sequencer.ensures.value ∙ c.if-not-is_sequencer.false)
    (sym c.has_room.ensures.value ∙ c.if-not-has_room.true))
    c.quiet-then-not-has_room.ensures (reply_quiet_with_outcome old old _ (untrimmed_node_ends_itself old))

pub returns : goal.returns
returns c =
    let old = node_of c.args.parts.now in
    let mid = node_of c.number_send-number.new.parts in
    let send = c.in-Some.send in
    let waits = sym c.in-Some.ensures.value in
    let numbered = c.number_send-number.ensures in
    equal_reply_of_equal_plan
    (emit_of_sequencer_numbers old mid c.args.answer send.req send.body waits (sym c.would_emit.ensures ∙ c.if-not-would_emit.false)
    (sym c.is_sequencer.ensures.value ∙ c.if-not-is_sequencer.false) (sym c.has_room.ensures.value ∙ c.if-not-has_room.false) numbered.node)
    (c.numbering.ensures ∙ ap (λ (r : Reply). let x : Reply = record r { numbers = true } in x) c.saying.ensures)
    (numbering_plan_replies_bcast old mid c.args.answer send.req c.number_send-number.result send.body c.others-to.result waits numbered.node numbered.number numbered.within
    c.others-to.ensures.value)
