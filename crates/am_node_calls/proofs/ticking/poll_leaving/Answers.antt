use Rattle.am_node_calls.proofs.Words.{sym, ap, ◌∙◌, other_members, node_of, untrimmed_node_ends_itself, Reply, equal_reply_of_equal_plan, true}
use Rattle.am_node_parts.specs.Replies.{reply_polling_with_view}
use Rattle.am_node_parts.specs.declared.reply.Telling.TheVariants as tell
use Rattle.am_node_calls.specs.Forms.{hands_over}
use Rattle.am_node_calls.proofs.{Leaves.others_counted_are_some, Leaves.others_counted_are_none}
use Rattle.am_node_calls.proofs.Ticks as ticks
use Rattle.am_node_calls.proofs.ticking.poll_leaving.Goals as goal

pub returns-then-len-gt0 : goal.returns-then-len-gt0
returns-then-len-gt0 c =
    let m = node_of c.args.parts.now in
    let some = others_counted_are_some m c.len.ensures.value c.others-others.ensures.value c.if-len-gt0.true in
    equal_reply_of_equal_plan (ticks.polling_sequencer_hands_over m c.requires.leads some)
    (c.and.ensures ∙ (λ k. let x : Reply = record (c.polled.ensures k) {
      second = (c.handing_over.ensures ∙ ap hands_over c.others-others.ensures.value) k;
    } in x))
    (ticks.handing_tick_replies m (other_members m))

pub returns-then-not-has_room : goal.returns-then-not-has_room
returns-then-not-has_room c =
    let m = node_of c.args.parts.now in
    let none = others_counted_are_none m c.len.ensures.value c.others-others.ensures.value c.if-len-gt0.false in
    equal_reply_of_equal_plan (ticks.polling_last_without_room m c.requires.leads none (sym c.has_room.ensures.value ∙ c.if-not-has_room.true))
    (c.polled-then-not-has_room.ensures ∙ ap reply_polling_with_view c.held_answer.ensures) (ticks.polling_tick_replies m m _ (untrimmed_node_ends_itself m))

pub returns : goal.returns
returns c =
    let m = node_of c.args.parts.now in
    let none = others_counted_are_none m c.len.ensures.value c.others-others.ensures.value c.if-len-gt0.false in
    equal_reply_of_equal_plan (ticks.polling_last_departs m c.requires.leads none (sym c.has_room.ensures.value ∙ c.if-not-has_room.false))
    (c.numbering.ensures ∙ ap (λ (r : Reply). let x : Reply = record r { numbers = true } in x) (c.polling.ensures
    ∙ ap (λ (r : Reply). let x : Reply = record r { polls = true } in x) (c.and-2.ensures
    ∙ ap (λ (r : Reply). let x : Reply = record r { second = tell.View } in x) c.saying-departs.ensures)))
    (ticks.departing_tick_replies m (record {
      leads = c.requires.leads;
      alone = none;
      idle = c.requires.idle;
      room = record { room = c.has_room.ensures.room c.if-not-has_room.false; number = c.requires.number };
    }))
