use Rattle.am_node_calls.proofs.Words.{sym, ap, ◌∙◌, set_of_one_name, lowest_name_or_zero, other_members, node_of, untrimmed_node_ends_itself, reply_without_letters, reply_with_telling, Reply, true}
use Rattle.am_node_calls.proofs.Words.{equal_reply_of_equal_plan, reply_quiet_with_outcome, reply_tells_one_note}
use Rattle.am_node_parts.specs.declared.reply.Note.TheVariants as note
use Rattle.am_node_parts.specs.declared.reply.Telling.TheVariants as tell
use Rattle.am_node_calls.specs.Forms.{hands_over}
use Rattle.am_node_calls.proofs.Leaves.{others_counted_are_some, others_counted_are_none, go_of_member_asks, go_of_sequencer_hands_over, go_of_last_without_room, go_of_last_departs, departing_plan_replies}
use Rattle.am_node_calls.proofs.leaving.go_on_leaving.Goals as goal

pub returns-then-not-is_sequencer : goal.returns-then-not-is_sequencer
returns-then-not-is_sequencer c =
    let m = node_of c.args.parts.now in
    equal_reply_of_equal_plan (go_of_member_asks m c.args.answer (sym c.is_sequencer.ensures.value ∙ c.if-not-is_sequencer.true))
    (c.saying.ensures ∙ ap (λ set. reply_with_telling c.args.answer (tell.Note set note.LeaveAsk)) c.others-others.ensures.value)
    (reply_tells_one_note m m c.args.answer (other_members m) note.LeaveAsk tt (untrimmed_node_ends_itself m))

pub returns-then-len-gt0 : goal.returns-then-len-gt0
returns-then-len-gt0 c =
    let m = node_of c.args.parts.now in
    let some = others_counted_are_some m c.len.ensures.value c.others-others.ensures.value c.if-len-gt0.true in
    equal_reply_of_equal_plan (go_of_sequencer_hands_over m c.args.answer (sym c.is_sequencer.ensures.value ∙ c.if-not-is_sequencer.false) some)
    (c.saying-then-len-gt0.ensures ∙ ap (reply_with_telling c.args.answer) (c.handing_over.ensures ∙ ap hands_over c.others-others.ensures.value))
    (reply_tells_one_note m m c.args.answer (set_of_one_name (lowest_name_or_zero (other_members m))) note.HandOver tt (untrimmed_node_ends_itself m))

pub returns-then-not-has_room : goal.returns-then-not-has_room
returns-then-not-has_room c =
    let m = node_of c.args.parts.now in
    let none = others_counted_are_none m c.len.ensures.value c.others-others.ensures.value c.if-len-gt0.false in
    equal_reply_of_equal_plan (go_of_last_without_room m c.args.answer (sym c.is_sequencer.ensures.value ∙ c.if-not-is_sequencer.false) none (sym c.has_room.ensures.value
    ∙ c.if-not-has_room.true)) (c.quiet.ensures ∙ ap reply_without_letters c.held_answer.ensures) (reply_quiet_with_outcome m m _ (untrimmed_node_ends_itself m))

pub returns : goal.returns
returns c =
    let m = node_of c.args.parts.now in
    let none = others_counted_are_none m c.len.ensures.value c.others-others.ensures.value c.if-len-gt0.false in
    let leads = sym c.is_sequencer.ensures.value ∙ c.if-not-is_sequencer.false in
    let room = sym c.has_room.ensures.value ∙ c.if-not-has_room.false in
    equal_reply_of_equal_plan (go_of_last_departs m c.args.answer leads none room)
    (c.numbering.ensures ∙ ap (λ (r : Reply). let x : Reply = record r { numbers = true } in x) c.saying-2.ensures)
    (departing_plan_replies m c.args.answer (record {
      leads = leads;
      alone = none;
      idle = c.requires.idle;
      room = record { room = c.has_room.ensures.room c.if-not-has_room.false; number = c.requires.number };
    }))
