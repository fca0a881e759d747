use Rattle.am_resetting.proofs.CatchingWords.{Option, sym, ap, subst, ◌∙◌, Entry, View, node_of, untrimmed_node_ends_itself, set_of_one_name, push_entry, trim_node_up_to, plan_with_letter, ack_packet_of}
use Rattle.am_resetting.proofs.CatchingWords.{IsEndOf, row_of_promised_result, unless_denied, plan_of, CatcherMayStore, Denial, reply_of_equal_plan, equal_reply_of_plan, reply_with_telling, reply_tells_one_note}
use Rattle.am_base.specs.declared.outcome.Outcome.TheVariants as said
use Rattle.am_node_parts.specs.declared.reply.Telling.TheVariants as tell
use Rattle.am_node_parts.specs.declared.reply.Note.TheVariants as note
use Rattle.am_resetting.proofs.Pieces.{plan_replies_plain_telling, next_view_may_be_stored, ballot_of_other_is_over}
use Rattle.am_resetting.proofs.catching.hears_result.Goals as goal

pub returns-in-Some : goal.returns-in-Some
returns-in-Some c =
    let arrival = c.args.arrival.now in
    let v = c.args.view.now in
    let old = node_of c.args.parts.now in
    let r = c.in-Some.refusal in
    let rest = plan_with_letter (push_entry (trim_node_up_to old arrival.base) (View v)) (said.Stored arrival.number)
    (set_of_one_name arrival.from) ack_packet_of in
    let row = row_of_promised_result old arrival.from arrival.base arrival.number v in
    equal_reply_of_plan row c.saying.result (reply_with_telling r.outcome r.telling) old c.saying.ensures
    (reply_of_equal_plan row (plan_of old r.outcome r.telling) (reply_with_telling r.outcome r.telling) old
    (c.result_refusal.ensures.value ∙ ap (λ (x : Option Denial). unless_denied x old rest) c.in-Some.is)
    (plan_replies_plain_telling old old r.outcome r.telling c.in-Some.ensures.plain (untrimmed_node_ends_itself old c.requires.order.kept)))

pub returns-in-None : goal.returns-in-None
returns-in-None c =
    let arrival = c.args.arrival.now in
    let v = c.args.view.now in
    let old = node_of c.args.parts.now in
    let new = node_of c.store.new.parts in
    let e = View v in
    let w = push_entry (trim_node_up_to old arrival.base) e in
    let stored = said.Stored arrival.number in
    let rest = plan_with_letter w stored (set_of_one_name arrival.from) ack_packet_of in
    let row = row_of_promised_result old arrival.from arrival.base arrival.number v in
    let reply = reply_with_telling stored (tell.Note (set_of_one_name arrival.from) note.Ack) in
    equal_reply_of_plan row c.saying-in-None.result reply new (c.saying-in-None.ensures ∙ ap (reply_with_telling stored) c.note_to.ensures)
    (reply_of_equal_plan row rest reply new (c.result_refusal.ensures.value ∙ ap (λ (x : Option Denial). unless_denied x old rest) c.in-None.is)
    (reply_tells_one_note w new stored (set_of_one_name arrival.from) note.Ack tt
    (λ k. subst (λ (x : Entry). IsEndOf (push_entry (trim_node_up_to old arrival.base) x) new) c.view_entry.ensures
    (c.store.ensures.changes old (untrimmed_node_ends_itself old c.requires.order.kept)))))

pub store-requires : goal.store-requires
store-requires c =
    let arrival = c.args.arrival.now in
    let v = c.args.view.now in
    let old = node_of c.args.parts.now in
    subst (λ (x : Entry). CatcherMayStore old arrival.base x) (sym c.view_entry.ensures)
    (next_view_may_be_stored old arrival.base arrival.number v c.requires.order c.requires.logged c.requires.promise
    (ballot_of_other_is_over old v.stamp c.args.parts.now.keeps c.requires.promise c.requires.other) c.requires.within c.requires.number c.in-None.ensures.next)
