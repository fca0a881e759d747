use Rattle.am_ordering.proofs.SequencingWords.{true, refl, sym, ◌∙◌, ap, subst, Entry, Data, Row, has, members_after_pushed_data, fits, image_of_node, ◌+◌}
use Rattle.am_ordering.proofs.SequencingWords.{push_entry, node_of, untrimmed_node_ends_itself, push_keeps_node_order, sequencer_status_has_log, request_refusal, reply_with_telling, Reply}
use Rattle.am_ordering.proofs.SequencingWords.{equal_reply_of_equal_plan, reply_quiet_with_outcome}
use Rattle.am_base.specs.declared.outcome.Outcome.TheVariants as said
use Rattle.am_node_parts.specs.Keeps.{NodeKeeps}
use Rattle.am_node_parts.specs.declared.reply.Telling.TheVariants as tell
use Rattle.am_ordering.proofs.Numbers.{data_of_next_request_fits}
use Rattle.am_ordering.proofs.SequencingRows.{answer_request_that_is_refused, answer_request_without_room, answer_request_is_numbered, numbered_data_replies_note}
use Rattle.am_ordering.proofs.sequencer.answer_request.Goals as goal

pub returns-in-Some : goal.returns-in-Some
returns-in-Some c =
    let send = c.args.request.now in
    let m = node_of c.args.parts.now in
    equal_reply_of_equal_plan (answer_request_that_is_refused m send.from send.req send.body send.by_order c.in-Some.answer
    (sym c.in-Some.is ∙ c.request_refusal.ensures.value ∙ ap (λ (r : Row). request_refusal r send.req) c.row-row.ensures.value)) c.quiet.ensures
    (reply_quiet_with_outcome m m _ (untrimmed_node_ends_itself m))

pub returns-then-not-has_room : goal.returns-then-not-has_room
returns-then-not-has_room c =
    let send = c.args.request.now in
    equal_reply_of_equal_plan (answer_request_without_room (node_of c.args.parts.now) send.from send.req send.body send.by_order
    (sym c.in_default.is ∙ c.request_refusal.ensures.value ∙ ap (λ (r : Row). request_refusal r send.req) c.row-row.ensures.value)
    (sym c.has_room.ensures.value ∙ c.if-not-has_room.true)) refl c.put_off.ensures

pub push-requires-clause-fits : goal.push-requires-clause-fits
push-requires-clause-fits c =
    let send = c.args.request.now in
    let m = node_of c.args.parts.now in
    let row = c.row-row.ensures.value in
    ap (fits (image_of_node m)) c.data_of.ensures ∙ data_of_next_request_fits (image_of_node m) send.from send.req send.body c.requires.known
    (sym (ap (λ (r : Row). r.left) row) ∙ c.in_default.ensures.stays) (c.in_default.ensures.next ∙ ap (λ (r : Row). r.last + 1) row)

pub push-requires-clause-keeps : goal.push-requires-clause-keeps
push-requires-clause-keeps c =
    let send = c.args.request.now in
    let m = node_of c.args.parts.now in
    let keeps = c.args.parts.now.keeps in
    let fit = sym (ap (fits (image_of_node m)) c.data_of.ensures) ∙ push-requires-clause-fits c in
    subst (λ (e : Entry). NodeKeeps (push_entry m e)) (sym c.data_of.ensures)
    (push_keeps_node_order m (Data send.from send.req send.body) refl fit
    (m.core.rules.window + 15) c.next_number-number.ensures.kept (sequencer_status_has_log m c.requires.leads)
    (λ leads. ap (λ set. has set m.core.who) (members_after_pushed_data m.core.log send.from send.req send.body) ∙ keeps.leads leads) keeps)

pub returns : goal.returns
returns c =
    let send = c.args.request.now in
    let m = node_of c.args.parts.now in
    let number = c.next_number-number.result in
    equal_reply_of_equal_plan (answer_request_is_numbered m send.from send.req send.body send.by_order
    (sym c.in_default.is ∙ c.request_refusal.ensures.value ∙ ap (λ (r : Row). request_refusal r send.req) c.row-row.ensures.value)
    (sym c.has_room.ensures.value ∙ c.if-not-has_room.false))
    (c.numbering.ensures ∙ ap (λ (r : Reply). let x : Reply = record r { numbers = true } in x) (c.saying.ensures
    ∙ (λ k. reply_with_telling (said.Numbered number) (tell.Note (c.others-to.ensures.value k) (c.data_note-note.ensures k)))))
    (numbered_data_replies_note m (node_of c.push.new.self) send.from send.req number send.body send.by_order (c.push.ensures.node ∙ ap (push_entry m) c.data_of.ensures)
    c.next_number-number.ensures.value c.next_number-number.ensures.within c.requires.req)
