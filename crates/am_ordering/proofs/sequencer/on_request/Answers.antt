use Rattle.am_ordering.proofs.SequencingWords.{Some, sym, ◌∙◌, ap, ◌==◌, Image, row_of_name, node_of, untrimmed_node_ends_itself, steady_node_stays_sequencer, equal_reply_of_equal_plan, reply_quiet_with_outcome}
use Rattle.am_ordering.proofs.SequencingRows.{request_row_by_refusal, request_row_after_report}
use Rattle.am_ordering.proofs.sequencer.on_request.Goals as goal

pub returns-in-Some : goal.returns-in-Some
returns-in-Some c =
    let send = c.args.request.now in
    let old = node_of c.args.parts.now in
    equal_reply_of_equal_plan (request_row_by_refusal old send.from send.report send.req send.body send.by_order (Some c.in-Some.answer)
    (sym c.in-Some.is ∙ c.report_refusal.ensures.value)) c.quiet.ensures (reply_quiet_with_outcome old old _ (untrimmed_node_ends_itself old))

pub answer_request-requires-clause-leads : goal.answer_request-requires-clause-leads
answer_request-requires-clause-leads c =
    steady_node_stays_sequencer (node_of c.args.parts.now) (node_of c.take_report.new.self) c.take_report.ensures.steady ∙ c.requires.serves.leads

pub answer_request-requires-clause-known : goal.answer_request-requires-clause-known
answer_request-requires-clause-known c =
    ap (λ (i : Image). (row_of_name i c.args.request.now.from).joined == 0) c.take_report.ensures.steady.told ∙ c.in_default.ensures.known

pub returns : goal.returns
returns c =
    let send = c.args.request.now in
    request_row_after_report (node_of c.args.parts.now) (node_of c.take_report.new.self) (node_of c.answer_request.new.parts) send.from send.report send.req send.body
    send.by_order c.answer_request.result (sym c.in_default.is ∙ c.report_refusal.ensures.value) c.take_report.ensures.end c.take_report.ensures.order
    c.answer_request.ensures
