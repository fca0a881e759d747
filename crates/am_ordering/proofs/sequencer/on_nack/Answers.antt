use Rattle.am_ordering.proofs.SequencingWords.{Some, None, refl, sym, ◌∙◌, Node, take_report, serve_again, node_of, untrimmed_node_ends_itself, arith, serve_again_is_alike}
use Rattle.am_ordering.proofs.SequencingWords.{equal_reply_of_equal_plan, reply_quiet_with_outcome, reply_on_whole_log}
use Rattle.am_ordering.proofs.SequencingRows.{nack_row_by_refusal}
use Rattle.am_ordering.proofs.sequencer.on_nack.Goals as goal

pub returns-in-Some : goal.returns-in-Some
returns-in-Some c =
    let old = node_of c.args.parts.now in
    equal_reply_of_equal_plan (nack_row_by_refusal old c.args.from c.args.report (Some c.in-Some.answer) (sym c.in-Some.is ∙ c.report_refusal.ensures.value)) c.quiet.ensures
    (reply_quiet_with_outcome old old _ (untrimmed_node_ends_itself old))

pub serve_again-requires : goal.serve_again-requires
serve_again-requires c =
    let top = c.take_report.ensures.steady.top in
    let stored = c.in_default.ensures.stored in
    omega arith

pub returns : goal.returns
returns c =
    let old = node_of c.args.parts.now in
    let mid = node_of c.take_report.new.self in
    let rest : Node → _ = λ m. serve_again m c.args.from c.args.report.stored in
    equal_reply_of_equal_plan (nack_row_by_refusal old c.args.from c.args.report None (sym c.in_default.is ∙ c.report_refusal.ensures.value)) refl
    (reply_on_whole_log rest (take_report old c.args.from c.args.report) mid _ _ c.take_report.ensures.end c.take_report.ensures.order
    (λ all keeps. serve_again_is_alike all mid c.args.from c.args.report.stored keeps) c.serve_again.ensures)
