use Rattle.am_ordering.proofs.JoiningWords.{refl, sym, ap, ◌==◌, ◌∙◌, Image, row_of_name, Node, take_report, answer_leave_ask, asks_to_leave_is_alike, node_of, untrimmed_node_ends_itself}
use Rattle.am_ordering.proofs.JoiningWords.{steady_node_may_serve, equal_reply_of_equal_plan, reply_quiet_with_outcome, reply_on_whole_log}
use Rattle.am_ordering.proofs.Leaves.{leave_ask_row_of_stranger, leave_ask_row_without_report, leave_ask_row_with_report}
use Rattle.am_ordering.proofs.leaving.on_leave_ask.Goals as goal

pub returns-then-is_unknown : goal.returns-then-is_unknown
returns-then-is_unknown c =
    let old = node_of c.args.parts.now in
    equal_reply_of_equal_plan (leave_ask_row_of_stranger old c.args.from c.args.stamp c.args.report (sym c.is_unknown.ensures ∙ c.if-is_unknown.true)) c.quiet.ensures
    (reply_quiet_with_outcome old old _ (untrimmed_node_ends_itself old))

pub asks_to_leave-requires-clause-known : goal.asks_to_leave-requires-clause-known
asks_to_leave-requires-clause-known c = sym c.is_unknown.ensures ∙ c.if-is_unknown.false

pub returns-then-not-counts_report : goal.returns-then-not-counts_report
returns-then-not-counts_report c =
    equal_reply_of_equal_plan (leave_ask_row_without_report (node_of c.args.parts.now) c.args.from c.args.stamp c.args.report (sym c.is_unknown.ensures ∙ c.if-is_unknown.false)
    (sym c.counts_report.ensures ∙ c.if-not-counts_report.true)) refl c.asks_to_leave.ensures

pub asks_to_leave-requires-2-clause-serves : goal.asks_to_leave-requires-2-clause-serves
asks_to_leave-requires-2-clause-serves c =
    steady_node_may_serve (node_of c.args.parts.now) (node_of c.take_report.new.self) c.args.from c.take_report.ensures.steady c.requires

pub asks_to_leave-requires-2-clause-known : goal.asks_to_leave-requires-2-clause-known
asks_to_leave-requires-2-clause-known c = ap (λ (i : Image). (row_of_name i c.args.from).joined == 0) c.take_report.ensures.steady.told
    ∙ (sym c.is_unknown.ensures ∙ c.if-is_unknown.false)

pub returns : goal.returns
returns c =
    let old = node_of c.args.parts.now in
    let mid = node_of c.take_report.new.self in
    let rest : Node → _ = λ m. answer_leave_ask m c.args.from in
    equal_reply_of_equal_plan (leave_ask_row_with_report old c.args.from c.args.stamp c.args.report (sym c.is_unknown.ensures ∙ c.if-is_unknown.false)
    (sym c.counts_report.ensures ∙ c.if-not-counts_report.false)) refl
    (reply_on_whole_log rest (take_report old c.args.from c.args.report) mid _ _ c.take_report.ensures.end c.take_report.ensures.order
    (λ all keeps. asks_to_leave_is_alike all mid c.args.from keeps) c.asks_to_leave-2.ensures)
