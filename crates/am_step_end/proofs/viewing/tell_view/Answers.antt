use Rattle.am_node_parts.proofs.Words.{arith, ◌∙◌, node_of}
use Rattle.am_node_parts.proofs.LastView.{and_view_without_new_view, and_view_sends_last_view}
use Rattle.am_step_end.proofs.viewing.tell_view.Goals as goal

pub returns-then-number-base-clause-letters : goal.returns-then-number-base-clause-letters
returns-then-number-base-clause-letters c =
    let number = c.view_number-number.ensures.value in
    let base = c.base.ensures.value in
    let low = c.if-number-base.true in
    and_view_without_new_view (node_of c.args.parts.now) c.args.out.now (omega arith)

pub returns-clause-letters : goal.returns-clause-letters
returns-clause-letters c =
    let base = c.base.ensures.value in
    let high = c.if-number-base.false in
    c.put.ensures ∙ and_view_sends_last_view (node_of c.args.parts.now) c.args.out.now c.view_number-number.result c.behind-to.result c.viewed_at-members.result
    c.resilience.result _ (omega arith) c.view_number-number.ensures.value c.behind-to.ensures c.viewed_at-members.ensures
    c.resilience.ensures.value c.result-result.ensures.value
