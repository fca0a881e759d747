use Rattle.am_ordering.proofs.JoiningWords.{ℕ, ap, sym, ◌∙◌, subst, Report, reports_with_joiner, reports_of, Node, NodeKeeps, node_of}
use Rattle.am_ordering.proofs.Joins.{node_keeps_by_admitted_report}
use Rattle.am_ordering.proofs.joining.admit.Goals as goal

pub invariant_of-parts : goal.invariant_of-parts
invariant_of-parts c =
    let old = node_of c.args.parts.now in
    record {
      keeps = subst (λ (r : ℕ → Report). NodeKeeps (record old { reports = r })) (sym c.admit.ensures)
          (node_keeps_by_admitted_report old c.args.name c.base-base.result c.requires c.args.parts.now.keeps);
    }

pub returns : goal.returns
returns c =
    let old = node_of c.args.parts.now in
    let base = c.base-base.ensures.value in
    ap (λ (r : ℕ → Report). let n : Node = record old { reports = r } in
    n) (c.admit.ensures ∙ ap (λ b. reports_with_joiner (reports_of c.args.parts.now.fronts) c.args.name b) base)
