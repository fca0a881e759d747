use Rattle.am_node_parts.proofs.Words.{ℕ, ap, sym, subst, Report, Node, NodeKeeps, node_of}
use Rattle.am_node_parts.proofs.Keeping.{report_keeps_node_order}
use Rattle.am_node_parts.proofs.parts.Parts.report.Goals as goal

pub invariant_of-self : goal.invariant_of-self
invariant_of-self c =
    let old = node_of c.args.self.now in
    record {
      keeps = subst (λ (r : ℕ → Report). NodeKeeps (record old { reports = r })) (sym c.report.ensures)
          (report_keeps_node_order old c.args.from c.args.report c.requires c.args.self.now.keeps);
    }

pub returns : goal.returns
returns c = ap (λ (r : ℕ → Report). let n : Node = record (node_of c.args.self.now) { reports = r } in n) c.report.ensures
