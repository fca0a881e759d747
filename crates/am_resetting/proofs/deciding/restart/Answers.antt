use Rattle.am_resetting.proofs.DecidingWords.{subst, sym, Report, ℕ, NodeKeeps, node_of}
use Rattle.am_resetting.proofs.Nodes.{node_keeps_by_new_reports}
use Rattle.am_resetting.proofs.deciding.restart.Goals as goal

pub invariant_of-parts : goal.invariant_of-parts
invariant_of-parts c =
    let old = node_of c.args.parts.now in
    record {
      keeps = subst (λ (r : ℕ → Report). NodeKeeps (record old { reports = r })) (sym c.restart.ensures)
          (node_keeps_by_new_reports old c.args.base c.requires c.args.parts.now.keeps);
    }
