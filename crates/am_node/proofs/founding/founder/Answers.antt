use Rattle.std.proofs.Common.{◌≡◌, refl, ℕ, List, true, ap, sym, ◌∙◌, subst, if◌then◌else◌}
use Rattle.am_base.specs.Founding.{Rules}
use Rattle.am_base.specs.Names.{has}
use Rattle.am_node_defs.specs.Reports.{reports_of, no_report}
use Rattle.am_model.specs.Node.{founder}
use Rattle.am_node.proofs.Founders.{founder_keeps_node_order, node_keeps_as_equal_node, own_first_report_le_taken}
use Rattle.am_node.proofs.founding.founder.Goals as goal

pub invariant_of-result : goal.invariant_of-result
invariant_of-result c =
    let rules = c.room.inside.founding in
    let core = c.founder_core-core.ensures in
    let there = subst (λ (r : Rules). has r.founders c.args.name ≡ true) (sym c.room.view_is) c.requires in
    record {
      keeps = node_keeps_as_equal_node (founder rules c.args.name) _ core
          (own_first_report_le_taken c.founders.result (reports_of c.first_reports-fronts.result) c.founder_core-core.result.who c.founder_core-core.result.taken c.first_reports-fronts.ensures)
          refl refl refl c.new.ensures (founder_keeps_node_order rules c.args.name c.founders.ensures.within there);
    }

pub returns : goal.returns
returns c =
    let core = c.founder_core-core.ensures in
    let P : List ℕ → Type 0 = λ founders. reports_of c.first_reports-fronts.result
    ≡ (λ name. if has founders name then record { stored = 1; taken = 0 } else no_report) in
    let reports = subst P c.founders.ensures.value c.first_reports-fronts.ensures in
    (λ k. record (founder c.room.inside.founding c.args.name) { core = core k; sends = c.new.ensures k; bodies = c.new-2.ensures k; reports = reports k })
    ∙ ap (λ (r : Rules). founder r c.args.name) c.room.view_is
