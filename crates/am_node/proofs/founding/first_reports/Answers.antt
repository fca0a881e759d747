use Rattle.std.proofs.Common.{◌≡◌, ℕ, subst, if◌then◌else◌, arith}
use Rattle.am_base.specs.Names.{has}
use Rattle.am_node_defs.specs.Reports.{reports_of, reports_after_report}
use Rattle.am_node.proofs.Founders.{no_founder_reported_at_first, founders_reported_with_next, all_founders_have_reported}
use Rattle.am_node.proofs.founding.first_reports.Goals as goal

pub loop-byte-init : goal.loop-byte-init
loop-byte-init c = no_founder_reported_at_first c.args.founders (reports_of c.new-fronts.result) c.new-fronts.ensures

pub loop-byte-preserved : goal.loop-byte-preserved
loop-byte-preserved c =
    let old = reports_of c.loop-byte.fronts in
    let new = reports_of c.report_first.new.fronts in
    let P : ℕ → Type 0 = λ name. new ≡ (if has c.args.founders name then reports_after_report old name (record { stored = 1; taken = 0 }) else old) in
    founders_reported_with_next c.args.founders old new c.loop-byte.byte c.loop-byte.invariant (subst P c.of_byte.ensures c.report_first.ensures)

pub returns : goal.returns
returns c =
    let high = c.loop-byte.auto.byte-end in
    let low = c.loop-byte-test.false in
    all_founders_have_reported c.args.founders (reports_of c.loop-byte.fronts) c.loop-byte.byte (omega arith) c.requires c.loop-byte.invariant
