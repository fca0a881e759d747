use Rattle.std.proofs.Common.{ℕ, ◌==◌, Some, None, sym, ap, ◌∙◌, cond, arith}
use Rattle.std.specs.Ordering.{nat_cmp}
use Rattle.std.specs.BTreeMap.{get}
use Rattle.std.proofs.lemmas.List.{length-map}
use Rattle.am_audit_defs.specs.Verdicts.{or_else}
use Rattle.am_audit.specs.Views.{line_seen, lines_in}
use Rattle.am_audit.proofs.Passing.{if_ok_by_implied_claim, line_read_at_index}
use Rattle.am_audit.proofs.Faulting.{first_fault_with_next_line}
use Rattle.am_audit.proofs.faults.fault_at.Goals as goal

pub returns : goal.returns
returns c = if_ok_by_implied_claim c.twice_at.result _ _ (λ found sent line before is kept.
    first_fault_with_next_line (lines_in c.args.logs.now) c.args.last.now c.args.first.now c.first_at.new.map c.args.sent.now c.twice_at.new.sent c.in_ok-known.known c.args.at
    c.from.result c.from-3.result _ line before found is (line_read_at_index c.args.logs.now c.args.at _ line c.requires is) (rw
    (length-map c.args.logs.now line_seen) c.requires) c.told-last
    (omega (arith, c.from.ensures)) c.from.ensures c.from-3.ensures
    (sym c.in_default.ensures) c.in_default-differs_at.ensures (c.in_ok-known.ensures.was ∙ ap (get nat_cmp c.args.first.now) c.from-2.ensures)
    (λ q. c.in_ok-known.ensures.set q ∙ ap (λ (k : ℕ). or_else (get nat_cmp c.args.first.now q) (cond (k == q)
    (Some c.args.at) None)) c.from-2.ensures) (sent before) kept) c.twice_at.ensures
