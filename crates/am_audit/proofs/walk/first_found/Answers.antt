use Rattle.std.proofs.Common.{◌<◌, get_or, sym, refl, arith}
use Rattle.am_audit_defs.specs.Verdicts.{first_found}
use Rattle.am_audit.specs.Views.{lines_in}
use Rattle.am_audit.proofs.Passing.{line_that_is_empty, pass_begins_with_all_lines, pass_goes_on_by_line}
use Rattle.am_audit.proofs.walk.first_found.Goals as goal

pub loop-at-init : goal.loop-at-init
loop-at-init g c = pass_begins_with_all_lines (first_found g.C.Check.found) (lines_in c.args.lines.now)

pub loop-at-preserved : goal.loop-at-preserved
loop-at-preserved g c =
    let named : (get_or c.args.lines.now c.loop-at.at line_that_is_empty).name < 256 = omega (arith, c.from.ensures) in
    pass_goes_on_by_line (first_found g.C.Check.found) g.C.Check.found (λ before line lines. refl) c.args.lines.now c.loop-at.at c.from.result
    c.from-in-loop-at.result c.loop-at.last c.loop-at-test.true c.from.ensures c.from-in-loop-at.ensures named (sym c.in-None.ensures) c.loop-at.invariant
