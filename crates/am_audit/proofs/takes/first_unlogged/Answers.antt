use Rattle.std.proofs.Common.{◌≡◌, ℕ, ◌<◌, [], ◌∷◌, get_or, Some, None, cond, sym, ap, ◌∙◌, refl, arith}
use Rattle.am_audit_defs.specs.declared.verdict.Verdict.TheVariants as verdicts
use Rattle.am_audit_defs.specs.Verdicts.{first_unlogged, unlogged_at}
use Rattle.am_audit.specs.Views.{line_seen, lines_in, texts_in}
use Rattle.am_audit.proofs.Passing.{line_that_is_empty, lines_in_from_index, or_else_of_none, or_else_of_some}
use Rattle.am_audit.proofs.Counting.{nothing_is_counted_at_first, taken_line_comes_next, count_with_one_line_more}
use Rattle.am_audit.proofs.takes.first_unlogged.Goals as goal

pub loop-at-init : goal.loop-at-init
loop-at-init c = record { before = []; so_many = refl; done = nothing_is_counted_at_first; rest = refl }

pub loop-at-preserved : goal.loop-at-preserved
loop-at-preserved c =
    let inv = c.loop-at.invariant in
    let line = line_seen (get_or c.args.takes.now c.loop-at.at line_that_is_empty) in
    let named : (get_or c.args.takes.now c.loop-at.at line_that_is_empty).name < 256 = omega (arith, c.from-name.ensures) in
    let right = taken_line_comes_next (texts_in c.args.group.now) (lines_in c.args.logs.now) inv.before line c.firsts-firsts.result c.counts-lengths.result c.loop-at.done
    c.from-name.result c.is_next.result c.requires.faultless c.requires.listed named c.from-name.ensures c.firsts-firsts.ensures
    c.counts-lengths.ensures inv.done c.is_next.ensures in
    let none : unlogged_at (lines_in c.args.logs.now) inv.before line ≡ None
    = ap (λ b. cond b None (Some (verdicts.Unlogged line.name line.number))) (right ∙ c.if-not-is_next.false) in
    record {
      before = line ∷ inv.before;
      so_many = omega (arith, inv.so_many);
      done = count_with_one_line_more c.loop-at.done inv.before line c.from-name.result named c.from-name.ensures inv.done;
      rest = sym (or_else_of_none _ _ none) ∙ ap (first_unlogged (lines_in c.args.logs.now) inv.before) (sym
          (lines_in_from_index c.args.takes.now c.loop-at.at line_that_is_empty c.loop-at-test.true)) ∙ inv.rest;
    }

pub returns-then-not-is_next : goal.returns-then-not-is_next
returns-then-not-is_next c =
    let line = line_seen (get_or c.args.takes.now c.loop-at.at line_that_is_empty) in
    let named : (get_or c.args.takes.now c.loop-at.at line_that_is_empty).name < 256 = omega (arith, c.from-name.ensures) in
    let right = taken_line_comes_next (texts_in c.args.group.now) (lines_in c.args.logs.now) c.loop-at.invariant.before line c.firsts-firsts.result c.counts-lengths.result c.loop-at.done
    c.from-name.result c.is_next.result c.requires.faultless c.requires.listed named c.from-name.ensures c.firsts-firsts.ensures
    c.counts-lengths.ensures c.loop-at.invariant.done c.is_next.ensures in
    let some : unlogged_at (lines_in c.args.logs.now) c.loop-at.invariant.before line ≡ Some (verdicts.Unlogged line.name line.number)
    = ap (λ b. cond b None (Some (verdicts.Unlogged line.name line.number))) (right ∙ c.if-not-is_next.true) in
    ap (λ (n : ℕ). Some (verdicts.Unlogged n line.number)) c.of_byte.ensures
    ∙ sym (or_else_of_some _ _ _ some) ∙ ap (first_unlogged (lines_in c.args.logs.now) c.loop-at.invariant.before) (sym
    (lines_in_from_index c.args.takes.now c.loop-at.at line_that_is_empty c.loop-at-test.true)) ∙ c.loop-at.invariant.rest
