use Rattle.std.proofs.Common.{ℕ, [], ◌∷◌, Option, None, sym, subst, ap, ◌∙◌, refl}
use Rattle.std.proofs.lemmas.List.{get_or-replicate}
use Rattle.am_audit_defs.specs.Verdicts.{first_fault}
use Rattle.am_audit.specs.Views.{lines_in}
use Rattle.am_audit.specs.Keeping.{IsIndexOfFound}
use Rattle.am_audit.proofs.Passing.{line_that_is_empty, slice_get_of_lines_in, lines_in_from_index, get_of_empty_map, or_else_of_none, or_else_of_some}
use Rattle.am_audit.proofs.faults.first_fault.Goals as goal

pub loop-at-init : goal.loop-at-init
loop-at-init c = record {
  before = [];
  kept = record {
    numbers = λ name low. get_or-replicate 256 name None None low;
    lines = λ number. subst (λ (o : Option ℕ). IsIndexOfFound (lines_in c.args.logs.now) o None) (sym
        (get_of_empty_map c.new-first.result number c.new-first.ensures.empty)) refl;
    sends = λ key. get_of_empty_map c.new-sent.result key c.new-sent.ensures.empty;
  };
  rest = refl;
}

pub loop-at-preserved : goal.loop-at-preserved
loop-at-preserved c =
    let inv = c.loop-at.invariant in
    let here = slice_get_of_lines_in c.args.logs.now c.loop-at.at line_that_is_empty c.loop-at-test.true in
    let told = c.in_ok-found.ensures _ inv.before here inv.kept in
    record {
      before = _ ∷ inv.before;
      kept = told.1 c.in-None.is;
      rest = sym (or_else_of_none _ _ (sym told.0 ∙ c.in-None.is))
          ∙ ap (first_fault inv.before) (sym (lines_in_from_index c.args.logs.now c.loop-at.at line_that_is_empty c.loop-at-test.true)) ∙ inv.rest;
    }

pub returns-in-Some : goal.returns-in-Some
returns-in-Some c =
    let inv = c.loop-at.invariant in
    let here = slice_get_of_lines_in c.args.logs.now c.loop-at.at line_that_is_empty c.loop-at-test.true in
    let told = c.in_ok-found.ensures _ inv.before here inv.kept in
    sym (or_else_of_some _ _ c.in-Some.fault (sym told.0 ∙ c.in-Some.is))
    ∙ ap (first_fault inv.before) (sym (lines_in_from_index c.args.logs.now c.loop-at.at line_that_is_empty c.loop-at-test.true)) ∙ inv.rest
