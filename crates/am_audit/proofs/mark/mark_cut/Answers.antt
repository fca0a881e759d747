use Rattle.std.proofs.Common.{◌≡◌, ℕ, suc, ◌+◌, ◌-◌, length, take, drop, Some, ap, ◌∙◌, sym, arith, length-drop, take_all}
use Rattle.am_audit_defs.proofs.Marks.{mark_cut_at_first_mark, mark_cut_without_mark}
use Rattle.am_audit.proofs.mark.mark_cut.Goals as goal

pub returns-clause-first : goal.returns-clause-first
returns-clause-first c =
    ap (λ cut. cut.0) (sym (mark_cut_without_mark c.args.mark c.args.text.now (λ k h. c.loop-at.invariant k (omega (arith, h)))))

pub returns-then-is_mark-clause-first : goal.returns-then-is_mark-clause-first
returns-then-is_mark-clause-first c =
    ap (λ cut. cut.0) (sym (mark_cut_at_first_mark c.args.mark c.args.text.now c.loop-at.at c.loop-at.invariant c.loop-at-test.true (sym c.is_mark.ensures
    ∙ c.if-is_mark.true)))

pub returns-then-is_mark-clause-rest : goal.returns-then-is_mark-clause-rest
returns-then-is_mark-clause-rest c =
    let rest = ap (λ cut. cut.1) (sym (mark_cut_at_first_mark c.args.mark c.args.text.now c.loop-at.at c.loop-at.invariant c.loop-at-test.true
    (sym c.is_mark.ensures ∙ c.if-is_mark.true))) in
    let whole : take (length c.args.text.now - (c.loop-at.at + 3)) (drop (c.loop-at.at + 3) c.args.text.now) ≡ drop (c.loop-at.at + 3) c.args.text.now
    = take_all _ _ (omega (arith, length-drop (c.loop-at.at + 3) c.args.text.now)) in
    let three : c.loop-at.at + 3 ≡ suc (suc (suc c.loop-at.at)) = omega arith in
    ap Some whole ∙ ap (λ (n : ℕ). Some (drop n c.args.text.now)) three ∙ rest

pub returns-clause-rest : goal.returns-clause-rest
returns-clause-rest c =
    ap (λ cut. cut.1) (sym (mark_cut_without_mark c.args.mark c.args.text.now (λ k h. c.loop-at.invariant k (omega (arith, h)))))
