use Rattle.std.proofs.Common.{◌≡◌, ℕ, ◌+◌, ◌-◌, length, take, drop, Some, ap, ◌∙◌, sym, arith, length-drop, take_all, add-one}
use Rattle.am_text_defs.proofs.Cuts.{cut_of_at_first_separator, cut_of_without_separator}
use Rattle.am_text_reader.proofs.cut.cut.Goals as goal

pub returns-then-byte-separator-clause-first : goal.returns-then-byte-separator-clause-first
returns-then-byte-separator-clause-first c =
    ap (λ cut. cut.0) (sym (cut_of_at_first_separator c.args.separator c.args.text.now c.loop-at.at c.loop-at.invariant c.loop-at-test.true c.if-byte-separator.true))

pub returns-then-byte-separator-clause-rest : goal.returns-then-byte-separator-clause-rest
returns-then-byte-separator-clause-rest c =
    let rest = ap (λ cut. cut.1) (sym (cut_of_at_first_separator c.args.separator c.args.text.now c.loop-at.at c.loop-at.invariant c.loop-at-test.true c.if-byte-separator.true)) in
    let whole : take (length c.args.text.now - (c.loop-at.at + 1)) (drop (c.loop-at.at + 1) c.args.text.now) ≡ drop (c.loop-at.at + 1) c.args.text.now
    = take_all _ _ (omega (arith, length-drop (c.loop-at.at + 1) c.args.text.now)) in
    ap Some whole ∙ ap (λ (n : ℕ). Some (drop n c.args.text.now)) (add-one c.loop-at.at) ∙ rest

pub returns-clause-first : goal.returns-clause-first
returns-clause-first c =
    ap (λ cut. cut.0) (sym (cut_of_without_separator c.args.separator c.args.text.now (λ k h. c.loop-at.invariant k (omega (arith, h)))))

pub returns-clause-rest : goal.returns-clause-rest
returns-clause-rest c =
    ap (λ cut. cut.1) (sym (cut_of_without_separator c.args.separator c.args.text.now (λ k h. c.loop-at.invariant k (omega (arith, h)))))
