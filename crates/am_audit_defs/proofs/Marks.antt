-- Where a text is cut at a mark.
use Rattle.std.proofs.Common.{◌≡◌, ℕ, zero, suc, ◌<◌, List, [], ◌∷◌, length, take, drop, Some, None, true, false, cond, refl, ap, ◌∙◌, arith}
use Rattle.am_text_defs.specs.Fields.{onto_cut}
use Rattle.am_audit_defs.specs.Lines.{begins_mark, mark_cut}

mark_here : (mark x : ℕ) (xs : List ℕ) → begins_mark mark (x ∷ xs) ≡ true → mark_cut mark (x ∷ xs) ≡ ([], Some (drop 2 xs))
mark_here mark x xs h = ap (λ b. cond b ([], Some (drop 2 xs)) (onto_cut x (mark_cut mark xs))) h

mark_on : (mark x : ℕ) (xs : List ℕ) → begins_mark mark (x ∷ xs) ≡ false → mark_cut mark (x ∷ xs) ≡ onto_cut x (mark_cut mark xs)
mark_on mark x xs h = ap (λ b. cond b ([], Some (drop 2 xs)) (onto_cut x (mark_cut mark xs))) h

-- the first mark stands at an index
pub mark_cut_at_first_mark : (mark : ℕ) (xs : List ℕ) (i : ℕ) → ((k : ℕ) → k < i → begins_mark mark (drop k xs) ≡ false) → i < length xs → begins_mark mark (drop i xs) ≡ true
    → mark_cut mark xs ≡ (take i xs, Some (drop (suc (suc (suc i))) xs))
mark_cut_at_first_mark mark [] i before within at = absurd (omega arith)
mark_cut_at_first_mark mark (x ∷ xs) zero before within at = mark_here mark x xs at
mark_cut_at_first_mark mark (x ∷ xs) (suc i) before within at =
    mark_on mark x xs (before 0 (omega arith))
    ∙ ap (onto_cut x) (mark_cut_at_first_mark mark xs i (λ k h. before (suc k) (omega arith)) (omega arith) at)

-- there is none
pub mark_cut_without_mark : (mark : ℕ) (xs : List ℕ) → ((k : ℕ) → k < length xs → begins_mark mark (drop k xs) ≡ false) → mark_cut mark xs ≡ (xs, None)
mark_cut_without_mark mark [] before = refl
mark_cut_without_mark mark (x ∷ xs) before =
    mark_on mark x xs (before 0 (omega arith))
    ∙ ap (onto_cut x) (mark_cut_without_mark mark xs (λ k h. before (suc k) (omega arith)))
