-- Pieces at the end of bytes.
use Rattle.std.proofs.Common.{◌≡◌, ℕ, List, [], ◌++◌, Result, Ok, Err, OnOk, sym, ap, ◌∙◌, append_assoc, append-nil}

-- nothing was added
pub bytes_with_nothing_put : (xs : List ℕ) → xs ≡ xs ++ []
bytes_with_nothing_put xs = sym (append-nil xs)

-- one piece after another
pub bytes_with_two_pieces_put : {E : Type 0} (done : Result (Unit {0}) E) (before x y middle after : List ℕ) → middle ≡ before ++ x → OnOk done (after ≡ middle ++ y)
    → OnOk done (after ≡ before ++ (x ++ y))
bytes_with_two_pieces_put (Ok ok) before x y middle after first second = second ∙ ap (λ (m : List ℕ). m ++ y) first ∙ append_assoc before x y
bytes_with_two_pieces_put (Err lack) before x y middle after first second = tt
