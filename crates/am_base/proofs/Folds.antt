-- Folds of lists that go on.
use Rattle.std.proofs.Common.{◌≡◌, ℕ, ◌+◌, List, [], ◌∷◌, ◌++◌, length, ap, ◌∙◌, arith}
use Rattle.am_base.specs.Lists.{after, image_after_entries}
use Rattle.am_base.specs.declared.entry.Entry.{Entry}
use Rattle.am_base.specs.declared.image.Image.{Image}

pub fold_append : (image : Image) (number : ℕ) (xs ys : List Entry) → image_after_entries image number (xs ++ ys) ≡ image_after_entries (image_after_entries image number xs) (number + length xs) ys
unfolding image_after_entries
fold_append image number [] ys = let z : number ≡ number + 0 = omega arith in ap (λ n. image_after_entries image n ys) z
fold_append image number (x ∷ xs) ys =
    let z : (number + 1) + length xs ≡ number + length (x ∷ xs) = omega arith in
    fold_append (after image number x) (number + 1) xs ys ∙ ap (λ n. image_after_entries (image_after_entries (after image number x) (number + 1) xs) n ys) z
