-- Where a View stands in the group list.
use Rattle.am_lawful_defs.proofs.Words.{le-leb, lt-leb, ◌≡◌, ℕ, zero, suc, ◌+◌, ◌<◌, true, false, List, [], ◌∷◌, ◌++◌, length, take, None, refl, sym, ap, ◌∙◌}
use Rattle.am_lawful_defs.proofs.Words.{arith, list_any, Stamp, Entry, is_view_of, split_on_bool, is_there_and_at_most, number_or_else, number_of_view}

number_low : (s : Stamp) (number n : ℕ) (xs : List Entry) → n < number → is_there_and_at_most (number_of_view s number xs) n ≡ false
unfolding number_of_view
number_low s number n [] h = refl
number_low s number n (e ∷ es) h = split_on_bool (is_view_of s e)
    (λ t. rw t (lt-leb number n h))
    (λ t. rw t (number_low s (number + 1) n es (omega arith)))

take_none : (n : ℕ) → take n (let none : List Entry = [] in none) ≡ []
take_none zero = refl
take_none (suc n) = refl

number_at : (s : Stamp) (number m n : ℕ) (xs : List Entry) → m + 1 ≡ number + n → is_there_and_at_most (number_of_view s number xs) m ≡ list_any (is_view_of s) (take n xs)
unfolding number_of_view
number_at s number m n [] h = ap (list_any (is_view_of s)) (sym (take_none n))
number_at s number m zero (e ∷ es) h = number_low s number m (e ∷ es) (omega arith)
number_at s number m (suc n) (e ∷ es) h = split_on_bool (is_view_of s e)
    (λ t. rw t (le-leb number m (omega arith)))
    (λ t. rw t (number_at s (number + 1) m n es (omega arith)))

-- it stands among the first n where its number is at most n
pub number_of_view_is_by : (s : Stamp) (n : ℕ) (xs : List Entry) → is_there_and_at_most (number_of_view s 1 xs) n ≡ list_any (is_view_of s) (take n xs)
number_of_view_is_by s n xs = number_at s 1 n n xs (omega arith)

pub number_of_absent_view : (s : Stamp) (number : ℕ) (xs : List Entry) → list_any (is_view_of s) xs ≡ false → number_of_view s number xs ≡ None
unfolding number_of_view
number_of_absent_view s number [] h = refl
number_of_absent_view s number (e ∷ es) h = split_on_bool (is_view_of s e)
    (λ t. let b : true ≡ false = rw t at h in absurd (cc))
    (λ t. let b : list_any (is_view_of s) es ≡ false = rw t at h in rw t (number_of_absent_view s (number + 1) es b))

pub number_of_view_in_append : (s : Stamp) (number : ℕ) (xs ys : List Entry)
    → number_of_view s number (xs ++ ys) ≡ number_or_else (number_of_view s number xs) (number_of_view s (number + length xs) ys)
unfolding number_of_view
number_of_view_in_append s number [] ys = let z : number ≡ number + length (let none : List Entry = [] in none) = omega arith in ap (λ n. number_of_view s n ys) z
number_of_view_in_append s number (e ∷ es) ys = split_on_bool (is_view_of s e)
    (λ t. rw t refl)
    (λ t. let z : number + 1 + length es ≡ number + length (e ∷ es) = omega arith in
    rw t (number_of_view_in_append s (number + 1) es ys ∙ ap (λ n. number_or_else (number_of_view s (number + 1) es) (number_of_view s n ys)) z))
