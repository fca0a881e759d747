-- Letters that were looked through needn't be looked through again.
use Rattle.std.proofs.Common.{◌≡◌, ℕ, suc, ◌+◌, ◌<◌, ◌≤◌, List, [], ◌∷◌, ◌++◌, length, take, drop, Some, None, sym, ap, ◌∙◌, add-zero, arith, length-drop}
use Rattle.std.proofs.lemmas.List.{take-append-le, drop-append-le, length-take-le, take-append-drop, take_all, drop_all, length-append}
use Rattle.am_base.proofs.Greatest.{split_on_bool}
use Rattle.am_packet.specs.Boxes.{Letter}
use Rattle.am_group.specs.Addressed.{is_for, first_for, next_for, IsSeen}

-- none of the first letters is for the name
behind : (xs ys : List Letter) (number name : ℕ) → first_for xs number name ≡ None → first_for (xs ++ ys) number name ≡ first_for ys (number + length xs) name
behind [] ys number name none = ap (λ k. first_for ys k name) (sym (add-zero number))
behind (x ∷ xs) ys number name none =
    split_on_bool (is_for x name)
    (λ t. absurd (let n = rw t at none in cc))
    (λ f. let at : number + 1 + length xs ≡ number + suc (length xs) = omega arith in
    rw f (behind xs ys (number + 1) name (rw f at none) ∙ ap (λ k. first_for ys k name) at))

-- the letter that is found is one of them
within : (xs : List Letter) (number name found : ℕ) → first_for xs number name ≡ Some found → found < number + length xs
within [] number name found is = absurd (cc)
within (x ∷ xs) number name found is =
    split_on_bool (is_for x name)
    (λ t. let e : number ≡ found = (let s = rw t at is in cc) in omega arith)
    (λ f. let less = within xs (number + 1) name found (rw f at is) in omega arith)

pub next_for_from_seen : (letters : List Letter) (name after seen : ℕ) → IsSeen letters name after seen
    → next_for letters name after ≡ next_for letters name seen
unfolding next_for
next_for_from_seen letters name after seen is =
    let low = is.low in
    let long = length-take-le seen letters is.high in
    let parts : drop after letters ≡ drop after (take seen letters) ++ drop seen letters
    = ap (drop after) (sym (take-append-drop seen letters)) ∙ drop-append-le after (take seen letters) (drop seen letters) (omega arith) in
    let less = length-drop after (take seen letters) in
    let at : after + 1 + length (drop after (take seen letters)) ≡ seen + 1 = omega arith in
    ap (λ xs. first_for xs (after + 1) name) parts ∙ behind (drop after (take seen letters)) (drop seen letters) (after + 1) name is.none
    ∙ ap (λ k. first_for (drop seen letters) k name) at

pub letters_seen_of_append : (letters more : List Letter) (name after seen : ℕ) → IsSeen letters name after seen → IsSeen (letters ++ more) name after seen
letters_seen_of_append letters more name after seen is = record {
  low = is.low;
  high = let high = is.high in let long = length-append letters more in omega arith;
  none = ap (λ xs. next_for xs name after) (take-append-le seen letters more is.high) ∙ is.none;
}

-- nothing stands above a letter up to it
pub letters_seen_up_to_number : (letters : List Letter) (name number : ℕ) → number ≤ length letters → IsSeen letters name number number
unfolding next_for
letters_seen_up_to_number letters name number h = record {
  low = omega arith;
  high = h;
  none = let long = length-take-le number letters h in ap (λ xs. first_for xs (number + 1) name) (drop_all number (take number letters) (omega arith));
}

pub letters_seen_without_next : (letters : List Letter) (name after : ℕ) → after ≤ length letters → next_for letters name after ≡ None
    → IsSeen letters name after (length letters)
letters_seen_without_next letters name after h none = record {
  low = h;
  high = omega arith;
  none = ap (λ xs. next_for xs name after) (take_all (length letters) letters (omega arith)) ∙ none;
}

pub next_for_le_length : (letters : List Letter) (name after number : ℕ) → after ≤ length letters → next_for letters name after ≡ Some number → number ≤ length letters
unfolding next_for
next_for_le_length letters name after number h is =
    let less = within (drop after letters) (after + 1) name number is in
    let long = length-drop after letters in
    omega arith
