-- The threads of a plan: their calls, and what all of them give.
use Rattle.am_race_laws.proofs.Words.{◌≡◌, ℕ, suc, ◌+◌, ◌<◌, List, [], ◌∷◌, ◌++◌, length, map, take, drop, get_or, Option, Some, None, sym, refl, ap, ◌∙◌, arith}
use Rattle.am_race_laws.proofs.Words.{option_or, drop-cons, take-suc, map-append, Act, WireRefusal, Calling, caller_numbers, first_refusal}

-- ---- the calls of a thread

pub drop_at_next_call : (calls : List Act) (i : ℕ) (a : Act) → i < length calls → a ≡ get_or calls i a → drop i calls ≡ a ∷ drop (i + 1) calls
drop_at_next_call calls i a below there =
    let one : suc i ≡ i + 1 = omega arith in
    drop-cons calls i a below ∙ ap (λ (n : ℕ). get_or calls i a ∷ drop n calls) one ∙ ap (λ (x : Act). x ∷ drop (i + 1) calls) (sym there)

pub take_with_next_call : (calls : List Act) (i : ℕ) (a : Act) → i < length calls → a ≡ get_or calls i a → take i calls ++ a ∷ [] ≡ take (i + 1) calls
take_with_next_call calls i a below there =
    let one : suc i ≡ i + 1 = omega arith in
    ap (λ (x : Act). take i calls ++ x ∷ []) there ∙ sym (take-suc calls i a below) ∙ ap (λ (n : ℕ). take n calls) one

-- ---- what threads give

-- what was given has the number of its job
pub record GivenHasNumberOfJob {J X : Type 0} (of : J → ℕ) (its : X → ℕ) (jobs : List J) (i : ℕ) (x : X) : Type 0 where
  pub job : J
  pub is : (d : J) → get_or jobs i d ≡ job
  pub number : its x ≡ of job

pub given_numbers_are_jobs_numbers : {J X : Type 0} (of : J → ℕ) (its : X → ℕ) (jobs : List J) (xs : List X) → length xs ≡ length jobs
    → ((i : ℕ) (d : X) → i < length jobs → GivenHasNumberOfJob of its jobs i (get_or xs i d)) → map its xs ≡ map of jobs
given_numbers_are_jobs_numbers of its [] [] many each = refl
given_numbers_are_jobs_numbers of its [] (x ∷ xs) many each = absurd (omega arith)
given_numbers_are_jobs_numbers of its (j ∷ jobs) [] many each = absurd (omega arith)
given_numbers_are_jobs_numbers {J} {X} of its (j ∷ jobs) (x ∷ xs) many each =
    let first = each 0 x (omega arith) in
    ap (λ (n : ℕ). n ∷ map its xs) (first.number ∙ ap of (sym (first.is j)))
    ∙ ap (λ (l : List ℕ). of j ∷ l) (given_numbers_are_jobs_numbers of its jobs xs (omega arith) (λ i d h.
    let g = each (suc i) d (omega arith) in record { job = g.job; is = g.is; number = g.number }))

-- the callers' numbers
pub numbers_of_mapped_callers : {X : Type 0} (call : X → Calling) (xs : List X) → caller_numbers (map call xs) ≡ map (λ x. (call x).number) xs
numbers_of_mapped_callers call [] = refl
numbers_of_mapped_callers call (x ∷ xs) = ap (λ (l : List ℕ). (call x).number ∷ l) (numbers_of_mapped_callers call xs)

pub map_with_one_more : {X Y : Type 0} (f : X → Y) (xs : List X) (x : X) (ys zs : List Y) → ys ≡ map f xs → zs ≡ ys ++ f x ∷ [] → zs ≡ map f (xs ++ x ∷ [])
map_with_one_more {X} {Y} f xs x ys zs is more = more ∙ ap (λ (l : List Y). l ++ f x ∷ []) is ∙ sym (map-append f xs (x ∷ []))

-- ---- what threads were refused

first_more : (refusals : List (Option WireRefusal)) (one : Option WireRefusal) → first_refusal (refusals ++ one ∷ []) ≡ option_or (first_refusal refusals) one
first_more [] None = refl
first_more [] (Some refusal) = refl
first_more (None ∷ refusals) one = first_more refusals one
first_more (Some refusal ∷ refusals) one = refl

pub first_refusal_with_one_more : {X : Type 0} (refusal : X → Option WireRefusal) (xs : List X) (x : X) (old new : Option WireRefusal) → old ≡ first_refusal (map refusal xs)
    → new ≡ option_or old (refusal x)
    → new ≡ first_refusal (map refusal (xs ++ x ∷ []))
first_refusal_with_one_more refusal xs x old new is more =
    more ∙ ap (λ (o : Option WireRefusal). option_or o (refusal x)) is ∙ sym (first_more (map refusal xs) (refusal x))
    ∙ ap first_refusal (sym (map-append refusal xs (x ∷ [])))
