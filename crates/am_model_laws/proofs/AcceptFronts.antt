-- The accept front is the greatest, and the walk upwards gives it.
use Rattle.am_model_laws.proofs.Words.{◌≡◌, ℕ, zero, suc, ◌+◌, ◌-◌, ◌<◌, ◌≤◌, Bool, true, false, ◌&&◌, nat_le, refl, sym, ap, ◌∙◌, inl, inr, arith, cases_lt}
use Rattle.am_model_laws.proofs.Words.{nat_tests, Report, Log, top_of_log, image_of_log, is_held, is_satisfied, is_acceptable_front, accept_front, AllSatisfied, IsGreatestFront}
use Rattle.am_model_laws.proofs.Words.{AcceptFrontIsGreatest, climb, climb_over, walk, AcceptFrontByWalking, split_on_bool, each_of_range_passes, range_passes_by_each, IsGreatestPassing}
use Rattle.am_model_laws.proofs.Words.{greatest_is_greatest_passing}

-- as far up as each number in turn passes
record IsClimb (passes : ℕ → Bool) (from more c : ℕ) : Type 0 where
  pub least : from ≤ c
  pub most : c ≤ from + more
  pub passed : (n : ℕ) → from < n → n ≤ c → passes n ≡ true
  pub next : c < from + more → passes (c + 1) ≡ false

higher : (passes : ℕ → Bool) (from more c : ℕ) → passes (from + 1) ≡ true → IsClimb passes (from + 1) more c → IsClimb passes from (suc more) c
higher passes from more c t h = record {
  least = (let l = h.least in omega arith);
  most = (let m = h.most in omega arith);
  passed = λ n low high. elim (cases_lt (from + 1) n) [
    | inl up ↦ h.passed n up high
    | inr first ↦ (let e : n ≡ from + 1 = omega arith in ap passes e ∙ t)
  ];
  next = λ low. h.next (omega arith);
}

climb_is : (passes : ℕ → Bool) (from more : ℕ) → IsClimb passes from more (climb passes from more)
unfolding climb
climb_is passes from zero = record { least = omega arith; most = omega arith; passed = λ n low high. absurd (omega arith); next = λ low. absurd (omega arith) }
climb_is passes from (suc more) = split_on_bool (passes (from + 1))
    (λ t. rw t (higher passes from more (climb passes (from + 1) more) t (climb_is passes (from + 1) more)))
    (λ f. rw f (record { least = omega arith; most = omega arith; passed = λ n low high. absurd (omega arith); next = λ low. f }))

-- ---- fronts

-- what a front says
front_all : (reports : ℕ → Report) (log : Log) (acc front : ℕ) → acc ≤ front → is_acceptable_front reports log acc front ≡ true → AllSatisfied reports log acc front
front_all reports log acc front within h n low high = each_of_range_passes (is_satisfied reports log front) (acc + 1) (front - acc) h n (omega arith) (omega arith)

all_front : (reports : ℕ → Report) (log : Log) (acc front : ℕ) → acc ≤ front → AllSatisfied reports log acc front → is_acceptable_front reports log acc front ≡ true
all_front reports log acc front within h = range_passes_by_each (is_satisfied reports log front) (acc + 1) (front - acc) (λ k low high. h k (omega arith) (omega arith))

front_from : (reports : ℕ → Report) (log : Log) (acc g : ℕ) → IsGreatestPassing (is_acceptable_front reports log acc) acc (top_of_log log - acc) g → IsGreatestFront reports log acc g
front_from reports log acc g h = record {
  least = h.least;
  most = (let m = h.most in omega arith);
  satisfied = elim h.passed [
    | inl e ↦ λ n low high. absurd (omega arith)
    | inr t ↦ front_all reports log acc g h.least t
  ];
  greatest = λ higher low high all. elim (cases_lt g higher) [
    | inl above ↦ (let f = h.above higher above (omega arith) in let t = all_front reports log acc higher low all in absurd (cc))
    | inr within ↦ within
  ];
}

pub accept_front_is_greatest : AcceptFrontIsGreatest
accept_front_is_greatest reports log acc = front_from reports log acc (accept_front reports log acc) (greatest_is_greatest_passing (is_acceptable_front reports log acc) acc (top_of_log log - acc))

-- ---- what satisfies

pub is_satisfied_above_view : (reports : ℕ → Report) (log : Log) (front number : ℕ) → (image_of_log log).view_number ≤ number
    → is_satisfied reports log front number ≡ is_held reports log number
is_satisfied_above_view reports log front number h =
    let t : nat_le (image_of_log log).view_number number ≡ true = grind (arith, nat_tests) in
    rw t refl

pub is_satisfied_below_view : (reports : ℕ → Report) (log : Log) (front number : ℕ) → number < (image_of_log log).view_number
    → is_satisfied reports log front number ≡ (nat_le (image_of_log log).view_number front && is_held reports log (image_of_log log).view_number)
is_satisfied_below_view reports log front number h =
    let t : nat_le (image_of_log log).view_number number ≡ false = grind (arith, nat_tests) in
    rw t refl

-- ---- there is one greatest front

pub greatest_front_is_unique : (reports : ℕ → Report) (log : Log) (acc f g : ℕ) → IsGreatestFront reports log acc f → IsGreatestFront reports log acc g → f ≡ g
greatest_front_is_unique reports log acc f g h k =
    let hl = h.least in let kl = k.least in
    elim (cases_lt (top_of_log log) acc) [
      | inl none ↦ omega arith
      | inr some ↦ (let a : f ≤ g = k.greatest f hl (omega arith) h.satisfied in let b : g ≤ f = h.greatest g kl (omega arith) k.satisfied in omega arith)
    ]

-- ---- the walk

climb_from : (reports : ℕ → Report) (log : Log) (acc c : ℕ) → (image_of_log log).view_number ≤ acc → IsClimb (is_held reports log) acc (top_of_log log - acc) c
    → IsGreatestFront reports log acc c
climb_from reports log acc c reached h = record {
  least = h.least;
  most = (let m = h.most in omega arith);
  satisfied = λ n low high. is_satisfied_above_view reports log c n (omega arith) ∙ h.passed n low high;
  greatest = λ higher low high all. elim (cases_lt c higher) [
    | inl above ↦ (let l = h.least in
        let t = sym (is_satisfied_above_view reports log higher (c + 1) (omega arith)) ∙ all (c + 1) (omega arith) (omega arith) in
        let f = h.next (omega arith) in absurd (cc))
    | inr within ↦ within
  ];
}

-- the View above what is accepted is reached
view_reached : (reports : ℕ → Report) (log : Log) (acc m c : ℕ) → (image_of_log log).view_number ≡ m → acc < m → m ≤ c
    → IsClimb (is_held reports log) (m - 1) (top_of_log log - (m - 1)) c → IsGreatestFront reports log acc c
view_reached reports log acc m c is under reached h = record {
  least = (let l = h.least in omega arith);
  most = (let p = h.most in omega arith);
  satisfied = λ n low high. elim (cases_lt n m) [
    | inl below ↦ (let e = is_satisfied_below_view reports log c n (omega arith) in
        let v : nat_le (image_of_log log).view_number c ≡ true = grind (arith, nat_tests) in
        let held : is_held reports log (image_of_log log).view_number ≡ true = ap (is_held reports log) is ∙ h.passed m (omega arith) reached in
        e ∙ (rw (v, held) refl))
    | inr above ↦ is_satisfied_above_view reports log c n (omega arith) ∙ h.passed n (omega arith) high
  ];
  greatest = λ higher low high all. elim (cases_lt c higher) [
    | inl above ↦ (let t = sym (is_satisfied_above_view reports log higher (c + 1) (omega arith)) ∙ all (c + 1) (omega arith) (omega arith) in
        let f = h.next (omega arith) in absurd (cc))
    | inr within ↦ within
  ];
}

-- it isn't
view_missed : (reports : ℕ → Report) (log : Log) (acc m c : ℕ) → (image_of_log log).view_number ≡ m → acc < m → c < m
    → IsClimb (is_held reports log) (m - 1) (top_of_log log - (m - 1)) c → IsGreatestFront reports log acc acc
view_missed reports log acc m c is under missed h = record {
  least = omega arith;
  most = omega arith;
  satisfied = λ n low high. absurd (omega arith);
  greatest = λ higher low high all. elim (cases_lt acc higher) [
    | inl above ↦ elim (cases_lt higher m) [
      | inl short ↦ (let t = sym (is_satisfied_below_view reports log higher higher (omega arith)) ∙ all higher above (omega arith) in
          let v : nat_le (image_of_log log).view_number higher ≡ false = grind (arith, nat_tests) in absurd (cc))
      | inr far ↦ (let t = sym (is_satisfied_above_view reports log higher m (omega arith)) ∙ all m under far in
          let z : c + 1 ≡ m = omega arith in
          let f = sym (ap (is_held reports log) z) ∙ h.next (omega arith) in absurd (cc))
    ]
    | inr within ↦ within
  ];
}

walk_over : (reports : ℕ → Report) (log : Log) (acc m : ℕ) → (image_of_log log).view_number ≡ m → acc < m
    → IsGreatestFront reports log acc (climb_over (is_held reports log) m acc (top_of_log log))
walk_over reports log acc m is under =
    let h = climb_is (is_held reports log) (m - 1) (top_of_log log - (m - 1)) in
    split_on_bool (nat_le m (climb (is_held reports log) (m - 1) (top_of_log log - (m - 1))))
    (λ t. rw t (view_reached reports log acc m (climb (is_held reports log) (m - 1) (top_of_log log - (m - 1))) is under (grind (arith, nat_tests)) h))
    (λ f. rw f (view_missed reports log acc m (climb (is_held reports log) (m - 1) (top_of_log log - (m - 1))) is under (grind (arith, nat_tests)) h))

walk_is : (reports : ℕ → Report) (log : Log) (acc : ℕ) → IsGreatestFront reports log acc (walk reports log acc)
walk_is reports log acc = split_on_bool (nat_le (image_of_log log).view_number acc)
    (λ t. rw t (climb_from reports log acc (climb (is_held reports log) acc (top_of_log log - acc)) (grind (arith, nat_tests))
    (climb_is (is_held reports log) acc (top_of_log log - acc))))
    (λ f. rw f (walk_over reports log acc (image_of_log log).view_number refl (grind (arith, nat_tests))))

pub accept_front_by_walking : AcceptFrontByWalking
accept_front_by_walking reports log acc = greatest_front_is_unique reports log acc (accept_front reports log acc) (walk reports log acc) (accept_front_is_greatest reports log acc)
    (walk_is reports log acc)
