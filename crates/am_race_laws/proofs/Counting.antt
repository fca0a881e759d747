-- A journal has no more records than its callers' calls have room for.
use Rattle.am_race_laws.proofs.Words.{◌≡◌, ℕ, zero, suc, ◌+◌, ◌*◌, ◌<◌, ◌≤◌, List, [], ◌∷◌, length, Bool, true, false, cond, Option, Some, None, refl, ap, ◌∙◌}
use Rattle.am_race_laws.proofs.Words.{subst, arith, eq-eqb, ne_eqb, slice_get, All, ◌==◌, sum_by, sum_by-cons, none-some, add-mul, dite, ℕ_discrete, Record}
use Rattle.am_race_laws.proofs.Words.{ThreadPlan, of_caller}

-- the records of so many callers, from one on
counted : ℕ → List ThreadPlan → List Record → ℕ
counted from [] journal = 0
counted from (t ∷ threads) journal = length (of_caller from journal) + counted (from + 1) threads journal

kept : (caller : ℕ) (r : Record) (rest : List Record) (b : Bool) → (r.by.caller == caller) ≡ b
    → length (of_caller caller (r ∷ rest)) ≡ length (cond b (r ∷ of_caller caller rest) (of_caller caller rest))
kept caller r rest b e = ap (λ (b : Bool). length (cond b (r ∷ of_caller caller rest) (of_caller caller rest))) e

its_own : (caller : ℕ) (r : Record) (rest : List Record) → r.by.caller ≡ caller → length (of_caller caller (r ∷ rest)) ≡ length (of_caller caller rest) + 1
its_own caller r rest e = let k = kept caller r rest true (eq-eqb r.by.caller caller e) in omega (arith, k)

no_fewer : (caller : ℕ) (r : Record) (rest : List Record) → length (of_caller caller rest) ≤ length (of_caller caller (r ∷ rest))
no_fewer caller r rest = dite (ℕ_discrete r.by.caller caller)
    (λ e. let k = its_own caller r rest e in omega (arith, k))
    (λ (other : r.by.caller ≡ caller → ⊥). let k = kept caller r rest false (ne_eqb r.by.caller caller other) in omega (arith, k))

counts_on : (from : ℕ) (threads : List ThreadPlan) (r : Record) (rest : List Record) → counted from threads rest ≤ counted from threads (r ∷ rest)
unfolding counted
counts_on from [] r rest = omega arith
counts_on from (t ∷ threads) r rest = omega (arith, no_fewer from r rest, counts_on (from + 1) threads r rest)

counts_it : (from : ℕ) (threads : List ThreadPlan) (r : Record) (rest : List Record) → from ≤ r.by.caller → r.by.caller < from + length threads
    → counted from threads rest + 1 ≤ counted from threads (r ∷ rest)
unfolding counted
counts_it from [] r rest low high = absurd (omega arith)
counts_it from (t ∷ threads) r rest low high = dite (ℕ_discrete r.by.caller from)
    (λ e. omega (arith, its_own from r rest e, counts_on (from + 1) threads r rest))
    (λ (other : r.by.caller ≡ from → ⊥). omega (arith, no_fewer from r rest, counts_it (from + 1) threads r rest (omega arith) (omega arith)))

all_counted : (threads : List ThreadPlan) (journal : List Record) → All (λ r. r.by.caller < length threads) journal → length journal ≤ counted 0 threads journal
unfolding counted
all_counted threads [] all = omega arith
all_counted threads (r ∷ rest) all =
    let below : r.by.caller < length threads = all 0 r (omega arith) in
    let one = counts_it 0 threads r rest (omega arith) (omega arith) in
    let more = all_counted threads rest (λ k d h. all (suc k) d (omega arith)) in
    omega arith

room : List ThreadPlan → ℕ → ℕ
room threads each = sum_by (λ (t : ThreadPlan). length t.calls) threads * each

room_cons : (t : ThreadPlan) (threads : List ThreadPlan) (each : ℕ) → room (t ∷ threads) each ≡ length t.calls * each + room threads each
unfolding room
room_cons t threads each = ap (λ (n : ℕ). n * each) (sum_by-cons (λ (u : ThreadPlan). length u.calls) t threads)
    ∙ add-mul (length t.calls) (sum_by (λ (u : ThreadPlan). length u.calls) threads) each

-- each caller has at most the records of its calls
AreFew : ℕ → ℕ → List ThreadPlan → List Record → Type 0
AreFew each from threads journal = (i : ℕ) (t : ThreadPlan) → slice_get threads i ≡ Some t → length (of_caller (from + i) journal) ≤ length t.calls * each

first_few : (each from : ℕ) (t : ThreadPlan) (threads : List ThreadPlan) (journal : List Record) → AreFew each from (t ∷ threads) journal
    → (length (of_caller from journal) ≤ length t.calls * each) × AreFew each (from + 1) threads journal
unfolding AreFew
first_few each from t threads journal few = (at_from (few 0 t refl), λ i u is. moved i u (few (suc i) u is))
  where
    at_from : length (of_caller (from + 0) journal) ≤ length t.calls * each → length (of_caller from journal) ≤ length t.calls * each
    at_from h = let e : length (of_caller (from + 0) journal) ≡ length (of_caller from journal) = ap (λ (n : ℕ). length (of_caller n journal)) (omega arith) in
        omega arith

    moved : (i : ℕ) (u : ThreadPlan) → length (of_caller (from + suc i) journal) ≤ length u.calls * each
        → length (of_caller (from + 1 + i) journal) ≤ length u.calls * each
    moved i u h =
        let e : length (of_caller (from + suc i) journal) ≡ length (of_caller (from + 1 + i) journal) =
        ap (λ (n : ℕ). length (of_caller n journal)) (omega arith) in omega arith

all_few : (each from : ℕ) (threads : List ThreadPlan) (journal : List Record) → AreFew each from threads journal
    → counted from threads journal ≤ room threads each
unfolding counted
all_few each from [] journal few = omega arith
all_few each from (t ∷ threads) journal few =
    let f = first_few each from t threads journal few in
    omega (arith, f.0, all_few each (from + 1) threads journal f.1, room_cons t threads each)

fewer : (each from i : ℕ) (t : ThreadPlan) (threads : List ThreadPlan) (journal : List Record) → AreFew each from threads journal → slice_get threads i ≡ Some t
    → length (of_caller (from + i) journal) < length t.calls * each → counted from threads journal < room threads each
unfolding counted
fewer each from i t [] journal few is less = absurd (none-some t is)
fewer each from zero t (u ∷ threads) journal few is less =
    let f = first_few each from u threads journal few in
    let same : u ≡ t = some_is u t is in
    let e : length (of_caller (from + 0) journal) ≡ length (of_caller from journal) = ap (λ (n : ℕ). length (of_caller n journal)) (omega arith) in
    let m : length u.calls * each ≡ length t.calls * each = ap (λ (x : ThreadPlan). length x.calls * each) same in
    omega (arith, all_few each (from + 1) threads journal f.1, room_cons u threads each)
  where
    its : ThreadPlan → Option ThreadPlan → ThreadPlan
    its d None = d
    its d (Some x) = x

    some_is : (x y : ThreadPlan) → Some x ≡ Some y → x ≡ y
    some_is x y e = ap (its x) e
fewer each from (suc i) t (u ∷ threads) journal few is less =
    let f = first_few each from u threads journal few in
    let e : length (of_caller (from + suc i) journal) ≡ length (of_caller (from + 1 + i) journal) =
    ap (λ (n : ℕ). length (of_caller n journal)) (omega arith) in
    omega (arith, f.0, fewer each (from + 1) i t threads journal f.1 is (omega arith), room_cons u threads each)

-- where each caller has at most the records of its calls, and one has fewer, there are fewer than all calls have room for
pub journal_has_room_while_lacking : (each : ℕ) (threads : List ThreadPlan) (journal : List Record) (caller : ℕ) (t : ThreadPlan) → All (λ r. r.by.caller < length threads) journal
    → ((i : ℕ) (u : ThreadPlan) → slice_get threads i ≡ Some u → length (of_caller i journal) ≤ length u.calls * each)
    → slice_get threads caller ≡ Some t → length (of_caller caller journal) < length t.calls * each
    → length journal < sum_by (λ (u : ThreadPlan). length u.calls) threads * each
unfolding AreFew room
journal_has_room_while_lacking each threads journal caller t all few is less =
    let from_none : (i : ℕ) → i ≡ 0 + i = λ i. omega arith in
    omega (
      arith,
      all_counted threads journal all,
      fewer each 0 caller t threads journal
          (λ i u at. subst (λ (n : ℕ). length (of_caller n journal) ≤ length u.calls * each) (from_none i) (few i u at)) is
          (subst (λ (n : ℕ). length (of_caller n journal) < length t.calls * each) (from_none caller) less),
    )
