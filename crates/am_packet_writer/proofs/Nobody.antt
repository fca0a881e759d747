-- A set has nobody where it has no lowest name.
use Rattle.std.proofs.Common.{◌≡◌, ℕ, zero, suc, ◌+◌, ◌<◌, List, [], ◌∷◌, ◌==◌, true, false, cond, nat_lt, sum_by, refl, sym, arith}
use Rattle.std.specs.Option.{is_none}
use Rattle.std.proofs.lemmas.Bool.Decides.{nat_tests}
use Rattle.std.proofs.lemmas.List.Sums.{sum_by-append}
use Rattle.am_base.specs.Names.{size, names_from, first_name_of, lowest_name_of}

counts : ℕ → ℕ
counts life = cond (nat_lt 0 life) 1 0

somebody : (before : ℕ) (lives : List ℕ) → (size (suc before ∷ lives) == 0) ≡ false
unfolding counts
somebody before lives =
    let all : size (suc before ∷ lives) ≡ sum_by counts (suc before ∷ []) + sum_by counts lives = sum_by-append counts (suc before ∷ []) lives in
    let one : nat_lt 0 (suc before) ≡ true = grind (arith, nat_tests) in
    let own : sum_by counts (suc before ∷ []) ≡ 1 = rw one refl in
    let some : 0 < size (suc before ∷ lives) = omega (arith, all, own) in
    grind (arith, nat_tests)

none_from : (place : ℕ) (set : List ℕ) → is_none (first_name_of (names_from place set)) ≡ (size set == 0)
none_from place [] = refl
none_from place (zero ∷ lives) = none_from (place + 1) lives
none_from place (suc before ∷ lives) = sym (somebody before lives)

pub lowest_of_nobody : (set : List ℕ) → is_none (lowest_name_of set) ≡ (size set == 0)
lowest_of_nobody set = none_from 0 set
