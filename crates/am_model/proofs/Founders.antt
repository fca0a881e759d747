-- The lowest founder of a lawful founding is a founder, at a place below sixteen.
use Rattle.std.proofs.Common.{◌≡◌, ℕ, zero, suc, ◌+◌, ◌<◌, ◌≤◌, ◌==◌, true, List, [], ◌∷◌, length, get_or, unwrap_or, Some, sym, ap, ◌∙◌, subst, arith}
use Rattle.std.proofs.lemmas.Bool.Decides.{nat_tests}
use Rattle.am_base.specs.Founding.{Rules, MayFound}
use Rattle.am_base.specs.Names.{place_of_name, life_of_name, name_of_place_and_life, has, size, names_from, first_name_of}
use Rattle.am_model.specs.Node.{lowest_name_or_zero}

-- the first name of a set that isn't empty, whose places count from one on
first_is : (p : ℕ) (set : List ℕ) → 0 < size set → (k : ℕ) × (k < length set) × (0 < get_or set k 0)
    × (first_name_of (names_from p set) ≡ Some (name_of_place_and_life (p + k) (get_or set k 0)))
first_is p [] some = absurd (omega arith)
first_is p (zero ∷ lives) some =
    let h = first_is (p + 1) lives some in
    let z : (p + 1) + h.0 ≡ p + suc h.0 = omega arith in
    (suc h.0, omega arith, h.2, h.3 ∙ ap (λ n. Some (name_of_place_and_life n (get_or lives h.0 0))) z)
first_is p (suc before ∷ lives) some = let z : p ≡ p + 0 = omega arith in (0, omega arith, omega arith, ap (λ n. Some (name_of_place_and_life n (suc before))) z)

pub record LowestFounderFounds (rules : Rules) : Type 0 where
  pub few : lowest_name_or_zero rules.founders < 16
  pub founds : has rules.founders (lowest_name_or_zero rules.founders) ≡ true

pub lowest_founder_founds : (rules : Rules) → MayFound rules → LowestFounderFounds rules
lowest_founder_founds rules may =
    let h = first_is 0 rules.founders may.somebody in
    let within = h.1 in
    let above = h.2 in
    let life : get_or rules.founders h.0 0 ≤ 1 = may.first_lives h.0 h.1 in
    let one : get_or rules.founders h.0 0 ≡ 1 = omega arith in
    let places = may.names.places in
    let name : name_of_place_and_life (0 + h.0) 1 ≡ h.0 = omega arith in
    let is : lowest_name_or_zero rules.founders ≡ h.0 = ap (λ o. unwrap_or o 0) (h.3 ∙ ap (λ l. Some (name_of_place_and_life (0 + h.0) l)) one) ∙ name in
    let place : place_of_name h.0 ≡ h.0 = omega arith in
    let mine : life_of_name h.0 ≡ 1 = omega arith in
    let there : (get_or rules.founders (place_of_name h.0) 0 == life_of_name h.0) ≡ true = let e = ap (λ k. get_or rules.founders k 0) place ∙ one ∙ sym mine in
    grind (arith, nat_tests) in
    record { few = omega arith; founds = subst (λ n. has rules.founders n ≡ true) (sym is) there }
