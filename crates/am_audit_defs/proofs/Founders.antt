-- What a founders' view is.
use Rattle.std.proofs.Common.{◌≡◌, ℕ, zero, suc, ◌+◌, ◌-◌, ◌*◌, ◌<◌, ◌≤◌, ◌==◌, ◌&&◌, nat_le, List, [], ◌∷◌, Option, Some, None, Result, Ok, Err, Bool, true, false}
use Rattle.std.proofs.Common.{refl, sym, ap, ◌∙◌, subst, arith}
use Rattle.std.specs.Prelude.{slice_index}
use Rattle.std.specs.List.{list_all}
use Rattle.std.proofs.lemmas.Bool.{eq-eqb, eqb-true}
use Rattle.std.proofs.lemmas.Bool.Decides.{nat_tests}
use Rattle.am_base.specs.Names.{first_name_of, names_from, lowest_name_of}
use Rattle.am_base.specs.declared.entry.GroupView.{GroupView}
use Rattle.am_audit_defs.specs.declared.outline.Outline.{Outline}
use Rattle.am_audit_defs.specs.declared.outline.Outline.TheVariants as outlines
use Rattle.am_audit_defs.specs.Verdicts.{is_lowest, founds}
use Rattle.am_audit_defs.specs.Agreement.{IsFounding}

and_of : (a b : Bool) → (a && b) ≡ true → (a ≡ true) × (b ≡ true)
and_of true b h = (refl, h)
and_of false b h = cc

both : (a b : Bool) → a ≡ true → b ≡ true → (a && b) ≡ true
both true b one two = two
both false b one two = cc

-- all lives are 1 at most
low_lives : (lives : List ℕ) → list_all (λ life. nat_le life 1) lives ≡ true → (place : ℕ) → slice_index lives place ≤ 1
low_lives [] low place = omega arith
low_lives (life ∷ lives) low zero = let one = (and_of (nat_le life 1) (list_all (λ life. nat_le life 1) lives) low).0 in grind (arith, nat_tests)
low_lives (life ∷ lives) low (suc place) = low_lives lives (and_of (nat_le life 1) (list_all (λ life. nat_le life 1) lives) low).1 place

all_low : (lives : List ℕ) → ((place : ℕ) → slice_index lives place ≤ 1) → list_all (λ life. nat_le life 1) lives ≡ true
all_low [] each = refl
all_low (life ∷ lives) each =
    let one : life ≤ 1 = each 0 in
    let first : nat_le life 1 ≡ true = grind (arith, nat_tests) in
    both (nat_le life 1) (list_all (λ life. nat_le life 1) lives) first (all_low lives (λ place. each (suc place)))

-- the first place that has a life
record IsLeast (from : ℕ) (lives : List ℕ) (name : ℕ) : Type 0 where
  at : ℕ
  is : name ≡ from + at
  there : slice_index lives at ≡ 1
  below : (place : ℕ) → place < at → slice_index lives place ≡ 0

below_more : (lives : List ℕ) (at : ℕ) → ((place : ℕ) → place < at → slice_index lives place ≡ 0) → (place : ℕ) → place < suc at
    → slice_index (zero ∷ lives) place ≡ 0
below_more lives at below zero within = refl
below_more lives at below (suc place) within = below place (omega (arith, within))

least_of : (from : ℕ) (lives : List ℕ) (name : ℕ) → ((place : ℕ) → slice_index lives place ≤ 1) → first_name_of (names_from from lives) ≡ Some name
    → IsLeast from lives name
least_of from [] name low is = cc
least_of from (zero ∷ lives) name low is =
    let later = least_of (from + 1) lives name (λ place. low (suc place)) is in
    record { at = suc later.at; is = omega (arith, later.is); there = later.there; below = below_more lives later.at later.below }
least_of from (suc before ∷ lives) name low is =
    let one : suc before ≤ 1 = low 0 in
    let same : from + 16 * (suc before - 1) ≡ name = cc in
    let none : before ≡ 0 = omega (arith, one) in
    record { at = 0; is = omega (arith, same, none); there = omega (arith, none); below = λ place within. absurd (omega (arith, within)) }

least_first : (from : ℕ) (lives : List ℕ) (at : ℕ) → slice_index lives at ≡ 1 → ((place : ℕ) → place < at → slice_index lives place ≡ 0)
    → first_name_of (names_from from lives) ≡ Some (from + at)
least_first from [] at there below = cc
least_first from (zero ∷ lives) zero there below = cc
least_first from (zero ∷ lives) (suc at) there below =
    least_first (from + 1) lives at there (λ place within. below (suc place) (omega (arith, within))) ∙ ap (λ (n : ℕ). Some n) (omega arith)
least_first from (suc before ∷ lives) zero there below = ap (λ (n : ℕ). Some n) (omega (arith, there))
least_first from (suc before ∷ lives) (suc at) there below = let none : suc before ≡ 0 = below 0 (omega arith) in absurd (omega (arith, none))

by_lowest : (o : Option ℕ) (name : ℕ) → is_lowest o name ≡ true → o ≡ Some name
by_lowest None name is = cc
by_lowest (Some lowest) name is = ap (λ (n : ℕ). Some n) (eqb-true lowest name is)

pub founding_outline_is_view : (outline : Outline) → founds outline ≡ true → (view : GroupView) × (outline ≡ outlines.View view) × IsFounding view
founding_outline_is_view (outlines.Data from req) is = cc
founding_outline_is_view (outlines.Join name) is = cc
founding_outline_is_view (outlines.Leave name) is = cc
founding_outline_is_view (outlines.View v) is =
    let halves = and_of ((v.stamp.round == 1) && is_lowest (lowest_name_of v.members) v.stamp.by) (list_all (λ life. nat_le life 1) v.members && (v.resilience == 0)) is in
    let first = and_of (v.stamp.round == 1) (is_lowest (lowest_name_of v.members) v.stamp.by) halves.0 in
    let second = and_of (list_all (λ life. nat_le life 1) v.members) (v.resilience == 0) halves.1 in
    let low = low_lives v.members second.0 in
    let least = least_of 0 v.members v.stamp.by low (by_lowest (lowest_name_of v.members) v.stamp.by first.1) in
    let at : least.at ≡ v.stamp.by = omega (arith, least.is) in (
      v,
      refl,
      record {
        round = eqb-true v.stamp.round 1 first.0;
        founder = ap (slice_index v.members) (sym at) ∙ least.there;
        lowest = λ place within. least.below place (omega (arith, at, within));
        lives = low;
        resilience = eqb-true v.resilience 0 second.1;
      },
    )

pub founding_view_founds : (v : GroupView) → IsFounding v → founds (outlines.View v) ≡ true
founding_view_founds v is =
    let lowest : lowest_name_of v.members ≡ Some v.stamp.by = least_first 0 v.members v.stamp.by is.founder is.lowest ∙ ap (λ (n : ℕ). Some n) (omega arith) in
    let by : is_lowest (lowest_name_of v.members) v.stamp.by ≡ true
    = ap (λ o. is_lowest o v.stamp.by) lowest ∙ eq-eqb v.stamp.by v.stamp.by refl in
    both ((v.stamp.round == 1) && is_lowest (lowest_name_of v.members) v.stamp.by) (list_all (λ life. nat_le life 1) v.members && (v.resilience == 0))
    (both (v.stamp.round == 1) (is_lowest (lowest_name_of v.members) v.stamp.by) (eq-eqb v.stamp.round 1 is.round) by)
    (both (list_all (λ life. nat_le life 1) v.members) (v.resilience == 0) (all_low v.members is.lives) (eq-eqb v.resilience 0 is.resilience))
