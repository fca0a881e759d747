-- Letters that were looked through needn't be looked through again.
use Rattle.am_generator.proofs.Words.{split_on_bool, ◌≡◌, ◌≢◌, ℕ, zero, suc, ◌+◌, ◌<◌, ◌≤◌, ◌==◌, List, [], ◌∷◌, ◌++◌, length, Option, Some, None, nat_lt}
use Rattle.am_generator.proofs.Words.{slice_index, slice_index_or, slice_set, refl, sym, ap, ◌∙◌, arith, length-set, get_or-set_same, get_or-set_other}
use Rattle.am_generator.proofs.Words.{nat_tests, Letter, next_for, Luck, choice_of, again, progress_after, draw, Choice, Progress, no_progress}
use Rattle.am_generator.proofs.Words.{IsSeen, AreSeen, seen_after, letters_seen_of_append, letters_seen_up_to_number, letters_seen_without_next, next_for_le_length}

abbrev Sees : List Letter → ℕ → Progress → ℕ → Choice → Type 0
Sees letters place p seen c = IsSeen letters place (progress_after p c).cursor (seen_after c seen (length letters))

sees_again : (letters : List Letter) (place seen number : ℕ) (p : Progress) (last : Option ℕ) → IsSeen letters place p.cursor seen → number ≤ length letters
    → Sees letters place p seen (again number last)
sees_again letters place seen number p None is h = letters_seen_up_to_number letters place number h
sees_again letters place seen number p (Some one) is h = is

-- what was looked through stays so after a choice
seen_chosen : (letters : List Letter) (place seen : ℕ) (p : Progress) (luck : Luck) (ahead : Option ℕ) → IsSeen letters place p.cursor seen
    → ahead ≡ next_for letters place p.cursor → Sees letters place p seen (choice_of luck ahead p.last)
seen_chosen letters place seen p luck None is e =
    let low = is.low in
    let high = is.high in
    letters_seen_without_next letters place p.cursor (omega arith) (sym e)
seen_chosen letters place seen p luck (Some number) is e =
    let low = is.low in
    let high = is.high in
    let most = next_for_le_length letters place p.cursor number (omega arith) (sym e) in
    split_on_bool (nat_lt (draw luck.words 100) luck.loss)
    (λ t. rw t (letters_seen_up_to_number letters place number most))
    (λ f. rw f (split_on_bool (nat_lt (draw luck.words 100) (luck.loss + luck.repeat))
    (λ t. rw t (sees_again letters place seen number p p.last is most))
    (λ f. rw f (letters_seen_up_to_number letters place number most))))

-- the places' numbers, with one changed
seen_set : (seen : List ℕ) (progress : List Progress) (letters : List Letter) (place number : ℕ) (p : Progress) → AreSeen seen progress letters
    → place < 4 → IsSeen letters place p.cursor number → AreSeen (slice_set seen place number) (slice_set progress place p) letters
seen_set seen progress letters place number p are h is = record {
  count = length-set seen place number ∙ are.count;
  places = length-set progress place p ∙ are.places;
  each = λ k low. split_on_bool (k == place)
      (λ t. let count = are.count in
      let places = are.places in
      let here : k ≡ place = grind (arith, nat_tests) in
      let one = ap (slice_index (slice_set seen place number)) here ∙ get_or-set_same seen place number 0 (omega arith) in
      let two = ap (λ i. slice_index_or (slice_set progress place p) i no_progress) here ∙ get_or-set_same progress place p no_progress (omega arith) in
      rw (one, two, here) is)
      (λ f. let other : k ≢ place = grind (arith, nat_tests) in
      rw (get_or-set_other seen place k number 0 other, get_or-set_other progress place k p no_progress other) (are.each k low));
}

-- a place has chosen
pub letters_seen_by_next_choice : (seen : List ℕ) (progress : List Progress) (letters : List Letter) (place at number : ℕ) (luck : Luck) (ahead : Option ℕ) (chosen : Choice)
    (p : Progress) → AreSeen seen progress letters → place < 4 → at ≡ place
    → ahead ≡ next_for letters place (slice_index_or progress place no_progress).cursor
    → chosen ≡ choice_of luck ahead (slice_index_or progress at no_progress).last → p ≡ progress_after (slice_index_or progress at no_progress) chosen
    → number ≡ seen_after chosen (slice_index seen at) (length letters) → AreSeen (slice_set seen at number) (slice_set progress at p) letters
letters_seen_by_next_choice seen progress letters place at number luck ahead chosen p are h same e chooses goes sees =
    rw (sees, goes, chooses, same) (seen_set seen progress letters place _ _ are h
    (seen_chosen letters place (slice_index seen place) (slice_index_or progress place no_progress) luck ahead (are.each place h) e))

pub letters_seen_stay_seen : (seen : List ℕ) (progress : List Progress) (letters more : List Letter) → AreSeen seen progress letters
    → AreSeen seen progress (letters ++ more)
letters_seen_stay_seen seen progress letters more are = record {
  count = are.count;
  places = are.places;
  each = λ k low. letters_seen_of_append letters more k _ _ (are.each k low);
}

-- ---- before anything was looked through

zeros : (place : ℕ) → slice_index (0 ∷ 0 ∷ 0 ∷ 0 ∷ []) place ≡ 0
zeros zero = refl
zeros (suc zero) = refl
zeros (suc (suc zero)) = refl
zeros (suc (suc (suc zero))) = refl
zeros (suc (suc (suc (suc place)))) = refl

cursors : (p : Progress) (place : ℕ) → p.cursor ≡ 0 → (slice_index_or (p ∷ p ∷ p ∷ p ∷ []) place no_progress).cursor ≡ 0
cursors p (suc (suc (suc (suc place)))) e = refl
cursors p _ e = e

pub no_letters_seen_at_first : (p : Progress) (letters : List Letter) → p.cursor ≡ 0 → AreSeen (0 ∷ 0 ∷ 0 ∷ 0 ∷ []) (p ∷ p ∷ p ∷ p ∷ []) letters
no_letters_seen_at_first p letters e = record {
  count = refl;
  places = refl;
  each = λ place low. rw (zeros place, cursors p place e) (letters_seen_up_to_number letters place 0 (omega arith));
}
