-- Each letter stands at its place.
use Rattle.std.proofs.Common.{◌≡◌, ℕ, zero, suc, ◌+◌, ◌-◌, ◌<◌, ◌≤◌, List, [], ◌∷◌, ◌++◌, length, map, Some, slice_get, ◌⊎◌, ⊎_elim, refl, sym, ap, ◌∙◌}
use Rattle.std.proofs.Common.{subst, arith, length-append}
use Rattle.std.specs.List.{range_with_len}
use Rattle.std.proofs.lemmas.List.FromFn.{length-map-range_with_len, map-range_with_len_more}
use Rattle.am_base.specs.Most.{most_events_of_run}
use Rattle.am_group.specs.declared.event.Record.{Record}
use Rattle.am_group.specs.Journals.{letters_of_records}
use Rattle.am_group.proofs.Places.{slice_get_of_append_front, slice_get_of_append_back, letters_of_pushed_record}
use Rattle.am_journal.specs.declared.journal.Place.{Place}
use Rattle.am_journal.specs.Places.{letter_of, ArePlaces, letter_places}

-- the place of a record's letter
place_get : (number n k : ℕ) (f : ℕ → Place) (a : ℕ) (p : Place) → slice_get (map f (range_with_len a n)) k ≡ Some p → (f (a + k) ≡ p) × (k < n)
place_get number zero k f a p h = absurd (cc)
place_get number (suc n) zero f a p h = let z : a + 0 ≡ a = omega arith in (ap f z ∙ cc, omega arith)
place_get number (suc n) (suc k) f a p h =
    let r = place_get number n k f (a + 1) p h in
    let z : a + suc k ≡ (a + 1) + k = omega arith in
    let l = r.1 in
    (ap f z ∙ r.0, omega arith)

get_last : {A : Type 0} (xs : List A) (x : A) → slice_get (xs ++ x ∷ []) (length xs) ≡ Some x
get_last [] x = refl
get_last (y ∷ ys) x = get_last ys x

below_or : (k n : ℕ) → (k < n) ⊎ (n + (k - n) ≡ k)
below_or k n = grind arith

pub places_with_pushed_record : (records : List Record) (places : List Place) (r : Record) → ArePlaces records places → length r.packets ≤ 24 → length records < most_events_of_run
    → ArePlaces (records ++ r ∷ []) (places ++ letter_places (length records) (length r.packets))
places_with_pushed_record records places r ok few more_records =
    let number = length records in
    let many = length r.packets in
    let f : ℕ → Place = λ index. record { number = number; index = index } in
    let more : length (letter_places number many) ≡ many = length-map-range_with_len f 0 many in
    let old = ok.count in
    let least = ok.few in
    let one = length-append records (r ∷ []) in
    let both = length-append places (letter_places number many) in
    record {
      count = both ∙ (let sum : length places + length (letter_places number many) ≡ length (letters_of_records records) + many = omega arith in sum)
          ∙ sym (length-append (letters_of_records records) r.packets) ∙ ap length (sym (letters_of_pushed_record records r));
      each = λ k p h. ⊎_elim
          (λ (below : k < length places).
          let stood = ok.each k p (sym (slice_get_of_append_front places (letter_places number many) k below) ∙ h) in
          let l = stood.0 in
          let short : k < length (letters_of_records records) = omega arith in (
            omega arith,
            ap (λ o. letter_of o p.index) (slice_get_of_append_front records (r ∷ []) p.number l) ∙ stood.1
                ∙ sym (slice_get_of_append_front (letters_of_records records) r.packets k short) ∙ ap (λ ls. slice_get ls k) (sym (letters_of_pushed_record records r)),
          ))
          (λ (behind : length places + (k - length places) ≡ k).
          let j = k - length places in
          let here = place_get number many j f 0 p (sym (slice_get_of_append_back places (letter_places number many) j) ∙ ap (slice_get (places ++ letter_places number many)) behind
          ∙ h) in
          let z : 0 + j ≡ j = omega arith in
          let at : f j ≡ p = ap f (sym z) ∙ here.0 in
          let same : length (letters_of_records records) + j ≡ k = omega arith in
          subst (λ (q : Place). (q.number < length (records ++ r ∷ []))
          × (letter_of (slice_get (records ++ r ∷ []) q.number) q.index ≡ slice_get (letters_of_records (records ++ r ∷ [])) k)) at (
            omega arith,
            ap (λ o. letter_of o j) (get_last records r) ∙ sym (slice_get_of_append_back (letters_of_records records) r.packets j)
                ∙ ap (slice_get (letters_of_records records ++ r.packets)) same ∙ ap (λ ls. slice_get ls k) (sym (letters_of_pushed_record records r)),
          ))
          (below_or k (length places));
      few = omega arith;
      short = omega arith;
    }

-- one place more
pub places_of_next_letter : (number index : ℕ) → letter_places number (index + 1) ≡ letter_places number index ++ record { number = number; index = index } ∷ []
places_of_next_letter number index = map-range_with_len_more (λ i. record { number = number; index = i }) 0 index index (omega arith)
