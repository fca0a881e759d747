-- What is kept, and what comes about, along the ticks and the waves of a schedule.
use Rattle.am_repair.proofs.RepairWords.{◌≡◌, ℕ, zero, suc, ◌+◌, ◌<◌, ◌≤◌, ◌==◌, not, Bool, true, false, List, [], ◌∷◌, ◌++◌, length, drop, map, Some, slice_get}
use Rattle.am_repair.proofs.RepairWords.{refl, sym, ap, ◌∙◌, subst, arith, filter, list_any, range_with_len, nat_tests, slice_get_within, slice_get-drop, Letter}
use Rattle.am_repair.proofs.RepairWords.{Act, is_for, letter_at, World, current, is_stopped, happens, world_after_events, event_at, running_places, hearings_of, hearings_from}
use Rattle.am_repair.proofs.RepairWords.{hearings, split_on_bool, runs_go_on}
use Rattle.std.proofs.lemmas.List.{length-drop}

-- ---- an act of some places

abbrev pub IsInListOfPlaces : ℕ → List ℕ → Type 0
IsInListOfPlaces place places = list_any (λ p. p == place) places ≡ true

-- what each of them keeps
pub property_stays_through_acts : (P : World → Type 0) (a : Act) → ((p : ℕ) (u : World) → P u → P (happens u (event_at p a))) → (places : List ℕ) (w : World) → P w
    → P (world_after_events w (map (λ p. event_at p a) places))
unfolding world_after_events
property_stays_through_acts P a keep [] w h = h
property_stays_through_acts P a keep (p ∷ places) w h = property_stays_through_acts P a keep places (happens w (event_at p a)) (keep p w h)

-- and what comes about by one of them, and stays
pub record ActBringsProperty (P Q : World → Type 0) (a : Act) (place : ℕ) : Type 0 where
  pub keeps : (p : ℕ) (u : World) → P u → P (happens u (event_at p a))
  pub hits : (u : World) → P u → Q (happens u (event_at place a))
  pub stays : (p : ℕ) (u : World) → P u → Q u → Q (happens u (event_at p a))

acts_stay : (P Q : World → Type 0) (a : Act) → ((p : ℕ) (u : World) → P u → P (happens u (event_at p a)))
    → ((p : ℕ) (u : World) → P u → Q u → Q (happens u (event_at p a))) → (places : List ℕ) (w : World) → P w → Q w
    → P (world_after_events w (map (λ p. event_at p a) places)) × Q (world_after_events w (map (λ p. event_at p a) places))
unfolding world_after_events
acts_stay P Q a keeps stays [] w h q = (h, q)
acts_stay P Q a keeps stays (p ∷ places) w h q = acts_stay P Q a keeps stays places (happens w (event_at p a)) (keeps p w h) (stays p w h q)

pub acts_bring_property : (P Q : World → Type 0) (a : Act) (place : ℕ) → ActBringsProperty P Q a place → (places : List ℕ) (w : World) → IsInListOfPlaces place places → P w
    → P (world_after_events w (map (λ p. event_at p a) places)) × Q (world_after_events w (map (λ p. event_at p a) places))
unfolding world_after_events
acts_bring_property P Q a place k [] w among h = absurd (cc)
acts_bring_property P Q a place k (p ∷ places) w among h = split_on_bool (p == place)
    (λ t. let same : p ≡ place = grind (arith, nat_tests) in
    let q = subst (λ x. Q (happens w (event_at x a))) (sym same) (k.hits w h) in
    acts_stay P Q a k.keeps k.stays places (happens w (event_at p a)) (k.keeps p w h) q)
    (λ f. acts_bring_property P Q a place k places (happens w (event_at p a)) (rw f at among) (k.keeps p w h))

-- ---- who runs

any_filter : (f : ℕ → Bool) (place : ℕ) (xs : List ℕ) → f place ≡ true → IsInListOfPlaces place xs → IsInListOfPlaces place (filter f xs)
any_filter f place [] passes among = among
any_filter f place (x ∷ xs) passes among = split_on_bool (x == place)
    (λ t. let same : x ≡ place = grind (arith, nat_tests) in let g : f x ≡ true = ap f same ∙ passes in rw (g, t) refl)
    (λ n. let rest = any_filter f place xs passes (rw n at among) in split_on_bool (f x) (λ t. rw (t, n) rest) (λ g. rw g rest))

any_range : (place a n : ℕ) → a ≤ place → place < a + n → IsInListOfPlaces place (range_with_len a n)
any_range place a zero low high = absurd (omega arith)
any_range place a (suc n) low high = split_on_bool (a == place)
    (λ t. rw t refl)
    (λ f. rw f (any_range place (a + 1) n (let differs : a ≡ place → ⊥ = λ same. (let z : ⊥ = grind (arith, nat_tests) in z) in omega arith)
    (omega arith)))

pub running_place_is_in_list : (w : World) (place : ℕ) → place < 16 → is_stopped w (current w place) ≡ false → IsInListOfPlaces place (running_places w)
unfolding running_places
running_place_is_in_list w place low runs = any_filter (λ p. not (is_stopped w (current w p))) place (range_with_len 0 16) (ap not runs)
    (any_range place 0 16 (omega arith) (omega arith))

pub hearing_place_is_in_list : (w : World) (l : Letter) (place : ℕ) → place < 16 → is_stopped w (current w place) ≡ false → is_for l (current w place) ≡ true
    → IsInListOfPlaces place (filter (λ p. is_for l (current w p)) (running_places w))
hearing_place_is_in_list w l place low runs meant = any_filter (λ p. is_for l (current w p)) place (running_places w) meant (running_place_is_in_list w place low runs)

-- ---- a wave

-- what each hearing keeps
from_keeps : (P : World → Type 0) (w : World) (number : ℕ) (ls : List Letter) (u : World)
    → ((p k : ℕ) (u : World) → number ≤ k → P u → P (happens u (event_at p (Act.Hear k)))) → P u → P (world_after_events u (hearings_from w number ls))
unfolding hearings_from world_after_events
from_keeps P w number [] u keep h = h
from_keeps P w number (l ∷ ls) u keep h =
    let first = property_stays_through_acts P (Act.Hear number) (λ p x. keep p number x (omega arith)) (filter (λ place. is_for l (current w place)) (running_places w)) u h in
    let rest = from_keeps P w (number + 1) ls (world_after_events u (hearings_of w number l)) (λ p k x low. keep p k x (omega arith)) first in
    subst P (sym (runs_go_on u (hearings_of w number l) (hearings_from w (number + 1) ls))) rest

pub property_stays_through_hearings : (P : World → Type 0) (w : World) (after : ℕ) → ((p k : ℕ) (u : World) → after < k → P u → P (happens u (event_at p (Act.Hear k)))) → P w
    → P (world_after_events w (hearings w after))
property_stays_through_hearings P w after keep h = from_keeps P w (after + 1) (drop after w.letters) w (λ p k u low. keep p k u (omega arith)) h

-- what comes about at a letter, for whoever hears it
from_walks : (P : ℕ → World → Type 0) (w : World) (number : ℕ) (ls : List Letter) (u : World)
    → ((j : ℕ) (l : Letter) (u : World) → slice_get ls j ≡ Some l → P (number + j) u → P (number + j + 1) (world_after_events u (hearings_of w (number + j) l)))
    → P number u → P (number + length ls) (world_after_events u (hearings_from w number ls))
unfolding hearings_from world_after_events
from_walks P w number [] u step h = let z : number ≡ number + length {A = Letter} [] = omega arith in subst (λ n. P n u) z h
from_walks P w number (l ∷ ls) u step h =
    let at : number + 0 ≡ number = omega arith in
    let next : number + 0 + 1 ≡ number + 1 = omega arith in
    let first : P (number + 1) (world_after_events u (hearings_of w number l)) = subst (λ n. P n (world_after_events u (hearings_of w number l))) next
    (subst (λ n. P (number + 0 + 1) (world_after_events u (hearings_of w n l))) at (step 0 l u refl (subst (λ n. P n u) (sym at) h))) in
    let rest = from_walks P w (number + 1) ls (world_after_events u (hearings_of w number l))
    (λ j x y there k.
    (let e : number + 1 + j ≡ number + suc j = omega arith in
    let g : number + suc j + 1 ≡ number + 1 + j + 1 = omega arith in
    subst (λ n. P n (world_after_events y (hearings_of w (number + 1 + j) x))) g (subst (λ n. P (number + suc j + 1) (world_after_events y (hearings_of w n x))) (sym e)
    (step (suc j) x y there (subst (λ n. P n y) e k)))))
    first in
    let end : number + 1 + length ls ≡ number + length (l ∷ ls) = omega arith in
    subst (λ n. P n (world_after_events u (hearings_of w number l ++ hearings_from w (number + 1) ls))) end
    (subst (P (number + 1 + length ls)) (sym (runs_go_on u (hearings_of w number l) (hearings_from w (number + 1) ls))) rest)

pub letter_number_le_length : (ls : List Letter) (k : ℕ) (l : Letter) → letter_at ls k ≡ Some l → k ≤ length ls
letter_number_le_length ls zero l there = omega arith
letter_number_le_length ls (suc before) l there = let low = slice_get_within ls before l there in omega arith

letter_of_drop : (w : World) (after j : ℕ) (l : Letter) → slice_get (drop after w.letters) j ≡ Some l → letter_at w.letters (after + 1 + j) ≡ Some l
letter_of_drop w after j l there =
    let at : after + 1 + j ≡ suc (after + j) = omega arith in
    ap (letter_at w.letters) at ∙ sym (slice_get-drop after j w.letters) ∙ there

pub property_walks_through_wave : (P : ℕ → World → Type 0) (w : World) (after : ℕ) → after ≤ length w.letters
    → ((k : ℕ) (l : Letter) (u : World) → after < k → letter_at w.letters k ≡ Some l → P k u → P (k + 1) (world_after_events u (hearings_of w k l)))
    → P (after + 1) w → P (length w.letters + 1) (world_after_events w (hearings w after))
property_walks_through_wave P w after low step h =
    let long = length-drop after w.letters in
    let end : after + 1 + length (drop after w.letters) ≡ length w.letters + 1 = omega arith in
    subst (λ n. P n (world_after_events w (hearings w after))) end
    (from_walks P w (after + 1) (drop after w.letters) w (λ j l u there k. step (after + 1 + j) l u (omega arith) (letter_of_drop w after j l there) k) h)

-- what comes about where one name hears one letter, and stays
pub record WaveBringsProperty (P Q : World → Type 0) (after last k place : ℕ) : Type 0 where
  pub keeps : (p n : ℕ) (u : World) → after < n → n ≤ last → P u → P (happens u (event_at p (Act.Hear n)))
  pub hits : (u : World) → P u → Q (happens u (event_at place (Act.Hear k)))
  pub stays : (p n : ℕ) (u : World) → after < n → n ≤ last → P u → Q u → Q (happens u (event_at p (Act.Hear n)))

-- a letter that is sent, and whoever hears it
pub record LetterIsHeardInWave (w : World) (after k place : ℕ) : Type 0 where
  pub late : after < k
  pub letter : Letter
  pub there : letter_at w.letters k ≡ Some letter
  pub low : place < 16
  pub runs : is_stopped w (current w place) ≡ false
  pub meant : is_for letter (current w place) ≡ true

pub wave_brings_property : (P Q : World → Type 0) (w : World) (after k place : ℕ) → LetterIsHeardInWave w after k place → WaveBringsProperty P Q after (length w.letters) k place → P w
    → P (world_after_events w (hearings w after)) × Q (world_after_events w (hearings w after))
wave_brings_property P Q w after k place is h first =
    let within = letter_number_le_length w.letters k is.letter is.there in
    let r = property_walks_through_wave R w after (omega arith) step (first, λ low. absurd (omega arith)) in
    (r.0, r.1 (omega arith))
  where
    R : ℕ → World → Type 0
    R n u = P u × (k < n → Q u)

    step : (n : ℕ) (l : Letter) (u : World) → after < n → letter_at w.letters n ≡ Some l → R n u → R (n + 1) (world_after_events u (hearings_of w n l))
    step n l u late_ there x = split_on_bool (n == k)
        (λ t. let same : n ≡ k = grind (arith, nat_tests) in
        let letter : is.letter ≡ l = (let e = sym (ap (letter_at w.letters) same) ∙ there in let d = is.there in cc) in
        let one = acts_bring_property P Q (Act.Hear n) place (record {
          keeps = λ p y z. h.keeps p n y late_ (letter_number_le_length w.letters n l there) z;
          hits = λ y z. subst (λ i. Q (happens y (event_at place (Act.Hear i)))) (sym same) (h.hits y z);
          stays = λ p y z q. h.stays p n y late_ (letter_number_le_length w.letters n l there) z q;
        })
        (filter (λ p. is_for l (current w p)) (running_places w)) u (hearing_place_is_in_list w l place is.low is.runs
        (subst (λ i. is_for i (current w place) ≡ true) letter is.meant)) x.0 in
        (one.0, λ low. one.1))
        (λ f. let differs : n ≡ k → ⊥ = λ same. (let z : ⊥ = grind (arith, nat_tests) in z) in
        let places = filter (λ p. is_for l (current w p)) (running_places w) in (
          property_stays_through_acts P (Act.Hear n) (λ p y z. h.keeps p n y late_ (letter_number_le_length w.letters n l there) z) places u x.0,
          λ low. (acts_stay P Q (Act.Hear n) (λ p y z. h.keeps p n y late_ (letter_number_le_length w.letters n l there) z)
              (λ p y z q. h.stays p n y late_ (letter_number_le_length w.letters n l there) z q) places u x.0 (x.1 (omega arith))).1,
        ))
