-- Names of a set, and who stopped.
use Rattle.am_race_laws.proofs.Words.{◌≡◌, ℕ, zero, suc, ◌<◌, List, [], ◌∷◌, ◌++◌, length, Bool, true, false, true≢false, sym, refl, ap, ◌∙◌, arith, eq-eqb}
use Rattle.am_race_laws.proofs.Words.{ne_eqb, if◌then◌else◌, ◌==◌, ◌&&◌, ◌||◌, slice_index, slice_set, replicate, nat_lt, nat_le, eqb-true, or_right}
use Rattle.am_race_laws.proofs.Words.{fold-append, dite, ℕ_discrete, place_of_name, life_of_name, name_of_place_and_life, has, empty_set_of_names, with_name, Record, acting_name_of_record, Terms, EachComesNext}
use Rattle.am_race_laws.proofs.Words.{is_stop, has_life, with_stop, stopped_names, has_stopped, IsLawfulRecord}
use Rattle.am_race_laws.proofs.{Apart.or_with_false, Knows.journal_keeps_what_records_keep, Knows.has_stopped_after_record}
use Rattle.am_race_laws.proofs.Words.{split_on_bool}

-- ---- who stopped

set_here : (lives : List ℕ) (place life : ℕ) → place < length lives → slice_index (slice_set lives place life) place ≡ life
set_here [] place life h = absurd (omega arith)
set_here (x ∷ lives) zero life h = refl
set_here (x ∷ lives) (suc place) life h = set_here lives place life (omega arith)

set_there : (lives : List ℕ) (place other life : ℕ) → (place ≡ other → ⊥) → slice_index (slice_set lives place life) other ≡ slice_index lives other
set_there (x ∷ lives) zero zero life apart = absurd (apart refl)
set_there (x ∷ lives) (suc place) (suc other) life apart = set_there lives place other life (λ e. apart (ap suc e))
set_there _ _ _ life apart = refl

set_many : (lives : List ℕ) (place life : ℕ) → length (slice_set lives place life) ≡ length lives
set_many (x ∷ lives) (suc place) life = ap suc (set_many lives place life)
set_many _ _ life = refl

-- the set of those that stopped has just their names, which have their first lives
pub record StoppedNamesAreSet (before : List Record) : Type 0 where
  pub many : length (stopped_names before) ≡ 16
  pub each : (name : ℕ) → has (stopped_names before) name ≡ has_stopped before name
  pub low : (name : ℕ) → has_stopped before name ≡ true → name < 16

either_true : (a b : Bool) → (a || b) ≡ true → (a ≡ false → b ≡ true)
either_true true b e none = absurd (true≢false none)
either_true false b e none = e

-- a place is in the set with its first life
added : (set : List ℕ) (place name : ℕ) (was : ℕ → Bool) → place < 16 → length set ≡ 16 → ((k : ℕ) → has set k ≡ was k) → was place ≡ false
    → ((k : ℕ) → was k ≡ true → k < 16)
    → has (slice_set set place 1) name ≡ (was name || (place == name))
added set place name was few many each fresh low = dite (ℕ_discrete (place_of_name name) place)
    (λ here. dite (ℕ_discrete place name)
    (λ is.
    let one : slice_index (slice_set set place 1) (place_of_name name) ≡ 1 = ap (slice_index (slice_set set place 1)) here ∙ set_here set place 1 (omega arith) in
    let life : life_of_name name ≡ 1 = omega arith in
    eq-eqb (slice_index (slice_set set place 1) (place_of_name name)) (life_of_name name) (one ∙ sym life)
    ∙ sym (ap (λ (b : Bool). was name || b) (eq-eqb place name is) ∙ or_right (was name) true refl))
    (λ isnt.
    let one : slice_index (slice_set set place 1) (place_of_name name) ≡ 1 = ap (slice_index (slice_set set place 1)) here ∙ set_here set place 1 (omega arith) in
    let high : was name ≡ false = split_on_bool (was name) (λ w. let l = low name w in absurd (omega arith)) (λ f. f) in
    ne_eqb (slice_index (slice_set set place 1) (place_of_name name)) (life_of_name name) (λ e. let f : life_of_name name ≡ 1 = sym e ∙ one in absurd (omega arith))
    ∙ sym (ap (λ (b : Bool). was name || b) (ne_eqb place name isnt) ∙ or_with_false (was name) ∙ high)))
    (λ there.
    let same : slice_index (slice_set set place 1) (place_of_name name) ≡ slice_index set (place_of_name name) =
    set_there set place (place_of_name name) 1 (λ e. there (sym e)) in
    ap (λ (k : ℕ). k == life_of_name name) same ∙ each name
    ∙ sym (ap (λ (b : Bool). was name || b) (ne_eqb place name (λ e. there (omega arith))) ∙ or_with_false (was name)))

with_next : (before : List Record) (r : Record) (b : Bool) → is_stop r.event.act ≡ b → r.life ≡ 1 → has_stopped before (acting_name_of_record r) ≡ false → StoppedNamesAreSet before
    → StoppedNamesAreSet (before ++ r ∷ [])
with_next before r false other_act life fresh so_far =
    let set : stopped_names (before ++ r ∷ []) ≡ with_stop (stopped_names before) r = fold-append with_stop empty_set_of_names before (r ∷ []) in
    let same : stopped_names (before ++ r ∷ []) ≡ stopped_names before =
    set ∙ ap (λ (b : Bool). if b && has_life r then with_name (stopped_names before) (acting_name_of_record r) else stopped_names before) other_act
    in
    let now : (name : ℕ) → has_stopped (before ++ r ∷ []) name ≡ has_stopped before name = λ name.
    has_stopped_after_record before r name ∙ ap (λ (b : Bool). has_stopped before name || (b && (acting_name_of_record r == name))) other_act ∙ or_with_false (has_stopped before name) in
    record {
      many = ap length same ∙ so_far.many;
      each = λ name. ap (λ (s : List ℕ). has s name) same ∙ so_far.each name ∙ sym (now name);
      low = λ name e. so_far.low name (sym (now name) ∙ e);
    }
with_next before r true its_stop life fresh so_far =
    let place : ℕ = place_of_name r.event.node in
    let few : place < 16 = omega arith in
    let first : acting_name_of_record r ≡ place = ap (name_of_place_and_life place) life ∙ omega arith in
    let lives : has_life r ≡ true = ap (λ (n : ℕ). nat_lt 0 n && nat_le n 16) life in
    let set : stopped_names (before ++ r ∷ []) ≡ with_stop (stopped_names before) r = fold-append with_stop empty_set_of_names before (r ∷ []) in
    let p : place_of_name place ≡ place = omega arith in
    let l : life_of_name place ≡ 1 = omega arith in
    let now : stopped_names (before ++ r ∷ []) ≡ slice_set (stopped_names before) place 1 =
    set ∙ ap (λ (b : Bool). if b && has_life r then with_name (stopped_names before) (acting_name_of_record r) else stopped_names before) its_stop
    ∙ ap (λ (b : Bool). if b then with_name (stopped_names before) (acting_name_of_record r) else stopped_names before) lives ∙ ap (with_name (stopped_names before)) first
    ∙ ap (λ (k : ℕ). slice_set (stopped_names before) k (life_of_name place)) p ∙ ap (slice_set (stopped_names before) place) l
    in
    let more : (name : ℕ) → has_stopped (before ++ r ∷ []) name ≡ (has_stopped before name || (place == name)) = λ name.
    has_stopped_after_record before r name ∙ ap (λ (b : Bool). has_stopped before name || (b && (acting_name_of_record r == name))) its_stop
    ∙ ap (λ (k : ℕ). has_stopped before name || (k == name)) first in record {
      many = ap length now ∙ set_many (stopped_names before) place 1 ∙ so_far.many;
      each = λ name. ap (λ (s : List ℕ). has s name) now
          ∙ added (stopped_names before) place name (has_stopped before) few so_far.many so_far.each (ap (has_stopped before) (sym first) ∙ fresh) so_far.low
          ∙ sym (more name);
      low = λ name e. split_on_bool (has_stopped before name) (so_far.low name)
          (λ f. let all = sym (more name) ∙ e in let same = eqb-true place name (rw f at all) in omega arith);
    }

no_names : (places name : ℕ) → (slice_index (replicate places 0) (place_of_name name) == life_of_name name) ≡ false
no_names places name = ne_eqb (slice_index (replicate places 0) (place_of_name name)) (life_of_name name) (λ e. let z = nought places (place_of_name name) in
    absurd (omega arith))
  where
    nought : (n i : ℕ) → slice_index (replicate n 0) i ≡ 0
    nought zero i = refl
    nought (suc n) zero = refl
    nought (suc n) (suc i) = nought n i

-- in a lawful journal
pub stopped_names_are_set : (terms : Terms) (before : List Record) → EachComesNext (IsLawfulRecord terms) before → StoppedNamesAreSet before
stopped_names_are_set terms before follows =
    journal_keeps_what_records_keep StoppedNamesAreSet (IsLawfulRecord terms) (λ done r lawful so_far. with_next done r (is_stop r.event.act) refl lawful.life lawful.stop so_far) [] before
    (record { many = refl; each = λ name. no_names 16 name; low = λ name e. absurd (true≢false (sym e)) }) follows
