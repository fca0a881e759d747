-- What is known of the lines before one, the last of which stands first.
use Rattle.std.proofs.Common.{◌≡◌, ◌≢◌, ℕ, zero, suc, ◌+◌, ◌<◌, ◌==◌, List, [], ◌∷◌, take, Option, Some, None, slice_get, Result, Ok, Err, Bool, true, false}
use Rattle.std.proofs.Common.{cond, refl, sym, subst, ap, ◌∙◌, arith, ◌⊎◌, inl, inr, ⊎_elim}
use Rattle.std.proofs.lemmas.Bool.{eq-eqb, eqb-true}
use Rattle.am_text_defs.specs.declared.fault.FieldFault.{FieldFault}
use Rattle.am_audit_defs.specs.Fields.{data_in, is_send}
use Rattle.am_audit_defs.specs.Lines.{Line}
use Rattle.am_audit_defs.specs.Verdicts.{or_else, last_of, first_with, first_sent, count_of}
use Rattle.am_audit_defs.specs.Meanings.{IsLast, HasNone, IsFirst, LineHasSend}
use Rattle.am_audit_defs.proofs.Meaning.{is_send_finds_body, is_send_of_read_send}

-- what is not equal by a test
pub not_equal_numbers_differ : (a b : ℕ) → (a == b) ≡ false → a ≢ b
not_equal_numbers_differ a b other same = let is = eq-eqb a b same in cc

-- the number of a name's last line, or that it has none
abbrev pub LastBeforeIsFound : List Line → ℕ → ℕ → Option ℕ → Type 0
LastBeforeIsFound all place name None = HasNone all place name
LastBeforeIsFound all place name (Some number) = IsLast all place name number

-- the first line of which this holds, or that there is none
abbrev pub FirstBeforeIsFound : List Line → ℕ → (Line → Type 0) → Option Line → Type 0
FirstBeforeIsFound all place holds None = (k : ℕ) (other : Line) → k < place → slice_get all k ≡ Some other → holds other → ⊥
FirstBeforeIsFound all place holds (Some line) = IsFirst all place holds line

-- the number of the first line that has a send, or that none has
abbrev pub SentBeforeIsFound : List Line → ℕ → ℕ → ℕ → Option ℕ → Type 0
SentBeforeIsFound all place from req None = (k : ℕ) (other : Line) → k < place → slice_get all k ≡ Some other → LineHasSend from req other → ⊥
SentBeforeIsFound all place from req (Some number) = (line : Line) × IsFirst all place (LineHasSend from req) line × (line.number ≡ number)

-- of all lines some stand before a place, and the others from there on
pub record LinesAreBeforePlace (all : List Line) (place : ℕ) (before lines : List Line) : Type 0 where
  pub later : (k : ℕ) → slice_get all (place + k) ≡ slice_get lines k
  pub lasts : (name : ℕ) → LastBeforeIsFound all place name (last_of name before)
  pub firsts : (number : ℕ) → FirstBeforeIsFound all place (λ line. line.number ≡ number) (first_with number before)
  pub sents : (from req : ℕ) → SentBeforeIsFound all place from req (first_sent from req before)
  pub counts : (name : ℕ) → count_of name before ≡ count_of name (take place all)

pub line_at_place_is_next : (all : List Line) (place : ℕ) (before : List Line) (line : Line) (lines : List Line) → LinesAreBeforePlace all place before (line ∷ lines)
    → slice_get all place ≡ Some line
line_at_place_is_next all place before line lines h = let same : place ≡ place + 0 = omega arith in ap (slice_get all) same ∙ h.later 0

pub no_line_is_before_first : (all : List Line) → LinesAreBeforePlace all 0 [] all
no_line_is_before_first all = record {
  later = λ k. let same : 0 + k ≡ k = omega arith in ap (slice_get all) same;
  lasts = λ name k other within is. absurd (omega (arith, within));
  firsts = λ number k other within is. absurd (omega (arith, within));
  sents = λ from req k other within is. absurd (omega (arith, within));
  counts = λ name. refl;
}

-- ---- one line more

-- a place below the next one is below this one, or is this one
below_by : (b : Bool) (k place : ℕ) → (k == place) ≡ b → k < place + 1 → (k < place) ⊎ (k ≡ place)
below_by true k place is within = inr (eqb-true k place is)
below_by false k place is within = let other = not_equal_numbers_differ k place is in inl (omega (arith, within, other))

below_next : (k place : ℕ) → k < place + 1 → (k < place) ⊎ (k ≡ place)
below_next k place within = below_by (k == place) k place refl within

last_stays : (all : List Line) (place name number : ℕ) (line : Line) → slice_get all place ≡ Some line → line.name ≢ name
    → IsLast all place name number → IsLast all (place + 1) name number
last_stays all place name number line there other h = record {
  at = h.at;
  line = h.line;
  before = omega (arith, h.before);
  there = h.there;
  named = h.named;
  numbered = h.numbered;
  last = λ k x behind within is. elim (below_next k place within) [
    | inl low ↦ h.last k x behind low is
    | inr same ↦ λ named. let one : line ≡ x = cc in other (ap (λ (l : Line). l.name) one ∙ named)
  ];
}

none_stays : (all : List Line) (place name : ℕ) (line : Line) → slice_get all place ≡ Some line → line.name ≢ name → HasNone all place name
    → HasNone all (place + 1) name
none_stays all place name line there other h k x within is = elim (below_next k place within) [
  | inl low ↦ h k x low is
  | inr same ↦ λ named. let one : line ≡ x = cc in other (ap (λ (l : Line). l.name) one ∙ named)
]

last_by : (all : List Line) (place name : ℕ) (line : Line) (b : Bool) (o : Option ℕ) → slice_get all place ≡ Some line → (line.name == name) ≡ b
    → LastBeforeIsFound all place name o → LastBeforeIsFound all (place + 1) name (cond b (Some line.number) o)
last_by all place name line true o there is h = record {
  at = place;
  line = line;
  before = omega arith;
  there = there;
  named = eqb-true line.name name is;
  numbered = refl;
  last = λ k x behind within. absurd (omega (arith, behind, within));
}
last_by all place name line false None there is h = none_stays all place name line there (not_equal_numbers_differ line.name name is) h
last_by all place name line false (Some number) there is h = last_stays all place name number line there (not_equal_numbers_differ line.name name is) h

first_stays : (all : List Line) (place : ℕ) (holds : Line → Type 0) (line : Line) → IsFirst all place holds line → IsFirst all (place + 1) holds line
first_stays all place holds line h = record {
  at = h.at;
  before = omega (arith, h.before);
  there = h.there;
  held = h.held;
  first = h.first;
}

none_first_stays : (all : List Line) (place : ℕ) (holds : Line → Type 0) (line : Line) → slice_get all place ≡ Some line → (holds line → ⊥)
    → ((k : ℕ) (other : Line) → k < place → slice_get all k ≡ Some other → holds other → ⊥)
    → (k : ℕ) (other : Line) → k < place + 1 → slice_get all k ≡ Some other → holds other → ⊥
none_first_stays all place holds line there other h k x within is held = elim (below_next k place within) [
  | inl low ↦ h k x low is held
  | inr same ↦ let one : x ≡ line = cc in other (subst holds one held)
]

first_by : (all : List Line) (place number : ℕ) (line : Line) (o : Option Line) (b : Bool) → slice_get all place ≡ Some line → (line.number == number) ≡ b
    → FirstBeforeIsFound all place (λ x. x.number ≡ number) o → FirstBeforeIsFound all (place + 1) (λ x. x.number ≡ number) (or_else o (cond b (Some line) None))
first_by all place number line (Some first) b there is h = first_stays all place (λ x. x.number ≡ number) first h
first_by all place number line None true there is h = record {
  at = place;
  before = omega arith;
  there = there;
  held = eqb-true line.number number is;
  first = h;
}
first_by all place number line None false there is h =
    none_first_stays all place (λ x. x.number ≡ number) line there (not_equal_numbers_differ line.number number is) h

sent_by : (all : List Line) (place from req : ℕ) (line : Line) (o : Option ℕ) (b : Bool) → slice_get all place ≡ Some line → is_send from req (data_in line.text) ≡ b
    → SentBeforeIsFound all place from req o → SentBeforeIsFound all (place + 1) from req (or_else o (cond b (Some line.number) None))
sent_by all place from req line (Some number) b there is h = (h.0, first_stays all place (LineHasSend from req) h.0 h.1, h.2)
sent_by all place from req line None true there is h = (
  line,
  record { at = place; before = omega arith; there = there; held = is_send_finds_body from req (data_in line.text) is; first = h },
  refl,
)
sent_by all place from req line None false there is h =
    none_first_stays all place (LineHasSend from req) line there (λ has. let yes = is_send_of_read_send from req has.0 (data_in line.text) has.1 in cc) h

count_next : (name : ℕ) (all : List Line) (place : ℕ) (line : Line) → slice_get all place ≡ Some line
    → count_of name (take (suc place) all) ≡ cond (line.name == name) (count_of name (take place all) + 1) (count_of name (take place all))
count_next name [] place line is = cc
count_next name (x ∷ xs) zero line is = let same : x ≡ line = cc in ap (λ (l : Line). cond (l.name == name) (0 + 1) 0) same
count_next name (x ∷ xs) (suc place) line is =
    counted (x.name == name) (line.name == name) (count_of name (take (suc place) xs)) (count_of name (take place xs)) (count_next name xs place line is)
  where
    counted : (b c : Bool) (n m : ℕ) → n ≡ cond c (m + 1) m → cond b (n + 1) n ≡ cond c (cond b (m + 1) m + 1) (cond b (m + 1) m)
    counted true true n m same = ap (λ (k : ℕ). k + 1) same
    counted true false n m same = ap (λ (k : ℕ). k + 1) same
    counted false true n m same = same
    counted false false n m same = same

pub line_is_before_next_place : (all : List Line) (place : ℕ) (before : List Line) (line : Line) (lines : List Line) → LinesAreBeforePlace all place before (line ∷ lines)
    → LinesAreBeforePlace all (place + 1) (line ∷ before) lines
line_is_before_next_place all place before line lines h =
    let there = line_at_place_is_next all place before line lines h in
    record {
      later = λ k. let same : place + 1 + k ≡ place + suc k = omega arith in ap (slice_get all) same ∙ h.later (suc k);
      lasts = λ name. last_by all place name line (line.name == name) (last_of name before) there refl (h.lasts name);
      firsts = λ number. first_by all place number line (first_with number before) (line.number == number) there refl (h.firsts number);
      sents = λ from req. sent_by all place from req line (first_sent from req before) (is_send from req (data_in line.text)) there refl (h.sents from req);
      counts = λ name.
          let same : place + 1 ≡ suc place = omega arith in
          ap (λ (n : ℕ). cond (line.name == name) (n + 1) n) (h.counts name) ∙ sym (count_next name all place line there)
          ∙ ap (λ (n : ℕ). count_of name (take n all)) (sym same);
    }
