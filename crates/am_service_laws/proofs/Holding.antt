-- What replicas have in runs.
use Rattle.am_service_laws.proofs.Words.{◌≡◌, ◌≢◌, ℕ, zero, suc, ◌+◌, List, [], ◌∷◌, length, Option, Some, None, Bool, true, false, ◌==◌, slice_get, refl, sym}
use Rattle.am_service_laws.proofs.Words.{ap, ◌∙◌, subst, arith, add-zero, option_map, nat_tests, Entry, has, Rules, Event, deliveries, item_at, founders_entry}
use Rattle.am_service_laws.proofs.Words.{World, start, world_after_events, run, lawful_front, BeginsAt, IsSegment, Segment, run_begins_longer_run, headline_holds, Contents}
use Rattle.am_service_laws.proofs.Words.{contents_with, contents_from, contents_after, first_snapshot, replica_contents, last_number, contents_up_to}
use Rattle.am_service_laws.proofs.Words.{FoundersHold, JoinerHolds, JoinersHold, ReplicasHold}
use Rattle.am_service_laws.proofs.{Starts.name_list_begins_at_start, Pieces.contents_from_segment, Pieces.last_number_of_segment, Pieces.segment_splits_at_first, Waiting.replica_contents_of_joiner, Waiting.waiting_replica_has_no_snapshot, Waiting.replica_waits_without_snapshot}
use Rattle.am_base.specs.declared.entry.Entry.TheVariants as entries

-- ---- founders

-- a piece from 1 on comes to the contents up to its end
piece_from_one : (given : List (ℕ × Entry)) (group : List Entry) → IsSegment given 1 group → replica_contents 1 given ≡ Some (contents_up_to group given)
unfolding replica_contents
piece_from_one given group piece =
    ap (λ (c : Contents). Some c) (contents_from_segment given 0 group piece ∙ ap (λ (n : ℕ). contents_after group n) (sym (last_number_of_segment given 0 group piece)))

founder_holds : (rules : Rules) (w : World) (name : ℕ) (given : List (ℕ × Entry)) → Segment rules w → has rules.founders name ≡ true
    → given ≡ deliveries w.records name
    → IsSegment given 1 w.group
founder_holds rules w name [] s founder is = λ k number e at. absurd (cc)
founder_holds rules w name (pair ∷ given) s founder is =
    let piece = s.each name (λ none. let never : pair ∷ given ≡ [] = is ∙ none in absurd (cc)) in
    let from : IsSegment (deliveries w.records name) 1 w.group = subst (λ (n : ℕ). IsSegment (deliveries w.records name) n w.group) (piece.1.founder
    founder) piece.2 in
    subst (λ (xs : List (ℕ × Entry)). IsSegment xs 1 w.group) (sym is) from

pub founder_replicas_hold : FoundersHold
founder_replicas_hold rules events name may founder =
    let w = run rules (lawful_front rules events) in
    let given = deliveries w.records name in
    piece_from_one given w.group (founder_holds rules w name given (headline_holds rules events may).front.segment founder refl)

-- ---- who joined

-- the list begins with the founders' View, so nobody's Join is its first entry
first_entry : (rules : Rules) (events : List Event) → item_at (run rules events).group 1 ≡ Some (founders_entry rules)
unfolding world_after_events
first_entry rules events = let b = (run_begins_longer_run rules events 0).group in ap (λ (es : List Entry). item_at es 1) b.1

not_first : (rules : Rules) (events : List Event) (name s : ℕ) → item_at (run rules events).group s ≡ Some (entries.Join name) → s ≡ 1 → ⊥
not_first rules events name s joined one =
    let there : item_at (run rules events).group 1 ≡ Some (entries.Join name) = subst (λ (n : ℕ). item_at (run rules events).group n ≡ Some (entries.Join
    name)) one joined in
    let never : Some (founders_entry rules) ≡ Some (entries.Join name) = sym (first_entry rules events) ∙ there in
    cc

other_start : (s : ℕ) → (s ≡ 1 → ⊥) → (s == 1) ≡ false
other_start s never = grind (arith, nat_tests)

-- what was given from a Join on, with the contents at that Join
from_join : (given : List (ℕ × Entry)) (group : List Entry) (name n : ℕ) → given ≢ [] → IsSegment given (suc n) group
    → item_at group (suc n) ≡ Some (entries.Join name)
    → contents_from (contents_after group (suc n)) given ≡ contents_up_to group given
from_join [] group name n some piece joined = absurd (some refl)
from_join (pair ∷ given) group name n some piece joined =
    let s = segment_splits_at_first given pair n group piece in
    let is : pair.1 ≡ entries.Join name = let both : Some pair.1 ≡ Some (entries.Join name) = sym s.item ∙ joined in cc (both) in
    let same : contents_with (contents_after group (suc n)) pair ≡ contents_after group (suc n) = ap (λ (e : Entry). contents_with (contents_after group (suc
    n)) (pair.0, e)) is in
    let end : last_number pair.0 given ≡ suc n + length given = ap (λ (k : ℕ). last_number k given) s.number ∙ last_number_of_segment given (suc n) group s.rest in
    ap (λ (c : Contents). contents_from c given) same ∙ contents_from_segment given (suc n) group s.rest ∙ ap (λ (k : ℕ). contents_after group k) (sym end)

right_at : (given : List (ℕ × Entry)) (group : List Entry) (name s : ℕ) → given ≢ [] → IsSegment given s group → item_at group s ≡ Some (entries.Join name)
    → contents_from (contents_after group s) given ≡ contents_up_to group given
right_at given group name zero some piece joined = absurd (cc)
right_at given group name (suc n) some piece joined = from_join given group name n some piece joined

-- where nothing was given, no snapshot was
none_given : (start : ℕ) (contents : Contents) → first_snapshot start [] ≡ Some contents → ⊥
unfolding first_snapshot
none_given start contents h = let never : ◌≡◌ {A = Option Contents} None (Some contents) = h in cc

right_of : (given : List (ℕ × Entry)) (group : List Entry) (name s : ℕ) → (s == 1) ≡ false → IsSegment given s group
    → item_at group s ≡ Some (entries.Join name)
    → first_snapshot s given ≡ Some (contents_after group s) → replica_contents s given ≡ Some (contents_up_to group given)
right_of [] group name s other piece joined first = absurd (none_given s (contents_after group s) first)
right_of (pair ∷ given) group name s other piece joined first =
    let some : pair ∷ given ≢ [] = λ none. cc (none) in
    replica_contents_of_joiner s (pair ∷ given) other ∙ ap (λ (o : Option Contents). option_map (λ c. contents_from c (pair ∷ given)) o) first
    ∙ ap (λ (c : Contents). Some c) (right_at (pair ∷ given) group name s some piece joined)

joiner_holds : (given : List (ℕ × Entry)) (group : List Entry) (name s : ℕ) → (s == 1) ≡ false → IsSegment given s group
    → item_at group s ≡ Some (entries.Join name) → JoinerHolds group given s
joiner_holds given group name s other piece joined = record {
  waits = (waiting_replica_has_no_snapshot s given other, replica_waits_without_snapshot s given other);
  right = right_of given group name s other piece joined;
}

-- a name was welcomed once
pub single_starts_are_equal : (a b : ℕ) (xs : List ℕ) → xs ≡ a ∷ [] → xs ≡ b ∷ [] → a ≡ b
single_starts_are_equal a b xs p q = let e : a ∷ [] ≡ b ∷ [] = sym p ∙ q in cc (e)

joiner_piece : (rules : Rules) (w : World) (name s : ℕ) (given : List (ℕ × Entry)) → Segment rules w → has rules.founders name ≡ false → BeginsAt rules w name s
    → given ≡ deliveries w.records name → IsSegment given s w.group
joiner_piece rules w name s [] segment other begins is = λ k number e at. absurd (cc)
joiner_piece rules w name s (pair ∷ given) segment other begins is =
    let piece = segment.each name (λ none. let never : pair ∷ given ≡ [] = is ∙ none in absurd (cc)) in
    let same : piece.0 ≡ s = single_starts_are_equal piece.0 s _ (piece.1.joiner other).0 (begins.joiner other).0 in
    let from : IsSegment (deliveries w.records name) s w.group = subst (λ (n : ℕ). IsSegment (deliveries w.records name) n w.group) same piece.2 in
    subst (λ (xs : List (ℕ × Entry)). IsSegment xs s w.group) (sym is) from

pub joiner_replicas_hold : JoinersHold
joiner_replicas_hold rules events may name s other begins =
    let w = run rules (lawful_front rules events) in
    let given = deliveries w.records name in
    let joined = (begins.joiner other).1 in
    joiner_holds given w.group name s (other_start s (not_first rules (lawful_front rules events) name s joined))
    (joiner_piece rules w name s given (headline_holds rules events may).front.segment other begins refl) joined

-- ---- each name that has or had a list

piece_of : (rules : Rules) (w : World) (name s : ℕ) (founds : Bool) → Segment rules w → BeginsAt rules w name s → has rules.founders name ≡ founds
    → IsSegment (deliveries w.records name) s w.group
piece_of rules w name s true segment begins is =
    subst (λ (n : ℕ). IsSegment (deliveries w.records name) n w.group) (sym (begins.founder is))
    (founder_holds rules w name (deliveries w.records name) segment is refl)
piece_of rules w name s false segment begins is = joiner_piece rules w name s (deliveries w.records name) segment is begins refl

first_number : (given rest : List (ℕ × Entry)) (pair : ℕ × Entry) (s : ℕ) (group : List Entry) → IsSegment given s group → given ≡ pair ∷ rest → pair.0 ≡ s
first_number given rest pair s group piece e = (piece 0 pair.0 pair.1 (ap (λ (xs : List (ℕ × Entry)). slice_get xs 0) e)).0 ∙ add-zero s

pub all_replicas_hold : ReplicasHold
all_replicas_hold rules events name may log =
    let w = run rules (lawful_front rules events) in
    let given = deliveries w.records name in
    let begins = name_list_begins_at_start rules events name may log in
    let piece = piece_of rules w name (w.nodes name).core.start (has rules.founders name) (headline_holds rules events may).front.segment begins refl in
    record {
      begins = begins;
      first = λ pair rest e. first_number given rest pair (w.nodes name).core.start w.group piece e;
      founder = λ founder. ap (λ (n : ℕ). replica_contents n given) (begins.founder founder) ∙ founder_replicas_hold rules events name may founder;
      joiner = λ other. joiner_replicas_hold rules events may name (w.nodes name).core.start other begins;
    }
