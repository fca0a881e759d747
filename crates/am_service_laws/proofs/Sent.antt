-- A snapshot that was sent in parts makes its joiner's replica ready.
use Rattle.am_service_laws.proofs.Words.{◌≡◌, ◌≢◌, ℕ, zero, suc, ◌+◌, ◌-◌, ◌≤◌, ◌<◌, List, [], ◌∷◌, ◌++◌, length, take, Option, Some, None, ap, ◌∙◌, subst}
use Rattle.am_service_laws.proofs.Words.{arith, append_assoc, enumerate_from, length-take, Entry, greatest_number, NumberIsInRange, deliveries, run, lawful_front}
use Rattle.am_service_laws.proofs.Words.{entries_of, EndsAt, message_at, messages_end, Whole, Contents, contents_with, contents_from, contents_after, IsContents}
use Rattle.am_service_laws.proofs.Words.{snapshot_of, or_else, for_join, snapshot_for, first_snapshot_after, first_snapshot, empty_contents_are_directory, snapshot_in_of_snapshot_of, contents_stay_within_limits}
use Rattle.am_service_laws.proofs.Words.{NoneBefore, SentSnapshotsRestore}
use Rattle.am_service_laws.proofs.{Sends.sent_messages_end_in_list, Sends.whole_messages_of_list_delivered, Waiting.snapshot_for_without_contents, Waiting.for_join_of_its_start, Waiting.length_of_entries_of_given}
use Rattle.am_service_laws.proofs.{Holding.joiner_replicas_hold, Holding.single_starts_are_equal}
use Rattle.am_base.specs.declared.entry.Entry.TheVariants as entries

-- ---- the contents of a list can be a snapshot's

entry_within : (contents : Contents) (number : ℕ) (e : Entry) → IsContents contents → NumberIsInRange number → IsContents (contents_with contents (number, e))
entry_within contents number (entries.Data from req body) c n = contents_stay_within_limits contents number body c n
entry_within contents number _ c n = c

list_within : (from : ℕ) (list : List Entry) (contents : Contents) → IsContents contents → from + length list ≤ greatest_number + 1
    → IsContents (contents_from contents (enumerate_from from list))
list_within from [] contents c below = c
list_within from (e ∷ list) contents c below =
    list_within (from + 1) list (contents_with contents (from, e)) (entry_within contents from e c (omega (arith, below))) (omega (arith, below))

nothing_is : IsContents []
nothing_is = record { directory = empty_contents_are_directory; numbers = λ k d below. absurd (omega arith) }

contents_within : (list : List Entry) (number : ℕ) → NumberIsInRange number → IsContents (contents_after list number)
contents_within list number n = list_within 1 (take number list) [] nothing_is (omega (arith, n, length-take number list))

-- ---- the first snapshot is found

first_found : (start : ℕ) (before rest : List Entry) (k : ℕ) (contents : Contents) → k < length rest
    → snapshot_for start (message_at (before ++ take (suc k) rest)) ≡ Some contents
    → ((j : ℕ) → j < k → snapshot_for start (message_at (before ++ take (suc j) rest)) ≡ None) → first_snapshot_after start before rest ≡ Some contents
first_found start before [] k contents below is none = absurd (omega arith)
first_found start before (e ∷ rest) zero contents below is none =
    ap (λ (o : Option Contents). or_else o (first_snapshot_after start (before ++ e ∷ []) rest)) is
first_found start before (e ∷ rest) (suc k) contents below is none =
    let first : snapshot_for start (message_at (before ++ e ∷ [])) ≡ None = none 0 (omega arith) in
    let later = first_found start (before ++ e ∷ []) rest k contents (omega (arith, below))
    (ap (λ (es : List Entry). snapshot_for start (message_at es)) (append_assoc before (e ∷ []) (take (suc k) rest)) ∙ is)
    (λ j less. ap (λ (es : List Entry). snapshot_for start (message_at es)) (append_assoc before (e ∷ []) (take (suc j) rest))
    ∙ none (suc j) (omega (arith, less))) in
    ap (λ (o : Option Contents). or_else o (first_snapshot_after start (before ++ e ∷ []) rest)) first ∙ later

-- ---- a snapshot that was sent

found_at : (group : List Entry) (given : List (ℕ × Entry)) (sender start k : ℕ) → NumberIsInRange start → suc k ≤ length given
    → EndsAt (entries_of given) (suc k) sender (snapshot_of (contents_after group start) start) → NoneBefore start given (suc k)
    → first_snapshot start given ≡ Some (contents_after group start)
unfolding first_snapshot
found_at group given sender start k number below ends none =
    let contents = contents_after group start in
    let few : suc k ≤ length (entries_of given) = omega (arith, below, length_of_entries_of_given given) in
    let message = (messages_end (entries_of given) (suc k) sender (snapshot_of contents start) few).1 ends in
    let reads = snapshot_in_of_snapshot_of contents start (contents_within group start number) number in
    let is : snapshot_for start (message_at (take (suc k) (entries_of given))) ≡ Some contents
    = ap (λ (o : Option (ℕ × List ℕ)). snapshot_for start o) message
    ∙ ap (λ (o : Option (ℕ × Contents)). for_join start o) reads ∙ for_join_of_its_start start contents in
    first_found start [] (entries_of given) k contents (omega (arith, few)) is
    (λ j less. snapshot_for_without_contents start (message_at (take (suc j) (entries_of given)))
    (λ name m c at read. none (suc j) name m c (omega (arith, less)) at read))

found_by : (group : List Entry) (given : List (ℕ × Entry)) (sender start place : ℕ) → NumberIsInRange start → place ≤ length given
    → EndsAt (entries_of given) place sender (snapshot_of (contents_after group start) start) → NoneBefore start given place
    → first_snapshot start given ≡ Some (contents_after group start)
found_by group given sender start zero number below ends none = let from : 0 < 0 = ends.from_one in absurd (omega arith)
found_by group given sender start (suc k) number below ends none = found_at group given sender start k number below ends none

some_given : (given : List (ℕ × Entry)) (place : ℕ) → 0 < place → place ≤ length given → given ≢ []
some_given [] place above below none = omega arith
some_given (pair ∷ given) place above below none = cc

pub sent_snapshots_restore : SentSnapshotsRestore
sent_snapshots_restore rules events sender first number joiner start place may other begins s =
    let w = run rules (lawful_front rules events) in
    let message = snapshot_of (contents_after w.group start) start in
    let sent : EndsAt w.group number sender message = sent_messages_end_in_list rules events sender first number message may s.sent in
    let some = some_given (deliveries w.records joiner) place s.from_one s.within in
    let whole = whole_messages_of_list_delivered rules events joiner may some in
    let same : whole.0 ≡ start = single_starts_are_equal whole.0 start _ (whole.1.begins.joiner other).0 (begins.joiner other).0 in
    let is : Whole rules w joiner start = subst (λ (n : ℕ). Whole rules w joiner n) same whole.1 in
    let there : EndsAt w.group (start + place - 1) sender message = subst (λ (n : ℕ). EndsAt w.group n sender message) s.there sent in
    let long : place ≤ length (entries_of (deliveries w.records joiner)) = omega (arith, s.within, length_of_entries_of_given (deliveries w.records joiner)) in
    let ends = is.ends place sender message there long s.behind in
    (joiner_replicas_hold rules events may joiner start other begins).right
    (found_by w.group (deliveries w.records joiner) sender start place s.small s.within ends s.alone)
