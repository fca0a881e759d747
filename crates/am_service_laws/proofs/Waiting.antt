-- A replica waits just as long as no snapshot for its start ended.
use Rattle.am_service_laws.proofs.Words.{◌≡◌, ℕ, zero, suc, ◌≤◌, ◌<◌, List, [], ◌∷◌, ◌++◌, length, take, Option, Some, None, Bool, true, false, cond, ◌==◌}
use Rattle.am_service_laws.proofs.Words.{refl, sym, ap, ◌∙◌, arith, append_assoc, option_map, nat_tests, Entry, entries_of, message_at, Contents}
use Rattle.am_service_laws.proofs.Words.{contents_from, snapshot_in, or_else, for_join, snapshot_for, first_snapshot_after, first_snapshot, replica_contents}
use Rattle.am_service_laws.proofs.Words.{NoSnapshot}
use Rattle.am_step_laws.proofs.Tests.{number_equals_itself}

-- ---- one message

pub for_join_of_its_start : (start : ℕ) (contents : Contents) → for_join start (Some (start, contents)) ≡ Some contents
for_join_of_its_start start contents = ap (λ (b : Bool). cond b (Some contents) None) (number_equals_itself start)

-- what is no snapshot for the start
no_snapshot : (start : ℕ) (message : List ℕ) (contents : Contents) → for_join start (snapshot_in message) ≡ None
    → snapshot_in message ≡ Some (start, contents) → ⊥
no_snapshot start message contents none is =
    let some : Some contents ≡ None = sym (for_join_of_its_start start contents) ∙ ap (λ (o : Option (ℕ × Contents)). for_join start o) (sym is) ∙ none in
    cc

-- what a snapshot for the start is read as
joined_is : (start : ℕ) (o : Option (ℕ × Contents)) (contents : Contents) → for_join start o ≡ Some contents → o ≡ Some (start, contents)
joined_is start None contents h = cc
joined_is start (Some snapshot) contents h = by (snapshot.0 == start) refl h
  where
    by : (b : Bool) → (snapshot.0 == start) ≡ b → cond b (Some snapshot.1) None ≡ Some contents → Some snapshot ≡ Some (start, contents)
    by true is e =
        let first : snapshot.0 ≡ start = grind (arith, nat_tests, is) in
        let second : snapshot.1 ≡ contents = cc (e) in
        ap (λ (n : ℕ). Some (n, snapshot.1)) first ∙ ap (λ (c : Contents). Some (start, c)) second
    by false is e = cc

-- ---- all messages

or_none : {A : Type 0} (o p : Option A) → or_else o p ≡ None → (o ≡ None) × (p ≡ None)
or_none None p h = (refl, h)
or_none (Some x) p h = absurd (cc)

-- where nothing was found, nothing ended
none_found : (start : ℕ) (before rest : List Entry) → first_snapshot_after start before rest ≡ None → (k : ℕ) → k < length rest
    → snapshot_for start (message_at (before ++ take (suc k) rest)) ≡ None
none_found start before [] h k below = absurd (omega arith)
none_found start before (e ∷ rest) h zero below = (or_none (snapshot_for start (message_at (before ++ e ∷ []))) (first_snapshot_after start (before ++ e ∷ [])
    rest) h).0
none_found start before (e ∷ rest) h (suc k) below =
    let o = or_none (snapshot_for start (message_at (before ++ e ∷ []))) (first_snapshot_after start (before ++ e ∷ []) rest) h in
    ap (λ (es : List Entry). snapshot_for start (message_at es)) (sym (append_assoc before (e ∷ []) (take (suc k) rest)))
    ∙ none_found start (before ++ e ∷ []) rest o.1 k (omega (arith, below))

-- where nothing ended, nothing is found
found_none : (start : ℕ) (before rest : List Entry) → ((k : ℕ) → k < length rest → snapshot_for start (message_at (before ++ take (suc k) rest)) ≡ None)
    → first_snapshot_after start before rest ≡ None
found_none start before [] none = refl
found_none start before (e ∷ rest) none =
    let first : snapshot_for start (message_at (before ++ e ∷ [])) ≡ None = none 0 (omega arith) in
    let others = found_none start (before ++ e ∷ []) rest (λ k below.
    ap (λ (es : List Entry). snapshot_for start (message_at es)) (append_assoc before (e ∷ []) (take (suc k) rest))
    ∙ none (suc k) (omega (arith, below))) in
    ap (λ (o : Option Contents). or_else o (first_snapshot_after start (before ++ e ∷ []) rest)) first ∙ others

pub length_of_entries_of_given : (given : List (ℕ × Entry)) → length (entries_of given) ≡ length given
length_of_entries_of_given [] = refl
length_of_entries_of_given (pair ∷ given) = ap suc (length_of_entries_of_given given)

at_none : message_at [] ≡ None
unfolding message_at
at_none = refl

no_message : (start name k : ℕ) (given : List (ℕ × Entry)) (message : List ℕ) (contents : Contents) → first_snapshot_after start [] (entries_of given) ≡ None
    → k ≤ length given
    → message_at (take k (entries_of given)) ≡ Some (name, message) → snapshot_in message ≡ Some (start, contents) → ⊥
no_message start name zero given message contents none below ends is =
    let never : ◌≡◌ {A = Option (ℕ × List ℕ)} None (Some (name, message)) = sym at_none ∙ ends in absurd (cc)
no_message start name (suc k) given message contents none below ends is =
    let nothing = none_found start [] (entries_of given) none k (omega (arith, below, length_of_entries_of_given given)) in
    no_snapshot start message contents (ap (λ (o : Option (ℕ × List ℕ)). snapshot_for start o) (sym ends) ∙ nothing) is

pub snapshot_for_without_contents : (start : ℕ) (o : Option (ℕ × List ℕ)) → ((name : ℕ) (message : List ℕ) (contents : Contents) → o ≡ Some (name, message)
    → snapshot_in message ≡ Some (start, contents) → ⊥)
    → snapshot_for start o ≡ None
snapshot_for_without_contents start None never = refl
snapshot_for_without_contents start (Some message) never = by (for_join start (snapshot_in message.1)) refl
  where
    by : (o : Option Contents) → for_join start (snapshot_in message.1) ≡ o → o ≡ None
    by None h = refl
    by (Some contents) h = absurd (never message.0 message.1 contents refl (joined_is start (snapshot_in message.1) contents h))

-- nothing is found exactly where no snapshot for the start ended
nothing_first : (start : ℕ) (given : List (ℕ × Entry)) → first_snapshot_after start [] (entries_of given) ≡ None → NoSnapshot start given
nothing_first start given none k name message contents below ends is = no_message start name k given message contents none below ends is

nothing_ended : (start : ℕ) (given : List (ℕ × Entry)) → NoSnapshot start given → first_snapshot_after start [] (entries_of given) ≡ None
nothing_ended start given never = found_none start [] (entries_of given) (λ k below.
    snapshot_for_without_contents start (message_at (take (suc k) (entries_of given))) (λ name message contents ends is.
    never (suc k) name message contents (omega (arith, below, length_of_entries_of_given given)) ends is))

map_none : {A B : Type 0} (f : A → B) (o : Option A) → option_map f o ≡ None → o ≡ None
map_none f None h = refl
map_none f (Some x) h = absurd (cc)

-- what the definition says of who joined
pub replica_contents_of_joiner : (start : ℕ) (given : List (ℕ × Entry)) → (start == 1) ≡ false
    → replica_contents start given ≡ option_map (λ c. contents_from c given) (first_snapshot start given)
unfolding replica_contents
replica_contents_of_joiner start given other = ap (λ (b : Bool). cond b (Some (contents_from [] given)) (option_map (λ c. contents_from c given) (first_snapshot start
    given))) other

pub waiting_replica_has_no_snapshot : (start : ℕ) (given : List (ℕ × Entry)) → (start == 1) ≡ false → replica_contents start given ≡ None → NoSnapshot start given
unfolding first_snapshot
waiting_replica_has_no_snapshot start given other none =
    nothing_first start given (map_none (λ (c : Contents). contents_from c given) (first_snapshot start given) (sym (replica_contents_of_joiner start given other) ∙ none))

pub replica_waits_without_snapshot : (start : ℕ) (given : List (ℕ × Entry)) → (start == 1) ≡ false → NoSnapshot start given → replica_contents start given ≡ None
unfolding first_snapshot
replica_waits_without_snapshot start given other never =
    replica_contents_of_joiner start given other ∙ ap (λ (o : Option Contents). option_map (λ c. contents_from c given) o) (nothing_ended start given never)
