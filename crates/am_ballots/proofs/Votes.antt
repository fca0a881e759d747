-- Votes by the names' bytes, and the best of them.
use Rattle.am_ballots.proofs.Words.{◌≡◌, ℕ, zero, suc, ◌+◌, ◌-◌, ◌*◌, ◌/◌, ◌%◌, ◌<◌, ◌≤◌, List, ◌∷◌, map, replicate, length, refl, sym, ◌∙◌, ap, subst, Bool}
use Rattle.am_ballots.proofs.Words.{true, false, ◌==◌, ◌&&◌, if◌then◌else◌, Option, Some, slice_index, slice_index_or, ⊎_elim, arith, IfSome, range_with_len}
use Rattle.am_ballots.proofs.Words.{get_or-replicate, get_or_past, length-replicate, cases_lt, nat_tests, Vote, IsSetOfNames, place_of_name, life_of_name, name_of_place_and_life, names_of}
use Rattle.am_ballots.proofs.Words.{has, sixteen_items_are_by_place, slice_index-by_place, length-by_place, least_of_names, least_of_names_le_each, Ballot, life_where_name_passes, names_that_pass, taken_number_of_voter, NamedVote}
use Rattle.am_ballots.proofs.Words.{better_vote_of, best_vote_from}

-- the same for each name
pub lookup_in_equal_votes : {A : Type 0} (n : ℕ) (x : A) → ◌≡◌ {A = ℕ → A} (λ name. slice_index_or (replicate n x) name x) (λ name. x)
lookup_in_equal_votes n x = λ i name. (each name) i
  where
    each : (name : ℕ) → slice_index_or (replicate n x) name x ≡ x
    each name = ⊎_elim
        (λ (h : name < n). get_or-replicate n name x x h)
        (λ (h : n ≤ name). let l = length-replicate n x in get_or_past (replicate n x) name x (omega arith))
        (cases_lt name n)

-- the names of a set that pass a test, by each place
pub names_passing_are_those : (test : ℕ → Bool) (set xs : List ℕ) → length xs ≡ 16 → ((k : ℕ) → k < 16 → slice_index xs k ≡ life_where_name_passes test k (slice_index set k))
    → xs ≡ names_that_pass test set
unfolding names_that_pass
names_passing_are_those test set xs long each = sixteen_items_are_by_place (λ place. life_where_name_passes test place (slice_index set place)) xs 0 long each

-- a life whose name passes one test and then another
pick : (place life : ℕ) (other : ℕ → Bool) (one : Bool) → (life == 0) ≡ false
    → life_where_name_passes other place (if one then life else 0) ≡ (if one && other (name_of_place_and_life place life) then life else 0)
pick place life other true some = rw some refl
pick place life other false some = refl

where_both : (one other : ℕ → Bool) (place life : ℕ) (none : Bool) → (life == 0) ≡ none
    → life_where_name_passes other place (life_where_name_passes one place life) ≡ life_where_name_passes (λ name. one name && other name) place life
where_both one other place life true none = rw none refl
where_both one other place life false some = rw some (pick place life other (one (name_of_place_and_life place life)) some)

-- the names of a set that pass one test and then another
pub those_of_those : (one other : ℕ → Bool) (set : List ℕ) → names_that_pass other (names_that_pass one set) ≡ names_that_pass (λ name. one name && other name) set
unfolding names_that_pass
those_of_those one other set =
    let once = λ (place : ℕ). life_where_name_passes one place (slice_index set place) in
    names_passing_are_those (λ name. one name && other name) set (names_that_pass other (names_that_pass one set)) (length-by_place (λ (place : ℕ). life_where_name_passes other place
    (slice_index (names_that_pass one set) place)))
    (λ k h. slice_index-by_place (λ (place : ℕ). life_where_name_passes other place (slice_index (names_that_pass one set) place)) k h
    ∙ ap (λ (life : ℕ). life_where_name_passes other k life) (slice_index-by_place once k h) ∙ where_both one other k (slice_index set k) (slice_index set k == 0) refl)

-- the coordinator's own is at least the least of those with it
pub least_of_votes_le_own : (who taken : ℕ) (b : Ballot) (set : List ℕ) (o : Option ℕ) → IsSetOfNames set → o ≡ least_of_names (taken_number_of_voter who taken b) (names_of set) → has set who ≡ true
    → IfSome o (λ least. least ≤ taken)
least_of_votes_le_own who taken b set o is e h =
    let place : place_of_name who < 16 = omega arith in
    let there : slice_index set (place_of_name who) ≡ life_of_name who = grind (arith, nat_tests) in
    let found = least_of_names_le_each (taken_number_of_voter who taken b) set 0 (place_of_name who) (omega arith) (omega arith) in
    let name : name_of_place_and_life (0 + place_of_name who) (slice_index set (place_of_name who)) ≡ who = omega arith in
    let itself : (who == who) ≡ true = grind (arith, nat_tests) in
    let own : taken_number_of_voter who taken b who ≡ taken = rw itself refl in
    let at = ap (taken_number_of_voter who taken b) name in
    let most : found.0 ≤ taken = let f = found.2 in omega arith in
    let P : Option ℕ → Type 0 = λ o. IfSome o (λ least. least ≤ taken) in
    let is_it : o ≡ Some found.0 = e ∙ found.1 in
    subst P (sym is_it) most

-- the names of so many ranks, from one on
abbrev pub name_of_vote_byte : ℕ → ℕ
name_of_vote_byte rank = rank / 16 + 16 * (rank % 16)

ranks_go : (rank n : ℕ) → n ≡ 256 - rank → rank < 256 → map name_of_vote_byte (range_with_len rank n)
    ≡ name_of_vote_byte rank ∷ map name_of_vote_byte (range_with_len (rank + 1) (256 - (rank + 1)))
ranks_go rank zero is h = absurd (omega arith)
ranks_go rank (suc n) is h = let e : n ≡ 256 - (rank + 1) = omega arith in ap (λ k. name_of_vote_byte rank ∷ map name_of_vote_byte (range_with_len (rank + 1) k)) e

-- what is best up to a rank, with the rest
pub best_from_with_next_rank : (votes : ℕ → Option Vote) (best : NamedVote) (rank : ℕ) → rank < 256
    → best_vote_from votes best (map name_of_vote_byte (range_with_len rank (256 - rank)))
    ≡ best_vote_from votes (better_vote_of best (name_of_vote_byte rank) (votes (name_of_vote_byte rank))) (map name_of_vote_byte (range_with_len (rank + 1) (256 - (rank + 1))))
unfolding best_vote_from
best_from_with_next_rank votes best rank h = ap (best_vote_from votes best) (ranks_go rank (256 - rank) refl h)

pub best_from_past_last_rank : (votes : ℕ → Option Vote) (best : NamedVote) (rank : ℕ) → 256 ≤ rank → best_vote_from votes best (map name_of_vote_byte (range_with_len rank (256 - rank))) ≡ best
unfolding best_vote_from
best_from_past_last_rank votes best rank h = let e : 256 - rank ≡ 0 = omega arith in ap (λ k. best_vote_from votes best (map name_of_vote_byte (range_with_len rank k))) e

pub ruleset best_vote_rules = (best_from_with_next_rank, best_from_past_last_rank)
