-- The names of a world that have or had a list.
use Rattle.std.proofs.Common.{◌≡◌, ℕ, zero, suc, ◌+◌, ◌-◌, ◌<◌, ◌≤◌, List, [], ◌∷◌, ◌++◌, map, filter, Bool, if◌then◌else◌, refl, sym, ap, ◌∙◌, append_assoc}
use Rattle.std.proofs.Common.{append-nil, arith}
use Rattle.std.specs.List.{range_with_len}
use Rattle.am_base.specs.Votes.{all_names}
use Rattle.am_group_defs.specs.World.{World}
use Rattle.am_model.specs.Node.{has_log_by_status}
use Rattle.am_node_defs.proofs.Folds.{split_on_bool_of_log}
use Rattle.am_ballots.proofs.Votes.{name_of_vote_byte}

abbrev pub name_has_log_in_world : World → ℕ → Bool
name_has_log_in_world w name = has_log_by_status (w.nodes name).status

-- the names of the ranks from one on
abbrev pub names_from_rank : ℕ → List ℕ
names_from_rank rank = map name_of_vote_byte (range_with_len rank (256 - rank))

names_more : (rank n : ℕ) → n ≡ 256 - rank → rank < 256 → map name_of_vote_byte (range_with_len rank n) ≡ name_of_vote_byte rank ∷ names_from_rank (rank + 1)
names_more rank zero is low = absurd (omega arith)
names_more rank (suc n) is low = let e : n ≡ 256 - (rank + 1) = omega arith in ap (λ k. name_of_vote_byte rank ∷ map name_of_vote_byte (range_with_len (rank + 1) k)) e

first_of : (P : ℕ → Bool) (x : ℕ) (xs : List ℕ) → filter P (x ∷ xs) ≡ (if P x then x ∷ [] else []) ++ filter P xs
first_of P x xs = split_on_bool_of_log (P x) (λ t. rw t refl) (λ f. rw f refl)

pub logged_names_with_next_rank : (w : World) (before after : List ℕ) (rank name : ℕ) (is : Bool) → rank < 256 → name ≡ name_of_vote_byte rank → is ≡ has_log_by_status (w.nodes name).status
    → after ≡ before ++ (if is then name ∷ [] else [])
    → before ++ filter (name_has_log_in_world w) (names_from_rank rank) ≡ filter (name_has_log_in_world w) all_names
    → after ++ filter (name_has_log_in_world w) (names_from_rank (rank + 1)) ≡ filter (name_has_log_in_world w) all_names
logged_names_with_next_rank w before after rank name is low at has now h =
    let P = name_has_log_in_world w in
    let rest = filter P (names_from_rank (rank + 1)) in
    let same : P (name_of_vote_byte rank) ≡ is = ap P (sym at) ∙ sym has in
    let back : name_of_vote_byte rank ≡ name = sym at in
    let more : filter P (names_from_rank rank) ≡ (if is then name ∷ [] else []) ++ rest =
    ap (filter P) (names_more rank (256 - rank) refl low) ∙ first_of P (name_of_vote_byte rank) (names_from_rank (rank + 1))
    ∙ (λ k. (if same k then back k ∷ [] else []) ++ rest) in
    ap (λ xs. xs ++ rest) now ∙ append_assoc before (if is then name ∷ [] else []) rest ∙ ap (λ xs. before ++ xs) (sym more) ∙ h

pub logged_names_past_last_rank : (w : World) (each : List ℕ) (rank : ℕ) → 256 ≤ rank → each ++ filter (name_has_log_in_world w) (names_from_rank rank) ≡ filter (name_has_log_in_world w) all_names
    → each ≡ filter (name_has_log_in_world w) all_names
logged_names_past_last_rank w each rank high h =
    let none : 256 - rank ≡ 0 = omega arith in
    sym (append-nil each) ∙ ap (λ n. each ++ filter (name_has_log_in_world w) (map name_of_vote_byte (range_with_len rank n))) (sym none) ∙ h
