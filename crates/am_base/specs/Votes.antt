-- Which vote of a ballot is the best.
use Rattle.std.specs.Prelude.{ℕ, ◌+◌, ◌*◌, ◌/◌, ◌%◌, List, [], ◌∷◌, map, Option, Some, None, Bool, ◌&&◌, ◌||◌, nat_lt, if◌then◌else◌}
use Rattle.std.specs.List.{range_with_len}
use Rattle.am_base.specs.declared.image.Vote.{Vote}
use Rattle.am_base.specs.Stamps.{stamp_is_less, stamps_are_equal}

-- a vote is below another: by view, then by top
abbrev pub vote_is_less : Vote → Vote → Bool
vote_is_less a b = stamp_is_less a.view b.view || (stamps_are_equal a.view b.view && nat_lt a.top b.top)

-- all names in order
abbrev pub all_names : List ℕ
all_names = map (λ rank. rank / 16 + 16 * (rank % 16)) (range_with_len 0 256)

-- a vote with the name that showed it
pub record NamedVote : Type 0 where
  pub by : ℕ
  pub vote : Vote

-- the better of what stands and of a name's vote, if it voted
abbrev pub better_vote_of : NamedVote → ℕ → Option Vote → NamedVote
better_vote_of best name None = best
better_vote_of best name (Some vote) = if vote_is_less best.vote vote then record { by = name; vote = vote } else best

unfoldable pub best_vote_from : (ℕ → Option Vote) → NamedVote → List ℕ → NamedVote
best_vote_from votes best [] = best
best_vote_from votes best (name ∷ names) = best_vote_from votes (better_vote_of best name (votes name)) names

-- the best vote: the greatest, of the coordinator where it is among them, else of the lowest name
abbrev pub best_vote : (ℕ → Option Vote) → ℕ → Vote → NamedVote
best_vote votes own vote = best_vote_from votes (record { by = own; vote = vote }) all_names
