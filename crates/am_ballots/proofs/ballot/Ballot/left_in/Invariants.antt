use Rattle.am_ballots.proofs.Words.{◌≡◌, ℕ, ◌<◌, ◌≤◌, length, slice_index, not, life_where_name_passes, ballot_of}
use Rattle.am_ballots.proofs.ballot.Ballot.left_in.Given as goal

abbrev pub invariant-loop-place : goal.invariant-loop-place
invariant-loop-place l = record {
  long : length l.left ≡ 16;
  filled : (k : ℕ) → k < l.place → slice_index l.left k ≡ life_where_name_passes (λ name. not ((ballot_of l.self).given_up name)) k (slice_index l.lives k);
  fits : (k : ℕ) → k < 16 → slice_index l.left k ≤ 16;
}
