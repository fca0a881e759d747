use Rattle.am_ballots.proofs.Words.{◌≡◌, ℕ, ◌<◌, ◌≤◌, length, slice_index, not, life_where_name_passes, has_voted, ballot_of}
use Rattle.am_ballots.proofs.ballot.Ballot.silent_in.Given as goal

abbrev pub invariant-loop-place : goal.invariant-loop-place
invariant-loop-place l = record {
  long : length l.silent ≡ 16;
  filled : (k : ℕ) → k < l.place → slice_index l.silent k ≡ life_where_name_passes (λ name. not (has_voted l.coordinator (ballot_of l.self) name)) k
      (slice_index l.lives k);
  fits : (k : ℕ) → k < 16 → slice_index l.silent k ≤ 16;
}
