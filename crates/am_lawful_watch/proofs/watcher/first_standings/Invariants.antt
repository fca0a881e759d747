use Rattle.am_lawful_watch.proofs.WatchWords.{◌≡◌, ℕ, ◌<◌, length, slice_index_or, blank_standing, standing_at_start}
use Rattle.am_lawful_watch.proofs.watcher.first_standings.Given as goal

abbrev pub invariant-loop-byte : goal.invariant-loop-byte
invariant-loop-byte l = record {
  filled : (name : ℕ) → name < l.byte → slice_index_or l.names name blank_standing ≡ standing_at_start l.founding name;
  long : length l.names ≡ 256;
}
