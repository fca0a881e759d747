use Rattle.am_lawful_watch.proofs.WatchWords.{◌≡◌, ◌+◌, ◌≤◌, drop, count_by, names_of, names_from, watch_has_stored, watching_of}
use Rattle.am_lawful_watch.proofs.watcher.Watcher.holders.Given as goal

abbrev pub invariant-loop-place : goal.invariant-loop-place
invariant-loop-place l = record {
  held : l.held + count_by (watch_has_stored (watching_of l.self) l.v) (names_from l.place (drop l.place l.lives))
      ≡ count_by (watch_has_stored (watching_of l.self) l.v) (names_of l.lives);
  few : l.held ≤ l.place;
}
