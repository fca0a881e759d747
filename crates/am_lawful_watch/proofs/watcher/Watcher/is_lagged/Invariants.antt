use Rattle.am_lawful_watch.proofs.WatchWords.{◌≡◌, drop, list_any, names_of, names_from, watch_lags, watching_of}
use Rattle.am_lawful_watch.proofs.watcher.Watcher.is_lagged.Given as goal

abbrev pub invariant-loop-place : goal.invariant-loop-place
invariant-loop-place l = list_any (watch_lags (watching_of l.self) l.v.decided.view.stamp) (names_from l.place (drop l.place l.lives))
    ≡ list_any (watch_lags (watching_of l.self) l.v.decided.view.stamp) (names_of l.lives)
