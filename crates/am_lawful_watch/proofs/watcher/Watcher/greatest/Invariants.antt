use Rattle.am_lawful_watch.proofs.WatchWords.{◌≡◌, drop, watch_greatest, watching_of}
use Rattle.am_lawful_watch.proofs.watcher.Watcher.greatest.Given as goal

abbrev pub invariant-loop-v : goal.invariant-loop-v
invariant-loop-v l = watch_greatest (watching_of l.self) l.best (drop l.v-index l.v-items) ≡ watch_greatest (watching_of l.self) l.self.complete l.v-items
