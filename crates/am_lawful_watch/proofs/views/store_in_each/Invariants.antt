use Rattle.am_lawful_watch.proofs.WatchWords.{◌≡◌, ◌++◌, take, drop, map, store_view}
use Rattle.am_lawful_watch.proofs.views.store_in_each.Given as goal

abbrev pub invariant-loop-v : goal.invariant-loop-v
invariant-loop-v l = take l.v-index l.pending ++ map (store_view l.name l.stamp) (drop l.v-index l.pending) ≡ map (store_view l.name l.stamp) l.initial.pending
