use Rattle.am_lawful_watch.proofs.WatchWords.{◌≡◌, ◌++◌, take, drop, map, place_view}
use Rattle.am_lawful_watch.proofs.views.place_in_each.Given as goal

abbrev pub invariant-loop-v : goal.invariant-loop-v
invariant-loop-v l = take l.v-index l.pending ++ map (place_view l.number l.stamp) (drop l.v-index l.pending)
    ≡ map (place_view l.number l.stamp) l.initial.pending
