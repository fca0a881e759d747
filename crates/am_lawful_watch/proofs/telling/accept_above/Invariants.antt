use Rattle.am_lawful_watch.proofs.WatchWords.{◌≡◌, ◌+◌, watch_accepts, watching_of}
use Rattle.am_lawful_watch.proofs.Tellings.{group_entries_between_numbers}
use Rattle.am_lawful_watch.proofs.telling.accept_above.Given as goal

abbrev pub invariant-loop-index : goal.invariant-loop-index
invariant-loop-index l = watching_of l.watcher ≡ watch_accepts (watching_of l.fn.watcher) (l.known + 1) (group_entries_between_numbers l.group l.known l.index)
