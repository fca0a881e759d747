use Rattle.am_lawful_watch.proofs.WatchWords.{refl}
use Rattle.am_lawful_watch.proofs.watcher.Watcher.new.Goals as goal

pub returns : goal.returns
returns c = rw (c.first_standings.ensures, c.first_view.ensures, c.new.ensures.items, c.new-2.ensures.items) refl
