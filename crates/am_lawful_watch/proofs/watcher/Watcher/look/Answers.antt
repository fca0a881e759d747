use Rattle.am_lawful_watch.proofs.WatchWords.{ap, look_for_complete_view, end_event, watching_of}
use Rattle.am_lawful_watch.proofs.watcher.Watcher.look.Goals as goal

pub returns : goal.returns
unfolding look_for_complete_view
returns c = rw (c.keep_above.ensures, c.broken_after-self.ensures) (ap (end_event (watching_of c.args.self.now)) c.greatest-best.ensures)
