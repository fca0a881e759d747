use Rattle.am_lawful_watch.proofs.WatchWords.{◌+◌, drop, watching_of}
use Rattle.am_lawful_watch.proofs.Tellings.{noted_watching_is_told_step}
use Rattle.am_lawful_watch.proofs.watcher.Watcher.note_step.Goals as goal

pub returns : goal.returns
returns c = noted_watching_is_told_step (watching_of c.args.self.now) (watching_of c.note_views.new.watcher) (watching_of c.finish.new.self)
    (watching_of c.accept_above.new.watcher) c.args.name c.args.shown.now c.args.what.now (c.args.known + 1)
    (drop c.args.known c.args.group.now) c.standing-before.result c.standing_after-after.result
    c.standing-before.ensures c.standing_after-after.ensures c.note_views.ensures c.finish.ensures c.accept_above.ensures
