use Rattle.am_lawful_watch.proofs.WatchWords.{◌+◌, ◌∙◌, arith, watching_of}
use Rattle.am_lawful_watch.proofs.Tellings.{accept_of_no_entry, accept_of_next_group_entry, accept_of_all_group_entries}
use Rattle.am_lawful_watch.proofs.telling.accept_above.Goals as goal

pub loop-index-init : goal.loop-index-init
loop-index-init c = accept_of_no_entry (watching_of c.args.watcher.now) (c.args.known + 1) c.args.group.now c.args.known

pub loop-index-preserved : goal.loop-index-preserved
loop-index-preserved c = c.accept.ensures ∙ accept_of_next_group_entry (watching_of c.args.watcher.now)
    (watching_of c.loop-index.watcher) c.args.group.now c.args.known c.loop-index.index c.index-group-index.result c.loop-index.auto.index
    c.loop-index-test.true c.index-group-index.is c.loop-index.invariant

pub returns : goal.returns
returns c = c.loop-index.invariant ∙ accept_of_all_group_entries (watching_of c.args.watcher.now) c.args.group.now c.args.known c.loop-index.index (omega arith)
