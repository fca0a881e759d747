use Rattle.am_lawful_watch.proofs.WatchWords.{ap, sym, ◌∙◌, pass_event, look_for_complete_view, watch_finish}
use Rattle.am_lawful_watch.proofs.watcher.Watcher.finish.Goals as goal

pub returns-then-is_quiet : goal.returns-then-is_quiet
unfolding watch_finish
returns-then-is_quiet c = rw (sym c.is_quiet.ensures ∙ c.if-is_quiet.true) (c.pass.ensures ∙ ap pass_event c.stand.ensures)

pub returns : goal.returns
unfolding watch_finish
returns c = rw (sym c.is_quiet.ensures ∙ c.if-is_quiet.false) (c.look.ensures ∙ ap look_for_complete_view c.stand-2.ensures)
