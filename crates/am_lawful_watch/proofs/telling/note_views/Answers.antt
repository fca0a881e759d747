use Rattle.am_lawful_watch.proofs.WatchWords.{sym, ap, ◌∙◌, watching_with_entries, watching_of, views_stored_in_step}
use Rattle.am_lawful_watch.proofs.Tellings.{with_views_of_same_view}
use Rattle.am_lawful_watch.proofs.telling.note_views.Goals as goal

pub returns : goal.returns
returns c =
    c.store_views.ensures
    ∙ ap (λ k. watching_with_entries k c.args.step.now.name (views_stored_in_step c.args.step.now.name c.args.step.now.before.now c.args.step.now.after.now c.args.step.now.view.now c.args.step.now.what.now)) c.decide.ensures

pub returns-then-eq : goal.returns-then-eq
returns-then-eq c =
    with_views_of_same_view (watching_of c.args.watcher.now) c.args.step.now.name c.args.step.now.before.now c.args.step.now.after.now c.args.step.now.view.now c.args.step.now.what.now
    c.requires.before (sym c.eq.ensures ∙ c.if-eq.true)
