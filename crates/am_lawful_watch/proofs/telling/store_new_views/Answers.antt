use Rattle.am_lawful_watch.proofs.WatchWords.{[], if◌then◌else◌, false, refl, ◌∙◌, watching_of, entry_of_heard_piece, list_of_option, view_entry_of}
use Rattle.am_lawful_watch.proofs.Tellings.{with_entries_if_not_begun}
use Rattle.am_lawful_watch.proofs.telling.store_new_views.Goals as goal

pub returns : goal.returns
returns c =
    c.store.ensures ∙ with_entries_if_not_begun (watching_of c.args.watcher.now) (watching_of c.store_one.new.watcher) c.args.step.now.name false false
    (if c.args.is_decided then list_of_option (entry_of_heard_piece c.args.step.now.what.now) else []) (list_of_option c.fetched_before-earlier.result)
    (view_entry_of c.args.step.now.view.now) c.last_view.result refl refl c.fetched_before-earlier.ensures c.last_view.ensures c.store_one.ensures
