use Rattle.am_lawful_watch.proofs.WatchWords.{sym, ap, ◌∙◌, watching_with_entries, watching_of, list_of_option}
use Rattle.am_lawful_watch.proofs.Tellings.{with_entries_of_none, with_entries_of_one}
use Rattle.am_lawful_watch.proofs.telling.store_one.Goals as goal

pub returns-in-Some : goal.returns-in-Some
returns-in-Some c =
    let k = watching_of c.args.watcher.now in
    c.store.ensures ∙ sym (with_entries_of_one k c.args.name c.in-Some.entry) ∙ ap (λ o. watching_with_entries k c.args.name (list_of_option o)) (sym c.in-Some.is)

pub returns-in-None : goal.returns-in-None
returns-in-None c =
    let k = watching_of c.args.watcher.now in
    sym (with_entries_of_none k c.args.name) ∙ ap (λ o. watching_with_entries k c.args.name (list_of_option o)) (sym c.in-None.is)
