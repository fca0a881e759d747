use Rattle.am_lawful_watch.proofs.WatchWords.{[], ◌∷◌, ◌++◌, ◌||◌, if◌then◌else◌, sym, ap, ◌∙◌, stamps_are_equal, watch_decides, watching_with_entries, watching_of, list_begins_in_step, entry_of_heard_piece, list_of_option}
use Rattle.am_lawful_watch.proofs.WatchWords.{view_entry_of}
use Rattle.am_lawful_watch.proofs.telling.store_views.Goals.{then-begins-via-then-begins, then-begins-via-else-begins+then-eq}
use Rattle.am_lawful_watch.proofs.Tellings.{with_entries_if_new, with_entries_if_begun}
use Rattle.am_lawful_watch.proofs.telling.store_views.Goals as goal

pub returns : goal.returns
returns c =
    let k = watching_of c.args.watcher.now in
    let found = list_of_option (entry_of_heard_piece c.args.step.now.what.now) in
    let last = view_entry_of c.args.step.now.view.now ∷ [] in
    c.store_new_views.ensures ∙ ap (λ b. watching_with_entries k c.args.step.now.name ((if b then found else []) ++ last)) c.decides.ensures
    ∙ with_entries_if_new k c.args.step.now.name (list_begins_in_step c.args.step.now.before.now c.args.step.now.after.now.status) (stamps_are_equal c.args.step.now.before.now.view c.args.step.now.after.now.view) _
    (sym c.begins.ensures ∙ c.if-begins.false) (sym c.eq.ensures ∙ c.if-eq.false)

pub returns-then-begins : goal.returns-then-begins
returns-then-begins c =
    let k = watching_of c.args.watcher.now in
    let begun = list_begins_in_step c.args.step.now.before.now c.args.step.now.after.now.status in
    let same = stamps_are_equal c.args.step.now.before.now.view c.args.step.now.after.now.view in
    let es = (if watch_decides c.args.step.now.before.now c.args.step.now.name c.args.step.now.after.now then list_of_option (entry_of_heard_piece c.args.step.now.what.now) else []) ++ view_entry_of c.args.step.now.view.now ∷ [] in
    elim c.then-begins.branch [
      | then-begins-via-then-begins w ↦ with_entries_if_begun k c.args.step.now.name (begun || same) es (ap (λ b. b || same) (sym c.begins.ensures ∙ w.if-begins.true))
      | then-begins-via-else-begins+then-eq w ↦ with_entries_if_begun k c.args.step.now.name (begun || same) es
          (ap (λ b. b || same) (sym c.begins.ensures ∙ w.if-begins.false) ∙ sym w.eq.ensures ∙ w.if-eq.true)
    ]
