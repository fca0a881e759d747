use Rattle.am_lawful_watch.proofs.WatchWords.{◌∷◌, [], ap, sym, ◌∙◌, watch_accepts, watching_of}
use Rattle.am_lawful_watch.proofs.Accepts.{accept_of_data_entry, accept_of_join_entry, accept_of_leave_entry, accept_of_view_entry}
use Rattle.am_lawful_watch.proofs.watcher.Watcher.accept.Goals as goal

pub returns-in-Data : goal.returns-in-Data
returns-in-Data c = let k = watching_of c.args.self.now in sym (ap (λ e. watch_accepts k c.args.number (e ∷ [])) c.in-Data.is
    ∙ accept_of_data_entry k c.args.number c.in-Data.from c.in-Data.req c.in-Data.body)

pub returns-in-Join : goal.returns-in-Join
returns-in-Join c = let k = watching_of c.args.self.now in sym (ap (λ e. watch_accepts k c.args.number (e ∷ [])) c.in-Join.is
    ∙ accept_of_join_entry k c.args.number c.in-Join.field-0)

pub returns-in-Leave : goal.returns-in-Leave
returns-in-Leave c = let k = watching_of c.args.self.now in sym (ap (λ e. watch_accepts k c.args.number (e ∷ [])) c.in-Leave.is
    ∙ accept_of_leave_entry k c.args.number c.in-Leave.field-0)

pub returns-in-View : goal.returns-in-View
returns-in-View c = let k = watching_of c.args.self.now in sym (ap (λ e. watch_accepts k c.args.number (e ∷ [])) c.in-View.is
    ∙ accept_of_view_entry k c.args.number c.in-View.view ∙ ap (λ ps. record k { pending = ps }) (sym c.place_in_all.ensures))
