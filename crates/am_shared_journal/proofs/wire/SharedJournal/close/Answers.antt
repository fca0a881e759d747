use Rattle.am_shared_journal.proofs.Words.{◌≡◌, ◌<◌, sym, ap, ◌∙◌, subst, All, List, Record, Terms, WireLine, HasEachKey, EachComesNext, Page}
use Rattle.am_shared_journal.proofs.{Sharing.last_view_closes_wire, Passing.pass_sits_at_seat, wire.SharedJournal.close.Given.Over}
use Rattle.am_shared_journal.proofs.wire.SharedJournal.close.Goals as goal

-- what came of the slot
record TheEnd (next : Terms → List Record → Record → Type 0) (terms : Terms) (seen : List Record) (last : Page) : Type 0 where
  pub founding : last.founding ≡ terms.founding
  pub records : last.records ≡ seen
  pub callers : All (λ r. r.by.caller < terms.callers) seen
  pub lawful : EachComesNext (next terms) seen

the_end : (g : Over) (c : goal.After-into_journal g) → TheEnd g.L.Law.next c.args.self.terms c.args.pass.seen c.take-sheet.result
the_end g c =
    let s = pass_sits_at_seat _ _ _ c.into_seat-seat.result.me (sym c.pass.view_is) c.pass.invariant c.into_seat-seat.ensures.2 c.into_seat-seat.ensures.3 in
    let terms : Terms = c.self.inside.table.shared.key in
    let same : terms ≡ c.args.self.terms = ap (λ (l : WireLine). l.terms) c.self.view_is in
    let e = last_view_closes_wire _ terms _ _ s.idle.turn (subst (HasEachKey terms.callers) s.keys
    (subst (λ (t : Terms). HasEachKey t.callers c.args.pass.keys)
    (sym same) c.requires.all)) _ _ c.close_with-closed.ensures.values.2 c.take-sheet.result c.take-sheet.ensures.value in record {
      founding = ap (λ (p : Page). p.founding) e.0 ∙ ap (λ (t : Terms). t.founding) same;
      records = ap (λ (p : Page). p.records) e.0 ∙ sym s.seen;
      callers = subst (λ (t : Terms). All (λ (r : Record). r.by.caller < t.callers) c.args.pass.seen) same
          (subst (All (λ (r : Record). r.by.caller < terms.callers)) (sym s.seen) e.1);
      lawful = subst (λ (t : Terms). EachComesNext (g.L.Law.next t) c.args.pass.seen) same (subst (EachComesNext (g.L.Law.next terms)) (sym s.seen) e.2);
    }

pub returns-clause-founding : goal.returns-clause-founding
returns-clause-founding g c = c.into_journal.ensures.founding ∙ (the_end g c).founding

pub returns-clause-records : goal.returns-clause-records
returns-clause-records g c = c.into_journal.ensures.records ∙ (the_end g c).records

pub returns-clause-callers : goal.returns-clause-callers
returns-clause-callers g c = (the_end g c).callers

pub returns-clause-lawful : goal.returns-clause-lawful
returns-clause-lawful g c = (the_end g c).lawful
