use Rattle.std.proofs.Common.{◌≡◌, length, Some, sym, ◌∙◌, subst}
use Rattle.am_shared_journal_defs.specs.declared.terms.WireRefusal.{WireRefusal}
use Rattle.am_shared_journal_defs.specs.declared.terms.WireRefusal.TheVariants as refusals
use Rattle.am_race_laws.proofs.Raced.{numbers_of_run_callers, run_callers_did_their_calls, run_callers_are_as_planned, journal_is_legal_as_planned, unrefused_race_is_played, planned_race_is_not_spent}
use Rattle.am_calls.proofs.race.race_over.Goals as goal

pub finish-journal-requires : goal.finish-journal-requires
finish-journal-requires g c = record {
  callers = numbers_of_run_callers _ c.in_ok-ran.ran.items c.in_ok-callers.callers.items c.in_ok-kernels.callers.items (length g.N.Racing.plan.threads)
      c.in_ok-callers.ensures.callers c.in_ok-ran.ensures.numbers c.in_ok-kernels.ensures;
}

pub unreachable-requires : goal.unreachable-requires
unreachable-requires g c =
    let spent : c.in-Some-Spent.field-0 ≡ refusals.Spent = rw c.in-Some-Spent.is at c.in-Some-Spent.field-0-is in
    let numbers = numbers_of_run_callers _ c.in_ok-ran.ran.items c.in_ok-callers.callers.items c.in_ok-kernels.callers.items (length g.N.Racing.plan.threads)
    c.in_ok-callers.ensures.callers c.in_ok-ran.ensures.numbers c.in_ok-kernels.ensures in
    planned_race_is_not_spent g.N.Racing.plan c.finish-journal.result.records _ c.requires.within c.finish-journal.ensures.callers
    (run_callers_did_their_calls _ _ g.N.Racing.plan c.finish-journal.result.records c.in_ok-ran.ran.items c.in_ok-callers.callers.items c.in_ok-callers.ensures.callers numbers
    c.in_ok-ran.ensures.ran c.finish-journal.ensures.ends)
    (sym c.in_ok-callers.ensures.refusal ∙ subst (λ (r : WireRefusal). c.in_ok-callers.refusal ≡ Some r) spent c.in-Some-Spent.is)

pub returns-in-None-clause-played : goal.returns-in-None-clause-played
returns-in-None-clause-played g c =
    let numbers = numbers_of_run_callers _ c.in_ok-ran.ran.items c.in_ok-callers.callers.items c.in_ok-kernels.callers.items (length g.N.Racing.plan.threads)
    c.in_ok-callers.ensures.callers c.in_ok-ran.ensures.numbers c.in_ok-kernels.ensures in
    unrefused_race_is_played g.N.Racing.plan c.finish-journal.result.records _
    (run_callers_did_their_calls _ _ g.N.Racing.plan c.finish-journal.result.records c.in_ok-ran.ran.items c.in_ok-callers.callers.items c.in_ok-callers.ensures.callers numbers
    c.in_ok-ran.ensures.ran c.finish-journal.ensures.ends)
    (sym c.in_ok-callers.ensures.refusal ∙ c.in-None.is)

pub returns-in-None-clause-legal : goal.returns-in-None-clause-legal
returns-in-None-clause-legal g c =
    let numbers = numbers_of_run_callers _ c.in_ok-ran.ran.items c.in_ok-callers.callers.items c.in_ok-kernels.callers.items (length g.N.Racing.plan.threads)
    c.in_ok-callers.ensures.callers c.in_ok-ran.ensures.numbers c.in_ok-kernels.ensures in
    journal_is_legal_as_planned g.N.Racing.plan c.in_ok-callers.callers.items c.finish-journal.result.records numbers
    (run_callers_are_as_planned _ (λ r. r.refusal) g.N.Racing.plan c.in_ok-ran.ran.items c.in_ok-callers.callers.items c.in_ok-callers.ensures.callers c.in_ok-ran.ensures.ran)
    c.finish-journal.ensures.legal
