use Rattle.std.proofs.Common.{ℕ, ◌<◌, List, length, sym, ap, subst}
use Rattle.std.specs.Prelude.{All}
use Rattle.am_group.specs.declared.event.Record.{Record}
use Rattle.am_shared_journal_defs.specs.declared.terms.Terms.{Terms}
use Rattle.am_shared_journal_defs.specs.Passes.{HasEachKey}
use Rattle.am_shared_journal_defs.specs.Sights.{EachComesNext}
use Rattle.am_race_laws.specs.Lawful.{IsLawfulRecord}
use Rattle.am_race_laws.specs.Legal.{IsLegalWithTags}
use Rattle.am_race_laws.specs.Ran.{EndsFor, calls_by}
use Rattle.am_race_laws.proofs.Finishing.{planned_calls_make_legal_journal}
use Rattle.am_race_laws.proofs.Joined.{joined_pass_has_all_keys, joined_callers_made_their_calls, joined_callers_end}
use Rattle.am_calls.proofs.kernels.Kernels.finish.Goals as goal

pub close-requires-clause-all : goal.close-requires-clause-all
close-requires-clause-all g c κs =
    subst (λ (n : ℕ). HasEachKey n c.with_callers-pass.result.keys) (sym (ap (λ (t : Terms). t.callers) c.args.self.planned))
    (joined_pass_has_all_keys g.N.Racing.plan (length g.N.Racing.plan.threads) c.with_callers-pass.result c.args.callers.items c.with_callers-pass.ensures.places
    c.with_callers-pass.ensures.callers c.requires.callers)

pub returns-clause-legal : goal.returns-clause-legal
returns-clause-legal g c =
    subst (IsLegalWithTags g.N.Racing.plan (calls_by c.args.callers.items)) (sym c.close.ensures.records)
    (planned_calls_make_legal_journal g.N.Racing.plan (calls_by c.args.callers.items) c.with_callers-pass.result.seen
    (subst (λ (t : Terms). EachComesNext (IsLawfulRecord t) c.with_callers-pass.result.seen) c.args.self.planned c.close.ensures.lawful)
    (subst (λ (t : Terms). All (λ (r : Record). r.by.caller < t.callers) c.with_callers-pass.result.seen) c.args.self.planned c.close.ensures.callers)
    (joined_callers_made_their_calls g.N.Racing.plan c.with_callers-pass.result c.args.callers.items c.with_callers-pass.ensures.callers c.requires.callers))

pub returns-clause-ends : goal.returns-clause-ends
returns-clause-ends g c =
    subst (λ (l : List Record). All (EndsFor l) c.args.callers.items) (sym c.close.ensures.records)
    (joined_callers_end g.N.Racing.plan c.with_callers-pass.result c.args.callers.items c.with_callers-pass.ensures.callers)
