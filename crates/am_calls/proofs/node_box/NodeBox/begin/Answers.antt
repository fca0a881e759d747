use Rattle.std.proofs.Common.{◌≡◌, ℕ, List, Result, Ok, Err, IfOk, IfErr, true≢false, sym, ap, ◌∙◌, subst}
use Rattle.am_group.specs.declared.event.Act.{Act}
use Rattle.am_group.specs.declared.event.By.{By}
use Rattle.am_group.specs.declared.event.Part.TheVariants.{Call}
use Rattle.am_group.specs.declared.event.Record.{Record}
use Rattle.am_group.specs.declared.plan.RacePlan.{RacePlan}
use Rattle.am_race_laws.specs.declared.answer.CallAnswer.{CallAnswer}
use Rattle.am_race_laws.specs.declared.call.Came.{Came}
use Rattle.am_race_laws.specs.Answers.{is_take, is_end_of}
use Rattle.am_race_laws.specs.Going.{by_of, is_asked, OwnActIsDone, WasRefused}
use Rattle.am_race_laws.proofs.Hands.{call_is_asked_act}
use Rattle.am_race_laws.proofs.Looking.{call_began_since_earlier_records, refusal_since_earlier_records}
use Rattle.am_calls.proofs.node_box.NodeBox.begin.Goals as goal

pub ask-requires-clause-asks : goal.ask-requires-clause-asks
ask-requires-clause-asks g c = ap is_asked c.in-Ok.ensures ∙ call_is_asked_act c.args.visit.now.act.now c.requires.call

pub ask-requires-clause-due : goal.ask-requires-clause-due
ask-requires-clause-due g c = λ end.
    absurd (true≢false (sym end ∙ ap (λ (b : By). is_end_of b.part c.in-Ok.own) c.with.ensures ∙ ap is_take c.in-Ok.ensures ∙ c.requires.no_receive))

-- what asking leaves, by what was asked
asked_as : (plan : RacePlan) (name name' : ℕ) (a a' : Act) (by by' : By) (old new : List Record) (r : Result Came CallAnswer) → name' ≡ name → a' ≡ a → by' ≡ by
    → IfOk r (λ came. OwnActIsDone plan name' a' by' came old new) → IfOk r (λ came. OwnActIsDone plan name a by came old new)
asked_as plan name name' a a' by by' old new (Err its) n e b ok = tt
asked_as plan name name' a a' by by' old new (Ok came) n e b ok =
    subst (λ (k : ℕ). OwnActIsDone plan k a by came old new) n (subst (λ (x : Act). OwnActIsDone plan name' x by came old new) e
    (subst (λ (y : By). OwnActIsDone plan name' a' y came old new) b ok))

pub returns-clause-ok : goal.returns-clause-ok
returns-clause-ok g c =
    call_began_since_earlier_records g.N.Racing.plan c.args.self.now.name c.args.visit.now.tag c.args.visit.now.act.now c.args.hand.now.share.seen c.meet_caller.new.hand.share.seen
    c.ask.new.hand.share.seen c.ask.result c.meet_caller.ensures.goes
    (asked_as g.N.Racing.plan c.args.self.now.name c.meet_caller.new.self.name c.args.visit.now.act.now c.in-Ok.own (by_of c.args.visit.now.tag Call) c.with.result _ _
    c.ask.result c.meet_caller.ensures.name c.in-Ok.ensures c.with.ensures c.ask.ensures.ok)

pub returns-clause-err : goal.returns-clause-err
returns-clause-err g c =
    subst (λ (n : ℕ). IfErr c.ask.result (WasRefused n c.args.visit.now.tag.caller c.args.hand.now.share.seen c.ask.new.hand.share.seen))
    c.meet_caller.ensures.name
    (refusal_since_earlier_records c.meet_caller.new.self.name c.args.visit.now.tag.caller c.args.hand.now.share.seen c.meet_caller.new.hand.share.seen
    c.ask.new.hand.share.seen c.ask.result c.meet_caller.ensures.goes
    (subst (λ (n : ℕ). IfErr c.ask.result (WasRefused c.meet_caller.new.self.name n c.meet_caller.new.hand.share.seen c.ask.new.hand.share.seen))
    (ap (λ (b : By). b.caller) c.with.ensures) c.ask.ensures.err))
