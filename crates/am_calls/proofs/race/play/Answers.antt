use Rattle.std.proofs.Common.{◌<◌, ◌≤◌, List, length, get_or, sym, ap, ◌∙◌, subst, arith}
use Rattle.am_group.specs.declared.event.Act.{Act}
use Rattle.am_race_laws.specs.Ran.{HasRun}
use Rattle.am_race_laws.proofs.Playing.{thread_has_played_no_calls, thread_plays_one_more_call, thread_ends_with_answer, thread_has_played_all_calls}
use Rattle.am_calls.proofs.race.play.Goals as goal

pub loop-act-init : goal.loop-act-init
loop-act-init g c = thread_has_played_no_calls g.N.Racing.plan c.args.thread.now c.args.caller c.requires.fresh

pub returns-then-is_last-clause-ran : goal.returns-then-is_last-clause-ran
returns-then-is_last-clause-ran g c =
    let below : c.loop-act.act-index < length c.args.thread.now.calls =
    subst (λ (l : List Act). c.loop-act.act-index < length l) c.as_slice-act-items.ensures c.loop-act-test.true in
    let there = c.act-item.is ∙ ap (λ (l : List Act). get_or l c.loop-act.act-index c.act-item.result) c.as_slice-act-items.ensures in
    subst (HasRun g.N.Racing.plan c.make-answer.new.caller) (sym c.as_refusal-refusal.ensures)
    (thread_ends_with_answer g.N.Racing.plan c.args.thread.now c.args.caller.number c.loop-act.act-index c.act-item.result c.loop-act.caller c.make-answer.new.caller
    c.make-answer.result
    c.requires.its c.loop-act.invariant c.make-answer.ensures (sym c.is_last.ensures ∙ c.if-is_last.true) below there)

pub loop-act-preserved : goal.loop-act-preserved
loop-act-preserved g c =
    let below : c.loop-act.act-index < length c.args.thread.now.calls =
    subst (λ (l : List Act). c.loop-act.act-index < length l) c.as_slice-act-items.ensures c.loop-act-test.true in
    let there = c.act-item.is ∙ ap (λ (l : List Act). get_or l c.loop-act.act-index c.act-item.result) c.as_slice-act-items.ensures in
    thread_plays_one_more_call g.N.Racing.plan c.args.thread.now c.args.caller.number c.loop-act.act-index c.act-item.result c.loop-act.caller c.make-answer.new.caller
    c.make-answer.result
    c.loop-act.invariant c.make-answer.ensures (sym c.is_last.ensures ∙ c.if-is_last.false) below there

pub returns-clause-ran : goal.returns-clause-ran
returns-clause-ran g c =
    let all : length c.args.thread.now.calls ≤ c.loop-act.act-index =
    subst (λ (l : List Act). length l ≤ c.loop-act.act-index) c.as_slice-act-items.ensures c.loop-act-test.false in
    let few : c.loop-act.act-index ≤ length c.args.thread.now.calls =
    subst (λ (l : List Act). c.loop-act.act-index ≤ length l) c.as_slice-act-items.ensures c.loop-act.auto.act-index-end in
    thread_has_played_all_calls g.N.Racing.plan c.args.thread.now c.args.caller.number c.loop-act.act-index c.loop-act.caller c.requires.its (omega arith) c.loop-act.invariant
