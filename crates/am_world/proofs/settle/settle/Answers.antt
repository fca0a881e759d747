use Rattle.std.proofs.Common.{◌≡◌, ◌+◌, length, ap, ◌∙◌, subst, arith}
use Rattle.std.proofs.lemmas.List.{length-append}
use Rattle.std.proofs.lemmas.Result.{err_from_is_err_and}
use Rattle.am_group_defs.specs.Settle.{settle_events}
use Rattle.am_world.specs.Runs.{Play, replay}
use Rattle.am_world.specs.Settling.{Did, Stuck}
use Rattle.am_world.proofs.Rounds.{rounds_of_count_settle, no_round_is_done_yet, did_one_round_more, stuck_in_round_of_settle, rounds_of_count_are_done}
use Rattle.am_world.proofs.settle.settle.Goals as goal

pub loop-round-init : goal.loop-round-init
loop-round-init c = no_round_is_done_yet c.round_count-rounds.result c.args.world.now

pub loop-round-preserved : goal.loop-round-preserved
loop-round-preserved c =
    did_one_round_more c.round_count-rounds.result c.loop-round._round c.args.world.now c.loop-round.world c.round.new.world c.loop-round-test.true
    c.loop-round.invariant c.in_ok-round.ensures.ok

pub returns-in_err-round-clause-err : goal.returns-in_err-round-clause-err
returns-in_err-round-clause-err c =
    let p = err_from_is_err_and c.from_residual.result c.from_residual.ensures.1 in
    rw (p.1, p.2)
    (subst (λ es. Stuck es c.args.world.now c.round.new.world c.in_err-round.field-0.0)
    (rounds_of_count_settle c.args.world.now c.round_count-rounds.result c.round_count-rounds.ensures)
    (stuck_in_round_of_settle c.round_count-rounds.result c.loop-round._round c.args.world.now c.loop-round.world c.round.new.world c.in_err-round.field-0.0
    c.loop-round-test.true c.loop-round.invariant c.in_err-round.ensures.err))

done : goal.returns-clause-ok
done c =
    subst (λ es. Did es c.args.world.now c.loop-round.world) (rounds_of_count_settle c.args.world.now c.round_count-rounds.result c.round_count-rounds.ensures)
    (rounds_of_count_are_done c.round_count-rounds.result c.loop-round._round c.args.world.now c.loop-round.world c.loop-round-test.false c.loop-round.invariant)

pub returns-clause-ok : goal.returns-clause-ok
returns-clause-ok c = done c

pub returns-clause-events : goal.returns-clause-events
returns-clause-events c =
    let old = c.args.world.now in
    let es = settle_events old.rules (replay old) in
    let did : Did es old c.loop-round.world = done c in
    let all : length c.loop-round.world.events ≡ length old.events + length es = ap (λ (p : Play). length p.events) did
    ∙ length-append old.events es in
    let before = c.event_count-before.ensures in
    let after = c.event_count.ensures in
    omega arith
