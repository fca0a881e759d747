use Rattle.std.proofs.lemmas.Result.{err_from_is_err_and}
use Rattle.am_world.proofs.Ways.{did_no_tick_yet, did_tick_at_place, stuck_in_tick_at_place}
use Rattle.am_world.proofs.settle.tick_all.Goals as goal

pub loop-place-init : goal.loop-place-init
loop-place-init c = did_no_tick_yet c.args.world.now

pub loop-place-preserved : goal.loop-place-preserved
loop-place-preserved c =
    did_tick_at_place c.loop-place.place c.is_running-is_due.result c.args.world.now c.loop-place.world c.act_where.new.world
    c.loop-place-test.true c.is_running-is_due.ensures c.loop-place.invariant c.in_ok-act_where.ensures.ok

pub returns-in_err-act_where-clause-err : goal.returns-in_err-act_where-clause-err
returns-in_err-act_where-clause-err c =
    let p = err_from_is_err_and c.from_residual.result c.from_residual.ensures.1 in
    rw (p.1, p.2)
    (stuck_in_tick_at_place c.loop-place.place c.is_running-is_due.result c.args.world.now c.loop-place.world c.act_where.new.world c.in_err-act_where.field-0.0
    c.loop-place-test.true c.is_running-is_due.ensures c.loop-place.invariant c.in_err-act_where.ensures.err)
