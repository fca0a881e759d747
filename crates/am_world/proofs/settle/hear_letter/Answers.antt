use Rattle.std.proofs.lemmas.Result.{err_from_is_err_and}
use Rattle.am_world.proofs.Ways.{did_no_hearing_yet, did_hearing_at_place, stuck_in_hearing_at_place}
use Rattle.am_world.proofs.settle.hear_letter.Goals as goal

pub loop-place-init : goal.loop-place-init
loop-place-init c = λ l there. did_no_hearing_yet c.args.number l c.args.world.now

pub loop-place-preserved : goal.loop-place-preserved
loop-place-preserved c = λ l there.
    did_hearing_at_place c.args.number l c.loop-place.place c.is_heard-is_due.result c.args.world.now c.loop-place.world c.act_where.new.world
    c.loop-place-test.true there (c.is_heard-is_due.ensures l) (c.loop-place.invariant l there) c.in_ok-act_where.ensures.ok

pub returns-in_err-act_where-clause-err : goal.returns-in_err-act_where-clause-err
returns-in_err-act_where-clause-err c = λ l there.
    let p = err_from_is_err_and c.from_residual.result c.from_residual.ensures.1 in
    rw (p.1, p.2)
    (stuck_in_hearing_at_place c.args.number l c.loop-place.place c.is_heard-is_due.result c.args.world.now c.loop-place.world c.act_where.new.world
    c.in_err-act_where.field-0.0
    c.loop-place-test.true there (c.is_heard-is_due.ensures l) (c.loop-place.invariant l there) c.in_err-act_where.ensures.err)
