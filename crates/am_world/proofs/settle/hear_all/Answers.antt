use Rattle.std.proofs.Common.{◌<◌, ◌≤◌, length, arith}
use Rattle.std.proofs.lemmas.Result.{err_from_is_err_and}
use Rattle.am_world.specs.Runs.{replay}
use Rattle.am_world.proofs.Ways.{did_hearings_of_letter, stuck_in_hearings_of_letter, did_hearings_of_all_letters}
use Rattle.am_world.proofs.settle.hear_all.Goals as goal

pub loop-number-preserved : goal.loop-number-preserved
loop-number-preserved c =
    let low : c.loop-number.number < length (replay c.args.world.now).letters = omega (arith, c.letter_count-last.ensures, c.loop-number-test.true) in
    did_hearings_of_letter c.args.after c.loop-number.number c.args.world.now c.loop-number.world c.hear_letter.new.world low c.loop-number.invariant c.in_ok-hear_letter.ensures.ok

pub returns-in_err-hear_letter-clause-err : goal.returns-in_err-hear_letter-clause-err
returns-in_err-hear_letter-clause-err c =
    let low : c.loop-number.number < length (replay c.args.world.now).letters = omega (arith, c.letter_count-last.ensures, c.loop-number-test.true) in
    let p = err_from_is_err_and c.from_residual.result c.from_residual.ensures.1 in
    rw (p.1, p.2)
    (stuck_in_hearings_of_letter c.args.after c.loop-number.number c.args.world.now c.loop-number.world c.hear_letter.new.world c.in_err-hear_letter.field-0.0 low
    c.loop-number.invariant c.in_err-hear_letter.ensures.err)

pub returns-clause-ok : goal.returns-clause-ok
returns-clause-ok c =
    let high : length (replay c.args.world.now).letters ≤ c.loop-number.number = omega (arith, c.letter_count-last.ensures, c.loop-number-test.false) in
    did_hearings_of_all_letters c.args.after c.loop-number.number c.args.world.now c.loop-number.world high c.loop-number.invariant
