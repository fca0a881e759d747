use Rattle.std.proofs.Common.{◌+◌, sym, subst}
use Rattle.std.proofs.lemmas.Result.{err_from_is_err_and}
use Rattle.am_world.proofs.Rounds.{DidWavesOfRound, waves_begin_after_ticks, stuck_in_ticks_of_round, did_one_wave_more, stuck_in_wave_of_round, round_ends_with_fifth_wave}
use Rattle.am_world.proofs.settle.round.Goals as goal

pub returns-in_err-tick_all-clause-err : goal.returns-in_err-tick_all-clause-err
returns-in_err-tick_all-clause-err c =
    let p = err_from_is_err_and c.from_residual.result c.from_residual.ensures.1 in
    rw (p.1, p.2) (stuck_in_ticks_of_round c.args.world.now c.tick_all.new.world c.in_err-tick_all.field-0.0 c.in_err-tick_all.ensures.err)

pub loop-wave-init : goal.loop-wave-init
loop-wave-init c =
    subst (λ n. DidWavesOfRound 0 n c.args.world.now c.tick_all.new.world) (sym c.letter_count-after.ensures)
    (waves_begin_after_ticks c.args.world.now c.tick_all.new.world c.in_ok-tick_all.ensures.ok)

pub returns-in_err-after-clause-err : goal.returns-in_err-after-clause-err
returns-in_err-after-clause-err c =
    let p = err_from_is_err_and c.from_residual-in_err-after.result c.from_residual-in_err-after.ensures.1 in
    rw (p.1, p.2)
    (stuck_in_wave_of_round c.loop-wave._wave c.loop-wave.after c.args.world.now c.loop-wave.world c.hear_all.new.world c.in_err-after.field-0.0
    c.loop-wave-test.true c.loop-wave.invariant c.in_err-after.ensures.err)

pub loop-wave-preserved : goal.loop-wave-preserved
loop-wave-preserved c =
    subst (λ n. DidWavesOfRound (c.loop-wave._wave + 1) n c.args.world.now c.hear_all.new.world) (sym c.in_ok-after.ensures.last)
    (did_one_wave_more c.loop-wave._wave c.loop-wave.after c.args.world.now c.loop-wave.world c.hear_all.new.world c.loop-wave-test.true c.loop-wave.invariant
    c.in_ok-after.ensures.ok)

pub returns-clause-ok : goal.returns-clause-ok
returns-clause-ok c = round_ends_with_fifth_wave c.loop-wave._wave c.loop-wave.after c.args.world.now c.loop-wave.world c.loop-wave-test.false c.loop-wave.invariant
