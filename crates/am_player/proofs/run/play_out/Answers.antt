use Rattle.std.proofs.Common.{◌<◌, ◌+◌, ◌++◌, length, ap, ◌∙◌, subst, arith}
use Rattle.std.proofs.lemmas.Result.{err_from_is_err_and}
use Rattle.am_base.specs.Most.{most_events_of_run}
use Rattle.am_world.specs.Runs.{Play, replay}
use Rattle.am_group_defs.specs.Settle.{settle_events}
use Rattle.am_world.proofs.Going.{stuck_spent_beyond_most_events}
use Rattle.am_player.proofs.Done.{events_le_done_of_script, done_of_settling_script_length}
use Rattle.am_player.proofs.run.play_out.Goals as goal

pub returns-in_err-do_events-clause-err : goal.returns-in_err-do_events-clause-err
returns-in_err-do_events-clause-err c =
    let p = err_from_is_err_and c.from_residual-in_err-do_events.result c.from_residual-in_err-do_events.ensures.1 in
    rw (p.1, p.2) (λ is.
    let begun = ap (λ (w : Play). length w.events) c.in_ok-world.ensures in
    let many = c.in_err-do_events.ensures.err is in
    let all = events_le_done_of_script c.args.founding.now c.args.events.now c.args.settles in
    omega arith)

pub returns-in_err-settle-clause-err : goal.returns-in_err-settle-clause-err
returns-in_err-settle-clause-err c =
    let p = err_from_is_err_and c.from_residual-in_err-settle.result c.from_residual-in_err-settle.ensures.1 in
    let done = c.in_ok-do_events.ensures.ok ∙ ap (λ (w : Play). record w { events = w.events ++ c.args.events.now }) c.in_ok-world.ensures in
    rw (p.1, p.2, c.if-settles.true) (λ is.
    let many = subst (λ (w : Play). most_events_of_run < length w.events + length (settle_events w.rules (replay w))) done (stuck_spent_beyond_most_events _ _ _ _ c.in_err-settle.ensures.err is) in
    let all = done_of_settling_script_length c.args.founding.now c.args.events.now in
    omega arith)
