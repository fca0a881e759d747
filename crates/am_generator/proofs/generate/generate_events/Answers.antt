use Rattle.am_generator.proofs.Words.{◌≡◌, length, sym, ap, ◌∙◌, subst, arith, err_from_is_err_and, Play, GeneratedRun, first_drive, drive, IsDriven}
use Rattle.am_generator.proofs.Words.{[], ◌∷◌, ◌++◌, events_of_seed}
use Rattle.am_generator.proofs.Drives.{drive_of_one_event_more, drive_makes_count_events, next_event_is_calm, generated_run_after_draw, play_is_kept_by_draw, drive_once_makes_event, drive_once_pushes_event}
use Rattle.am_generator.proofs.generate.generate_events.Goals as goal

pub loop-done-init : goal.loop-done-init
unfolding drive
loop-done-init c = record { driven = c.in_ok-generator.ensures; made = c.new-events.ensures }

pub happen-requires-clause-calm : goal.happen-requires-clause-calm
happen-requires-clause-calm c =
    let d = drive c.loop-done._done (first_drive c.args.seed) in
    next_event_is_calm d c.in_ok-event.event (c.in_ok-event.ensures d c.loop-done.invariant.driven).is

pub happen-requires-clause-driven : goal.happen-requires-clause-driven
happen-requires-clause-driven c =
    let d = drive c.loop-done._done (first_drive c.args.seed) in
    (generated_run_after_draw d, (c.in_ok-event.ensures d c.loop-done.invariant.driven).driven)

pub returns-in_err-happen-clause-spent : goal.returns-in_err-happen-clause-spent
returns-in_err-happen-clause-spent c =
    let d = drive c.loop-done._done (first_drive c.args.seed) in
    let p = err_from_is_err_and c.from_residual-in_err-happen.result c.from_residual-in_err-happen.ensures.1 in
    rw (p.1, p.2) (λ is. omega (
      arith,
      c.loop-done-test.true,
      drive_makes_count_events c.loop-done._done (first_drive c.args.seed),
      ap (λ (q : Play). length q.events) (play_is_kept_by_draw d),
      c.in_err-happen.ensures.spent (generated_run_after_draw d) (c.in_ok-event.ensures d c.loop-done.invariant.driven).driven is,
    ))

pub loop-done-preserved : goal.loop-done-preserved
loop-done-preserved c =
    let d = drive c.loop-done._done (first_drive c.args.seed) in
    let drew = c.in_ok-event.ensures d c.loop-done.invariant.driven in
    let next = sym (drive_of_one_event_more c.loop-done._done (first_drive c.args.seed)) in
    record {
      driven = subst (λ r. IsDriven r c.happen.new.self) next
          (drive_once_makes_event d c.happen.new.self c.in_ok-event.event drew.is (c.in_ok-happen.ensures.ok (generated_run_after_draw d) drew.driven));
      made = c.in_ok-push.ensures.ok ∙ (λ k. c.loop-done.invariant.made k ++ (c.in_ok-try_copy.ensures ∙ drew.is) k ∷ []) ∙ sym (drive_once_pushes_event d)
          ∙ ap (λ (r : GeneratedRun). r.play.events) next;
    }

pub returns-clause-events : goal.returns-clause-events
unfolding events_of_seed
returns-clause-events c =
    let all : c.loop-done._done ≡ c.args.count = omega (arith, c.loop-done-test.false, c.loop-done.auto._done-end) in
    c.loop-done.invariant.made ∙ ap (λ n. (drive n (first_drive c.args.seed)).play.events) all
