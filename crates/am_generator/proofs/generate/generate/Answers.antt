use Rattle.am_generator.proofs.Words.{◌≡◌, length, sym, ap, ◌∙◌, subst, arith, err_from_is_err_and, Play, first_drive, drive, IsCourse, IsDriven}
use Rattle.am_generator.proofs.Drives.{drive_of_one_event_more, drive_makes_count_events, play_of_drive_from_seed, next_event_is_calm, generated_run_after_draw, play_is_kept_by_draw, drive_once_makes_event}
use Rattle.am_generator.proofs.generate.generate.Goals as goal

pub loop-done-init : goal.loop-done-init
unfolding drive
loop-done-init c = c.in_ok-generator.ensures

pub happen-requires-clause-calm : goal.happen-requires-clause-calm
happen-requires-clause-calm c =
    let d = drive c.loop-done._done (first_drive c.args.seed) in
    next_event_is_calm d c.in_ok-event.event (c.in_ok-event.ensures d c.loop-done.invariant).is

pub happen-requires-clause-driven : goal.happen-requires-clause-driven
happen-requires-clause-driven c =
    let d = drive c.loop-done._done (first_drive c.args.seed) in
    (generated_run_after_draw d, (c.in_ok-event.ensures d c.loop-done.invariant).driven)

pub returns-in_err-happen-clause-spent : goal.returns-in_err-happen-clause-spent
returns-in_err-happen-clause-spent c =
    let d = drive c.loop-done._done (first_drive c.args.seed) in
    let p = err_from_is_err_and c.from_residual-in_err-happen.result c.from_residual-in_err-happen.ensures.1 in
    rw (p.1, p.2) (λ is.
    let many = drive_makes_count_events c.loop-done._done (first_drive c.args.seed) in
    let same = ap (λ (q : Play). length q.events) (play_is_kept_by_draw d) in
    let full = c.in_err-happen.ensures.spent (generated_run_after_draw d) (c.in_ok-event.ensures d c.loop-done.invariant).driven is in
    omega (arith, c.loop-done-test.true))

pub loop-done-preserved : goal.loop-done-preserved
loop-done-preserved c =
    let d = drive c.loop-done._done (first_drive c.args.seed) in
    let drew = c.in_ok-event.ensures d c.loop-done.invariant in
    subst (λ r. IsDriven r c.happen.new.self) (sym (drive_of_one_event_more c.loop-done._done (first_drive c.args.seed)))
    (drive_once_makes_event d c.happen.new.self c.in_ok-event.event drew.is (c.in_ok-happen.ensures.ok (generated_run_after_draw d) drew.driven))

pub returns-clause-course : goal.returns-clause-course
returns-clause-course c =
    let all : c.loop-done._done ≡ c.args.count = omega (arith, c.loop-done-test.false, c.loop-done.auto._done-end) in
    subst (λ p. IsCourse p c.into_course.result) (ap (λ n. (drive n (first_drive c.args.seed)).play) all ∙ play_of_drive_from_seed c.args.seed c.args.count)
    (c.into_course.ensures (drive c.loop-done._done (first_drive c.args.seed)) c.loop-done.invariant)
