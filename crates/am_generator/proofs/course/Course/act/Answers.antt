use Rattle.am_world.proofs.Words.{◌+◌, length, sym, ap, ◌∙◌, subst, arith, Watching}
use Rattle.am_world.proofs.Words.{drop, watching_after_told_step, watching_of, play_after, most_events_of_run}
use Rattle.am_generator.proofs.Courses.{places_are_ready_for_event, course_gone_by_step, course_stands_after_step, group_length_le_events, step_of_course_is_watched, counts_after_answer, events_below_most_counts}
use Rattle.am_world.proofs.{Kept.watched_count_is_events}
use Rattle.am_generator.specs.Courses.{Counted}
use Rattle.am_generator.proofs.course.Course.act.Goals as goal

pub act-requires-clause-ready : goal.act-requires-clause-ready
act-requires-clause-ready c =
    let a = c.requires.run.1.1 in
    let s = c.args.self.now in
    places_are_ready_for_event c.requires.run.0 c.requires.run.1.0 s.places s.watcher c.args.name s.counts.events c.args.what a.course.stands a.few a.named a.comes_
    a.course.counted.events

pub note_step-requires-clause-few : goal.note_step-requires-clause-few
note_step-requires-clause-few c =
    let p = c.requires.run.0 in
    let a = c.requires.run.1.1 in
    let count = ap (λ (k : Watching). k.count) c.reserve.ensures.same in
    let events = watched_count_is_events p (watching_of c.args.self.now.watcher) a.course.stands.watched in
    let few = a.few in
    omega arith

pub note_step-requires-clause-short : goal.note_step-requires-clause-short
note_step-requires-clause-short c =
    let p = c.requires.run.0 in
    let e = c.requires.run.1.0 in
    let a = c.requires.run.1.1 in
    let s = c.args.self.now in
    let moves = c.in_ok-outcome.ensures.moves in
    let g = course_gone_by_step p e s.places c.act.new.self s.watcher c.args.name c.args.what c.in_ok-outcome.outcome a.course.stands a.few a.named a.comes_ moves in
    let short = group_length_le_events p e c.in_ok-outcome.outcome moves.sent c.act.new.self g in
    let long = ap length c.group.ensures in
    let few = a.few in
    omega arith

pub returns-clause-ok : goal.returns-clause-ok
returns-clause-ok c = λ p e a.
    let s = c.args.self.now in
    let outcome = c.in_ok-outcome.outcome in
    let new = c.act.new.self in
    let moves = c.in_ok-outcome.ensures.moves in
    let g = course_gone_by_step p e s.places new s.watcher c.args.name c.args.what outcome a.course.stands a.few a.named a.comes_ moves in
    let watched = step_of_course_is_watched p e outcome moves.sent s.places new s.watcher c.reserve.new.self c.note_step.new.self c.args.name c.args.what c.node.result.now
    (length c.group-known.result.now) c.group.result.now a.course.stands g a.named a.comes_ c.reserve.ensures.same (ap length c.group-known.ensures)
    c.group.ensures c.node.ensures (c.note_step.ensures ∙ ap (λ n. watching_after_told_step (watching_of c.reserve.new.self) c.args.name n c.args.what
    (length c.group-known.result.now + 1) (drop (length c.group-known.result.now) c.group.result.now)) c.shown_by-shown.ensures) in (
      record {
        stands = course_stands_after_step p e outcome moves.sent s.places new s.watcher c.note_step.new.self a.course.stands g moves.few moves.letters watched;
        counted = subst (Counted (play_after p e)) (sym c.add.ensures) (counts_after_answer p e s.counts outcome a.course.counted g.answers);
      },
      g.answers,
    )

pub add-requires : goal.add-requires
add-requires c =
    let a = c.requires.run.1.1 in
    let many = a.course.counted.events in
    let few = a.few in
    events_below_most_counts c.requires.run.0 c.args.self.now.counts most_events_of_run a.course.counted (omega arith)
