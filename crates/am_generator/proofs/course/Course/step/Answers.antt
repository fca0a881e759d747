use Rattle.am_world.proofs.Words.{◌≡◌, ◌<◌, length, sym, ap, ◌∙◌, subst, arith, nat_tests, most_events_of_run, watching_of, Play, replay, play_after, comes}
use Rattle.am_generator.specs.Courses.{IsCourse, Counted}
use Rattle.am_generator.specs.declared.course.Course.{Course}
use Rattle.am_generator.proofs.Courses.{asked_call_comes_in_replay, course_passed_by_answer, events_below_most_counts, counts_after_answer}
use Rattle.am_world.proofs.{Kept.watched_count_is_events}
use Rattle.am_generator.proofs.course.Course.step.Goals as goal

-- so many events are fewer than a run may have
low : (p : Play) (s : Course) → IsCourse p s → (s.counts.events ≡ most_events_of_run → ⊥) → s.counts.events < most_events_of_run
low p s course full =
    let most = course.stands.runs.few in
    let many = course.counted.events in
    omega (arith, full)

fewer : (p : Play) (s : Course) → IsCourse p s → s.counts.events < most_events_of_run → length p.events < most_events_of_run
fewer p s course less = let many = course.counted.events in omega arith

pub act-requires : goal.act-requires
act-requires c =
    let p = c.requires.run.0 in
    let course = c.requires.run.1 in
    let s = c.args.self.now in
    let e = c.args.event in
    let less : s.counts.events < most_events_of_run = low p s course (grind (arith, nat_tests, c.if-self-eq-MOST_EVENTS.false)) in
    let came = asked_call_comes_in_replay p e s.places s.watcher c.of_byte-name.result c.place.result c.letters-letters.result.now c.in_ok-what.field-0 course.stands
    c.of_byte-name.ensures c.place.ensures.value c.requires.calm c.letters-letters.ensures c.in_ok-what.ensures.asks c.in_ok-what.ensures.spells in
    record {
      run = (
        p,
        (
          e,
          record {
            course = record { stands = course.stands; counted = course.counted };
            few = fewer p s course less;
            named = came.0;
            comes_ = came.1 ∙ ap (comes (replay p) e) c.in-Step.is;
          },
        ),
      );
    }

pub pass-requires : goal.pass-requires
pass-requires c =
    let p = c.requires.run.0 in
    let course = c.requires.run.1 in
    let count = watched_count_is_events p (watching_of c.args.self.now.watcher) course.stands.watched in
    let most = course.stands.runs.few in
    omega arith

pub add-requires : goal.add-requires
add-requires c =
    let p = c.requires.run.0 in
    let course = c.requires.run.1 in
    let s = c.args.self.now in
    let less : s.counts.events < most_events_of_run = low p s course (grind (arith, nat_tests, c.if-self-eq-MOST_EVENTS.false)) in
    events_below_most_counts p s.counts most_events_of_run course.counted less

pub returns-in_ok-act-in-Step-clause-ok : goal.returns-in_ok-act-in-Step-clause-ok
returns-in_ok-act-in-Step-clause-ok c = λ p course.
    let s = c.args.self.now in
    let e = c.args.event in
    let less : s.counts.events < most_events_of_run = low p s course (grind (arith, nat_tests, c.if-self-eq-MOST_EVENTS.false)) in
    let came = asked_call_comes_in_replay p e s.places s.watcher c.of_byte-name.result c.place.result c.letters-letters.result.now c.in_ok-what.field-0 course.stands
    c.of_byte-name.ensures c.place.ensures.value c.requires.calm c.letters-letters.ensures c.in_ok-what.ensures.asks c.in_ok-what.ensures.spells in
    c.in_ok-act-in-Step.ensures.ok p e (record {
      course = record { stands = course.stands; counted = course.counted };
      few = fewer p s course less;
      named = came.0;
      comes_ = came.1 ∙ ap (comes (replay p) e) c.in-Step.is;
    })

pub returns-in-Answer-clause-ok : goal.returns-in-Answer-clause-ok
returns-in-Answer-clause-ok c = λ p course.
    let s = c.args.self.now in
    let e = c.args.event in
    let less : s.counts.events < most_events_of_run = low p s course (grind (arith, nat_tests, c.if-self-eq-MOST_EVENTS.false)) in
    let came = asked_call_comes_in_replay p e s.places s.watcher c.of_byte-name.result c.place.result c.letters-letters.result.now c.in_ok-what.field-0 course.stands
    c.of_byte-name.ensures c.place.ensures.value c.requires.calm c.letters-letters.ensures c.in_ok-what.ensures.asks c.in_ok-what.ensures.spells in
    let done = course_passed_by_answer p e s.places s.watcher c.pass.new.self c.of_byte-name.result c.letters-letters.result.now c.in_ok-what.field-0 c.in-Answer.outcome
    course.stands (fewer p s course less) c.requires.calm c.in_ok-what.ensures.asks c.in-Answer.is came.1 c.pass.ensures in (
      record {
        stands = done.0;
        counted = subst (Counted (play_after p e)) (sym c.add.ensures) (counts_after_answer p e s.counts c.in-Answer.outcome course.counted done.1);
      },
      done.1,
    )
