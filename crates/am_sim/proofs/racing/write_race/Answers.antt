use Rattle.std.proofs.Common.{◌∙◌, refl, subst}
use Rattle.am_io.specs.Buffers.{Goes}
use Rattle.am_sim.specs.Racing.{events_of, race_text, IsReadAgain}
use Rattle.am_sim.proofs.racing.write_race.Goals as goal

pub returns-clause-raced : goal.returns-clause-raced
returns-clause-raced g c =
    let founding = c.args.plan.now.founding in
    let found = c.in_ok-events.ensures.raced in
    let events = c.as_slice.ensures ∙ found.2 in (
      race_text founding (events_of found.0),
      (found.0, found.1, refl, subst (IsReadAgain founding) events c.in_ok-write_events.ensures.again),
      subst (λ es. Goes g.K.Sink.contents g.K.Sink.count c.args.out.now (race_text founding es) c.write_events.new.out) events c.in_ok-write_events.ensures.text,
    )
