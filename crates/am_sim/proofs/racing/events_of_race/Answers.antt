use Rattle.std.proofs.Common.{◌∙◌, ap, length, arith}
use Rattle.std.proofs.lemmas.List.{length-map}
use Rattle.am_group.specs.declared.event.Record.{Record}
use Rattle.am_sim.specs.Racing.{events_of}
use Rattle.am_sim.proofs.Raced.{race_within_may_race}
use Rattle.am_sim.proofs.racing.events_of_race.Goals as goal

pub race-requires-clause-within : goal.race-requires-clause-within
race-requires-clause-within g c = λ _ _. race_within_may_race c.args.plan.now c.requires

pub returns-clause-raced : goal.returns-clause-raced
returns-clause-raced g c = (
  c.in_ok-journal.journal.records,
  record { legal = c.in_ok-journal.ensures.legal; played = c.in_ok-journal.ensures.played; few = rw c.records.ensures.value at c.records.ensures.short },
  c.in_ok-events.ensures ∙ ap events_of c.records.ensures.value,
)

pub returns-clause-few : goal.returns-clause-few
returns-clause-few g c = omega (arith, ap length c.in_ok-events.ensures, length-map c.records.result.now (λ (r : Record). r.event), c.records.ensures.short)
