use Rattle.am_sim.proofs.Answered.{race_text_is_raced}
use Rattle.am_sim.proofs.simulate.race_answer.Goals as goal

pub returns-clause-raced : goal.returns-clause-raced
returns-clause-raced g c =
    let text = c.in_ok-write_race.ensures.raced in
    (text.0, race_text_is_raced c.args.bytes.now text.0 c.in_ok-plan.plan c.in_ok-plan.ensures.answers c.in_ok-plan.ensures.within text.1, text.2)
