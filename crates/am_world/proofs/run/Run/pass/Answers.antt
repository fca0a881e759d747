use Rattle.am_world.proofs.Words.{[], ◌∙◌, IsRun, play_of, replay, EventIsAnswered}
use Rattle.am_world.proofs.{Goes.event_is_recorded_in_play, Goes.lives_of_replay_are_kept, Goes.answer_carries_play_on, run.Run.pass.Goals.After-push}
use Rattle.am_world.proofs.run.Run.pass.Goals as goal

made : (c : After-push) → IsRun (play_of c.push.new.self.founding c.push.new.self.records) c.self.inside.nodes.items c.self.inside.lives c.self.inside.stopped
    c.push.new.self.records c.self.inside.group.items × EventIsAnswered c.args.self.now c.args.event.now c.args.outcome
made c =
    let w = c.self.inside in
    let p = c.args.self.now in
    let living = lives_of_replay_are_kept p w.journal.founding w.nodes.items w.lives w.stopped w.journal.records w.group.items c.self.view_is c.self.invariant in
    answer_carries_play_on p w.journal.founding c.push.new.self.founding w.nodes.items w.lives w.stopped w.journal.records c.push.new.self.records w.group.items
    c.args.event.now c.args.outcome c.self.view_is c.self.invariant c.requires.few
    (event_is_recorded_in_play (replay p) c.args.event.now c.args.outcome [] living c.requires.name c.life.ensures.value c.in_ok-record.ensures.value
    (c.push.ensures.founding ∙ c.record_for.ensures.founding) c.record_for.ensures.records c.push.ensures.records)
    c.requires.comes

pub invariant_of-self-2 : goal.invariant_of-self-2
invariant_of-self-2 c = (made c).0

pub returns-clause-one : goal.returns-clause-one
returns-clause-one c = (c.args.outcome, (made c).1)
