use Rattle.am_world.proofs.Goes.{play_shows_its_replay}
use Rattle.am_world.proofs.run.Run.journal.Goals as goal

pub returns-clause-letters : goal.returns-clause-letters
returns-clause-letters c =
    let w = c.self.inside in
    (play_shows_its_replay c.args.self.now w.journal.founding w.nodes.items w.lives w.stopped w.journal.records w.group.items c.self.view_is c.self.invariant).sent
