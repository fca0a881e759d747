use Rattle.am_world.proofs.Words.{◌≡◌, length, sym, ap, ◌∙◌, arith}
use Rattle.am_world.proofs.Goes.{events_as_many_as_records, play_events_le_most}
use Rattle.am_world.proofs.run.Run.events.Goals as goal

pub returns-clause-value : goal.returns-clause-value
returns-clause-value c =
    let w = c.self.inside in
    ap length c.records.ensures.value ∙ sym (events_as_many_as_records c.args.self.now w.journal.founding w.journal.records c.self.view_is)

pub returns-clause-few : goal.returns-clause-few
returns-clause-few c =
    let w = c.self.inside in
    let is : length c.records.result.now ≡ length c.args.self.now.events = ap length c.records.ensures.value
    ∙ sym (events_as_many_as_records c.args.self.now w.journal.founding w.journal.records c.self.view_is) in
    let few = play_events_le_most c.args.self.now w.journal.founding w.nodes.items w.lives w.stopped w.journal.records w.group.items c.self.view_is c.self.invariant in
    omega arith
