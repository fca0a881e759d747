use Rattle.am_world.proofs.Words.{[], true, slice_set, refl, ap, ◌∙◌, name_of_place_and_life, stranger_node, IsRun, play_of, replay, EventIsAnswered}
use Rattle.am_base.specs.declared.outcome.Outcome.TheVariants as said
use Rattle.am_world.proofs.{Goes.event_is_recorded_in_play, Goes.lives_of_replay_are_kept, Returns.return_carries_play_on, run.Run.come_back.Goals.After-push}
use Rattle.am_world.proofs.run.Run.come_back.Goals as goal

made : (c : After-push) → IsRun (play_of c.push.new.self.founding c.push.new.self.records)
    (slice_set c.self.inside.nodes.items c.from.result c.stranger_in-fresh.result) (slice_set c.self.inside.lives c.from-2.result c.args.life)
    (slice_set c.self.inside.stopped c.from-3.result true) c.push.new.self.records c.self.inside.group.items
    × EventIsAnswered c.args.self.now c.args.event.now (said.Returned c.args.life)
made c =
    let w = c.self.inside in
    let p = c.args.self.now in
    let living = lives_of_replay_are_kept p w.journal.founding w.nodes.items w.lives w.stopped w.journal.records w.group.items c.self.view_is c.self.invariant in
    let named = rw c.unwrap.ensures at c.of.ensures.value in
    let place = c.place-place.ensures.value in
    return_carries_play_on p w.journal.founding c.push.new.self.founding w.nodes.items w.lives w.stopped w.journal.records c.push.new.self.records w.group.items
    c.args.event.now c.args.name c.from.result c.from-2.result c.unwrap.result c.from-3.result c.args.life c.stranger_in-fresh.result
    c.self.view_is c.self.invariant c.requires.few c.requires.named (c.from.ensures ∙ place) (c.from-2.ensures ∙ place) (c.from-3.ensures
    ∙ c.get.ensures.value) c.requires.next.0 c.requires.next.1
    (named ∙ ap (λ k. name_of_place_and_life k c.args.life) place) (c.stranger_in-fresh.ensures
    ∙ ap (λ r. stranger_node r c.unwrap.result) c.in_ok-record.ensures.node)
    (event_is_recorded_in_play (replay p) c.args.event.now (said.Returned c.args.life) [] living c.requires.named refl c.in_ok-record.ensures.record_
    (c.push.ensures.founding ∙ c.new_life.ensures.founding) c.new_life.ensures.records c.push.ensures.records)
    c.requires.comes_

pub invariant_of-self-2 : goal.invariant_of-self-2
invariant_of-self-2 c = (made c).0

pub returns-clause-one : goal.returns-clause-one
returns-clause-one c = (said.Returned c.args.life, (made c).1)
