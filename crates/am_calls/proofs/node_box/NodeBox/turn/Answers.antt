use Rattle.am_race_laws.proofs.Boxing.{box_sees_more_records}
use Rattle.am_race_laws.proofs.Finding.{box_turn_is_turn}
use Rattle.am_calls.proofs.node_box.NodeBox.turn.Goals as goal

pub invariant_of-self : goal.invariant_of-self
invariant_of-self g c = box_sees_more_records _ _ _ _ _ _ _ _ _ _ c.self.invariant c.meet.ensures.pass c.meet.ensures.lawful c.meet.ensures.few

pub returns-clause-turn : goal.returns-clause-turn
returns-clause-turn g c =
    box_turn_is_turn _ _ _ _ _ _ _ _ _ _ c.args.self.now _ c.args.share.now _ c.args.chooser.now _ _ _ _ c.self.view_is c.self.invariant c.find-turn.ensures.looks
    c.meet.ensures.pass c.meet.ensures.lawful c.requires.share c.requires.met c.meet.ensures.share c.meet.ensures.both c.requires.luck c.requires.unready
    c.find-turn.ensures.found
