use Rattle.std.proofs.Common.{rules}
use Rattle.am_race_laws.specs.Boxes.{node_by}
use Rattle.am_race_laws.proofs.Boxing.{box_sees_more_records}
use Rattle.am_calls.proofs.node_box.NodeBox.info.Goals as goal

pub invariant_of-self : goal.invariant_of-self
invariant_of-self g c = box_sees_more_records _ _ _ _ _ _ _ _ _ _ c.self.invariant c.meet.ensures.pass c.meet.ensures.lawful c.meet.ensures.few

pub invariant_of-self-2 : goal.invariant_of-self-2
invariant_of-self-2 g c = box_sees_more_records _ _ _ _ _ _ _ _ _ _ c.self.invariant c.meet.ensures.pass c.meet.ensures.lawful c.meet.ensures.few

pub returns-clause-ok : goal.returns-clause-ok
returns-clause-ok g c =
    let after = box_sees_more_records _ _ _ _ _ _ _ _ _ _ c.self.invariant c.meet.ensures.pass c.meet.ensures.lawful c.meet.ensures.few in
    c.info.ensures.tells (node_by g.N.Racing.plan c.meet.new.pass.seen c.self.inside.name) (after.node (search rules)).end
