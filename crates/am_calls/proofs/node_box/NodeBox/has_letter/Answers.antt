use Rattle.am_race_laws.proofs.Boxing.{open_box_sees_more_records}
use Rattle.am_calls.proofs.node_box.NodeBox.has_letter.Goals as goal

pub invariant_of-self : goal.invariant_of-self
invariant_of-self g c = open_box_sees_more_records _ _ _ _ _ _ _ _ _ _ _ c.self.view_is c.self.invariant c.requires.open_ c.next_for-ahead.ensures.sees
    c.next_for-ahead.ensures.lawful
