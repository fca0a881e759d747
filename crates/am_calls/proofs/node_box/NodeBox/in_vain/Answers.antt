use Rattle.std.proofs.Common.{◌≡◌, false, IfSome, IfNone}
use Rattle.am_node.specs.Stands.{state_of}
use Rattle.am_race_laws.specs.Boxes.{IsBox, GivesUp, node_by}
use Rattle.am_race_laws.specs.Turns.{waits_in_vain}
use Rattle.am_race_laws.proofs.Boxing.{open_box_sees_more_records, open_box_was_not_closed}
use Rattle.am_race_laws.proofs.Turning.{found_name_waits_in_vain}
use Rattle.am_calls.proofs.node_box.NodeBox.in_vain.Given.{Over}
use Rattle.am_calls.proofs.node_box.NodeBox.in_vain.Goals as goal

after : (g : Over) (c : goal.After-least_of_both g)
    → IsBox g.N.Racing.wire g.N.Racing.plan c.self.inside.name c.stopped_names-stopped.new.pass (state_of c.self.inside.node) c.self.inside.cursor
    c.self.inside.last c.self.inside.is_stopped c.self.inside.closed
after g c = open_box_sees_more_records _ _ _ _ _ _ _ _ _ _ _ c.self.view_is c.self.invariant c.requires.open_ c.stopped_names-stopped.ensures.sees
    c.stopped_names-stopped.ensures.lawful

found : (g : Over) (c : goal.After-least_of_both g)
    → IfSome c.least_of_both.result (GivesUp g.N.Racing.plan c.stopped_names-stopped.new.pass.seen c.self.inside.name)
    × IfNone c.least_of_both.result (waits_in_vain
    (node_by g.N.Racing.plan c.stopped_names-stopped.new.pass.seen c.self.inside.name) c.stopped_names-stopped.new.pass.seen ≡ false)
found g c = found_name_waits_in_vain _ _ _ _ _ _ _ _ _ (after g c) (open_box_was_not_closed _ _ _ _ c.self.view_is c.requires.open_) _ _ c.waits_for-waited.ensures c.least_of_both.result
    c.stopped_names-stopped.ensures.value c.least_of_both.ensures.places c.least_of_both.ensures.some c.least_of_both.ensures.none

pub invariant_of-self : goal.invariant_of-self
invariant_of-self g c = after g c

pub returns-clause-some : goal.returns-clause-some
returns-clause-some g c = (found g c).0

pub returns-clause-none : goal.returns-clause-none
returns-clause-none g c = (found g c).1
