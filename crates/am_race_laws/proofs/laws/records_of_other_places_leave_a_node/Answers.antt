use Rattle.am_race_laws.proofs.Others.{others_nodes_stay_through_event}
use Rattle.am_race_laws.proofs.laws.records_of_other_places_leave_a_node.Goals as goal

pub returns : goal.returns
returns c = others_nodes_stay_through_event
