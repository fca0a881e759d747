use Rattle.am_abstract_group.proofs.Turns.{sends_of_sender_in_order, each_send_stands_once}
use Rattle.am_abstract_group.proofs.orders.fitting_groups.Goals as goal

pub returns-clause-turn : goal.returns-clause-turn
returns-clause-turn c = sends_of_sender_in_order

pub returns-clause-once : goal.returns-clause-once
returns-clause-once c = each_send_stands_once
