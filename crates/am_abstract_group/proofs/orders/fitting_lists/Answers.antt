use Rattle.am_abstract_group.proofs.Turns.{requests_stand_in_turn, no_send_stands_twice}
use Rattle.am_abstract_group.proofs.orders.fitting_lists.Goals as goal

pub returns-clause-turn : goal.returns-clause-turn
returns-clause-turn c = requests_stand_in_turn

pub returns-clause-once : goal.returns-clause-once
returns-clause-once c = no_send_stands_twice
