use Rattle.am_repair_takes.proofs.Numbering.{members_hand_in, next_sends_are_numbered, own_sends_are_numbered}
use Rattle.am_repair_takes.proofs.waiting_sends_are_numbered.Goals as goal

pub returns-clause-hand_in : goal.returns-clause-hand_in
returns-clause-hand_in c = members_hand_in

pub returns-clause-next : goal.returns-clause-next
returns-clause-next c = next_sends_are_numbered

pub returns-clause-own : goal.returns-clause-own
returns-clause-own c = own_sends_are_numbered
