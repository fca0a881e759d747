use Rattle.am_race_laws.proofs.Apart.{records_of_others_are_apart}
use Rattle.am_race_laws.proofs.laws.records_of_others_leave_a_call.Goals as goal

pub returns : goal.returns
returns c = records_of_others_are_apart
