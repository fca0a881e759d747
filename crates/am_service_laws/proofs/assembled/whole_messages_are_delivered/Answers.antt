use Rattle.am_service_laws.proofs.Sends.{whole_messages_of_list_delivered}
use Rattle.am_service_laws.proofs.assembled.whole_messages_are_delivered.Goals as goal

pub returns : goal.returns
returns c = whole_messages_of_list_delivered
