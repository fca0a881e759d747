use Rattle.am_service_laws.proofs.Sends.{delivered_messages_end_in_list}
use Rattle.am_service_laws.proofs.assembled.delivered_messages_end.Goals as goal

pub returns : goal.returns
returns c = delivered_messages_end_in_list
