use Rattle.am_service_laws.proofs.Sends.{sent_messages_end_in_list}
use Rattle.am_service_laws.proofs.assembled.sent_messages_end.Goals as goal

pub returns : goal.returns
returns c = sent_messages_end_in_list
