use Rattle.am_service_laws.proofs.Sent.{sent_snapshots_restore}
use Rattle.am_service_laws.proofs.sent_snapshots_restore.Goals as goal

pub returns : goal.returns
returns c = sent_snapshots_restore
