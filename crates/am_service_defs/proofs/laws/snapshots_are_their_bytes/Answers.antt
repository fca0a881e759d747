use Rattle.am_service_defs.proofs.SnapshotLaws.{snapshots_are_their_own_bytes}
use Rattle.am_service_defs.proofs.laws.snapshots_are_their_bytes.Goals as goal

pub returns : goal.returns
returns c = snapshots_are_their_own_bytes
