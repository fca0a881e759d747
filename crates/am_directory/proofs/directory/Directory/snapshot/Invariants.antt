use Rattle.am_directory.specs.Kept.{contents_in}
use Rattle.am_service_defs.specs.Snapshots.{snapshot_of}
use Rattle.am_directory.proofs.Loops.{SnapshotIsWrittenUpTo}
use Rattle.am_directory.proofs.directory.Directory.snapshot.Given as goal

abbrev pub invariant-loop-key : goal.invariant-loop-key
invariant-loop-key l = SnapshotIsWrittenUpTo l.bytes.items (contents_in l.key-iterator) (snapshot_of l.self l.join)
