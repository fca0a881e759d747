use Rattle.std.proofs.Common.{◌≡◌, ◌++◌, drop, string_bytes}
use Rattle.std.specs.List.{flat_map}
use Rattle.am_report.specs.Logs.{logs_for}
use Rattle.am_services.specs.Texts.{snapshots_of}
use Rattle.am_services.proofs.snapshots.snapshots_text.Given as goal

abbrev pub invariant-loop-name : goal.invariant-loop-name
invariant-loop-name l = string_bytes l.out ++ flat_map (snapshots_of l.journal.founding) (logs_for l.journal.records (drop l.name-index l.names)) ≡ flat_map (snapshots_of l.journal.founding) (logs_for l.journal.records l.names)
