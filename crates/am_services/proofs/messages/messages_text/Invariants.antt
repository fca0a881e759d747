use Rattle.std.proofs.Common.{◌≡◌, ◌++◌, drop, string_bytes}
use Rattle.std.specs.List.{flat_map}
use Rattle.am_report.specs.Logs.{logs_for}
use Rattle.am_services.specs.Texts.{messages_of}
use Rattle.am_services.proofs.messages.messages_text.Given as goal

abbrev pub invariant-loop-name : goal.invariant-loop-name
invariant-loop-name l = string_bytes l.out ++ flat_map messages_of (logs_for l.records (drop l.name-index l.names)) ≡ flat_map messages_of (logs_for l.records l.names)
