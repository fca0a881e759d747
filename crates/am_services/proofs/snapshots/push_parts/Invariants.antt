use Rattle.std.proofs.Common.{◌≡◌, ◌++◌, string_bytes}
use Rattle.std.specs.List.{flat_map}
use Rattle.am_services.specs.Texts.{snapshot_line}
use Rattle.am_services.proofs.Parts.{parts_of_message_left}
use Rattle.am_services.proofs.snapshots.push_parts.Given as goal

abbrev pub invariant-loop-index : goal.invariant-loop-index
invariant-loop-index l = string_bytes l.out ++ flat_map (snapshot_line l.name l.join) (parts_of_message_left l.message l.index)
    ≡ string_bytes l.fn.out ++ flat_map (snapshot_line l.name l.join) (parts_of_message_left l.message 0)
