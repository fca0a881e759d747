use Rattle.std.proofs.Common.{◌≡◌, ◌++◌, length, decimal, string_bytes}
use Rattle.std.specs.List.{flat_map}
use Rattle.am_directory.specs.Kept.{contents_in}
use Rattle.am_services.specs.Texts.{directory_line, setting_line}
use Rattle.am_services.proofs.directories.push_replica.Given as goal

abbrev pub invariant-loop-key : goal.invariant-loop-key
invariant-loop-key l = string_bytes l.out ++ flat_map (setting_line l.name) (contents_in l.key-iterator)
    ≡ string_bytes l.fn.out ++ (directory_line l.name l.front (decimal (length l.replica.contents)) ++ flat_map (setting_line l.name) l.replica.contents)
