use Rattle.std.specs.Option.{option_copied}
use Rattle.am_directory.proofs.Loops.{SettingsAreRestoredUpTo}
use Rattle.am_directory.proofs.directory.Directory.restore_keys.Given as goal

abbrev pub invariant-loop : goal.invariant-loop
invariant-loop l = SettingsAreRestoredUpTo l.count l.bytes l.counter (option_copied l.last) l.rest l.directory
