-- What stands in bytes, as the definitions have it.
use Rattle.am_directory.specs.declared.command.Command as declared
use Rattle.am_directory.specs.declared.command.Command.TheVariants as commands
use Rattle.am_directory.specs.declared.field.Cut as cuts
use Rattle.am_directory.specs.declared.field.Numbered as numbers
use Rattle.am_directory.specs.declared.restoring.SettingRef as settings
use Rattle.am_directory.specs.declared.restoring.HeadRef as heads
use Rattle.am_service_defs.specs.Lengths.{Cut, Numbered}
use Rattle.am_service_defs.specs.Commands.{Command, Put, Delete, Claim}
use Rattle.am_service_defs.specs.Snapshots.{ReadKey, SnapshotHead}

-- the command over slices that a call takes or gives
abbrev pub command_from : declared.Command → Command
command_from (commands.Put key value) = Put key.now value.now
command_from (commands.Delete key) = Delete key.now
command_from (commands.Claim key value) = Claim key.now value.now

abbrev pub cut_read : cuts.Cut → Cut
cut_read cut = record { field = cut.field.now; rest = cut.rest.now }

abbrev pub number_read : numbers.Numbered → Numbered
number_read number = record { number = number.number; rest = number.rest.now }

abbrev pub setting_read : settings.SettingRef → ReadKey
setting_read read = record { key = read.key.now; setting = read.setting; rest = read.rest.now }

abbrev pub head_read : heads.HeadRef → SnapshotHead
head_read head = record { join = head.join; count = head.count; rest = head.rest.now }
