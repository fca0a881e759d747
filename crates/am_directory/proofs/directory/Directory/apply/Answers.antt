use Rattle.std.proofs.Common.{sym}
use Rattle.am_directory.specs.Reading.{command_from}
use Rattle.am_service_defs.proofs.Limits.{command_read_is_command}
use Rattle.am_directory.proofs.directory.Directory.apply.Goals as goal

pub apply_command-requires : goal.apply_command-requires
apply_command-requires c = command_read_is_command c.args.body.now (command_from c.in-Some.command) (sym c.in-Some.ensures)
