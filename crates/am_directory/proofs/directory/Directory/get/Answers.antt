use Rattle.am_directory.proofs.Entries.{entry_found_is_setting_of}
use Rattle.std.specs.Option.{option_copied}
use Rattle.am_directory.proofs.directory.Directory.get.Goals as goal

pub returns : goal.returns
returns c = entry_found_is_setting_of c.self.inside.map.entries c.args.self.now c.args.key.now (option_copied c.get.result) c.get.ensures.value c.self.view_is
