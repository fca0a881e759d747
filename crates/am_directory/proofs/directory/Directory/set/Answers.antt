use Rattle.std.proofs.Common.{◌≡◌}
use Rattle.std.proofs.Common.{sym, subst}
use Rattle.am_service_defs.specs.Contents.{Contents, IsDirectory, with_setting}
use Rattle.am_directory.specs.Kept.{contents_in}
use Rattle.am_directory.proofs.Entries.{entry_set_is_with_setting}
use Rattle.am_service_defs.proofs.Keeping.{directory_with_setting}
use Rattle.am_directory.proofs.directory.Directory.set.Goals as goal

pub returns-clause-set : goal.returns-clause-set
returns-clause-set c = entry_set_is_with_setting c.self.inside.map.entries c.insert.new.self.entries c.args.self.now c.in_ok-key.key c.args.key.now c.args.setting
    c.in_ok-insert.ensures.entries c.self.view_is c.in_ok-key.ensures.items

pub invariant_of-self-2 : goal.invariant_of-self-2
invariant_of-self-2 c =
    let new : contents_in c.insert.new.self.entries ≡ with_setting c.args.self.now c.args.key.now c.args.setting =
    entry_set_is_with_setting c.self.inside.map.entries c.insert.new.self.entries c.args.self.now c.in_ok-key.key c.args.key.now c.args.setting
    c.in_ok-insert.ensures.entries c.self.view_is c.in_ok-key.ensures.items in
    let old : IsDirectory c.args.self.now = subst (λ (contents : Contents). IsDirectory contents) c.self.view_is c.self.invariant in
    subst (λ (contents : Contents). IsDirectory contents) (sym new) (directory_with_setting c.args.self.now c.args.key.now c.args.setting old c.requires.key
    c.requires.value c.requires.room)
