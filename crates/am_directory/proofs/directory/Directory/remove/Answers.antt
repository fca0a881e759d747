use Rattle.std.proofs.Common.{◌≡◌}
use Rattle.std.proofs.Common.{sym, ap, ◌∙◌, subst}
use Rattle.am_service_defs.specs.Contents.{Contents, IsDirectory, without_key}
use Rattle.am_directory.specs.Kept.{contents_in}
use Rattle.am_directory.proofs.Entries.{entry_found_is_setting_of, entry_removed_is_without_key}
use Rattle.am_service_defs.proofs.Keeping.{directory_without_key}
use Rattle.std.specs.Option.{is_some}
use Rattle.am_directory.proofs.directory.Directory.remove.Goals as goal

pub returns-clause-removed : goal.returns-clause-removed
returns-clause-removed c = entry_removed_is_without_key c.self.inside.map.entries c.remove.new.self.entries c.args.self.now c.args.key.now c.remove.ensures.entries
    c.self.view_is

pub returns-clause-was : goal.returns-clause-was
returns-clause-was c = c.is_some.ensures ∙ ap (λ o. is_some o) (entry_found_is_setting_of c.self.inside.map.entries c.args.self.now c.args.key.now c.remove.result
    c.remove.ensures.value c.self.view_is)

pub invariant_of-self : goal.invariant_of-self
invariant_of-self c =
    let new : contents_in c.remove.new.self.entries ≡ without_key c.args.self.now c.args.key.now =
    entry_removed_is_without_key c.self.inside.map.entries c.remove.new.self.entries c.args.self.now c.args.key.now c.remove.ensures.entries c.self.view_is in
    let old : IsDirectory c.args.self.now = subst (λ (contents : Contents). IsDirectory contents) c.self.view_is c.self.invariant in
    subst (λ (contents : Contents). IsDirectory contents) (sym new) (directory_without_key c.args.self.now c.args.key.now old)
