use Rattle.std.proofs.Common.{◌≡◌, ℕ, List, Option, Some, sym, ap}
use Rattle.std.proofs.Common.{◌∙◌}
use Rattle.am_service_defs.specs.Assembling.{after_entry}
use Rattle.am_directory.specs.declared.backlog.HeldCommand.{HeldCommand}
use Rattle.am_service_defs.specs.Contents.{Contents, contents_with}
use Rattle.am_service_defs.specs.Replicas.{apply_held, held_with, with_held, snapshot_for}
use Rattle.am_directory.specs.Holding.{held_in}
use Rattle.am_service_defs.proofs.ReplicaLaws.{held_entry_is_applied}
use Rattle.am_directory.proofs.backlog.Backlog.restored.Goals as goal

pub returns : goal.returns
returns c =
    let held : List (ℕ × List ℕ) = held_in c.args.self.now.held.items in
    let found : Some c.in-Some.directory ≡ snapshot_for c.args.start (after_entry c.args.self.now.assembler c.args.entry.now).ended = sym c.in-Some.is
    ∙ c.in_ok-directory.ensures in
    let before : c.apply_held.new.directory ≡ apply_held c.in-Some.directory held = c.in_ok-apply_held.ensures
    ∙ ap (λ (h : List HeldCommand). apply_held c.in-Some.directory (held_in h)) c.as_slice.ensures.value in
    ap (λ (d : Contents). Some d) (c.in_ok-apply_entry.ensures.applied ∙ ap (λ (d : Contents). contents_with d (c.args.number, c.args.entry.now)) before
    ∙ held_entry_is_applied c.in-Some.directory held c.args.number c.args.entry.now)
    ∙ ap (λ (o : Option Contents). with_held (held_with held c.args.number c.args.entry.now) o) found
