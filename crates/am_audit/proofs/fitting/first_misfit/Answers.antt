use Rattle.std.proofs.Common.{◌∙◌, sym, subst}
use Rattle.am_base.specs.Limits.{EntryIsInRange}
use Rattle.am_audit_defs.proofs.Bounds.{outline_read_is_entry}
use Rattle.am_audit.proofs.fitting.first_misfit.Goals as goal

pub apply-requires-clause-entry : goal.apply-requires-clause-entry
apply-requires-clause-entry c = subst EntryIsInRange (sym (c.as_ref-standing.ensures ∙ c.bare_entry-entry.ensures)) (outline_read_is_entry _ c.in-Ok.outline (sym c.outline.ensures ∙ c.in-Ok.is))
