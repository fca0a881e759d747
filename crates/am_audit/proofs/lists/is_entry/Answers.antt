use Rattle.std.proofs.Common.{◌∙◌}
use Rattle.am_audit.proofs.Entries.{entry_text_at_number}
use Rattle.am_audit.proofs.lists.is_entry.Goals as goal

pub returns : goal.returns
returns c = c.eq.ensures ∙ entry_text_at_number c.args.group.now c.args.number c.args.text.now _ c.if-number-eq0.false c.if-group-at.false
