use Rattle.std.proofs.Common.{◌∙◌, sym}
use Rattle.am_audit_defs.proofs.Segments.{logs_faultless_if_lists_right, logs_listed_if_lists_right}
use Rattle.am_audit.specs.Views.{reading_told}
use Rattle.am_audit.proofs.audit.verdict_of.Goals as goal

pub wrong_events-requires-clause-faultless : goal.wrong_events-requires-clause-faultless
wrong_events-requires-clause-faultless c = logs_faultless_if_lists_right (reading_told c.args.lines.now) (sym c.in_ok-wrong.ensures ∙ c.in-None.is)

pub wrong_events-requires-clause-listed : goal.wrong_events-requires-clause-listed
wrong_events-requires-clause-listed c = logs_listed_if_lists_right (reading_told c.args.lines.now) (sym c.in_ok-wrong.ensures ∙ c.in-None.is)
