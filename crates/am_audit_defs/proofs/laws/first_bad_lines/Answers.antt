use Rattle.am_audit_defs.proofs.Beginnings.{bad_line_stays_bad}
use Rattle.am_audit_defs.proofs.Openings.{good_lines_begin_text}
use Rattle.am_audit_defs.proofs.laws.first_bad_lines.Goals as goal

pub returns-clause-stay : goal.returns-clause-stay
returns-clause-stay c = bad_line_stays_bad

pub returns-clause-begin : goal.returns-clause-begin
returns-clause-begin c = good_lines_begin_text
