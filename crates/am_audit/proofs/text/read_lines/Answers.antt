use Rattle.std.proofs.Common.{◌∙◌, sym, subst, arith}
use Rattle.am_audit_defs.specs.Lines.{add_line}
use Rattle.am_audit_defs.proofs.Texts.{read_lines_takes_good_line, read_lines_at_bad_line, read_lines_at_last_line}
use Rattle.am_audit.specs.Views.{reading_told, IsReadingOf}
use Rattle.am_audit.proofs.Refusing.{refused_line_refuses_text}
use Rattle.am_audit.proofs.text.read_lines.Goals as goal

pub loop-line-preserved : goal.loop-line-preserved
loop-line-preserved c = record {
  read = sym (read_lines_takes_good_line c.loop-line.number (reading_told c.loop-line.lines) (reading_told c.add.new.lines) c.loop-line.rest.now c.in-Some.line.now c.in-Some.behind.now
      c.in-Some.ensures.0 c.in_default-add.ensures) ∙ c.loop-line.invariant.read;
  few = omega (arith, c.in-Some.ensures.1);
}

pub returns-in-Err : goal.returns-in-Err
returns-in-Err c = refused_line_refuses_text c.loop-line.number c.in-Err.refusal (reading_told c.add.new.lines) (add_line (reading_told c.loop-line.lines) c.in-Some.line.now) _
    (λ bad. sym c.loop-line.invariant.read ∙ read_lines_at_bad_line c.loop-line.number
    (reading_told c.loop-line.lines) c.loop-line.rest.now c.in-Some.line.now c.in-Some.behind.now c.in-Some.ensures.0 bad)
    c.in-Err.ensures

pub returns : goal.returns
returns c = subst (IsReadingOf c.finish.result)
    (sym (read_lines_at_last_line c.loop-line.number (reading_told c.loop-line.lines) c.loop-line.rest.now c.in_default.ensures) ∙ c.loop-line.invariant.read) c.finish.ensures
