use Rattle.std.proofs.Common.{◌≡◌, ◌+◌, ◌<◌, length}
use Rattle.am_text_defs.specs.Fields.{split_text}
use Rattle.am_audit_defs.specs.Lines.{nothing_read, read_lines}
use Rattle.am_audit.specs.Views.{reading_told}
use Rattle.am_audit.proofs.text.read_lines.Given as goal

-- what is read of the rest is what is read of all
abbrev pub invariant-loop-line : goal.invariant-loop-line
invariant-loop-line l = record {
  read : read_lines l.number (reading_told l.lines) (split_text 10 l.rest) ≡ read_lines l.fn.first nothing_read (split_text 10 l.fn.text);
  few : l.number + length l.rest < 4294967296;
}

abbrev pub decreases-loop-line : goal.decreases-loop-line
decreases-loop-line l = length l.rest
