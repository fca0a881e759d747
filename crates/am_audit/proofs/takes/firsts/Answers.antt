use Rattle.std.proofs.Common.{ℕ, length, sym, ap, ◌∙◌, arith}
use Rattle.std.proofs.lemmas.List.{get_or-replicate, length-replicate}
use Rattle.am_audit.specs.Keeping.{first_number}
use Rattle.am_audit.proofs.Passing.{lines_in_past_end}
use Rattle.am_audit.proofs.takes.firsts.Goals as goal

pub loop-at-init : goal.loop-at-init
loop-at-init c = record {
  within = omega arith;
  size = length-replicate {A = ℕ} 256 0;
  kept = λ name low. get_or-replicate 256 name 0 0 low ∙ sym (ap (first_number name) (lines_in_past_end c.args.lines.now (length c.args.lines.now) (omega arith)));
}
