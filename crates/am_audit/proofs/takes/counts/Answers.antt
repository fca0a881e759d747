use Rattle.std.proofs.Common.{ℕ, ◌<◌, ◌≤◌, length, drop, sym, ap, ◌∙◌, arith, length-drop}
use Rattle.std.proofs.lemmas.List.{get_or-replicate, length-replicate, length-map}
use Rattle.am_audit_defs.specs.Verdicts.{count_of}
use Rattle.am_audit_defs.proofs.Segments.{count_of_name_le_lines}
use Rattle.am_audit.specs.Views.{lines_in}
use Rattle.am_audit.proofs.Passing.{lines_in_past_end}
use Rattle.am_audit.proofs.takes.counts.Goals as goal

pub loop-at-init : goal.loop-at-init
loop-at-init c = record {
  within = omega arith;
  kept = record {
    size = length-replicate {A = ℕ} 256 0;
    counted = λ name low. get_or-replicate 256 name 0 0 low ∙ sym (ap (count_of name) (lines_in_past_end c.args.lines.now (length c.args.lines.now) (omega arith)));
  };
}

pub overflow_add-counts : goal.overflow_add-counts
overflow_add-counts c =
    let left = lines_in (drop c.loop-at.at c.args.lines.now) in
    let named : c.from.result < 256 = omega (arith, c.from.ensures) in
    let few : length left ≤ length c.args.lines.now = simp (length-map, length-drop) (omega arith) in
    omega (arith, c.loop-at.invariant.kept.counted c.from.result named, count_of_name_le_lines c.from.result left)
