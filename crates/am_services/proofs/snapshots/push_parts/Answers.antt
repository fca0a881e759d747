use Rattle.std.proofs.Common.{ℕ, ◌<◌, ◌≤◌, List, ◌++◌, string_bytes, ap, ◌∙◌, subst}
use Rattle.am_services.specs.Texts.{snapshot_line}
use Rattle.am_services.proofs.Parts.{lines_told_with_next_part, lines_told_of_all_parts}
use Rattle.am_services.proofs.snapshots.push_parts.Goals as goal

pub loop-index-preserved : goal.loop-index-preserved
loop-index-preserved c =
    let low = subst (λ (n : ℕ). c.loop-index.index < n) c.part_count-index-end.ensures c.loop-index-test.true in
    let next = c.in_ok-push_part.ensures
    ∙ ap (λ (b : List ℕ). string_bytes c.loop-index.out ++ snapshot_line c.args.name c.args.join b) (c.bytes.ensures.value ∙ c.part_of-part.ensures) in
    lines_told_with_next_part (snapshot_line c.args.name c.args.join) c.args.message.now c.loop-index.index _ _ _ low next c.loop-index.invariant

pub returns : goal.returns
returns c =
    let over = subst (λ (n : ℕ). n ≤ c.loop-index.index) c.part_count-index-end.ensures c.loop-index-test.false in
    lines_told_of_all_parts (snapshot_line c.args.name c.args.join) c.args.message.now c.loop-index.index (string_bytes c.loop-index.out) (string_bytes c.args.out.now) over
    c.loop-index.invariant
