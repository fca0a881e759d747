use Rattle.std.proofs.Common.{ℕ, ◌<◌, ◌≤◌, List, [], ◌++◌, string_bytes, ap, ◌∙◌, subst, append_assoc}
use Rattle.am_group_defs.specs.Text.{newline, body_text}
use Rattle.am_service_defs.specs.Parts.{part_of}
use Rattle.am_services.specs.Texts.{parts_text}
use Rattle.am_services.proofs.Parts.{lines_told_with_next_part, lines_told_of_all_parts}
use Rattle.am_services.proofs.messages.parts_text.Goals as goal

abbrev line : List ℕ → List ℕ
line part = body_text part ++ newline

pub loop-index-preserved : goal.loop-index-preserved
loop-index-preserved c =
    let message = c.args.message.now in
    let low = subst (λ (n : ℕ). c.loop-index.index < n) c.part_count-index-end.ensures c.loop-index-test.true in
    let bytes = c.bytes.ensures.value ∙ c.part_of-part.ensures in
    let body = c.in_ok-push_body.ensures ∙ ap (λ (b : List ℕ). string_bytes c.loop-index.out ++ body_text b) bytes in
    let next = c.in_ok-push_str.ensures.bytes ∙ ap (λ (t : List ℕ). t ++ newline) body
    ∙ append_assoc (string_bytes c.loop-index.out) (body_text (part_of message c.loop-index.index)) newline in
    lines_told_with_next_part line message c.loop-index.index _ _ _ low next c.loop-index.invariant

pub returns : goal.returns
unfolding parts_text
returns c =
    let over = subst (λ (n : ℕ). n ≤ c.loop-index.index) c.part_count-index-end.ensures c.loop-index-test.false in
    lines_told_of_all_parts line c.args.message.now c.loop-index.index (string_bytes c.loop-index.out) [] over c.loop-index.invariant
