use Rattle.std.proofs.Common.{◌≡◌, ◌++◌, ◌∙◌, arith, subst, string_bytes}
use Rattle.std.proofs.lemmas.Grind.{common_steps}
use Rattle.std.proofs.lemmas.Result.{on_ok_weaker}
use Rattle.am_group_defs.specs.Text.{body_text}
use Rattle.am_text_output.proofs.Holding.{text_written_in_calls, text_held_after_writes}
use Rattle.am_text_output.proofs.text.push_body.Goals as goal

pub returns : goal.returns
returns c =
    let named = (text_written_in_calls _ _ _ c.push_body.ensures).named ∙ c.new-held.ensures.named in
    on_ok_weaker c.finish.result (λ sound. subst (λ t. t ≡ string_bytes c.args.out.now ++ body_text c.args.bytes.now)
    (grind (arith, common_steps, named)) (text_held_after_writes _ _ _ _ c.new-held.ensures.text c.push_body.ensures sound)) c.finish.ensures
