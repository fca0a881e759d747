use Rattle.std.proofs.Common.{refl, sym, ◌∙◌}
use Rattle.am_script.proofs.Tokens.{first_token_out_of_range, first_token_in_range, no_token_is_in_range, tokens_left_are_fewer}
use Rattle.am_script.proofs.document.are_in_range.Goals as goal

pub loop-token-init : goal.loop-token-init
loop-token-init c = refl

pub returns-then-not-token_is_in_range : goal.returns-then-not-token_is_in_range
returns-then-not-token_is_in_range c =
    first_token_out_of_range _ _ _ c.in-Some.ensures.value (sym c.token_is_in_range.ensures ∙ c.if-not-token_is_in_range.true) ∙ sym c.loop-token.invariant

pub loop-token-smaller : goal.loop-token-smaller
loop-token-smaller c = tokens_left_are_fewer _ _ _ c.in-Some.ensures.value

pub loop-token-preserved : goal.loop-token-preserved
loop-token-preserved c =
    c.loop-token.invariant ∙ first_token_in_range _ _ _ c.in-Some.ensures.value (sym c.token_is_in_range.ensures ∙ c.if-not-token_is_in_range.false)

pub returns : goal.returns
returns c = no_token_is_in_range _ c.in_default.ensures.value.0 ∙ sym c.loop-token.invariant
