use Rattle.std.proofs.Common.{◌≡◌, ℕ, List, true, false, Some, sym, ap, ◌∙◌, arith}
use Rattle.std.proofs.lemmas.Bool.{both_ways}
use Rattle.am_base.specs.Names.{lives_are_within_mask}
use Rattle.am_base.proofs.Masks.{mask_and_lives_are_masked, places_of_mask_and_lives, lives-places_of, mask-places_of}
use Rattle.am_base.proofs.names.Names.of_parts.Goals as goal

pub returns-then-not-are_parts-clause-only : goal.returns-then-not-are_parts-clause-only
returns-then-not-are_parts-clause-only c set is mask lives =
    let none : lives_are_within_mask 16 c.args.mask c.args.lives ≡ false = sym c.are_parts.ensures ∙ c.if-not-are_parts.true in
    absurd (both_ways _ none (rw (mask, lives) (mask_and_lives_are_masked set is)))

pub returns-clause-only : goal.returns-clause-only
returns-clause-only c set is mask lives =
    let same : c.lives_in.result ≡ set = rw (c.lives_in.ensures, mask, lives) (places_of_mask_and_lives set is) in
    ap (λ (s : List ℕ). Some s) same

pub returns-clause-parts : goal.returns-clause-parts
returns-clause-parts c =
    let parts : lives_are_within_mask 16 c.args.mask c.args.lives ≡ true = sym c.are_parts.ensures ∙ c.if-not-are_parts.false in (
      rw c.lives_in.ensures (mask-places_of 16 c.args.mask c.args.lives (omega arith)),
      rw c.lives_in.ensures (lives-places_of 16 c.args.mask c.args.lives (omega arith) parts),
    )
