use Rattle.am_resetting.proofs.VotingWords.{ℕ, subst, node_of, reset_row, Replies}
use Rattle.am_resetting.proofs.voting.on_hand_over.Goals as goal

pub returns : goal.returns
returns c =
    let old = node_of c.args.parts.now in
    let P : ℕ → Type 0 = λ r. Replies (reset_row old 1 r) c.on_reset.result (node_of c.on_reset.new.parts) in
    subst P c.resilience-resilience.ensures.value c.on_reset.ensures
