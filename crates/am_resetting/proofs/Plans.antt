-- The same plan, the same node.
use Rattle.std.proofs.Common.{◌≡◌, Bool, true, false, if◌then◌else◌, Option, None, refl, sym, ap, subst, ◌∙◌}
use Rattle.am_base.specs.declared.name.Stamp.{Stamp}
use Rattle.am_model.specs.Node.{Node, Ballot}
use Rattle.am_model.specs.Emit.{Plan}
use Rattle.am_model.specs.Ballots.{node_with_promise}
unfoldable use Rattle.am_model.specs.Ballots.{decide, best_vote_for_ballot}
use Rattle.am_model.specs.Ends.{IsEndOf}
use Rattle.am_node_parts.proofs.Ends.{untrimmed_node_ends_itself}

-- a node of the same list
pub untrimmed_node_has_equal_end : (m n : Node) → m.core.base ≡ m.core.log.start → n ≡ m → IsEndOf m n
untrimmed_node_has_equal_end m n e is = subst (λ (x : Node). IsEndOf m x) (sym is) (untrimmed_node_ends_itself m e)

pub end_of_node_with_promise : (m n : Node) (v : Stamp) → m.core.base ≡ m.core.log.start → n ≡ node_with_promise m v → IsEndOf (node_with_promise m v) n
end_of_node_with_promise m n v e is = untrimmed_node_has_equal_end (node_with_promise m v) n e is

-- a ballot that is put back
pub ballot_put_back_restores_node : (m n k : Node) (o : Option Ballot) → m.ballot ≡ o → n ≡ record m { ballot = None } → k ≡ record n { ballot = o } → k ≡ m
ballot_put_back_restores_node m n k o there out is = is ∙ ap (λ (x : Node). record x { ballot = o }) out ∙ ap (λ (x : Option Ballot). record m { ballot = x }) (sym there)

pub branch_of_plan_if_true : (b : Bool) (p q : Plan) → b ≡ true → (if b then p else q) ≡ p
branch_of_plan_if_true true p q e = refl
branch_of_plan_if_true false p q e = absurd (cc)

pub branch_of_plan_if_false : (b : Bool) (p q : Plan) → b ≡ false → (if b then p else q) ≡ q
branch_of_plan_if_false true p q e = absurd (cc)
branch_of_plan_if_false false p q e = refl

-- the ballot of the node itself isn't looked at
pub decide_without_own_ballot : (m : Node) (o : Option Ballot) (b : Ballot) → decide (record m { ballot = o }) b ≡ decide m b
unfolding decide best_vote_for_ballot
decide_without_own_ballot m o b = refl
