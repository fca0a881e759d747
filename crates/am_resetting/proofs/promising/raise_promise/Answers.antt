use Rattle.am_resetting.proofs.DecidingWords.{◌≡◌, ◌<◌, false, sym, ap, ◌∙◌, subst, Option, Stamp, stamps_are_equal, CoreState, Ballot, overtake_lower_ballot, NodeKeeps, node_of}
use Rattle.am_resetting.proofs.Promises.{same_promise_same_node, node_keeps_by_promise}
use Rattle.am_resetting.proofs.promising.raise_promise.Goals as goal

pub returns-then-is_same : goal.returns-then-is_same
returns-then-is_same c =
    same_promise_same_node (node_of c.args.parts.now) c.args.stamp c.args.parts.now.keeps (ap (stamps_are_equal c.args.stamp) (sym c.promise.ensures.value)
    ∙ sym c.is_same.ensures.value ∙ c.if-is_same.true)

pub invariant_of-parts : goal.invariant_of-parts
invariant_of-parts c =
    let old = node_of c.args.parts.now in
    let small = c.is_same.ensures.small in
    let apart : stamps_are_equal c.args.stamp old.core.promise ≡ false = ap (stamps_are_equal c.args.stamp) (sym c.promise.ensures.value) ∙ sym c.is_same.ensures.value
    ∙ c.if-is_same.false in
    let little : old.core.promise.by < 256 = subst (λ (s : Stamp). s.by < 256) c.promise.ensures.value small.1 in
    let keeps = node_keeps_by_promise old c.args.stamp c.args.parts.now.keeps small.0 little c.requires.higher apart in
    record {
      keeps = subst (λ (b : Option Ballot). NodeKeeps (record old { core = c.raise.new.core; ballot = b })) (sym c.overtake.ensures)
          (subst (λ (x : CoreState). NodeKeeps (record old { core = x; ballot = overtake_lower_ballot c.args.stamp old.ballot })) (sym c.raise.ensures) keeps);
    }
