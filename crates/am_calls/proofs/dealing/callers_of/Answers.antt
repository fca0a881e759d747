use Rattle.std.proofs.Common.{ℕ, [], ◌∷◌, length, length-append, sym, ap, ◌∙◌, arith}
use Rattle.std.proofs.lemmas.Iterator.Adapters.{YieldsList-from_vec}
use Rattle.std.proofs.lemmas.Iterator.Consumers.{YieldsList-turn, YieldsList-end}
use Rattle.am_shared_journal_defs.specs.declared.terms.SharerKey.TheVariants.{Caller}
use Rattle.am_shared_journal_defs.specs.Passes.{fresh}
use Rattle.am_race_laws.specs.Lawful.{terms_of}
use Rattle.am_race_laws.specs.Ran.{fresh_caller, fresh_callers}
use Rattle.am_race_laws.proofs.Fresh.{share_of_caller_is_fresh, length_of_fresh_shares, length_of_fresh_callers, fresh_callers_with_one_more}
use Rattle.am_calls.proofs.dealing.callers_of.Goals as goal

pub overflow_cast-number : goal.overflow_cast-number
overflow_cast-number g c =
    let into = c.into_iter-share-iterator.ensures.into_iter_gives in
    let turn = YieldsList-turn (YieldsList-from_vec c.args.shares.items into.0 (into.1 ∙ c.args.shares.ok.0)) c.loop-share.yielded c.loop-share.share-iterator
    c.loop-share.yielded_by c.next.result c.next.new.self c.in-Some.share c.in-Some.is c.next.ensures.steps in
    let at = share_of_caller_is_fresh g.N.Racing.wire (terms_of g.N.Racing.plan) (length g.N.Racing.plan.threads)
    (length c.loop-share.yielded) c.args.shares.items c.in-Some.share c.requires.shares turn.0 turn.1 in
    omega (arith, at.0, c.requires.few, c.len-number.ensures, c.loop-share.callers.ok.0, length_of_fresh_callers _ _ c.loop-share.invariant)

pub new-requires-clause-share : goal.new-requires-clause-share
new-requires-clause-share g c =
    let into = c.into_iter-share-iterator.ensures.into_iter_gives in
    let turn = YieldsList-turn (YieldsList-from_vec c.args.shares.items into.0 (into.1 ∙ c.args.shares.ok.0)) c.loop-share.yielded c.loop-share.share-iterator
    c.loop-share.yielded_by c.next.result c.next.new.self c.in-Some.share c.in-Some.is c.next.ensures.steps in
    let at = share_of_caller_is_fresh g.N.Racing.wire (terms_of g.N.Racing.plan) (length g.N.Racing.plan.threads)
    (length c.loop-share.yielded) c.args.shares.items c.in-Some.share c.requires.shares turn.0 turn.1 in
    at.1 ∙ ap (λ (n : ℕ). fresh g.N.Racing.wire (terms_of g.N.Racing.plan) (Caller n))
    (sym (c.len-number.ensures ∙ c.loop-share.callers.ok.0 ∙ length_of_fresh_callers (length c.loop-share.yielded) c.loop-share.callers.items c.loop-share.invariant))

pub loop-share-preserved : goal.loop-share-preserved
loop-share-preserved g c =
    let number = c.len-number.ensures ∙ c.loop-share.callers.ok.0
    ∙ length_of_fresh_callers (length c.loop-share.yielded) c.loop-share.callers.items c.loop-share.invariant in
    c.in_ok-push.ensures.items ∙ fresh_callers_with_one_more (length c.loop-share.yielded) c.loop-share.callers.items c.new.result c.loop-share.invariant (c.new.ensures
    ∙ ap fresh_caller number)
    ∙ ap fresh_callers (sym (length-append c.loop-share.yielded (c.in-Some.share ∷ [])))

pub returns : goal.returns
returns g c =
    let into = c.into_iter-share-iterator.ensures.into_iter_gives in
    let all = YieldsList-end (YieldsList-from_vec c.args.shares.items into.0 (into.1 ∙ c.args.shares.ok.0)) c.loop-share.yielded c.loop-share.share-iterator
    c.loop-share.yielded_by c.next.result c.next.new.self c.in-None.is c.next.ensures.steps in
    c.loop-share.invariant ∙ ap fresh_callers (all.1 ∙ length_of_fresh_shares g.N.Racing.wire (terms_of g.N.Racing.plan)
    (length g.N.Racing.plan.threads) c.args.shares.items c.requires.shares)
