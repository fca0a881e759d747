use Rattle.std.proofs.Common.{◌≡◌, ℕ, ◌<◌, length, sym, ◌∙◌, subst}
use Rattle.std.proofs.lemmas.Iterator.Adapters.{YieldsList-from_vec}
use Rattle.std.proofs.lemmas.Iterator.Consumers.{YieldsList-turn, YieldsList-end}
use Rattle.am_shared_journal_defs.specs.declared.terms.SharerKey.TheVariants.{Place}
use Rattle.am_shared_journal_defs.specs.Passes.{fresh}
use Rattle.am_race_laws.specs.Lawful.{terms_of}
use Rattle.am_race_laws.proofs.Fresh.{pass_of_place_is_fresh, length_of_fresh_passes}
use Rattle.am_calls.proofs.dealing.boxes_of.Goals as goal

pub box_of-requires-clause-its : goal.box_of-requires-clause-its
box_of-requires-clause-its g c =
    let into = c.into_iter-pass-iterator.ensures.into_iter_gives in
    let turn = YieldsList-turn (YieldsList-from_vec c.args.passes.items into.0 (into.1 ∙ c.args.passes.ok.0)) c.loop-pass.yielded c.loop-pass.pass-iterator
    c.loop-pass.yielded_by c.next.result c.next.new.self c.in-Some.pass c.in-Some.is c.next.ensures.steps in
    subst (λ (n : ℕ). (n < 16) × (c.in-Some.pass ≡ fresh g.N.Racing.wire (terms_of g.N.Racing.plan) (Place n))) (sym (c.len.ensures ∙ c.loop-pass.invariant))
    (pass_of_place_is_fresh g.N.Racing.wire (terms_of g.N.Racing.plan) (length c.loop-pass.yielded) c.args.passes.items c.in-Some.pass c.requires.passes turn.0 turn.1)

pub returns : goal.returns
returns g c =
    let into = c.into_iter-pass-iterator.ensures.into_iter_gives in
    let all = YieldsList-end (YieldsList-from_vec c.args.passes.items into.0 (into.1 ∙ c.args.passes.ok.0)) c.loop-pass.yielded c.loop-pass.pass-iterator
    c.loop-pass.yielded_by c.next.result c.next.new.self c.in-None.is c.next.ensures.steps in
    c.loop-pass.invariant ∙ all.1 ∙ length_of_fresh_passes g.N.Racing.wire (terms_of g.N.Racing.plan) c.args.passes.items c.requires.passes
