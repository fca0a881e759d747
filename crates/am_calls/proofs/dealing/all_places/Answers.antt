use Rattle.std.proofs.Common.{ℕ, [], ◌∷◌, length-append, refl, ap, ◌∙◌, subst, arith}
use Rattle.std.proofs.lemmas.Iterator.Adapters.{YieldsList-from_vec}
use Rattle.std.proofs.lemmas.Iterator.Consumers.{YieldsList-end}
use Rattle.std.specs.Vec.Iter.{into_iter_items, into_iter_len}
use Rattle.am_race_laws.specs.Ran.{HasPlaces}
use Rattle.am_race_laws.proofs.Joined.{joined_pass_adds_place}
use Rattle.am_calls.proofs.dealing.all_places.Goals as goal

pub loop-other-preserved : goal.loop-other-preserved
loop-other-preserved g c = (
  let many = length-append c.loop-other.yielded (c.in-Some-other.other ∷ []) in
      let so_far = c.loop-other.invariant.0 in
      omega arith,
  c.join.ensures.wire ∙ c.loop-other.invariant.1,
  joined_pass_adds_place c.loop-other.place c.loop-other.pass c.pass_of.result c.join.new.pass c.loop-other.invariant.2 c.join.ensures c.pass_of.ensures.keys,
)

pub returns-clause-places : goal.returns-clause-places
returns-clause-places g c =
    let s = c.into_iter-other-iterator.result in
    let all = YieldsList-end (YieldsList-from_vec (into_iter_items s) refl s.rest.ok.0) c.loop-other.yielded c.loop-other.other-iterator c.loop-other.yielded_by
    c.next-in-loop-other.result c.next-in-loop-other.new.self c.in-None-other.is c.next-in-loop-other.ensures.steps in
    let same = ap into_iter_len c.into_iter-other-iterator.ensures.into_iter_gives in
    subst (λ (n : ℕ). HasPlaces n c.loop-other.pass)
    (omega (arith, all.1, s.rest.ok.0, same, c.in-Some.ensures.len, c.into_iter-boxes.ensures.len, c.requires.sixteen, c.loop-other.invariant.0))
    c.loop-other.invariant.2
