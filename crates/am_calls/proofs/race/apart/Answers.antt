use Rattle.std.proofs.Common.{ℕ, ◌+◌, ◌≤◌, [], ◌∷◌, vec_len, length-append, sym, ap, ◌∙◌, subst}
use Rattle.am_race_laws.proofs.Running.{map_with_one_more, first_refusal_with_one_more}
use Rattle.am_calls.proofs.race.apart.Goals as goal

pub loop-one-preserved : goal.loop-one-preserved
loop-one-preserved g c = (
  c.push_reserved.ensures.len ∙ ap (λ (n : ℕ). n + 1) c.loop-one.invariant.0 ∙ sym (length-append c.loop-one.yielded (c.in-Some.one ∷ [])),
  subst (λ (n : ℕ). vec_len c.args.ran ≤ n) (sym c.push_reserved.ensures.capacity) c.loop-one.invariant.1,
  map_with_one_more _ c.loop-one.yielded c.in-Some.one c.loop-one.callers.items c.push_reserved.new.self.items c.loop-one.invariant.2 c.push_reserved.ensures.items,
  first_refusal_with_one_more _ c.loop-one.yielded c.in-Some.one c.loop-one.refusal c.or-refusal.result c.loop-one.invariant.3 c.or-refusal.ensures,
)
