use Rattle.am_generator.proofs.Words.{rules, ◌≡◌, [], ◌∷◌, refl, ap, subst, Rules, no_progress, IsCourse}
use Rattle.am_group_defs.specs.World as world
use Rattle.am_generator.proofs.Seen.{no_letters_seen_at_first}
use Rattle.am_generator.proofs.generator.Generator.new.Goals as goal

pub returns : goal.returns
unfolding world.world_after_events
returns c =
    let blank : c.new-4.result ≡ no_progress = λ k. record { cursor = c.new-4.ensures.cursor k; last = c.new-4.ensures.last k } in
    record {
      course = subst (λ (r : Rules). IsCourse (record { rules = r; events = [] }) c.in_ok-course.course) c.founding.ensures c.in_ok-course.ensures;
      words = c.new-2.ensures;
      luck = c.new-3.ensures;
      progress = ap (λ p. p ∷ p ∷ p ∷ p ∷ []) blank;
      counted = search rules;
      looked = no_letters_seen_at_first no_progress [] refl;
    }
