use Rattle.am_generator.proofs.Words.{◌≡◌, ◌∙◌, ap, refl, subst, draw, after_draw, turn_of, act_at, after_turn, event_at, IsDriven, drawn, next_place, next_turn}
use Rattle.am_generator.proofs.generator.Generator.draw_event.Goals as goal

pub act-requires-clause-driven : goal.act-requires-clause-driven
act-requires-clause-driven c =
    let d = c.requires.driven.0 in
    let h = c.requires.driven.1 in (
      record d { words = c.draw.new.words },
      record { course = h.course; words = refl; luck = h.luck; progress = h.progress; counted = h.counted; looked = h.looked },
    )

pub returns : goal.returns
returns c = λ d h.
    let words : c.draw.new.words ≡ after_draw (after_draw d.words) = c.draw.ensures.drawn ∙ ap after_draw (c.draw-place.ensures.drawn ∙ ap after_draw h.words) in
    let turned = c.in_ok-act.ensures (drawn d)
    (record { course = h.course; words = words; luck = h.luck; progress = h.progress; counted = h.counted; looked = h.looked }) in
    let place : c.draw-place.result ≡ next_place d = c.draw-place.ensures.value ∙ ap (λ w. draw w 4) h.words in
    let turn : c.turn_of-turn.result ≡ next_turn d = c.turn_of-turn.ensures
    ∙ ap turn_of (c.draw.ensures.value ∙ ap (λ w. draw w 16) (c.draw-place.ensures.drawn ∙ ap after_draw h.words)) in
    record {
      is = c.at.ensures ∙ ap (event_at c.draw-place.result) turned.does ∙ (λ k. event_at (place k) (act_at (drawn d) (place k) (turn k)));
      driven = subst (λ t. IsDriven (after_turn (drawn d) (next_place d) t) c.act.new.self) turn
          (subst (λ n. IsDriven (after_turn (drawn d) n c.turn_of-turn.result) c.act.new.self) place turned.driven);
    }
