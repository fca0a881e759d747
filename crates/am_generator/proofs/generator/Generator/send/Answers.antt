use Rattle.am_generator.proofs.Words.{◌≡◌, ◌+◌, ◌∙◌, sym, ap, length, replay, draw, after_draw, counting, most_drawn}
use Rattle.am_group.specs.declared.event.Act.TheVariants as act
use Rattle.am_group_defs.proofs.Runs.{one_record_each}
use Rattle.am_generator.specs.declared.course.Counts.{Counts}
use Rattle.am_generator.specs.Generating.{act_at, after_turn}
use Rattle.am_generator.proofs.generator.Generator.send.Goals as goal

pub returns : goal.returns
unfolding act_at after_turn
returns c = λ d h.
    let number : c.counts.result.events ≡ length (replay d.play).records = ap (λ (k : Counts). k.events) c.counts.ensures ∙ h.course.counted.events
    ∙ sym (one_record_each d.play.rules d.play.events) in
    let size : c.draw-size.result ≡ draw d.words (most_drawn + 1) = c.draw-size.ensures.value ∙ ap (λ w. draw w (most_drawn + 1)) h.words in
    record {
      does = ap act.Send (c.in_ok-counting.ensures ∙ (λ k. counting (number k + 1) (size k)));
      driven = record {
        course = h.course;
        words = c.draw-size.ensures.drawn ∙ ap after_draw h.words;
        luck = h.luck;
        progress = h.progress;
        counted = h.counted;
        looked = h.looked;
      };
    }
