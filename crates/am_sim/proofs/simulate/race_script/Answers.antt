use Rattle.std.proofs.Common.{◌≡◌, ℕ, refl, sym, ap, ◌∙◌, subst, take}
use Rattle.std.specs.Io.KnownBytes.{Appends}
use Rattle.am_io.specs.Outside.{next}
use Rattle.am_io.proofs.Buffers.{buffer_wrote_and_flushed, sink_has_whole_text, sink_count_stays_without_failure, sink_has_part_of_text, sink_count_grows_by_failure}
use Rattle.am_player.specs.Statuses.{WroteTextPart}
use Rattle.am_player.proofs.Given.{source_gave_whole_within_limit, text_written_of_read_bytes}
use Rattle.am_sim.specs.Simulation.{Raced}
use Rattle.am_sim.proofs.simulate.race_script.Goals as goal

pub returns-in-Ok-finish-clause-took : goal.returns-in-Ok-finish-clause-took
returns-in-Ok-finish-clause-took g c = (source_gave_whole_within_limit _ _ _ _ c.in-Ok-read_input.ensures.ok c.in-Ok-read_input.ensures.within, c.in-Ok-read_input.ensures.counts)

pub returns-in-Ok-finish-clause-wrote : goal.returns-in-Ok-finish-clause-wrote
returns-in-Ok-finish-clause-wrote g c =
    let raced = c.in-Ok.ensures.raced in
    let gone = buffer_wrote_and_flushed g.K.Sink.contents g.K.Sink.count c.new-out.result _ _ raced.0 raced.2 c.in-Ok-finish.ensures.goes in
    let last = sym (c.sink-2-1.given.1 (sym (gone.named ∙ c.new-out.ensures.named))) in
    let whole = sink_has_whole_text g.K.Sink.contents g.K.Sink.count _ _ _ c.new-out.ensures.empty gone c.in-Ok-finish.ensures.ok in
    let done = text_written_of_read_bytes Raced (Appends _ _) _ _ _ _ _ _ c.in-Ok-read_input.ensures.ok c.as_slice.ensures.value raced.1 refl
    (subst (λ s. Appends (g.K.Sink.contents c.args.sink.now) (g.K.Sink.contents s) raced.0) last
    (subst (λ s. Appends (g.K.Sink.contents s) (g.K.Sink.contents c.finish.new.self.sink.now) raced.0) c.new-out.ensures.sink whole)) in (
      done.0,
      done.1,
      done.2,
      subst (λ s. g.K.Sink.count s ≡ g.K.Sink.count c.args.sink.now) last
          (sink_count_stays_without_failure g.K.Sink.contents g.K.Sink.count _ _ _ c.new-out.ensures.empty gone c.in-Ok-finish.ensures.ok ∙ ap g.K.Sink.count c.new-out.ensures.sink),
    )

pub returns-4-clause-wrote : goal.returns-4-clause-wrote
returns-4-clause-wrote g c =
    let raced = c.in-Ok.ensures.raced in
    let gone = buffer_wrote_and_flushed g.K.Sink.contents g.K.Sink.count c.new-out.result _ _ raced.0 raced.2 c.in-Err-finish.ensures.goes in
    let last = sym (c.sink-2-1.given.1 (sym (gone.named ∙ c.new-out.ensures.named))) in
    let part = sink_has_part_of_text g.K.Sink.contents g.K.Sink.count _ _ _ c.new-out.ensures.empty gone in
    let begun = text_written_of_read_bytes Raced (WroteTextPart _ _) _ _ _ _ _ _ c.in-Ok-read_input.ensures.ok c.as_slice.ensures.value raced.1 refl
    (subst (λ s. (n : ℕ) × Appends (g.K.Sink.contents c.args.sink.now) (g.K.Sink.contents s) (take n raced.0)) last
    (subst (λ s. (n : ℕ) × Appends (g.K.Sink.contents s) (g.K.Sink.contents c.finish.new.self.sink.now) (take n raced.0)) c.new-out.ensures.sink part)) in (
      begun.0,
      begun.1,
      begun.2,
      subst (λ s. g.K.Sink.count s ≡ next (g.K.Sink.count c.args.sink.now)) last
          (sink_count_grows_by_failure g.K.Sink.contents g.K.Sink.count _ _ _ c.new-out.ensures.empty gone c.in-Err-finish.ensures.err
          ∙ ap (λ s. next (g.K.Sink.count s)) c.new-out.ensures.sink),
    )
