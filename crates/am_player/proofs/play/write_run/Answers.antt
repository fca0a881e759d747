use Rattle.std.proofs.Common.{ℕ, subst, take, arith}
use Rattle.std.specs.Io.KnownBytes.{Appends}
use Rattle.std.proofs.lemmas.Grind.{common_steps}
use Rattle.am_io.proofs.Buffers.{buffer_wrote_and_flushed, sink_has_part_of_text}
use Rattle.am_player.proofs.play.write_run.Goals as goal

pub returns-in-Err-clause-played : goal.returns-in-Err-clause-played
returns-in-Err-clause-played g c =
    let played = c.in_ok-answer.ensures.played in
    let gone = buffer_wrote_and_flushed g.K.Sink.contents g.K.Sink.count c.new-out.result _ _ played.0 played.2 c.in-Err.ensures.goes in
    let part = sink_has_part_of_text g.K.Sink.contents g.K.Sink.count _ _ _ c.new-out.ensures.empty gone in (
      played.0,
      played.1,
      subst (λ s. (n : ℕ) × Appends (g.K.Sink.contents c.args.sink.now) (g.K.Sink.contents s) (take n played.0)) (grind (arith, common_steps))
          (subst (λ s. (n : ℕ) × Appends (g.K.Sink.contents s) (g.K.Sink.contents c.finish.new.self.sink.now) (take n played.0)) c.new-out.ensures.sink part),
    )
