use Rattle.std.proofs.Common.{ap, sym, ◌∙◌}
use Rattle.am_player.specs.Statuses.{source_reads_after, sink_writes_after}
use Rattle.am_sim.proofs.Spoken.{reads_after_spoken_end, writes_after_spoken_end}
use Rattle.am_sim.proofs.speaking.speak_node.Goals as goal

pub returns : goal.returns
returns g c = record {
  spoken = (c.speak-end.result, c.status_of.ensures, c.speak-end.ensures.spoke);
  reads = c.speak-end.ensures.reads ∙ reads_after_spoken_end c.speak-end.result _ ∙ ap (λ s. source_reads_after s (g.S.Source.count c.args.source.now)) (sym c.status_of.ensures);
  writes = c.speak-end.ensures.writes ∙ writes_after_spoken_end c.speak-end.result _ ∙ ap (λ s. sink_writes_after s (g.K.Sink.count c.args.sink.now)) (sym c.status_of.ensures);
}
