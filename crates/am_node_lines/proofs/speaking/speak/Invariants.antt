use Rattle.std.proofs.Common.{◌≡◌, ℕ, List}
use Rattle.std.specs.Io.KnownBytes.{Consumes}
use Rattle.am_group_defs.specs.World.{first_node}
use Rattle.am_node_lines.specs.Speakers.{speaking}
use Rattle.am_node_lines.specs.Speaking.{IsTalking}
use Rattle.am_node_lines.proofs.speaking.speak.Given as goal

abbrev pub invariant-reads : goal.invariant-reads
invariant-reads g l = record {
  talks : (given : List ℕ) × Consumes (g.S.Source.left l.initial.source) (g.S.Source.left l.source) given
      × IsTalking l.fn.founding (first_node l.fn.founding l.fn.name) (g.K.Sink.contents l.initial.sink) given (speaking l.talk.speaker) l.talk.line.items (g.K.Sink.contents l.sink);
  reads : g.S.Source.count l.source ≡ g.S.Source.count l.initial.source;
  writes : g.K.Sink.count l.sink ≡ g.K.Sink.count l.initial.sink;
}
