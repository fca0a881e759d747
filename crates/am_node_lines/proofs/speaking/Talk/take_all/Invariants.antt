use Rattle.std.proofs.Common.{◌≡◌, ℕ, ◌++◌, List, Option, take}
use Rattle.am_base.specs.Founding.{Rules}
use Rattle.am_model.specs.Node.{Node}
use Rattle.am_node_lines.specs.Speakers.{speaking}
use Rattle.am_node_lines.specs.Speaking.{IsTalking}
use Rattle.am_node_lines.proofs.speaking.Talk.take_all.Given as goal

abbrev pub invariant-loop-byte : goal.invariant-loop-byte
invariant-loop-byte g l = record {
  talks : (rules : Rules) (first : Node) (start : Option (List ℕ)) (given : List ℕ)
      → IsTalking rules first start given (speaking l.initial.self.speaker) l.initial.self.line.items (g.K.Sink.contents l.initial.sink)
      → IsTalking rules first start (given ++ take l.byte-index l.bytes) (speaking l.self.speaker) l.self.line.items (g.K.Sink.contents l.sink);
  counts : g.K.Sink.count l.sink ≡ g.K.Sink.count l.initial.sink;
}
