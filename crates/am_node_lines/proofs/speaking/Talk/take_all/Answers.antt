use Rattle.std.proofs.Common.{ℕ, ◌+◌, ◌++◌, List, take, subst, ◌∙◌, arith}
use Rattle.am_node_lines.specs.Speakers.{speaking}
use Rattle.am_node_lines.specs.Speaking.{IsTalking, WrotePart, answers_of, whole_lines}
use Rattle.am_node_lines.proofs.Talks.{talk_broke_on_in_bytes, given_bytes_with_next_byte}
use Rattle.am_node_lines.proofs.speaking.Talk.take_all.Goals as goal

pub returns-in-Err-clause-talks : goal.returns-in-Err-clause-talks
returns-in-Err-clause-talks g c = λ rules first start given t.
    talk_broke_on_in_bytes rules first start _ given c.args.bytes.now (c.loop-byte.byte-index + 1) (omega (arith, c.loop-byte-test.true))
    (subst (λ (xs : List ℕ). WrotePart start (g.K.Sink.contents c.take.new.sink) (answers_of rules first (whole_lines xs)))
    (given_bytes_with_next_byte given c.args.bytes.now c.loop-byte.byte-index c.loop-byte-test.true)
    (c.in-Err.ensures.talks rules first start (given ++ take c.loop-byte.byte-index c.args.bytes.now) (c.loop-byte.invariant.talks rules first start given t)))

pub loop-byte-preserved : goal.loop-byte-preserved
loop-byte-preserved g c = record {
  talks = λ rules first start given t.
      subst (λ (xs : List ℕ). IsTalking rules first start xs (speaking c.take.new.self.speaker) c.take.new.self.line.items (g.K.Sink.contents c.take.new.sink))
      (given_bytes_with_next_byte given c.args.bytes.now c.loop-byte.byte-index c.loop-byte-test.true)
      (c.in_default.ensures.talks rules first start (given ++ take c.loop-byte.byte-index c.args.bytes.now) (c.loop-byte.invariant.talks rules first start given t));
  counts = c.in_default.ensures.counts ∙ c.loop-byte.invariant.counts;
}
