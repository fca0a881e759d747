use Rattle.std.proofs.Common.{[], subst}
use Rattle.am_io.specs.Buffers.{Goes}
use Rattle.am_io.proofs.Buffers.{buffer_wrote_both_texts}
use Rattle.am_io.proofs.buffered.Buffered.write.Goals as goal

pub returns-then-hold-2 : goal.returns-then-hold-2
returns-then-hold-2 g c =
    let flushed = subst (λ p. Goes g.K.Sink.contents g.K.Sink.count p [] c.flush.new.self) (c.hold.ensures.kept c.if-hold.false) c.flush.ensures.goes in
    buffer_wrote_both_texts g.K.Sink.contents g.K.Sink.count _ _ _ [] _ flushed (c.hold-2.ensures.held c.if-hold-2.true)

pub returns : goal.returns
returns g c =
    let flushed = subst (λ p. Goes g.K.Sink.contents g.K.Sink.count p [] c.flush.new.self) (c.hold.ensures.kept c.if-hold.false) c.flush.ensures.goes in
    let passed = subst (λ q. Goes g.K.Sink.contents g.K.Sink.count q c.args.bytes.now c.pass.new.self) (c.hold-2.ensures.kept c.if-hold-2.false) c.pass.ensures in
    buffer_wrote_both_texts g.K.Sink.contents g.K.Sink.count _ _ _ [] _ flushed passed
