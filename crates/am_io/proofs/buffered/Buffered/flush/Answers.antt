use Rattle.std.proofs.Common.{[], refl, sym, ◌∙◌, append-nil}
use Rattle.am_io.proofs.Buffers.{buffer_failed_at_write}
use Rattle.am_io.proofs.buffered.Buffered.flush.Goals as goal

pub returns-in-Err-clause-goes : goal.returns-in-Err-clause-goes
returns-in-Err-clause-goes g c =
    let all = append-nil c.args.self.now.room.items ∙ sym c.as_slice.ensures.value in
    buffer_failed_at_write g.K.Sink.contents g.K.Sink.count c.args.self.now _ [] c.as_slice.result.now c.in-Err.field-0.written c.if-self.false refl all refl
    c.in-Err.ensures.part c.in-Err.ensures.counts
