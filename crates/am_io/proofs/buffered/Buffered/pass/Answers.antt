use Rattle.std.proofs.Common.{◌≡◌, ◌++◌, refl, arith}
use Rattle.std.proofs.lemmas.Grind.{common_steps}
use Rattle.am_io.proofs.Buffers.{buffer_failed_at_write}
use Rattle.am_io.proofs.buffered.Buffered.pass.Goals as goal

pub returns-in-Err : goal.returns-in-Err
returns-in-Err g c =
    let all : c.args.self.now.room.items ++ c.args.bytes.now ≡ c.args.bytes.now = grind (arith, common_steps) in
    buffer_failed_at_write g.K.Sink.contents g.K.Sink.count c.args.self.now _ c.args.bytes.now c.args.bytes.now c.in-Err.field-0.written c.if-self.false refl all refl
    c.in-Err.ensures.part c.in-Err.ensures.counts
