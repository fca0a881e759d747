use Rattle.am_generator.proofs.Words.{◌∙◌, arith}
use Rattle.am_generator.proofs.Bodies.{filled_bytes_count_on}
use Rattle.am_generator.proofs.generator.counting.Goals as goal

pub returns : goal.returns
returns c =
    c.in_ok-of_bytes.ensures
    ∙ filled_bytes_count_on c.loop-index.bytes c.args.number c.args.size c.loop-index.index c.loop-index.invariant.0 c.requires.size
    (omega (arith, c.requires.size, c.loop-index-test.false)) c.loop-index.invariant.2
