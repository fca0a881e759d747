use Rattle.std.proofs.Common.{arith}
use Rattle.am_io.proofs.Bytes.{source_gave_more_than_limit, source_gave_at_most_limit, source_gave_some_bytes}
use Rattle.am_io.proofs.whole.read_all.Goals as goal

pub returns-then-limit-len-clause-too_long : goal.returns-then-limit-len-clause-too_long
returns-then-limit-len-clause-too_long g c = λ _. source_gave_more_than_limit _ _ _ _ _ _ _ c.loop-bytes.invariant.taken c.in-Took.ensures.took
    (omega (arith, c.in-Took.ensures.some)) (omega arith) (omega arith)

pub returns-then-is_err-clause-else_within : goal.returns-then-is_err-clause-else_within
returns-then-is_err-clause-else_within g c = λ _. source_gave_at_most_limit _ _ _ _ _ _ _ c.loop-bytes.invariant.taken c.in-Took.ensures.took
    (omega (arith, c.in-Took.ensures.some)) (omega arith) (omega arith)

pub returns-then-is_err-clause-memory : goal.returns-then-is_err-clause-memory
returns-then-is_err-clause-memory g c = λ _. source_gave_some_bytes _ _ _ _ _ _ c.loop-bytes.invariant.taken c.in-Took.ensures.took c.in-Took.ensures.some.0
    (omega (arith, c.in-Took.ensures.some))
