use Rattle.am_ordering.proofs.ReceivingWords.{arith, nat_tests}
use Rattle.am_ordering.proofs.Lowest.{name_among_lowest_of_set}
use Rattle.am_ordering.proofs.storing.is_among_lowest.Goals as goal

pub returns-then-has : goal.returns-then-has
returns-then-has c =
    let e = name_among_lowest_of_set c.args.set c.args.name c.args.count c.lives_below-lower.ensures.set in
    rw e (grind (arith, nat_tests))

pub returns-else-has : goal.returns-else-has
returns-else-has c =
    let e = name_among_lowest_of_set c.args.set c.args.name c.args.count c.lives_below-lower.ensures.set in
    rw e (grind (arith, nat_tests))
