use Rattle.std.proofs.Common.{sym, arith, take_all}
use Rattle.std.proofs.lemmas.List.{length-take}
use Rattle.am_c.proofs.session.kept.Goals as goal

pub slice_bounds-result-end : goal.slice_bounds-result-end
slice_bounds-result-end c = omega (arith, c.if-asked-gt-MOST_KEPT.true, length-take 4097 c.args.asked.now)

pub returns : goal.returns
returns c = sym (take_all 4097 c.args.asked.now c.if-asked-gt-MOST_KEPT.false)
