use Rattle.std.proofs.Common.{arith, ◌∙◌}
use Rattle.am_io.proofs.Bytes.{sink_appended_longer_part}
use Rattle.am_io.proofs.whole.write_all.Goals as goal

pub loop-written-preserved : goal.loop-written-preserved
loop-written-preserved g c = record {
  within = omega (arith, c.in-Took.ensures.some);
  appended = sink_appended_longer_part _ _ _ _ _ _ c.loop-written.invariant.appended c.in-Took.ensures.took;
  counts = c.in-Took.ensures.counts ∙ c.loop-written.invariant.counts;
}
