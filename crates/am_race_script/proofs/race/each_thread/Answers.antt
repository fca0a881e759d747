use Rattle.std.proofs.Common.{arith, ap, length}
use Rattle.am_race_script.proofs.Races.{threads_read_with_next_thread}
use Rattle.am_race_script.proofs.race.each_thread.Goals as goal

pub loop-value-preserved : goal.loop-value-preserved
loop-value-preserved c = record {
  read = threads_read_with_next_thread c.args.founding c.loop-value.first c.loop-value.value-index _ c.args.list.now c.value-item.result c.in_ok-thread.thread
      c.loop-value.threads c.push.new.self _
      c.loop-value-test.true c.value-item.is c.in_ok-thread.ensures (ap length c.as_slice.ensures) c.in_ok-push.ensures.ok c.loop-value.invariant.read;
  low = omega arith;
}
