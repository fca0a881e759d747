use Rattle.am_lawful_watch.proofs.WatchWords.{arith, fill_by_all, blank_standing, standing_at_start}
use Rattle.am_lawful_watch.proofs.watcher.first_standings.Goals as goal

pub returns : goal.returns
returns c = fill_by_all (standing_at_start c.args.founding.now) c.loop-byte.names 256 blank_standing c.loop-byte.invariant.long
    (λ k h. c.loop-byte.invariant.filled k (omega arith))
