use Rattle.am_lawful_watch.proofs.WatchWords.{rules, filter_same, comes_after_view}
use Rattle.am_lawful_watch.proofs.watcher.keep_above.Goals as goal

pub returns : goal.returns
returns c = filter_same _ (comes_after_view c.args.stamp) _ (λ v b f k. search rules) _ _ c.retain.ensures.filtered
