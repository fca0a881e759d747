-- What a watcher keeps, and whether it has room for one event more.
use Rattle.std.specs.Prelude.{◌<◌, vec_len, vec_capacity}
use Rattle.am_lawful_defs.specs.Watching.{Watching}
use Rattle.am_lawful_watch.specs.declared.watcher.Watcher.{Watcher}

abbrev pub watching_of : Watcher → Watching
watching_of w = record {
  names = w.names;
  stopped = w.stopped.items;
  pending = w.pending.items;
  is_due = w.is_due;
  complete = w.complete;
  count = w.count;
  broken = w.broken;
}

-- there is memory for one more stopped name and one more view
pub record HasWatchRoom (w : Watcher) : Type 0 where
  pub stopped : vec_len w.stopped < vec_capacity w.stopped
  pub pending : vec_len w.pending < vec_capacity w.pending
