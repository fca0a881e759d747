-- That a view is noted once, and that its View stands where it was noted.
use Rattle.std.specs.Prelude.{◌≡◌, ℕ, List, Some, slice_get}
use Rattle.am_base.specs.declared.entry.Entry.TheVariants.{View}
use Rattle.am_base.specs.Founding.{Rules, MayFound}
use Rattle.am_base.specs.Lists.{log_entry_at}
use Rattle.am_group.specs.declared.event.Event.{Event}
use Rattle.am_group_defs.specs.World.{Decided, World, run}

-- no two have the same stamp
abbrev pub NotedViewsAreDistinct : World → Type 0
NotedViewsAreDistinct w = (i j : ℕ) (u v : Decided) → slice_get w.views i ≡ Some u → slice_get w.views j ≡ Some v → u.stamp ≡ v.stamp → i ≡ j

-- the View of a noted view stands at its number in its coordinator's list
pub record ViewStands (w : World) (v : Decided) : Type 0 where
  pub names : List ℕ
  pub there : log_entry_at (w.nodes v.stamp.by).core.log v.number ≡ Some (View (record v.view { members = names }))

pub record ViewsNoted (w : World) : Type 0 where
  pub once : NotedViewsAreDistinct w
  -- from when it was noted on
  pub stand : (i : ℕ) (v : Decided) → slice_get w.views i ≡ Some v → ViewStands w v

abbrev pub RunsNoteViewsOnce : Type 0
RunsNoteViewsOnce = (rules : Rules) (events : List Event) → MayFound rules → ViewsNoted (run rules events)
