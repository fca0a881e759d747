-- That a view is noted with the members that its View names.
use Rattle.std.specs.Prelude.{◌≡◌, ℕ, List, Some, slice_get}
use Rattle.am_base.specs.declared.entry.Entry.TheVariants.{View}
use Rattle.am_base.specs.Founding.{Rules, MayFound}
use Rattle.am_base.specs.Lists.{log_entry_at}
use Rattle.am_group.specs.declared.event.Event.{Event}
use Rattle.am_group_defs.specs.World.{Decided, World, run}

-- the View of a noted view, with its members, stands at its number in its coordinator's list
abbrev pub ViewStandsWithMembers : World → Decided → Type 0
ViewStandsWithMembers w v = log_entry_at (w.nodes v.stamp.by).core.log v.number ≡ Some (View v.view)

-- from when it was noted on
abbrev pub NotedViewsKeepMembers : Type 0
NotedViewsKeepMembers = (rules : Rules) (events : List Event) (i : ℕ) (v : Decided) → MayFound rules → slice_get (run rules events).views i ≡ Some v
    → ViewStandsWithMembers (run rules events) v
