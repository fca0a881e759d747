-- Which runs are lawful: between completed views at most as many stop as the resilience then in force.
use Rattle.std.specs.Prelude.{ℕ, ◌+◌, ◌-◌, min, List, [], ◌∷◌, ◌++◌, take, count_by, Option, Some, None, Bool, false, not, ◌&&◌, ◌||◌, nat_lt, nat_le}
use Rattle.std.specs.Prelude.{if◌then◌else◌}
use Rattle.std.specs.List.{list_any}
use Rattle.am_base.specs.declared.name.Stamp.{Stamp}
use Rattle.am_base.specs.declared.entry.Entry.{Entry}
use Rattle.am_base.specs.declared.entry.Entry.TheVariants.{Data, Join, Leave, View}
use Rattle.am_base.specs.Names.{has, size, names_of}
use Rattle.am_base.specs.Stamps.{stamp_is_less, stamps_are_equal}
use Rattle.am_base.specs.Founding.{Rules}
use Rattle.am_group.specs.declared.event.Event.{Event}
use Rattle.am_model.specs.Node.{Node, view, has_departed}
use Rattle.am_group_defs.specs.World.{Decided, World, start, founders_decided, is_stopped, happens}

-- ---- stored and complete

-- a name's whole list: what the group had accepted where it began, and all since
abbrev pub whole : World → Node → List Entry
whole w m = take m.core.log.start w.group ++ m.core.log.entries

abbrev pub is_view_of : Stamp → Entry → Bool
is_view_of v (Data from req body) = false
is_view_of v (Join name) = false
is_view_of v (Leave name) = false
is_view_of v (View w) = stamps_are_equal w.stamp v

-- the View stands in the name's list
abbrev pub has_stored : World → Stamp → ℕ → Bool
has_stored w v name = list_any (is_view_of v) (whole w (w.nodes name))

-- a running member whose list hasn't reached the view
abbrev pub lags_behind_view : World → Stamp → ℕ → Bool
lags_behind_view w v name = not (is_stopped w name) && (not (has_departed (w.nodes name).status) && stamp_is_less (view (w.nodes name)) v)

-- a view is complete once as many members have stored it as are to survive with it, and no running member lags
unfoldable pub is_complete : World → Decided → Bool
is_complete w v =
    nat_le (min (v.resilience + 1) (size v.members)) (count_by (has_stored w v.stamp) (names_of v.members))
    && not (list_any (lags_behind_view w v.stamp) (names_of v.members))

-- ---- lawful

-- the names that count: the view's members, and those that joined since
abbrev pub counts_for_view : World → Decided → ℕ → Bool
counts_for_view w v name = has v.members name || nat_lt v.number (w.nodes name).core.start

abbrev pub is_counted_loss : World → Decided → ℕ → Bool
is_counted_loss w v name = counts_for_view w v name && not (has_departed (w.nodes name).status)

-- at most as many of them have stopped undeparted as the view's resilience
unfoldable pub is_lawful : World → Decided → Bool
is_lawful w v = nat_le (count_by (is_counted_loss w v) w.stopped) v.resilience

-- a run that is watched: the greatest complete view, how many events there were, and the number of the first after which
-- the run wasn't lawful
pub record Watch : Type 0 where
  pub world : World
  pub complete : Decided
  pub count : ℕ
  pub broken : Option ℕ

abbrev pub watch_start : Rules → Watch
watch_start rules = record { world = start rules; complete = founders_decided rules; count = 0; broken = None }

-- the greater of a view and of another that is complete
abbrev pub greater_complete : World → Decided → Decided → Decided
greater_complete w best v = if stamp_is_less best.stamp v.stamp && is_complete w v then v else best

unfoldable pub greatest_complete : World → Decided → List Decided → Decided
greatest_complete w best [] = best
greatest_complete w best (v ∷ vs) = greatest_complete w (greater_complete w best v) vs

abbrev pub first_unlawful_event_so_far : World → Decided → ℕ → Option ℕ → Option ℕ
first_unlawful_event_so_far w v count (Some k) = Some k
first_unlawful_event_so_far w v count None = if is_lawful w v then None else Some count

-- the world after an event, where this view is the greatest complete one
abbrev pub watch_of_world : Watch → World → Decided → Watch
watch_of_world s w best = record { world = w; complete = best; count = s.count + 1; broken = first_unlawful_event_so_far w best (s.count + 1) s.broken }

unfoldable pub watch_event : Watch → Event → Watch
watch_event s e = let w = happens s.world e in watch_of_world s w (greatest_complete w s.complete w.views)

unfoldable pub watch_events : Watch → List Event → Watch
watch_events s [] = s
watch_events s (e ∷ es) = watch_events (watch_event s e) es

abbrev pub watch_run : Rules → List Event → Watch
watch_run rules events = watch_events (watch_start rules) events

-- the number of the first event after which the run isn't lawful
abbrev pub broken_at : Rules → List Event → Option ℕ
broken_at rules events = (watch_run rules events).broken

-- the lawful front: the events before that, or all
abbrev pub events_before_break : List Event → Option ℕ → List Event
events_before_break events None = events
events_before_break events (Some k) = take (k - 1) events

abbrev pub lawful_front : Rules → List Event → List Event
lawful_front rules events = events_before_break events (broken_at rules events)
