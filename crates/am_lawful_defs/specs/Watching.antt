-- What is kept of a run to say whether it is lawful, event by event: of each name what its node shows, who stopped, and of each
-- view that may still become the greatest complete one who stored it. Only the views above that one are looked at, and only
-- where an event changed something that they ask for.
use Rattle.std.specs.Prelude.{ℕ, ◌+◌, min, List, [], ◌∷◌, ◌++◌, map, filter, replicate, Option, Some, None, Bool, true, false, not, ◌&&◌, ◌||◌, ◌==◌, nat_lt}
use Rattle.std.specs.Prelude.{nat_le, if◌then◌else◌, slice_index_or, slice_set, count_by}
use Rattle.std.specs.List.{list_any, range_with_len}
use Rattle.am_base.specs.declared.name.Stamp.{Stamp}
use Rattle.am_base.specs.declared.entry.Entry.{Entry}
use Rattle.am_base.specs.declared.entry.Entry.TheVariants.{Data, Join, Leave, View}
use Rattle.am_base.specs.Names.{has, size, names_of}
use Rattle.am_base.specs.Stamps.{stamp_is_less, stamps_are_equal, no_stamp}
use Rattle.am_base.specs.Founding.{Rules}
use Rattle.am_model.specs.declared.status.Status.TheVariants.{Stranger, Member}
use Rattle.am_model.specs.Node.{is_member, founding_stamp, founding_view, has_departed}
use Rattle.am_group_defs.specs.Lawful.{is_view_of}
use Rattle.am_lawful_defs.specs.declared.views.DecidedView.{DecidedView}
use Rattle.am_lawful_defs.specs.declared.views.NameStanding.{NameStanding}
use Rattle.am_lawful_defs.specs.declared.views.Pending.{Pending}

-- what a name shows before its first step
abbrev pub blank_standing : NameStanding
blank_standing = record { status = Stranger; view = no_stamp; start = 0; from = 0 }

-- what is known of each name, who stopped, the views above the greatest complete one, whether a View was stored in this event,
-- the greatest complete view, how many events there were, and the number of the first after which the run wasn't lawful
pub record Watching : Type 0 where
  pub names : List NameStanding
  pub stopped : List ℕ
  pub pending : List Pending
  pub is_due : Bool
  pub complete : DecidedView
  pub count : ℕ
  pub broken : Option ℕ

abbrev pub standing : Watching → ℕ → NameStanding
standing k name = slice_index_or k.names name blank_standing

abbrev pub watch_has_stopped : Watching → ℕ → Bool
watch_has_stopped k name = list_any (λ other. other == name) k.stopped

-- ---- complete

-- a number that may be there is at most this one
abbrev pub is_there_and_at_most : Option ℕ → ℕ → Bool
is_there_and_at_most None from = false
is_there_and_at_most (Some number) from = nat_le number from

-- the View stands in the group list where the name's list began, or in what it stored since
abbrev pub watch_has_stored : Watching → Pending → ℕ → Bool
watch_has_stored k v name = is_there_and_at_most v.number_in_group (standing k name).from || slice_index_or v.stored name false

abbrev pub watch_lags : Watching → Stamp → ℕ → Bool
watch_lags k v name = not (watch_has_stopped k name) && (not (has_departed (standing k name).status) && stamp_is_less (standing k name).view v)

unfoldable pub watch_is_complete : Watching → Pending → Bool
watch_is_complete k v =
    nat_le (min (v.decided.view.resilience + 1) (size v.decided.view.members)) (count_by (watch_has_stored k v) (names_of v.decided.view.members))
    && not (list_any (watch_lags k v.decided.view.stamp) (names_of v.decided.view.members))

-- the greater of a view and of another that is complete
abbrev pub greater_if_complete : Watching → DecidedView → Pending → DecidedView
greater_if_complete k best v = if stamp_is_less best.view.stamp v.decided.view.stamp && watch_is_complete k v then v.decided else best

unfoldable pub watch_greatest : Watching → DecidedView → List Pending → DecidedView
watch_greatest k best [] = best
watch_greatest k best (v ∷ vs) = watch_greatest k (greater_if_complete k best v) vs

-- ---- lawful

-- a stopped name that counts and hadn't departed
abbrev pub watch_is_lost : Watching → DecidedView → ℕ → Bool
watch_is_lost k v name = (has v.view.members name || nat_lt v.number (standing k name).start) && not (has_departed (standing k name).status)

unfoldable pub watch_is_lawful : Watching → DecidedView → Bool
watch_is_lawful k v = nat_le (count_by (watch_is_lost k v) k.stopped) v.view.resilience

abbrev pub watch_first_unlawful_event_so_far : Watching → DecidedView → Option ℕ → Option ℕ
watch_first_unlawful_event_so_far k best (Some count) = Some count
watch_first_unlawful_event_so_far k best None = if watch_is_lawful k best then None else Some (k.count + 1)

-- ---- after an event

-- it comes after another view
abbrev pub comes_after_view : Stamp → Pending → Bool
comes_after_view stamp v = stamp_is_less stamp v.decided.view.stamp

-- an event is over, and this is the greatest complete view
abbrev pub end_event : Watching → DecidedView → Watching
end_event k best = record k {
  pending = filter (comes_after_view best.view.stamp) k.pending;
  is_due = false;
  complete = best;
  count = k.count + 1;
  broken =
      watch_first_unlawful_event_so_far k best k.broken;
}

-- an event is over after which a view may have become complete, or somebody was lost
unfoldable pub look_for_complete_view : Watching → Watching
look_for_complete_view k = end_event k (watch_greatest k k.complete k.pending)

-- one that changes nothing of that
abbrev pub pass_event : Watching → Watching
pass_event k = record k { count = k.count + 1 }

-- a name stops
abbrev pub note_stop : Watching → ℕ → Watching
note_stop k name = look_for_complete_view (record k { stopped = k.stopped ++ name ∷ [] })

-- ---- a name's step

-- a member decided a view in this step: it stored a View of its own stamp
abbrev pub watch_decides : NameStanding → ℕ → NameStanding → Bool
watch_decides before name after = is_member before.status && ((after.view.by == name) && not (stamps_are_equal before.view after.view))

-- a view that nobody has stored
abbrev pub new_pending : DecidedView → Pending
new_pending v = record { decided = v; stored = replicate 256 false; number_in_group = None }

-- the view that the name decided, if it did
abbrev pub decided_views : Watching → ℕ → NameStanding → DecidedView → List Pending
decided_views k name after v = if watch_decides (standing k name) name after && stamp_is_less k.complete.view.stamp v.view.stamp then new_pending v ∷ [] else []

abbrev pub watching_with_decided : Watching → ℕ → NameStanding → DecidedView → Watching
watching_with_decided k name after v = record k { pending = k.pending ++ decided_views k name after v }

-- the name stored the View of this stamp
abbrev pub store_view : ℕ → Stamp → Pending → Pending
store_view name stamp v = if stamps_are_equal stamp v.decided.view.stamp then record v { stored = slice_set v.stored name true } else v

-- the name stored an entry
abbrev pub note_entry : ℕ → Entry → List Pending → List Pending
note_entry name (Data from req body) pending = pending
note_entry name (Join joiner) pending = pending
note_entry name (Leave leaver) pending = pending
note_entry name (View v) pending = map (store_view name v.stamp) pending

-- the views that may become complete, once the name stored these entries
unfoldable pub note_entries : ℕ → List Entry → List Pending → List Pending
note_entries name [] pending = pending
note_entries name (e ∷ es) pending = note_entries name es (note_entry name e pending)

abbrev pub entry_is_view : Entry → Bool
entry_is_view (Data from req body) = false
entry_is_view (Join name) = false
entry_is_view (Leave name) = false
entry_is_view (View v) = true

-- a name stored an entry, and several
abbrev pub watch_with_entry : Watching → ℕ → Entry → Watching
watch_with_entry k name e = record k { pending = note_entry name e k.pending; is_due = k.is_due || entry_is_view e }

abbrev pub watching_with_entries : Watching → ℕ → List Entry → Watching
watching_with_entries k name entries = record k { pending = note_entries name entries k.pending; is_due = k.is_due || list_any entry_is_view entries }

-- the two are alike in what views ask for
abbrev pub flags_are_equal : Bool → Bool → Bool
flags_are_equal true b = b
flags_are_equal false b = not b

abbrev pub standings_are_alike : NameStanding → NameStanding → Bool
standings_are_alike before after = stamps_are_equal before.view after.view && (flags_are_equal (has_departed before.status) (has_departed after.status)
    && ((before.from == after.from) && (before.start == after.start)))

-- what the name shows now
abbrev pub watching_with_standing : Watching → ℕ → NameStanding → Watching
watching_with_standing k name after = record k { names = slice_set k.names name after }

-- a name's step is over
unfoldable pub watch_finish : Watching → ℕ → NameStanding → Watching
watch_finish k name after =
    if standings_are_alike (standing k name) after && not k.is_due then pass_event (watching_with_standing k name after)
    else look_for_complete_view (watching_with_standing k name after)

-- a name did a step: what it shows after that, the view in which its list ends, and the entries that it stored
abbrev pub watch_step : Watching → ℕ → NameStanding → DecidedView → List Entry → Watching
watch_step k name after v entries = watch_finish (watching_with_entries (watching_with_decided k name after v) name entries) name after

-- ---- the group list

-- the number of the first View of this stamp in a list whose first entry has this number
unfoldable pub number_of_view : Stamp → ℕ → List Entry → Option ℕ
number_of_view stamp number [] = None
number_of_view stamp number (e ∷ es) = if is_view_of stamp e then Some number else number_of_view stamp (number + 1) es

abbrev pub number_or_else : Option ℕ → Option ℕ → Option ℕ
number_or_else None b = b
number_or_else (Some a) b = Some a

-- the group list goes on by these entries, the first of which has this number
abbrev pub place_view_among_entries : ℕ → List Entry → Pending → Pending
place_view_among_entries number more v = record v { number_in_group = number_or_else v.number_in_group (number_of_view v.decided.view.stamp number more) }

-- by a View of this stamp alone
abbrev pub place_view : ℕ → Stamp → Pending → Pending
place_view number stamp v = record v { number_in_group = number_or_else v.number_in_group (if stamps_are_equal stamp v.decided.view.stamp then Some number else None) }

abbrev pub watch_accepts : Watching → ℕ → List Entry → Watching
watch_accepts k number more = record k { pending = map (place_view_among_entries number more) k.pending }

-- ---- the beginning

-- what a name shows before anything happened
abbrev pub standing_at_start : Rules → ℕ → NameStanding
standing_at_start rules name = if has rules.founders name then record { status = Member; view = founding_stamp rules; start = 1; from = 0 } else blank_standing

-- the founders' view
abbrev pub founders_decided_view : Rules → DecidedView
founders_decided_view rules = record { number = 1; view = founding_view rules }

-- what is kept of a run without events
abbrev pub watching_at_start : Rules → Watching
watching_at_start rules = record {
  names = map (standing_at_start rules) (range_with_len 0 256);
  stopped = [];
  pending = [];
  is_due = false;
  complete = founders_decided_view rules;
  count = 0;
  broken = None;
}
