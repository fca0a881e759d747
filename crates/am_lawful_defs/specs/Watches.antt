-- What is kept is that of a watched run, and what an event makes of both.
use Rattle.std.specs.Prelude.{◌≡◌, ℕ, ◌+◌, ◌<◌, ◌≤◌, List, [], ◌∷◌, ◌++◌, length, map, filter, None, Bool, true, false, ◌||◌, slice_index_or, ◌-◌, take, drop}
use Rattle.std.specs.Prelude.{if◌then◌else◌, ◌==◌}
use Rattle.std.specs.List.{list_any}
use Rattle.am_base.specs.declared.name.Stamp.{Stamp}
use Rattle.am_base.specs.declared.entry.Entry.{Entry}
use Rattle.am_base.specs.Stamps.{stamp_is_less}
use Rattle.am_base.specs.Founding.{Rules, MayFound}
use Rattle.am_model.specs.Node.{Node, image_of_node, view, members, map_with_value}
use Rattle.am_group_defs.specs.World.{Decided, World, step_decides_view, views_after}
use Rattle.am_group_defs.specs.Lawful.{Watch, watch_start, is_view_of, greatest_complete, watch_of_world}
use Rattle.am_lawful_defs.specs.declared.views.DecidedView.{DecidedView}
use Rattle.am_lawful_defs.specs.declared.views.NameStanding.{NameStanding}
use Rattle.am_lawful_defs.specs.declared.views.Pending.{Pending}
use Rattle.am_lawful_defs.specs.Watching as kept
use Rattle.am_lawful_defs.specs.Watching.{Watching, standing, number_of_view, watching_at_start, watch_with_entry, watching_with_entries, watch_step, note_stop, pass_event, watch_accepts}

-- ---- what a node shows

abbrev pub standing_of : Node → NameStanding
standing_of n = record { status = n.status; view = view n; start = n.core.start; from = n.core.log.start }

-- the view in which its list ends
abbrev pub last_view_of_node : Node → DecidedView
last_view_of_node n = record {
  number = (image_of_node n).view_number;
  view = record { stamp = view n; members = members n; resilience = (image_of_node n).resilience };
}

abbrev pub decided_of_view : DecidedView → Decided
decided_of_view v = record { number = v.number; view = v.view }

-- ---- what is kept is so

-- the View of this stamp stands among the entries that the name stored
abbrev pub has_in_list : World → Stamp → ℕ → Bool
has_in_list w v name = list_any (is_view_of v) (w.nodes name).core.log.entries

-- who stored a view, and where it stands in the group list up to here
pub record IsNoted (w : World) (group : List Entry) (v : Pending) : Type 0 where
  pub stored : (name : ℕ) → slice_index_or v.stored name false ≡ has_in_list w v.decided.view.stamp name
  pub places : length v.stored ≡ 256
  pub placed : v.number_in_group ≡ number_of_view v.decided.view.stamp 1 group

-- each of a list
unfoldable pub HoldsOfEach : {A : Type 0} → (A → Type 0) → List A → Type 0
HoldsOfEach P [] = Unit {0}
HoldsOfEach P (x ∷ xs) = P x × HoldsOfEach P xs

-- the view comes after another
abbrev pub comes_after : Stamp → Decided → Bool
comes_after stamp v = stamp_is_less stamp v.stamp

-- of each name what its node shows, and no list begins above the group list up to here
pub record WatchSees (k : Watching) (w : World) (group : List Entry) : Type 0 where
  pub names : (name : ℕ) → standing k name ≡ standing_of (w.nodes name)
  pub places : length k.names ≡ 256
  pub stopped : k.stopped ≡ w.stopped
  pub within : (name : ℕ) → (w.nodes name).core.log.start ≤ length group
  pub more : List Entry
  pub goes_on : w.group ≡ group ++ more

-- the views above the greatest complete one, none of which is complete, and all else, with the group list up to here
pub record WatchesUpTo (group : List Entry) (k : Watching) (s : Watch) : Type 0 where
  pub sees : WatchSees k s.world group
  pub due : k.is_due ≡ false
  pub noted : HoldsOfEach (IsNoted s.world group) k.pending
  pub pending : map (λ v. decided_of_view v.decided) k.pending ≡ filter (comes_after s.complete.stamp) s.world.views
  pub rest : HoldsOfEach (λ v. kept.watch_is_complete k v ≡ false) k.pending
  pub complete : decided_of_view k.complete ≡ s.complete
  pub count : k.count ≡ s.count
  pub broken : k.broken ≡ s.broken
  pub lawful : k.broken ≡ None → kept.watch_is_lawful k k.complete ≡ true

abbrev pub Watches : Watching → Watch → Type 0
Watches k s = WatchesUpTo s.world.group k s

-- ---- events

-- the watched run after an event that comes to this world
abbrev pub watch_after : Watch → World → Watch
watch_after s w = watch_of_world s w (greatest_complete w s.complete w.views)

-- nobody has the View of this stamp
pub record StampIsNew (w : World) (v : Stamp) : Type 0 where
  pub lists : (name : ℕ) → has_in_list w v name ≡ false
  pub group : list_any (is_view_of v) w.group ≡ false

-- a name's step comes to this node, and stored these entries: the Views in its list are those before, and theirs; its list
-- begins within the group list; and the View of a view that it decided is a new one
pub record NameSteps (w : World) (name : ℕ) (n : Node) (entries : List Entry) : Type 0 where
  pub within : name < 256
  pub own : n.core.who ≡ name
  pub views : (v : Stamp) → list_any (is_view_of v) n.core.log.entries ≡ (has_in_list w v name || list_any (is_view_of v) entries)
  pub begins : n.core.log.start ≤ length w.group
  pub new : step_decides_view (w.nodes name) n ≡ true → StampIsNew w (view n)

-- what a node adds to the group list: in a view of its own all that it accepted beyond it
abbrev pub entries_added_to_group : List Entry → Node → List Entry
entries_added_to_group group n = if (view n).by == n.core.who then take (n.core.acc - length group) (drop (length group - n.core.log.start) n.core.log.entries) else []

-- the world after it, where the group list goes on by these entries
pub record SteppedTo (w v : World) (name : ℕ) (n : Node) (more : List Entry) : Type 0 where
  pub nodes : v.nodes ≡ map_with_value w.nodes name n
  pub stopped : v.stopped ≡ w.stopped
  pub views : v.views ≡ views_after w.views (w.nodes name) n
  pub group : v.group ≡ w.group ++ more

-- the world after an event that changed nothing that is watched, but who stopped
pub record SameButWhoStopped (w v : World) (gone : List ℕ) : Type 0 where
  pub nodes : v.nodes ≡ w.nodes
  pub stopped : v.stopped ≡ gone
  pub views : v.views ≡ w.views
  pub group : v.group ≡ w.group

-- ---- the laws

-- what is kept of a run without events is that of one
abbrev pub BeginningIsWatched : Type 0
BeginningIsWatched = (rules : Rules) → MayFound rules → Watches (watching_at_start rules) (watch_start rules)

-- what is kept goes on with a run through each kind of event
abbrev pub StepsAreWatched : Type 0
StepsAreWatched = (k : Watching) (s : Watch) (w : World) (name : ℕ) (n : Node) (entries more : List Entry)
    → Watches k s → NameSteps s.world name n entries → SteppedTo s.world w name n more
    → Watches (watch_accepts (watch_step k name (standing_of n) (last_view_of_node n) entries) (length s.world.group + 1) more) (watch_after s w)

abbrev pub StopsAreWatched : Type 0
StopsAreWatched = (k : Watching) (s : Watch) (w : World) (name : ℕ)
    → Watches k s → SameButWhoStopped s.world w (s.world.stopped ++ name ∷ []) → Watches (note_stop k name) (watch_after s w)

abbrev pub OthersAreWatched : Type 0
OthersAreWatched = (k : Watching) (s : Watch) (w : World)
    → Watches k s → SameButWhoStopped s.world w s.world.stopped → Watches (pass_event k) (watch_after s w)

-- the entries of a step, and those of the group list, one after another
abbrev pub EntriesGoOn : Type 0
EntriesGoOn = (k : Watching) (name : ℕ) (xs : List Entry) (e : Entry)
    → watching_with_entries k name (xs ++ e ∷ []) ≡ watch_with_entry (watching_with_entries k name xs) name e

abbrev pub AcceptedGoesOn : Type 0
AcceptedGoesOn = (k : Watching) (number : ℕ) (xs ys : List Entry)
    → watch_accepts k number (xs ++ ys) ≡ watch_accepts (watch_accepts k number xs) (number + length xs) ys
