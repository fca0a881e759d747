-- The group of a world as its users see it, and what an event may do to it. The steps themselves are am_group's.
use Rattle.std.specs.Prelude.{◌≡◌, ℕ, ◌+◌, ◌-◌, ◌<◌, ◌≤◌, List, [], ◌∷◌, length, map, Option, Some, None, max, if◌then◌else◌, slice_get, slice_index_or}
use Rattle.std.specs.List.{range_with_len}
use Rattle.am_base.specs.declared.entry.Entry.{Entry}
use Rattle.am_group.specs.declared.event.Record.{Record}
use Rattle.am_group.specs.Deliveries.{acting_name_of_record, entry_taken_by_outcome}
use Rattle.am_group.specs.Groups.{entry_above_front, list_with, fronts_with_admitted, fronts_after_take}
use Rattle.am_model.specs.Node.{Node, has_log_by_status}
use Rattle.am_group_defs.specs.World.{World}

-- the list, and the front of each of the 256 names that was admitted
pub record FrontsGroup : Type 0 where
  pub entries : List Entry
  pub fronts : List (Option ℕ)

-- what a name takes next, with its number
abbrev pub next_entry_of : FrontsGroup → ℕ → Option (ℕ × Entry)
next_entry_of g name = entry_above_front g.entries (slice_index_or g.fronts name None)

-- ---- moves

-- the list gets an entry; or a name that has no front yet is admitted at a number
pub data FrontsMove : FrontsGroup → FrontsGroup → Type 0 where
  append : {g : FrontsGroup} (e : Entry) → FrontsMove g (record g { entries = list_with g.entries e })
  admit : {g : FrontsGroup} (name number : ℕ) → slice_get g.fronts name ≡ Some None → 0 < number → number ≤ length g.entries + 1
      → FrontsMove g (record g { fronts = fronts_with_admitted g.fronts name number })

-- some of these in turn: no front that is there moves
pub data FrontsGrow : FrontsGroup → FrontsGroup → Type 0 where
  none : {g : FrontsGroup} → FrontsGrow g g
  more : {f g h : FrontsGroup} → FrontsMove f g → FrontsGrow g h → FrontsGrow f h

-- what is given out to a name was next for it, and its front goes on by as many
abbrev pub GivesOut : ℕ → List (ℕ × Entry) → FrontsGroup → FrontsGroup → Type 0
GivesOut name [] g h = h ≡ g
GivesOut name (given ∷ later) g h = (next_entry_of g name ≡ Some given) × GivesOut name later (record g { fronts = fronts_after_take g.fronts name (Some given) }) h

-- what a record does: its name takes what the record gave out, and nobody takes anything else
pub record EventMoves (r : Record) (g h : FrontsGroup) : Type 0 where
  pub between : FrontsGroup
  pub takes : GivesOut (acting_name_of_record r) (entry_taken_by_outcome r.outcome) g between
  pub grows : FrontsGrow between h

-- ---- the group of a world

-- what a node's application has taken, and of a joiner what it passed over
abbrev pub node_front : Node → Option ℕ
node_front m = if has_log_by_status m.status then Some (max m.core.taken (m.core.start - 1)) else None

abbrev pub group_of : World → FrontsGroup
group_of w = record { entries = w.group; fronts = map (λ name. node_front (w.nodes name)) (range_with_len 0 256) }
