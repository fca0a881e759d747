-- What a history shows, and how its ring keeps it.
use Rattle.std.specs.Prelude.{◌≡◌, ℕ, ◌+◌, List, map, slice_get, Some}
use Rattle.am_base.specs.declared.image.Image.{Image}
use Rattle.am_base.specs.declared.entry.Entry.{Entry}
use Rattle.am_base.specs.Lists.{Log, log_members_at, image_of_log}
use Rattle.am_node_defs.specs.Kept.{IsKept}
use Rattle.am_node_storage.specs.declared.history.Slot.{Slot}

-- a list from its base on, and how many entries may be kept
pub record HistoryState : Type 0 where
  pub list : Log
  pub capacity : ℕ

abbrev pub slot_entries : List Slot → List Entry
slot_entries slots = map (λ slot. slot.entry) slots

abbrev pub log_of_slots : ℕ → Image → List Slot → Log
log_of_slots base image slots = record { start = base; image = image; entries = slot_entries slots }

-- each slot has the members after its entry
pub record SlotsHaveMembers (list : Log) (slots : List Slot) : Type 0 where
  pub after : (place : ℕ) (slot : Slot) → slice_get slots place ≡ Some slot → slot.members ≡ log_members_at list (list.start + (place + 1))

-- the slots are those of the list above a base, beside what is told at its base and at its top
pub record IsRing (base : ℕ) (below above : Image) (slots : List Slot) (capacity : ℕ) : Type 0 where
  pub told : above ≡ image_of_log (log_of_slots base below slots)
  pub members : SlotsHaveMembers (log_of_slots base below slots) slots
  pub kept : IsKept (log_of_slots base below slots) capacity
