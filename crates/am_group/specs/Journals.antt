-- A journal: what happened in a group, record by record, and its letters by number.
use Rattle.std.specs.Prelude.{ℕ, zero, suc, List, Option, None, slice_get}
use Rattle.std.specs.List.{flat_map}
use Rattle.am_base.specs.declared.outcome.Outcome.{Outcome}
use Rattle.am_packet.specs.Boxes.{Letter}
use Rattle.am_group.specs.declared.event.By.{By}
use Rattle.am_group.specs.declared.event.Event.{Event}
use Rattle.am_group.specs.declared.event.Part.TheVariants.{Call}
use Rattle.am_group.specs.declared.event.Record.{Record}

-- whose event it is that no caller did
abbrev pub no_caller : By
no_caller = record { caller = 0; call = 0; part = Call }

-- the record of an event that no caller did
abbrev pub record_without_caller : Event → ℕ → Outcome → List Letter → Record
record_without_caller e life outcome letters = record { event = e; life = life; by = no_caller; outcome = outcome; packets = letters }

-- all letters that the records sent, in order
abbrev pub letters_of_records : List Record → List Letter
letters_of_records records = flat_map (λ r. r.packets) records

-- an item by its number, from 1
abbrev pub item_at : {A : Type 0} → List A → ℕ → Option A
item_at items zero = None
item_at items (suc before) = slice_get items before

-- a letter by its number
abbrev pub letter_at : List Letter → ℕ → Option Letter
letter_at letters number = item_at letters number
