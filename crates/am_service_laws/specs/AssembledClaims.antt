-- What is claimed of the messages of runs.
use Rattle.std.specs.Prelude.{◌≡◌, ◌≢◌, ℕ, ◌+◌, ◌-◌, ◌<◌, ◌≤◌, List, [], length, take, Some, slice_get}
use Rattle.am_base.specs.Names.{place_of_name}
use Rattle.am_base.specs.Founding.{Rules, MayFound}
use Rattle.am_base.specs.declared.entry.Entry.{Entry}
use Rattle.am_group.specs.declared.event.Event.{Event}
use Rattle.am_group.specs.declared.event.Record.{Record}
use Rattle.am_group.specs.Deliveries.{deliveries}
use Rattle.am_group_defs.specs.World.{World, run}
use Rattle.am_group_defs.specs.Group.{accepted_sends}
use Rattle.am_group_defs.specs.Claims.{BeginsAt, IsSend}
use Rattle.am_group_defs.specs.Lawful.{lawful_front}
use Rattle.am_service_defs.specs.Parts.{most_bytes_of_message, part_count, part_of}
use Rattle.am_service_defs.specs.Messages.{entries_of, from_place, EndsAt}

-- what a name was given
abbrev pub given_in : World → ℕ → List Entry
given_in w name = entries_of (deliveries w.records name)

-- a run up to its lawful front
abbrev pub world_at_front : Rules → List Event → World
world_at_front rules events = run rules (lawful_front rules events)

-- ---- what was given

-- a message that ends at a place of what a name was given ends in the group's list, at the number that this place has there
pub record Delivered (rules : Rules) (w : World) (name start : ℕ) : Type 0 where
  pub begins : BeginsAt rules w name start
  pub ends : (k from : ℕ) (message : List ℕ) → EndsAt (given_in w name) k from message → EndsAt w.group (start + k - 1) from message

abbrev pub DeliveredMessagesEnd : Type 0
DeliveredMessagesEnd = (rules : Rules) (events : List Event) (name : ℕ) → MayFound rules → deliveries (world_at_front rules events).records name ≢ []
    → (start : ℕ) × Delivered rules (world_at_front rules events) name start

-- a message that ends in the group's list, and all of whose parts a name was given, ends in what it was given
pub record Whole (rules : Rules) (w : World) (name start : ℕ) : Type 0 where
  pub begins : BeginsAt rules w name start
  pub ends : (k from : ℕ) (message : List ℕ) → EndsAt w.group (start + k - 1) from message → k ≤ length (given_in w name)
      → part_count (length message) ≤ length (from_place (place_of_name from) (take k (given_in w name))) → EndsAt (given_in w name) k from message

abbrev pub WholeMessagesAreDelivered : Type 0
WholeMessagesAreDelivered = (rules : Rules) (events : List Event) (name : ℕ) → MayFound rules → deliveries (world_at_front rules events).records name ≢ []
    → (start : ℕ) × Whole rules (world_at_front rules events) name start

-- ---- what was sent

-- the parts of a message were sent in order, with no other send of the name between them, and the last was answered as sent
pub record SentInParts (w : World) (name first number : ℕ) (message : List ℕ) : Type 0 where
  pub few : length message ≤ most_bytes_of_message
  pub sends : (index : ℕ) → index < part_count (length message) → (k : ℕ) × (r : Record) × (slice_get w.records k ≡ Some r)
      × IsSend r name (first + index) (part_of message index)
  pub answer : ℕ
  pub answered : slice_get (accepted_sends w.records) answer ≡ Some (record { name = name; req = first + part_count (length message) - 1; number = number })

abbrev pub SentMessagesEnd : Type 0
SentMessagesEnd = (rules : Rules) (events : List Event) (name first number : ℕ) (message : List ℕ) → MayFound rules
    → SentInParts (world_at_front rules events) name first number message → EndsAt (world_at_front rules events).group number name message
