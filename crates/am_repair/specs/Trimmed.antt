-- What is known of the sequencer of a lawful run that may be repaired: who counts for what isn't accepted, and what it trimmed.
use Rattle.std.specs.Prelude.{◌≡◌, ℕ, ◌<◌, ◌≤◌, List, All, true}
use Rattle.am_base.specs.Founding.{Rules, MayFound}
use Rattle.am_base.specs.Names.{has, names_of}
use Rattle.am_base.specs.Fronts.{counting_names_at}
use Rattle.am_group.specs.declared.event.Event.{Event}
use Rattle.am_model.specs.Node.{Node, top, image_of_node, members}
use Rattle.am_group_defs.specs.World.{World, current, run}
use Rattle.am_group_defs.specs.Lawful.{lawful_front}
use Rattle.am_repair.specs.Claim.{MayRepair}

-- from the last View on, whose storage counts for what isn't accepted yet is a member still
abbrev pub CountsMembers : Node → Type 0
CountsMembers q = (number : ℕ) → q.core.acc < number → number ≤ top q → (image_of_node q).view_number ≤ number
    → All (λ name. has (members q) name ≡ true) (names_of (counting_names_at q.core.log number))

abbrev pub RepairableCounts : Type 0
RepairableCounts = (rules : Rules) (events : List Event) (place : ℕ) → MayFound rules → place < 16 → lawful_front rules events ≡ events
    → MayRepair (run rules events) place
    → CountsMembers ((run rules events).nodes (current (run rules events) place))

-- the sequencer trimmed no more than each member has taken
abbrev pub TrimsTaken : World → Node → Type 0
TrimsTaken w q = (name : ℕ) → has (members q) name ≡ true → q.core.base ≤ (w.nodes name).core.taken

abbrev pub RepairableTrims : Type 0
RepairableTrims = (rules : Rules) (events : List Event) (place : ℕ) → MayFound rules → place < 16 → lawful_front rules events ≡ events
    → MayRepair (run rules events) place
    → TrimsTaken (run rules events) ((run rules events).nodes (current (run rules events) place))
