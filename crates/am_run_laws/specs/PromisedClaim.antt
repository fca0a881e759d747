-- What is claimed of promises, and of the stamps of letters.
use Rattle.std.specs.Prelude.{◌≡◌, ◌⊎◌, ℕ, List, Some, false, slice_get}
use Rattle.am_base.specs.declared.name.Stamp.{Stamp}
use Rattle.am_base.specs.Stamps.{stamp_is_less, no_stamp}
use Rattle.am_base.specs.Founding.{Rules, MayFound}
use Rattle.am_packet.specs.Boxes.{Letter}
use Rattle.am_packet.specs.Spelling.{sender_of, stamp_of}
use Rattle.am_group.specs.declared.event.Event.{Event}
use Rattle.am_model.specs.Node.{Node}
use Rattle.am_group_defs.specs.World.{World, run}

-- the first stamp isn't above the second
abbrev pub StampIsAtMost : Stamp → Stamp → Type 0
StampIsAtMost a b = stamp_is_less b a ≡ false

-- a stamp that is none, or that its name has promised, or more since
abbrev pub StampIsBegun : (ℕ → Node) → Stamp → Type 0
StampIsBegun nodes v = (v ≡ no_stamp) ⊎ StampIsAtMost v (nodes v.by).core.promise

-- a letter's stamp is no more than its sender promises, and was begun
pub record LetterStampIsSound (nodes : ℕ → Node) (letter : Letter) : Type 0 where
  pub sender : StampIsAtMost (stamp_of letter.packet) (nodes (sender_of letter.packet)).core.promise
  pub begun : StampIsBegun nodes (stamp_of letter.packet)

pub record PromisesAreSound (w : World) : Type 0 where
  pub each : (name : ℕ) → StampIsBegun w.nodes (w.nodes name).core.promise
  pub letters : (k : ℕ) (letter : Letter) → slice_get w.letters k ≡ Some letter → LetterStampIsSound w.nodes letter

-- In each run of every founding each promise was begun by its name, and no letter has a stamp above its sender's promise.
abbrev pub PromisesAreBegun : Type 0
PromisesAreBegun = (rules : Rules) (events : List Event) → MayFound rules → PromisesAreSound (run rules events)
