-- How high the numbers of a run are.
use Rattle.std.specs.Prelude.{◌≡◌, ℕ, ◌+◌, ◌≤◌, List, length, Some}
use Rattle.am_base.specs.Founding.{Rules}
use Rattle.am_packet.specs.Boxes.{Letter}
use Rattle.am_group.specs.declared.event.Event.{Event}
use Rattle.am_group.specs.Journals.{letter_at}
use Rattle.am_model.specs.Node.{Node, top}
use Rattle.am_group_defs.specs.World.{run}
use Rattle.am_step_laws.specs.Packets.{PacketIsWithinBounds}

-- of a node, after k events, where the group has accepted g entries
pub record NodeNumbers (k g : ℕ) (m : Node) : Type 0 where
  pub entries : top m ≤ k + 1
  pub round : m.core.promise.round ≤ k + 1
  pub requests : m.sends.last ≤ k
  -- in order
  pub kept : m.core.log.start ≤ m.core.base
  pub given : m.core.taken ≤ m.core.acc
  pub accepted : m.core.acc ≤ top m
  -- and nothing that the group hasn't accepted
  pub told : m.core.told ≤ g
  pub acc : m.core.acc ≤ g
  pub base : m.core.base ≤ g
  pub start : m.core.start ≤ g

pub record RunNumbers (rules : Rules) (events : List Event) : Type 0 where
  pub each : (name : ℕ) → NodeNumbers (length events) (length (run rules events).group) ((run rules events).nodes name)
  pub group : length (run rules events).group ≤ length events + 1
  pub letters : (number : ℕ) (letter : Letter) → letter_at (run rules events).letters number ≡ Some letter
      → PacketIsWithinBounds (record { lists = length events + 1; rounds = length events + 1; requests = length events }) (length (run rules events).group) letter.packet

-- whoever founds, and whatever happens
abbrev pub NumbersAreBounded : Type 0
NumbersAreBounded = (rules : Rules) (events : List Event) → RunNumbers rules events
