-- What is trimmed was taken: by each Member that runs and isn't leaving, or it is below the Join of such a member.
use Rattle.std.specs.Prelude.{◌≡◌, ℕ, ◌+◌, ◌-◌, ◌<◌, ◌≤◌, max, List, slice_get, Some, true, false}
use Rattle.am_base.specs.Founding.{Rules, MayFound}
use Rattle.am_packet.specs.declared.packet.Packet.{Packet}
use Rattle.am_packet.specs.declared.packet.Packet.TheVariants as packet
use Rattle.am_packet.specs.Boxes.{Letter}
use Rattle.am_group.specs.declared.event.Event.{Event}
use Rattle.am_model.specs.Node.{Node, is_member, has_departed}
use Rattle.am_model.specs.Refresh.{refresh_at_end}
use Rattle.am_group_defs.specs.Lawful.{lawful_front}
use Rattle.am_group_defs.specs.World.{World, is_stopped, run}

-- up to where the sender of a packet has trimmed, where the packet tells it
abbrev pub base_of_packet : Packet → ℕ
base_of_packet (packet.Bcast s v base acc number e) = base
base_of_packet (packet.Order s v base acc number from req) = base
base_of_packet (packet.Accept s v base acc high poll) = base
base_of_packet (packet.Hold s v base high req) = base
base_of_packet (packet.Welcome s v base join image) = base
base_of_packet (packet.Piece s v base number e) = base
base_of_packet (packet.Result s base number v) = base
base_of_packet _ = 0

-- a Member that runs and isn't leaving
pub record RunsAndStays (w : World) (name : ℕ) : Type 0 where
  pub small : name < 256
  pub member_ : is_member (w.nodes name).status ≡ true
  pub runs : is_stopped w name ≡ false
  pub stays : (w.nodes name).leaving ≡ false

-- what a node's application has taken, or what is below its Join
abbrev pub taken_or_below_join : Node → ℕ
taken_or_below_join m = max m.core.taken (m.core.start - 1)

-- no node that hasn't departed has trimmed more, whether it runs or not
abbrev pub BasesAreTaken : Type 0
BasesAreTaken = (rules : Rules) (events : List Event) (q name : ℕ) → MayFound rules → lawful_front rules events ≡ events → q < 256
    → has_departed ((run rules events).nodes q).status ≡ false → RunsAndStays (run rules events) name
    → ((run rules events).nodes q).core.base ≤ taken_or_below_join ((run rules events).nodes name)

-- and no letter tells a greater base
abbrev pub ToldBasesAreTaken : Type 0
ToldBasesAreTaken = (rules : Rules) (events : List Event) (k name : ℕ) (letter : Letter) → MayFound rules → lawful_front rules events ≡ events
    → slice_get (run rules events).letters k ≡ Some letter → RunsAndStays (run rules events) name
    → base_of_packet letter.packet ≤ taken_or_below_join ((run rules events).nodes name)

-- nor does a name that runs trim more at the end of a step
abbrev pub TrimsAreTaken : Type 0
TrimsAreTaken = (rules : Rules) (events : List Event) (q name : ℕ) → MayFound rules → lawful_front rules events ≡ events → q < 256
    → has_departed ((run rules events).nodes q).status ≡ false → is_stopped (run rules events) q ≡ false → RunsAndStays (run rules events) name
    → (refresh_at_end ((run rules events).nodes q)).core.base ≤ taken_or_below_join ((run rules events).nodes name)

-- a member that has come to its Join: its application has passed over all entries below
abbrev pub HasComeToJoin : Node → Type 0
HasComeToJoin m = m.core.start ≤ m.core.taken + 1

-- so such a member has taken what a name that runs trims
abbrev pub MembersHaveTakenTrims : Type 0
MembersHaveTakenTrims = (rules : Rules) (events : List Event) (q name : ℕ) → MayFound rules → lawful_front rules events ≡ events → q < 256
    → has_departed ((run rules events).nodes q).status ≡ false → is_stopped (run rules events) q ≡ false → RunsAndStays (run rules events) name
    → HasComeToJoin ((run rules events).nodes name)
    → (refresh_at_end ((run rules events).nodes q)).core.base ≤ ((run rules events).nodes name).core.taken
