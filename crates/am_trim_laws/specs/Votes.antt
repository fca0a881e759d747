-- What a vote tells to be taken was taken by the voter.
use Rattle.std.specs.Prelude.{◌≡◌, ℕ, ◌<◌, ◌≤◌, List, Option, Some, None, All}
use Rattle.am_base.specs.declared.image.Vote.{Vote}
use Rattle.am_base.specs.Founding.{Rules, MayFound}
use Rattle.am_packet.specs.declared.packet.Packet.{Packet}
use Rattle.am_packet.specs.declared.packet.Packet.TheVariants as packet
use Rattle.am_packet.specs.Boxes.{Letter}
use Rattle.am_group.specs.declared.event.Event.{Event}
use Rattle.am_model.specs.Node.{Node, Ballot}
use Rattle.am_group_defs.specs.World.{World, run}

-- of a packet, where it is a vote
abbrev pub PacketVoteTellsTaken : (ℕ → Node) → Packet → Type 0
PacketVoteTellsTaken nodes (packet.Vote s v vote) = vote.taken ≤ (nodes s).core.taken
PacketVoteTellsTaken nodes _ = Unit {0}

-- of the votes that a ballot has kept
abbrev pub BallotVotesTellTaken : (ℕ → Node) → Option Ballot → Type 0
BallotVotesTellTaken nodes None = Unit {0}
BallotVotesTellTaken nodes (Some b) = (name : ℕ) (vote : Vote) → b.votes name ≡ Some vote → vote.taken ≤ (nodes name).core.taken

pub record WorldVotesTellTaken (w : World) : Type 0 where
  pub ballots : (i : ℕ) → i < 256 → BallotVotesTellTaken w.nodes (w.nodes i).ballot
  pub letters : All (λ (l : Letter). PacketVoteTellsTaken w.nodes l.packet) w.letters

-- in every run
abbrev pub VotesTellTaken : Type 0
VotesTellTaken = (rules : Rules) (events : List Event) → MayFound rules → WorldVotesTellTaken (run rules events)
