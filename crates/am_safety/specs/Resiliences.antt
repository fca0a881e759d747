-- That no View of a run has less resilience than the founding.
use Rattle.std.specs.Prelude.{◌≡◌, ◌⊎◌, ℕ, ◌<◌, ◌≤◌, List, [], ◌∷◌, Some, true, All}
use Rattle.am_base.specs.Founding.{Rules, MayFound}
use Rattle.am_base.specs.Lists.{Log, blank, top_of_log}
use Rattle.am_base.specs.declared.image.Image.{Image}
use Rattle.am_base.specs.declared.entry.Entry.{Entry}
use Rattle.am_base.specs.declared.entry.Entry.TheVariants as entries
use Rattle.am_base.specs.declared.outcome.Outcome.{Outcome}
use Rattle.am_base.specs.declared.outcome.Outcome.TheVariants as said
use Rattle.am_packet.specs.Boxes.{Letter}
use Rattle.am_packet.specs.declared.packet.Packet.{Packet}
use Rattle.am_packet.specs.declared.packet.Packet.TheVariants as packet
use Rattle.am_group.specs.declared.event.Event.{Event}
use Rattle.am_group.specs.declared.event.Record.{Record}
use Rattle.am_model.specs.Node.{Node, Ballot, has_log_by_status}
use Rattle.am_model.specs.Receiving.{is_view}
use Rattle.am_group_defs.specs.World.{World, run}

-- ---- entries

abbrev pub IsRaised : Rules → Entry → Type 0
IsRaised rules (entries.View v) = rules.resilience ≤ v.resilience
IsRaised rules _ = Unit {0}

-- nor has one that is given out
abbrev pub GivesRaised : Rules → Outcome → Type 0
GivesRaised rules (said.Took number entry) = IsRaised rules entry
GivesRaised rules _ = Unit {0}

abbrev pub GaveRaised : Rules → Record → Type 0
GaveRaised rules r = GivesRaised rules r.outcome

-- ---- lists

-- what a list begins with: from nought on it tells nothing, and later no less resilience
abbrev pub ListBeginsWithFoundingResilience : Rules → ℕ → Image → Type 0
ListBeginsWithFoundingResilience rules start image = ((start ≡ 0) × (image ≡ blank)) ⊎ ((0 < start) × (rules.resilience ≤ image.resilience))

abbrev pub FirstIsView : List Entry → Type 0
FirstIsView [] = Unit {0}
FirstIsView (e ∷ es) = is_view e ≡ true

-- entry 1 is a View
pub record ListRaised (rules : Rules) (log : Log) : Type 0 where
  pub begins : ListBeginsWithFoundingResilience rules log.start log.image
  pub first : log.start ≡ 0 → FirstIsView log.entries
  pub entries : All (IsRaised rules) log.entries

-- who has or had a list promised a round that isn't 0, and who has a ballot has a list with entries
pub record NodeRaised (rules : Rules) (m : Node) : Type 0 where
  pub list : ListRaised rules m.core.log
  pub promised : has_log_by_status m.status ≡ true → 0 < m.core.promise.round
  pub balloted : (b : Ballot) → m.ballot ≡ Some b → (has_log_by_status m.status ≡ true) × (0 < top_of_log m.core.log)

-- ---- letters

-- what a joiner's list begins with, what is fetched, and the View that a ballot decided
abbrev pub PacketRaised : Rules → Packet → Type 0
PacketRaised rules (packet.Welcome s v base join image) = (0 < v.round) × ListBeginsWithFoundingResilience rules base image
PacketRaised rules (packet.Piece s v base number e) = IsRaised rules e × (number ≡ 1 → is_view e ≡ true)
PacketRaised rules (packet.Result s base number v) = 0 < number → rules.resilience ≤ v.resilience
PacketRaised rules _ = Unit {0}

abbrev pub LetterRaised : Rules → Letter → Type 0
LetterRaised rules letter = PacketRaised rules letter.packet

-- ---- runs

pub record RunRaised (rules : Rules) (w : World) : Type 0 where
  pub each : (name : ℕ) → NodeRaised rules (w.nodes name)
  pub letters : All (LetterRaised rules) w.letters
  pub group : All (IsRaised rules) w.group
  pub given : All (GaveRaised rules) w.records

-- whoever stops
abbrev pub ResiliencesHold : Type 0
ResiliencesHold = (rules : Rules) (events : List Event) → MayFound rules → RunRaised rules (run rules events)
