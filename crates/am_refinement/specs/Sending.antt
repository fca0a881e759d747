-- What is known of who sends, and that what it sends is so.
use Rattle.std.specs.Prelude.{◌≡◌, ℕ, ◌<◌, ◌≤◌, List, [], Some, true, false, slice_get}
use Rattle.am_base.specs.declared.name.Stamp.{Stamp}
use Rattle.am_base.specs.declared.entry.Entry.TheVariants.{Data}
use Rattle.am_base.specs.declared.outcome.Outcome.TheVariants as said
use Rattle.am_base.specs.declared.event.NodeEvent.{NodeEvent}
use Rattle.am_base.specs.Names.{has}
use Rattle.am_base.specs.Lists.{row_at_place}
use Rattle.am_packet.specs.declared.packet.Packet.{Packet}
use Rattle.am_packet.specs.declared.packet.Packet.TheVariants as packet
use Rattle.am_base.specs.Whole.{key_of_stamp}
use Rattle.am_abstract_group.specs.Group.{Group, IsThere}
use Rattle.am_abstract_group.specs.Kept.{GroupKeeps}
use Rattle.am_model.specs.Node.{Node, Ballot, top, image_of_node, is_sequencer, has_log_by_status}
use Rattle.am_model.specs.declared.status.Status.TheVariants.{Departed}
use Rattle.am_model.specs.Calls.{is_unfinished_ballot}
use Rattle.am_model.specs.Step.{step, hear_packet, hear_refused_bytes}
use Rattle.am_model.specs.Refresh.{concerned_names}
use Rattle.am_group_defs.specs.World.{Decided, World}
use Rattle.am_step_laws.specs.Causes.{Cause, hears}
use Rattle.am_step_laws.specs.Looks.{HasOpenBallot}
use Rattle.am_step_laws.specs.Letters.{HasOwnSend, Says}
use Rattle.am_refinement.specs.Standing.{NameStands, FrontsStand, ViewsStand}
use Rattle.am_refinement.specs.Letters.{Trimmed, AllShown, WasAsked, FetchSays, PacketSays}
use Rattle.am_refinement.specs.Moving.{MovesLeadTo}
use Rattle.am_refinement.specs.States.{OwnDecided, ReportsStand, LinesOpen, RoundsAreSet, LeftOutHaveStopped}

-- a life of a place where somebody joined isn't none
abbrev pub RowsLive : Node → Type 0
RowsLive n = (name : ℕ) → (row_at_place (image_of_node n) name).life ≡ 0 → (row_at_place (image_of_node n) name).joined ≡ 0

-- what the group keeps
pub record KeptWhole (s : Group) : Type 0 where
  pub kept : GroupKeeps s
  pub opens : LinesOpen s
  pub rounds : RoundsAreSet s
  pub left_out : LeftOutHaveStopped s

-- its numbers stand in their order; what was accepted before the step is accepted
pub record NumbersStand (m n : Node) : Type 0 where
  pub kept : n.core.log.start ≤ n.core.base
  pub base : n.core.base ≤ n.core.taken
  pub taken : n.core.taken ≤ n.core.acc
  pub within : n.core.acc ≤ top n
  pub accepted : m.core.acc ≤ n.core.acc

-- where its list begins is no higher than what it had trimmed before; or it has just begun, and then it doesn't lead, and heard no Fetch
pub data ListBegins (c : Cause) (m n : Node) : Type 0 where
  as_before : n.core.log.start ≤ m.core.base → ListBegins c m n
  just_begun : is_sequencer n ≡ false → ((from stored : ℕ) (u : Stamp) → c ≡ hears (packet.Fetch from u stored) → ⊥) → ListBegins c m n

-- what a sequencer knows of its names
pub record LeaderStands (s : Group) (i : ℕ) (n : Node) : Type 0 where
  pub names : (j : ℕ) → has (concerned_names n) j ≡ true → j < 256
  pub reports : ReportsStand s i n
  -- its last View stands in its log
  pub viewed : n.core.log.start < (image_of_node n).view_number

-- what it has of ballots: who has no log has none, and who fetches has been shown all that it needs
pub record BallotSendsStand (s : Group) (i : ℕ) (n : Node) : Type 0 where
  pub blank : (b : Ballot) → n.ballot ≡ Some b → has_log_by_status n.status ≡ true
  pub own : OwnDecided n
  pub fetches : (b : Ballot) (from want : ℕ) → HasOpenBallot n b → b.answer ≡ said.Fetching from want → (n.core.promise.by ≡ i) × AllShown s n.core.promise from

-- what it passes on was sent as this request
pub record SendsStand (v : World) (i : ℕ) (n : Node) : Type 0 where
  pub own : (req : ℕ) (body : List ℕ) → HasOwnSend n req body → WasAsked v i req body
  pub numbered : (index from req : ℕ) (body : List ℕ) → slice_get n.core.log.entries index ≡ Some (Data from req body) → WasAsked v from req body

-- a name that is there, as it is after its step (before it m), with what made it do the step
pub record Sender (v : World) (i : ℕ) (c : Cause) (m n : Node) (s : Group) : Type 0 where
  pub group : KeptWhole s
  pub stands : NameStands v i n (s.node i)
  pub there : IsThere (s.node i)
  pub fronts : FrontsStand n (s.node i)
  pub views : ViewsStand v s.views
  pub noted : (k : ℕ) (d : Decided) → slice_get v.views k ≡ Some d → d.stamp.by < 256
  pub who : n.core.who ≡ i
  pub small : n.core.promise.by < 256
  pub begun : key_of_stamp n.core.promise ≤ key_of_stamp (s.node n.core.promise.by).promise
  pub lives : RowsLive n
  pub trimmed : Trimmed s n.core.base
  pub numbers : NumbersStand m n
  pub start : ListBegins c m n
  pub leader : is_sequencer n ≡ true → LeaderStands s i n
  pub ballots : BallotSendsStand s i n
  pub sends : SendsStand v i n
  -- a Fetch that it hears was sent to it
  pub asked : (from stored : ℕ) (u : Stamp) → c ≡ hears (packet.Fetch from u stored) → (to : List ℕ) × (has to i ≡ true) × FetchSays s from u to

-- the group is the same but for what was shown and served
pub record ShowsMore (s t : Group) : Type 0 where
  pub node : t.node ≡ s.node
  pub views : t.views ≡ s.views
  pub group_ : t.group ≡ s.group

pub record SaysSo (v : World) (to : List ℕ) (p : Packet) (s t : Group) : Type 0 where
  pub same : ShowsMore s t
  pub says : PacketSays v t to p

-- each letter that it sends is so, once a voter has shown what it tells, and served what it sends of
abbrev pub SentSays : Type 0
SentSays = (v : World) (i : ℕ) (c : Cause) (m n : Node) (s : Group) (to : List ℕ) (p : Packet) → Sender v i c m n s → Says m c n to p
    → MovesLeadTo (SaysSo v to p s) s

-- ---- who has departed

-- no call, no packet and no bytes make it send
pub record SendsNothing (m : Node) : Type 0 where
  pub calls_ : (event : NodeEvent) → (step m event).letters ≡ []
  pub hears_ : (p : Packet) → (hear_packet m p).letters ≡ []
  pub refuses_ : (cause : ℕ) → (hear_refused_bytes m cause).letters ≡ []

-- where no ballot is left open
abbrev pub DepartedSilent : Type 0
DepartedSilent = (m : Node) → m.status ≡ Departed → is_unfinished_ballot m.ballot ≡ false → SendsNothing m
