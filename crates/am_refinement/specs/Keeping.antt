-- What a node keeps besides what it shares with the group, what is known of it within a step, and that it stays so.
use Rattle.std.specs.Prelude.{◌≡◌, ℕ, ◌+◌, ◌<◌, ◌≤◌, List, length, Option, Some, None, slice_get, true, false}
use Rattle.am_base.specs.declared.entry.Entry.{Entry}
use Rattle.am_base.specs.declared.image.Vote.{Vote}
use Rattle.am_base.specs.declared.outcome.Outcome.{Outcome}
use Rattle.am_base.specs.declared.event.NodeEvent.TheVariants.{GiveUp}
use Rattle.am_base.specs.Founding.{Rules}
use Rattle.am_base.specs.Names.{has}
use Rattle.am_packet.specs.declared.packet.Packet.{Packet}
use Rattle.am_base.specs.Lists.{requests_of_sender}
use Rattle.am_node_defs.specs.Sends as own
use Rattle.am_base.specs.Whole.{IsBeginningOf, IsGoodList}
use Rattle.am_abstract_group.specs.Group.{Group}
use Rattle.am_abstract_group.specs.Runs.{Run}
use Rattle.am_model.specs.Node.{Node, Ballot, lowest_name_or_zero, has_log_by_status}
use Rattle.am_model.specs.Refresh.{refresh}
use Rattle.am_group_defs.specs.World.{Decided, World, start, first_node, is_stopped}
use Rattle.am_step_laws.specs.Causes.{Cause, calls, hears}
use Rattle.am_step_laws.specs.Changes.{Change, refreshes, closes}
use Rattle.am_step_laws.proofs.Trimming.Taken.{HeardWelcomeImageIsUsed}
use Rattle.am_step_laws.proofs.Trimming.TakenRuns.{TrimsOnlyTakenAlongStep}
use Rattle.am_step_laws.proofs.ViewNames.{HeardStampsHaveNames}
use Rattle.am_packet.specs.Spelling.{stamp_of}
use Rattle.am_run_laws.proofs.SentKept as sent
use Rattle.am_run_laws.proofs.SentChanges.{CauseCarriesSentBodies}
use Rattle.am_run_laws.proofs.Turns.{UnsettledSendsAreInTurn}
use Rattle.am_refinement.specs.Standing.{NameStands, StandsBut, Stands, within}
use Rattle.am_refinement.specs.Letters.{Trimmed, PacketSays}
use Rattle.am_refinement.specs.Growing.{Grows}
use Rattle.am_refinement.specs.Moving.{Moves}
use Rattle.am_refinement.specs.States.{VotesStand, FetchesStand, ReportsStand, ReportsFresh, OpensStand, SendsOnce}
use Rattle.am_refinement.specs.Steps.{WasBegun, FrontsAfter, after_change}
use Rattle.am_refinement.specs.Branches.{BranchesAreSound, ChainNamed}

-- ---- the group

-- what is so of a group that stands for a run of the definitions
pub record GroupOk (founders : List ℕ) (first resilience : ℕ) (s : Group) : Type 0 where
  pub run : Run founders first resilience s
  pub branches : BranchesAreSound s
  pub named : ChainNamed s

abbrev pub GroupFor : Rules → Group → Type 0
GroupFor rules s = GroupOk rules.founders (lowest_name_or_zero rules.founders) rules.resilience s

-- ---- a node

-- only stopped names are given up, and views of votes are of names
pub record BallotStands (w : World) (b : Ballot) : Type 0 where
  pub given : (j : ℕ) → b.given_up j ≡ true → is_stopped w j ≡ true
  pub names : (j : ℕ) (vote : Vote) → b.votes j ≡ Some vote → (j < 256) × (vote.view.by < 256)

abbrev pub LastStands : World → Option Ballot → Type 0
LastStands w None = Unit {0}
LastStands w (Some b) = BallotStands w b

-- what isn't settled are the next requests up to the last, and the first of them is at most the one after those that the name's list has
pub record OwnTurn (who : ℕ) (list : List Entry) (sends : own.Sends) : Type 0 where
  pub next : ℕ
  pub turn : UnsettledSendsAreInTurn next next sends.queue sends.last
  pub low : next ≤ 1 + length (requests_of_sender who list)

-- its votes and its fetches stand, and those that it gave up have stopped
pub record Ballots (w : World) (s : Group) (ballot : Option Ballot) : Type 0 where
  pub votes : VotesStand s ballot
  pub fetches : FetchesStand s ballot
  pub last : LastStands w ballot

pub record NodeStandsKept (w : World) (s : Group) (i : ℕ) (x : Node) : Type 0 where
  pub good : IsGoodList (s.node i).list
  pub ballots : Ballots w s x.ballot
  pub open ballots use *
  pub opens : OpensStand x
  pub reports : ReportsStand s i x
  pub fresh : ReportsFresh x
  pub trimmed : Trimmed s x.core.base
  pub turn : OwnTurn x.core.who (s.node i).list x.sends
  pub leaves : x.leaving ≡ true → has_log_by_status x.status ≡ true

-- ---- within a step

-- a packet that is heard was sent to this name
pub record HeardSo (w : World) (s : Group) (name : ℕ) (p : Packet) : Type 0 where
  pub to : List ℕ
  pub addressed : has to name ≡ true
  pub says : PacketSays w s to p

-- the name that does a step, and the names and the images in what it hears, in any world
pub record StepOf (name : ℕ) (c : Cause) : Type 0 where
  pub few : name < 256
  pub names : HeardStampsHaveNames c
  pub used : HeardWelcomeImageIsUsed c

-- the world has the step's record already
pub record Stepping (rules : Rules) (w : World) (name : ℕ) (c : Cause) (x : Node) (s : Group) : Type 0 where
  pub group : GroupFor rules s
  pub stands : StandsBut name (within w name x) s
  pub by : StepOf name c
  pub open by use *
  pub who : x.core.who ≡ name
  pub runs : is_stopped w name ≡ false
  pub stopped : (j : ℕ) → is_stopped w j ≡ true → j < 256
  pub noted : (k : ℕ) (d : Decided) → slice_get w.views k ≡ Some d → d.stamp.by < 256
  pub along : TrimsOnlyTakenAlongStep rules x
  pub sent : sent.NodeBodiesWereSent w.records name x
  pub once : SendsOnce w
  pub begun : (p : Packet) → c ≡ hears p → WasBegun s (stamp_of p)
  pub heard : (p : Packet) → c ≡ hears p → HeardSo w s name p
  pub given : (other : ℕ) → c ≡ calls (GiveUp other) → is_stopped w other ≡ true
  pub keeps : NodeStandsKept w s name x
  pub accepted : x.core.acc ≤ length w.group

-- ---- a change

-- no refresh, nor the last member's end
abbrev pub IsPlainOnEnd : {c : Cause} {o : Outcome} {x y : Node} → Change c o x y → Type 0
IsPlainOnEnd refreshes = ⊥
IsPlainOnEnd (closes leads_ leaves alone_ room) = ⊥
IsPlainOnEnd _ = Unit {0}

-- the group that it leads to
pub record Next (rules : Rules) (w : World) (name : ℕ) (c : Cause) (o : Outcome) (x y : Node) (s : Group) (z : Change c o x y) : Type 0 where
  pub to : Group
  pub path : Moves s to
  pub grows : Grows s to
  pub goes : Stepping rules (after_change z w) name c y to
  pub fronts : FrontsAfter z name s to

-- each change that is plain is moves of the group, to one of which all that is known within the step is so again
abbrev pub PlainChangesKeepStepping : Type 0
PlainChangesKeepStepping = (rules : Rules) (w : World) (name : ℕ) (c : Cause) (o : Outcome) (x y : Node) (s : Group) (z : Change c o x y) → IsPlainOnEnd z
    → Stepping rules w name c x s → CauseCarriesSentBodies w.records name o c → Next rules w name c o x y s z

-- ---- a refresh

pub record Refreshing (v : World) (name : ℕ) (x : Node) (s t : Group) : Type 0 where
  pub runs : is_stopped v name ≡ false
  pub stands : NameStands (within v name (refresh x)) name (refresh x) (t.node name)
  pub list : (t.node name).list ≡ (s.node name).list
  pub accepted : (refresh x).core.acc ≤ length t.group

-- and a refresh keeps what a node keeps, once the group has accepted what it accepts
abbrev pub RefreshesKeep : Type 0
RefreshesKeep = (rules : Rules) (w v : World) (name : ℕ) (c : Cause) (x : Node) (s t : Group) → Stepping rules w name c x s → Grows s t
    → GroupFor rules t → Refreshing v name x s t → TrimsOnlyTakenAlongStep rules (refresh x) → NodeStandsKept w t name (refresh x)

-- ---- the others

-- a node that does nothing keeps it, while the group goes on and more names stop
abbrev pub OthersKeep : Type 0
OthersKeep = (w v : World) (s t : Group) (i : ℕ) (x : Node) → ((j : ℕ) → is_stopped w j ≡ true → is_stopped v j ≡ true) → Grows s t
    → NameStands w i x (s.node i) → NameStands v i x (t.node i) → IsBeginningOf w.group v.group → NodeStandsKept w s i x → NodeStandsKept v t i x

-- ---- the start

abbrev pub StartKeeps : Type 0
StartKeeps = (rules : Rules) (s : Group) → GroupFor rules s → Stands (start rules) s → (i : ℕ) → i < 256
    → NodeStandsKept (start rules) s i (first_node rules i)
