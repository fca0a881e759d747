-- What is claimed of replicas in runs.
use Rattle.std.specs.Prelude.{◌≡◌, ◌≢◌, ◌↔◌, ℕ, ◌+◌, ◌-◌, ◌<◌, ◌≤◌, List, [], ◌∷◌, length, take, Some, None, true, false}
use Rattle.am_base.specs.declared.entry.Entry.{Entry}
use Rattle.am_base.specs.Limits.{NumberIsInRange}
use Rattle.am_base.specs.Names.{has, place_of_name}
use Rattle.am_base.specs.Founding.{Rules, MayFound}
use Rattle.am_group.specs.declared.event.Event.{Event}
use Rattle.am_group.specs.Deliveries.{deliveries}
use Rattle.am_model.specs.Node.{has_log_by_status}
use Rattle.am_group_defs.specs.World.{World, run}
use Rattle.am_group_defs.specs.Lawful.{lawful_front}
use Rattle.am_group_defs.specs.Claims.{BeginsAt}
use Rattle.am_service_defs.specs.Parts.{part_count}
use Rattle.am_service_defs.specs.Messages.{entries_of, from_place, message_at}
use Rattle.am_service_laws.specs.AssembledClaims.{SentInParts}
use Rattle.am_service_defs.specs.Contents.{Contents, contents_after}
use Rattle.am_service_defs.specs.Snapshots.{snapshot_of, snapshot_in}
use Rattle.am_service_defs.specs.Replicas.{first_snapshot, replica_contents}

-- the number of the last of some entries; this number, where there are none
abbrev pub last_number : ℕ → List (ℕ × Entry) → ℕ
last_number number [] = number
last_number number (pair ∷ pairs) = last_number pair.0 pairs

-- the number of the last entry that a name was given, 0 where it was given none
abbrev pub front_of_given : List (ℕ × Entry) → ℕ
front_of_given given = last_number 0 given

-- the contents of the group's list up to there
abbrev pub contents_up_to : List Entry → List (ℕ × Entry) → Contents
contents_up_to group given = contents_after group (front_of_given given)

-- no message that ends in what was given is a snapshot for this Join
abbrev pub NoSnapshot : ℕ → List (ℕ × Entry) → Type 0
NoSnapshot start given = (k name : ℕ) (message : List ℕ) (contents : Contents) → k ≤ length given
    → message_at (take k (entries_of given)) ≡ Some (name, message)
    → snapshot_in message ≢ Some (start, contents)

-- ---- who founded the group

abbrev pub FoundersHold : Type 0
FoundersHold = (rules : Rules) (events : List Event) (name : ℕ) → MayFound rules → has rules.founders name ≡ true
    → replica_contents 1 (deliveries (run rules (lawful_front rules events)).records name)
    ≡ Some (contents_up_to (run rules (lawful_front rules events)).group (deliveries (run rules (lawful_front rules events)).records name))

-- ---- who joined

pub record JoinerHolds (group : List Entry) (given : List (ℕ × Entry)) (start : ℕ) : Type 0 where
  -- the replica waits as long as no snapshot for its Join ended
  pub waits : (replica_contents start given ≡ None) ↔ NoSnapshot start given
  -- where the first that ended is right, so is the replica
  pub right : first_snapshot start given ≡ Some (contents_after group start) → replica_contents start given ≡ Some (contents_up_to group given)

abbrev pub JoinersHoldIn : Rules → World → Type 0
JoinersHoldIn rules w = (name start : ℕ) → has rules.founders name ≡ false → BeginsAt rules w name start
    → JoinerHolds w.group (deliveries w.records name) start

abbrev pub JoinersHold : Type 0
JoinersHold = (rules : Rules) (events : List Event) → MayFound rules → JoinersHoldIn rules (run rules (lawful_front rules events))

-- ---- each name that has or had a list

-- by the number at which the name's list begins
pub record ReplicaHolds (rules : Rules) (w : World) (name : ℕ) : Type 0 where
  pub begins : BeginsAt rules w name (w.nodes name).core.start
  -- the first entry that the name was given has that number
  pub first : (pair : ℕ × Entry) (rest : List (ℕ × Entry)) → deliveries w.records name ≡ pair ∷ rest → pair.0 ≡ (w.nodes name).core.start
  pub founder : has rules.founders name ≡ true
      → replica_contents (w.nodes name).core.start (deliveries w.records name) ≡ Some (contents_up_to w.group (deliveries w.records name))
  pub joiner : has rules.founders name ≡ false → JoinerHolds w.group (deliveries w.records name) (w.nodes name).core.start

abbrev pub ReplicasHold : Type 0
ReplicasHold = (rules : Rules) (events : List Event) (name : ℕ) → MayFound rules → has_log_by_status ((run rules (lawful_front rules events)).nodes name).status ≡ true
    → ReplicaHolds rules (run rules (lawful_front rules events)) name

-- ---- who was sent a snapshot

-- no snapshot for a Join ended before a place of what was given
abbrev pub NoneBefore : ℕ → List (ℕ × Entry) → ℕ → Type 0
NoneBefore start given place = (k name : ℕ) (message : List ℕ) (contents : Contents) → k < place
    → message_at (take k (entries_of given)) ≡ Some (name, message)
    → snapshot_in message ≢ Some (start, contents)

-- a name sent the snapshot of the group's contents at a Join part by part, and was answered; whose Join that is was given all of it, up to
-- this place of what it was given, and no other snapshot for the Join ended there before
pub record SentSnapshot (w : World) (sender first number joiner start place : ℕ) : Type 0 where
  pub small : NumberIsInRange start
  pub sent : SentInParts w sender first number (snapshot_of (contents_after w.group start) start)
  pub from_one : 0 < place
  pub there : number ≡ start + place - 1
  pub within : place ≤ length (deliveries w.records joiner)
  pub behind : part_count (length (snapshot_of (contents_after w.group start) start))
      ≤ length (from_place (place_of_name sender) (take place (entries_of (deliveries w.records joiner))))
  pub alone : NoneBefore start (deliveries w.records joiner) place

-- then the joiner's replica is ready, and right
abbrev pub SentSnapshotsRestore : Type 0
SentSnapshotsRestore = (rules : Rules) (events : List Event) (sender first number joiner start place : ℕ) → MayFound rules
    → has rules.founders joiner ≡ false → BeginsAt rules (run rules (lawful_front rules events)) joiner start
    → SentSnapshot (run rules (lawful_front rules events)) sender first number joiner start place
    → replica_contents start (deliveries (run rules (lawful_front rules events)).records joiner)
    ≡ Some (contents_up_to (run rules (lawful_front rules events)).group (deliveries (run rules (lawful_front rules events)).records joiner))
