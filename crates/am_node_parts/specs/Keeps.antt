-- The node that some parts make, and what they keep between calls.
use Rattle.std.specs.Prelude.{◌≡◌, ◌≢◌, ◌<◌, ◌≤◌, ◌+◌, ℕ, List, length, Option, Some, None, Bool, true, false, option_map}
use Rattle.am_base.specs.declared.image.Report.{Report}
use Rattle.am_base.specs.declared.image.Row.{Row}
use Rattle.am_base.specs.Most.{greatest_number}
use Rattle.am_base.specs.Names.{has, life_of_name}
use Rattle.am_base.specs.Lists.{row_at_place}
use Rattle.am_base.specs.Stamps.{stamp_is_less}
use Rattle.am_node_defs.specs.Cores.{CoreState}
use Rattle.am_node_defs.specs.Reports.{reports_of}
use Rattle.am_node_defs.specs.Sends.{Sends, next_request}
use Rattle.am_node_defs.specs.declared.bodies.KeptBody.{KeptBody}
use Rattle.am_ballots.specs.Kept.{KeptBallot, ballot_of}
use Rattle.am_model.specs.declared.status.Status.{Status}
use Rattle.am_model.specs.Node.{has_log_by_status, Node, Ballot, top, image_of_node, view, members, waiting_send_of, is_sequencer}

-- a node of these parts
abbrev pub node_with : CoreState → Status → Bool → Sends → List KeptBody → List Report → Option KeptBallot → Node
node_with core status leaving sends bodies kept ballot = record {
  core = core;
  status = status;
  leaving = leaving;
  sends = sends;
  bodies = bodies;
  reports = reports_of kept;
  ballot = option_map ballot_of ballot;
}

-- an unfinished ballot is the node's own, of the stamp that it has promised, which is above its view; the node has a list,
-- and has neither given up itself nor kept a vote of its own
pub record IsOwnBallot (m : Node) (b : Ballot) : Type 0 where
  pub stamp : b.is_over ≡ false → b.stamp ≡ m.core.promise
  pub by : b.is_over ≡ false → b.stamp.by ≡ m.core.who
  pub ahead : b.is_over ≡ false → stamp_is_less (view m) b.stamp ≡ true
  pub logged : b.is_over ≡ false → has_log_by_status m.status ≡ true
  pub itself : b.is_over ≡ false → b.given_up m.core.who ≡ false
  pub unvoted : b.is_over ≡ false → b.votes m.core.who ≡ None
  pub resilience : b.resilience ≤ 15

-- how high the first request that isn't settled may be, by the row of its sender's place: the first as long as this life hasn't
-- joined there, and then the one after its last
pub record RequestMayBeDue (r : Row) (life next : ℕ) : Type 0 where
  pub free : r.joined ≡ 0 → next ≤ 1
  pub younger : r.life < life → next ≤ 1
  pub own : 0 < r.joined → r.life ≡ life → next ≤ r.last + 1

pub record NodeKeeps (m : Node) : Type 0 where
  -- its own report tells at most what it has taken
  pub own : (m.reports m.core.who).taken ≤ m.core.taken
  -- who leads is a member
  pub leads : is_sequencer m ≡ true → has (members m) m.core.who ≡ true
  -- the promise isn't below the view
  pub promised : stamp_is_less m.core.promise (view m) ≡ false
  -- who never was a member has no list
  pub blank : has_log_by_status m.status ≡ false → top m ≡ 0
  pub ballot : (b : Ballot) → m.ballot ≡ Some b → IsOwnBallot m b
  -- who leaves has no send that waits
  pub settled : m.leaving ≡ true → waiting_send_of m ≡ None
  -- what is settled of its sends stands in its list
  pub due : RequestMayBeDue (row_at_place (image_of_node m) m.core.who) (life_of_name m.core.who) (next_request m.sends)
  pub unsent : has_log_by_status m.status ≡ false → next_request m.sends ≤ 1

-- another entry may be stored, and its number isn't the greatest
pub record HasRoomLeft (m : Node) : Type 0 where
  pub room : length m.core.log.entries < m.core.rules.window + 15
  pub number : top m < greatest_number

-- the sequencer may do what another name asks for
pub record MayServe (m : Node) (from : ℕ) : Type 0 where
  pub leads : is_sequencer m ≡ true
  pub other : from ≢ m.core.who
  pub number : top m < greatest_number

-- what a node tells stays, and so do its name, its promise, its status, its sends and its ballot
pub record IsSteady (m n : Node) : Type 0 where
  pub who : n.core.who ≡ m.core.who
  pub promise : n.core.promise ≡ m.core.promise
  pub told : image_of_node n ≡ image_of_node m
  pub top : top n ≡ top m
  pub status : n.status ≡ m.status
  pub ballot : n.ballot ≡ m.ballot
  pub leaving : n.leaving ≡ m.leaving
  pub sends : n.sends ≡ m.sends
