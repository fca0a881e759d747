-- What a coordinator has when it decides, and what a node has when it stores an entry of a view that it has promised.
use Rattle.std.specs.Prelude.{◌≡◌, ℕ, ◌<◌, ◌≤◌, ◌+◌, ◌-◌, max, List, Some, None, true, false}
use Rattle.am_base.specs.Most.{greatest_number}
use Rattle.am_base.specs.declared.entry.Entry.{Entry}
use Rattle.am_base.specs.declared.entry.Entry.TheVariants.{Data, Join, Leave, View}
use Rattle.am_base.specs.declared.name.Stamp.{Stamp}
use Rattle.am_base.specs.declared.outcome.Outcome.{Outcome}
use Rattle.am_base.specs.Limits.{EntryIsInRange}
use Rattle.am_base.specs.Lists.{fits}
use Rattle.am_base.specs.Names.{has, names_are_within}
use Rattle.am_base.specs.Stamps.{stamp_is_less}
use Rattle.am_node_defs.specs.Cores.{CoreFrontsAreInOrder}
use Rattle.am_model.specs.Node.{has_log_by_status, Node, Ballot, top, image_of_node, members, acts_in_its_view}
use Rattle.am_node_parts.specs.Keeps.{IsOwnBallot}

-- an unfinished ballot that is the node's own, and was taken out of it
pub record IsTakenOut (m : Node) (b : Ballot) : Type 0 where
  pub order : CoreFrontsAreInOrder m.core
  pub out : m.ballot ≡ None
  pub own : IsOwnBallot m b
  pub is_open : b.is_over ≡ false
  pub number : top m < greatest_number

-- these members of it may be a view, with the node itself among them
pub record MayBeView (m : Node) (names : List ℕ) : Type 0 where
  pub within : names_are_within names (members m) ≡ true
  pub itself : has names m.core.who ≡ true

-- no View above a stamp
abbrev pub HasNoViewAbove : Stamp → Entry → Type 0
HasNoViewAbove promise (Data from req body) = Unit {0}
HasNoViewAbove promise (Join name) = Unit {0}
HasNoViewAbove promise (Leave name) = Unit {0}
HasNoViewAbove promise (View v) = stamp_is_less promise v.stamp ≡ false

-- a node that doesn't act may store this entry above a base
pub record CatcherMayStore (m : Node) (base : ℕ) (e : Entry) : Type 0 where
  pub order : CoreFrontsAreInOrder m.core
  pub idle : acts_in_its_view m ≡ false
  pub logged : has_log_by_status m.status ≡ true
  pub over : (b : Ballot) → m.ballot ≡ Some b → b.is_over ≡ true
  pub taken : base ≤ m.core.taken
  pub fits : fits (image_of_node m) e ≡ true
  pub up_to : HasNoViewAbove m.core.promise e
  pub within : EntryIsInRange e
  pub bound : top m + 1 - max m.core.base base ≤ m.core.rules.window + 15
  pub number : top m < greatest_number

-- a node with a ballot in it again
abbrev pub put_back : Node → Ballot → Node
put_back m b = record m { ballot = Some b }

-- the answer is given, and the ballot is this
pub record BallotIsAnswered (b : Ballot) (given result : Outcome) (new : Ballot) : Type 0 where
  pub ballot : new ≡ b
  pub answer : result ≡ given
