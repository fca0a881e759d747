-- What rows do at a coordinator whose ballot fetches, and at the voter that it fetches from.
use Rattle.std.specs.Prelude.{◌≡◌, ℕ, ◌+◌, ◌≤◌, [], ◌∷◌, true, false, ◌==◌}
use Rattle.am_base.specs.declared.entry.Entry.{Entry}
use Rattle.am_base.specs.declared.event.NodeEvent.TheVariants as does
use Rattle.am_base.specs.declared.name.Stamp.{Stamp}
use Rattle.am_base.specs.declared.outcome.Outcome.TheVariants as said
use Rattle.am_base.specs.Stamps.{stamps_are_equal}
use Rattle.am_packet.specs.declared.packet.Packet.TheVariants.{Fetch, Piece}
use Rattle.am_packet.specs.Boxes.{letter_to}
use Rattle.am_model.specs.Ballots.{decide}
use Rattle.am_model.specs.Emit.{StepResult, entries_to_serve}
use Rattle.am_model.specs.Node.{Node, Ballot, top, view, is_member, set_of_one_name, push_entry, trim_node_up_to}
use Rattle.am_model.specs.Refresh.{refresh_at_end}
use Rattle.am_model.specs.Resets.{is_unfetchable_view}
use Rattle.am_model.specs.Step.{step, hear_packet}
use Rattle.am_fetch_laws.specs.Fetching.{MayBeStored, pieces}
use Rattle.am_ballot_laws.specs.Voting.{Coordinates}

-- a coordinator whose ballot fetches from another name
pub record FetchesFor (m : Node) (b : Ballot) (from : ℕ) : Type 0 where
  pub coordinates : Coordinates m b
  pub open coordinates use *
  pub answer : b.answer ≡ said.Fetching from (top m + 1)
  pub other : (from == m.core.who) ≡ false

-- ---- the coordinator

-- its list stays, and it asks for what comes next
pub record AsksFor (m : Node) (from : ℕ) (s : StepResult) : Type 0 where
  pub node : s.node ≡ refresh_at_end m
  pub letters : s.letters ≡ letter_to (set_of_one_name from) (Fetch m.core.who m.core.promise (top m)) ∷ []

abbrev pub BallotsFetch : Type 0
BallotsFetch = (m : Node) (b : Ballot) (from : ℕ) → FetchesFor m b from → AsksFor m from (step m does.Tick)

-- the node with this entry above this base
abbrev pub with_entry_above : Node → ℕ → Entry → Node
with_entry_above m base e = push_entry (trim_node_up_to m base) e

-- what comes next it stores, and looks at its ballot
abbrev pub PiecesAreLookedAt : Type 0
PiecesAreLookedAt = (m : Node) (b : Ballot) (from base number : ℕ) (e : Entry) → FetchesFor m b from → MayBeStored m base number e
    → is_unfetchable_view m.core.promise true e ≡ false
    → (hear_packet m (Piece from m.core.promise base number e)).node ≡ refresh_at_end (decide (with_entry_above m base e) b).node

-- ---- the voter

-- a Member that has promised another name's stamp, which isn't its list's view
pub record HasPromised (m : Node) (v : Stamp) : Type 0 where
  pub listed : is_member m.status ≡ true
  pub promised : m.core.promise ≡ v
  pub other : (v.by == m.core.who) ≡ false
  pub below : stamps_are_equal (view m) v ≡ false

-- its list stays, and it sends what stands above what is stored, eight entries at most
pub record ServesVoted (m : Node) (s stored : ℕ) (step : StepResult) : Type 0 where
  pub node : step.node ≡ refresh_at_end m
  pub letters : step.letters ≡ pieces step.node (set_of_one_name s) (stored + 1) (entries_to_serve m stored)

abbrev pub VotersServe : Type 0
VotersServe = (m : Node) (v : Stamp) (stored : ℕ) → HasPromised m v → m.core.base ≤ stored → stored ≤ top m
    → ServesVoted m v.by stored (hear_packet m (Fetch v.by v stored))
