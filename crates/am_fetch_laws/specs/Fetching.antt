-- What rows do at a member that has promised a view, and doesn't have its View yet.
use Rattle.std.specs.Prelude.{◌≡◌, ◌⊎◌, ℕ, ◌+◌, ◌-◌, ◌<◌, ◌≤◌, max, Bool, List, [], ◌∷◌, ◌++◌, true, false, ◌==◌}
use Rattle.am_base.specs.declared.entry.Entry.{Entry}
use Rattle.am_base.specs.declared.entry.Entry.TheVariants.{View}
use Rattle.am_base.specs.declared.entry.GroupView.{GroupView}
use Rattle.am_base.specs.declared.event.NodeEvent.TheVariants as does
use Rattle.am_base.specs.Lists.{log_with_entry, fits}
use Rattle.am_base.specs.Stamps.{stamp_is_less, stamps_are_equal}
use Rattle.am_packet.specs.declared.packet.Packet.TheVariants.{Fetch, Piece, Result}
use Rattle.am_packet.specs.Boxes.{Letter, letter_to}
use Rattle.am_model.specs.Node.{Node, top, view, image_of_node, set_of_one_name, acts_in_its_view, is_member, is_sequencer, has_own_leave}
use Rattle.am_model.specs.Emit.{StepResult, accept_packet_of, piece_packet_of, entries_to_serve}
use Rattle.am_model.specs.Refresh.{refresh_at_end}
use Rattle.am_model.specs.Step.{step, hear_packet}
use Rattle.am_model.specs.Calls.{is_unfinished_ballot}
use Rattle.am_model.specs.Resets.{is_unfetchable_view}

-- a Member that has promised another name's stamp, which isn't its list's view, and has no open ballot
pub record IsBehind (m : Node) : Type 0 where
  pub listed : is_member m.status ≡ true
  pub below : stamps_are_equal (view m) m.core.promise ≡ false
  pub other : (m.core.promise.by == m.core.who) ≡ false
  pub no_ballot : is_unfinished_ballot m.ballot ≡ false

-- ---- it fetches

-- its list stays, and it asks the name that it has promised for what comes next
pub record Fetches (m : Node) (s : StepResult) : Type 0 where
  pub node : s.node ≡ refresh_at_end m
  pub letters : s.letters ≡ letter_to (set_of_one_name m.core.promise.by) (Fetch m.core.who m.core.promise (top m)) ∷ []

abbrev pub MembersFetch : Type 0
MembersFetch = (m : Node) → IsBehind m → Fetches m (step m does.Tick)

-- ---- the sequencer serves

-- these entries, one Piece each, from a number on
unfoldable pub pieces : Node → List ℕ → ℕ → List Entry → List Letter
pieces n to number [] = []
pieces n to number (e ∷ es) = letter_to to (piece_packet_of n number e) ∷ pieces n to (number + 1) es

-- nothing, or how far the list is accepted
abbrev pub IsAcceptAtMost : Node → List Letter → Type 0
IsAcceptAtMost n letters = (letters ≡ []) ⊎ ((to : List ℕ) × (polls : Bool) × (letters ≡ letter_to to (accept_packet_of n polls) ∷ []))

-- its list stays, and it sends what stands above what is stored, eight entries at most, perhaps after how far the list is accepted
pub record ServesPieces (m : Node) (s stored : ℕ) (step : StepResult) : Type 0 where
  pub node : step.node ≡ refresh_at_end m
  pub first : List Letter
  pub accept : IsAcceptAtMost step.node first
  pub letters : step.letters ≡ first ++ pieces step.node (set_of_one_name s) (stored + 1) (entries_to_serve m stored)

abbrev pub FetchesAreServed : Type 0
FetchesAreServed = (m : Node) (s stored : ℕ) → is_sequencer m ≡ true → (s == m.core.who) ≡ false → m.core.base ≤ stored → stored ≤ top m
    → ServesPieces m s stored (hear_packet m (Fetch s (view m) stored))

-- ---- the member stores

-- an entry that comes next, and may be stored above this base
pub record MayBeStored (m : Node) (base number : ℕ) (e : Entry) : Type 0 where
  pub next : number ≡ top m + 1
  pub stays : has_own_leave m ≡ false
  pub taken : base ≤ m.core.taken
  pub fits : fits (image_of_node m) e ≡ true
  pub within : number - max m.core.base base ≤ m.core.rules.window + 15

-- a fetched one, with a View of no greater stamp
abbrev pub PiecesAreStored : Type 0
PiecesAreStored = (m : Node) (base number : ℕ) (e : Entry) → IsBehind m → MayBeStored m base number e → is_unfetchable_view m.core.promise false e ≡ false
    → (hear_packet m (Piece m.core.promise.by m.core.promise base number e)).node.core.log ≡ log_with_entry m.core.log e

-- and the View itself by a Result, which is promised then
pub record StoresView (m : Node) (v : GroupView) (n : Node) : Type 0 where
  pub log : n.core.log ≡ log_with_entry m.core.log (View v)
  pub acts : acts_in_its_view n ≡ true
  pub view_ : view n ≡ v.stamp

-- a Member hears the Result of another name's view, which it may promise, and whose View it doesn't have
pub record HearsResult (m : Node) (v : GroupView) : Type 0 where
  pub listed : is_member m.status ≡ true
  pub other : (v.stamp.by == m.core.who) ≡ false
  pub may : stamp_is_less v.stamp m.core.promise ≡ false
  pub new : stamps_are_equal (view m) v.stamp ≡ false

abbrev pub ResultsAreStored : Type 0
ResultsAreStored = (m : Node) (base number : ℕ) (v : GroupView) → HearsResult m v → MayBeStored m base number (View v)
    → StoresView m v (hear_packet m (Result v.stamp.by base number v)).node

-- where more is missing, it fetches
abbrev pub ResultsAreFetched : Type 0
ResultsAreFetched = (m : Node) (base number : ℕ) (v : GroupView) → HearsResult m v → has_own_leave m ≡ false → top m + 1 < number
    → (hear_packet m (Result v.stamp.by base number v)).letters ≡ letter_to (set_of_one_name v.stamp.by) (Fetch m.core.who v.stamp (top m)) ∷ []
