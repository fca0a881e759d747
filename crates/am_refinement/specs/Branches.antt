-- Whose list isn't on the chain any more, and so what a decision finds of leavers.
use Rattle.std.specs.Prelude.{◌≡◌, ◌⊎◌, ℕ, ◌≤◌, List, [], ◌∷◌, ◌++◌, length, Some, true, false, All}
use Rattle.am_base.specs.declared.entry.GroupView.{GroupView}
use Rattle.am_base.specs.declared.entry.Entry.{Entry}
use Rattle.am_base.specs.declared.entry.Entry.TheVariants.{View}
use Rattle.am_base.specs.Names.{has}
use Rattle.am_base.specs.Whole.{IsBeginningOf, IsProperBeginningOf, IsGoodList, is_member_at_end, key_of_stamp}
use Rattle.am_abstract_group.specs.Group.{Group, IsUp, chain_of}
use Rattle.am_abstract_group.specs.Moves.{Move}
use Rattle.am_abstract_group.specs.Kept.{GroupKeeps}
use Rattle.am_abstract_group.specs.Runs.{IsLawful, GroupMayBegin, group_start}
use Rattle.am_refinement.specs.Moving.{NamesNamed, MoveIsSound}
use Rattle.am_refinement.specs.Growing.{DecidesNew}

-- the list of a name that hasn't departed begins the chain, or it was left out by a View on it, up to where it did
pub data OnBranch (s : Group) (i : ℕ) : Type 0 where
  on_chain : IsBeginningOf (s.node i).list (chain_of s.views) → OnBranch s i
  left_out : (a : List Entry) (v : GroupView) (branch : List Entry)
      → IsBeginningOf (a ++ View v ∷ []) (chain_of s.views)
      → IsBeginningOf a branch → IsBeginningOf (s.node i).list branch → IsGoodList branch → is_member_at_end a i ≡ true → has v.members i ≡ false → OnBranch s i

-- of each such name, also one that has stopped: its own Leave is the last entry of its list, or isn't there; and what a voter of an
-- unfinished ballot has, it has shown, or the coordinator has it
pub record BranchesAreSound (s : Group) : Type 0 where
  pub branch : (i : ℕ) → (s.node i).departed ≡ false → OnBranch s i
  pub own : (i : ℕ) → (s.node i).departed ≡ false → (a d : List Entry) → IsProperBeginningOf d (s.node i).list → IsBeginningOf a d → is_member_at_end a i ≡ true → is_member_at_end d i ≡ true
  pub short : (c k : ℕ) (list : List Entry) → IsUp (s.node c) → (s.node c).ballot ≡ true → s.shown (key_of_stamp (s.node c).promise) k ≡ Some list
      → (s.node k).departed ≡ false → (length (s.node k).list ≤ length list) ⊎ (length (s.node k).list ≤ length (s.node c).list)

-- with each move of a lawful run
abbrev pub MovesBranch : Type 0
MovesBranch = (s t : Group) (move : Move s t) → MoveIsSound move → GroupKeeps s → IsLawful s → GroupKeeps t → BranchesAreSound s → BranchesAreSound t

-- so a decided view is a new one, which found all that was accepted, and what each of its members has that leaves
abbrev pub DecisionsAreNew : Type 0
DecisionsAreNew = (s t : Group) (move : Move s t) → MoveIsSound move → GroupKeeps s → IsLawful s → BranchesAreSound s → DecidesNew move

-- at the start
abbrev pub BranchesBegin : Type 0
BranchesBegin = (founders : List ℕ) (first resilience : ℕ) → GroupMayBegin founders first resilience → BranchesAreSound (group_start founders first resilience)

-- ---- who joins is one of the 256 names

-- and each View on the chain has a set of them
abbrev pub ChainNamed : Group → Type 0
ChainNamed s = All NamesNamed (chain_of s.views)

abbrev pub MovesNamed : Type 0
MovesNamed = (s t : Group) (move : Move s t) → MoveIsSound move → GroupKeeps s → ChainNamed s → ChainNamed t
