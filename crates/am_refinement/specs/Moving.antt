-- Moves of a group in turn, as events make them.
use Rattle.std.specs.Prelude.{◌≡◌, ◌⊎◌, ℕ, ◌<◌, true}
use Rattle.am_base.specs.declared.entry.Entry.{Entry}
use Rattle.am_base.specs.declared.entry.Entry.TheVariants.{Data, Join, Leave, View}
use Rattle.am_base.specs.Names.{IsSetOfNames, has}
use Rattle.am_base.specs.Whole.{key_of_stamp}
use Rattle.am_abstract_group.specs.Group.{Group}
use Rattle.am_abstract_group.specs.Moves.{Move, ShowedNoBetterList, decides, numbers, stops}

-- who joins is one of the 256 names, and a View has a set of them
abbrev pub NamesNamed : Entry → Type 0
NamesNamed (Data from req body) = Unit {0}
NamesNamed (Join name) = name < 256
NamesNamed (Leave name) = Unit {0}
NamesNamed (View v) = IsSetOfNames v.members

-- at a decision each other name of the View has voted for no better list, whether it stopped or not
abbrev pub AllVoted : (s : Group) (i : ℕ) → (ℕ → Type 0) → Type 0
AllVoted s i in_view = (j : ℕ) → in_view j → (j ≡ i) ⊎ ShowedNoBetterList s (key_of_stamp (s.node i).promise) j (s.node i).list

-- what is so of a move within a step besides what the group asks of it
abbrev pub MoveIsSound : {s t : Group} → Move s t → Type 0
MoveIsSound (numbers i e leads fit may) = NamesNamed e
MoveIsSound {s = s} (decides i v may) = IsSetOfNames v.members × AllVoted s i (λ j. has v.members j ≡ true)
MoveIsSound (stops i) = ⊥
MoveIsSound _ = Unit {0}

pub data Moves : Group → Group → Type 0 where
  none : {s : Group} → Moves s s
  moves : {s t u : Group} → (move : Move s t) → MoveIsSound move → Moves t u → Moves s u

-- some moves lead to a group of which this is so
pub record MovesLeadTo (P : Group → Type 0) (s : Group) : Type 0 where
  pub to : Group
  pub path : Moves s to
  pub is : P to
