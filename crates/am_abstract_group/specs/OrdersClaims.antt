-- What is claimed of the sends that stand in a list of a group.
use Rattle.std.specs.Prelude.{◌≡◌, ℕ, List, length, Some}
use Rattle.std.specs.List.{range_with_len}
use Rattle.am_base.specs.declared.entry.Entry.{Entry}
use Rattle.am_base.specs.declared.entry.Entry.TheVariants.{Data}
use Rattle.am_base.specs.Lists.{blank, AllEntriesFit, requests_of_sender}
use Rattle.am_group.specs.Journals.{item_at}
use Rattle.am_group_defs.specs.World.{World}
use Rattle.am_group_defs.specs.Claims.{SendersOrder, StandsOnce}

-- the requests of a name are this one, the next, and so on
abbrev pub RequestsFollowFrom : ℕ → ℕ → List Entry → Type 0
RequestsFollowFrom name next list = requests_of_sender name list ≡ range_with_len next (length (requests_of_sender name list))

-- each name's requests are 1, 2, 3 and so on
abbrev pub RequestsInTurn : Type 0
RequestsInTurn = (list : List Entry) → AllEntriesFit blank 1 list → (name : ℕ) → RequestsFollowFrom name 1 list

-- one number a send, whatever its body
abbrev pub NoSendTwice : Type 0
NoSendTwice = (list : List Entry) → AllEntriesFit blank 1 list → (name req k l : ℕ) (body other : List ℕ)
    → item_at list k ≡ Some (Data name req body) → item_at list l ≡ Some (Data name req other) → k ≡ l

-- ---- of the list of a group

abbrev pub SendersInOrder : Type 0
SendersInOrder = (w : World) → AllEntriesFit blank 1 w.group → SendersOrder w

-- a send that stands at a number stands nowhere else
abbrev pub SendStandsOnce : Type 0
SendStandsOnce = (w : World) → AllEntriesFit blank 1 w.group → (name req number : ℕ) (body : List ℕ)
    → item_at w.group number ≡ Some (Data name req body) → StandsOnce w.group name req number
