-- How a group goes on, as far as letters speak of it.
use Rattle.std.specs.Prelude.{◌≡◌, ◌⊎◌, ℕ, ◌≤◌, List, ◌++◌, Some, true, false}
use Rattle.am_base.specs.declared.entry.Entry.{Entry}
use Rattle.am_base.specs.Names.{has}
use Rattle.am_packet.specs.declared.packet.Packet.{Packet}
use Rattle.am_group.specs.declared.event.Record.{Record}
use Rattle.am_base.specs.Whole.{IsBeginningOf, key_of_stamp}
use Rattle.am_abstract_group.specs.Group as groups
use Rattle.am_abstract_group.specs.Group.{Group}
use Rattle.am_abstract_group.specs.Moves.{Move, decides}
use Rattle.am_abstract_group.specs.Kept.{GroupKeeps}
use Rattle.am_group_defs.specs.World.{World}
use Rattle.am_refinement.specs.Letters.{PacketSays}

-- a name keeps its list, and what ends stays ended
pub record NameGrows (a b : groups.ChainNode) : Type 0 where
  pub list : IsBeginningOf a.list b.list
  pub log : a.has_log ≡ true → b.has_log ≡ true
  pub promise : key_of_stamp a.promise ≤ key_of_stamp b.promise
  pub stopped : a.stopped ≡ true → b.stopped ≡ true
  pub departed : a.departed ≡ true → b.departed ≡ true
  pub leaving : a.leaving ≡ true → b.leaving ≡ true

-- a view that is decided now, and wasn't: its ballot found all that was accepted, and what each of its members had that leaves
pub record NewView (s t : Group) (x : ℕ) : Type 0 where
  pub accepted : IsBeginningOf s.group (t.views.chosen x).before
  pub leavers : (i : ℕ) → (s.node i).leaving ≡ true → has (t.views.chosen x).members i ≡ true → IsBeginningOf (s.node i).list (t.views.line x)

pub record Grows (s t : Group) : Type 0 where
  pub each : (i : ℕ) → NameGrows (s.node i) (t.node i)
  pub group : IsBeginningOf s.group t.group
  pub lines : (x : ℕ) → s.views.decided x ≡ true → IsBeginningOf (s.views.line x) (t.views.line x)
  pub decided : (x : ℕ) → s.views.decided x ≡ true → (t.views.decided x ≡ true) × (t.views.chosen x ≡ s.views.chosen x)
  pub new : (x : ℕ) → t.views.decided x ≡ true → (s.views.decided x ≡ true) ⊎ NewView s t x
  pub shown : (x i : ℕ) (list : List Entry) → s.shown x i ≡ Some list → t.shown x i ≡ Some list
  pub served : (x i : ℕ) → s.served x i ≡ true → t.served x i ≡ true

-- what a letter says stays so, while records are added
abbrev pub LettersStay : Type 0
LettersStay = (w v : World) (s t : Group) (to : List ℕ) (p : Packet) → (rest : List Record) × (v.records ≡ w.records ++ rest) → Grows s t → PacketSays w s to p
    → PacketSays v t to p

-- ---- moves

-- of a decision it is so that its view is a new one, which found all that was accepted
abbrev pub DecidesNew : {s t : Group} → Move s t → Type 0
DecidesNew {s = s} {t = t} (decides i v may) = (s.views.decided (key_of_stamp (s.node i).promise) ≡ false) × NewView s t (key_of_stamp (s.node i).promise)
DecidesNew _ = Unit {0}

-- with each move the group goes on so
abbrev pub MovesGrow : Type 0
MovesGrow = (s t : Group) (move : Move s t) → GroupKeeps s → DecidesNew move → Grows s t
