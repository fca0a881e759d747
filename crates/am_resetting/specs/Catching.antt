-- What is refused of a fetched entry.
use Rattle.std.specs.Prelude.{◌≡◌, ℕ, ◌+◌, ◌≤◌, max, [], Option, Some, None, Bool, false, true}
use Rattle.am_base.specs.declared.entry.GroupView.{GroupView}
use Rattle.am_base.specs.declared.entry.Entry.{Entry}
use Rattle.am_base.specs.declared.entry.Entry.TheVariants.{Data, Join, Leave, View}
use Rattle.am_base.specs.declared.name.Stamp.{Stamp}
use Rattle.am_base.specs.Stamps.{stamp_is_less, stamps_are_equal}
use Rattle.am_base.specs.declared.outcome.Outcome.{Outcome}
use Rattle.am_base.specs.Lists.{fits}
use Rattle.am_model.specs.Node.{Node, Ballot, top, view, image_of_node, number_is_within_bound}
use Rattle.am_model.specs.Emit.{Plan, plan_without_letters}
use Rattle.am_model.specs.Resets.{is_unfetchable_view}
use Rattle.am_node_parts.specs.declared.reply.Telling.{Telling}
use Rattle.am_node_parts.specs.declared.reply.Telling.TheVariants as tell
use Rattle.am_node_parts.specs.Replies.{letters_with_told, IsNoteWithin}
use Rattle.am_resetting.specs.declared.catching.Denial.{Denial}

-- the node with this ballot
abbrev pub node_with_ballot : Node → Option Ballot → Node
node_with_ballot m ballot = record m { ballot = ballot }

-- no View that isn't below a stamp
abbrev pub IsBelow : Stamp → Entry → Type 0
IsBelow v (Data from req body) = Unit {0}
IsBelow v (Join name) = Unit {0}
IsBelow v (Leave name) = Unit {0}
IsBelow v (View w) = stamp_is_less w.stamp v ≡ true

-- an entry that comes next and isn't refused above this base
pub record CatchesNext (m : Node) (v : Stamp) (base number : ℕ) (e : Entry) (in_ballot : Bool) : Type 0 where
  pub next : number ≡ top m + 1
  pub taken : base ≤ m.core.taken
  pub fits : fits (image_of_node m) e ≡ true
  pub past : is_unfetchable_view v in_ballot e ≡ false
  pub below : in_ballot ≡ true → IsBelow v e
  pub bound : number_is_within_bound m (max m.core.base base) number ≡ true

-- a packet, or nothing
abbrev pub IsPlain : Telling → Type 0
IsPlain tell.Nothing = Unit {0}
IsPlain (tell.Note to what) = IsNoteWithin what
IsPlain _ = ⊥

-- a plan that answers this and sends that
abbrev pub plan_of : Node → Outcome → Telling → Plan
plan_of m outcome telling = record (plan_without_letters m outcome) { letters = λ n. letters_with_told outcome telling n [] }

-- a refusal, or else the plan
abbrev pub unless_denied : Option Denial → Node → Plan → Plan
unless_denied None m plan = plan
unless_denied (Some refusal) m plan = plan_of m refusal.outcome refusal.telling

-- a decided view that comes next and isn't refused above this base
pub record FollowsAsView (m : Node) (base number : ℕ) (v : GroupView) : Type 0 where
  pub apart : stamps_are_equal (view m) v.stamp ≡ false
  pub next : number ≡ top m + 1
  pub taken : base ≤ m.core.taken
  pub fits : fits (image_of_node m) (View v) ≡ true
  pub bound : number_is_within_bound m (max m.core.base base) number ≡ true
