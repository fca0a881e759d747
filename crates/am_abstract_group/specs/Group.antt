-- A group as whole lists: what each name has, and what was shown, served, decided and accepted. There are no packets here.
use Rattle.std.specs.Prelude.{◌≡◌, ◌⊎◌, ℕ, zero, suc, ◌+◌, ◌-◌, ◌<◌, ◌≤◌, ◌==◌, ◌&&◌, min, Bool, true, false, if◌then◌else◌, List, [], ◌∷◌, ◌++◌, length, take}
use Rattle.std.specs.Prelude.{Option, slice_get}
use Rattle.am_base.specs.declared.entry.GroupView.{GroupView}
use Rattle.am_base.specs.declared.name.Stamp.{Stamp}
use Rattle.am_base.specs.declared.entry.Entry.{Entry}
use Rattle.am_base.specs.declared.entry.Entry.TheVariants.{View}
use Rattle.am_base.specs.Names.{has}
use Rattle.am_base.specs.Lists.{members_of_image}
use Rattle.am_base.specs.Fronts.{counting_names_of_entry}
use Rattle.am_base.specs.Whole.{IsBeginningOf, image_of_list, is_member_at_end, stamp_of_list, resilience_of_list, key_of_stamp}

-- a function with one value changed
unfoldable pub function_with_value : {A : Type 0} → (ℕ → A) → ℕ → A → ℕ → A
function_with_value f i x j = if j == i then x else f j

unfoldable pub function_with_value_of_two : {A : Type 0} → (ℕ → ℕ → A) → ℕ → ℕ → A → ℕ → ℕ → A
function_with_value_of_two f a b x c d = if (c == a) && (d == b) then x else f c d

-- how many names below a number pass
unfoldable pub count_of_passing_below : (ℕ → Bool) → ℕ → ℕ
count_of_passing_below passes zero = 0
count_of_passing_below passes (suc n) = (if passes n then 1 else 0) + count_of_passing_below passes n

-- how many names pass: a name is a number below 256
abbrev pub count_of_passing_names : (ℕ → Bool) → ℕ
count_of_passing_names passes = count_of_passing_below passes 256

-- what one name has. A name never comes back: a return is another name
pub record ChainNode : Type 0 where
  -- its whole list from the first entry on; empty as long as it has no log
  pub list : List Entry
  pub has_log : Bool
  pub stopped : Bool
  pub departed : Bool
  pub leaving : Bool
  -- the number of its Join, or 1 for a founder
  pub start : ℕ
  pub promise : Stamp
  -- up to where it was told that the list is accepted, and up to where it gives entries out
  pub told : ℕ
  pub acc : ℕ
  -- it has an unfinished ballot, whose stamp is its promise
  pub ballot : Bool

-- what a decided ballot chose: its coordinator's list, and the View that was put after it
pub record Chosen : Type 0 where
  pub before : List Entry
  pub view : GroupView
  pub open view use *

abbrev pub list_with_chosen_view : Chosen → List Entry
list_with_chosen_view c = c.before ++ View c.view ∷ []

-- the ballots that were decided, by the keys of their stamps
pub record Views : Type 0 where
  pub decided : ℕ → Bool
  pub chosen : ℕ → Chosen
  -- its coordinator's list since, up to before its next View
  pub line : ℕ → List Entry
  -- the views that are complete
  pub complete : ℕ → Bool
  -- the last decided
  pub current : Stamp

pub record Group : Type 0 where
  pub node : ℕ → ChainNode
  -- by a ballot's key and a name: the list that this name showed to it, and whether it sent of that list
  pub shown : ℕ → ℕ → Option (List Entry)
  pub served : ℕ → ℕ → Bool
  pub views : Views
  -- the list of what was ever accepted
  pub group : List Entry

-- the line of the current view
abbrev pub chain_of : Views → List Entry
chain_of views = views.line (key_of_stamp views.current)

-- what the current view's ballot chose
abbrev pub current_of : Views → Chosen
current_of views = views.chosen (key_of_stamp views.current)

-- neither stopped nor departed
pub record IsThere (m : ChainNode) : Type 0 where
  pub goes : m.stopped ≡ false
  pub stays : m.departed ≡ false

-- and it has a log
pub record IsUp (m : ChainNode) : Type 0 where
  pub log : m.has_log ≡ true
  pub there : IsThere m

-- it acts, and is its view's sequencer
pub record Leads (i : ℕ) (m : ChainNode) : Type 0 where
  pub up : IsUp m
  pub acts : m.promise ≡ stamp_of_list m.list
  pub by : (stamp_of_list m.list).by ≡ i

-- its own Leave isn't in the list: where it was a member, it still is
abbrev pub IsOngoing : List Entry → ℕ → Type 0
IsOngoing list name = (a : List Entry) → IsBeginningOf a list → is_member_at_end a name ≡ true → is_member_at_end list name ≡ true

-- whose storage of an entry counts: a View's own members, else the members before it
abbrev pub counting_names_in : List Entry → ℕ → List ℕ
counting_names_in list number = counting_names_of_entry (slice_get list (number - 1)) (members_of_image (image_of_list (take (number - 1) list)))

-- how many of these must have stored it: one more than the resilience there, or all
abbrev pub need_count : List Entry → ℕ → ℕ
need_count list number = min (resilience_of_list (take number list) + 1) (count_of_passing_names (has (counting_names_in list number)))

-- enough of those whose storage counts have stored this number of the list
pub record IsHeld (node : ℕ → ChainNode) (list : List Entry) (number : ℕ) : Type 0 where
  pub holders : ℕ → Bool
  pub counts : (h : ℕ) → holders h ≡ true → has (counting_names_in list number) h ≡ true
  pub logs : (h : ℕ) → holders h ≡ true → (node h).has_log ≡ true
  pub stored : (h : ℕ) → holders h ≡ true → IsBeginningOf (take number list) (node h).list
  pub enough : need_count list number ≤ count_of_passing_names holders

-- the list may be accepted from one number up to another: each entry is held, or one above it is
pub record MayAccept (node : ℕ → ChainNode) (list : List Entry) (from to : ℕ) : Type 0 where
  pub rises : from ≤ to
  pub within : to ≤ length list
  pub held : (n : ℕ) → from < n → n ≤ to → (m : ℕ) × (n ≤ m) × (m ≤ to) × IsHeld node list m

-- a list is no better than another: by view, then by length
abbrev pub IsNoBetterList : List Entry → List Entry → Type 0
IsNoBetterList a b = (key_of_stamp (stamp_of_list a) < key_of_stamp (stamp_of_list b)) ⊎ ((key_of_stamp (stamp_of_list a) ≡ key_of_stamp (stamp_of_list b)) × (length a ≤ length b))
