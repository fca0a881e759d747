-- What every run of a group keeps.
use Rattle.std.specs.Prelude.{◌≡◌, ◌≢◌, ◌⊎◌, ℕ, ◌+◌, ◌<◌, ◌≤◌, min, Bool, true, false, List, [], ◌∷◌, ◌++◌, length, take, Some}
use Rattle.am_base.specs.declared.name.Stamp.{Stamp}
use Rattle.am_base.specs.declared.entry.Entry.{Entry}
use Rattle.am_base.specs.declared.entry.Entry.TheVariants.{Leave}
use Rattle.am_base.specs.Names.{has}
use Rattle.am_base.specs.Whole.{IsBeginningOf, IsProperBeginningOf, IsGoodList, is_member_at_end, stamp_of_list, key_of_stamp}
use Rattle.am_abstract_group.specs.Group.{count_of_passing_names, counting_names_in, need_count, ChainNode, list_with_chosen_view, Views, Group, chain_of, current_of, IsThere, IsUp, Leads}

-- what it was told is accepted, and what it gave out or may give out is what was accepted
pub record FrontsAreAccepted (group : List Entry) (m : ChainNode) : Type 0 where
  pub told : m.told ≤ length group
  pub acc : m.acc ≤ m.told
  pub within : m.acc ≤ length m.list
  pub delivered : IsBeginningOf (take m.acc m.list) group

-- a sequencer that acts has the chain, and is a member
pub record LeaderHasChain (views : Views) (i : ℕ) (m : ChainNode) : Type 0 where
  pub chain : m.list ≡ chain_of views
  pub member : is_member_at_end (chain_of views) i ≡ true

-- its Join stands in the group list
pub record JoinIsAccepted (group : List Entry) (i : ℕ) (m : ChainNode) : Type 0 where
  pub accepted : m.start ≤ length group
  pub member : is_member_at_end (take m.start group) i ≡ true

-- A node whose promise is below the current view leaves: its membership ended on the chain, its list reaches no further, and the
-- line of each view from its promise on has the chain up to there.
pub record LateNodeHasLeft (views : Views) (i : ℕ) (m : ChainNode) : Type 0 where
  pub before : List Entry
  pub last : Entry
  pub list : IsBeginningOf m.list (before ++ last ∷ [])
  pub member : is_member_at_end before i ≡ true
  pub ended : is_member_at_end (before ++ last ∷ []) i ≡ false
  pub lines : (x : ℕ) → views.decided x ≡ true → key_of_stamp m.promise ≤ x → IsBeginningOf (before ++ last ∷ []) (views.line x)

-- an unfinished ballot is above the current view, and of a member that isn't leaving
pub record BallotIsAboveView (views : Views) (i : ℕ) (m : ChainNode) : Type 0 where
  pub small : i < 256
  pub above : key_of_stamp views.current < key_of_stamp m.promise
  pub by : m.promise.by ≡ i
  pub staying : m.leaving ≡ false
  pub member : is_member_at_end m.list i ≡ true

-- what each name keeps
pub record NodeIsSound (views : Views) (group : List Entry) (i : ℕ) (m : ChainNode) : Type 0 where
  pub small : m.promise.by < 256
  pub list : IsUp m → IsBeginningOf m.list (chain_of views)
  pub blank : m.has_log ≡ false → m.list ≡ []
  pub fronts : FrontsAreAccepted group m
  pub leads : Leads i m → LeaderHasChain views i m
  -- a member of what the current view chose promised it
  pub promised : IsThere m → is_member_at_end (current_of views).before i ≡ true → key_of_stamp views.current ≤ key_of_stamp m.promise
  -- a member that doesn't leave stays a member
  pub stays : IsThere m → m.leaving ≡ false → (a : List Entry) → IsBeginningOf a (chain_of views) → is_member_at_end a i ≡ true → is_member_at_end (chain_of views) i ≡ true
  pub joined : m.has_log ≡ true → JoinIsAccepted group i m
  -- its own Leave is the last entry of its list, or isn't there
  pub own : IsUp m → (a d : List Entry) → IsProperBeginningOf d m.list → IsBeginningOf a d → is_member_at_end a i ≡ true → is_member_at_end d i ≡ true
  pub late : IsUp m → key_of_stamp m.promise < key_of_stamp views.current → LateNodeHasLeft views i m
  pub ballot : IsUp m → m.ballot ≡ true → BallotIsAboveView views i m
  -- a member of a complete view that is there has stored its View
  pub complete : (view : ℕ) → views.complete view ≡ true → IsThere m → has (views.chosen view).members i ≡ true → IsBeginningOf (list_with_chosen_view (views.chosen view)) m.list
  -- what it was told lies below the View of each view above its promise
  pub heard : (x : ℕ) → views.decided x ≡ true → key_of_stamp m.promise < x → m.told ≤ length (views.chosen x).before

-- a list that was shown
pub record ShownListIsPromised (node : ℕ → ChainNode) (x name : ℕ) (shown : List Entry) : Type 0 where
  pub promised : x ≤ key_of_stamp (node name).promise
  pub list : IsBeginningOf shown (node name).list
  pub stamp : Stamp
  pub is : key_of_stamp stamp ≡ x
  pub small : stamp.by < 256
  pub other : stamp.by ≢ name
  pub begun : x ≤ key_of_stamp (node stamp.by).promise

-- a list that was sent of to an unfinished ballot
pub record ServedListBeginsChain (node : ℕ → ChainNode) (views : Views) (x : ℕ) (list : List Entry) : Type 0 where
  pub chain : IsBeginningOf list (chain_of views)
  pub promised : (j : ℕ) → IsThere (node j) → is_member_at_end list j ≡ true → x ≤ key_of_stamp (node j).promise

-- enough have stored an accepted entry: who was welcomed before it, and counts at one above it
pub record Witness (node : ℕ → ChainNode) (group : List Entry) (n : ℕ) : Type 0 where
  pub number : ℕ
  pub above : n ≤ number
  pub within : number ≤ length group
  pub holders : ℕ → Bool
  pub counts : (h : ℕ) → holders h ≡ true → has (counting_names_in group number) h ≡ true
  pub logs : (h : ℕ) → holders h ≡ true → (node h).has_log ≡ true
  pub joined : (h : ℕ) → holders h ≡ true → (node h).start < n
  pub stored : (h : ℕ) → holders h ≡ true → IsBeginningOf (take number group) (node h).list
  pub enough : need_count group number ≤ count_of_passing_names holders

-- a departed name's Leave stands in the chain, and who was a member before it, is there and isn't leaving has stored it
pub record DepartedLeaveIsStored (node : ℕ → ChainNode) (views : Views) (d : ℕ) : Type 0 where
  pub before : List Entry
  pub chain : IsBeginningOf (before ++ Leave d ∷ []) (chain_of views)
  pub stored : (j : ℕ) → is_member_at_end before j ≡ true → IsThere (node j) → (node j).leaving ≡ false → IsBeginningOf (before ++ Leave d ∷ []) (node j).list

pub record ViewsAreSound (views : Views) : Type 0 where
  pub now : views.decided (key_of_stamp views.current) ≡ true
  -- stamps are decided in order
  pub order : (x : ℕ) → views.decided x ≡ true → x ≤ key_of_stamp views.current
  pub stamps : (x : ℕ) → views.decided x ≡ true → key_of_stamp (views.chosen x).stamp ≡ x
  pub good : IsGoodList (chain_of views)
  pub view : stamp_of_list (chain_of views) ≡ views.current
  pub opens : IsBeginningOf (list_with_chosen_view (current_of views)) (chain_of views)
  -- a complete view's View stands in the chain
  pub complete : (x : ℕ) → views.complete x ≡ true → IsBeginningOf (list_with_chosen_view (views.chosen x)) (chain_of views)
  pub marked : (x : ℕ) → views.complete x ≡ true → views.decided x ≡ true
  pub some : (x : ℕ) × (views.complete x ≡ true)

pub record GroupKeeps (s : Group) : Type 0 where
  pub views : ViewsAreSound s.views
  -- what was accepted stands in the chain
  pub group : IsBeginningOf s.group (chain_of s.views)
  pub each : (i : ℕ) → NodeIsSound s.views s.group i (s.node i)
  pub shown : (x name : ℕ) (list : List Entry) → s.shown x name ≡ Some list → ShownListIsPromised s.node x name list
  -- until a ballot is decided, a voter that promised no greater one still has the list that it showed
  pub still : (v : ℕ) (list : List Entry) → s.shown (key_of_stamp (s.node v).promise) v ≡ Some list → s.views.decided (key_of_stamp (s.node v).promise) ≡ false
      → (s.node v).list ≡ list
  -- what a voter has, it has shown to an unfinished ballot, or the coordinator has it
  pub short : (c k : ℕ) (list : List Entry) → IsUp (s.node c) → (s.node c).ballot ≡ true → s.shown (key_of_stamp (s.node c).promise) k ≡ Some list → IsUp (s.node k)
      → (length (s.node k).list ≤ length list) ⊎ (length (s.node k).list ≤ length (s.node c).list)
  pub served : (c h : ℕ) (list : List Entry) → IsUp (s.node c) → (s.node c).ballot ≡ true → s.served (key_of_stamp (s.node c).promise) h ≡ true
      → s.shown (key_of_stamp (s.node c).promise) h ≡ Some list → ServedListBeginsChain s.node s.views (key_of_stamp (s.node c).promise) list
  -- a name sent only of what it showed
  pub sent : (x h : ℕ) → s.served x h ≡ true → (list : List Entry) × (s.shown x h ≡ Some list)
  pub witness : (n : ℕ) → 1 < n → n ≤ length s.group → Witness s.node s.group n
  pub departed : (d : ℕ) → (s.node d).departed ≡ true → DepartedLeaveIsStored s.node s.views d
  -- a view whose View enough of its members have stored stands in the chain
  pub enough : (x : ℕ) → s.views.decided x ≡ true → (holders : ℕ → Bool) → ((h : ℕ) → holders h ≡ true → has (s.views.chosen x).members h ≡ true)
      → ((h : ℕ) → holders h ≡ true → IsBeginningOf (list_with_chosen_view (s.views.chosen x)) (s.node h).list)
      → min ((s.views.chosen x).resilience + 1) (count_of_passing_names (has (s.views.chosen x).members)) ≤ count_of_passing_names holders
      → IsBeginningOf (list_with_chosen_view (s.views.chosen x)) (chain_of s.views)
