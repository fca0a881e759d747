-- The moves of a group.
use Rattle.std.specs.Prelude.{◌≡◌, ◌≢◌, ◌⊎◌, ℕ, ◌+◌, ◌<◌, ◌≤◌, true, false, List, [], ◌∷◌, ◌++◌, length, take, Some, None, slice_get}
use Rattle.am_base.specs.declared.entry.GroupView.{GroupView}
use Rattle.am_base.specs.declared.name.Stamp.{Stamp}
use Rattle.am_base.specs.declared.entry.Entry.{Entry}
use Rattle.am_base.specs.declared.entry.Entry.TheVariants.{Data, Join, Leave, View}
use Rattle.am_base.specs.Names.{has, names_are_within}
use Rattle.am_base.specs.Lists.{members_of_image, fits}
use Rattle.am_base.specs.Whole.{IsBeginningOf, image_of_list, is_member_at_end, stamp_of_list, resilience_of_list, key_of_stamp}
use Rattle.am_abstract_group.specs.Group.{function_with_value, function_with_value_of_two, ChainNode, Chosen, list_with_chosen_view, Group, IsThere, IsUp, Leads, IsOngoing, MayAccept, IsNoBetterList}

-- a sequencer numbers sends, Joins, and Leaves that others asked for
abbrev pub MayNumber : (ℕ → ChainNode) → ℕ → Entry → Type 0
MayNumber node i (Data from req body) = Unit {0}
MayNumber node i (Join name) = Unit {0}
MayNumber node i (Leave name) = ((node name).leaving ≡ true) × (name ≢ i)
MayNumber node i (View v) = ⊥

-- a greater stamp of another name, which has begun it
pub record IsGreaterBegunStamp (node : ℕ → ChainNode) (i : ℕ) (stamp : Stamp) : Type 0 where
  pub greater : key_of_stamp (node i).promise < key_of_stamp stamp
  pub small : stamp.by < 256
  pub other : stamp.by ≢ i
  pub begun : key_of_stamp stamp ≤ key_of_stamp (node stamp.by).promise

-- this name of a need set showed no better list than the coordinator's
pub record ShowedNoBetterList (s : Group) (stamp : ℕ) (name : ℕ) (list : List Entry) : Type 0 where
  pub vote : List Entry
  pub is : s.shown stamp name ≡ Some vote
  pub worse : IsNoBetterList vote list

-- A ballot may be decided: the coordinator is in its own need set, which are the members of its list; each other name there has
-- voted for no better list, or was given up and isn't there; and the View has the names that weren't given up.
pub record CoordinatorMayDecide (s : Group) (i : ℕ) (v : GroupView) : Type 0 where
  pub small : i < 256
  pub up : IsUp (s.node i)
  pub ballot : (s.node i).ballot ≡ true
  pub needed : is_member_at_end (s.node i).list i ≡ true
  pub votes : (j : ℕ) → is_member_at_end (s.node i).list j ≡ true → IsThere (s.node j) → (j ≡ i) ⊎ ShowedNoBetterList s (key_of_stamp (s.node i).promise) j (s.node i).list
  pub within : names_are_within v.members (members_of_image (image_of_list (s.node i).list)) ≡ true
  pub all : (j : ℕ) → is_member_at_end (s.node i).list j ≡ true → IsThere (s.node j) → has v.members j ≡ true
  pub strong : resilience_of_list (s.node i).list ≤ v.resilience

-- A name may be welcomed to a decided view: its Join was accepted at this number, above the base, and before each later view.
pub record GroupMayWelcome (s : Group) (j : ℕ) (stamp : Stamp) (base join : ℕ) : Type 0 where
  pub there : IsThere (s.node j)
  pub no_log : (s.node j).has_log ≡ false
  pub staying : (s.node j).leaving ≡ false
  pub no_ballot : (s.node j).ballot ≡ false
  pub decided : s.views.decided (key_of_stamp stamp) ≡ true
  pub small : stamp.by < 256
  pub other : stamp.by ≢ j
  pub promise : key_of_stamp (s.node j).promise ≤ key_of_stamp stamp
  pub accepted : join ≤ length s.group
  pub joined : is_member_at_end (take join s.group) j ≡ true
  pub above : (a : List Entry) → IsBeginningOf a (take base s.group) → is_member_at_end a j ≡ true → ⊥
  pub below : base < join
  pub later : (x : ℕ) → s.views.decided x ≡ true → key_of_stamp stamp < x → is_member_at_end (take join (s.views.chosen x).before) j ≡ true

-- A leaving name may go: its Leave is accepted, and each name that was a member just before, is there and isn't leaving has stored it.
pub record MayDepart (s : Group) (i : ℕ) (before : List Entry) : Type 0 where
  pub up : IsUp (s.node i)
  pub leaving : (s.node i).leaving ≡ true
  pub accepted : IsBeginningOf (before ++ Leave i ∷ []) s.group
  pub stored : (j : ℕ) → is_member_at_end before j ≡ true → IsThere (s.node j) → (s.node j).leaving ≡ false → IsBeginningOf (before ++ Leave i ∷ []) (s.node j).list

-- with one name's part changed
abbrev pub group_with_node : Group → ℕ → ChainNode → Group
group_with_node s i m = record s { node = function_with_value s.node i m }

-- with a list made longer by its own name, and the line of its view
abbrev pub group_with_line : Group → ℕ → ChainNode → Group
group_with_line s i m = record s { node = function_with_value s.node i m; views = record s.views { line = function_with_value s.views.line (key_of_stamp (stamp_of_list (s.node i).list)) m.list } }

abbrev pub node_with_entry : ChainNode → Entry → ChainNode
node_with_entry m e = record m { list = m.list ++ e ∷ [] }

-- the next stamp of a node's own
abbrev pub next_own_stamp : ℕ → ChainNode → Stamp
next_own_stamp i m = record { round = m.promise.round + 1; by = i }

-- what is chosen by a coordinator as its list stands: this view, under the stamp that it promised
abbrev pub chosen_by : ChainNode → GroupView → Chosen
chosen_by m v = record { before = m.list; view = record v { stamp = m.promise } }

-- with a ballot decided by name i: its View is put on its list, and is the current view's
abbrev pub group_with_choice : Group → ℕ → GroupView → Group
group_with_choice s i v = record s {
  node = function_with_value s.node i (record (s.node i) { list = list_with_chosen_view (chosen_by (s.node i) v); ballot = false });
  views = record s.views {
    decided = function_with_value s.views.decided (key_of_stamp (s.node i).promise) true;
    chosen = function_with_value s.views.chosen (key_of_stamp (s.node i).promise) (chosen_by (s.node i) v);
    line = function_with_value s.views.line (key_of_stamp (s.node i).promise) (list_with_chosen_view (chosen_by (s.node i) v));
    current = (s.node i).promise;
  };
}

pub data Move : Group → Group → Type 0 where
  -- the sequencer numbers an entry that fits: Request, Spread, Send and Tick of a sequencer, JoinAsk, LeaveAsk
  numbers : {s : Group} (i : ℕ) (e : Entry) → Leads i (s.node i) → fits (image_of_list (s.node i).list) e ≡ true → MayNumber s.node i e
      → Move s (group_with_line s i (node_with_entry (s.node i) e))
  -- a node takes the next entry of the line of its promise, of another's ballot, as long as its own Leave isn't in its list:
  -- Bcast, Order, a Piece of the promise's own name, Result
  stores : {s : Group} (i : ℕ) (e : Entry) → IsUp (s.node i) → s.views.decided (key_of_stamp (s.node i).promise) ≡ true → (s.node i).promise.by ≢ i
      → IsOngoing (s.node i).list i → slice_get (s.views.line (key_of_stamp (s.node i).promise)) (length (s.node i).list) ≡ Some e
      → Move s (group_with_node s i (node_with_entry (s.node i) e))
  -- the sequencer's accept front rises: Ack, and each other step that ends with a refresh
  accepts : {s : Group} (i n : ℕ) → Leads i (s.node i) → MayAccept s.node (s.node i).list (length s.group) n
      → Move s (record s { group = take n (s.node i).list })
  -- a node is told how far the list is accepted, and gives out no more than it has: Bcast, Order, Accept, and a sequencer's refresh
  learns : {s : Group} (i told acc : ℕ) → IsUp (s.node i) → (s.node i).told ≤ told → told ≤ length s.group
      → ((x : ℕ) → s.views.decided x ≡ true → key_of_stamp (s.node i).promise < x → told ≤ length (s.views.chosen x).before) → (s.node i).acc ≤ acc → acc ≤ told
      → acc ≤ length (s.node i).list → Move s (group_with_node s i (record (s.node i) { told = told; acc = acc }))
  -- a member that isn't leaving begins a ballot: Reset, HandOver
  begins : {s : Group} (i : ℕ) → i < 256 → IsUp (s.node i) → (s.node i).leaving ≡ false → is_member_at_end (s.node i).list i ≡ true
      → Move s (group_with_node s i (record (s.node i) { promise = next_own_stamp i (s.node i); ballot = true }))
  -- a node promises a greater stamp, which ends its own ballot: Invite, Vote of a greater stamp, Result
  raises : {s : Group} (i : ℕ) (stamp : Stamp) → IsThere (s.node i) → IsGreaterBegunStamp s.node i stamp
      → Move s (group_with_node s i (record (s.node i) { promise = stamp; ballot = false }))
  -- a node shows its list to the ballot that it promised: Invite, also one that is answered Newer
  shows : {s : Group} (i : ℕ) → IsThere (s.node i) → (s.node i).promise.by < 256 → (s.node i).promise.by ≢ i
      → key_of_stamp (s.node i).promise ≤ key_of_stamp (s.node (s.node i).promise.by).promise → s.shown (key_of_stamp (s.node i).promise) i ≡ None
      → Move s (record s { shown = function_with_value_of_two s.shown (key_of_stamp (s.node i).promise) i (Some (s.node i).list) })
  -- a node sends of the list that it showed, where each of that list's members but the coordinator has voted or isn't there: Fetch
  serves : {s : Group} (i : ℕ) (list : List Entry) → IsUp (s.node i) → s.shown (key_of_stamp (s.node i).promise) i ≡ Some list
      → ((j : ℕ) → is_member_at_end list j ≡ true → IsThere (s.node j) → (j ≡ (s.node i).promise.by)
      ⊎ ((vote : List Entry) × (s.shown (key_of_stamp (s.node i).promise) j ≡ Some vote))) → Move s (record s { served = function_with_value_of_two s.served (key_of_stamp (s.node i).promise) i true })
  -- a coordinator takes the next entry of a list that a voter sent of: a Piece of another name
  fetches : {s : Group} (i h : ℕ) (list : List Entry) (e : Entry) → IsUp (s.node i) → (s.node i).ballot ≡ true → s.served (key_of_stamp (s.node i).promise) h ≡ true
      → s.shown (key_of_stamp (s.node i).promise) h ≡ Some list → slice_get list (length (s.node i).list) ≡ Some e → Move s (group_with_node s i (node_with_entry (s.node i) e))
  -- a coordinator decides its ballot: Reset, Vote, GiveUp, Piece
  decides : {s : Group} (i : ℕ) (v : GroupView) → CoordinatorMayDecide s i v → Move s (group_with_choice s i v)
  -- a ballot ends without a decision
  gives_over : {s : Group} (i : ℕ) → Move s (group_with_node s i (record (s.node i) { ballot = false }))
  -- an accepted name gets the list up to some base below its Join: Welcome
  welcomes : {s : Group} (j : ℕ) (stamp : Stamp) (base join : ℕ) → GroupMayWelcome s j stamp base join
      → Move s (group_with_node s j (record (s.node j) { list = take base s.group; has_log = true; start = join; promise = stamp; told = base; acc = base }))
  -- a member asks to leave: Leave
  asks : {s : Group} (i : ℕ) → IsUp (s.node i) → (s.node i).ballot ≡ false → Move s (group_with_node s i (record (s.node i) { leaving = true }))
  -- a leaving member goes: Gone
  departs : {s : Group} (i : ℕ) (before : List Entry) → MayDepart s i before → Move s (group_with_node s i (record (s.node i) { departed = true }))
  -- the only member numbers its own Leave, accepts what it may, and goes: Leave, Tick
  closes : {s : Group} (i n : ℕ) → Leads i (s.node i) → (s.node i).leaving ≡ true → ((j : ℕ) → is_member_at_end (s.node i).list j ≡ true → j ≡ i)
      → MayAccept (function_with_value s.node i (node_with_entry (s.node i) (Leave i))) ((s.node i).list ++ Leave i ∷ []) (length s.group) n
      → Move s (record (group_with_line s i (record (node_with_entry (s.node i) (Leave i)) { departed = true })) { group = take n ((s.node i).list ++ Leave i ∷ []) })
  -- a node stops: Stop
  stops : {s : Group} (i : ℕ) → Move s (group_with_node s i (record (s.node i) { stopped = true }))
