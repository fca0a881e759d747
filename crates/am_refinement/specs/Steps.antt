-- What a change of a node needs of the group that stands for its world, to be some moves of it.
use Rattle.std.specs.Prelude.{◌≡◌, ◌≢◌, ℕ, ◌<◌, ◌≤◌, List, [], ◌∷◌, ◌++◌, length, take, slice_get, Some, true, false}
use Rattle.std.specs.List.{list_any}
use Rattle.am_base.specs.declared.name.Stamp.{Stamp}
use Rattle.am_base.specs.declared.image.Image.{Image}
use Rattle.am_base.specs.declared.entry.Entry.{Entry}
use Rattle.am_base.specs.declared.entry.Entry.TheVariants.{View}
use Rattle.am_base.specs.declared.outcome.Outcome.{Outcome}
use Rattle.am_base.specs.Names.{IsSetOfNames, has}
use Rattle.am_base.specs.Lists.{fits}
use Rattle.am_packet.specs.declared.packet.Packet.TheVariants as packet
use Rattle.am_group.specs.declared.event.Event.{Event}
use Rattle.am_base.specs.Whole as whole
use Rattle.am_base.specs.Whole.{stamp_of_list, key_of_stamp}
use Rattle.am_abstract_group.specs.Group.{Group, IsOngoing}
use Rattle.am_abstract_group.specs.Moves.{group_with_node, MayNumber, GroupMayWelcome, CoordinatorMayDecide}
use Rattle.am_model.specs.Node.{Node, Ballot, image_of_node, view, members}
use Rattle.am_model.specs.Calls.{is_unfinished_ballot}
use Rattle.am_model.specs.Receiving.{is_view}
use Rattle.am_model.specs.Ballots.{BallotVerdict, need_set_of, need_set_without_given_up, decided_view}
use Rattle.am_group_defs.specs.Lawful.{is_view_of}
use Rattle.am_group_defs.specs.World.{Decided, World, is_stopped, last_view_of}
use Rattle.am_step_laws.specs.Causes.{Cause, hears}
use Rattle.am_step_laws.specs.Looks as looks
use Rattle.am_step_laws.specs.Looks.{LooksAtBallot, decides}
use Rattle.am_step_laws.specs.Changes.{MayPromise, Change, numbers, stores, begins_list, looks, fetches, stores_view, closes}
use Rattle.am_step_laws.specs.Events.{EventHappens, steps}
use Rattle.am_refinement.specs.Standing.{StandsBut, Stands, within}
use Rattle.am_refinement.specs.Letters.{GoneSays}
use Rattle.am_refinement.specs.Moving.{NamesNamed, AllVoted, MovesLeadTo}

-- a stamp of a letter was begun: its name has promised it
pub record WasBegun (s : Group) (v : Stamp) : Type 0 where
  pub small : v.by < 256
  pub begun : key_of_stamp v ≤ key_of_stamp (s.node v.by).promise

-- what holds of the name that does a step, in any world; and what it hears is so
pub record MovesSo (name : ℕ) (c : Cause) (x : Node) (s : Group) : Type 0 where
  pub few : name < 256
  pub who : x.core.who ≡ name
  pub promise : x.core.promise.by < 256
  -- an unfinished ballot's stamp is the promise
  pub ballot : (b : Ballot) → x.ballot ≡ Some b → b.is_over ≡ false → b.stamp ≡ x.core.promise
  pub stamps : (v : Stamp) → MayPromise c x v → WasBegun s v
  pub gone : (from : ℕ) (v : Stamp) (number : ℕ) → c ≡ hears (packet.Gone from v number) → GoneSays s number name

-- and it runs
pub record MayMove (w : World) (name : ℕ) (c : Cause) (x : Node) (s : Group) : Type 0 where
  pub so : MovesSo name c x s
  pub open so use *
  pub runs : is_stopped w name ≡ false
  pub noted : (k : ℕ) (v : Decided) → slice_get w.views k ≡ Some v → v.stamp.by < 256

-- ---- what a change needs of the group besides, by what it makes of a list

-- a sequencer has its view's line, and numbers what fits, and no Leave but of a name that leaves
pub record MeetsNeedsOfNumbering (s : Group) (name : ℕ) (x : Node) (e : Entry) : Type 0 where
  pub chain : s.views.line (key_of_stamp (stamp_of_list (s.node name).list)) ≡ (s.node name).list
  pub fit : fits (image_of_node x) e ≡ true
  pub named : NamesNamed e
  pub may : MayNumber s.node name e

-- an entry more isn't one of the node's own view, but for a View
abbrev pub IsOthers : ℕ → Node → Entry → Type 0
IsOthers name x e = (view x).by ≡ name → is_view e ≡ true

-- what is stored comes next in the line of the promise, which is another name's and was decided
pub record NeedsEntry (s : Group) (name : ℕ) (x : Node) (e : Entry) : Type 0 where
  pub others : IsOthers name x e
  pub decided : s.views.decided (key_of_stamp (s.node name).promise) ≡ true
  pub other : (s.node name).promise.by ≢ name
  pub stays : IsOngoing (s.node name).list name
  pub next : slice_get (s.views.line (key_of_stamp (s.node name).promise)) (length (s.node name).list) ≡ Some e

-- what a coordinator fetches comes next in a list that was shown to its ballot, and sent of
pub record NeedsShown (s : Group) (name : ℕ) (x : Node) (e : Entry) : Type 0 where
  pub others : IsOthers name x e
  pub from : ℕ
  pub list : List Entry
  pub served : s.served (key_of_stamp (s.node name).promise) from ≡ true
  pub shown : s.shown (key_of_stamp (s.node name).promise) from ≡ Some list
  pub next : slice_get list (length (s.node name).list) ≡ Some e

pub data NeedsPiece (s : Group) (name : ℕ) (x : Node) (e : Entry) : Type 0 where
  of_line : NeedsEntry s name x e → NeedsPiece s name x e
  of_shown : is_unfinished_ballot x.ballot ≡ true → NeedsShown s name x e → NeedsPiece s name x e

-- a joiner has nothing yet, and the image tells what the group accepted up to the base
pub record NeedsWelcome (s : Group) (name : ℕ) (v : Stamp) (base join : ℕ) (image : Image) : Type 0 where
  pub may : GroupMayWelcome s name v base join
  pub blank : (s.node name).list ≡ []
  pub within : base ≤ length s.group
  pub image_ : image ≡ whole.image_of_list (take base s.group)

-- a coordinator may decide: by the group's own test, with a stamp of which nothing was decided and no View stands in its list; and the
-- members that its View names are the members then
pub record NeedsDecision (s : Group) (name : ℕ) (x : Node) (b : Ballot) : Type 0 where
  pub may : CoordinatorMayDecide s name (decided_view x b (need_set_without_given_up b (need_set_of x b)))
  pub own : x.core.promise.by ≡ name
  pub fresh : s.views.decided (key_of_stamp x.core.promise) ≡ false
  pub unseen : list_any (is_view_of x.core.promise) (s.node name).list ≡ false
  pub members_ : members (looks.decided_view_node x b) ≡ need_set_without_given_up b (need_set_of x b)
  pub set : IsSetOfNames (need_set_without_given_up b (need_set_of x b))
  pub voted : AllVoted s name (λ j. has (need_set_without_given_up b (need_set_of x b)) j ≡ true)

abbrev pub NeedsLook : {m : Node} {b : Ballot} {v : BallotVerdict} → Group → ℕ → LooksAtBallot m b v → Type 0
NeedsLook {m = m} {b = b} s name (decides may) = NeedsDecision s name m b
NeedsLook s name _ = Unit {0}

-- ⊥: the last member's own Leave ends its step (specs Ends)
abbrev pub Needs : {c : Cause} {o : Outcome} {m n : Node} → Group → ℕ → Change c o m n → Type 0
Needs {m = m} s name (numbers e leads room why) = MeetsNeedsOfNumbering s name m e
Needs {m = m} s name (stores from v base acc number e by heard plain may) = NeedsEntry s name m e
Needs {m = m} s name (begins_list from v base join image is o may) = NeedsWelcome s name v base join image
Needs s name (looks b verdict over why look is) = NeedsLook s name look
Needs {m = m} s name (fetches from v base number e is by promise below why may) = NeedsPiece s name m e
Needs {m = m} s name (stores_view from base number v is by own other promise below may) = NeedsEntry s name m (View v)
Needs s name (closes leads leaves alone room) = ⊥
Needs s name _ = Unit {0}

-- ---- the world after a change

-- with a view that was decided, as it is noted at the end of the step
abbrev pub world_noting : World → Decided → World
world_noting w d = record w { views = w.views ++ d ∷ [] }

abbrev pub after_look : {m : Node} {b : Ballot} {v : BallotVerdict} → LooksAtBallot m b v → World → World
after_look {v = v} (decides may) w = world_noting w (last_view_of v.node)
after_look _ w = w

abbrev pub after_change : {c : Cause} {o : Outcome} {m n : Node} → Change c o m n → World → World
after_change (looks b verdict over why look is) w = after_look look w
after_change _ w = w

-- how far a name was told that the list is accepted, and how far it gives entries out, is as before; a Welcome tells of its base
pub record FrontsStay (name : ℕ) (s t : Group) : Type 0 where
  pub told : (t.node name).told ≡ (s.node name).told
  pub acc : (t.node name).acc ≡ (s.node name).acc

pub record FrontsBegin (name base : ℕ) (t : Group) : Type 0 where
  pub told : (t.node name).told ≡ base
  pub acc : (t.node name).acc ≡ base

abbrev pub FrontsAfter : {c : Cause} {o : Outcome} {m n : Node} → Change c o m n → ℕ → Group → Group → Type 0
FrontsAfter (begins_list from v base join image is o may) name s t = FrontsBegin name base t
FrontsAfter _ name s t = FrontsStay name s t

-- each change is moves of the group to one that stands for the world after it
abbrev pub ChangesStand : Type 0
ChangesStand = (w : World) (name : ℕ) (c : Cause) (o : Outcome) (x y : Node) (s : Group) (z : Change c o x y) → MayMove w name c x s → Needs s name z
    → StandsBut name (within w name x) s → MovesLeadTo (λ t. StandsBut name (within (after_change z w) name y) t × FrontsAfter z name s t) s

-- ---- events that no node does

abbrev pub IsNoStep : {w : World} {e : Event} {v : World} → EventHappens w e v → Type 0
IsNoStep (steps c s runs cause effect) = ⊥
IsNoStep _ = Unit {0}

-- each of these is no move of the group, or that a name stops
pub data EventStands (v : World) (s : Group) : Type 0 where
  no_move : Stands v s → EventStands v s
  stop : (i : ℕ) → Stands v (group_with_node s i (record (s.node i) { stopped = true })) → EventStands v s

abbrev pub EventsStand : Type 0
EventsStand = (w : World) (e : Event) (v : World) (s : Group) (z : EventHappens w e v) → IsNoStep z → Stands w s → EventStands v s
