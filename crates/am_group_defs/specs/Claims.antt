-- What is claimed of runs.
use Rattle.std.specs.Prelude.{◌≡◌, ◌≢◌, ℕ, ◌+◌, ◌-◌, ◌<◌, ◌≤◌, List, [], ◌∷◌, ◌++◌, length, take, Option, Some, None, Bool, true, false, ◌&&◌, ◌==◌}
use Rattle.std.specs.Prelude.{if◌then◌else◌, slice_get, Contains}
use Rattle.std.specs.List.{range_with_len, flat_map}
use Rattle.am_base.specs.declared.name.Stamp.{Stamp}
use Rattle.am_base.specs.declared.entry.Entry.{Entry}
use Rattle.am_base.specs.declared.entry.Entry.TheVariants.{Data, Join, View}
use Rattle.am_base.specs.declared.outcome.Outcome.{Outcome}
use Rattle.am_base.specs.declared.outcome.Outcome.TheVariants as said
use Rattle.am_base.specs.Names.{has, size}
use Rattle.am_base.specs.Lists.{log_members_at, requests_of_sender}
use Rattle.am_base.specs.Stamps.{stamp_is_less}
use Rattle.am_base.specs.Founding.{Rules, MayFound}
use Rattle.am_packet.specs.Kinds.{kind_of}
use Rattle.am_packet.specs.Boxes.{Letter}
use Rattle.am_group.specs.declared.event.Act.{Act}
use Rattle.am_group.specs.declared.event.Act.TheVariants as act
use Rattle.am_group.specs.declared.event.Event.{Event}
use Rattle.am_group.specs.declared.event.Record.{Record}
use Rattle.am_model.specs.Node.{Node, top, view}
use Rattle.am_group_defs.specs.World.{Decided, World, happens, run}
use Rattle.am_group.specs.Journals.{letter_at, item_at}
use Rattle.am_group.specs.Deliveries.{acting_name_of_record, deliveries}
use Rattle.am_group_defs.specs.Group.{AcceptedSend, accepted_sends}
use Rattle.am_group_defs.specs.AbstractGroup.{EventMoves, group_of}
use Rattle.am_group_defs.specs.Lawful.{whole, is_view_of, is_complete, lawful_front}
use Rattle.am_model.specs.Receiving.{is_view}

-- ---- segment: what a name is given is a gapless piece of the group list

-- the packet that an act hears
abbrev pub packet_heard_by_act : Act → ℕ
packet_heard_by_act (act.Hear number) = number
packet_heard_by_act (act.Cut number keep) = number
packet_heard_by_act _ = 0

abbrev pub is_welcome : Option Letter → Bool
is_welcome None = false
is_welcome (Some letter) = kind_of letter.packet == 10

abbrev pub welcome_number_of_outcome : Outcome → List ℕ
welcome_number_of_outcome (said.Welcomed number) = number ∷ []
welcome_number_of_outcome _ = []

-- the numbers with which a name was welcomed
abbrev pub welcome_numbers_of : World → ℕ → List ℕ
welcome_numbers_of w name = flat_map (λ r. if (acting_name_of_record r == name) && is_welcome (letter_at w.letters (packet_heard_by_act r.event.act)) then welcome_number_of_outcome r.outcome else []) w.records

-- a founder begins at 1; a joiner where it was welcomed, once, which is its Join
pub record BeginsAt (rules : Rules) (w : World) (name s : ℕ) : Type 0 where
  pub founder : has rules.founders name ≡ true → s ≡ 1
  pub joiner : has rules.founders name ≡ false → (welcome_numbers_of w name ≡ s ∷ []) × (item_at w.group s ≡ Some (Join name))

-- the deliveries are the list's entries from a number on, without a gap
abbrev pub IsSegment : List (ℕ × Entry) → ℕ → List Entry → Type 0
IsSegment given s list = (k number : ℕ) (e : Entry) → slice_get given k ≡ Some (number, e) → (number ≡ s + k) × (item_at list (s + k) ≡ Some e)

pub record Segment (rules : Rules) (w : World) : Type 0 where
  pub each : (name : ℕ) → deliveries w.records name ≢ [] → (s : ℕ) × BeginsAt rules w name s × IsSegment (deliveries w.records name) s w.group

-- ---- once: a send that was answered as sent stands at its number, and nowhere else

-- the send stands at this number, and nowhere else
pub record StandsOnce (list : List Entry) (name req number : ℕ) : Type 0 where
  pub there : (body : List ℕ) × (item_at list number ≡ Some (Data name req body))
  pub only : (k : ℕ) (body : List ℕ) → item_at list k ≡ Some (Data name req body) → k ≡ number

pub record Once (w : World) : Type 0 where
  pub each : (k : ℕ) (s : AcceptedSend) → slice_get (accepted_sends w.records) k ≡ Some s → StandsOnce w.group s.name s.req s.number

-- ---- kept: a complete view keeps what was given out before it

-- a list up to before its next View
unfoldable pub up_to_view : List Entry → List Entry
up_to_view [] = []
up_to_view (e ∷ es) = if is_view e then [] else e ∷ up_to_view es

-- a list up to before the next View after the one of this stamp
unfoldable pub up_to_next : Stamp → List Entry → List Entry
up_to_next v [] = []
up_to_next v (e ∷ es) = if is_view_of v e then e ∷ up_to_view es else e ∷ up_to_next v es

-- the line of a view: its coordinator's list, up to before that list's next View
abbrev pub line_of : World → Stamp → List Entry
line_of w v = up_to_next v (whole w (w.nodes v.by))

-- the view became complete at some moment
abbrev pub BecameComplete : Rules → List Event → Decided → Type 0
BecameComplete rules events v = (k : ℕ) × Contains (run rules (take k events)).views v × (is_complete (run rules (take k events)) v ≡ true)

pub record KeepsView (rules : Rules) (events : List Event) (v : Decided) : Type 0 where
  -- an entry that a node took while its view was below v stands in the line of v, below its View
  pub taken : (k number : ℕ) (e : Entry) (r : Record) → slice_get (run rules events).records k ≡ Some r → r.outcome ≡ said.Took number e
      → stamp_is_less (view ((run rules (take k events)).nodes (acting_name_of_record r))) v.stamp ≡ true
      → (number < v.number) × (item_at (line_of (run rules events) v.stamp) number ≡ Some e)
  -- up to its View the group list is the line of v
  pub group : (number : ℕ) (e : Entry) → number ≤ v.number → item_at (run rules events).group number ≡ Some e
      → item_at (line_of (run rules events) v.stamp) number ≡ Some e

pub record Kept (rules : Rules) (events : List Event) : Type 0 where
  pub each : (v : Decided) → BecameComplete rules events v → KeepsView rules events v

-- ---- sent: each Data was sent by its sender

pub record IsSend (r : Record) (name req : ℕ) (body : List ℕ) : Type 0 where
  pub by : acting_name_of_record r ≡ name
  pub asked : r.event.act ≡ act.Send body
  pub answered : r.outcome ≡ said.Queued req

-- what stands in the list at some moment was sent by then: the Send is one of the events up to there
pub record Sent (rules : Rules) (events : List Event) : Type 0 where
  pub each : (moment number name req : ℕ) (body : List ℕ) → item_at (run rules (take moment events)).group number ≡ Some (Data name req body)
      → (k : ℕ) × (r : Record) × (k < moment) × (slice_get (run rules events).records k ≡ Some r) × IsSend r name req body

-- ---- sender's order: a sender's requests are numbered in turn

-- the requests 1, 2, 3 and so on
pub record SendersOrder (w : World) : Type 0 where
  pub each : (name : ℕ) → requests_of_sender name w.group ≡ range_with_len 1 (length (requests_of_sender name w.group))

-- ---- bounded: how much a node keeps

pub record Bounded (rules : Rules) (events : List Event) : Type 0 where
  pub each : (k name : ℕ) → top ((run rules (take k events)).nodes name) - ((run rules (take k events)).nodes name).core.base ≤ rules.window + 15

-- ---- the headline

-- of a run, up to where it is lawful
pub record Holds (rules : Rules) (events : List Event) : Type 0 where
  pub segment : Segment rules (run rules events)
  pub once : Once (run rules events)
  pub kept : Kept rules events
  pub sent : Sent rules events
  pub senders_order : SendersOrder (run rules events)

-- one world's records, letters and group list begin another's
pub record WorldBegins (w whole : World) : Type 0 where
  pub records : (rest : List Record) × (whole.records ≡ w.records ++ rest)
  pub letters : (rest : List Letter) × (whole.letters ≡ w.letters ++ rest)
  pub group : (rest : List Entry) × (whole.group ≡ w.group ++ rest)

pub record Headline (rules : Rules) (events : List Event) : Type 0 where
  pub front : Holds rules (lawful_front rules events)
  pub begins : WorldBegins (run rules (lawful_front rules events)) (run rules events)
  pub bounded : Bounded rules events

abbrev pub HeadlineHolds : Type 0
HeadlineHolds = (rules : Rules) (events : List Event) → MayFound rules → Headline rules events

-- ---- runs without a ballot

abbrev pub NoBallot : World → Type 0
NoBallot w = (name : ℕ) → (w.nodes name).ballot ≡ None

-- whoever stops
pub record HoldsUnballoted (rules : Rules) (events : List Event) : Type 0 where
  pub segment : Segment rules (run rules events)
  pub once : Once (run rules events)
  pub sent : Sent rules events
  pub senders_order : SendersOrder (run rules events)
  pub bounded : Bounded rules events

abbrev pub RunsWithoutBallotHold : Type 0
RunsWithoutBallotHold = (rules : Rules) (events : List Event) → MayFound rules → NoBallot (run rules events) → HoldsUnballoted rules events

-- what an event makes of a run: its record, and moves of the group by that record
pub record MovesOn (w v : World) : Type 0 where
  pub done : Record
  pub records : v.records ≡ w.records ++ done ∷ []
  pub moves : EventMoves done (group_of w) (group_of v)

abbrev pub UnballotedMoves : Type 0
UnballotedMoves = (rules : Rules) (events : List Event) (e : Event) → MayFound rules → NoBallot (happens (run rules events) e)
    → MovesOn (run rules events) (happens (run rules events) e)

-- ---- up to where a run is lawful a View that leaves somebody out always fits

pub record FitsView (rules : Rules) (m : Node) : Type 0 where
  pub each : (number : ℕ) → m.core.base < number → number ≤ top m → number - m.core.base ≤ rules.window + 16 - size (log_members_at m.core.log number)

abbrev pub ViewsFit : Type 0
ViewsFit = (rules : Rules) (events : List Event) (name : ℕ) → MayFound rules → FitsView rules ((run rules (lawful_front rules events)).nodes name)
