-- Node boxes as contracts see them, and what an act leaves.
use Rattle.std.specs.Prelude.{◌≡◌, ◌⊎◌, ℕ, ◌<◌, List, [], ◌∷◌, ◌++◌, length, Option, Some, None, Bool, true, false, slice_index}
use Rattle.am_base.specs.Most.{most_events_of_run}
use Rattle.atomic_table.specs.Seated.{TableId}
use Rattle.am_node_defs.specs.Cores.{CoreFrontsAreInOrder}
use Rattle.am_base.specs.declared.outcome.Outcome.{Outcome}
use Rattle.am_base.specs.declared.outcome.Outcome.TheVariants as said
use Rattle.am_base.specs.declared.event.NodeEvent.{NodeEvent}
use Rattle.am_base.specs.declared.event.NodeEvent.TheVariants as does
use Rattle.am_packet.specs.Limits.{IsPacket}
use Rattle.am_packet.specs.Spelling.{spelling}
use Rattle.am_group.specs.declared.event.Act.{Act}
use Rattle.am_group.specs.declared.event.Act.TheVariants as act
use Rattle.am_group.specs.declared.event.By.{By}
use Rattle.am_group.specs.declared.event.Part.TheVariants.{Turn}
use Rattle.am_group.specs.declared.event.Event.{Event}
use Rattle.am_group.specs.declared.event.Record.{Record}
use Rattle.am_group.specs.declared.plan.RacePlan.{RacePlan}
use Rattle.am_group.specs.Addressed.{is_for, next_for}
use Rattle.am_group.specs.Journals.{letters_of_records, letter_at}
use Rattle.am_packet.specs.Boxes.{Letter}
use Rattle.am_model.specs.Node.{Node}
use Rattle.am_model.specs.Step.{row}
use Rattle.am_model.specs.Ends.{IsEndOf, DoesRow}
use Rattle.am_shared_journal_defs.specs.declared.terms.SharerKey.TheVariants.{Place, Caller}
use Rattle.am_shared_journal_defs.specs.declared.terms.WireRefusal.{WireRefusal}
use Rattle.am_shared_journal_defs.specs.declared.terms.WireRefusal.TheVariants as refusals
use Rattle.am_shared_journal_defs.specs.Passes.{Known}
use Rattle.am_shared_journal_defs.specs.Sights.{EachComesNext, GoesOn}
use Rattle.am_shared_journal_defs.specs.Stops.{has_stopped}
use Rattle.am_race_laws.specs.Answers.{is_end_of}
use Rattle.am_race_laws.specs.Told.{world_after}
use Rattle.am_race_laws.specs.Turns.{cursor, last_heard, is_waited, is_least, waits_in_vain, is_turn, may_end}
use Rattle.am_shared_journal_defs.specs.declared.choice.Choice.{Choice}
use Rattle.am_shared_journal_defs.specs.declared.choice.Choice.TheVariants as choice
use Rattle.am_base.specs.Names.{place_of_name, has}
use Rattle.am_shared_journal_defs.specs.Choices.{Luck, choice_of, act_of}
use Rattle.am_race_laws.specs.Lawful.{IsLawfulRecord, is_of_race, threadless_plan_of_terms, terms_of}
use Rattle.am_race_laws.specs.Tags.{is_turn_part}
use Rattle.am_race_laws.specs.declared.call.Came.{Came}
use Rattle.am_race_laws.specs.declared.answer.CallAnswer.{CallAnswer}
use Rattle.am_race_laws.specs.declared.answer.CallAnswer.TheVariants as answer
use Rattle.am_race_laws.specs.Ready.{round_in}

-- ---- acts

-- what an act asks of a node that runs, with the letter that it hears; None where it is no step of one
abbrev pub what_of : Act → Option Letter → Option NodeEvent
what_of (act.Send body) letter = Some (does.Send body)
what_of (act.Done req) letter = Some (does.Done req)
what_of act.Take letter = Some does.Take
what_of act.Join letter = Some does.Join
what_of act.State letter = Some does.State
what_of act.Leave letter = Some does.Leave
what_of (act.Reset least resilience) letter = Some (does.Reset least resilience)
what_of (act.Ask round) letter = Some (does.Ask round)
what_of (act.GiveUp name) letter = Some (does.GiveUp name)
what_of act.Stop letter = None
what_of act.Tick letter = Some does.Tick
what_of (act.Hear number) None = None
what_of (act.Hear number) (Some letter) = Some (does.Hear (spelling letter.packet))
what_of (act.Cut number keep) letter = None
what_of act.Return letter = None

-- a node does what was asked, or stops
abbrev pub Steps : Option NodeEvent → Node → Outcome → List Letter → Node → Type 0
Steps None m outcome letters n = (n ≡ m) × (outcome ≡ said.Stopped) × (letters ≡ [])
Steps (Some what) m outcome letters n = DoesRow (λ k. row k what) m outcome letters n × CoreFrontsAreInOrder n.core

-- the letter that is heard was sent to the name
pub record Hears (before : List Record) (name number : ℕ) (heard : Option Letter) : Type 0 where
  pub letter : Letter
  pub is : heard ≡ Some letter
  pub sent : letter_at (letters_of_records before) number ≡ Some letter
  pub its : is_for letter name ≡ true
  pub packet : IsPacket letter.packet

-- after these records a name may do an act: it runs, and hears what was sent, and gives up who stopped
pub record MayAct (before : List Record) (name : ℕ) (a : Act) (heard : Option Letter) : Type 0 where
  pub race : is_of_race a ≡ true
  pub runs : has_stopped before name ≡ false
  pub hears : (number : ℕ) → a ≡ act.Hear number → Hears before name number heard
  pub given : (other : ℕ) → a ≡ act.GiveUp other → has_stopped before other ≡ true

-- ---- boxes

-- a node's place: its name, what its pass has seen, and why it does nothing more, if it doesn't
pub record Boxed : Type 0 where
  pub name : ℕ
  pub seen : List Record
  pub closed : Option WireRefusal

-- the node is that of what its pass has seen
pub record BoxKeepsNode (plan : RacePlan) (name : ℕ) (seen : List Record) (m : Node) : Type 0 where
  pub end : IsEndOf ((world_after plan.founding seen).nodes name) m
  pub order : CoreFrontsAreInOrder m.core

-- how far the place has come, and whether its node stopped, are those of its records
pub record IsBox (wire : TableId) (plan : RacePlan) (name : ℕ) (pass : Known) (m : Node) (far : ℕ) (last : Option ℕ) (stopped : Bool)
    (closed : Option WireRefusal) : Type 0 where
  pub own : pass.wire ≡ wire
  pub terms : pass.terms ≡ terms_of plan
  pub keys : pass.keys ≡ Place name ∷ []
  pub place : name < 16
  pub lawful : EachComesNext (IsLawfulRecord (terms_of plan)) pass.seen
  pub node : closed ≡ None → BoxKeepsNode plan name pass.seen m
  pub cursor_ : closed ≡ None → far ≡ cursor name pass.seen
  pub last_ : closed ≡ None → last ≡ last_heard name pass.seen
  pub stopped_ : closed ≡ None → stopped ≡ has_stopped pass.seen name
  pub spent : closed ≡ Some refusals.Spent → length pass.seen ≡ most_events_of_run

-- a share of a caller of the race
pub record IsShareOf (wire : TableId) (plan : RacePlan) (caller : ℕ) (share : Known) : Type 0 where
  pub own : share.wire ≡ wire
  pub terms : share.terms ≡ terms_of plan
  pub keys : share.keys ≡ Caller caller ∷ []

-- by what was seen an act is a turn of its call, where it is one, and may be its end, where it is that
pub record IsTimely (plan : RacePlan) (seen : List Record) (e : Event) (by : By) : Type 0 where
  pub turn : is_turn_part by.part ≡ true → is_turn (threadless_plan_of_terms (terms_of plan)) seen e by ≡ true
  pub end_ : is_end_of by.part e.act ≡ true → may_end (threadless_plan_of_terms (terms_of plan)) seen e by ≡ true

-- the record of an act of a box's name, and what came of it
pub record IsRecord (name : ℕ) (a : Act) (by : By) (came : Came) (item : Record) : Type 0 where
  pub node : item.event.node ≡ name
  pub act_ : item.event.act ≡ a
  pub life : item.life ≡ 1
  pub by_ : item.by ≡ by
  pub outcome : item.outcome ≡ came.outcome
  pub round : round_in item.packets ≡ came.round

-- the act was done: its record stands after what the box and the caller had seen, and both have seen it
pub record Acted (old new : Boxed) (share share' : Known) (a : Act) (by : By) (came : Came) : Type 0 where
  pub before : List Record
  pub item : Record
  pub is : IsRecord old.name a by came item
  pub box : GoesOn (Place old.name ∷ []) old.seen before
  pub caller : GoesOn share.keys share.seen before
  pub seen : new.seen ≡ before ++ item ∷ []
  pub share_ : share' ≡ record share { seen = before ++ item ∷ [] }
  pub open_ : new.closed ≡ None

-- ---- refusals

-- why a call is refused at a node: by its Stop, by the journal's length, or for want of memory
abbrev pub IsRefused : List Record → ℕ → CallAnswer → Type 0
IsRefused seen name answer.Stopped = has_stopped seen name ≡ true
IsRefused seen name answer.Spent = length seen ≡ most_events_of_run
IsRefused seen name answer.NoMemory = Unit {0}
IsRefused seen name _ = ⊥

abbrev pub refusal_answer : WireRefusal → CallAnswer
refusal_answer refusals.NoMemory = answer.NoMemory
refusal_answer refusals.Spent = answer.Spent

-- the same box, which has seen more, without a record of its place
pub record BoxLooks (old new : Boxed) : Type 0 where
  pub name : new.name ≡ old.name
  pub closed : new.closed ≡ old.closed
  pub goes : GoesOn (Place old.name ∷ []) old.seen new.seen

-- ---- turns

-- the node of a name, by these records
abbrev pub node_by : RacePlan → List Record → ℕ → Node
node_by plan seen name = (world_after plan.founding seen).nodes name

-- the least name that the node waits for and that has stopped
abbrev pub GivesUp : RacePlan → List Record → ℕ → ℕ → Type 0
GivesUp plan seen name other = (is_waited (node_by plan seen name) seen other ≡ true) × (is_least (node_by plan seen name) seen other ≡ true)

-- the letter that a choice loses, or 0
abbrev pub lost_in : Choice → ℕ
lost_in choice.Tick = 0
lost_in (choice.Lose number) = number
lost_in (choice.Hear number) = 0
lost_in (choice.Repeat number) = 0

-- the letter that is heard, where one is
abbrev pub AreHeard : List Record → ℕ → Act → Option Letter → Type 0
AreHeard seen name a heard = (number : ℕ) → a ≡ act.Hear number → Hears seen name number heard

-- the least name of both sets: that of no place below it is
abbrev pub InBoth : List ℕ → List ℕ → ℕ → Type 0
InBoth waited stopped place = (0 < slice_index waited place) × (slice_index stopped place ≡ slice_index waited place)

pub record IsLeastOf (waited stopped : List ℕ) (name : ℕ) : Type 0 where
  pub low : name < 256
  pub first : has waited name ≡ true
  pub second : has stopped name ≡ true
  pub below : (place : ℕ) → place < place_of_name name → InBoth waited stopped place → ⊥

-- the letter that a choice hears
abbrev pub heard_in : Choice → Option ℕ
heard_in choice.Tick = None
heard_in (choice.Lose number) = None
heard_in (choice.Hear number) = Some number
heard_in (choice.Repeat number) = Some number

-- a choice was made by letters that were seen meanwhile
pub record Picked (luck : Luck) (name : ℕ) (seen last : List Record) (a : Act) (lost : ℕ) : Type 0 where
  pub two : List Record
  pub first : GoesOn (Place name ∷ []) seen two
  pub then_ : GoesOn (Place name ∷ []) two last
  pub said : Choice
  pub is : said ≡ choice_of luck (next_for (letters_of_records two) name (cursor name seen)) (last_heard name seen)
  pub act_ : a ≡ act_of said
  pub lost_ : lost ≡ lost_in said

-- the acts that a choice may do
abbrev pub is_turn_act : Act → Bool
is_turn_act act.Tick = true
is_turn_act (act.Hear number) = true
is_turn_act _ = false

-- a turn gives up the least name that is waited for and has stopped
pub record Gave (plan : RacePlan) (name : ℕ) (seen : List Record) (a : Act) (lost : ℕ) : Type 0 where
  pub other : ℕ
  pub gives : GivesUp plan seen name other
  pub act_ : a ≡ act.GiveUp other
  pub lost_ : lost ≡ 0

-- or nobody is waited for in vain, and the chooser says what is done
pub record Chose (plan : RacePlan) (luck : Luck) (name : ℕ) (seen last : List Record) (a : Act) (lost : ℕ) : Type 0 where
  pub one : List Record
  pub first : GoesOn (Place name ∷ []) seen one
  pub nobody : waits_in_vain (node_by plan one name) one ≡ false
  pub picked : Picked luck name one last a lost

abbrev pub Found : RacePlan → Luck → ℕ → List Record → List Record → Act → ℕ → Type 0
Found plan luck name seen last a lost = Gave plan name last a lost ⊎ Chose plan luck name seen last a lost

-- the event and the tag of a turn
abbrev pub turn_event_at : ℕ → Act → Event
turn_event_at name a = record { node = name; act = a }

abbrev pub turn_by : ℕ → ℕ → ℕ → By
turn_by caller call lost = record { caller = caller; call = call; part = Turn lost }
