-- What one name does in a run, alone.
use Rattle.std.specs.Prelude.{◌≡◌, ℕ, List, [], ◌∷◌, ◌++◌, take, Option, Some, None, Ok, not, ◌==◌, if◌then◌else◌, All}
use Rattle.am_base.specs.Founding.{Rules, MayFound}
use Rattle.am_base.specs.Names.{place_of_name}
use Rattle.am_base.specs.declared.outcome.Outcome.{Outcome}
use Rattle.am_base.specs.declared.event.NodeEvent.{NodeEvent}
use Rattle.am_base.specs.declared.event.NodeEvent.TheVariants as does
use Rattle.am_packet.specs.Boxes.{Letter}
use Rattle.am_packet.specs.Limits.{IsPacket}
use Rattle.am_packet.specs.Spelling.{spelling}
use Rattle.am_packet.specs.Reading.{reading}
use Rattle.am_group.specs.declared.event.Act.{Act}
use Rattle.am_group.specs.declared.event.Act.TheVariants as act
use Rattle.am_group.specs.declared.event.Event.{Event}
use Rattle.am_group.specs.declared.event.Record.{Record}
use Rattle.am_group.specs.Journals.{letter_at}
use Rattle.am_group.specs.Addressed.{is_for}
use Rattle.am_model.specs.Node.{Node}
use Rattle.am_model.specs.Nodes.{HasNumbersLeft}
use Rattle.am_model.specs.Step.{step}
use Rattle.am_group_defs.specs.World.{World, start, first_node, current, is_stopped, happens, run}
use Rattle.am_step_laws.specs.Bytes.{BodyIsWithinLimit, IsRunWithinScriptLimits, run_of_bytes}

-- what a node did: an event of its own or bytes that it heard, what it answered, and what it sent
pub record NodeStep : Type 0 where
  pub event : NodeEvent
  pub outcome : Outcome
  pub letters : List Letter

-- ---- what a name's node does at an act; None where no node does anything

-- a stopped one does nothing
abbrev pub unless_stopped : World → ℕ → NodeEvent → Option NodeEvent
unless_stopped w name event = if is_stopped w name then None else Some event

-- only a stopped name is given up
abbrev pub giving_up : World → ℕ → ℕ → Option NodeEvent
giving_up w name other = if is_stopped w name then None else if is_stopped w other then Some (does.GiveUp other) else None

-- a letter's bytes, or some of them, are heard by whom it is for
abbrev pub hearing_of : World → ℕ → (List ℕ → List ℕ) → Option Letter → Option NodeEvent
hearing_of w name some None = None
hearing_of w name some (Some letter) =
    if not (is_for letter name) then None else if is_stopped w name then None else Some (does.Hear (some (spelling letter.packet)))

abbrev pub own_event : World → ℕ → Act → Option NodeEvent
own_event w name (act.Send body) = unless_stopped w name (does.Send body)
own_event w name (act.Done req) = unless_stopped w name (does.Done req)
own_event w name act.Take = unless_stopped w name does.Take
own_event w name act.Join = unless_stopped w name does.Join
own_event w name act.State = unless_stopped w name does.State
own_event w name act.Leave = unless_stopped w name does.Leave
own_event w name (act.Reset least resilience) = unless_stopped w name (does.Reset least resilience)
own_event w name (act.Ask round) = unless_stopped w name (does.Ask round)
own_event w name (act.GiveUp other) = giving_up w name other
own_event w name act.Stop = None
own_event w name act.Tick = unless_stopped w name does.Tick
own_event w name (act.Hear number) = hearing_of w name (λ bytes. bytes) (letter_at w.letters number)
own_event w name (act.Cut number keep) = hearing_of w name (take keep) (letter_at w.letters number)
own_event w name act.Return = None

-- ---- runs of any length, in which nodes have numbers left

-- a node that does an event has numbers left before it
abbrev pub HasNumbersAt : World → Event → Type 0
HasNumbersAt w e = (what : NodeEvent) → own_event w (current w (place_of_name e.node)) e.act ≡ Some what
    → HasNumbersLeft (w.nodes (current w (place_of_name e.node)))

-- each that does one of these does
unfoldable pub HaveNumbers : World → List Event → Type 0
HaveNumbers w [] = Unit {0}
HaveNumbers w (e ∷ es) = HasNumbersAt w e × HaveNumbers (happens w e) es

-- a founding and events whose nodes have numbers left
pub record StaysInRange (rules : Rules) (events : List Event) : Type 0 where
  pub founds : MayFound rules
  pub bodies : All (λ (e : Event). BodyIsWithinLimit e.act) events
  pub numbers : HaveNumbers (start rules) events

-- each run of at most 100,000 events is such a run
abbrev pub ShortRunsStayInRange : Type 0
ShortRunsStayInRange = (rules : Rules) (events : List Event) → IsRunWithinScriptLimits rules events → StaysInRange rules events

-- each letter of such a run holds a packet within a packet's limits
abbrev pub LettersStayPackets : Type 0
LettersStayPackets = (rules : Rules) (events : List Event) → StaysInRange rules events → (number : ℕ) (letter : Letter)
    → letter_at (run rules events).letters number ≡ Some letter → IsPacket letter.packet

-- so its bytes are read as it
abbrev pub LettersStayRead : Type 0
LettersStayRead = (rules : Rules) (events : List Event) → StaysInRange rules events → (number : ℕ) (letter : Letter)
    → letter_at (run rules events).letters number ≡ Some letter → reading (spelling letter.packet) ≡ Ok letter.packet

-- and where nodes hear bytes the run is the same
abbrev pub RunsStayOfBytes : Type 0
RunsStayOfBytes = (rules : Rules) (events : List Event) → StaysInRange rules events → run_of_bytes rules events ≡ run rules events

-- ---- what a name did in a run, by the records that its events left

abbrev pub step_of_record : Record → Option NodeEvent → List NodeStep
step_of_record happened None = []
step_of_record happened (Some event) = record { event = event; outcome = happened.outcome; letters = happened.packets } ∷ []

abbrev pub part_at : ℕ → World → Event → Record → List NodeStep
part_at name w e happened =
    if name == current w (place_of_name e.node) then step_of_record happened (own_event w (current w (place_of_name e.node)) e.act) else []

unfoldable pub steps_of_records : ℕ → World → List Event → List Record → List NodeStep
steps_of_records name w [] records = []
steps_of_records name w (e ∷ es) [] = []
steps_of_records name w (e ∷ es) (happened ∷ later) = part_at name w e happened ++ steps_of_records name (happens w e) es later

-- ---- a node alone

-- the node after its parts
unfoldable pub node_after_steps : Node → List NodeStep → Node
node_after_steps m [] = m
node_after_steps m (part ∷ parts) = node_after_steps (step m part.event).node parts

-- each part's answer and letters are those of the node's step
unfoldable pub EachIsAnswered : Node → List NodeStep → Type 0
EachIsAnswered m [] = Unit {0}
EachIsAnswered m (part ∷ parts) = (part.outcome ≡ (step m part.event).outcome) × (part.letters ≡ (step m part.event).letters) × EachIsAnswered (step m part.event).node parts

-- a node came to another by its parts
pub record IsMade (m : Node) (parts : List NodeStep) (n : Node) : Type 0 where
  pub node : n ≡ node_after_steps m parts
  pub answers : EachIsAnswered m parts

-- so is each name's node in every run in which nodes have numbers left
abbrev pub RunsAreMadeOfNodes : Type 0
RunsAreMadeOfNodes = (rules : Rules) (events : List Event) → StaysInRange rules events → (name : ℕ)
    → IsMade (first_node rules name) (steps_of_records name (start rules) events (run rules events).records) ((run rules events).nodes name)
