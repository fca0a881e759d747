-- Runs of a whole group: sixteen places, each with the node of its current life, and all letters that went out.
use Rattle.std.specs.Prelude.{ℕ, ◌+◌, ◌-◌, List, [], ◌∷◌, ◌++◌, length, take, drop, Option, Some, None, Bool, not, ◌&&◌, ◌||◌, ◌==◌, nat_lt, nat_le}
use Rattle.std.specs.Prelude.{if◌then◌else◌}
use Rattle.std.specs.List.{list_any}
use Rattle.am_base.specs.declared.entry.GroupView.{GroupView}
use Rattle.am_base.specs.declared.entry.Entry.{Entry}
use Rattle.am_base.specs.declared.outcome.Outcome.{Outcome}
use Rattle.am_base.specs.declared.outcome.Outcome.TheVariants as said
use Rattle.am_base.specs.Names.{place_of_name, name_of_place_and_life, has}
use Rattle.am_base.specs.Stamps.{stamps_are_equal}
use Rattle.am_base.specs.Founding.{Rules}
use Rattle.am_packet.specs.declared.packet.Packet.{Packet}
use Rattle.am_packet.specs.Boxes.{Letter}
use Rattle.am_base.specs.declared.event.NodeEvent.{NodeEvent}
use Rattle.am_base.specs.declared.event.NodeEvent.TheVariants as does
use Rattle.am_group.specs.declared.event.Act.{Act}
use Rattle.am_group.specs.declared.event.Act.TheVariants as act
use Rattle.am_group.specs.declared.event.Event.{Event}
use Rattle.am_group.specs.declared.event.Record.{Record}
use Rattle.am_node_defs.specs.Cores.{CoreState}
use Rattle.am_group.specs.Journals.{letter_at, record_without_caller}
pub use Rattle.am_group.specs.Journals.{no_caller}
use Rattle.am_group.specs.Addressed.{is_for}
use Rattle.am_model.specs.Node.{Node, is_member, has_departed, image_of_node, view, members, map_with_value, founder, stranger_node, founding_view, founders_entry}
use Rattle.am_model.specs.Emit.{StepResult}
use Rattle.am_model.specs.Step.{step, hear_packet, hear_refused_bytes}
use Rattle.am_model.specs.Lengths.{packet_length}

-- a view that was decided: its number, and what its View says
pub record Decided : Type 0 where
  pub number : ℕ
  pub view : GroupView
  pub open view use *

-- each place's current life, each name's node, who has stopped, all letters in order, all records, the group list,
-- and the views that were decided, the founders' first
pub record World : Type 0 where
  pub lives : ℕ → ℕ
  pub nodes : ℕ → Node
  pub stopped : List ℕ
  pub letters : List Letter
  pub records : List Record
  pub group : List Entry
  pub views : List Decided

-- ---- the start

-- the founders are members, and every other name is a stranger that no one has seen
abbrev pub first_node : Rules → ℕ → Node
first_node rules name = if has rules.founders name then founder rules name else stranger_node rules name

abbrev pub founders_decided : Rules → Decided
founders_decided rules = record { number = 1; view = founding_view rules }

abbrev pub start : Rules → World
start rules = record {
  lives = λ place. 1;
  nodes = first_node rules;
  stopped = [];
  letters = [];
  records = [];
  group = founders_entry rules ∷ [];
  views = founders_decided rules ∷ [];
}

-- ---- what a world tells

-- the current name of a place
abbrev pub current : World → ℕ → ℕ
current w place = name_of_place_and_life place (w.lives place)

-- a name has stopped by a Stop, or because its place has a greater life
abbrev pub is_stopped : World → ℕ → Bool
is_stopped w name = list_any (λ x. x == name) w.stopped

-- ---- the group list

-- the list, with what a node has accepted beyond it
abbrev pub list_with_accepted : List Entry → CoreState → List Entry
list_with_accepted group core = group ++ take (core.acc - length group) (drop (length group - core.log.start) core.log.entries)

-- only a node in a view of its own adds to it
abbrev pub list_after_step : List Entry → Node → List Entry
list_after_step group m = if (view m).by == m.core.who then list_with_accepted group m.core else group

-- ---- decided views

-- the view in which a node's list ends, as its View says it
abbrev pub last_view_of : Node → Decided
last_view_of n = record {
  number = (image_of_node n).view_number;
  view = record { stamp = view n; members = members n; resilience = (image_of_node n).resilience };
}

-- a member's step decided a view where it brought a View of the member's own stamp; an Ask about it later brings none
abbrev pub step_decides_view : Node → Node → Bool
step_decides_view m n = is_member m.status && (((view n).by == n.core.who) && not (stamps_are_equal (view m) (view n)))

abbrev pub views_after : List Decided → Node → Node → List Decided
views_after views m n = if step_decides_view m n then views ++ last_view_of n ∷ [] else views

-- ---- events

-- what came of an event, done by the current life of its place
abbrev pub record_of : World → Event → Outcome → List Letter → Record
record_of w e outcome letters = record_without_caller e (w.lives (place_of_name e.node)) outcome letters

-- an event that changes no node
unfoldable pub world_with_record : World → Event → Outcome → World
world_with_record w e outcome = record w { records = w.records ++ record_of w e outcome [] ∷ [] }

-- a name's step
unfoldable pub world_with_step : World → Event → ℕ → StepResult → World
world_with_step w e name s = record w {
  nodes = map_with_value w.nodes name s.node;
  letters = w.letters ++ s.letters;
  records = w.records ++ record_of w e s.outcome s.letters ∷ [];
  group = list_after_step w.group s.node;
  views = views_after w.views (w.nodes name) s.node;
}

-- a node's own event, which a stopped one doesn't do
abbrev pub world_after_node_event : World → Event → ℕ → NodeEvent → World
world_after_node_event w e name event = if is_stopped w name then world_with_record w e said.IsStopped else world_with_step w e name (step (w.nodes name) event)

-- only a stopped name is given up
abbrev pub world_after_give_up : World → Event → ℕ → ℕ → World
world_after_give_up w e name other =
    if is_stopped w name then world_with_record w e said.IsStopped
    else if is_stopped w other then world_with_step w e name (step (w.nodes name) (does.GiveUp other))
    else world_with_record w e said.NotStopped

abbrev pub world_after_stop : World → Event → ℕ → World
world_after_stop w e name =
    if is_stopped w name then world_with_record w e said.IsStopped
    else world_with_record (record w { stopped = w.stopped ++ name ∷ [] }) e said.Stopped

-- hearing a letter, by a step
abbrev pub world_after_hearing : World → Event → ℕ → (Packet → StepResult) → Option Letter → World
world_after_hearing w e name hearing None = world_with_record w e said.NoPacket
world_after_hearing w e name hearing (Some letter) =
    if not (is_for letter name) then world_with_record w e said.NotAddressed
    else if is_stopped w name then world_with_record w e said.IsStopped
    else world_with_step w e name (hearing letter.packet)

-- the first bytes of a packet: too few for a header, or fewer than its length says, are refused
abbrev pub hear_cut : Node → ℕ → Packet → StepResult
hear_cut m keep packet =
    if nat_le (packet_length packet) keep then hear_packet m packet
    else if nat_lt keep 12 then hear_refused_bytes m 1
    else hear_refused_bytes m 5

-- the next life of a place begins, and the name before it has stopped
abbrev pub world_with_next_life : World → ℕ → World
world_with_next_life w place = record w {
  lives = map_with_value w.lives place (w.lives place + 1);
  stopped = if is_stopped w (current w place) then w.stopped else w.stopped ++ current w place ∷ [];
}

-- a place returns where its name has gone or stopped, sixteen lives at most
abbrev pub world_after_return : World → Event → ℕ → World
world_after_return w e place =
    if not (is_stopped w (current w place) || has_departed (w.nodes (current w place)).status) then world_with_record w e (said.Running (w.lives place))
    else if w.lives place == 16 then world_with_record w e said.NoLife
    else world_with_next_life (world_with_record w e (said.Returned (w.lives place + 1))) place

-- an act of a place's current name
abbrev pub world_after_act : World → Event → ℕ → Act → World
world_after_act w e name (act.Send body) = world_after_node_event w e name (does.Send body)
world_after_act w e name (act.Done req) = world_after_node_event w e name (does.Done req)
world_after_act w e name act.Take = world_after_node_event w e name does.Take
world_after_act w e name act.Join = world_after_node_event w e name does.Join
world_after_act w e name act.State = world_after_node_event w e name does.State
world_after_act w e name act.Leave = world_after_node_event w e name does.Leave
world_after_act w e name (act.Reset least resilience) = world_after_node_event w e name (does.Reset least resilience)
world_after_act w e name (act.Ask round) = world_after_node_event w e name (does.Ask round)
world_after_act w e name (act.GiveUp other) = world_after_give_up w e name other
world_after_act w e name act.Stop = world_after_stop w e name
world_after_act w e name act.Tick = world_after_node_event w e name does.Tick
world_after_act w e name (act.Hear number) = world_after_hearing w e name (hear_packet (w.nodes name)) (letter_at w.letters number)
world_after_act w e name (act.Cut number keep) = world_after_hearing w e name (hear_cut (w.nodes name) keep) (letter_at w.letters number)
world_after_act w e name act.Return = world_after_return w e (place_of_name name)

-- what an event makes of a world
unfoldable pub happens : World → Event → World
happens w e = world_after_act w e (current w (place_of_name e.node)) e.act

-- what events in turn make of it
unfoldable pub world_after_events : World → List Event → World
world_after_events w [] = w
world_after_events w (e ∷ es) = world_after_events (happens w e) es

-- the run of these events
abbrev pub run : Rules → List Event → World
run rules events = world_after_events (start rules) events
