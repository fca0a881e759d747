-- A group of processes, each of one node, between which letters are carried: lost, late, repeated or cut as may be.
use Rattle.std.specs.Prelude.{◌≡◌, ℕ, ◌+◌, ◌<◌, ◌≤◌, ◌==◌, ◌||◌, List, [], ◌∷◌, ◌++◌, length, take, Some, Bool, true, false, if◌then◌else◌}
use Rattle.std.specs.List.{list_any}
use Rattle.am_base.specs.Most.{most_bytes_of_body}
use Rattle.am_base.specs.Founding.{Rules, MayFound}
use Rattle.am_base.specs.Names.{name_of_place_and_life}
use Rattle.am_base.specs.declared.event.NodeEvent.{NodeEvent}
use Rattle.am_base.specs.declared.event.NodeEvent.TheVariants as does
use Rattle.am_packet.specs.Boxes.{Letter}
use Rattle.am_packet.specs.Spelling.{spelling}
use Rattle.am_group.specs.declared.event.Event.{Event}
use Rattle.am_group.specs.Journals.{letter_at}
use Rattle.am_group.specs.Addressed.{is_for}
use Rattle.am_model.specs.Node.{Node, has_departed, map_with_value}
use Rattle.am_model.specs.Nodes.{HasNumbersLeft}
use Rattle.am_model.specs.Step.{step}
use Rattle.am_group_defs.specs.World.{start, first_node, run}
use Rattle.am_safety.specs.Parts.{NodeStep, StaysInRange, steps_of_records}

-- each place's life, each name's node and what it did, who has stopped, and all letters that were sent
pub record Processes : Type 0 where
  pub lives : ℕ → ℕ
  pub nodes : ℕ → Node
  pub parts : ℕ → List NodeStep
  pub stopped : List ℕ
  pub letters : List Letter

-- founders and strangers begin
abbrev pub begun : Rules → Processes
begun rules = record { lives = λ place. 1; nodes = first_node rules; parts = λ name. []; stopped = []; letters = [] }

-- the name of a place's process
abbrev pub process_name : Processes → ℕ → ℕ
process_name p place = name_of_place_and_life place (p.lives place)

abbrev pub process_has_stopped : Processes → ℕ → Bool
process_has_stopped p name = list_any (λ x. x == name) p.stopped

-- ---- what processes do

-- what a name's process may be given: calls and ticks, a stopped name to give up, and a letter's bytes, or the first of them, where it was sent
-- to that name
pub data MayBeGiven (p : Processes) (name : ℕ) : NodeEvent → Type 0 where
  send : (body : List ℕ) → length body ≤ most_bytes_of_body → MayBeGiven p name (does.Send body)
  done : (req : ℕ) → MayBeGiven p name (does.Done req)
  take_ : MayBeGiven p name does.Take
  join : MayBeGiven p name does.Join
  state : MayBeGiven p name does.State
  leave : MayBeGiven p name does.Leave
  reset : (least resilience : ℕ) → MayBeGiven p name (does.Reset least resilience)
  ask : (round : ℕ) → MayBeGiven p name (does.Ask round)
  tick : MayBeGiven p name does.Tick
  give_up : (other : ℕ) → process_has_stopped p other ≡ true → MayBeGiven p name (does.GiveUp other)
  hear : (number : ℕ) (letter : Letter) → letter_at p.letters number ≡ Some letter → is_for letter name ≡ true
      → MayBeGiven p name (does.Hear (spelling letter.packet))
  hear_some : (number keep : ℕ) (letter : Letter) → letter_at p.letters number ≡ Some letter → is_for letter name ≡ true
      → MayBeGiven p name (does.Hear (take keep (spelling letter.packet)))

-- what its node answers and sends
abbrev pub process_step : Node → NodeEvent → NodeStep
process_step m what = record { event = what; outcome = (step m what).outcome; letters = (step m what).letters }

abbrev pub processes_after_event : Processes → ℕ → NodeEvent → Processes
processes_after_event p name what = record p {
  nodes = map_with_value p.nodes name (step (p.nodes name) what).node;
  parts = map_with_value p.parts name (p.parts name ++ process_step (p.nodes name) what ∷ []);
  letters = p.letters ++ (step (p.nodes name) what).letters;
}

abbrev pub end_process : Processes → ℕ → Processes
end_process p name = record p { stopped = p.stopped ++ name ∷ [] }

-- the next life of a place begins, and the name before it has stopped
abbrev pub process_lives_on : Processes → ℕ → Processes
process_lives_on p place = record p {
  lives = map_with_value p.lives place (p.lives place + 1);
  stopped = if process_has_stopped p (process_name p place) then p.stopped else p.stopped ++ process_name p place ∷ [];
}

pub data Goes (p : Processes) : Processes → Type 0 where
  -- a process that runs, and whose node has numbers left, does what it is given
  acts : (place : ℕ) (what : NodeEvent) → place < 16 → process_has_stopped p (process_name p place) ≡ false → HasNumbersLeft (p.nodes (process_name p place))
      → MayBeGiven p (process_name p place) what → Goes p (processes_after_event p (process_name p place) what)
  -- a process stops
  stops : (place : ℕ) → place < 16 → process_has_stopped p (process_name p place) ≡ false → Goes p (end_process p (process_name p place))
  -- where it has stopped or departed, its place has one of the next of sixteen lives
  returns : (place : ℕ) → place < 16 → (process_has_stopped p (process_name p place) || has_departed (p.nodes (process_name p place)).status) ≡ true
      → (p.lives place == 16) ≡ false → Goes p (process_lives_on p place)

-- whatever they do, one after another
pub data Came (rules : Rules) : Processes → Type 0 where
  begins : Came rules (begun rules)
  goes_on : {p q : Processes} → Came rules p → Goes p q → Came rules q

-- ---- is a run

-- a run in which nodes have numbers left, each name's node is that of its process, and each name did in it what its process did
pub record IsRunOf (rules : Rules) (p : Processes) (events : List Event) : Type 0 where
  pub range : StaysInRange rules events
  pub nodes : (name : ℕ) → (run rules events).nodes name ≡ p.nodes name
  pub parts : (name : ℕ) → steps_of_records name (start rules) events (run rules events).records ≡ p.parts name
  pub letters : (run rules events).letters ≡ p.letters
  pub stopped : (run rules events).stopped ≡ p.stopped

abbrev pub ProcessesMakeRuns : Type 0
ProcessesMakeRuns = (rules : Rules) (p : Processes) → MayFound rules → Came rules p → (events : List Event) × IsRunOf rules p events
