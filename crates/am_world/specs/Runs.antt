-- Which run of a group a world is.
use Rattle.std.specs.Prelude.{◌≡◌, ℕ, ◌+◌, ◌<◌, ◌≤◌, List, [], ◌∷◌, ◌++◌, length, map, Some, Bool, false, slice_get, slice_index, slice_index_or}
use Rattle.am_base.specs.Most.{most_events_of_run}
use Rattle.am_base.specs.declared.entry.Entry.{Entry}
use Rattle.am_base.specs.declared.outcome.Outcome.{Outcome}
use Rattle.am_base.specs.Founding.{Rules, MayFound}
use Rattle.am_packet.specs.Boxes.{Letter}
use Rattle.am_node_defs.specs.Cores.{CoreFrontsAreInOrder}
use Rattle.am_group.specs.declared.event.Event.{Event}
use Rattle.am_group.specs.declared.event.Record.{Record}
use Rattle.am_group.specs.Journals.{letters_of_records}
use Rattle.am_group_defs.specs.World as model
use Rattle.am_group_defs.specs.World.{run, record_of, current, is_stopped}
use Rattle.am_model.specs.Ends.{IsEndOf}
use Rattle.am_node.specs.declared.node.Node.{Node}
use Rattle.am_node.specs.Stands.{state_of}

-- a founding, and what was done since
pub record Play : Type 0 where
  pub rules : Rules
  pub events : List Event

abbrev pub replay : Play → model.World
replay p = run p.rules p.events

-- the same with one event more
abbrev pub play_after : Play → Event → Play
play_after p event = record p { events = p.events ++ event ∷ [] }

-- of each place the node of its current life
pub record AreNodes (nodes : List Node) (w : model.World) : Type 0 where
  pub count : length nodes ≡ 16
  pub each : (i : ℕ) (n : Node) → slice_get nodes i ≡ Some n → IsEndOf (w.nodes (current w i)) (state_of n) × CoreFrontsAreInOrder (state_of n).core

-- these are the first of them
pub record AreFirst (many : ℕ) (nodes : List Node) (w : model.World) : Type 0 where
  pub count : length nodes ≡ many
  pub each : (i : ℕ) (n : Node) → slice_get nodes i ≡ Some n → IsEndOf (w.nodes (current w i)) (state_of n) × CoreFrontsAreInOrder (state_of n).core

-- the life of each place
pub record AreLives (lives : List ℕ) (w : model.World) : Type 0 where
  pub count : length lives ≡ 16
  pub each : (place : ℕ) → place < 16 → slice_index lives place ≡ w.lives place
  pub within : (place : ℕ) → place < 16 → (0 < w.lives place) × (w.lives place ≤ 16)

-- who has stopped
pub record AreFlags (flags : List Bool) (w : model.World) : Type 0 where
  pub count : length flags ≡ 256
  pub each : (name : ℕ) → slice_index_or flags name false ≡ is_stopped w name

-- the nodes, the lives, who has stopped, the records with their letters, and the group list are those of the run
pub record Shows (w : model.World) (nodes : List Node) (lives : List ℕ) (flags : List Bool) (records : List Record) (group : List Entry) : Type 0 where
  pub standing : AreNodes nodes w
  pub living : AreLives lives w
  pub stopped : AreFlags flags w
  pub recorded : records ≡ w.records
  pub sent : letters_of_records records ≡ w.letters
  pub agreed : group ≡ w.group

pub record IsRun (p : Play) (nodes : List Node) (lives : List ℕ) (flags : List Bool) (records : List Record) (group : List Entry) : Type 0 where
  pub founded : MayFound p.rules
  pub few : length p.events ≤ most_events_of_run
  pub short : length group ≤ 1 + length p.events
  pub shows : Shows (replay p) nodes lives flags records group

-- what the records were made by
abbrev pub play_of : Rules → List Record → Play
play_of rules records = record { rules = rules; events = map (λ r. r.event) records }

-- the event's record has this outcome
abbrev pub EventIsAnswered : Play → Event → Outcome → Type 0
EventIsAnswered p event outcome = (letters : List Letter) × ((replay (play_after p event)).records ≡ (replay p).records ++ record_of (replay p) event outcome letters ∷ [])

-- exactly one record more, the event's
abbrev pub IsOneMore : Play → Event → Type 0
IsOneMore p event = (outcome : Outcome) × EventIsAnswered p event outcome
