-- What one event does to the nodes, the letters and the group list.
use Rattle.std.specs.Prelude.{◌≡◌, ℕ, ◌≤◌, List, [], ◌∷◌, ◌++◌, length}
use Rattle.am_base.specs.Founding.{Rules}
use Rattle.am_base.specs.declared.event.NodeEvent.{NodeEvent}
use Rattle.am_base.specs.declared.outcome.Outcome.{Outcome}
use Rattle.am_packet.specs.Boxes.{Letter}
use Rattle.am_model.specs.Node.{founders_entry}
use Rattle.am_group_defs.specs.World.{start}
use Rattle.am_world.specs.Moves.{StepsAt}
use Rattle.am_world.specs.Runs.{AreNodes}
use Rattle.am_generator.specs.declared.places.Places.{Places}

-- those of a group to which nothing has happened
pub record ArePlacesAtStart (rules : Rules) (places : Places) : Type 0 where
  pub nodes : AreNodes places.nodes.items (start rules)
  pub letters : places.letters.items ≡ []
  pub group : places.group.items ≡ founders_entry rules ∷ []

-- the node of a place does a step of the table, and what it sends stands after all letters
pub record PlaceMoves (old new : Places) (place : ℕ) (what : NodeEvent) (outcome : Outcome) : Type 0 where
  pub sent : List Letter
  pub few : length sent ≤ 9
  pub steps : StepsAt old.nodes.items new.nodes.items old.group.items new.group.items place what outcome sent
  pub letters : new.letters.items ≡ old.letters.items ++ sent

-- nothing changes but the room that there is
pub record StaysAs (old new : Places) : Type 0 where
  pub nodes : new.nodes.items ≡ old.nodes.items
  pub letters : new.letters.items ≡ old.letters.items
  pub group : new.group.items ≡ old.group.items
