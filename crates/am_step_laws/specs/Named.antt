-- Which name each node has, and which nodes nobody has been yet.
use Rattle.std.specs.Prelude.{◌≡◌, ℕ, ◌<◌, ◌≤◌, List, Some}
use Rattle.am_base.specs.Founding.{Rules, MayFound}
use Rattle.am_base.specs.Names.{place_of_name, life_of_name}
use Rattle.am_packet.specs.Boxes.{Letter}
use Rattle.am_group.specs.declared.event.Event.{Event}
use Rattle.am_group.specs.Journals.{letter_at}
use Rattle.am_model.specs.Node.{stranger_node}
use Rattle.am_group_defs.specs.World.{World, run}
use Rattle.am_packet.specs.Spelling.{sender_of}

pub record NodesKeepTheirNames (rules : Rules) (w : World) : Type 0 where
  pub who : (name : ℕ) → (w.nodes name).core.who ≡ name
  pub least : (place : ℕ) → 0 < w.lives place
  pub most : (place : ℕ) → w.lives place ≤ 16
  -- who sent a letter is one of the 256 names
  pub senders : (number : ℕ) (letter : Letter) → letter_at w.letters number ≡ Some letter → sender_of letter.packet < 256
  -- a life that hasn't begun is a stranger that has done nothing
  pub unborn : (name : ℕ) → w.lives (place_of_name name) < life_of_name name → w.nodes name ≡ stranger_node rules name

abbrev pub RunsKeepNames : Type 0
RunsKeepNames = (rules : Rules) (events : List Event) → MayFound rules → NodesKeepTheirNames rules (run rules events)
