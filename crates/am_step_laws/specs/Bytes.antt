-- That the run of packets is the run of bytes.
use Rattle.std.specs.Prelude.{◌≡◌, ℕ, ◌≤◌, List, [], ◌∷◌, length, take, Some, Ok, All}
use Rattle.am_base.specs.Most.{most_events_of_run, most_bytes_of_body}
use Rattle.am_base.specs.declared.event.NodeEvent.TheVariants as does
use Rattle.am_base.specs.Founding.{Rules, MayFound}
use Rattle.am_base.specs.Names.{place_of_name}
use Rattle.am_packet.specs.Boxes.{Letter}
use Rattle.am_packet.specs.Limits.{IsPacket}
use Rattle.am_packet.specs.Spelling.{spelling}
use Rattle.am_packet.specs.Reading.{reading}
use Rattle.am_group.specs.declared.event.Act.{Act}
use Rattle.am_group.specs.declared.event.Act.TheVariants as act
use Rattle.am_group.specs.declared.event.Event.{Event}
use Rattle.am_group.specs.Journals.{letter_at}
use Rattle.am_model.specs.Step.{step}
use Rattle.am_group_defs.specs.World.{World, start, current, world_after_hearing, world_after_act, run}

-- a body that is sent has at most 1,024 bytes
abbrev pub BodyIsWithinLimit : Act → Type 0
BodyIsWithinLimit (act.Send body) = length body ≤ most_bytes_of_body
BodyIsWithinLimit _ = Unit {0}

-- a founding and at most 100,000 events, as scripts have them
pub record IsRunWithinScriptLimits (rules : Rules) (events : List Event) : Type 0 where
  pub founds : MayFound rules
  pub bodies : All (λ (e : Event). BodyIsWithinLimit e.act) events
  pub few : length events ≤ most_events_of_run

-- each letter of such a run holds a packet within a packet's limits
abbrev pub LettersArePackets : Type 0
LettersArePackets = (rules : Rules) (events : List Event) → IsRunWithinScriptLimits rules events → (number : ℕ) (letter : Letter)
    → letter_at (run rules events).letters number ≡ Some letter → IsPacket letter.packet

-- so its bytes are read as it
abbrev pub LettersAreRead : Type 0
LettersAreRead = (rules : Rules) (events : List Event) → IsRunWithinScriptLimits rules events → (number : ℕ) (letter : Letter)
    → letter_at (run rules events).letters number ≡ Some letter → reading (spelling letter.packet) ≡ Ok letter.packet

-- ---- runs in which a node hears the bytes of a letter, or the first of them

abbrev pub acts_by_bytes : World → Event → ℕ → Act → World
acts_by_bytes w e name (act.Hear number) = world_after_hearing w e name (λ p. step (w.nodes name) (does.Hear (spelling p))) (letter_at w.letters number)
acts_by_bytes w e name (act.Cut number keep) = world_after_hearing w e name (λ p. step (w.nodes name) (does.Hear (take keep (spelling p))))
    (letter_at w.letters number)
acts_by_bytes w e name a = world_after_act w e name a

unfoldable pub happen_by_bytes : World → List Event → World
happen_by_bytes w [] = w
happen_by_bytes w (e ∷ es) = happen_by_bytes (acts_by_bytes w e (current w (place_of_name e.node)) e.act) es

abbrev pub run_of_bytes : Rules → List Event → World
run_of_bytes rules events = happen_by_bytes (start rules) events

-- are the same runs
abbrev pub RunsAreOfBytes : Type 0
RunsAreOfBytes = (rules : Rules) (events : List Event) → IsRunWithinScriptLimits rules events → run_of_bytes rules events ≡ run rules events
