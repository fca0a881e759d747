-- What a generator counts.
use Rattle.std.specs.Prelude.{◌≡◌, ℕ, ◌<◌, List, length, slice_index, slice_index_or}
use Rattle.am_packet.specs.Boxes.{Letter}
use Rattle.am_group.specs.Addressed.{IsSeen}
use Rattle.am_group_defs.specs.World.{World}
use Rattle.am_shared_journal_defs.specs.declared.choice.Choice.{Choice}
use Rattle.am_shared_journal_defs.specs.declared.choice.Choice.TheVariants as choice
use Rattle.am_shared_journal_defs.specs.declared.progress.Progress.{Progress}
use Rattle.am_group.specs.declared.event.Act.{Act}
use Rattle.am_group.specs.declared.event.Event.{Event}
use Rattle.am_world.specs.Runs.{replay}
use Rattle.am_generator.specs.Courses.{IsCourse}
use Rattle.am_generator.specs.declared.generator.Generator.{Generator}
use Rattle.am_generator.specs.declared.generator.DrawnTurn.{DrawnTurn}
use Rattle.am_generator.specs.Generating.{GeneratedRun, sent_by, no_progress, act_at, after_turn, drawn, next_place, next_turn, next_event}

-- how often each place was told that a send of its own stands in the list
pub record AreSent (sent : List ℕ) (w : World) : Type 0 where
  pub count : length sent ≡ 4
  pub each : (place : ℕ) → place < 4 → slice_index sent place ≡ sent_by w place

-- up to which number each place has looked through the letters
pub record AreSeen (seen : List ℕ) (progress : List Progress) (letters : List Letter) : Type 0 where
  pub count : length seen ≡ 4
  pub places : length progress ≡ 4
  pub each : (place : ℕ) → place < 4 → IsSeen letters place (slice_index_or progress place no_progress).cursor (slice_index seen place)

-- up to which number they were looked through after a choice, where there are so many
abbrev pub seen_after : Choice → ℕ → ℕ → ℕ
seen_after choice.Tick seen many = many
seen_after (choice.Lose number) seen many = number
seen_after (choice.Hear number) seen many = number
seen_after (choice.Repeat number) seen many = seen

-- what a generator keeps is that of a run on its way, with how often each place was told that its send stands in the list, and how far it has looked
pub record IsDriven (d : GeneratedRun) (g : Generator) : Type 0 where
  pub course : IsCourse d.play g.course
  pub words : g.words ≡ d.words
  pub luck : g.chooser ≡ d.luck
  pub progress : g.progress ≡ d.progress
  pub counted : AreSent g.sent (replay d.play)
  pub looked : AreSeen g.seen d.progress (replay d.play).letters

-- a place's turn gave this act, and all is drawn for it
pub record Turned (d : GeneratedRun) (place : ℕ) (turn : DrawnTurn) (g : Generator) (act : Act) : Type 0 where
  pub does : act ≡ act_at d place turn
  pub driven : IsDriven (after_turn d place turn) g

-- this is the next event, and all is drawn for it
pub record Drew (d : GeneratedRun) (g : Generator) (event : Event) : Type 0 where
  pub is : event ≡ next_event d
  pub driven : IsDriven (after_turn (drawn d) (next_place d) (next_turn d)) g
