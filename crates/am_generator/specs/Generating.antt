-- Runs from a seed: which events its words make, one by one.
use Rattle.std.specs.Prelude.{ℕ, zero, suc, ◌+◌, ◌%◌, List, [], length, map, replicate, count_by, None, ◌==◌, ◌&&◌, nat_lt, if◌then◌else◌, slice_index_or}
use Rattle.std.specs.Prelude.{slice_set}
use Rattle.std.specs.List.{range_with_len}
use Rattle.rand_pcg.specs.Lcg.{Lcg}
use Rattle.am_base.specs.Founding.{Rules}
use Rattle.am_base.specs.Names.{first_lives_of_mask}
use Rattle.am_group.specs.declared.event.Act.{Act}
use Rattle.am_group.specs.declared.event.Act.TheVariants as act
use Rattle.am_group.specs.declared.event.Event.{Event}
use Rattle.am_group.specs.Addressed.{next_for}
use Rattle.am_group_defs.specs.World.{World}
use Rattle.am_base.specs.Outcomes.{is_outcome_sent}
use Rattle.am_group_defs.specs.Settle.{event_at}
use Rattle.am_world.specs.Runs.{Play, replay, play_after}
use Rattle.am_shared_journal_defs.specs.Choices.{words_by_seed, draw, after_draw, Luck, choice_of, luck_after, act_of, progress_after}
use Rattle.am_shared_journal_defs.specs.declared.choice.Choice.{Choice}
use Rattle.am_generator.specs.declared.generator.DrawnTurn.{DrawnTurn}
use Rattle.am_generator.specs.declared.generator.DrawnTurn.TheVariants as turn
use Rattle.am_shared_journal_defs.specs.declared.progress.Progress.{Progress}

-- the founders of generated runs are places 0 to 3
abbrev pub generated_rules : Rules
generated_rules = record { founders = first_lives_of_mask 15; resilience = 1; window = 16; pb_up_to = 256 }

-- a run on its way: what was done, the words and the chooser from here on, and how far each place has come
pub record GeneratedRun : Type 0 where
  pub play : Play
  pub words : Lcg
  pub luck : Luck
  pub progress : List Progress

abbrev pub no_progress : Progress
no_progress = record { cursor = 0; last = None }

-- of a hundred letters ten are lost, and five more repeated
abbrev pub first_drive : ℕ → GeneratedRun
first_drive seed = record {
  play = record { rules = generated_rules; events = [] };
  words = words_by_seed seed 1000;
  luck = record { words = words_by_seed seed 1001; loss = 10; repeat = 5 };
  progress = replicate 4 no_progress;
}

-- what a number below 16 asks for
abbrev pub turn_of : ℕ → DrawnTurn
turn_of number =
    if nat_lt number 2 then turn.Send
    else if nat_lt number 3 then turn.Done
    else if nat_lt number 6 then turn.Take
    else if nat_lt number 7 then turn.Tick
    else turn.Choose

-- of bytes in a body that is drawn
abbrev pub most_drawn : ℕ
most_drawn = 512

-- a body whose bytes count on from a number
abbrev pub counting : ℕ → ℕ → List ℕ
counting number size = map (λ i. (number + i) % 256) (range_with_len 0 size)

-- the number of the event that comes next
abbrev pub number_after : World → ℕ
number_after w = length w.records + 1

-- how often a place was told that a send of its own stands in the list
abbrev pub sent_by : World → ℕ → ℕ
sent_by w place = count_by (λ r. is_outcome_sent r.outcome && (r.event.node == place)) w.records

abbrev pub progress_at : GeneratedRun → ℕ → Progress
progress_at d place = slice_index_or d.progress place no_progress

-- what the chooser says for a place
abbrev pub choice_at : GeneratedRun → ℕ → Choice
choice_at d place = choice_of d.luck (next_for (replay d.play).letters place (progress_at d place).cursor) (progress_at d place).last

-- what a place does at a turn
unfoldable pub act_at : GeneratedRun → ℕ → DrawnTurn → Act
act_at d place turn.Send = act.Send (counting (number_after (replay d.play)) (draw d.words (most_drawn + 1)))
act_at d place turn.Done = act.Done (sent_by (replay d.play) place + 1)
act_at d place turn.Take = act.Take
act_at d place turn.Tick = act.Tick
act_at d place turn.Choose = act_of (choice_at d place)

-- what is drawn for that, and how far the place is then
unfoldable pub after_turn : GeneratedRun → ℕ → DrawnTurn → GeneratedRun
after_turn d place turn.Send = record d { words = after_draw d.words }
after_turn d place turn.Done = d
after_turn d place turn.Take = d
after_turn d place turn.Tick = d
after_turn d place turn.Choose = record d {
  luck = luck_after d.luck (next_for (replay d.play).letters place (progress_at d place).cursor);
  progress = slice_set d.progress place (progress_after (progress_at d place) (choice_at d place));
}

-- a place's turn is done
abbrev pub do_turn : GeneratedRun → ℕ → DrawnTurn → GeneratedRun
do_turn d place t = record (after_turn d place t) { play = play_after d.play (event_at place (act_at d place t)) }

-- one event more: the first word says which place it is, and the second what it does
abbrev pub drawn : GeneratedRun → GeneratedRun
drawn d = record d { words = after_draw (after_draw d.words) }

abbrev pub next_place : GeneratedRun → ℕ
next_place d = draw d.words 4

abbrev pub next_turn : GeneratedRun → DrawnTurn
next_turn d = turn_of (draw (after_draw d.words) 16)

abbrev pub next_event : GeneratedRun → Event
next_event d = event_at (next_place d) (act_at (drawn d) (next_place d) (next_turn d))

unfoldable pub drive_once : GeneratedRun → GeneratedRun
drive_once d = do_turn (drawn d) (next_place d) (next_turn d)

-- so many events more
unfoldable pub drive : ℕ → GeneratedRun → GeneratedRun
drive zero d = d
drive (suc count) d = drive_once (drive count d)

-- the first events of a seed
unfoldable pub events_of_seed : ℕ → ℕ → List Event
events_of_seed seed count = (drive count (first_drive seed)).play.events
