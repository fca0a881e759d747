-- A turn: what a call does at its node between two looks; and where its end may come. A turn gives up a stopped name that the node waits for, or does what
-- the chooser says with the letters for the node.
use Rattle.std.specs.Prelude.{ℕ, zero, suc, List, map, max, fold, count_by, Option, Some, None, is_none, Bool, false, not, ◌&&◌, ◌||◌, ◌==◌, nat_lt, nat_le}
use Rattle.std.specs.List.{list_any}
use Rattle.am_base.specs.Names.{place_of_name, name_is_less, names_of, has}
use Rattle.rand_pcg.specs.Lcg.{Lcg}
use Rattle.am_group.specs.declared.event.Act.{Act}
use Rattle.am_group.specs.declared.event.Act.TheVariants as act
use Rattle.am_group.specs.declared.event.By.{By}
use Rattle.am_group.specs.declared.event.Event.{Event}
use Rattle.am_group.specs.declared.event.Part.{Part}
use Rattle.am_group.specs.declared.event.Part.TheVariants.{Call, Turn, Check}
use Rattle.am_group.specs.declared.event.Record.{Record}
use Rattle.am_group.specs.declared.plan.RacePlan.{RacePlan}
use Rattle.am_group.specs.Addressed.{next_for}
use Rattle.am_group.specs.Journals.{letters_of_records}
use Rattle.am_group_defs.specs.Claims.{packet_heard_by_act}
use Rattle.am_model.specs.Node.{Node}
use Rattle.am_group_defs.specs.World.{World, current}
use Rattle.am_model.specs.Info.{names_waited_for}
use Rattle.am_shared_journal_defs.specs.declared.choice.Choice.{Choice}
use Rattle.am_shared_journal_defs.specs.declared.choice.Choice.TheVariants as choice
use Rattle.am_shared_journal_defs.specs.Choices.{words_by_seed, after_draw, choice_of}
use Rattle.am_shared_journal_defs.specs.Stops.{has_stopped}
use Rattle.am_race_laws.specs.Told.{world_after}
use Rattle.am_race_laws.specs.Tags.{of_place, of_caller, of_call, own_of, is_turn_part, up_to_last}
use Rattle.am_race_laws.specs.Ready.{is_ready}

-- ---- how far a place has come with its letters

-- the letter that a turn lost, or 0
abbrev pub letter_lost_by_part : Part → ℕ
letter_lost_by_part Call = 0
letter_lost_by_part (Turn lost) = lost
letter_lost_by_part Check = 0

-- the letter that a record heard or lost, or 0
abbrev pub passed_number : Record → ℕ
passed_number r = max (packet_heard_by_act r.event.act) (letter_lost_by_part r.by.part)

abbrev pub greatest_number : List ℕ → ℕ
greatest_number numbers = fold max 0 numbers

-- the last letter that a place heard or lost, of those in their order
abbrev pub cursor : ℕ → List Record → ℕ
cursor place records = greatest_number (map passed_number (of_place place records))

abbrev pub unless_nought : ℕ → Option ℕ
unless_nought zero = None
unless_nought (suc before) = Some (suc before)

abbrev pub or_nought : Option ℕ → ℕ
or_nought None = 0
or_nought (Some number) = number

-- the last letter that it heard
abbrev pub last_heard : ℕ → List Record → Option ℕ
last_heard place records = unless_nought (greatest_number (map (λ r. packet_heard_by_act r.event.act) (of_place place records)))

-- ---- the chooser of a caller

-- how many words a caller's turns drew: one for each letter heard or lost
abbrev pub words_drawn : ℕ → List Record → ℕ
words_drawn caller records = count_by (λ r. is_turn_part r.by.part && nat_lt 0 (passed_number r)) (of_caller caller records)

unfoldable pub later : ℕ → Lcg → Lcg
later zero words = words
later (suc count) words = after_draw (later count words)

-- what the chooser of a caller says after so many words
abbrev pub choice_after : RacePlan → ℕ → ℕ → Option ℕ → Option ℕ → Choice
choice_after plan caller count ahead last = choice_of (record
    { words = later count (words_by_seed plan.seed_number caller); loss = plan.loss; repeat = plan.repeat })
    ahead last

-- an act, with the letter that it lost, is what a choice says
abbrev pub follows : Choice → Act → ℕ → Bool
follows choice.Tick act.Tick lost = lost == 0
follows (choice.Lose number) act.Tick lost = lost == number
follows (choice.Hear number) (act.Hear heard) lost = (heard == number) && (lost == 0)
follows (choice.Repeat number) (act.Hear heard) lost = (heard == number) && (lost == 0)
follows _ _ lost = false

-- ---- a turn

-- a name that the node waits for, and that stopped in these records
abbrev pub is_waited : Node → List Record → ℕ → Bool
is_waited m records name = has (names_waited_for m.ballot) name && has_stopped records name

-- the least of such names is not below this one
abbrev pub is_least : Node → List Record → ℕ → Bool
is_least m records name = not (list_any (λ other. name_is_less other name && is_waited m records other) (names_of (names_waited_for m.ballot)))

abbrev pub waits_in_vain : Node → List Record → Bool
waits_in_vain m records = list_any (is_waited m records) (names_of (names_waited_for m.ballot))

-- a choice by the letters of all records
abbrev pub is_choice : RacePlan → List Record → ℕ → ℕ → ℕ → Act → ℕ → Bool
is_choice plan before place name caller does lost =
    follows (choice_after plan caller (words_drawn caller before) (next_for (letters_of_records before) name (cursor place before)) (last_heard place before)) does lost

-- a tick that lost nothing needs no letter in what was known; every other turn is the choice
abbrev pub is_turn_of : RacePlan → List Record → List Record → Node → ℕ → ℕ → Act → ℕ → Bool
is_turn_of plan before knew m name caller (act.GiveUp other) lost = (lost == 0) && (is_waited m before other && is_least m knew other)
is_turn_of plan before knew m name caller act.Tick zero = not (waits_in_vain m knew)
    && is_none (next_for (letters_of_records knew) name (cursor (place_of_name name) before))
is_turn_of plan before knew m name caller act.Tick (suc lost) =
    not (waits_in_vain m knew) && is_choice plan before (place_of_name name) name caller act.Tick (suc lost)
is_turn_of plan before knew m name caller (act.Hear number) lost =
    not (waits_in_vain m knew) && is_choice plan before (place_of_name name) name caller (act.Hear number) lost
is_turn_of plan before knew m name caller _ lost = false

abbrev pub turns_at : RacePlan → List Record → World → ℕ → Event → By → Bool
turns_at plan before w name e by =
    not (is_ready (w.nodes name) (own_of (of_call by.caller by.call before)))
    && is_turn_of plan before (up_to_last (place_of_name name) by.caller before) (w.nodes name) name by.caller e.act (letter_lost_by_part by.part)

-- after these records, an event with this tag is a turn of its call, which isn't ready
unfoldable pub is_turn : RacePlan → List Record → Event → By → Bool
is_turn plan before e by = turns_at plan before (world_after plan.founding before) (current (world_after plan.founding before) (place_of_name e.node)) e by

-- ---- an end

-- a call is ready, or has used its turns, by its records so far
abbrev pub is_due : RacePlan → Node → List Record → Bool
is_due plan m mine = is_ready m (own_of mine) || nat_le plan.turns (count_by (λ r. is_turn_part r.by.part) mine)

-- after these records, an event with this tag may be the end of its call
unfoldable pub may_end : RacePlan → List Record → Event → By → Bool
may_end plan before e by =
    is_due plan ((world_after plan.founding before).nodes (current (world_after plan.founding before) (place_of_name e.node)))
    (of_call by.caller by.call before)
