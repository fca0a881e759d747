-- The text that a play writes.
use Rattle.std.specs.Prelude.{ℕ, ◌++◌, List, length, count_by, codes, decimal, Bool}
use Rattle.am_base.specs.declared.outcome.Outcome.{Outcome}
use Rattle.am_base.specs.Outcomes.{is_outcome_took, is_outcome_sent, is_outcome_without_room}
use Rattle.am_base.specs.Founding.{Rules}
use Rattle.am_group.specs.declared.event.Event.{Event}
use Rattle.am_group_defs.specs.Text.{newline, mark_line, play_text}
use Rattle.am_group_defs.specs.World.{World}
use Rattle.am_group_defs.specs.Group.{logs}
use Rattle.am_group_defs.specs.Lawful.{Watch, watch_run, watch_events}
use Rattle.am_group_defs.specs.Settle.{settle_events}

-- of a run that was watched: its events, the group list, what each name was given, and whether it is lawful
abbrev pub text_of_watch : Rules → Watch → List ℕ
text_of_watch rules s = play_text rules s.world.records s.world.group (logs s.world) s.broken

-- of these events
abbrev pub play_text_of : Rules → List Event → List ℕ
play_text_of rules events = text_of_watch rules (watch_run rules events)

-- a run that is settled after its own events
abbrev pub settle_run : Rules → Watch → Watch
settle_run rules s = watch_events s (settle_events rules s.world)

abbrev pub settled_play_text_of : Rules → List Event → List ℕ
settled_play_text_of rules events = text_of_watch rules (settle_run rules (watch_run rules events))

-- ---- the summary of a run

-- a word, a number, and the end of the line
abbrev pub count_line : List ℕ → ℕ → List ℕ
count_line word count = word ++ (codes " " ++ (decimal count ++ newline))

abbrev pub count_outcomes : World → (Outcome → Bool) → ℕ
count_outcomes w test = count_by (λ r. test r.outcome) w.records

-- how many events there were, letters, entries of the group list, and events that took, were sent, and were held
abbrev pub summary_of : Watch → List ℕ
summary_of s =
    count_line (codes "events") (length s.world.records)
    ++ (count_line (codes "packets") (length s.world.letters)
    ++ (count_line (codes "entries") (length s.world.group)
    ++ (count_line (codes "took") (count_outcomes s.world is_outcome_took)
    ++ (count_line (codes "sent") (count_outcomes s.world is_outcome_sent)
    ++ (count_line (codes "held") (count_outcomes s.world is_outcome_without_room)
    ++ mark_line s.broken)))))

abbrev pub summary_text_of : Rules → List Event → List ℕ
summary_text_of rules events = summary_of (watch_run rules events)
