-- What outcomes say.
use Rattle.std.specs.Prelude.{Bool, true, false}
use Rattle.am_base.specs.declared.outcome.Outcome.{Outcome}
use Rattle.am_base.specs.declared.outcome.Outcome.TheVariants as said

-- the application was given an entry
abbrev pub is_outcome_took : Outcome → Bool
is_outcome_took (said.Took number entry) = true
is_outcome_took _ = false

-- a send stands in the list
abbrev pub is_outcome_sent : Outcome → Bool
is_outcome_sent (said.Sent req number) = true
is_outcome_sent _ = false

-- there was no room
abbrev pub is_outcome_without_room : Outcome → Bool
is_outcome_without_room (said.Held base top) = true
is_outcome_without_room _ = false
