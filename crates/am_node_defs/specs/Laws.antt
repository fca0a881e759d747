-- What holds of the end of a list, and of a core that keeps it.
use Rattle.std.specs.Prelude.{◌≡◌, ℕ, ◌<◌, ◌≤◌}
use Rattle.am_base.specs.declared.entry.Entry.{Entry}
use Rattle.am_base.specs.Lists.{Log, top_of_log, log_image_at, log_entry_at, image_of_log, log_with_entry}
use Rattle.am_node_defs.specs.Kept.{IsEndOfLog, log_above}

-- what the end tells is what all of it tells
pub record TellsTheSame (all kept : Log) : Type 0 where
  pub top : top_of_log kept ≡ top_of_log all
  pub told : image_of_log kept ≡ image_of_log all
  pub image : (number : ℕ) → kept.start ≤ number → log_image_at kept number ≡ log_image_at all number
  pub entry : (number : ℕ) → kept.start < number → log_entry_at kept number ≡ log_entry_at all number

-- an end stays one with an entry more on both sides, and where it lets more go
pub record StaysTheEnd (all kept : Log) : Type 0 where
  pub push : (e : Entry) → IsEndOfLog (log_with_entry all e) (log_with_entry kept e)
  pub trim : (to : ℕ) → kept.start ≤ to → to ≤ top_of_log kept → IsEndOfLog all (log_above kept to)

abbrev pub EndsTellTheSame : Type 0
EndsTellTheSame = (all kept : Log) → IsEndOfLog all kept → TellsTheSame all kept

abbrev pub EndsStay : Type 0
EndsStay = (all kept : Log) → IsEndOfLog all kept → StaysTheEnd all kept
