-- The end of a list, and what a history keeps.
use Rattle.std.specs.Prelude.{◌≡◌, ℕ, ◌+◌, ◌-◌, ◌≤◌, All, length, drop}
use Rattle.am_base.specs.Lists.{Log, top_of_log, log_image_at, AllEntriesFit}
use Rattle.am_base.specs.Limits.{NumberIsInRange, ImageIsInRange, EntryIsInRange}

-- the list above a number
abbrev pub log_above : Log → ℕ → Log
log_above log to = record { start = to; image = log_image_at log to; entries = drop (to - log.start) log.entries }

-- one list is the end of another, from its start on
pub record IsEndOfLog (all kept : Log) : Type 0 where
  pub low : all.start ≤ kept.start
  pub high : kept.start ≤ top_of_log all
  pub image : kept.image ≡ log_image_at all kept.start
  pub entries : kept.entries ≡ drop (kept.start - all.start) all.entries

-- what a history always keeps: an image and entries within their limits, entries of which each fits, no more of them
-- than it has room for, and a last number within its limit
pub record IsKept (log : Log) (capacity : ℕ) : Type 0 where
  pub image : ImageIsInRange log.image
  pub fit : AllEntriesFit log.image (log.start + 1) log.entries
  pub room : length log.entries ≤ capacity
  pub entries : All EntryIsInRange log.entries
  pub numbers : NumberIsInRange (top_of_log log)
