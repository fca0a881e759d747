-- The limits of the numbers that a group's data and packets carry.
use Rattle.std.specs.Prelude.{◌≡◌, ℕ, ◌<◌, ◌≤◌, length, slice_index_or}
use Rattle.am_base.specs.Most.{greatest_number}
use Rattle.am_base.specs.declared.image.Row.{Row}
use Rattle.am_base.specs.declared.image.Report.{Report}
use Rattle.am_base.specs.declared.image.Vote.{Vote}
use Rattle.am_base.specs.declared.image.Image.{Image}
use Rattle.am_base.specs.declared.name.Stamp.{Stamp}
use Rattle.am_base.specs.declared.entry.Entry.{Entry}
use Rattle.am_base.specs.declared.entry.Entry.TheVariants.{Data, Join, Leave, View}
use Rattle.am_base.specs.Lists.{blank_row}

-- numbers of entries, rounds and requests
abbrev pub NumberIsInRange : ℕ → Type 0
NumberIsInRange n = n ≤ greatest_number

abbrev pub StampIsInRange : Stamp → Type 0
StampIsInRange stamp = NumberIsInRange stamp.round

pub record ReportIsInRange (report : Report) : Type 0 where
  pub stored : NumberIsInRange report.stored
  pub taken : NumberIsInRange report.taken

-- a place's life is 1 to 16 where somebody joined there, and else 0
pub record RowIsInRange (row : Row) : Type 0 where
  pub life : row.life ≤ 16
  pub unused : row.joined ≡ 0 → row.life ≡ 0
  pub used : row.life ≡ 0 → row.joined ≡ 0
  pub joined : NumberIsInRange row.joined
  pub left : NumberIsInRange row.left
  pub last : NumberIsInRange row.last

-- a row for each of sixteen places
pub record ImageIsInRange (image : Image) : Type 0 where
  pub places : length image.rows ≡ 16
  pub rows : (place : ℕ) → place < 16 → RowIsInRange (slice_index_or image.rows place blank_row)
  pub view : StampIsInRange image.view
  pub view_number : NumberIsInRange image.view_number
  pub resilience : image.resilience ≤ 15

pub record VoteIsInRange (vote : Vote) : Type 0 where
  pub view : StampIsInRange vote.view
  pub top : NumberIsInRange vote.top
  pub taken : NumberIsInRange vote.taken

abbrev pub EntryIsInRange : Entry → Type 0
EntryIsInRange (Data from req body) = NumberIsInRange req
EntryIsInRange (Join name) = Unit {0}
EntryIsInRange (Leave name) = Unit {0}
EntryIsInRange (View v) = StampIsInRange v.stamp × (v.resilience ≤ 15)
