-- The list of a group, and what it tells: its members, its last view, and a row for each place.
use Rattle.std.specs.Prelude.{◌≡◌, ℕ, zero, suc, ◌+◌, ◌-◌, List, [], ◌∷◌, ◌++◌, length, take, map, replicate, Option, None, Bool, true, not, ◌==◌, ◌&&◌, ◌||◌}
use Rattle.std.specs.Prelude.{nat_lt, nat_le, if◌then◌else◌, slice_get, slice_set, slice_index, slice_index_or}
use Rattle.std.specs.List.{list_all, flat_map}
use Rattle.am_base.specs.declared.image.Row.{Row}
use Rattle.am_base.specs.declared.image.Image.{Image}
use Rattle.am_base.specs.declared.entry.Entry.{Entry}
use Rattle.am_base.specs.declared.entry.Entry.TheVariants.{Data, Join, Leave, View}
use Rattle.am_base.specs.Names.{place_of_name, life_of_name, list_by_place, has, names_are_within}
use Rattle.am_base.specs.Stamps.{stamp_is_less, stamps_are_equal, no_stamp}

-- nobody joined here
abbrev pub blank_row : Row
blank_row = record { life = 0; joined = 0; left = 0; last = 0 }

abbrev pub is_blank_row : Row → Bool
is_blank_row r = (r.life == 0) && ((r.joined == 0) && ((r.left == 0) && (r.last == 0)))

-- what the empty list tells
abbrev pub blank : Image
blank = record { view = no_stamp; view_number = 0; resilience = 0; rows = replicate 16 blank_row }

abbrev pub is_blank_image : Image → Bool
is_blank_image image = stamps_are_equal image.view no_stamp && ((image.view_number == 0) && ((image.resilience == 0) && list_all is_blank_row image.rows))

-- the row of a name's place
abbrev pub row_at_place : Image → ℕ → Row
row_at_place image name = slice_index_or image.rows (place_of_name name) blank_row

-- the row of a name: its place's, where the life is the name's
abbrev pub row_of_name : Image → ℕ → Row
row_of_name image name = if (row_at_place image name).life == life_of_name name then row_at_place image name else blank_row

-- the life that is a member at this place, or 0
abbrev pub member_life_of_row : Row → ℕ
member_life_of_row r = if nat_lt 0 r.joined && (r.left == 0) then r.life else 0

-- the members
abbrev pub members_of_image : Image → List ℕ
members_of_image image = map member_life_of_row image.rows

abbrev pub image_with_row : Image → ℕ → Row → Image
image_with_row image name r = record image { rows = slice_set image.rows (place_of_name name) r }

-- a place's row after a View: where the list was empty, its members joined at 1; else a member that it leaves out has gone
abbrev pub row_after_view : Bool → ℕ → ℕ → Row → Row
row_after_view first number life r =
    if first then (if life == 0 then r else record { life = life; joined = 1; left = 0; last = 0 })
    else if nat_lt 0 (member_life_of_row r) && not (member_life_of_row r == life) then record r { left = number }
    else r

-- what a list tells after one entry more, which has this number
unfoldable pub after : Image → ℕ → Entry → Image
after image number (Data from req body) = if (row_at_place image from).life
    == life_of_name from then image_with_row image from (record (row_at_place image from) { last = req }) else image
after image number (Join name) = image_with_row image name (record { life = life_of_name name; joined = number; left = 0; last = 0 })
after image number (Leave name) = if (row_at_place image name).life
    == life_of_name name then image_with_row image name (record (row_at_place image name) { left = number }) else image
after image number (View v) = record {
  view = v.stamp;
  view_number = number;
  resilience = v.resilience;
  rows = list_by_place (λ place. row_after_view (is_blank_image image) number (slice_index v.members place) (slice_index_or image.rows place blank_row));
}

-- what may come next: a member's next send; a name whose place is free; a member's going; a greater view of some of the
-- members, with its own name among them and no less resilience
unfoldable pub fits : Image → Entry → Bool
fits image (Data from req body) = has (members_of_image image) from && (req == (row_of_name image from).last + 1)
fits image (Join name) = ((row_at_place image name).joined == 0) || (nat_lt 0 (row_at_place image name).left && nat_lt (row_at_place image name).life (life_of_name name))
fits image (Leave name) = has (members_of_image image) name
fits image (View v) = stamp_is_less image.view v.stamp
    && ((is_blank_image image || names_are_within v.members (members_of_image image)) && (has v.members v.stamp.by && nat_le image.resilience v.resilience))

-- what a list tells after all these entries, the first of which has this number
unfoldable pub image_after_entries : Image → ℕ → List Entry → Image
image_after_entries image number [] = image
image_after_entries image number (e ∷ es) = image_after_entries (after image number e) (number + 1) es

-- each entry fits what stands before it
unfoldable pub AllEntriesFit : Image → ℕ → List Entry → Type 0
AllEntriesFit image number [] = Unit {0}
AllEntriesFit image number (e ∷ es) = (fits image e ≡ true) × AllEntriesFit (after image number e) (number + 1) es

-- a list from a start on: the start's number, what was told up to there, and the entries since
pub record Log : Type 0 where
  pub start : ℕ
  pub image : Image
  pub entries : List Entry

-- the number of the last entry
abbrev pub top_of_log : Log → ℕ
top_of_log log = log.start + length log.entries

-- the entry of a number, above the start and up to the top
abbrev pub log_entry_at : Log → ℕ → Option Entry
log_entry_at log zero = None
log_entry_at log (suc before) = if nat_le log.start before then slice_get log.entries (before - log.start) else None

-- what is told up to a number, from the start on
abbrev pub log_image_at : Log → ℕ → Image
log_image_at log number = image_after_entries log.image (log.start + 1) (take (number - log.start) log.entries)

abbrev pub log_members_at : Log → ℕ → List ℕ
log_members_at log number = members_of_image (log_image_at log number)

-- what is told up to the top
abbrev pub image_of_log : Log → Image
image_of_log log = image_after_entries log.image (log.start + 1) log.entries

-- the same list with one entry more
abbrev pub log_with_entry : Log → Entry → Log
log_with_entry log e = record log { entries = log.entries ++ e ∷ [] }

-- ---- the requests of a name that stand in a list, in turn

abbrev pub request_of_sender_in_entry : ℕ → Entry → List ℕ
request_of_sender_in_entry name (Data from req body) = if from == name then req ∷ [] else []
request_of_sender_in_entry name (Join joiner) = []
request_of_sender_in_entry name (Leave leaver) = []
request_of_sender_in_entry name (View v) = []

abbrev pub requests_of_sender : ℕ → List Entry → List ℕ
requests_of_sender name list = flat_map (request_of_sender_in_entry name) list
