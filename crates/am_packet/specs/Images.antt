-- The image that stands among bytes.
use Rattle.std.specs.Prelude.{ℕ, zero, suc, ◌+◌, ◌≤◌, List, [], ◌∷◌, length, drop, slice_index}
use Rattle.byteorder.specs.Endian.{big_number}
use Rattle.am_base.specs.declared.image.Row.{Row}
use Rattle.am_base.specs.declared.image.Image.{Image}
use Rattle.am_packet.specs.declared.image_ref.ImagePlace.{ImagePlace}
use Rattle.am_packet.specs.declared.image_ref.ImagePlace.TheVariants.{Apart, Among}

abbrev pub number_in_bytes : List ℕ → ℕ → ℕ
number_in_bytes bytes at = big_number 4 (drop at bytes)

abbrev pub row_in : List ℕ → ℕ → Row
row_in bytes at = record {
  life = slice_index bytes at;
  joined = number_in_bytes bytes (at + 1);
  left = number_in_bytes bytes (at + 5);
  last = number_in_bytes bytes (at + 9);
}

-- so many rows, one after the other
unfoldable pub rows_in : ℕ → List ℕ → ℕ → List Row
rows_in zero bytes at = []
rows_in (suc more) bytes at = row_in bytes at ∷ rows_in more bytes (at + 13)

abbrev pub image_in : List ℕ → ℕ → Image
image_in bytes at = record {
  view = record { round = number_in_bytes bytes at; by = slice_index bytes (at + 4) };
  view_number = number_in_bytes bytes (at + 5);
  resilience = slice_index bytes (at + 9);
  rows = rows_in 16 bytes (at + 10);
}

abbrev pub image_of_place : ImagePlace → Image
image_of_place (Apart image) = image.now
image_of_place (Among bytes at) = image_in bytes.now at

-- how many bytes sixteen rows have
abbrev pub rows_length : ℕ
rows_length = 208

-- how many an image has
abbrev pub image_length : ℕ
image_length = 218

-- an image's bytes don't end before it does
abbrev pub IsPlace : ImagePlace → Type 0
IsPlace (Apart image) = Unit {0}
IsPlace (Among bytes at) = at + image_length ≤ length bytes.now
