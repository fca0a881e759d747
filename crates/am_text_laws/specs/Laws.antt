-- What texts print is read again.
use Rattle.std.specs.Prelude.{◌≡◌, ℕ, ◌^◌, ◌<◌, ◌≤◌, List, length, decimal, Ok}
use Rattle.std.specs.List.{flat_map}
use Rattle.am_base.specs.Most.{greatest_number}
use Rattle.am_base.specs.Names.{IsSetOfNames}
use Rattle.am_base.specs.declared.name.Stamp.{Stamp}
use Rattle.am_packet.specs.Laws.{IsBytes}
use Rattle.am_text_defs.specs.Fields.{number_up_to, name_in_text, stamp_in_text, names_in_text, bytes_of}
use Rattle.am_group_defs.specs.Text.{name_text, stamp_text, names_text, hex_byte, body_text}

-- numbers, names, stamps, sets of names, bytes, and bodies, which may be empty
abbrev pub NumbersAreRead : Type 0
NumbersAreRead = (most n : ℕ) → n ≤ most → most < 2 ^ 64 → number_up_to most (decimal n) ≡ Ok n

abbrev pub NamesAreRead : Type 0
NamesAreRead = (name : ℕ) → name < 256 → name_in_text (name_text name) ≡ Ok name

abbrev pub StampsAreRead : Type 0
StampsAreRead = (stamp : Stamp) → stamp.round ≤ greatest_number → stamp.by < 256 → stamp_in_text (stamp_text stamp) ≡ Ok stamp

abbrev pub SetsAreRead : Type 0
SetsAreRead = (set : List ℕ) → IsSetOfNames set → names_in_text (names_text set) ≡ Ok set

abbrev pub BytesAreRead : Type 0
BytesAreRead = (most : ℕ) (bytes : List ℕ) → IsBytes bytes → 0 < length bytes → length bytes ≤ most → bytes_of most (flat_map hex_byte bytes) ≡ Ok bytes

abbrev pub BodiesAreRead : Type 0
BodiesAreRead = (most : ℕ) (body : List ℕ) → IsBytes body → length body ≤ most → bytes_of most (body_text body) ≡ Ok body

-- and what is read of them is printed so
abbrev pub NumbersArePrinted : Type 0
NumbersArePrinted = (most n : ℕ) (word : List ℕ) → most < 2 ^ 64 → number_up_to most word ≡ Ok n → (decimal n ≡ word) × (n ≤ most)

abbrev pub NamesArePrinted : Type 0
NamesArePrinted = (word : List ℕ) (name : ℕ) → name_in_text word ≡ Ok name → (name_text name ≡ word) × (name < 256)

abbrev pub SetsArePrinted : Type 0
SetsArePrinted = (word set : List ℕ) → names_in_text word ≡ Ok set → names_text set ≡ word

abbrev pub BytesArePrinted : Type 0
BytesArePrinted = (most : ℕ) (word bytes : List ℕ) → bytes_of most word ≡ Ok bytes → (body_text bytes ≡ word) × (length bytes ≤ most)
