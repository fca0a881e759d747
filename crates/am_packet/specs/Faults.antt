-- Which field of a packet is wrong: each field with a limit at its offset, in the order in which they are looked at.
use Rattle.std.specs.Prelude.{ℕ, zero, suc, ◌+◌, List, [], ◌∷◌, ◌++◌, length, drop, Bool, false, not, ◌==◌, ◌&&◌, ◌||◌, nat_le, if◌then◌else◌, Option, Some}
use Rattle.std.specs.Prelude.{None, slice_index}
use Rattle.am_base.specs.Most.{greatest_number}
use Rattle.byteorder.specs.Endian.{big_number}
use Rattle.am_base.specs.Names.{are_mask_and_lives}
use Rattle.am_packet.specs.declared.kind.PacketKind.{PacketKind}
use Rattle.am_packet.specs.declared.kind.PacketKind.TheVariants as kinds
use Rattle.am_packet.specs.Kinds.{is_total, most_entry}

-- a field's offset, and whether its value may stand there
pub record Field : Type 0 where
  pub at : ℕ
  pub right : Bool

abbrev pub field : ℕ → Bool → Field
field at right = record { at = at; right = right }

-- the offset of the first field that is wrong
abbrev pub first_wrong : List Field → Option ℕ
first_wrong [] = None
first_wrong (f ∷ fs) = if f.right then first_wrong fs else Some f.at

abbrev pub number_field : List ℕ → ℕ → Field
number_field bytes at = field at (nat_le (big_number 4 (drop at bytes)) greatest_number)

abbrev pub report_fields : List ℕ → ℕ → List Field
report_fields bytes at = number_field bytes at ∷ number_field bytes (at + 4) ∷ []

-- lives outside the mask are refused at the lives' offset
abbrev pub set_field : List ℕ → ℕ → Field
set_field bytes at = field (at + 2) (are_mask_and_lives (big_number 2 (drop at bytes)) (big_number 8 (drop (at + 2) bytes)))

abbrev pub resilience_field : List ℕ → ℕ → Field
resilience_field bytes at = field at (nat_le (slice_index bytes at) 15)

abbrev pub flag_field : List ℕ → ℕ → Field
flag_field bytes at = field at ((slice_index bytes at == 0) || (slice_index bytes at == 1))

-- a life is at most 16, and 0 exactly where the number of its Join is
abbrev pub is_life : ℕ → ℕ → Bool
is_life life joined = nat_le life 16 && (if life == 0 then joined == 0 else not (joined == 0))

abbrev pub life_field : List ℕ → ℕ → Field
life_field bytes at = field at (is_life (slice_index bytes at) (big_number 4 (drop (at + 1) bytes)))

abbrev pub row_fields : List ℕ → ℕ → List Field
row_fields bytes at = number_field bytes (at + 1) ∷ life_field bytes at ∷ number_field bytes (at + 5) ∷ number_field bytes (at + 9) ∷ []

unfoldable pub rows_fields : ℕ → List ℕ → ℕ → List Field
rows_fields zero bytes at = []
rows_fields (suc more) bytes at = row_fields bytes at ++ rows_fields more bytes (at + 13)

abbrev pub image_fields : List ℕ → ℕ → List Field
image_fields bytes at = number_field bytes at ∷ number_field bytes (at + 5) ∷ resilience_field bytes (at + 9) ∷ rows_fields 16 bytes (at + 10)

abbrev pub vote_fields : List ℕ → ℕ → List Field
vote_fields bytes at = number_field bytes at ∷ number_field bytes (at + 5) ∷ number_field bytes (at + 9) ∷ set_field bytes (at + 13) ∷ []

-- an entry's tag, then a total that the tag can have, then the tag's fields
abbrev pub entry_fields : List ℕ → ℕ → List Field
entry_fields bytes at =
    if slice_index bytes at == 1 then field 10 (nat_le (at + 6) (length bytes) && nat_le (length bytes) (at + most_entry)) ∷ number_field bytes (at + 2) ∷ []
    else if slice_index bytes at == 2 then field 10 (length bytes == at + 2) ∷ []
    else if slice_index bytes at == 3 then field 10 (length bytes == at + 2) ∷ []
    else if slice_index bytes at == 4 then field 10 (length bytes == at + 17) ∷ number_field bytes (at + 1) ∷ set_field bytes (at + 6)
    ∷ resilience_field bytes (at + 16) ∷ []
    else field at false ∷ []

-- the fields of each kind
unfoldable pub kind_fields : PacketKind → List ℕ → List Field
kind_fields kinds.Request bytes = report_fields bytes 12 ++ number_field bytes 20 ∷ []
kind_fields kinds.Spread bytes = report_fields bytes 12 ++ number_field bytes 20 ∷ []
kind_fields kinds.Bcast bytes = number_field bytes 12 ∷ number_field bytes 16 ∷ number_field bytes 20 ∷ entry_fields bytes 24
kind_fields kinds.Order bytes = number_field bytes 12 ∷ number_field bytes 16 ∷ number_field bytes 20 ∷ number_field bytes 25 ∷ []
kind_fields kinds.Accept bytes = number_field bytes 12 ∷ number_field bytes 16 ∷ number_field bytes 20 ∷ flag_field bytes 24 ∷ []
kind_fields kinds.Ack bytes = report_fields bytes 12
kind_fields kinds.Nack bytes = report_fields bytes 12
kind_fields kinds.Hold bytes = number_field bytes 12 ∷ number_field bytes 16 ∷ number_field bytes 20 ∷ []
kind_fields kinds.Welcome bytes = number_field bytes 12 ∷ number_field bytes 16 ∷ image_fields bytes 20
kind_fields kinds.LeaveAsk bytes = report_fields bytes 12
kind_fields kinds.Gone bytes = number_field bytes 12 ∷ []
kind_fields kinds.Vote bytes = vote_fields bytes 12
kind_fields kinds.Fetch bytes = number_field bytes 12 ∷ []
kind_fields kinds.Piece bytes = number_field bytes 12 ∷ number_field bytes 16 ∷ entry_fields bytes 20
kind_fields kinds.Result bytes = number_field bytes 12 ∷ number_field bytes 16 ∷ set_field bytes 20 ∷ resilience_field bytes 30 ∷ []
kind_fields _ bytes = []

-- the stamp's round, then the total, then the kind's fields
abbrev pub packet_fields : PacketKind → List ℕ → List Field
packet_fields kind bytes = number_field bytes 5 ∷ field 10 (is_total kind (length bytes)) ∷ kind_fields kind bytes

-- the offset of the first wrong field of a packet of this kind
abbrev pub wrong_in : Option PacketKind → List ℕ → Option ℕ
wrong_in None bytes = None
wrong_in (Some kind) bytes = first_wrong (packet_fields kind bytes)
