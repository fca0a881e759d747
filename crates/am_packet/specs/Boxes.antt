-- Letters, and what a step sends, in order.
use Rattle.std.specs.Prelude.{ℕ, List, Bool, nat_le, ◌==◌, if◌then◌else◌, length, take_while, insert}
use Rattle.am_base.specs.Names.{size}
use Rattle.am_packet.specs.declared.packet.Packet.{Packet}
use Rattle.am_packet.specs.Kinds.{kind_of, goes_to_any}

-- a packet with its addressees: the names in a set, or every life of their places
pub record Letter : Type 0 where
  pub to : List ℕ
  pub any : Bool
  pub packet : Packet

abbrev pub letter_to : List ℕ → Packet → Letter
letter_to to packet = record { to = to; any = goes_to_any packet; packet = packet }

-- how many letters stand before one of this kind: those of lower kinds and of its own
abbrev pub place_for : ℕ → List Letter → ℕ
place_for kind letters = length (take_while (λ letter. nat_le (kind_of letter.packet) kind) letters)

-- the letters with one more, which isn't sent where it is for nobody
abbrev pub with_letter : List ℕ → Packet → List Letter → List Letter
with_letter to packet letters = if size to == 0 then letters else insert letters (place_for (kind_of packet) letters) (letter_to to packet)
