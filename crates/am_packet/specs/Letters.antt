-- The packet in a letter's bytes.
use Rattle.std.specs.Prelude.{◌≡◌, ℕ, List, Ok, Err, Option, Some, None}
use Rattle.am_packet.specs.declared.packet.Packet.{Packet}
use Rattle.am_packet.specs.declared.packet.Packet.TheVariants.{Invite}
use Rattle.am_packet.specs.Limits.{IsPacket}
use Rattle.am_packet.specs.Spelling.{spelling}
use Rattle.am_packet.specs.Reading.{Read, reading}

-- the packet that was read, or some other where none was
abbrev pub read_packet : Read Packet → Packet
read_packet (Ok packet) = packet
read_packet (Err refusal) = Invite 0 (record { round = 0; by = 0 })

-- the packet that bytes spell
abbrev pub packet_in : List ℕ → Packet
packet_in bytes = read_packet (reading bytes)

-- bytes that spell a packet
pub record IsSpelled (bytes : List ℕ) : Type 0 where
  pub packet : IsPacket (packet_in bytes)
  pub spelled : bytes ≡ spelling (packet_in bytes)

-- the bytes within a letter, or those apart from it
abbrev pub bytes_in_letter : List ℕ → Option (List ℕ) → List ℕ
bytes_in_letter within None = within
bytes_in_letter within (Some apart) = apart
