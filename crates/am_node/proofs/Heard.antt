-- A packet that is heard is done by the row of its kind.
use Rattle.std.proofs.Common.{◌≡◌, true, false, refl}
use Rattle.am_packet.specs.declared.packet.Packet.{Packet}
use Rattle.am_base.specs.declared.outcome.Outcome.TheVariants as said
use Rattle.am_model.specs.Node.{Node}
use Rattle.am_model.specs.Emit.{plan_without_letters}
use Rattle.am_model.specs.Hearing.{packet_is_heard, heard_row, hear_row}

pub hear_row_of_heard_packet : (m : Node) (packet : Packet) → packet_is_heard m packet ≡ true → hear_row m packet ≡ heard_row m packet
unfolding hear_row
hear_row_of_heard_packet m packet is = rw is refl

pub hear_row_of_packet_elsewhere : (m : Node) (packet : Packet) → packet_is_heard m packet ≡ false → hear_row m packet ≡ plan_without_letters m said.Elsewhere
unfolding hear_row
hear_row_of_packet_elsewhere m packet is = rw is refl
