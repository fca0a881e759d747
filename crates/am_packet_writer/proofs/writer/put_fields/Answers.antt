use Rattle.std.proofs.Common.{[], ◌∷◌, ◌++◌}
use Rattle.byteorder.specs.Endian.{big_bytes}
use Rattle.am_packet.specs.Spelling.{fields_of, two_bytes, entry_bytes, set_bytes}
use Rattle.am_packet_writer.proofs.Pieces.{bytes_after_two_pieces, bytes_after_three_pieces}
use Rattle.am_packet_writer.proofs.writer.put_fields.Goals as goal

pub returns-in-Order : goal.returns-in-Order
unfolding fields_of
returns-in-Order c = rw c.in-Order.is (bytes_after_three_pieces c.args.into.now c.put_numbers.new.into c.put_byte.new.into c.put_number.new.into
    (big_bytes 4 c.in-Order.base ++ big_bytes 4 c.in-Order.acc ++ big_bytes 4 c.in-Order.number) (c.in-Order.from ∷ []) (big_bytes 4 c.in-Order.req)
    c.put_numbers.ensures (rw (← c.get.ensures.value) c.put_byte.ensures) c.put_number.ensures)

pub returns-in-Piece : goal.returns-in-Piece
unfolding fields_of
returns-in-Piece c = rw c.in-Piece.is (bytes_after_two_pieces c.args.into.now c.put_two.new.into c.put_entry.new.into
    (two_bytes c.in-Piece.base c.in-Piece.number) (entry_bytes c.in-Piece.entry) c.put_entry.ensures c.put_two.ensures)

pub returns-in-Result : goal.returns-in-Result
unfolding fields_of
returns-in-Result c = rw c.in-Result.is (bytes_after_three_pieces c.args.into.now c.put_two-in-Result.new.into c.put_set.new.into c.put_byte-in-Result.new.into
    (two_bytes c.in-Result.base c.in-Result.number) (set_bytes c.in-Result.view.members) (c.in-Result.view.resilience ∷ [])
    c.put_two-in-Result.ensures c.put_set.ensures c.put_byte-in-Result.ensures)
