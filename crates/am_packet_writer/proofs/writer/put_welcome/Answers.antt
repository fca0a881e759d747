use Rattle.am_packet.specs.Spelling.{two_bytes, image_bytes}
use Rattle.am_packet_writer.proofs.Pieces.{bytes_after_two_pieces}
use Rattle.am_packet_writer.proofs.writer.put_welcome.Goals as goal

pub returns : goal.returns
returns c = bytes_after_two_pieces c.args.into.now c.put_two.new.into c.put_image.new.into
    (two_bytes c.args.base c.args.join) (image_bytes c.args.image.now)
    (rw (← c.to_image.ensures) c.put_image.ensures) c.put_two.ensures
