use Rattle.std.proofs.Common.{◌≡◌, Ok, sym, ap, ◌∙◌}
use Rattle.am_packet.specs.Reading.{read_image_at}
use Rattle.am_packet.proofs.Fields.{read_that_is_done}
use Rattle.am_packet_reader.proofs.Images.{image_at_is_image_in}
use Rattle.am_packet_reader.proofs.field_reader.image.Goals as goal

pub returns-in-Ok : goal.returns-in-Ok
returns-in-Ok c =
    let found : read_image_at c.args.bytes.now c.args.at ≡ Ok c.in-Ok.field-0 = sym c.whole_image.ensures ∙ c.in-Ok.is in
    ap read_that_is_done (c.among.ensures ∙ image_at_is_image_in c.args.bytes.now c.args.at c.in-Ok.field-0 found) ∙ sym found
