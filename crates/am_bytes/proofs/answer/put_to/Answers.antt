use Rattle.std.proofs.Common.{[], ◌∷◌}
use Rattle.am_packet.specs.Spelling.{set_bytes, flag_byte}
use Rattle.am_bytes.specs.Answers.{to_bytes}
use Rattle.am_bytes.proofs.Puts.{bytes_with_two_pieces_put}
use Rattle.am_bytes.proofs.answer.put_to.Goals as goal

pub returns : goal.returns
unfolding to_bytes
returns c =
    bytes_with_two_pieces_put c.put_set.result c.args.out.now.items (flag_byte c.args.any ∷ []) (set_bytes c.args.to) _ _ c.in_ok-put_flag.ensures c.put_set.ensures
