use Rattle.std.proofs.Common.{◌≡◌, [], ◌∷◌, ◌++◌, sym, ap, ◌∙◌, subst}
use Rattle.am_base.specs.declared.entry.Entry.{Entry}
use Rattle.am_base.specs.Entries.{entry_of_parts}
use Rattle.am_packet.specs.Spelling.{entry_bytes, stamp_bytes, set_bytes}
use Rattle.am_packet_writer.proofs.Pieces.{bytes_after_four_pieces}
use Rattle.am_packet_writer.proofs.writer.put_entry.Goals as goal

pub returns-in-View : goal.returns-in-View
unfolding entry_bytes
returns-in-View c = subst (λ (e : Entry). c.put_byte-in-View-2.new.into ≡ c.args.into.now ++ entry_bytes e) (ap entry_of_parts (sym c.in-View.is) ∙ c.parts.ensures)
    (bytes_after_four_pieces c.args.into.now c.put_byte-in-View.new.into c.put_stamp.new.into c.put_set.new.into c.put_byte-in-View-2.new.into
    (4 ∷ []) (stamp_bytes c.in-View.view.stamp) (set_bytes c.in-View.view.members) (c.in-View.view.resilience ∷ [])
    c.put_byte-in-View.ensures c.put_stamp.ensures c.put_set.ensures c.put_byte-in-View-2.ensures)
