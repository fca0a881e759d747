use Rattle.am_node_parts.proofs.Words.{◌≡◌, ◌+◌, length, refl, sym, ap, ◌∙◌, arith, with_letter, node_of, set_of_one_name, packet_of_entry, with_letter_adds_one}
use Rattle.am_node_parts.proofs.Served.{put_all_of_no_entry}
use Rattle.am_node_parts.proofs.Serves.{sent_entries_with_next}
use Rattle.am_step_end.proofs.serving.tell_entries.Goals as goal

pub loop-entry-init : goal.loop-entry-init
loop-entry-init c =
    let s = c.args.served.now in
    record {
      number = omega arith;
      letters = c.requires.empty ∙ sym (put_all_of_no_entry (packet_of_entry s.pieces (node_of c.args.parts.now)) (set_of_one_name s.to) (s.stored + 1) 0 c.args.entries.now refl);
      few = rw c.requires.empty (omega arith);
    }

pub loop-entry-preserved : goal.loop-entry-preserved
loop-entry-preserved c =
    let s = c.args.served.now in
    let m = node_of c.args.parts.now in
    let was = c.loop-entry.invariant in
    let put : c.put.new.self ≡ with_letter (set_of_one_name s.to) (packet_of_entry s.pieces m (c.loop-entry.number + 1) c.entry-item.result) c.loop-entry.out =
    c.put.ensures ∙ (λ k. with_letter (c.only.ensures k) ((c.packet_of-packet.ensures.value
    ∙ ap (packet_of_entry s.pieces m (c.loop-entry.number + 1)) c.as_ref.ensures) k) c.loop-entry.out) in
    record {
      number = omega arith;
      letters = sent_entries_with_next (packet_of_entry s.pieces m) (set_of_one_name s.to) s.stored c.loop-entry.number c.loop-entry.entry-index c.args.entries.now c.entry-item.result
          c.loop-entry.out c.put.new.self c.loop-entry-test.true was.number c.entry-item.is was.letters put;
      few =
          let packet = packet_of_entry s.pieces m (c.loop-entry.number + 1) c.entry-item.result in
          let more = with_letter_adds_one (set_of_one_name s.to) packet c.loop-entry.out in
          let long = ap length put in
          omega arith;
    }
