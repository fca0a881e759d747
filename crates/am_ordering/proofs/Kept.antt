-- Who acknowledges an entry that is stored.
use Rattle.am_ordering.proofs.ReceivingWords.{◌≡◌, ℕ, [], Bool, if◌then◌else◌, take, ◌==◌, refl, sym, ap, ◌∙◌, list_any, Entry, names_of, without_name}
use Rattle.am_ordering.proofs.ReceivingWords.{with_letter, Node, image_of_node, members, set_of_one_name, push_entry, ack_packet_of, refresh_at_end, bodies_after_stored_entry, acknowledges}
use Rattle.am_ordering.proofs.ReceivingWords.{store_fitting_entry, ack_where, refresh_at_end_keeps_name, Replies, reply_with_telling, reply_without_departure, node_ends_as_itself}
use Rattle.am_base.specs.declared.outcome.Outcome.TheVariants as said
use Rattle.am_node_parts.specs.Replies.{letters_with_told}
use Rattle.am_node_parts.specs.declared.reply.StepAnswer.TheVariants as answer
use Rattle.am_ordering.proofs.ReceivingRows.{letters_of_due_ack, ack_is_not_sent_early, ack_is_no_departure, ack_may_end_step}

-- an entry that is stored, and acknowledged where that is due
pub stored_entry_replies_ack : (m mid : Node) (to number : ℕ) (e : Entry) (is_due : Bool) → mid ≡ record (push_entry m e) { bodies = bodies_after_stored_entry m.bodies e }
    → is_due ≡ acknowledges (push_entry m e) to (push_entry m e)
    → Replies (store_fitting_entry m to number e) (reply_with_telling (said.Stored number) (ack_where is_due to)) mid
stored_entry_replies_ack m mid to number e is_due node due =
    let after : Node = record (push_entry m e) { bodies = bodies_after_stored_entry m.bodies e } in
    let n = refresh_at_end after in
    let o = said.Stored number in
    let same : acknowledges (push_entry m e) to n ≡ is_due =
    ap (λ w. list_any (λ name. name == w) (take (image_of_node (push_entry m e)).resilience (names_of (without_name (members (push_entry m e)) to)))) (refresh_at_end_keeps_name after)
    ∙ sym due in
    reply_without_departure (store_fitting_entry m to number e) _ mid (ack_is_no_departure is_due to) (node_ends_as_itself after mid node) refl (record {
      answer = refl;
      letters = ap (λ b. if b then with_letter (set_of_one_name to) (ack_packet_of n) [] else []) same
          ∙ sym (ap (letters_with_told o (ack_where is_due to) n) (ack_is_not_sent_early mid is_due to n) ∙ letters_of_due_ack o is_due to n []);
      polls = refl;
      numbers = refl;
      may = ack_may_end_step (answer.Is o) is_due to mid;
    })
