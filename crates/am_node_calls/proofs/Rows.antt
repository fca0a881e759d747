-- Rows of calls, by what their tests say.
use Rattle.am_node_calls.proofs.Words.{◌≡◌, ℕ, ◌+◌, ◌<◌, ◌≤◌, List, length, true, false, ◌||◌, ◌==◌, nat_lt, nat_le, Option, Some, None, is_some, refl, sym, ◌∙◌}
use Rattle.am_node_calls.proofs.Words.{ap, arith, list_any, nat_tests, Entry, log_entry_at, split_on_bool_of_log, is_body_of_send, keep_body, OwnSend, Status, Node, is_member, waiting_send_of, plan_without_letters}
use Rattle.am_node_calls.proofs.Words.{send_row, done_row, take_row, give_out_entry, join_row, join_by_status, queue, node_with_queued_send, emit_waiting_send, spread_row, hold_row, answer_hold}
use Rattle.am_node_calls.proofs.Words.{row_of_name_in_list, gone_row, waits_for}
use Rattle.am_base.specs.declared.outcome.Outcome.TheVariants as said
use Rattle.am_node_defs.specs.Sends as own
use Rattle.am_model.specs.declared.status.Status.TheVariants as status

-- what isn't below
pub not_below_four_ge_four : (n : ℕ) → (n < 4 → ⊥) → 4 ≤ n
not_below_four_ge_four n never = split_on_bool_of_log (nat_lt n 4) (λ t. let few : n < 4 = grind (arith, nat_tests) in absurd (never few)) (λ f. grind (arith, nat_tests))

-- ---- joining

pub join_row_by_status : (m : Node) (s : Status) → m.status ≡ s → join_row m ≡ join_by_status m s
unfolding join_row
join_row_by_status m s is = ap (join_by_status m) is

-- ---- hearing

pub gone_row_of_leaver : (m : Node) → m.leaving ≡ true → gone_row m ≡ plan_without_letters (record m { status = status.Departed }) said.Departed
unfolding gone_row
gone_row_of_leaver m is = rw is refl

pub gone_row_of_stayer : (m : Node) → m.leaving ≡ false → gone_row m ≡ plan_without_letters m said.Known
unfolding gone_row
gone_row_of_stayer m is = rw is refl

pub hold_row_of_waiting_request : (m : Node) (base high req : ℕ) → waits_for (waiting_send_of m) req ≡ true → hold_row m base high req ≡ plan_without_letters m (said.PutOff req base high)
unfolding hold_row
hold_row_of_waiting_request m base high req is = by_send (waiting_send_of m) is
  where
    by_send : (w : Option OwnSend) → waits_for w req ≡ true → answer_hold m base high req w ≡ plan_without_letters m (said.PutOff req base high)
    by_send None is = absurd (cc)
    by_send (Some s) is = rw is refl

pub hold_row_of_other_request : (m : Node) (base high req : ℕ) → waits_for (waiting_send_of m) req ≡ false → hold_row m base high req ≡ plan_without_letters m said.Known
unfolding hold_row
hold_row_of_other_request m base high req is = by_send (waiting_send_of m) is
  where
    by_send : (w : Option OwnSend) → waits_for w req ≡ false → answer_hold m base high req w ≡ plan_without_letters m said.Known
    by_send None is = refl
    by_send (Some s) is = rw is refl

pub spread_row_of_known_body : (m : Node) (s req : ℕ) (body : List ℕ) → (nat_le req (row_of_name_in_list m s).last || list_any (is_body_of_send s req) m.bodies) ≡ true
    → spread_row m s req body ≡ plan_without_letters m said.Known
unfolding spread_row
spread_row_of_known_body m s req body is = rw is refl

pub spread_row_keeps_body : (m : Node) (s req : ℕ) (body : List ℕ) → (nat_le req (row_of_name_in_list m s).last || list_any (is_body_of_send s req) m.bodies) ≡ false
    → spread_row m s req body ≡ plan_without_letters (record m { bodies = keep_body s req body m.bodies }) said.Kept
unfolding spread_row
spread_row_keeps_body m s req body is = rw is refl

-- ---- taking

pub take_row_of_no_member : (m : Node) → is_member m.status ≡ false → take_row m ≡ plan_without_letters m said.NotMember
unfolding take_row
take_row_of_no_member m is = rw is refl

pub take_row_without_accepted : (m : Node) → is_member m.status ≡ true → m.core.taken ≡ m.core.acc → take_row m ≡ plan_without_letters m said.Empty
unfolding take_row
take_row_without_accepted m is all =
    let test : (m.core.taken == m.core.acc) ≡ true = grind (arith, nat_tests) in
    rw (is, test) refl

pub take_row_gives_next_entry : (m : Node) (number : ℕ) (e : Entry) → is_member m.status ≡ true → number ≤ m.core.acc → number ≡ m.core.taken + 1
    → log_entry_at m.core.log (m.core.taken + 1) ≡ Some e
    → take_row m ≡ plan_without_letters (record m { core = record (m.core) { taken = number } }) (said.Took number e)
unfolding take_row
take_row_gives_next_entry m number e is low next there =
    let test : (m.core.taken == m.core.acc) ≡ false = grind (arith, nat_tests) in
    rw (is, test) (ap (give_out_entry m) there ∙ ap (λ k. plan_without_letters (record m { core = record (m.core) { taken = k } }) (said.Took k e)) (sym next))

-- ---- sends

pub send_row_of_no_member : (m : Node) (body : List ℕ) → is_member m.status ≡ false → send_row m body ≡ plan_without_letters m said.NotMember
unfolding send_row
send_row_of_no_member m body is = rw is refl

pub send_row_of_leaver : (m : Node) (body : List ℕ) → is_member m.status ≡ true → m.leaving ≡ true → send_row m body ≡ plan_without_letters m said.Leaving
unfolding send_row
send_row_of_leaver m body is leaves = rw (is, leaves) refl

pub send_row_of_full_queue : (m : Node) (body : List ℕ) → is_member m.status ≡ true → m.leaving ≡ false → 4 ≤ length m.sends.queue → send_row m body ≡ plan_without_letters m (said.Busy 4)
unfolding send_row
send_row_of_full_queue m body is stays many =
    let test : nat_le 4 (length m.sends.queue) ≡ true = grind (arith, nat_tests) in
    rw (is, stays, test) refl

send_queues : (m : Node) (body : List ℕ) → is_member m.status ≡ true → m.leaving ≡ false → length m.sends.queue < 4 → send_row m body ≡ queue m body
unfolding send_row
send_queues m body is stays few =
    let test : nat_le 4 (length m.sends.queue) ≡ false = grind (arith, nat_tests) in
    rw (is, stays, test) refl

pub send_row_queues_body : (m : Node) (body : List ℕ) (req : ℕ) → is_member m.status ≡ true → m.leaving ≡ false → length m.sends.queue < 4
    → is_some (waiting_send_of m) ≡ true → req ≡ m.sends.last + 1 → send_row m body ≡ plan_without_letters (record m { sends = own.queue_send body m.sends }) (said.Queued req)
send_row_queues_body m body req is stays few waits next = send_queues m body is stays few ∙ rw waits (ap (λ k. plan_without_letters (node_with_queued_send m body) (said.Queued k)) (sym next))

pub send_row_emits_body : (m : Node) (body : List ℕ) (req : ℕ) → is_member m.status ≡ true → m.leaving ≡ false → length m.sends.queue < 4 → is_some (waiting_send_of m) ≡ false
    → req ≡ m.sends.last + 1
    → send_row m body ≡ emit_waiting_send (record m { sends = own.queue_send body m.sends }) (waiting_send_of (record m { sends = own.queue_send body m.sends })) (said.Queued req)
send_row_emits_body m body req is stays few waits next = send_queues m body is stays few
    ∙ rw waits (ap (λ k. emit_waiting_send (node_with_queued_send m body) (waiting_send_of (node_with_queued_send m body)) (said.Queued k)) (sym next))

pub done_row_collects_request : (m : Node) (req : ℕ) → done_row m req ≡ plan_without_letters (record m { sends = own.collect req m.sends }) (own.collect_outcome req m.sends)
unfolding done_row
done_row_collects_request m req = refl
