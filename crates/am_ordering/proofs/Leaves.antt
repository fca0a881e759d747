-- The row of a request to leave, by what its tests say.
use Rattle.am_ordering.proofs.JoiningWords.{◌≡◌, ℕ, ◌+◌, ◌<◌, ◌≤◌, true, false, ◌==◌, refl, ap, subst, arith, nat_tests, Report, Row}
use Rattle.am_ordering.proofs.JoiningWords.{Stamp, Leave, Node, top, other_members, push_entry, untrimmed_node_ends_itself}
use Rattle.am_ordering.proofs.JoiningWords.{has_room, plan_without_letters, plan_with_poll, row_of_name_in_list, has_no_join, take_report, report_counts}
use Rattle.am_ordering.proofs.JoiningWords.{answer_leave_ask, leave_ask_row, number_leave, leave_again, Replies, reply_of_numbered_entry, reply_with_answer, equal_reply_of_equal_plan, reply_without_departure, node_ends_as_itself}
use Rattle.am_base.specs.Limits.{NumberIsInRange, EntryIsInRange}
use Rattle.am_base.specs.declared.outcome.Outcome.TheVariants as said
use Rattle.am_node_parts.specs.declared.reply.StepAnswer.TheVariants as answer
use Rattle.am_node_parts.specs.declared.reply.Telling.TheVariants as tell

-- a Leave that is numbered
pub numbered_leave_replies_gone : (m mid : Node) (s number : ℕ) → mid ≡ push_entry m (Leave s) → number ≡ top m + 1 → NumberIsInRange number → EntryIsInRange (Leave s)
    → Replies (number_leave m s) (record (reply_of_numbered_entry number (other_members m) (Leave s)) { second = tell.Gone s }) mid
numbered_leave_replies_gone m mid s number node is number_within entry_within =
    equal_reply_of_equal_plan refl (ap (λ k. record (reply_of_numbered_entry k (other_members m) (Leave s)) { second = tell.Gone s }) is) (reply_without_departure (number_leave m s) _ mid refl (node_ends_as_itself (push_entry m (Leave s)) mid node) refl (record {
      answer = refl;
      letters = refl;
      polls = refl;
      numbers = refl;
      may = record { there = tt; first = λ x. (subst NumberIsInRange is number_within, entry_within); second = λ x. tt };
    }))

-- one that stands in the list
pub leave_again_replies_gone : (m : Node) (s : ℕ) → Replies (leave_again m s) (reply_with_answer (answer.LetGo s (row_of_name_in_list m s).left) (tell.Gone s)) m
leave_again_replies_gone m s = reply_without_departure (leave_again m s) _ m refl (untrimmed_node_ends_itself m) refl (record {
  answer = refl;
  letters = refl;
  polls = refl;
  numbers = refl;
  may = record { there = tt; first = λ x. tt; second = λ x. tt };
})

-- ---- the row

pub asks_to_leave_again : (m : Node) (from : ℕ) (r : Row) → r ≡ row_of_name_in_list m from → 0 < r.left → answer_leave_ask m from ≡ leave_again m from
asks_to_leave_again m from r is left =
    let e = ap (λ (x : Row). x.left) is in
    let test : ((row_of_name_in_list m from).left == 0) ≡ false = grind (arith, nat_tests) in
    rw test refl

pub asks_to_leave_without_room : (m : Node) (from : ℕ) (r : Row) → r ≡ row_of_name_in_list m from → r.left ≤ 0 → has_room m ≡ false
    → answer_leave_ask m from ≡ plan_with_poll m (said.Held m.core.base (top m))
asks_to_leave_without_room m from r is stays full =
    let e = ap (λ (x : Row). x.left) is in
    let test : ((row_of_name_in_list m from).left == 0) ≡ true = grind (arith, nat_tests) in
    rw (test, full) refl

pub asks_to_leave_is_numbered : (m : Node) (from : ℕ) (r : Row) → r ≡ row_of_name_in_list m from → r.left ≤ 0 → has_room m ≡ true → answer_leave_ask m from ≡ number_leave m from
asks_to_leave_is_numbered m from r is stays room =
    let e = ap (λ (x : Row). x.left) is in
    let test : ((row_of_name_in_list m from).left == 0) ≡ true = grind (arith, nat_tests) in
    rw (test, room) refl

pub leave_ask_row_of_stranger : (m : Node) (from : ℕ) (v : Stamp) (report : Report) → has_no_join m from ≡ true → leave_ask_row m from v report ≡ plan_without_letters m said.Stranger
unfolding leave_ask_row
leave_ask_row_of_stranger m from v report unknown = rw unknown refl

pub leave_ask_row_without_report : (m : Node) (from : ℕ) (v : Stamp) (report : Report) → has_no_join m from ≡ false → report_counts m v report ≡ false
    → leave_ask_row m from v report ≡ answer_leave_ask m from
unfolding leave_ask_row
leave_ask_row_without_report m from v report known other = rw (known, other) refl

pub leave_ask_row_with_report : (m : Node) (from : ℕ) (v : Stamp) (report : Report) → has_no_join m from ≡ false → report_counts m v report ≡ true
    → leave_ask_row m from v report ≡ answer_leave_ask (take_report m from report) from
unfolding leave_ask_row
leave_ask_row_with_report m from v report known counts = rw (known, counts) refl
