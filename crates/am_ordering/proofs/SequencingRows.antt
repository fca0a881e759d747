-- The rows of the sequencer, by what their tests say.
use Rattle.am_ordering.proofs.SequencingWords.{◌≡◌, ℕ, ◌+◌, ◌<◌, ◌≤◌, List, Bool, true, false, not, nat_lt, nat_le, if◌then◌else◌, Option, Some, None, refl, ◌∙◌}
use Rattle.am_ordering.proofs.SequencingWords.{sym, ap, subst, arith, nat_tests, Report, Outcome, Data, Node, top, other_members, set_of_one_name, has_room, report_fits, node_with_report}
use Rattle.am_ordering.proofs.SequencingWords.{push_entry, Plan, plan_without_letters, plan_with_poll, with_one_more_letter, hold_packet_of, CoreFrontsAreInOrder, answer_request_is_alike, IsEndOf, row_of_name_in_list, has_no_join}
use Rattle.am_ordering.proofs.SequencingWords.{take_report, ack_row, serve_again, serve_entries_above, nack_row, answer_request, number_send_of_member, request_row, untrimmed_node_ends_itself}
use Rattle.am_ordering.proofs.SequencingWords.{refusal_or_plan, report_refusal, request_refusal, data_note, Reply, Replies, Ends, reply_with_telling, reply_with_answer, reply_letters}
use Rattle.am_ordering.proofs.SequencingWords.{equal_reply_of_equal_plan, reply_on_whole_log, reply_without_departure, node_ends_as_itself}
use Rattle.am_base.specs.Limits.{NumberIsInRange}
use Rattle.am_base.specs.declared.outcome.Outcome.TheVariants as said
use Rattle.am_model.specs.Refresh.{refresh_at_end}
use Rattle.am_node_parts.specs.Replies.{IsNoteWithin}
use Rattle.am_node_parts.specs.declared.reply.StepAnswer.TheVariants as answer
use Rattle.am_node_parts.specs.declared.reply.Note.TheVariants as note
use Rattle.am_node_parts.specs.declared.reply.Telling.TheVariants as tell

-- ---- a report

-- a row that begins with a look at a report
by_tests : (unknown fits : Bool) (m : Node) (plan : Plan) → (if unknown then plan_without_letters m said.Stranger else if not fits then plan_without_letters m said.Unfit else plan)
    ≡ refusal_or_plan (if unknown then Some said.Stranger else if not fits then Some said.Unfit else None) m plan
by_tests true fits m plan = refl
by_tests false true m plan = refl
by_tests false false m plan = refl

by_refusal : (m : Node) (from : ℕ) (report : Report) (refusal : Option Outcome) (plan : Plan) → refusal ≡ report_refusal m from report
    → (if has_no_join m from then plan_without_letters m said.Stranger else if not (report_fits m report) then plan_without_letters m said.Unfit else plan) ≡ refusal_or_plan refusal m plan
by_refusal m from report refusal plan is =
    by_tests (has_no_join m from) (report_fits m report) m plan ∙ ap (λ (o : Option Outcome). refusal_or_plan o m plan) (sym is)

pub nack_row_by_refusal : (m : Node) (from : ℕ) (report : Report) (refusal : Option Outcome) → refusal ≡ report_refusal m from report
    → nack_row m from report ≡ refusal_or_plan refusal m (serve_again (take_report m from report) from report.stored)
unfolding nack_row
nack_row_by_refusal m from report refusal is = by_refusal m from report refusal (serve_again (take_report m from report) from report.stored) is

pub request_row_by_refusal : (m : Node) (from : ℕ) (report : Report) (req : ℕ) (body : List ℕ) (by_order : Bool) (refusal : Option Outcome)
    → refusal ≡ report_refusal m from report
    → request_row m from report req body by_order ≡ refusal_or_plan refusal m (answer_request (take_report m from report) from req body by_order)
unfolding request_row
request_row_by_refusal m from report req body by_order refusal is =
    by_refusal m from report refusal (answer_request (take_report m from report) from req body by_order) is

-- ---- an Ack

-- the end of a step whose report is taken, and before which so much was accepted
abbrev following : ℕ → Node → Plan
following since m = record (plan_without_letters m said.Noted) { outcome = λ n. if nat_lt since n.core.acc then said.Accepted n.core.acc else said.Noted }

pub following_replies_accepted : (since : ℕ) (m n : Node) → Ends m n → Replies (following since m) (reply_with_answer (answer.Accepted since) tell.Nothing) n
following_replies_accepted since m n end = reply_without_departure (following since m) _ n refl end refl (record {
  answer = refl;
  letters = refl;
  polls = refl;
  numbers = refl;
  may = record { there = tt; first = λ x. tt; second = λ x. tt };
})

pub ack_row_by_refusal : (m : Node) (from : ℕ) (report : Report) (refusal : Option Outcome) → refusal ≡ report_refusal m from report
    → ack_row m from report ≡ refusal_or_plan refusal m (following m.core.acc (node_with_report m from report))
unfolding ack_row
ack_row_by_refusal m from report refusal is = by_refusal m from report refusal (following m.core.acc (node_with_report m from report)) is

-- ---- a Nack

pub serve_again_below_base : (m : Node) (to stored : ℕ) → stored < m.core.base → serve_again m to stored ≡ plan_without_letters m said.Behind
serve_again_below_base m to stored low =
    let test : nat_lt stored m.core.base ≡ true = grind (arith, nat_tests) in
    rw test refl

pub serve_again_from_base : (m : Node) (to stored : ℕ) → m.core.base ≤ stored → serve_again m to stored ≡ serve_entries_above m to stored
serve_again_from_base m to stored low =
    let test : nat_lt stored m.core.base ≡ false = grind (arith, nat_tests) in
    rw test refl

-- ---- a send

-- once the report is taken, what is replied is what the row asks for
pub request_row_after_report : (old mid new : Node) (from : ℕ) (report : Report) (req : ℕ) (body : List ℕ) (by_order : Bool) (r : Reply)
    → None ≡ report_refusal old from report → IsEndOf (take_report old from report) mid → CoreFrontsAreInOrder mid.core
    → Replies (answer_request mid from req body by_order) r new → Replies (request_row old from report req body by_order) r new
request_row_after_report old mid new from report req body by_order r none end order replies =
    equal_reply_of_equal_plan (request_row_by_refusal old from report req body by_order None none) refl
    (reply_on_whole_log (λ m. answer_request m from req body by_order) (take_report old from report) mid new r end order
    (λ all keeps. answer_request_is_alike all mid from req body by_order keeps) replies)

pub held_request_replies_hold : (m : Node) (to req : ℕ) → NumberIsInRange req
    → Replies (with_one_more_letter (plan_with_poll m (said.Held m.core.base (top m))) (set_of_one_name to) (λ n. hold_packet_of n req))
    (record (reply_with_telling (said.Held m.core.base (top m)) (tell.Note (set_of_one_name to) (note.Hold req))) { polls = true }) m
held_request_replies_hold m to req within = reply_without_departure _ _ m refl (untrimmed_node_ends_itself m) refl (record {
  answer = refl;
  letters = refl;
  polls = refl;
  numbers = refl;
  may = record { there = tt; first = λ x. within; second = λ x. tt };
})

-- a row that goes on with a look at its sender's row
by_row : (left last early : Bool) (m : Node) (at : ℕ) (plan : Plan)
    → (if left then plan_without_letters m said.Stranger else if last then plan_without_letters m said.Again else if early then plan_without_letters m (said.Early at) else plan)
    ≡ refusal_or_plan (if left then Some said.Stranger else if last then Some said.Again else if early then Some (said.Early at) else None) m plan
by_row true last early m at plan = refl
by_row false true early m at plan = refl
by_row false false true m at plan = refl
by_row false false false m at plan = refl

-- what is done with a send that is its sender's next one
next_send : Node → ℕ → ℕ → List ℕ → Bool → Plan
next_send m from req body by_order =
    if not (has_room m) then with_one_more_letter (plan_with_poll m (said.Held m.core.base (top m))) (set_of_one_name from) (λ n. hold_packet_of n req)
    else number_send_of_member m from req body by_order

request_next : (m : Node) (from req : ℕ) (body : List ℕ) (by_order : Bool) (refusal : Option Outcome) → refusal ≡ request_refusal (row_of_name_in_list m from) req
    → answer_request m from req body by_order ≡ refusal_or_plan refusal m (next_send m from req body by_order)
unfolding next_send
request_next m from req body by_order refusal is =
    let r = row_of_name_in_list m from in
    let plan = next_send m from req body by_order in
    by_row (nat_lt 0 r.left) (nat_le req r.last) (nat_lt (r.last + 1) req) m r.last plan ∙ ap (λ (o : Option Outcome). refusal_or_plan o m plan) (sym is)

pub answer_request_that_is_refused : (m : Node) (from req : ℕ) (body : List ℕ) (by_order : Bool) (answer : Outcome) → Some answer ≡ request_refusal (row_of_name_in_list m from) req
    → answer_request m from req body by_order ≡ plan_without_letters m answer
answer_request_that_is_refused m from req body by_order answer is = request_next m from req body by_order (Some answer) is

pub answer_request_without_room : (m : Node) (from req : ℕ) (body : List ℕ) (by_order : Bool) → None ≡ request_refusal (row_of_name_in_list m from) req → has_room m ≡ false
    → answer_request m from req body by_order ≡ with_one_more_letter (plan_with_poll m (said.Held m.core.base (top m))) (set_of_one_name from) (λ n. hold_packet_of n req)
unfolding next_send
answer_request_without_room m from req body by_order is full = request_next m from req body by_order None is ∙ rw full refl

pub answer_request_is_numbered : (m : Node) (from req : ℕ) (body : List ℕ) (by_order : Bool) → None ≡ request_refusal (row_of_name_in_list m from) req → has_room m ≡ true
    → answer_request m from req body by_order ≡ number_send_of_member m from req body by_order
unfolding next_send
answer_request_is_numbered m from req body by_order is room = request_next m from req body by_order None is ∙ rw room refl

-- a send that is numbered, by its note
pub numbered_data_replies_note : (m mid : Node) (from req number : ℕ) (body : List ℕ) (by_order : Bool) → mid ≡ push_entry m (Data from req body) → number ≡ top m + 1
    → NumberIsInRange number → NumberIsInRange req
    → Replies (number_send_of_member m from req body by_order) (record (reply_with_telling (said.Numbered number) (tell.Note (other_members m) (data_note number from req body by_order)))
    { numbers = true }) mid
numbered_data_replies_note m mid from req number body by_order node is number_within req_within =
    let at = top m + 1 in
    let low : NumberIsInRange at = subst NumberIsInRange is number_within in
    let sends : Bool → Reply = λ b. record (reply_with_telling (said.Numbered at) (tell.Note (other_members m) (data_note at from req body b))) { numbers = true } in
    equal_reply_of_equal_plan refl (ap (λ k. record (reply_with_telling (said.Numbered k) (tell.Note (other_members m) (data_note k from req body by_order))) { numbers = true }) is)
    (reply_without_departure (number_send_of_member m from req body by_order) (sends by_order) mid refl (node_ends_as_itself (push_entry m (Data from req body)) mid node) refl (record {
      answer = refl;
      letters = letters by_order (refresh_at_end (push_entry m (Data from req body)));
      polls = refl;
      numbers = refl;
      may = record { there = tt; first = λ x. within by_order low; second = λ x. tt };
    }))
  where
    letters : (b : Bool) (n : Node) → (number_send_of_member m from req body b).letters n
        ≡ reply_letters (record (reply_with_telling (said.Numbered (top m + 1)) (tell.Note (other_members m) (data_note (top m + 1) from req body b))) { numbers = true }) mid n
    letters true n = refl
    letters false n = refl

    within : (b : Bool) → NumberIsInRange (top m + 1) → IsNoteWithin (data_note (top m + 1) from req body b)
    within true low = (low, req_within)
    within false low = (low, req_within)
