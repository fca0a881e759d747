-- What a node emits, by what its tests say.
use Rattle.am_node_calls.proofs.Words.{◌≡◌, ℕ, ◌+◌, ◌<◌, List, [], length, true, false, ◌&&◌, ◌==◌, nat_lt, nat_le, Option, Some, None, option_map, refl, sym}
use Rattle.am_node_calls.proofs.Words.{◌∙◌, ap, subst, arith, nat_tests, Data, Outcome, life_of_name, has, row_at_place, fits, IsKept, OwnSend, next_in_line_is_waiting, members_after_pushed_data}
use Rattle.am_node_calls.proofs.Words.{Node, top, image_of_node, view, other_members, set_of_one_name, own_row, acts_in_its_view, has_room, is_sequencer, waiting_send_of, push_entry, Plan, plan_without_letters, plan_with_letter, emit_waiting_send}
use Rattle.am_node_calls.proofs.Words.{hand_in_send, NodeKeeps, push_keeps_node_order, sequencer_status_has_log, noting, own_send, with_letter, refresh_at_end, untrimmed_node_ends_itself, bcast_packet_of}
use Rattle.am_node_calls.proofs.Words.{Reply, Replies, reply_with_telling, equal_reply_of_equal_plan, reply_without_departure}
use Rattle.am_base.specs.Limits.{NumberIsInRange}
use Rattle.am_node_defs.specs.Sends as own
use Rattle.am_model.specs.Emit.{request_packet_of, spread_packet_of}
use Rattle.am_node_parts.specs.Replies.{letters_before_end}
use Rattle.am_node_parts.specs.declared.reply.OwnLetter.TheVariants as own_letter
use Rattle.am_node_parts.specs.declared.reply.Telling.TheVariants as tell
use Rattle.am_node_parts.proofs.{LastMember.member_has_joined_row, Replying.own_letter_of_numbered_data}

-- ---- a member hands its send in

pub short_body_is_requested : (m : Node) (req : ℕ) (body : List ℕ) (answer : Outcome) (to : List ℕ) → nat_le (length body) m.core.rules.pb_up_to ≡ true
    → to ≡ set_of_one_name (view m).by → hand_in_send m (own_send req body) answer ≡ plan_with_letter m answer to (λ n. request_packet_of n req body)
short_body_is_requested m req body answer to test is = rw test (ap (λ set. plan_with_letter m answer set (λ n. request_packet_of n req body)) (sym is))

pub long_body_is_spread : (m : Node) (req : ℕ) (body : List ℕ) (answer : Outcome) (to : List ℕ) → nat_le (length body) m.core.rules.pb_up_to ≡ false → to ≡ other_members m
    → hand_in_send m (own_send req body) answer ≡ plan_with_letter m answer to (λ n. spread_packet_of n req body)
long_body_is_spread m req body answer to test is = rw test (ap (λ set. plan_with_letter m answer set (λ n. spread_packet_of n req body)) (sym is))

-- ---- the waiting send

abbrev req_or_none : Option (ℕ × List ℕ) → ℕ
req_or_none None = 0
req_or_none (Some send) = send.0

abbrev body_or_none : Option (ℕ × List ℕ) → List ℕ
body_or_none None = []
body_or_none (Some send) = send.1

pub record IsWaitingSend (w : Option OwnSend) (req : ℕ) (body : List ℕ) : Type 0 where
  pub send : OwnSend
  pub is : w ≡ Some send
  pub request : send.req ≡ req
  pub text : send.body ≡ body

pub waiting_send_is_request : (w : Option OwnSend) (req : ℕ) (body : List ℕ) → option_map {U = ℕ × List ℕ} (λ send. (send.req, send.body)) w ≡ Some (req, body)
    → IsWaitingSend w req body
waiting_send_is_request None req body is = absurd (cc)
waiting_send_is_request (Some send) req body is = record { send = send; is = refl; request = ap req_or_none is; text = ap body_or_none is }

pub no_request_without_waiting_send : (w : Option OwnSend) → option_map {U = ℕ × List ℕ} (λ send. (send.req, send.body)) w ≡ None → w ≡ None
no_request_without_waiting_send None is = refl
no_request_without_waiting_send (Some send) is = absurd (cc)

-- ---- what is emitted

pub emit_without_waiting_send : (m : Node) (answer : Outcome) → own.request_and_body_of_waiting_send m.sends ≡ None → emit_waiting_send m (waiting_send_of m) answer ≡ plan_without_letters m answer
emit_without_waiting_send m answer is = ap (λ w. emit_waiting_send m w answer) (no_request_without_waiting_send (waiting_send_of m) is)

emit_some : (m : Node) (answer : Outcome) (req : ℕ) (body : List ℕ) → own.request_and_body_of_waiting_send m.sends ≡ Some (req, body)
    → emit_waiting_send m (waiting_send_of m) answer ≡ emit_waiting_send m (Some (own_send req body)) answer
emit_some m answer req body is =
    let w = waiting_send_is_request (waiting_send_of m) req body is in
    ap (λ x. emit_waiting_send m x answer) w.is ∙ (λ k. emit_waiting_send m (Some (own_send (w.request k) (w.text k))) answer)

pub emit_of_numbered_send : (m : Node) (answer : Outcome) (req : ℕ) (body : List ℕ) → own.request_and_body_of_waiting_send m.sends ≡ Some (req, body)
    → (acts_in_its_view m && nat_lt (own_row m).last req) ≡ false → emit_waiting_send m (waiting_send_of m) answer ≡ plan_without_letters m answer
emit_of_numbered_send m answer req body is test = emit_some m answer req body is ∙ rw test refl

pub emit_of_member_hands_in : (m : Node) (answer : Outcome) (req : ℕ) (body : List ℕ) → own.request_and_body_of_waiting_send m.sends ≡ Some (req, body)
    → (acts_in_its_view m && nat_lt (own_row m).last req) ≡ true → is_sequencer m ≡ false → emit_waiting_send m (waiting_send_of m) answer ≡ hand_in_send m (own_send req body) answer
emit_of_member_hands_in m answer req body is test leads = emit_some m answer req body is ∙ rw (test, leads) refl

pub emit_without_room : (m : Node) (answer : Outcome) (req : ℕ) (body : List ℕ) → own.request_and_body_of_waiting_send m.sends ≡ Some (req, body)
    → (acts_in_its_view m && nat_lt (own_row m).last req) ≡ true → is_sequencer m ≡ true → has_room m ≡ false → emit_waiting_send m (waiting_send_of m) answer ≡ plan_without_letters m answer
emit_without_room m answer req body is test leads room = emit_some m answer req body is ∙ rw (test, leads, room) refl

-- the sequencer's send goes out with its number
abbrev pub plan_that_numbers_own_send : Node → Node → Outcome → ℕ → List ℕ → Plan
plan_that_numbers_own_send m mid answer req body = noting true mid answer (other_members m) (λ n. bcast_packet_of n (top m + 1) (Data m.core.who req body))

pub emit_of_sequencer_numbers : (m mid : Node) (answer : Outcome) (req : ℕ) (body : List ℕ) → own.request_and_body_of_waiting_send m.sends ≡ Some (req, body)
    → (acts_in_its_view m && nat_lt (own_row m).last req) ≡ true → is_sequencer m ≡ true → has_room m ≡ true → mid ≡ push_entry m (Data m.core.who req body)
    → emit_waiting_send m (waiting_send_of m) answer ≡ plan_that_numbers_own_send m mid answer req body
emit_of_sequencer_numbers m mid answer req body is test leads room node =
    emit_some m answer req body is ∙ rw (test, leads, room) (λ k. plan_that_numbers_own_send m (sym node k) answer req body)

-- what goes out of it
pub own_bcast_before_refresh : (m mid : Node) (req : ℕ) (body : List ℕ) → own.request_and_body_of_waiting_send m.sends ≡ Some (req, body) → mid ≡ push_entry m (Data m.core.who req body)
    → with_letter (other_members m) (bcast_packet_of (refresh_at_end mid) (top m + 1) (Data m.core.who req body)) []
    ≡ letters_before_end mid (tell.Own (other_members m) (own_letter.Bcast (top m + 1))) (refresh_at_end mid)
own_bcast_before_refresh m mid req body waits node =
    let n = refresh_at_end mid in
    let still : own.request_and_body_of_waiting_send mid.sends ≡ Some (req, body) = ap (λ (x : Node). own.request_and_body_of_waiting_send x.sends) node ∙ waits in
    let who : mid.core.who ≡ m.core.who = ap (λ (x : Node). x.core.who) node in
    sym (own_letter_of_numbered_data mid (other_members m) (top m + 1) (req, body) still ∙ ap (λ w. with_letter (other_members m) (bcast_packet_of n (top m + 1) (Data w req body)) []) who)

pub numbering_plan_replies_bcast : (m mid : Node) (answer : Outcome) (req number : ℕ) (body to : List ℕ) → own.request_and_body_of_waiting_send m.sends ≡ Some (req, body)
    → mid ≡ push_entry m (Data m.core.who req body) → number ≡ top m + 1 → NumberIsInRange number → to ≡ other_members m
    → Replies (plan_that_numbers_own_send m mid answer req body) (record (reply_with_telling answer (tell.Own to (own_letter.Bcast number))) { numbers = true }) mid
numbering_plan_replies_bcast m mid answer req number body to waits node is within set =
    let at : Reply = record (reply_with_telling answer (tell.Own (other_members m) (own_letter.Bcast (top m + 1)))) { numbers = true } in
    equal_reply_of_equal_plan refl (λ k. record (reply_with_telling answer (tell.Own (set k) (own_letter.Bcast (is k)))) { numbers = true })
    (reply_without_departure (plan_that_numbers_own_send m mid answer req body) at mid refl (untrimmed_node_ends_itself mid) refl (record {
      answer = refl;
      letters = own_bcast_before_refresh m mid req body waits node;
      polls = refl;
      numbers = refl;
      may = record { there = subst NumberIsInRange is within; first = λ x. tt; second = λ x. tt };
    }))

-- ---- the sequencer's own send may be numbered

pub own_data_fits_image : (m : Node) (req : ℕ) (body : List ℕ) → NodeKeeps m → is_sequencer m ≡ true → own.request_and_body_of_waiting_send m.sends ≡ Some (req, body)
    → (own_row m).last < req → fits (image_of_node m) (Data m.core.who req body) ≡ true
unfolding fits
own_data_fits_image m req body keeps leads waits new =
    let member = keeps.leads leads in
    let row = member_has_joined_row (image_of_node m) m.core.who member in
    let same : ((row_at_place (image_of_node m) m.core.who).life == life_of_name m.core.who) ≡ true = let e = row.same in grind (arith, nat_tests) in
    let last : (own_row m).last ≡ (row_at_place (image_of_node m) m.core.who).last = rw same refl in
    let w = waiting_send_is_request (waiting_send_of m) req body waits in
    let first = next_in_line_is_waiting m.sends.last m.sends.queue w.send w.is ∙ w.request in
    let due = keeps.due in
    let most = due.own row.joined row.same in
    let next : (req == (own_row m).last + 1) ≡ true = grind (arith, nat_tests) in
    rw (member, next) refl

pub node_keeps_by_own_data : (m : Node) (capacity req : ℕ) (body : List ℕ) → NodeKeeps m → IsKept m.core.log capacity → is_sequencer m ≡ true
    → fits (image_of_node m) (Data m.core.who req body) ≡ true → NodeKeeps (push_entry m (Data m.core.who req body))
node_keeps_by_own_data m capacity req body keeps kept leads fit =
    push_keeps_node_order m (Data m.core.who req body) refl fit capacity kept (sequencer_status_has_log m leads)
    (λ is. ap (λ set. has set m.core.who) (members_after_pushed_data m.core.log m.core.who req body) ∙ keeps.leads is)
    keeps
