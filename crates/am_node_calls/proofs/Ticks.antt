-- The rows of the tick, by what their tests say.
use Rattle.am_node_calls.proofs.Words.{◌≡◌, ◌≢◌, ℕ, ◌+◌, ◌<◌, List, [], true, false, not, ◌&&◌, ◌==◌, nat_lt, if◌then◌else◌, Option, Some, None, refl, sym}
use Rattle.am_node_calls.proofs.Words.{option_map, is_some, ◌∙◌, ap, subst, arith, nat_tests, Data, Leave, Outcome, size, split_on_bool_of_log, OwnSend, Status}
use Rattle.am_node_calls.proofs.Words.{Node, Ballot, top, view, other_members, set_of_one_name, acts_in_its_view, own_row, has_room, is_sequencer, waiting_send_of, push_entry}
use Rattle.am_node_calls.proofs.Words.{Plan, plan_without_letters, plan_with_letter, finish, would_emit_send, emit_waiting_send, plan_of_leaving, tick_of_coordinator, tick_of_non_acting_member, tick_of_follower}
use Rattle.am_node_calls.proofs.Words.{tick_of_sequencer, tick_of_acting_member, tick_by_ballot, tick_by_status, tick_row, tick_outcome_of_waiting_send, untrimmed_node_ends_itself, Telling, Reply, Replies, Ends, reply_with_telling}
use Rattle.am_node_calls.proofs.Words.{reply_quiet_with_outcome, reply_tells_one_note, equal_reply_of_equal_plan, reply_without_departure, step_is_alike_itself, refresh_at_end, and_poll, handing, hands_over, again_of, again_of_ballot, own_send}
use Rattle.am_base.specs.declared.outcome.Outcome.TheVariants as said
use Rattle.am_node_defs.specs.Sends as own
use Rattle.am_model.specs.Emit.{ack_packet_of, fetch_packet_of}
use Rattle.am_model.specs.declared.status.Status.TheVariants as status
use Rattle.am_node_parts.specs.Replies.{letters_with_told, letters_with_view, reply_polling_with_view, LastMayDepart}
use Rattle.am_base.specs.Limits.{NumberIsInRange}
use Rattle.am_node_parts.specs.declared.reply.OwnLetter.TheVariants as own_letter
use Rattle.am_node_parts.specs.declared.reply.Note.TheVariants as note
use Rattle.am_node_parts.specs.declared.reply.Telling.TheVariants as tell
use Rattle.am_node_calls.proofs.Emits.{waiting_send_is_request, no_request_without_waiting_send, emit_of_numbered_send, emit_without_room, emit_of_sequencer_numbers, plan_that_numbers_own_send, own_bcast_before_refresh}

-- ---- ballots

abbrev by_again : Node → Telling → Plan
by_again m t = record (plan_without_letters m said.Ticked) { letters = λ n. letters_with_told said.Ticked t n [] }

ballot_again : (m : Node) (answer : Outcome) → tick_of_coordinator m answer ≡ by_again m (again_of answer)
ballot_again m (said.Waiting names) = refl
ballot_again m (said.Fetching from want) = refl
ballot_again m _ = refl

abbrev pub tick_by_telling_of_ballot : Node → Option Telling → Plan
tick_by_telling_of_ballot m None = tick_of_acting_member m
tick_by_telling_of_ballot m (Some again) = by_again m again

pub tick_with_ballot_by_telling : (m : Node) (b : Option Ballot) → tick_by_ballot m b ≡ tick_by_telling_of_ballot m (again_of_ballot b)
tick_with_ballot_by_telling m None = refl
tick_with_ballot_by_telling m (Some b) = split_on_bool_of_log b.is_over
    (λ t. rw t refl)
    (λ f. rw f (ballot_again m b.answer))

-- it asks with a packet, or not at all
abbrev IsAgain : Telling → Type 0
IsAgain t = (m : Node) → Replies (by_again m t) (reply_with_telling said.Ticked t) m

asks_again : (answer : Outcome) → IsAgain (again_of answer)
asks_again (said.Waiting names) = λ m. reply_tells_one_note m m said.Ticked names note.Invite tt (untrimmed_node_ends_itself m)
asks_again (said.Fetching from want) = λ m. reply_tells_one_note m m said.Ticked (set_of_one_name from) note.Fetch tt (untrimmed_node_ends_itself m)
asks_again _ = λ m. reply_quiet_with_outcome m m said.Ticked (untrimmed_node_ends_itself m)

pub telling_of_ballot_is_again : (b : Option Ballot) (t : Telling) → again_of_ballot b ≡ Some t → IsAgain t
telling_of_ballot_is_again None t is = absurd (cc)
telling_of_ballot_is_again (Some b) t is = split_on_bool_of_log b.is_over
    (λ over. absurd (let e = rw over at is in cc))
    (λ open_. let e = rw open_ at is in let same : again_of b.answer ≡ t = cc in subst IsAgain same (asks_again b.answer))

pub telling_again_replies_ticked : (m : Node) (t : Telling) → IsAgain t → Replies (by_again m t) (reply_with_telling said.Ticked t) m
telling_again_replies_ticked m t again = again m

-- ---- members

pub tick_promised_to_itself : (m : Node) → (m.core.promise.by == m.core.who) ≡ true → tick_of_non_acting_member m ≡ plan_without_letters m said.Ticked
tick_promised_to_itself m test = rw test refl

pub tick_promised_to_other : (m : Node) → (m.core.promise.by == m.core.who) ≡ false
    → tick_of_non_acting_member m ≡ plan_with_letter m said.Ticked (set_of_one_name m.core.promise.by) fetch_packet_of
tick_promised_to_other m test = rw test refl

pub tick_member_that_leaves : (m : Node) → m.leaving ≡ true → tick_of_follower m ≡ plan_of_leaving (plan_without_letters m said.Ticked)
tick_member_that_leaves m is = rw is refl

pub tick_member_that_emits : (m : Node) → m.leaving ≡ false → would_emit_send m (waiting_send_of m) ≡ true → tick_of_follower m ≡ emit_waiting_send m (waiting_send_of m) said.Ticked
tick_member_that_emits m is test = λ k. if is k then plan_of_leaving (plan_without_letters m said.Ticked) else if test k then emit_waiting_send m (waiting_send_of m) said.Ticked else plan_with_letter m said.Ticked
    (set_of_one_name (view m).by) ack_packet_of

pub tick_member_that_reports : (m : Node) → m.leaving ≡ false → would_emit_send m (waiting_send_of m) ≡ false → tick_of_follower m ≡ plan_with_letter m said.Ticked (set_of_one_name (view m).by) ack_packet_of
tick_member_that_reports m is test = λ k. if is k then plan_of_leaving (plan_without_letters m said.Ticked) else if test k then emit_waiting_send m (waiting_send_of m) said.Ticked else plan_with_letter m said.Ticked
    (set_of_one_name (view m).by) ack_packet_of

-- ---- the sequencer

pub tick_sequencer_that_leaves : (m : Node) → m.leaving ≡ true → waiting_send_of m ≡ None → tick_of_sequencer m ≡ plan_of_leaving (and_poll (plan_without_letters m said.Ticked))
tick_sequencer_that_leaves m is none = λ k. if is k then plan_of_leaving (and_poll (emit_waiting_send m (none k) (tick_outcome_of_waiting_send m (none k)))) else and_poll (emit_waiting_send m (none k) (tick_outcome_of_waiting_send m (none k)))

leads_stays : (m : Node) → m.leaving ≡ false → tick_of_sequencer m ≡ and_poll (emit_waiting_send m (waiting_send_of m) (tick_outcome_of_waiting_send m (waiting_send_of m)))
leads_stays m is = ap (λ b. if b then plan_of_leaving (and_poll (emit_waiting_send m (waiting_send_of m) (tick_outcome_of_waiting_send m (waiting_send_of m)))) else and_poll (emit_waiting_send m (waiting_send_of m) (tick_outcome_of_waiting_send m (waiting_send_of m)))) is

pub tick_sequencer_without_send : (m : Node) → m.leaving ≡ false → own.request_and_body_of_waiting_send m.sends ≡ None → tick_of_sequencer m ≡ and_poll (plan_without_letters m said.Ticked)
tick_sequencer_without_send m is none = leads_stays m is ∙ ap (λ w. and_poll (emit_waiting_send m w (tick_outcome_of_waiting_send m w))) (no_request_without_waiting_send (waiting_send_of m) none)

none_waits : (w : Option OwnSend) → is_some w ≡ false → option_map {U = ℕ × List ℕ} (λ (send : OwnSend). (send.req, send.body)) w ≡ None
none_waits None h = refl
none_waits (Some send) h = absurd (cc)

pub tick_sequencer_without_waiting : (m : Node) → m.leaving ≡ false → is_some (waiting_send_of m) ≡ false → tick_of_sequencer m ≡ and_poll (plan_without_letters m said.Ticked)
tick_sequencer_without_waiting m is none = tick_sequencer_without_send m is (none_waits (waiting_send_of m) none)

put_off_some : (m : Node) (req : ℕ) (body : List ℕ) → own.request_and_body_of_waiting_send m.sends ≡ Some (req, body) → tick_outcome_of_waiting_send m (waiting_send_of m) ≡ tick_outcome_of_waiting_send m (Some (own_send req body))
put_off_some m req body is =
    let w = waiting_send_is_request (waiting_send_of m) req body is in
    ap (tick_outcome_of_waiting_send m) w.is ∙ (λ k. tick_outcome_of_waiting_send m (Some (own_send (w.request k) (w.text k))))

pub tick_sequencer_of_numbered_send : (m : Node) (req : ℕ) (body : List ℕ) → m.leaving ≡ false → own.request_and_body_of_waiting_send m.sends ≡ Some (req, body)
    → (acts_in_its_view m && nat_lt (own_row m).last req) ≡ false → tick_of_sequencer m ≡ and_poll (plan_without_letters m said.Ticked)
tick_sequencer_of_numbered_send m req body is waits test =
    let none : tick_outcome_of_waiting_send m (waiting_send_of m) ≡ said.Ticked = put_off_some m req body waits ∙ rw test refl in
    leads_stays m is ∙ ap (λ o. and_poll (emit_waiting_send m (waiting_send_of m) o)) none ∙ ap and_poll (emit_of_numbered_send m said.Ticked req body waits test)

pub tick_sequencer_without_room : (m : Node) (req : ℕ) (body : List ℕ) (answer : Outcome) → m.leaving ≡ false → own.request_and_body_of_waiting_send m.sends ≡ Some (req, body)
    → (acts_in_its_view m && nat_lt (own_row m).last req) ≡ true → is_sequencer m ≡ true → has_room m ≡ false
    → answer ≡ said.PutOff req m.core.base (top m) → tick_of_sequencer m ≡ and_poll (plan_without_letters m answer)
tick_sequencer_without_room m req body answer is waits test leads room says =
    let off : tick_outcome_of_waiting_send m (waiting_send_of m) ≡ answer = put_off_some m req body waits ∙ rw (test, room) (sym says) in
    leads_stays m is ∙ ap (λ o. and_poll (emit_waiting_send m (waiting_send_of m) o)) off ∙ ap and_poll (emit_without_room m answer req body waits test leads room)

pub tick_sequencer_that_numbers : (m mid : Node) (req : ℕ) (body : List ℕ) → m.leaving ≡ false → own.request_and_body_of_waiting_send m.sends ≡ Some (req, body)
    → (acts_in_its_view m && nat_lt (own_row m).last req) ≡ true → is_sequencer m ≡ true → has_room m ≡ true → mid ≡ push_entry m (Data m.core.who req body)
    → tick_of_sequencer m ≡ and_poll (plan_that_numbers_own_send m mid said.Ticked req body)
tick_sequencer_that_numbers m mid req body is waits test leads room node =
    let off : tick_outcome_of_waiting_send m (waiting_send_of m) ≡ said.Ticked = put_off_some m req body waits ∙ rw (test, room) refl in
    leads_stays m is ∙ ap (λ o. and_poll (emit_waiting_send m (waiting_send_of m) o)) off
    ∙ ap and_poll (emit_of_sequencer_numbers m mid said.Ticked req body waits test leads room node)

pub numbering_tick_replies_bcast : (m mid : Node) (req number : ℕ) (body to : List ℕ) → own.request_and_body_of_waiting_send m.sends ≡ Some (req, body)
    → mid ≡ push_entry m (Data m.core.who req body) → number ≡ top m + 1 → NumberIsInRange number → to ≡ other_members m
    → Replies (and_poll (plan_that_numbers_own_send m mid said.Ticked req body))
    (record (reply_with_telling said.Ticked (tell.Own to (own_letter.Bcast number))) { second = tell.View; polls = true; numbers = true }) mid
numbering_tick_replies_bcast m mid req number body to waits node is within set =
    let sends : List ℕ → ℕ → Reply = λ names k. record (reply_with_telling said.Ticked (tell.Own names (own_letter.Bcast k))) {
      second = tell.View;
      polls = true;
      numbers = true;
    } in
    equal_reply_of_equal_plan refl (λ k. sends (set k) (is k)) (reply_without_departure (and_poll (plan_that_numbers_own_send m mid said.Ticked req body)) (sends (other_members m) (top m + 1)) mid refl (untrimmed_node_ends_itself mid) refl
    (record {
      answer = refl;
      letters = ap (λ ls. letters_with_view ls (refresh_at_end mid)) (own_bcast_before_refresh m mid req body waits node);
      polls = refl;
      numbers = refl;
      may = record { there = subst NumberIsInRange is within; first = λ x. tt; second = λ x. tt };
    }))

pub polling_tick_replies : (m n : Node) (o : Outcome) → Ends m n → Replies (and_poll (plan_without_letters m o)) (reply_polling_with_view o) n
polling_tick_replies m n o e = reply_without_departure (and_poll (plan_without_letters m o)) _ n refl e refl (record {
  answer = refl;
  letters = refl;
  polls = refl;
  numbers = refl;
  may = record { there = tt; first = λ x. tt; second = λ x. tt };
})

-- ---- the sequencer goes on leaving

pub polling_sequencer_hands_over : (m : Node) → is_sequencer m ≡ true → 0 < size (other_members m)
    → plan_of_leaving (and_poll (plan_without_letters m said.Ticked)) ≡ handing (and_poll (plan_without_letters m said.Ticked)) (other_members m)
polling_sequencer_hands_over m leads some =
    let test : nat_lt 0 (size (other_members m)) ≡ true = grind (arith, nat_tests) in
    rw (leads, test) refl

pub handing_tick_replies : (m : Node) (names : List ℕ)
    → Replies (handing (and_poll (plan_without_letters m said.Ticked)) names) (record (reply_polling_with_view said.Ticked) { second = hands_over names }) m
handing_tick_replies m names = reply_without_departure (handing (and_poll (plan_without_letters m said.Ticked)) names) _ m refl (untrimmed_node_ends_itself m) refl (record {
  answer = refl;
  letters = refl;
  polls = refl;
  numbers = refl;
  may = record { there = tt; first = λ x. tt; second = λ x. tt };
})

pub polling_last_without_room : (m : Node) → is_sequencer m ≡ true → size (other_members m) ≡ 0 → has_room m ≡ false
    → plan_of_leaving (and_poll (plan_without_letters m said.Ticked)) ≡ and_poll (plan_without_letters m (said.Held m.core.base (top m)))
polling_last_without_room m leads none room =
    let test : nat_lt 0 (size (other_members m)) ≡ false = grind (arith, nat_tests) in
    rw (leads, test, room) refl

abbrev polling_last : Node → Plan
polling_last m = record (and_poll (plan_without_letters m said.Ticked)) {
  node = push_entry m (Leave m.core.who);
  outcome = λ n. said.Departed;
  numbers = true;
  departs = true;
}

pub polling_last_departs : (m : Node) → is_sequencer m ≡ true → size (other_members m) ≡ 0 → has_room m ≡ true → plan_of_leaving (and_poll (plan_without_letters m said.Ticked)) ≡ polling_last m
polling_last_departs m leads none room =
    let test : nat_lt 0 (size (other_members m)) ≡ false = grind (arith, nat_tests) in
    rw (leads, test, room) refl

-- it departs, and tells the last View to nobody
pub departing_tick_replies : (m : Node) → LastMayDepart m
    → Replies (polling_last m) (record (reply_with_telling said.Departed tell.Departs) { second = tell.View; polls = true; numbers = true }) m
departing_tick_replies m may = record {
  plan = polling_last m;
  same = λ x. step_is_alike_itself (finish x (polling_last m));
  says = record {
    node = record { node = refl; departs = refl; last = tt };
    tells = record {
      answer = refl;
      letters = refl;
      polls = refl;
      numbers = refl;
      may = record { there = may; first = λ x. tt; second = λ x. tt };
    };
  };
}

-- ---- the whole tick

pub tick_acting_of_promised : (m : Node) → acts_in_its_view m ≡ false → tick_of_acting_member m ≡ tick_of_non_acting_member m
tick_acting_of_promised m is = ap (λ b. if not b then tick_of_non_acting_member m else if is_sequencer m then tick_of_sequencer m else tick_of_follower m) is

pub tick_acting_as_sequencer : (m : Node) → acts_in_its_view m ≡ true → is_sequencer m ≡ true → tick_of_acting_member m ≡ tick_of_sequencer m
tick_acting_as_sequencer m is leads = λ k. if not (is k) then tick_of_non_acting_member m else if leads k then tick_of_sequencer m else tick_of_follower m

pub tick_acting_as_member : (m : Node) → acts_in_its_view m ≡ true → is_sequencer m ≡ false → tick_of_acting_member m ≡ tick_of_follower m
tick_acting_as_member m is leads = λ k. if not (is k) then tick_of_non_acting_member m else if leads k then tick_of_sequencer m else tick_of_follower m

pub tick_row_by_status : (m : Node) (s : Status) → m.status ≡ s → tick_row m ≡ tick_by_status m s
unfolding tick_row
tick_row_by_status m s is = ap (tick_by_status m) is

-- who neither asks nor is a member stays idle
pub tick_row_of_idle_node : (m : Node) → m.status ≢ status.Asking → m.status ≢ status.Member → tick_row m ≡ plan_without_letters m said.Idle
tick_row_of_idle_node m no_asking no_member = tick_row_by_status m m.status refl ∙ by_status m.status no_asking no_member
  where
    by_status : (s : Status) → s ≢ status.Asking → s ≢ status.Member → tick_by_status m s ≡ plan_without_letters m said.Idle
    by_status status.Stranger a b = refl
    by_status status.Asking a b = absurd (a refl)
    by_status status.Member a b = absurd (b refl)
    by_status status.Departed a b = refl
