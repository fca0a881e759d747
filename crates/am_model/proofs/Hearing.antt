-- What a member does with packets, and a whole step, on the kept end of a list as on all of it.
use Rattle.am_model.proofs.EndWords.{[], ◌≡◌, ℕ, ◌+◌, ◌≤◌, max, Bool, true, false, not, ◌&&◌, ◌||◌, ◌==◌, nat_lt, nat_le, List, length, take, Option, Some, None}
use Rattle.am_model.proofs.EndWords.{refl, sym, ap, subst, arith, Ok, Err, list_any, nat_tests, Vote, Stamp, Entry, View, Outcome, NodeEvent, without_name}
use Rattle.am_model.proofs.EndWords.{names_of, stamp_is_less, stamps_are_equal, Log, fits, row_of_name, members_of_image, log_with_entry, log_is_own_end, Packet, Read, reading, OwnSend, is_body_of_send}
use Rattle.am_model.proofs.EndWords.{keep_body, Node, Ballot, image_of_node, view, set_of_one_name, is_member, has_own_leave, number_is_within_bound, waiting_send_of, push_entry}
use Rattle.am_model.proofs.EndWords.{trim_node_up_to, Plan, ack_packet_of, nack_packet_of, fetch_packet_of, piece_packet_of, letters_of_entries, outcome_where_accepted_rose, spread_row, body_of_spread_send, bodies_after_stored_entry, is_view}
use Rattle.am_model.proofs.EndWords.{node_with_noted_fronts, acknowledges, store_fitting_entry, store_numbered_entry, receive_entry, bcast_row, data_entry_of, order_row, accept_row, answer_hold}
use Rattle.am_model.proofs.EndWords.{hold_row, node_with_promise, vote_packet_of, invite_row, take_vote, vote_row, serve_pieces, fetch_row, is_unfetchable_view, push_fetched}
use Rattle.am_model.proofs.EndWords.{catch_up, look_at_ballot_anew, fetches_from, piece_promised, piece_for, piece_row, row_of_promised_result, result_row, reset_row}
use Rattle.am_model.proofs.EndWords.{member_hears_other, hears_packet_of_its_view, sequencer_hears_packet, hears_packet_of_sequencer, plan_where_heard, passes_gate, heard_row, hear_row, row_of_read_bytes, row}
use Rattle.am_model.proofs.EndWords.{step, node_with_log, StepsAlike, EndsStepAlike, StepsKeepFrontsOrdered, send_row, done_row, join_row, state_row, leave_row, ask_row}
use Rattle.am_model.proofs.EndWords.{tick_row}
use Rattle.am_base.specs.declared.outcome.Outcome.TheVariants as said
use Rattle.am_base.specs.declared.event.NodeEvent.TheVariants as does
use Rattle.am_packet.specs.declared.kind.PacketGate.TheVariants as gates
use Rattle.am_packet.specs.declared.packet.Packet.TheVariants as packet
use Rattle.am_node_defs.specs.Sends as own
use Rattle.am_base.specs.declared.entry.GroupView.{GroupView}
use Rattle.am_packet.specs.declared.kind.PacketGate.{PacketGate}
use Rattle.am_packet.specs.Kinds.{table, head_of}
use Rattle.am_packet.specs.Spelling.{sender_of, stamp_of}
use Rattle.am_model.proofs.Plans.{plan_alike_rules, PlansAreAlike, ack_says_the_same, nack_says_the_same, fetch_says_the_same, vote_says_the_same, same_test_branches_are_alike, both_branches_are_alike, quiet_is_alike, same_outcomes_are_alike, same_letters_are_alike}
use Rattle.am_model.proofs.Plans.{telling_is_alike, and_where_is_alike, finish_of_alike_plans, finish_of_plan_is_ordered}
use Rattle.am_model.proofs.Calls.{queue_is_alike, take_row_is_alike, join_by_is_alike, state_by_is_alike, leave_by_is_alike, ask_of_is_alike, tick_by_is_alike}
use Rattle.am_model.proofs.Sequencing.{served_entries_on_whole_log, request_is_alike, ack_is_alike, nack_is_alike, join_ask_is_alike, welcome_is_alike, leave_ask_is_alike, gone_row_is_alike}
use Rattle.am_model.proofs.Nodes.{KeepsEndOfLog, end_of_node_keeps_log, reading_on_whole_log, is_sequencer_on_whole_log, keeps_log_by_push, keeps_log_by_trim}
use Rattle.am_model.proofs.Ballots.{keeps_log_by_promise, keep_vote_is_alike, decide_anew_is_alike, reset_is_alike, give_up_row_is_alike}

-- ---- bodies and entries

alike_spread : (all : Log) (m : Node) (s req : ℕ) (body : List ℕ) → KeepsEndOfLog all m → PlansAreAlike (spread_row (node_with_log m all) s req body) (spread_row m s req body)
unfolding spread_row
alike_spread all m s req body h =
    same_test_branches_are_alike _ _ _ _ _ _ (reading_on_whole_log all m (λ i t. nat_le req (row_of_name i s).last || list_any (is_body_of_send s req) m.bodies) h) (λ t. quiet_is_alike all m _ _ h refl)
    (λ f. quiet_is_alike all (record m { bodies = keep_body s req body m.bodies }) _ _ (record { kept = h.kept; order = h.order }) refl)

keeps_noted : (all : Log) (m : Node) (base acc : ℕ) → KeepsEndOfLog all m → KeepsEndOfLog all (node_with_noted_fronts m base acc)
keeps_noted all m base acc h = record {
  kept = h.kept;
  order = let o = h.order in record { base = omega arith; taken = o.taken; given = o.given; accepted = o.accepted };
}

same_leave : (all : Log) (m : Node) → KeepsEndOfLog all m → has_own_leave (node_with_log m all) ≡ has_own_leave m
same_leave all m h = reading_on_whole_log all m (λ i t. nat_lt 0 (row_of_name i m.core.who).left) h

alike_stored : (all : Log) (m : Node) (s number : ℕ) (e : Entry) → KeepsEndOfLog all m
    → PlansAreAlike (store_fitting_entry (node_with_log m all) s number e) (store_fitting_entry m s number e)
alike_stored all m s number e h =
    let k = keeps_log_by_push all m e h in
    and_where_is_alike (acknowledges (push_entry (node_with_log m all) e) s) (acknowledges (push_entry m e) s) _ _ (set_of_one_name s) (set_of_one_name s) ack_packet_of ack_packet_of
    (λ a n l. reading_on_whole_log (log_with_entry all e) (push_entry m e)
    (λ i t. list_any (λ name. name == n.core.who) (take i.resilience (names_of (without_name (members_of_image i) s)))) k)
    (quiet_is_alike (log_with_entry all e) (record (push_entry m e) { bodies = bodies_after_stored_entry m.bodies e }) (said.Stored number) (said.Stored number)
    (record { kept = k.kept; order = k.order }) refl)
    refl ack_says_the_same

alike_store : (all : Log) (m : Node) (s number : ℕ) (e : Option Entry) (missing : Outcome) → KeepsEndOfLog all m
    → PlansAreAlike (store_numbered_entry (node_with_log m all) s number e missing) (store_numbered_entry m s number e missing)
alike_store all m s number None missing h = telling_is_alike all m _ _ (set_of_one_name s) (set_of_one_name s) nack_packet_of nack_packet_of h refl refl nack_says_the_same
alike_store all m s number (Some e) missing h =
    same_test_branches_are_alike _ _ _ _ _ _ (reading_on_whole_log all m (λ i t. is_view e || (not (fits i e) || not (number_is_within_bound m m.core.base number))) h)
    (λ t. quiet_is_alike all m _ _ h refl)
    (λ f. alike_stored all m s number e h)

pub receive_entry_is_alike : (all : Log) (m : Node) (s base number : ℕ) (e : Option Entry) (missing : Outcome) → KeepsEndOfLog all m
    → PlansAreAlike (receive_entry (node_with_log m all) s base number e missing) (receive_entry m s base number e missing)
receive_entry_is_alike all m s base number e missing h =
    same_test_branches_are_alike _ _ _ _ _ _ (reading_on_whole_log all m (λ i t. nat_le number t) h) (λ t. quiet_is_alike all m _ _ h refl)
    (λ f. same_test_branches_are_alike _ _ _ _ _ _ (same_leave all m h) (λ t. quiet_is_alike all m _ _ h refl)
    (λ g. same_test_branches_are_alike _ _ _ _ _ _ (reading_on_whole_log all m (λ i t. nat_lt (t + 1) number) h)
    (λ t. telling_is_alike all m _ _ (set_of_one_name s) (set_of_one_name s) nack_packet_of nack_packet_of h (reading_on_whole_log all m (λ i t. said.Gap (t + 1)) h) refl nack_says_the_same)
    (λ k. both_branches_are_alike (nat_lt m.core.taken base) _ _ _ _ (λ t. quiet_is_alike all m _ _ h refl)
    (λ l. alike_store all m s number e missing h))))

alike_accept : (all : Log) (m : Node) (s base acc high : ℕ) (poll : Bool) → KeepsEndOfLog all m
    → PlansAreAlike (accept_row (node_with_log m all) s base acc high poll) (accept_row m s base acc high poll)
unfolding accept_row
alike_accept all m s base acc high poll h =
    let k = keeps_noted all m base acc h in
    same_test_branches_are_alike _ _ _ _ _ _ (reading_on_whole_log all m (λ i t. nat_lt t high && not (nat_lt 0 (row_of_name i m.core.who).left)) h)
    (λ t. telling_is_alike all (node_with_noted_fronts m base acc) _ _ (set_of_one_name s) (set_of_one_name s) nack_packet_of nack_packet_of k (reading_on_whole_log all m (λ i t. said.Gap (t + 1)) h) refl nack_says_the_same)
    (λ f. and_where_is_alike (λ n. poll) (λ n. poll) _ _ (set_of_one_name s) (set_of_one_name s) ack_packet_of ack_packet_of (λ a n l. refl)
    (same_outcomes_are_alike all (node_with_noted_fronts m base acc) said.Known said.Known (outcome_where_accepted_rose (node_with_log m all) said.Known (λ n. said.Advanced n.core.acc))
    (outcome_where_accepted_rose m said.Known (λ n. said.Advanced n.core.acc)) k (λ a n l. refl)) refl ack_says_the_same)

alike_held_up : (all : Log) (m : Node) (base high req : ℕ) (w : Option OwnSend) → KeepsEndOfLog all m
    → PlansAreAlike (answer_hold (node_with_log m all) base high req w) (answer_hold m base high req w)
alike_held_up all m base high req None h = quiet_is_alike all m _ _ h refl
alike_held_up all m base high req (Some s) h = both_branches_are_alike (s.req == req) _ _ _ _ (λ t. quiet_is_alike all m _ _ h refl) (λ f. quiet_is_alike all m _ _ h refl)

-- ---- votes

alike_invite : (all : Log) (m : Node) (s : ℕ) (v : Stamp) → KeepsEndOfLog all m → PlansAreAlike (invite_row (node_with_log m all) s v) (invite_row m s v)
unfolding invite_row
alike_invite all m s v h =
    both_branches_are_alike (stamp_is_less v m.core.promise) _ _ _ _ (λ t. telling_is_alike all m _ _ (set_of_one_name s) (set_of_one_name s) vote_packet_of vote_packet_of h refl refl vote_says_the_same)
    (λ f. telling_is_alike all (node_with_promise m v) _ _ (set_of_one_name s) (set_of_one_name s) vote_packet_of vote_packet_of (keeps_log_by_promise all m v h) refl refl vote_says_the_same)

alike_voted_for : (all : Log) (m : Node) (s : ℕ) (v : Stamp) (vote : Vote) (b : Option Ballot) → KeepsEndOfLog all m
    → PlansAreAlike (take_vote (node_with_log m all) s v vote b) (take_vote m s v vote b)
alike_voted_for all m s v vote None h = quiet_is_alike all m _ _ h refl
alike_voted_for all m s v vote (Some b) h = search (plan_alike_rules, keep_vote_is_alike)

alike_vote : (all : Log) (m : Node) (s : ℕ) (v : Stamp) (vote : Vote) → KeepsEndOfLog all m → PlansAreAlike (vote_row (node_with_log m all) s v vote) (vote_row m s v vote)
unfolding vote_row
alike_vote all m s v vote h =
    both_branches_are_alike (stamp_is_less m.core.promise v) _ _ _ _ (λ t. quiet_is_alike all (node_with_promise m v) _ _ (keeps_log_by_promise all m v h) refl)
    (λ f. alike_voted_for all m s v vote m.ballot h)

-- ---- fetching

alike_serve_pieces : (all : Log) (m : Node) (s stored : ℕ) → KeepsEndOfLog all m → m.core.base ≤ stored
    → PlansAreAlike (serve_pieces (node_with_log m all) s stored) (serve_pieces m s stored)
alike_serve_pieces all m s stored h low =
    let e = served_entries_on_whole_log all m stored h low in
    same_letters_are_alike all m _ _ _ _ h (ap (λ es. said.Served (length es)) e) (λ a n k. ap (λ es. letters_of_entries (piece_packet_of n) (set_of_one_name s) (stored + 1) es []) e)

alike_fetch : (all : Log) (m : Node) (s : ℕ) (v : Stamp) (stored : ℕ) → KeepsEndOfLog all m → PlansAreAlike (fetch_row (node_with_log m all) s v stored) (fetch_row m s v stored)
unfolding fetch_row
alike_fetch all m s v stored h =
    same_test_branches_are_alike _ _ _ _ _ _ (reading_on_whole_log all m (λ i t. not (stamps_are_equal v m.core.promise && ((v.by == s) || ((v.by == m.core.who) && stamps_are_equal i.view v)))) h)
    (λ t. quiet_is_alike all m _ _ h refl)
    (λ f. same_test_branches_are_alike _ _ _ _ _ _ (reading_on_whole_log all m (λ i t. nat_lt stored m.core.base || nat_lt t stored) h) (λ t. quiet_is_alike all m _ _ h refl)
    (λ g. alike_serve_pieces all m s stored h (grind (arith, nat_tests))))

alike_fetched : (all : Log) (m : Node) (v : Stamp) (base number : ℕ) (e : Entry) (in_ballot : Bool) (then_ : Node → Plan) → KeepsEndOfLog all m
    → PlansAreAlike (then_ (push_entry (trim_node_up_to (node_with_log m all) base) e)) (then_ (push_entry (trim_node_up_to m base) e))
    → PlansAreAlike (push_fetched (node_with_log m all) v base number e in_ballot then_) (push_fetched m v base number e in_ballot then_)
alike_fetched all m v base number e in_ballot then_ h next =
    same_test_branches_are_alike _ _ _ _ _ _ (reading_on_whole_log all m (λ i t. nat_le number t) h) (λ t. quiet_is_alike all m _ _ h refl)
    (λ f. same_test_branches_are_alike _ _ _ _ _ _ (same_leave all m h) (λ t. quiet_is_alike all m _ _ h refl)
    (λ g. same_test_branches_are_alike _ _ _ _ _ _ (reading_on_whole_log all m (λ i t. nat_lt (t + 1) number) h) (λ t. quiet_is_alike all m _ _ h (reading_on_whole_log all m (λ i t. said.Gap (t + 1)) h))
    (λ k. both_branches_are_alike (nat_lt m.core.taken base) _ _ _ _ (λ t. quiet_is_alike all m _ _ h refl)
    (λ l. same_test_branches_are_alike _ _ _ _ _ _ (reading_on_whole_log all m
    (λ i t. not (fits i e) || (is_unfetchable_view v in_ballot e || not (number_is_within_bound m (max m.core.base base) number))) h)
    (λ t. quiet_is_alike all m _ _ h refl)
    (λ x. next)))))

-- the node with a fetched entry
keeps_fetched : (all : Log) (m : Node) (base : ℕ) (e : Entry) → KeepsEndOfLog all m → KeepsEndOfLog (log_with_entry all e) (push_entry (trim_node_up_to m base) e)
keeps_fetched all m base e h = keeps_log_by_push all (trim_node_up_to m base) e (keeps_log_by_trim all m base h)

alike_caught_up : (all : Log) (m : Node) (s : ℕ) (v : Stamp) (number : ℕ) → KeepsEndOfLog all m
    → PlansAreAlike (catch_up s v number (node_with_log m all)) (catch_up s v number m)
alike_caught_up all m s v number h =
    and_where_is_alike (λ n. stamps_are_equal (view n) v) (λ n. stamps_are_equal (view n) v) _ _ (set_of_one_name s) (set_of_one_name s) ack_packet_of ack_packet_of
    (λ a n k. reading_on_whole_log a n (λ i t. stamps_are_equal i.view v) k)
    (quiet_is_alike all m (said.Stored number) (said.Stored number) h refl) refl ack_says_the_same

alike_piece_promised : (all : Log) (m : Node) (s : ℕ) (v : Stamp) (base number : ℕ) (e : Entry) → KeepsEndOfLog all m
    → PlansAreAlike (piece_promised (node_with_log m all) s v base number e) (piece_promised m s v base number e)
alike_piece_promised all m s v base number e h =
    both_branches_are_alike (not (v.by == s)) _ _ _ _ (λ t. quiet_is_alike all m _ _ h refl)
    (λ f. alike_fetched all m v base number e false (catch_up s v number) h
    (alike_caught_up (log_with_entry all e) (push_entry (trim_node_up_to m base) e) s v number (keeps_fetched all m base e h)))

alike_piece_for : (all : Log) (m : Node) (s : ℕ) (v : Stamp) (base number : ℕ) (e : Entry) (b : Option Ballot) → KeepsEndOfLog all m
    → PlansAreAlike (piece_for (node_with_log m all) s v base number e b) (piece_for m s v base number e b)
alike_piece_for all m s v base number e None h = alike_piece_promised all m s v base number e h
alike_piece_for all m s v base number e (Some b) h =
    both_branches_are_alike b.is_over _ _ _ _ (λ t. alike_piece_promised all m s v base number e h)
    (λ f. both_branches_are_alike (not (fetches_from b.answer s)) _ _ _ _ (λ t. quiet_is_alike all m _ _ h refl)
    (λ g. alike_fetched all m v base number e true (look_at_ballot_anew b) h
    (decide_anew_is_alike (log_with_entry all e) (push_entry (trim_node_up_to m base) e) b (keeps_fetched all m base e h))))

alike_piece : (all : Log) (m : Node) (s : ℕ) (v : Stamp) (base number : ℕ) (e : Entry) → KeepsEndOfLog all m
    → PlansAreAlike (piece_row (node_with_log m all) s v base number e) (piece_row m s v base number e)
unfolding piece_row
alike_piece all m s v base number e h =
    same_test_branches_are_alike _ _ _ _ _ _ (reading_on_whole_log all m (λ i t. not (stamps_are_equal v m.core.promise) || stamps_are_equal i.view v) h) (λ t. quiet_is_alike all m _ _ h refl)
    (λ f. alike_piece_for all m s v base number e m.ballot h)

-- ---- a decided view

alike_hears_result : (all : Log) (m : Node) (s : ℕ) (base number : ℕ) (v : GroupView) → KeepsEndOfLog all m
    → PlansAreAlike (row_of_promised_result (node_with_log m all) s base number v) (row_of_promised_result m s base number v)
alike_hears_result all m s base number v h =
    let e = View v in
    same_test_branches_are_alike _ _ _ _ _ _ (reading_on_whole_log all m (λ i t. stamps_are_equal i.view v.stamp) h)
    (λ t. telling_is_alike all m _ _ (set_of_one_name s) (set_of_one_name s) ack_packet_of ack_packet_of h refl refl ack_says_the_same)
    (λ f. same_test_branches_are_alike _ _ _ _ _ _ (reading_on_whole_log all m (λ i t. nat_le number t) h) (λ t. quiet_is_alike all m _ _ h refl)
    (λ g. same_test_branches_are_alike _ _ _ _ _ _ (same_leave all m h) (λ t. quiet_is_alike all m _ _ h refl)
    (λ k. same_test_branches_are_alike _ _ _ _ _ _ (reading_on_whole_log all m (λ i t. nat_lt (t + 1) number) h)
    (λ t. telling_is_alike all m _ _ (set_of_one_name s) (set_of_one_name s) fetch_packet_of fetch_packet_of h (reading_on_whole_log all m (λ i t. said.Catching (t + 1)) h) refl fetch_says_the_same)
    (λ l. both_branches_are_alike (nat_lt m.core.taken base) _ _ _ _ (λ t. quiet_is_alike all m _ _ h refl)
    (λ x. same_test_branches_are_alike _ _ _ _ _ _ (reading_on_whole_log all m (λ i t. not (fits i e) || not (number_is_within_bound m (max m.core.base base) number)) h)
    (λ t. quiet_is_alike all m _ _ h refl)
    (λ y. telling_is_alike (log_with_entry all e) (push_entry (trim_node_up_to m base) e) _ _ (set_of_one_name s) (set_of_one_name s) ack_packet_of ack_packet_of
    (keeps_fetched all m base e h) refl refl ack_says_the_same))))))

alike_result_row : (all : Log) (m : Node) (s : ℕ) (base number : ℕ) (v : GroupView) → KeepsEndOfLog all m
    → PlansAreAlike (result_row (node_with_log m all) s base number v) (result_row m s base number v)
unfolding result_row
alike_result_row all m s base number v h =
    both_branches_are_alike ((v.stamp.by == m.core.who) || stamp_is_less v.stamp m.core.promise) _ _ _ _ (λ t. quiet_is_alike all m _ _ h refl)
    (λ f. alike_hears_result all (node_with_promise m v.stamp) s base number v (keeps_log_by_promise all m v.stamp h))

-- a reset with the list's resilience
alike_reset_so : (all : Log) (m : Node) (least : ℕ) → KeepsEndOfLog all m
    → PlansAreAlike (reset_row (node_with_log m all) least (image_of_node (node_with_log m all)).resilience) (reset_row m least (image_of_node m).resilience)
alike_reset_so all m least h =
    subst (λ r. PlansAreAlike (reset_row (node_with_log m all) least r) (reset_row m least (image_of_node m).resilience)) (sym (reading_on_whole_log all m (λ i t. i.resilience) h))
    (reset_is_alike all m least (image_of_node m).resilience h)

-- ---- hearing

same_in_view : (all : Log) (m : Node) (s : ℕ) (v : Stamp) → KeepsEndOfLog all m → hears_packet_of_its_view (node_with_log m all) s v ≡ hears_packet_of_its_view m s v
same_in_view all m s v h = reading_on_whole_log all m (λ i t. member_hears_other m s && ((is_member m.status && stamps_are_equal m.core.promise i.view) && stamps_are_equal v i.view)) h

same_passes : (all : Log) (m : Node) (g : PacketGate) (s : ℕ) (v : Stamp) → KeepsEndOfLog all m → passes_gate g (node_with_log m all) s v ≡ passes_gate g m s v
same_passes all m gates.Leading s v h = ap (λ b. member_hears_other m s && b) (is_sequencer_on_whole_log all m h)
same_passes all m gates.InView s v h = same_in_view all m s v h
same_passes all m gates.AsSequencer s v h = λ i. same_in_view all m s v h i && is_sequencer_on_whole_log all m h i
same_passes all m gates.OfSequencer s v h = λ i. same_in_view all m s v h i && (v.by == s)
same_passes all m _ s v h = refl

alike_heard : (all : Log) (m : Node) (b c : Bool) (p q : Plan) → KeepsEndOfLog all m → b ≡ c → PlansAreAlike p q
    → PlansAreAlike (plan_where_heard b (node_with_log m all) p) (plan_where_heard c m q)
alike_heard all m b c p q h e a = same_test_branches_are_alike b c p q _ _ e (λ t. a) (λ f. quiet_is_alike all m _ _ h refl)

-- the rows that packets are heard by
ruleset rows = (
  request_is_alike,
  alike_accept,
  ack_is_alike,
  nack_is_alike,
  join_ask_is_alike,
  welcome_is_alike,
  leave_ask_is_alike,
  gone_row_is_alike,
  alike_invite,
  alike_vote,
  alike_fetch,
  alike_piece,
  alike_result_row,
  alike_reset_so,
)

alike_heard_row : (all : Log) (m : Node) (p : Packet) → KeepsEndOfLog all m → PlansAreAlike (heard_row (node_with_log m all) p) (heard_row m p)
unfolding bcast_row order_row hold_row
alike_heard_row all m (packet.Spread s v report req body) h = search (plan_alike_rules, is_sequencer_on_whole_log, request_is_alike, alike_spread)
alike_heard_row all m (packet.Bcast s v base acc number e) h =
    receive_entry_is_alike all (node_with_noted_fronts m base acc) s base number (Some e) said.Known (keeps_noted all m base acc h)
alike_heard_row all m (packet.Order s v base acc number from req) h =
    receive_entry_is_alike all (node_with_noted_fronts m base acc) s base number (data_entry_of from req (body_of_spread_send m from req)) (said.NoBody from req) (keeps_noted all m base acc h)
alike_heard_row all m (packet.Hold s v base high req) h = alike_held_up all m base high req (waiting_send_of m) h
alike_heard_row all m _ h = search (plan_alike_rules, rows)

alike_hear : (all : Log) (m : Node) (p : Packet) → KeepsEndOfLog all m → PlansAreAlike (hear_row (node_with_log m all) p) (hear_row m p)
unfolding hear_row
alike_hear all m p h =
    alike_heard all m _ _ _ _ h (same_passes all m (table (head_of p).kind).gate (sender_of p) (stamp_of p) h) (alike_heard_row all m p h)

alike_read : (all : Log) (m : Node) (r : Read Packet) → KeepsEndOfLog all m → PlansAreAlike (row_of_read_bytes (node_with_log m all) r) (row_of_read_bytes m r)
alike_read all m (Ok p) h = alike_hear all m p h
alike_read all m (Err refusal) h = quiet_is_alike all m _ _ h refl

-- ---- a step

alike_row : (all : Log) (m : Node) (event : NodeEvent) → KeepsEndOfLog all m → PlansAreAlike (row (node_with_log m all) event) (row m event)
unfolding row send_row done_row join_row state_row leave_row ask_row tick_row
alike_row all m (does.Send body) h = search (plan_alike_rules, queue_is_alike)
alike_row all m (does.Done req) h =
    quiet_is_alike all (record m { sends = own.collect req m.sends }) _ _ (record { kept = h.kept; order = h.order }) refl
alike_row all m does.Take h = take_row_is_alike all m h
alike_row all m does.Join h = join_by_is_alike all m m.status h
alike_row all m does.State h = state_by_is_alike all m m.status h
alike_row all m does.Leave h = leave_by_is_alike all m m.status h
alike_row all m (does.Reset least resilience) h = reset_is_alike all m least resilience h
alike_row all m (does.Ask round) h = ask_of_is_alike all m round m.ballot h
alike_row all m (does.GiveUp name) h = give_up_row_is_alike all m name h
alike_row all m does.Tick h = tick_by_is_alike all m m.status h
alike_row all m (does.Hear bytes) h = alike_read all m (reading bytes) h

step_alike : (all : Log) (m : Node) (event : NodeEvent) → KeepsEndOfLog all m → StepsAlike (step (node_with_log m all) event) (step m event)
unfolding step
step_alike all m event h = finish_of_alike_plans all m (row (node_with_log m all) event) (row m event) (alike_row all m event h)

pub ends_step_alike : EndsStepAlike
ends_step_alike all m event end order = subst (λ n. StepsAlike (step n event) (step m event)) end.same
    (step_alike all.core.log m event (end_of_node_keeps_log all m end order))

-- ---- the order of a node's numbers

pub steps_keep_order : StepsKeepFrontsOrdered
unfolding step
steps_keep_order m event order =
    let h : KeepsEndOfLog m.core.log m = record { kept = log_is_own_end m.core.log; order = order } in
    finish_of_plan_is_ordered m (row (node_with_log m m.core.log) event) (row m event) (alike_row m.core.log m event h)
