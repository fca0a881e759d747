-- How many letters a hearing sends, and a whole step.
use Rattle.am_model.proofs.EndWords.{[], ℕ, ◌+◌, ◌≤◌, Bool, List, length, Option, Some, None, arith, length-take, Stamp, Vote, Entry, Join, Leave, Outcome}
use Rattle.am_model.proofs.EndWords.{Packet, Letter, NodeEvent, Read, reading, OwnSend, Node, Ballot, other_members, set_of_one_name, push_entry, trim_node_up_to, refresh_at_end}
use Rattle.am_model.proofs.EndWords.{Plan, with_one_more_letter, with_letter_where, plan_without_letters, sends_accept, accept_packet_of, bcast_packet_of, piece_packet_of, entries_to_serve, letters_of_entries, letters_with_accept}
use Rattle.am_model.proofs.EndWords.{finish, request_row, ack_row, nack_row, spread_row, store_numbered_entry, bcast_row, order_row, accept_row, answer_hold, hold_row}
use Rattle.am_model.proofs.EndWords.{join_ask_row, welcome_row, leave_ask_row, gone_row, decide, invite_row, take_vote, vote_row, fetch_row, look_at_ballot_anew}
use Rattle.am_model.proofs.EndWords.{piece_for, piece_row, result_row, hear_row, row, step, row_of_read_bytes, send_row, done_row, take_row, join_by_status, join_row, state_by_status}
use Rattle.am_model.proofs.EndWords.{state_row, leave_row, reset_row, ask_row, give_up_row, tick_row, take_report, Ok, Err, number_join_and_welcome, node_with_joiner_reports, top}
use Rattle.am_model.proofs.EndWords.{nat_le, welcome_packet_of, gone_packet_of, row_of_name_in_list, leaver_may_go, answer_leave_ask}
use Rattle.am_base.specs.declared.outcome.Outcome.TheVariants as said
use Rattle.am_packet.specs.declared.packet.Packet.TheVariants as packet
use Rattle.am_base.specs.declared.event.NodeEvent.TheVariants as does
use Rattle.am_model.specs.declared.status.Status.TheVariants as status
use Rattle.am_base.proofs.Greatest.{split_on_bool}
use Rattle.am_model.specs.Joining.{outcome_of_letting_go}
use Rattle.am_model.proofs.Letters.{numbering_sends_at_most, with_letter_adds_one, put_all_adds_entries, SendsAtMost, and_telling_sends_one_more, and_where_sends_one_more, plan_letter_rules, emit_sends_at_most, give_out_sends_few, leave_by_sends_at_most, verdict_plan_sends_one_more, begin_sends_at_most}
use Rattle.am_model.proofs.Letters.{keep_vote_sends_at_most, ask_of_sends_at_most, give_up_of_sends_few, tick_by_sends_at_most}

few_saying : (most : ℕ) (m : Node) (o : Outcome) (f : Node → Outcome) → SendsAtMost most (record (plan_without_letters m o) { outcome = f })
few_saying most m o f = record { each = λ n. omega arith }

few_more : (p : Plan) (to : List ℕ) (f : Node → Packet) → SendsAtMost 1 p → SendsAtMost 8 (with_one_more_letter p to f)
few_more p to f h = and_telling_sends_one_more 8 1 p to f (omega arith) h

few_if_so : (test : Node → Bool) (p : Plan) (to : List ℕ) (f : Node → Packet) → SendsAtMost 1 p → SendsAtMost 8 (with_letter_where test p to f)
few_if_so test p to f h = and_where_sends_one_more 8 1 test p to f (omega arith) h

ruleset some = (plan_letter_rules, few_saying, few_more, few_if_so)

-- at most eight entries
few_served : (m : Node) (f : Node → ℕ → Entry → Packet) (to : List ℕ) (k : ℕ)
    → SendsAtMost 8 (record (plan_without_letters m (said.Served (length (entries_to_serve m k)))) { letters = λ n. letters_of_entries (f n) to (k + 1) (entries_to_serve m k) [] })
few_served m f to k = record {
  each = λ n. (let served : length (entries_to_serve m k) ≤ 8 = simp length-take (omega arith) in
      let l = put_all_adds_entries (f n) to (k + 1) (entries_to_serve m k) [] in omega arith);
}

few_store : (m : Node) (s number : ℕ) (e : Option Entry) (missing : Outcome) → SendsAtMost 8 (store_numbered_entry m s number e missing)
few_store m s number None missing = search plan_letter_rules
few_store m s number (Some e) missing = search some

few_held_up : (m : Node) (base high req : ℕ) (w : Option OwnSend) → SendsAtMost 8 (answer_hold m base high req w)
few_held_up m base high req None = search plan_letter_rules
few_held_up m base high req (Some s) = search plan_letter_rules

-- ---- joining and leaving

few_number_join : (m : Node) (s : ℕ) → SendsAtMost 8 (number_join_and_welcome m s)
few_number_join m s = few_if_so (λ n. nat_le (top m + 1) n.core.acc) _ (set_of_one_name s) (λ n. welcome_packet_of n s)
    (numbering_sends_at_most 1 (node_with_joiner_reports m s) (Join s) (said.Numbered (top m + 1)) (λ n. bcast_packet_of n (top m + 1) (Join s)) (omega arith))

few_asks_to_leave : (m : Node) (s : ℕ) → SendsAtMost 8 (answer_leave_ask m s)
few_asks_to_leave m s =
    let told : Node → Packet = λ n. gone_packet_of n (row_of_name_in_list n s).left in
    let h = few_if_so (λ n. leaver_may_go n s) _ (set_of_one_name s) told
    (numbering_sends_at_most 1 m (Leave s) (said.Numbered (top m + 1)) (λ n. bcast_packet_of n (top m + 1) (Leave s)) (omega arith)) in
    let k = few_if_so (λ n. leaver_may_go n s) _ (set_of_one_name s) told (few_saying 1 m said.Again (outcome_of_letting_go m s)) in
    search (plan_letter_rules, h, k)

-- ---- ballots

few_voted_for : (m : Node) (s : ℕ) (v : Stamp) (vote : Vote) (b : Option Ballot) → SendsAtMost 8 (take_vote m s v vote b)
few_voted_for m s v vote None = search plan_letter_rules
few_voted_for m s v vote (Some b) = search (plan_letter_rules, keep_vote_sends_at_most)

few_fetched_for : (b : Ballot) (m : Node) → SendsAtMost 8 (look_at_ballot_anew b m)
few_fetched_for b m = verdict_plan_sends_one_more 8 1 (decide m b) (λ n. []) (omega arith) (λ n. omega arith)

few_piece_for : (m : Node) (s : ℕ) (v : Stamp) (base number : ℕ) (e : Entry) (b : Option Ballot) → SendsAtMost 8 (piece_for m s v base number e b)
few_piece_for m s v base number e None = search some depth 12
few_piece_for m s v base number e (Some b) = let h = few_fetched_for b (push_entry (trim_node_up_to m base) e) in search (some, h) depth 12

-- ---- a step

few_hear : (m : Node) (p : Packet) → SendsAtMost 8 (hear_row m p)
unfolding hear_row request_row spread_row bcast_row order_row accept_row ack_row nack_row hold_row join_ask_row welcome_row leave_ask_row gone_row
    invite_row vote_row fetch_row piece_row result_row reset_row
few_hear m (packet.Nack s v report) = let h = few_served (take_report m s report) bcast_packet_of (set_of_one_name s) report.stored in search (plan_letter_rules, h)
few_hear m (packet.Fetch s v k) = let h = few_served m piece_packet_of (set_of_one_name s) k in search (plan_letter_rules, h)
few_hear m (packet.Piece s v base number e) = let h = few_piece_for m s v base number e m.ballot in search (plan_letter_rules, h)
few_hear m _ = search (some, few_store, few_held_up, few_number_join, few_asks_to_leave, few_voted_for, begin_sends_at_most) depth 12

few_read : (m : Node) (read : Read Packet) → SendsAtMost 8 (row_of_read_bytes m read)
few_read m (Ok p) = few_hear m p
few_read m (Err refusal) = search plan_letter_rules

few_row : (m : Node) (event : NodeEvent) → SendsAtMost 8 (row m event)
unfolding row send_row done_row take_row join_row state_row leave_row reset_row ask_row give_up_row tick_row
few_row m (does.Send body) = search (plan_letter_rules, emit_sends_at_most)
few_row m (does.Done req) = search plan_letter_rules
few_row m does.Take = search (plan_letter_rules, give_out_sends_few)
few_row m does.Join = elim m.status as (λ s. SendsAtMost 8 (join_by_status m s)) [ status.Stranger ↦ search plan_letter_rules | _ ↦ search plan_letter_rules ]
few_row m does.State = elim m.status as (λ s. SendsAtMost 8 (state_by_status m s)) [ status.Stranger ↦ search plan_letter_rules | _ ↦ search plan_letter_rules ]
few_row m does.Leave = leave_by_sends_at_most m m.status
few_row m (does.Reset least resilience) = search (plan_letter_rules, begin_sends_at_most)
few_row m (does.Ask round) = ask_of_sends_at_most m round m.ballot
few_row m (does.GiveUp name) = give_up_of_sends_few m name m.ballot
few_row m does.Tick = tick_by_sends_at_most m m.status
few_row m (does.Hear bytes) = few_read m (reading bytes)

-- the Accept is one more
with_accept_more : (m : Node) (p : Plan) (n : Node) (letters : List Letter) → length (letters_with_accept m p n letters) ≤ length letters + 1
with_accept_more m p n letters = split_on_bool (sends_accept m p n)
    (λ t. rw t (with_letter_adds_one (other_members n) (accept_packet_of n p.polls) letters))
    (λ f. rw f (omega arith))

pub step_sends_at_most_nine : (m : Node) (event : NodeEvent) → length (step m event).letters ≤ 9
unfolding step finish
step_sends_at_most_nine m event =
    let p = row m event in
    let n = refresh_at_end p.node in
    let h = (few_row m event).each n in
    let k = with_accept_more m p n (p.letters n) in omega arith
