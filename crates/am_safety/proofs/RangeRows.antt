-- What hearing makes of the numbers of a node that has some left: none passes its end.
use Rattle.am_step_laws.proofs.Words.{[], ◌≡◌, ℕ, ◌+◌, ◌≤◌, min, if◌then◌else◌, Bool, true, false, List, ◌∷◌, Option, Some, None, refl, sym, subst, arith}
use Rattle.am_step_laws.proofs.Words.{length-append, All-head, GroupView, Stamp, Row, Image, Vote, Data, Join, Leave, View, Entry, Outcome, top_of_log, Log}
use Rattle.am_step_laws.proofs.Words.{row_at_place, Packet, OwnSend, Node, Ballot, top, image_of_node, push_entry, trim_node_up_to, waiting_send_of, Plan}
use Rattle.am_step_laws.proofs.Words.{take_report, number_send_of_member, answer_request, request_row, ack_row, nack_row, spread_row, store_fitting_entry, store_numbered_entry}
use Rattle.am_step_laws.proofs.Words.{node_with_noted_fronts, receive_entry, bcast_row, data_entry_of, body_of_spread_send, order_row, accept_row, answer_hold, hold_row, node_with_joiner_reports}
use Rattle.am_step_laws.proofs.Words.{number_join_and_welcome, join_ask_row, node_of_welcomed, welcome_row, leave_ask_row, gone_row, node_with_promise, invite_row, take_vote, vote_row}
use Rattle.am_step_laws.proofs.Words.{fetch_row, push_fetched, catch_up, look_at_ballot_anew, piece_promised, piece_for, piece_row, row_of_promised_result, result_row, hear_row}
use Rattle.am_step_laws.proofs.Words.{hear_packet, finish, refresh, refresh_at_end, reset_row, Bounds, PacketIsWithinBounds, answer_leave_ask, BallotVerdict, decided_view, trim_to_least_taken_by, verdict_going_on, ended}
use Rattle.am_step_laws.proofs.Words.{decide_view, decide, restart_reports, next_stamp, new_ballot, begin_ballot, ballot_with_vote, keep_vote_in_ballot, refresh_rests_with_list, end_refresh_rests_with_list}
use Rattle.am_base.specs.declared.outcome.Outcome.TheVariants as said
use Rattle.am_packet.specs.declared.packet.Packet.TheVariants as packet
use Rattle.am_model.specs.Joining.{answer_join_ask}
use Rattle.am_model.specs.declared.status.Status.TheVariants.{Departed}
use Rattle.am_step_laws.proofs.Numbers.Counts.{CountsAreWithin}

-- ---- a node

-- so many entries more may come
abbrev pub NumbersHaveRoom : Bounds → ℕ → Node → Type 0
NumbersHaveRoom b more n = CountsAreWithin b (top n + more) n.core.promise.round n.sends.last

room_less : (b : Bounds) (more : ℕ) (n : Node) → NumbersHaveRoom b (more + 1) n → NumbersHaveRoom b more n
room_less b more n h = record { entries = omega arith; rounds = h.rounds; sends = h.sends }

room_pushed : (b : Bounds) (more : ℕ) (m : Node) (e : Entry) → NumbersHaveRoom b (more + 1) m → NumbersHaveRoom b more (push_entry m e)
room_pushed b more m e h = record { entries = simp length-append (omega arith); rounds = h.rounds; sends = h.sends }

room_promised : (b : Bounds) (more : ℕ) (m : Node) (v : Stamp) → v.round ≤ b.rounds → NumbersHaveRoom b more m → NumbersHaveRoom b more (node_with_promise m v)
room_promised b more m v low h = record { entries = h.entries; rounds = low; sends = h.sends }

-- what rests as it was
room_rests : (b : Bounds) (more : ℕ) (m n : Node) → n.core.log ≡ m.core.log → n.core.promise ≡ m.core.promise → n.sends.last ≡ m.sends.last → NumbersHaveRoom b more m
    → NumbersHaveRoom b more n
room_rests b more m n log promise last h = record {
  entries = subst (λ (l : Log). top_of_log l + more ≤ b.lists) (sym log) h.entries;
  rounds = subst (λ (v : Stamp). v.round ≤ b.rounds) (sym promise) h.rounds;
  sends = subst (λ x. x ≤ b.requests) (sym last) h.sends;
}

room_refresh : (b : Bounds) (more : ℕ) (m : Node) → NumbersHaveRoom b more m → NumbersHaveRoom b more (refresh m)
room_refresh b more m h = let r = refresh_rests_with_list m in room_rests b more m (refresh m) r.log r.rests.promise r.rests.asked h

-- ---- plans

record Ends (b : Bounds) (p : Plan) : Type 0 where
  node : NumbersHaveRoom b 0 p.node

ends_if : (b : Bounds) (t : Bool) (p q : Plan) → (t ≡ true → Ends b p) → (t ≡ false → Ends b q) → Ends b (if t then p else q)
ends_if b true p q f k = f refl
ends_if b false p q f k = k refl

ends_at : (b : Bounds) (p : Plan) → NumbersHaveRoom b 2 p.node → Ends b p
ends_at b p h = record { node = room_less b 0 p.node (room_less b 1 p.node h) }

ends_one : (b : Bounds) (p : Plan) → NumbersHaveRoom b 1 p.node → Ends b p
ends_one b p h = record { node = room_less b 0 p.node h }

ends_next : (b : Bounds) (p : Plan) → NumbersHaveRoom b 0 p.node → Ends b p
ends_next b p h = record { node = h }

ruleset ends = (ends_if, ends_at)

room_finish : (b : Bounds) (m : Node) (p : Plan) → Ends b p → NumbersHaveRoom b 0 (finish m p).node
unfolding finish
room_finish b m p h =
    let r = end_refresh_rests_with_list p.node in
    let k : NumbersHaveRoom b 0 (refresh_at_end p.node) = room_rests b 0 p.node (refresh_at_end p.node) r.log r.rests.promise r.rests.asked h.node in
    by p.departs k
  where
    by : (departs : Bool) → NumbersHaveRoom b 0 (refresh_at_end p.node)
        → NumbersHaveRoom b 0 (if departs then record (refresh_at_end p.node) { status = Departed } else refresh_at_end p.node)
    by true k = k
    by false k = k

-- ---- verdicts

record Comes (b : Bounds) (v : BallotVerdict) : Type 0 where
  node : NumbersHaveRoom b 0 v.node

comes_if : (b : Bounds) (t : Bool) (v w : BallotVerdict) → Comes b v → Comes b w → Comes b (if t then v else w)
comes_if b true v w f k = f
comes_if b false v w f k = k

comes_on : (b : Bounds) (m : Node) (ballot : Ballot) (o : Outcome) → NumbersHaveRoom b 1 m → Comes b (verdict_going_on m ballot o)
comes_on b m ballot o h = record { node = room_less b 0 m h }

comes_over : (b : Bounds) (m : Node) (ballot : Ballot) (o : Outcome) → NumbersHaveRoom b 1 m → Comes b (ended m ballot o)
comes_over b m ballot o h = record { node = room_less b 0 m h }

comes_view : (b : Bounds) (m : Node) (ballot : Ballot) (names : List ℕ) → NumbersHaveRoom b 1 m → Comes b (decide_view m ballot names)
comes_view b m ballot names h =
    let e = View (decided_view m ballot names) in
    let over : Comes b (ended m ballot (said.Crowded m.core.base (top m))) = comes_over b m ballot (said.Crowded m.core.base (top m)) h in
    let done : Comes b (ended (restart_reports (push_entry m e)) ballot (said.Decided (top m + 1) names)) = record { node = room_pushed b 0 m e h } in
    search (comes_if, over, done)

comes_trimmed : (b : Bounds) (m : Node) (ballot : Ballot) (names : List ℕ) → NumbersHaveRoom b 1 m → Comes b (decide_view (trim_to_least_taken_by m ballot names) ballot names)
comes_trimmed b m ballot names h = comes_view b (trim_to_least_taken_by m ballot names) ballot names h

comes_decide : (b : Bounds) (m : Node) (ballot : Ballot) → NumbersHaveRoom b 1 m → Comes b (decide m ballot)
unfolding decide
comes_decide b m ballot h = search (comes_if, comes_on, comes_over, comes_trimmed)

ends_begin : (b : Bounds) (m : Node) (least resilience : ℕ) → m.core.promise.round + 1 ≤ b.rounds → NumbersHaveRoom b 2 m → Ends b (begin_ballot m least resilience)
unfolding begin_ballot
ends_begin b m least resilience low h =
    let stamp = next_stamp m in
    let n = room_promised b 1 m stamp low (room_less b 1 m h) in
    ends_next b _ (comes_decide b (node_with_promise m stamp) (new_ballot stamp least (min resilience 15)) n).node

ends_keep_vote : (b : Bounds) (m : Node) (ballot : Ballot) (name : ℕ) (vote : Vote) → NumbersHaveRoom b 2 m → Ends b (keep_vote_in_ballot m ballot name vote)
unfolding keep_vote_in_ballot
ends_keep_vote b m ballot name vote h = ends_next b _ (comes_decide b m (ballot_with_vote ballot name vote) (room_less b 1 m h)).node

-- ---- the sequencer

ends_requested : (b : Bounds) (m : Node) (s req : ℕ) (body : List ℕ) (by_order : Bool) → NumbersHaveRoom b 2 m → Ends b (answer_request m s req body by_order)
ends_requested b m s req body by_order h =
    let k : Ends b (number_send_of_member m s req body by_order) = ends_one b _ (room_pushed b 1 m (Data s req body) h) in
    search (ends, k)

ends_asks_to_join : (b : Bounds) (m : Node) (s : ℕ) (q : Row) → NumbersHaveRoom b 2 m → Ends b (answer_join_ask m s q)
ends_asks_to_join b m s q h =
    let k : Ends b (number_join_and_welcome m s) = ends_one b _ (room_pushed b 1 (node_with_joiner_reports m s) (Join s) h) in
    search (ends, k) depth 9

ends_asks_to_leave : (b : Bounds) (m : Node) (s : ℕ) → NumbersHaveRoom b 2 m → Ends b (answer_leave_ask m s)
ends_asks_to_leave b m s h =
    let k : NumbersHaveRoom b 1 (push_entry m (Leave s)) = room_pushed b 1 m (Leave s) h in
    search (ends, ends_one, k)

-- ---- a member

ends_store : (b : Bounds) (m : Node) (s number : ℕ) (e : Option Entry) (missing : Outcome) → NumbersHaveRoom b 2 m → Ends b (store_numbered_entry m s number e missing)
ends_store b m s number None missing h = search ends
ends_store b m s number (Some e) missing h =
    let k : Ends b (store_fitting_entry m s number e) = ends_one b _ (room_pushed b 1 m e h) in
    search (ends, k)

ends_received : (b : Bounds) (m : Node) (s base number : ℕ) (e : Option Entry) (missing : Outcome) → NumbersHaveRoom b 2 m
    → Ends b (receive_entry m s base number e missing)
ends_received b m s base number e missing h =
    let k = ends_store b m s number e missing h in
    search (ends, k)

ends_held_up : (b : Bounds) (m : Node) (base high req : ℕ) (w : Option OwnSend) → NumbersHaveRoom b 2 m → Ends b (answer_hold m base high req w)
ends_held_up b m base high req None h = search ends
ends_held_up b m base high req (Some s) h = search ends

-- a list begins with nothing above its base
room_begun : (b : Bounds) (m : Node) (v : Stamp) (base join : ℕ) (image : Image) → v.round ≤ b.rounds → base ≤ b.lists → NumbersHaveRoom b 2 m
    → NumbersHaveRoom b 0 (node_of_welcomed m v base join image)
room_begun b m v base join image round low h = record { entries = omega arith; rounds = round; sends = h.sends }

-- ---- ballots

ends_voted_for : (b : Bounds) (m : Node) (s : ℕ) (v : Stamp) (vote : Vote) (ballot : Option Ballot) → NumbersHaveRoom b 2 m → Ends b (take_vote m s v vote ballot)
ends_voted_for b m s v vote None h = search ends
ends_voted_for b m s v vote (Some x) h =
    let l = ends_keep_vote b m x s vote h in
    search (ends, l)

ends_fetched : (b : Bounds) (m : Node) (v : Stamp) (base number : ℕ) (e : Entry) (in_ballot : Bool) (then_ : Node → Plan)
    → Ends b (then_ (push_entry (trim_node_up_to m base) e)) → NumbersHaveRoom b 2 m → Ends b (push_fetched m v base number e in_ballot then_)
ends_fetched b m v base number e in_ballot then_ goes h = search (ends, goes) depth 8

ends_piece_promised : (b : Bounds) (m : Node) (s : ℕ) (v : Stamp) (base number : ℕ) (e : Entry) → NumbersHaveRoom b 2 m → Ends b (piece_promised m s v base number e)
ends_piece_promised b m s v base number e h =
    let k : Ends b (catch_up s v number (push_entry (trim_node_up_to m base) e)) = ends_one b _ (room_pushed b 1 m e h) in
    let l = ends_fetched b m v base number e false (catch_up s v number) k h in
    search (ends, l)

ends_piece_for : (b : Bounds) (m : Node) (s : ℕ) (v : Stamp) (base number : ℕ) (e : Entry) (ballot : Option Ballot) → NumbersHaveRoom b 2 m
    → Ends b (piece_for m s v base number e ballot)
ends_piece_for b m s v base number e None h = ends_piece_promised b m s v base number e h
ends_piece_for b m s v base number e (Some x) h =
    let n : NumbersHaveRoom b 1 (push_entry (trim_node_up_to m base) e) = room_pushed b 1 m e h in
    let k : Ends b (look_at_ballot_anew x (push_entry (trim_node_up_to m base) e)) = ends_next b _ (comes_decide b (push_entry (trim_node_up_to m base) e) x n).node in
    let l = ends_fetched b m v base number e true (look_at_ballot_anew x) k h in
    let p = ends_piece_promised b m s v base number e h in
    search (ends, l, p)

ends_hears_result : (b : Bounds) (m : Node) (s base number : ℕ) (v : GroupView) → NumbersHaveRoom b 2 m → Ends b (row_of_promised_result m s base number v)
ends_hears_result b m s base number v h =
    let l : NumbersHaveRoom b 1 (push_entry (trim_node_up_to m base) (View v)) = room_pushed b 1 m (View v) h in
    search (ends, ends_one, l) depth 8

-- ---- what is heard

ends_hear : (b : Bounds) (g : ℕ) (m : Node) (p : Packet) → m.core.promise.round + 1 ≤ b.rounds → PacketIsWithinBounds b g p → NumbersHaveRoom b 2 m → Ends b (hear_row m p)
unfolding hear_row request_row spread_row bcast_row order_row accept_row ack_row nack_row hold_row join_ask_row welcome_row leave_ask_row gone_row
    invite_row vote_row fetch_row piece_row result_row reset_row
ends_hear b g m (packet.Request s v report req body) next u h =
    let l = ends_requested b (take_report m s report) s req body false (room_refresh b 2 _ h) in
    search (ends, l)
ends_hear b g m (packet.Spread s v report req body) next u h =
    let l = ends_requested b (take_report m s report) s req body true (room_refresh b 2 _ h) in
    search (ends, l)
ends_hear b g m (packet.Bcast s v base acc number e) next u h =
    let l = ends_received b (node_with_noted_fronts m base acc) s base number (Some e) said.Known h in
    search (ends, l)
ends_hear b g m (packet.Order s v base acc number from req) next u h =
    let l = ends_received b (node_with_noted_fronts m base acc) s base number (data_entry_of from req (body_of_spread_send m from req)) (said.NoBody from req) h in
    search (ends, l)
ends_hear b g m (packet.Nack s v report) next u h =
    let n : NumbersHaveRoom b 2 (take_report m s report) = room_refresh b 2 _ h in
    search (ends, n)
ends_hear b g m (packet.Hold s v base high req) next u h = let l = ends_held_up b m base high req (waiting_send_of m) h in search (ends, l)
ends_hear b g m (packet.JoinAsk s v) next u h = let l = ends_asks_to_join b m s (row_at_place (image_of_node m) s) h in search (ends, l)
ends_hear b g m (packet.Welcome s v base join image) next u h =
    let n = room_begun b m v base join image u.round (All-head (λ x. x ≤ b.lists) base (join ∷ []) u.numbers) h in
    search (ends, ends_next, n) depth 9
ends_hear b g m (packet.LeaveAsk s v report) next u h =
    let n = ends_asks_to_leave b (take_report m s report) s (room_refresh b 2 _ h) in
    let l = ends_asks_to_leave b m s h in
    search (ends, n, l)
ends_hear b g m (packet.Invite s v) next u h = let n = room_promised b 2 m v u.round h in search (ends, n)
ends_hear b g m (packet.Vote s v vote) next u h =
    let n = room_promised b 2 m v u.round h in
    let l = ends_voted_for b m s v vote m.ballot h in
    search (ends, n, l)
ends_hear b g m (packet.Piece s v base number e) next u h = let l = ends_piece_for b m s v base number e m.ballot h in search (ends, l)
ends_hear b g m (packet.Result s base number v) next u h =
    let n = room_promised b 2 m v.stamp u.round h in
    let l = ends_hears_result b (node_with_promise m v.stamp) s base number v n in
    search (ends, l)
ends_hear b g m (packet.HandOver s v) next u h = search (ends, ends_begin)
ends_hear b g m _ next u h = search ends

-- whatever the letter tells
pub numbers_have_room_after_hearing : (b : Bounds) (g : ℕ) (m : Node) (p : Packet) → m.core.promise.round + 1 ≤ b.rounds → PacketIsWithinBounds b g p → NumbersHaveRoom b 2 m → NumbersHaveRoom b 0 (hear_packet m p).node
unfolding hear_packet
numbers_have_room_after_hearing b g m p next u h = room_finish b m (hear_row m p) (ends_hear b g m p next u h)
