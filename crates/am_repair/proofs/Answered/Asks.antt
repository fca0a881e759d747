-- Of a node's sends only the one that waits goes out: which sends the letters of each step ask for.
use Rattle.am_step_laws.proofs.Words.{[], ◌≡◌, ℕ, ◌+◌, ◌≤◌, not, min, nat_le, if◌then◌else◌, Bool, true, false, List, ◌∷◌, Option, Some, None}
use Rattle.am_step_laws.proofs.Words.{refl, All, All-nil, GroupView, Stamp, Row, Vote, Data, Join, Leave, View, Entry, Outcome}
use Rattle.am_step_laws.proofs.Words.{Status}
use Rattle.am_step_laws.proofs.Words.{row_at_place, Packet, Letter, OwnSend, Node, Ballot, NodeEvent, top, image_of_node, push_entry, trim_node_up_to, waiting_send_of, Plan, plan_without_letters}
use Rattle.am_step_laws.proofs.Words.{take_report, answer_request, request_row, ack_row, nack_row, spread_row, store_fitting_entry, store_numbered_entry, node_with_noted_fronts, receive_entry}
use Rattle.am_step_laws.proofs.Words.{bcast_row, data_entry_of, body_of_spread_send, order_row, accept_row, answer_hold, hold_row, node_with_joiner_reports, number_join_and_welcome, join_ask_row}
use Rattle.am_step_laws.proofs.Words.{node_of_welcomed}
use Rattle.am_step_laws.proofs.Words.{welcome_row, leave_ask_row, gone_row, node_with_promise, invite_row, take_vote, vote_row, fetch_row, push_fetched, catch_up}
use Rattle.am_step_laws.proofs.Words.{look_at_ballot_anew, piece_promised, piece_for, piece_row, row_of_promised_result, result_row, hear_row, hear_packet, step, row, hear_refused_bytes, refuse_bytes}
use Rattle.am_step_laws.proofs.Words.{finish, refresh_at_end, reset_row, answer_leave_ask, BallotVerdict, decide, begin_ballot, keep_vote_in_ballot, give_up_in_ballot, give_up_in_open_ballot, send_row, done_row}
use Rattle.am_step_laws.proofs.Words.{take_row, join_row, state_row, leave_row, ask_row, give_up_row, tick_row, give_out_entry, emit_waiting_send, node_with_queued_send, join_by_status}
use Rattle.am_step_laws.proofs.Words.{state_by_status}
use Rattle.am_step_laws.proofs.Words.{plan_of_leaving, leave_by_status, answer_ask_of_ballot, tick_of_coordinator, tick_of_follower, tick_outcome_of_waiting_send, with_result_told_again, tick_of_sequencer, tick_of_acting_member, tick_by_ballot}
use Rattle.am_step_laws.proofs.Words.{tick_by_status}
use Rattle.am_base.specs.declared.outcome.Outcome.TheVariants as said
use Rattle.am_base.specs.declared.event.NodeEvent.TheVariants as does
use Rattle.am_packet.specs.declared.packet.Packet.TheVariants as packet
use Rattle.am_packet.specs.Boxes.{with_letter}
use Rattle.am_model.specs.declared.status.Status.TheVariants as status
use Rattle.am_base.specs.Names.{without_name}
use Rattle.am_base.specs.Stamps.{stamps_are_equal}
use Rattle.std.proofs.Common.{length}
use Rattle.std.specs.Prelude.{is_some}
use Rattle.am_base.specs.Lists.{log_entry_at}
use Rattle.am_model.specs.Node.{set_of_one_name, other_members, view, node_with_report, lowest_name_or_zero, is_member}
use Rattle.am_model.specs.Calls.{first_lives_of_other_places}
use Rattle.am_model.specs.Ticks.{members_behind_view, members_of_view_entry}
use Rattle.am_step_laws.proofs.EffectWords.{not-false}
use Rattle.am_model.specs.Emit.{plan_with_poll, plan_with_letter, with_one_more_letter, with_letter_where, plan_numbering_entry, request_packet_of, spread_packet_of, bcast_packet_of, order_packet_of, accept_packet_of, letters_of_entries}
use Rattle.am_model.specs.Emit.{sends_accept}
use Rattle.am_model.specs.Emit.{piece_packet_of, entries_to_serve, hold_packet_of, welcome_packet_of, gone_packet_of, nack_packet_of, ack_packet_of, fetch_packet_of, invite_packet_of, result_packet_of, join_ask_packet_of}
use Rattle.am_model.specs.Emit.{leave_ask_packet_of}
use Rattle.am_model.specs.Emit.{hand_over_packet_of}
use Rattle.am_model.specs.Ballots.{plan_of_verdict, letters_with_result, letters_with_fetch, next_stamp, new_ballot, ballot_with_vote, newly_needed_names, ballot_without_voter, vote_packet_of}
use Rattle.am_model.specs.Joining.{answer_join_ask, with_gone_where_it_may_go, leaver_may_go, outcome_of_letting_go}
use Rattle.am_model.specs.Sequencing.{number_send_of_member, row_of_name_in_list, serve_entries_above, serve_again, outcome_where_accepted_rose}
use Rattle.am_model.specs.Receiving.{acknowledges, bodies_after_stored_entry, answer_accept}
use Rattle.am_model.specs.Resets.{serve_pieces}
use Rattle.am_step_laws.proofs.Items.{all_letters_with_one_more}
use Rattle.am_step_laws.proofs.Numbers.HearingCounts.{IsNoHearing}

-- a send that is asked for has at most this request
abbrev pub PacketAsksUpTo : ℕ → Packet → Type 0
PacketAsksUpTo most (packet.Request s v report req body) = req ≤ most
PacketAsksUpTo most (packet.Spread s v report req body) = req ≤ most
PacketAsksUpTo most _ = Unit {0}

abbrev pub AllLettersAskUpTo : ℕ → List Letter → Type 0
AllLettersAskUpTo most letters = All (λ (l : Letter). PacketAsksUpTo most l.packet) letters

none_asks : (most : ℕ) → AllLettersAskUpTo most []
none_asks most = All-nil (λ (l : Letter). PacketAsksUpTo most l.packet)

and_asks : (most : ℕ) (to : List ℕ) (p : Packet) (letters : List Letter) → PacketAsksUpTo most p → AllLettersAskUpTo most letters → AllLettersAskUpTo most (with_letter to p letters)
and_asks most to p letters a h = all_letters_with_one_more (λ (l : Letter). PacketAsksUpTo most l.packet) to p letters a h

-- ---- plans

record Tells (most : ℕ) (p : Plan) : Type 0 where
  each : (k : Node) → AllLettersAskUpTo most (p.letters k)

-- a letter that may be told
abbrev May : ℕ → (Node → Packet) → Type 0
May most packet = (k : Node) → PacketAsksUpTo most (packet k)

tells_if : (most : ℕ) (t : Bool) (p q : Plan) → (t ≡ true → Tells most p) → (t ≡ false → Tells most q) → Tells most (if t then p else q)
tells_if most true p q f g = f refl
tells_if most false p q f g = g refl

tells_quiet : (most : ℕ) (m : Node) (o : Outcome) → Tells most (plan_without_letters m o)
tells_quiet most m o = record { each = λ k. none_asks most }

tells_saying : (most : ℕ) (m : Node) (o : Outcome) (f : Node → Outcome) → Tells most (record (plan_without_letters m o) { outcome = f })
tells_saying most m o f = record { each = λ k. none_asks most }

tells_polling : (most : ℕ) (m : Node) (o : Outcome) → Tells most (plan_with_poll m o)
tells_polling most m o = record { each = λ k. none_asks most }

tells_one : (most : ℕ) (m : Node) (o : Outcome) (to : List ℕ) (packet : Node → Packet) → May most packet → Tells most (plan_with_letter m o to packet)
tells_one most m o to packet may = record { each = λ k. and_asks most to (packet k) [] (may k) (none_asks most) }

tells_more : (most : ℕ) (p : Plan) (to : List ℕ) (packet : Node → Packet) → May most packet → Tells most p → Tells most (with_one_more_letter p to packet)
tells_more most p to packet may h = record { each = λ k. and_asks most to (packet k) (p.letters k) (may k) (h.each k) }

tells_where : (most : ℕ) (test : Node → Bool) (p : Plan) (to : List ℕ) (packet : Node → Packet) → May most packet → Tells most p
    → Tells most (with_letter_where test p to packet)
tells_where most test p to packet may h = record { each = λ k. by (test k) k }
  where
    by : (b : Bool) (k : Node) → AllLettersAskUpTo most (if b then with_letter to (packet k) (p.letters k) else p.letters k)
    by true k = and_asks most to (packet k) (p.letters k) (may k) (h.each k)
    by false k = h.each k

tells_numbering : (most : ℕ) (m : Node) (e : Entry) (o : Outcome) (packet : Node → Packet) → May most packet → Tells most (plan_numbering_entry m e o packet)
tells_numbering most m e o packet may = record { each = λ k. and_asks most (other_members m) (packet k) [] (may k) (none_asks most) }

all_served : (most : ℕ) (packet : ℕ → Entry → Packet) (to : List ℕ) (number : ℕ) (es : List Entry) (letters : List Letter)
    → ((n : ℕ) (e : Entry) → PacketAsksUpTo most (packet n e)) → AllLettersAskUpTo most letters → AllLettersAskUpTo most (letters_of_entries packet to number es letters)
unfolding letters_of_entries
all_served most packet to number [] letters may h = h
all_served most packet to number (e ∷ es) letters may h =
    all_served most packet to (number + 1) es (with_letter to (packet number e) letters) may (and_asks most to (packet number e) letters (may number e) h)

by_result : (most : ℕ) (o : Outcome) (n : Node) (letters : List Letter) → AllLettersAskUpTo most letters → AllLettersAskUpTo most (letters_with_result o n letters)
by_result most (said.Decided number names) n letters h =
    and_asks most (without_name names n.core.who) (result_packet_of n number names (image_of_node n).resilience) letters tt h
by_result most _ n letters h = h

by_fetch : (most : ℕ) (o : Outcome) (n : Node) (letters : List Letter) → AllLettersAskUpTo most letters → AllLettersAskUpTo most (letters_with_fetch o n letters)
by_fetch most (said.Fetching from want) n letters h = and_asks most (set_of_one_name from) (fetch_packet_of n) letters tt h
by_fetch most _ n letters h = h

tells_verdict : (most : ℕ) (v : BallotVerdict) (letters : Node → List Letter) → ((k : Node) → AllLettersAskUpTo most (letters k)) → Tells most (plan_of_verdict v letters)
tells_verdict most v letters h = record { each = λ k. by_result most v.outcome k (letters k) (h k) }

ruleset tells = (tells_if, tells_quiet, tells_saying, tells_polling)

-- ---- the sequencer

tells_numbered : (most : ℕ) (m : Node) (s req : ℕ) (body : List ℕ) (by_order : Bool) → Tells most (number_send_of_member m s req body by_order)
tells_numbered most m s req body by_order = tells_numbering most m (Data s req body) (said.Numbered (top m + 1))
    (λ n. if by_order then order_packet_of n (top m + 1) s req else bcast_packet_of n (top m + 1) (Data s req body)) (may by_order)
  where
    may : (b : Bool) → May most (λ n. if b then order_packet_of n (top m + 1) s req else bcast_packet_of n (top m + 1) (Data s req body))
    may true k = tt
    may false k = tt

tells_requested : (most : ℕ) (m : Node) (s req : ℕ) (body : List ℕ) (by_order : Bool) → Tells most (answer_request m s req body by_order)
tells_requested most m s req body by_order =
    let numbered = tells_numbered most m s req body by_order in
    let polls = tells_polling most m (said.Held m.core.base (top m)) in
    let held = tells_more most (plan_with_poll m (said.Held m.core.base (top m))) (set_of_one_name s) (λ n. hold_packet_of n req) (λ k. tt) polls in
    search (tells_if, tells_quiet, numbered, held)

tells_served : (most : ℕ) (m : Node) (s stored : ℕ) → Tells most (serve_entries_above m s stored)
tells_served most m s stored =
    record { each = λ k. all_served most (bcast_packet_of k) (set_of_one_name s) (stored + 1) (entries_to_serve m stored) [] (λ n e. tt) (none_asks most) }

tells_served_again : (most : ℕ) (m : Node) (s stored : ℕ) → Tells most (serve_again m s stored)
tells_served_again most m s stored =
    let served = tells_served most m s stored in
    search (tells_if, tells_quiet, served)

tells_asks_to_join : (most : ℕ) (m : Node) (s : ℕ) (q : Row) → Tells most (answer_join_ask m s q)
tells_asks_to_join most m s q =
    let joins = tells_numbering most (node_with_joiner_reports m s) (Join s) (said.Numbered (top m + 1)) (λ n. bcast_packet_of n (top m + 1) (Join s)) (λ k. tt) in
    let numbered : Tells most (number_join_and_welcome m s) = tells_where most (λ n. nat_le (top m + 1) n.core.acc)
    (plan_numbering_entry (node_with_joiner_reports m s) (Join s) (said.Numbered (top m + 1)) (λ n. bcast_packet_of n (top m + 1) (Join s))) (set_of_one_name s) (λ n. welcome_packet_of n s) (λ k. tt) joins in
    let welcomed = tells_one most m (said.Welcomed q.joined) (set_of_one_name s) (λ n. welcome_packet_of n s) (λ k. tt) in
    search (tells_if, tells_quiet, tells_polling, numbered, welcomed) depth 9

tells_asks_to_leave : (most : ℕ) (m : Node) (s : ℕ) → Tells most (answer_leave_ask m s)
tells_asks_to_leave most m s =
    let leaves = plan_numbering_entry m (Leave s) (said.Numbered (top m + 1)) (λ n. bcast_packet_of n (top m + 1) (Leave s)) in
    let numbered = tells_numbering most m (Leave s) (said.Numbered (top m + 1)) (λ n. bcast_packet_of n (top m + 1) (Leave s)) (λ k. tt) in
    let gone : (p : Plan) → Tells most p → Tells most (with_gone_where_it_may_go p s) =
    λ p h. tells_where most (λ n. leaver_may_go n s) p (set_of_one_name s) (λ n. gone_packet_of n (row_of_name_in_list n s).left) (λ k. tt) h in
    let one = gone leaves numbered in
    let again = gone (record (plan_without_letters m said.Again) { outcome = outcome_of_letting_go m s }) (tells_saying most m said.Again (outcome_of_letting_go m s)) in
    search (tells_if, tells_polling, one, again)

-- ---- a member

tells_store : (most : ℕ) (m : Node) (s number : ℕ) (e : Option Entry) (missing : Outcome) → Tells most (store_numbered_entry m s number e missing)
tells_store most m s number None missing = tells_one most m missing (set_of_one_name s) nack_packet_of (λ k. tt)
tells_store most m s number (Some e) missing =
    let stored = plan_without_letters (record (push_entry m e) { bodies = bodies_after_stored_entry m.bodies e }) (said.Stored number) in
    let k : Tells most (store_fitting_entry m s number e) =
    tells_where most (acknowledges (push_entry m e) s) stored (set_of_one_name s) ack_packet_of (λ k. tt) (tells_quiet most _ (said.Stored number)) in
    search (tells_if, tells_quiet, k)

tells_received : (most : ℕ) (m : Node) (s base number : ℕ) (e : Option Entry) (missing : Outcome) → Tells most (receive_entry m s base number e missing)
tells_received most m s base number e missing =
    let k = tells_store most m s number e missing in
    let gap = tells_one most m (said.Gap (top m + 1)) (set_of_one_name s) nack_packet_of (λ k. tt) in
    search (tells_if, tells_quiet, k, gap)

tells_held_up : (most : ℕ) (m : Node) (base high req : ℕ) (w : Option OwnSend) → Tells most (answer_hold m base high req w)
tells_held_up most m base high req None = tells_quiet most m said.Known
tells_held_up most m base high req (Some s) = search (tells_if, tells_quiet)

tells_accept : (most : ℕ) (m old : Node) (s : ℕ) (poll : Bool) → Tells most (answer_accept m old s poll)
tells_accept most m old s poll =
    tells_where most (λ n. poll) (record (plan_without_letters m said.Known) { outcome = outcome_where_accepted_rose old said.Known (λ n. said.Advanced n.core.acc) }) (set_of_one_name s) ack_packet_of (λ k. tt)
    (tells_saying most m said.Known (outcome_where_accepted_rose old said.Known (λ n. said.Advanced n.core.acc)))

-- ---- ballots

tells_begin : (most : ℕ) (m : Node) (least resilience : ℕ) → Tells most (begin_ballot m least resilience)
unfolding begin_ballot
tells_begin most m least resilience = tells_verdict most (decide (node_with_promise m (next_stamp m)) (new_ballot (next_stamp m) least (min resilience 15)))
    (λ n. with_letter (other_members m) (invite_packet_of n) []) (λ k. and_asks most (other_members m) (invite_packet_of k) [] tt (none_asks most))

tells_kept : (most : ℕ) (m : Node) (b : Ballot) (name : ℕ) (vote : Vote) → Tells most (keep_vote_in_ballot m b name vote)
unfolding keep_vote_in_ballot
tells_kept most m b name vote =
    let new = ballot_with_vote b name vote in
    let v = decide m new in
    tells_verdict most v (λ n. letters_with_fetch v.outcome n (with_letter (newly_needed_names m b new) (invite_packet_of n) []))
    (λ k. by_fetch most v.outcome k _ (and_asks most (newly_needed_names m b new) (invite_packet_of k) [] tt (none_asks most)))

tells_given_up : (most : ℕ) (m : Node) (b : Ballot) (name : ℕ) → Tells most (give_up_in_ballot m b name)
unfolding give_up_in_ballot
tells_given_up most m b name =
    let v = decide m (ballot_without_voter b name) in
    tells_verdict most v (λ n. letters_with_fetch v.outcome n []) (λ k. by_fetch most v.outcome k [] (none_asks most))

tells_give_up_of : (most : ℕ) (m : Node) (name : ℕ) (b : Option Ballot) → Tells most (give_up_in_open_ballot m name b)
tells_give_up_of most m name None = tells_quiet most m said.NotCoordinator
tells_give_up_of most m name (Some b) =
    let k = tells_given_up most m b name in
    search (tells_if, tells_quiet, k)

tells_voted_for : (most : ℕ) (m : Node) (s : ℕ) (v : Stamp) (vote : Vote) (b : Option Ballot) → Tells most (take_vote m s v vote b)
tells_voted_for most m s v vote None = tells_quiet most m said.Elsewhere
tells_voted_for most m s v vote (Some b) =
    let k = tells_kept most m b s vote in
    search (tells_if, tells_quiet, k)

tells_fetched : (most : ℕ) (m : Node) (v : Stamp) (base number : ℕ) (e : Entry) (in_ballot : Bool) (then_ : Node → Plan)
    → Tells most (then_ (push_entry (trim_node_up_to m base) e)) → Tells most (push_fetched m v base number e in_ballot then_)
tells_fetched most m v base number e in_ballot then_ goes = search (tells_if, tells_quiet, goes) depth 8

tells_piece_promised : (most : ℕ) (m : Node) (s : ℕ) (v : Stamp) (base number : ℕ) (e : Entry) → Tells most (piece_promised m s v base number e)
tells_piece_promised most m s v base number e =
    let n = push_entry (trim_node_up_to m base) e in
    let k : Tells most (catch_up s v number n) =
    tells_where most (λ x. stamps_are_equal (view x) v) (plan_without_letters n (said.Stored number)) (set_of_one_name s) ack_packet_of (λ k. tt) (tells_quiet most n (said.Stored number)) in
    let l = tells_fetched most m v base number e false (catch_up s v number) k in
    search (tells_if, tells_quiet, l)

tells_piece_for : (most : ℕ) (m : Node) (s : ℕ) (v : Stamp) (base number : ℕ) (e : Entry) (b : Option Ballot) → Tells most (piece_for m s v base number e b)
tells_piece_for most m s v base number e None = tells_piece_promised most m s v base number e
tells_piece_for most m s v base number e (Some b) =
    let n = push_entry (trim_node_up_to m base) e in
    let k : Tells most (look_at_ballot_anew b n) = tells_verdict most (decide n b) (λ x. []) (λ x. none_asks most) in
    let l = tells_fetched most m v base number e true (look_at_ballot_anew b) k in
    let p = tells_piece_promised most m s v base number e in
    search (tells_if, tells_quiet, l, p)

tells_hears_result : (most : ℕ) (m : Node) (s base number : ℕ) (v : GroupView) → Tells most (row_of_promised_result m s base number v)
tells_hears_result most m s base number v =
    let known = tells_one most m said.Known (set_of_one_name s) ack_packet_of (λ k. tt) in
    let catching = tells_one most m (said.Catching (top m + 1)) (set_of_one_name s) fetch_packet_of (λ k. tt) in
    let stored = tells_one most (push_entry (trim_node_up_to m base) (View v)) (said.Stored number) (set_of_one_name s) ack_packet_of (λ k. tt) in
    search (tells_if, tells_quiet, known, catching, stored) depth 8

-- ---- what is heard

tells_hear : (most : ℕ) (m : Node) (p : Packet) → Tells most (hear_row m p)
unfolding hear_row request_row spread_row bcast_row order_row accept_row ack_row nack_row hold_row join_ask_row welcome_row leave_ask_row gone_row
    invite_row vote_row fetch_row piece_row result_row reset_row
tells_hear most m (packet.Request s v report req body) =
    let l = tells_requested most (take_report m s report) s req body false in
    search (tells_if, tells_quiet, l)
tells_hear most m (packet.Spread s v report req body) =
    let l = tells_requested most (take_report m s report) s req body true in
    search (tells_if, tells_quiet, l)
tells_hear most m (packet.Bcast s v base acc number e) =
    let l = tells_received most (node_with_noted_fronts m base acc) s base number (Some e) said.Known in
    search (tells_if, tells_quiet, l)
tells_hear most m (packet.Order s v base acc number from req) =
    let l = tells_received most (node_with_noted_fronts m base acc) s base number (data_entry_of from req (body_of_spread_send m from req)) (said.NoBody from req) in
    search (tells_if, tells_quiet, l)
tells_hear most m (packet.Accept s v base acc high poll) =
    let gap = tells_one most (node_with_noted_fronts m base acc) (said.Gap (top m + 1)) (set_of_one_name s) nack_packet_of (λ k. tt) in
    let l = tells_accept most (node_with_noted_fronts m base acc) m s poll in
    search (tells_if, tells_quiet, gap, l)
tells_hear most m (packet.Ack s v report) =
    let l = tells_saying most (node_with_report m s report) said.Noted (outcome_where_accepted_rose m said.Noted (λ n. said.Accepted n.core.acc)) in
    search (tells_if, tells_quiet, l)
tells_hear most m (packet.Nack s v report) =
    let l = tells_served_again most (take_report m s report) s report.stored in
    search (tells_if, tells_quiet, l)
tells_hear most m (packet.Hold s v base high req) = let l = tells_held_up most m base high req (waiting_send_of m) in search (tells_if, tells_quiet, l)
tells_hear most m (packet.JoinAsk s v) = let l = tells_asks_to_join most m s (row_at_place (image_of_node m) s) in search (tells_if, tells_quiet, l)
tells_hear most m (packet.Welcome s v base join image) =
    let n = node_of_welcomed m v base join image in
    let k = tells_one most n (said.Welcomed join) (set_of_one_name s) nack_packet_of (λ k. tt) in
    let l = tells_one most n (said.Welcomed join) (set_of_one_name s) fetch_packet_of (λ k. tt) in
    search (tells_if, tells_quiet, k, l) depth 9
tells_hear most m (packet.LeaveAsk s v report) =
    let n = tells_asks_to_leave most (take_report m s report) s in
    let l = tells_asks_to_leave most m s in
    search (tells_if, tells_quiet, n, l)
tells_hear most m (packet.Gone s v number) = search (tells_if, tells_quiet)
tells_hear most m (packet.Invite s v) =
    let n = tells_one most m (said.Newer m.core.promise) (set_of_one_name s) vote_packet_of (λ k. tt) in
    let l = tells_one most (node_with_promise m v) said.Voted (set_of_one_name s) vote_packet_of (λ k. tt) in
    search (tells_if, tells_quiet, n, l)
tells_hear most m (packet.Vote s v vote) =
    let l = tells_voted_for most m s v vote m.ballot in
    search (tells_if, tells_quiet, l)
tells_hear most m (packet.Fetch s v stored) =
    let l : Tells most (serve_pieces m s stored) =
    record { each = λ k. all_served most (piece_packet_of k) (set_of_one_name s) (stored + 1) (entries_to_serve m stored) [] (λ n e. tt) (none_asks most) } in
    search (tells_if, tells_quiet, l)
tells_hear most m (packet.Piece s v base number e) = let l = tells_piece_for most m s v base number e m.ballot in search (tells_if, tells_quiet, l)
tells_hear most m (packet.Result s base number v) =
    let l = tells_hears_result most (node_with_promise m v.stamp) s base number v in
    search (tells_if, tells_quiet, l)
tells_hear most m (packet.HandOver s v) = search (tells_if, tells_quiet, tells_begin)

-- ---- the calls and the tick

-- the waiting send has at most this request
abbrev pub SendWaitsUpTo : ℕ → Option OwnSend → Type 0
SendWaitsUpTo most w = (s : OwnSend) → w ≡ Some s → s.req ≤ most

tells_emit : (most : ℕ) (m : Node) (w : Option OwnSend) (o : Outcome) → SendWaitsUpTo most w → Tells most (emit_waiting_send m w o)
tells_emit most m None o low = tells_quiet most m o
tells_emit most m (Some s) o low =
    let may = low s refl in
    let request = tells_one most m o (set_of_one_name (view m).by) (λ n. request_packet_of n s.req s.body) (λ k. may) in
    let spread = tells_one most m o (other_members m) (λ n. spread_packet_of n s.req s.body) (λ k. may) in
    let numbered = tells_numbering most m (Data m.core.who s.req s.body) o (λ n. bcast_packet_of n (top m + 1) (Data m.core.who s.req s.body)) (λ k. tt) in
    search (tells_if, tells_quiet, request, spread, numbered)

tells_go : (most : ℕ) (p : Plan) → Tells most p → Tells most (plan_of_leaving p)
tells_go most p h =
    let asks = tells_more most p (other_members p.node) leave_ask_packet_of (λ k. tt) h in
    let hands = tells_more most p (set_of_one_name (lowest_name_or_zero (other_members p.node))) hand_over_packet_of (λ k. tt) h in
    let leaves : Tells most (record p { node = push_entry p.node (Leave p.node.core.who); outcome = λ n. said.Departed; numbers = true; departs = true }) =
    record { each = h.each } in
    let held : Tells most (record p { outcome = λ n. said.Held p.node.core.base (top p.node) }) = record { each = h.each } in
    search (tells_if, asks, hands, leaves, held)

tells_given : (most : ℕ) (m : Node) (e : Option Entry) → Tells most (give_out_entry m e)
tells_given most m None = tells_quiet most m said.Empty
tells_given most m (Some e) = tells_quiet most _ _

tells_join_by : (most : ℕ) (m : Node) (s : Status) → Tells most (join_by_status m s)
tells_join_by most m status.Stranger = tells_one most _ said.Asked (first_lives_of_other_places (record m { status = status.Asking })) join_ask_packet_of (λ k. tt)
tells_join_by most m status.Asking = tells_quiet most m _
tells_join_by most m status.Member = tells_quiet most m _
tells_join_by most m status.Departed = tells_quiet most m _

tells_state_by : (most : ℕ) (m : Node) (s : Status) → Tells most (state_by_status m s)
tells_state_by most m status.Member = search (tells_if, tells_quiet)
tells_state_by most m _ = search tells_quiet

tells_leave_by : (most : ℕ) (m : Node) (s : Status) → Tells most (leave_by_status m s)
tells_leave_by most m status.Member =
    let p = plan_without_letters (record m { leaving = true }) said.Asked in
    let k = tells_go most p (tells_quiet most (record m { leaving = true }) said.Asked) in
    search (tells_if, tells_quiet, k)
tells_leave_by most m _ = search tells_quiet

tells_ask_of : (most : ℕ) (m : Node) (round : ℕ) (b : Option Ballot) → Tells most (answer_ask_of_ballot m round b)
tells_ask_of most m round None = tells_quiet most m _
tells_ask_of most m round (Some b) = search (tells_if, tells_quiet)

tells_tick_ballot : (most : ℕ) (m : Node) (o : Outcome) → Tells most (tick_of_coordinator m o)
tells_tick_ballot most m (said.Waiting names) = tells_one most m said.Ticked names invite_packet_of (λ k. tt)
tells_tick_ballot most m (said.Fetching from want) = tells_one most m said.Ticked (set_of_one_name from) fetch_packet_of (λ k. tt)
tells_tick_ballot most m _ = tells_quiet most m said.Ticked

tells_tick_member : (most : ℕ) (m : Node) → SendWaitsUpTo most (waiting_send_of m) → Tells most (tick_of_follower m)
tells_tick_member most m low =
    let k = tells_go most (plan_without_letters m said.Ticked) (tells_quiet most m said.Ticked) in
    let l = tells_emit most m (waiting_send_of m) said.Ticked low in
    let n = tells_one most m said.Ticked (set_of_one_name (view m).by) ack_packet_of (λ x. tt) in
    search (tells_if, k, l, n)

tells_tick_sequencer : (most : ℕ) (m : Node) → SendWaitsUpTo most (waiting_send_of m) → Tells most (tick_of_sequencer m)
tells_tick_sequencer most m low =
    let h = tells_emit most m (waiting_send_of m) (tick_outcome_of_waiting_send m (waiting_send_of m)) low in
    let p = with_result_told_again (record (emit_waiting_send m (waiting_send_of m) (tick_outcome_of_waiting_send m (waiting_send_of m))) { polls = true }) in
    let k : Tells most p = record {
      each = λ n. and_asks most (members_behind_view n)
          (result_packet_of n (image_of_node n).view_number (members_of_view_entry (log_entry_at n.core.log (image_of_node n).view_number)) (image_of_node n).resilience) _ tt (h.each n);
    } in
    let l = tells_go most p k in
    tells_if most m.leaving (plan_of_leaving p) p (λ t. l) (λ f. k)

tells_tick_acting : (most : ℕ) (m : Node) → SendWaitsUpTo most (waiting_send_of m) → Tells most (tick_of_acting_member m)
tells_tick_acting most m low =
    let k = tells_tick_sequencer most m low in
    let l = tells_tick_member most m low in
    let n = tells_one most m said.Ticked (set_of_one_name m.core.promise.by) fetch_packet_of (λ x. tt) in
    search (tells_if, tells_quiet, k, l, n)

tells_tick_with : (most : ℕ) (m : Node) (b : Option Ballot) → SendWaitsUpTo most (waiting_send_of m) → Tells most (tick_by_ballot m b)
tells_tick_with most m None low = tells_tick_acting most m low
tells_tick_with most m (Some b) low =
    let k = tells_tick_acting most m low in
    let l = tells_tick_ballot most m b.answer in
    search (tells_if, k, l)

tells_tick_by : (most : ℕ) (m : Node) (s : Status) → SendWaitsUpTo most (waiting_send_of m) → Tells most (tick_by_status m s)
tells_tick_by most m status.Asking low = tells_one most m said.Ticked (first_lives_of_other_places m) join_ask_packet_of (λ k. tt)
tells_tick_by most m status.Member low = tells_tick_with most m m.ballot low
tells_tick_by most m _ low = tells_quiet most m said.Idle

-- a Send that is queued where none waits goes out
pub record MayQueueSend (m : Node) : Type 0 where
  pub member : is_member m.status ≡ true
  pub stays : m.leaving ≡ false
  pub few : nat_le 4 (length m.sends.queue) ≡ false
  pub first : is_some (waiting_send_of m) ≡ false

tells_send : (most : ℕ) (m : Node) (body : List ℕ) → (MayQueueSend m → SendWaitsUpTo most (waiting_send_of (node_with_queued_send m body))) → Tells most (send_row m body)
unfolding send_row
tells_send most m body low =
    tells_if most (not (is_member m.status)) _ _ (λ t. tells_quiet most m said.NotMember)
    (λ member. tells_if most m.leaving _ _ (λ t. tells_quiet most m said.Leaving)
    (λ stays. tells_if most (nat_le 4 (length m.sends.queue)) _ _ (λ t. tells_quiet most m (said.Busy 4))
    (λ few. tells_if most (is_some (waiting_send_of m)) _ _ (λ t. tells_quiet most (node_with_queued_send m body) (said.Queued (m.sends.last + 1)))
    (λ first.
    let is : is_member m.status ≡ true = not-false (is_member m.status) member in
    tells_emit most (node_with_queued_send m body) (waiting_send_of (node_with_queued_send m body)) (said.Queued (m.sends.last + 1))
    (low (record { member = is; stays = stays; few = few; first = first }))))))

-- what an event's letters may ask for
abbrev pub EventAsksUpTo : ℕ → Node → NodeEvent → Type 0
EventAsksUpTo most m (does.Send body) = MayQueueSend m → SendWaitsUpTo most (waiting_send_of (node_with_queued_send m body))
EventAsksUpTo most m event = SendWaitsUpTo most (waiting_send_of m)

tells_row : (most : ℕ) (m : Node) (event : NodeEvent) → IsNoHearing event → EventAsksUpTo most m event → Tells most (row m event)
unfolding row done_row take_row join_row state_row leave_row reset_row ask_row give_up_row tick_row
tells_row most m (does.Send body) d low = tells_send most m body low
tells_row most m (does.Done req) d low = tells_quiet most _ _
tells_row most m does.Take d low =
    let k = tells_given most m (log_entry_at m.core.log (m.core.taken + 1)) in
    search (tells_if, tells_quiet, k)
tells_row most m does.Join d low = tells_join_by most m m.status
tells_row most m does.State d low = tells_state_by most m m.status
tells_row most m does.Leave d low = tells_leave_by most m m.status
tells_row most m (does.Reset least resilience) d low = search (tells_if, tells_quiet, tells_begin)
tells_row most m (does.Ask round) d low = tells_ask_of most m round m.ballot
tells_row most m (does.GiveUp name) d low = tells_give_up_of most m name m.ballot
tells_row most m does.Tick d low = tells_tick_by most m m.status low
tells_row most m (does.Hear bytes) d low = absurd d

-- ---- a step

asks_finish : (most : ℕ) (m : Node) (p : Plan) → Tells most p → AllLettersAskUpTo most (finish m p).letters
unfolding finish
asks_finish most m p h = by (sends_accept m p (refresh_at_end p.node))
  where
    by : (b : Bool) → AllLettersAskUpTo most (if b then with_letter (other_members (refresh_at_end p.node)) (accept_packet_of (refresh_at_end p.node) p.polls) (p.letters (refresh_at_end p.node))
        else p.letters (refresh_at_end p.node))
    by true = and_asks most (other_members (refresh_at_end p.node)) (accept_packet_of (refresh_at_end p.node) p.polls) (p.letters (refresh_at_end p.node)) tt
        (h.each (refresh_at_end p.node))
    by false = h.each (refresh_at_end p.node)

pub step_letters_ask_up_to : (most : ℕ) (m : Node) (event : NodeEvent) → IsNoHearing event → EventAsksUpTo most m event → AllLettersAskUpTo most (step m event).letters
unfolding step
step_letters_ask_up_to most m event d low = asks_finish most m (row m event) (tells_row most m event d low)

pub hearing_letters_ask_up_to : (most : ℕ) (m : Node) (p : Packet) → AllLettersAskUpTo most (hear_packet m p).letters
unfolding hear_packet
hearing_letters_ask_up_to most m p = asks_finish most m (hear_row m p) (tells_hear most m p)

pub refusal_letters_ask_up_to : (most : ℕ) (m : Node) (cause : ℕ) → AllLettersAskUpTo most (hear_refused_bytes m cause).letters
unfolding hear_refused_bytes
refusal_letters_ask_up_to most m cause = asks_finish most m (refuse_bytes m cause) (tells_quiet most m (said.Refused cause))
