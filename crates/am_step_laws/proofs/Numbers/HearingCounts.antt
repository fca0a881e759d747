-- What hearing adds to the numbers that grow, and a whole step.
use Rattle.am_step_laws.proofs.Words.{◌+◌, [], ◌≡◌, inl, inr, ⊎_elim, ℕ, ◌≤◌, ◌==◌, ◌||◌, not, max, if◌then◌else◌, Bool, true, false, nat_le, List, ◌∷◌, Option, Some, None}
use Rattle.am_step_laws.proofs.Words.{refl, arith, All, nat_tests, All-head, All-tail, GroupView, Stamp, Report, Row, Image, Vote, Entry, Data, Join, Leave, View}
use Rattle.am_step_laws.proofs.Words.{Outcome, NodeEvent, row_at_place, fits, Packet, OwnSend, Node, Ballot, top, image_of_node, number_is_within_bound, push_entry, trim_node_up_to}
use Rattle.am_step_laws.proofs.Words.{node_with_report, waiting_send_of, Plan, take_report, number_send_of_member, answer_request, request_row, ack_row, nack_row, spread_row, is_view}
use Rattle.am_step_laws.proofs.Words.{store_fitting_entry, store_numbered_entry, node_with_noted_fronts, receive_entry, bcast_row, data_entry_of, body_of_spread_send, order_row, accept_row, answer_hold, hold_row}
use Rattle.am_step_laws.proofs.Words.{node_with_joiner_reports, number_join_and_welcome, join_ask_row, node_of_welcomed, welcome_row, leave_ask_row, gone_row, node_with_promise, invite_row}
use Rattle.am_step_laws.proofs.Words.{take_vote, vote_row, fetch_row, push_fetched, catch_up, look_at_ballot_anew, piece_promised, piece_for, piece_row, row_of_promised_result}
use Rattle.am_step_laws.proofs.Words.{result_row, hear_row, row, step, hear_packet, hear_refused_bytes, refuse_bytes, split_on_bool, or_false_first_is_false, Bounds, bounds_one_higher, PacketIsWithinBounds, answer_leave_ask, send_row}
use Rattle.am_step_laws.proofs.Words.{done_row, take_row, join_row, state_row, leave_row, reset_row, ask_row, give_up_row, tick_row, queue, give_out_entry, log_entry_at}
use Rattle.am_base.specs.declared.outcome.Outcome.TheVariants as said
use Rattle.am_base.specs.declared.event.NodeEvent.TheVariants as does
use Rattle.am_packet.specs.declared.packet.Packet.TheVariants as packet
use Rattle.am_model.specs.Joining.{answer_join_ask}
use Rattle.am_step_laws.proofs.Numbers.Counts.{FrontsAreKnownToGroup, VotesAreWithinAccepted, has_view_of_its_own, NumbersAreLow, AcceptedIsWithinGroup, plain_entry_keeps_numbers_low, pushed_entry_keeps_numbers_low, entry_below_top_is_low, trim_keeps_numbers_low, report_keeps_numbers_low, promise_keeps_numbers_low, refresh_keeps_numbers_low}
use Rattle.am_step_laws.proofs.Numbers.Counts.{PlanNumbersAreLow, either_plan_has_low_numbers, low_node_gives_low_plan, higher_node_gives_low_plan, ends, finish_keeps_numbers_low}
use Rattle.am_step_laws.proofs.Numbers.BallotCounts.{decide_keeps_numbers_low, begin_ballot_keeps_numbers_low, keep_vote_keeps_numbers_low, give_up_keeps_numbers_low}
use Rattle.am_step_laws.proofs.Numbers.CallCounts.{queue_keeps_numbers_low, collect_keeps_last_request_low, nothing_waits_after_collect, give_out_keeps_numbers_low, join_row_keeps_numbers_low, state_row_keeps_numbers_low, leave_row_keeps_numbers_low, ask_row_keeps_numbers_low}
use Rattle.am_step_laws.proofs.Numbers.CallCounts.{tick_row_keeps_numbers_low}

-- ---- the sequencer

low_reported : (most : Bounds) (g : ℕ) (m : Node) (s : ℕ) (report : Report) → report.taken ≤ g → NumbersAreLow most g m → NumbersAreLow most g (take_report m s report)
low_reported most g m s report taken h = refresh_keeps_numbers_low most g (node_with_report m s report) (report_keeps_numbers_low most g m s report taken h)

ends_requested : (most : Bounds) (g : ℕ) (m : Node) (s req : ℕ) (body : List ℕ) (by_order : Bool) → NumbersAreLow most g m
    → PlanNumbersAreLow most g (answer_request m s req body by_order)
ends_requested most g m s req body by_order h =
    let k : PlanNumbersAreLow most g (number_send_of_member m s req body by_order) = higher_node_gives_low_plan most g _ (plain_entry_keeps_numbers_low most g m (Data s req body) refl h) in
    search (ends, k)

-- ---- a member

-- the next entry is stored
ends_store : (most : Bounds) (g : ℕ) (m : Node) (s number : ℕ) (e : Option Entry) (missing : Outcome) → NumbersAreLow most g m → PlanNumbersAreLow most g (store_numbered_entry m s number e missing)
ends_store most g m s number None missing h = search ends
ends_store most g m s number (Some e) missing h =
    let k : (is_view e || (not (fits (image_of_node m) e) || not (number_is_within_bound m m.core.base number))) ≡ false → PlanNumbersAreLow most g (store_fitting_entry m s number e) =
    λ f. higher_node_gives_low_plan most g _ (plain_entry_keeps_numbers_low most g m e (or_false_first_is_false (is_view e) _ f) h) in
    search (ends, k)

ends_received : (most : Bounds) (g : ℕ) (m : Node) (s base number : ℕ) (e : Option Entry) (missing : Outcome) → NumbersAreLow most g m
    → PlanNumbersAreLow most g (receive_entry m s base number e missing)
ends_received most g m s base number e missing h =
    let k = ends_store most g m s number e missing h in
    search (ends, k)

-- what the sequencer has accepted the group has accepted
low_noted : (most : Bounds) (g : ℕ) (m : Node) (base acc : ℕ) → acc ≤ g → NumbersAreLow most g m → NumbersAreLow most g (node_with_noted_fronts m base acc)
low_noted most g m base acc low h =
    let to = if nat_le base m.core.taken then base else m.core.base in
    let taken = h.took in
    let trims = h.trims in
    let most_base : to ≤ g = split_on_bool (nat_le base m.core.taken) (λ t. let b : base ≤ m.core.taken = grind (arith, nat_tests) in
    rw t (omega arith)) (λ f. rw f trims) in
    let known : FrontsAreKnownToGroup g (max m.core.told acc) m.core.acc (has_view_of_its_own m) = ⊎_elim
    (λ (k : (m.core.told ≤ g) × (m.core.acc ≤ g)). let t = k.0 in inl (omega arith, k.1))
    (λ (k : (has_view_of_its_own m ≡ true) × (m.core.told ≤ max g m.core.acc)). let t = k.1 in inr (k.0, omega arith))
    h.known in
    let kept = h.kept in
    record {
      counts = h.counts;
      order = record { given = h.given; accepted = h.accepted; kept = omega arith };
      within = record { listed = h.listed; began = h.began; took = h.took; trims = omega arith };
      quits = h.quits;
      tells = record { reported = h.reported; votes = h.votes; known = known };
    }

ends_held_up : (most : Bounds) (g : ℕ) (m : Node) (base high req : ℕ) (w : Option OwnSend) → NumbersAreLow most g m → PlanNumbersAreLow most g (answer_hold m base high req w)
ends_held_up most g m base high req None h = search ends
ends_held_up most g m base high req (Some s) h = search ends

-- ---- joining and leaving

-- a joiner's reports begin at the base
low_admitted : (most : Bounds) (g : ℕ) (m : Node) (s : ℕ) → NumbersAreLow most g m → NumbersAreLow most g (node_with_joiner_reports m s)
low_admitted most g m s h = record {
  counts = h.counts;
  order = h.order;
  within = h.within;
  quits = h.quits;
  tells = record { reported = λ name. split_on_bool (name == s) (λ t. rw t h.trims) (λ f. rw f (h.reported name)); votes = h.votes; known = h.known };
}

ends_asks_to_join : (most : Bounds) (g : ℕ) (m : Node) (s : ℕ) (q : Row) → NumbersAreLow most g m → PlanNumbersAreLow most g (answer_join_ask m s q)
ends_asks_to_join most g m s q h =
    let k : PlanNumbersAreLow most g (number_join_and_welcome m s) = higher_node_gives_low_plan most g _ (plain_entry_keeps_numbers_low most g (node_with_joiner_reports m s) (Join s) refl (low_admitted most g m s h)) in
    search (ends, k) depth 9

-- the list begins with nothing above the base
low_begun : (most : Bounds) (g : ℕ) (m : Node) (v : Stamp) (base join : ℕ) (image : Image) → v.round ≤ most.rounds → base ≤ most.lists → base ≤ g → join ≤ g
    → NumbersAreLow most g m → NumbersAreLow most g (node_of_welcomed m v base join image)
low_begun most g m v base join image round low from start h =
    record {
      counts = record { entries = omega arith; rounds = round; sends = h.sends };
      order = record { given = omega arith; accepted = omega arith; kept = omega arith };
      within = record { listed = from; began = start; took = from; trims = from };
      quits = h.quits;
      tells = record { reported = h.reported; votes = h.votes; known = inl (from, from) };
    }

ends_asks_to_leave : (most : Bounds) (g : ℕ) (m : Node) (s : ℕ) → NumbersAreLow most g m → PlanNumbersAreLow most g (answer_leave_ask m s)
ends_asks_to_leave most g m s h =
    let k : NumbersAreLow (bounds_one_higher most) g (push_entry m (Leave s)) = plain_entry_keeps_numbers_low most g m (Leave s) refl h in
    search (ends, higher_node_gives_low_plan, k)

-- ---- ballots

ends_voted_for : (most : Bounds) (g : ℕ) (m : Node) (s : ℕ) (v : Stamp) (vote : Vote) (b : Option Ballot) → vote.taken ≤ g → VotesAreWithinAccepted g b → AcceptedIsWithinGroup g m
    → NumbersAreLow most g m → PlanNumbersAreLow most g (take_vote m s v vote b)
ends_voted_for most g m s v vote None low votes k h = search ends
ends_voted_for most g m s v vote (Some b) low votes k h =
    let l = keep_vote_keeps_numbers_low most g m b s vote low votes k h in
    search (ends, l)

-- the next fetched entry is pushed: it has a number that was there before
ends_fetched : (most : Bounds) (g : ℕ) (m : Node) (v : Stamp) (base number : ℕ) (e : Entry) (in_ballot : Bool) (then_ : Node → Plan) → number ≤ most.lists
    → base ≤ g → (NumbersAreLow most g (push_entry (trim_node_up_to m base) e) → PlanNumbersAreLow most g (then_ (push_entry (trim_node_up_to m base) e))) → AcceptedIsWithinGroup g m → NumbersAreLow most g m
    → PlanNumbersAreLow most g (push_fetched m v base number e in_ballot then_)
ends_fetched most g m v base number e in_ballot then_ low from goes k h =
    let l : nat_le number (top m) ≡ false → PlanNumbersAreLow most g (then_ (push_entry (trim_node_up_to m base) e)) =
    λ f. goes (entry_below_top_is_low most g (trim_node_up_to m base) number e f low (record { told = k.told; acc = k.acc }) (trim_keeps_numbers_low most g m base from h)) in
    search (either_plan_has_low_numbers, low_node_gives_low_plan, h, l) depth 8

ends_piece_promised : (most : Bounds) (g : ℕ) (m : Node) (s : ℕ) (v : Stamp) (base number : ℕ) (e : Entry) → number ≤ most.lists → base ≤ g → AcceptedIsWithinGroup g m
    → NumbersAreLow most g m → PlanNumbersAreLow most g (piece_promised m s v base number e)
ends_piece_promised most g m s v base number e low from k h =
    let l = ends_fetched most g m v base number e false (catch_up s v number) low from (λ n. low_node_gives_low_plan most g _ n) k h in
    search (ends, l)

ends_piece_for : (most : Bounds) (g : ℕ) (m : Node) (s : ℕ) (v : Stamp) (base number : ℕ) (e : Entry) (b : Option Ballot) → number ≤ most.lists → base ≤ g
    → VotesAreWithinAccepted g b → AcceptedIsWithinGroup g m → NumbersAreLow most g m → PlanNumbersAreLow most g (piece_for m s v base number e b)
ends_piece_for most g m s v base number e None low from votes k h = ends_piece_promised most g m s v base number e low from k h
ends_piece_for most g m s v base number e (Some b) low from votes k h =
    let goes : NumbersAreLow most g (push_entry (trim_node_up_to m base) e) → PlanNumbersAreLow most g (look_at_ballot_anew b (push_entry (trim_node_up_to m base) e)) =
    λ n. higher_node_gives_low_plan most g _ (decide_keeps_numbers_low most g (push_entry (trim_node_up_to m base) e) b votes (record { told = k.told; acc = k.acc }) n) in
    let l = ends_fetched most g m v base number e true (look_at_ballot_anew b) low from goes k h in
    let p = ends_piece_promised most g m s v base number e low from k h in
    search (either_plan_has_low_numbers, low_node_gives_low_plan, h, l, p)

ends_hears_result : (most : Bounds) (g : ℕ) (m : Node) (s : ℕ) (base number : ℕ) (v : GroupView) → base ≤ g → AcceptedIsWithinGroup g m
    → NumbersAreLow most g m → PlanNumbersAreLow most g (row_of_promised_result m s base number v)
ends_hears_result most g m s base number v from k h =
    let l : NumbersAreLow (bounds_one_higher most) g (push_entry (trim_node_up_to m base) (View v)) =
    pushed_entry_keeps_numbers_low most g (trim_node_up_to m base) (View v) (record { told = k.told; acc = k.acc }) (trim_keeps_numbers_low most g m base from h) in
    search (either_plan_has_low_numbers, low_node_gives_low_plan, higher_node_gives_low_plan, h, l) depth 8

-- ---- a step

-- the first of what a packet tells as accepted, and the second
first_low : (g x : ℕ) (rest : List ℕ) → All (λ n. n ≤ g) (x ∷ rest) → x ≤ g
first_low g x rest h = All-head (λ n. n ≤ g) x rest h

second_low : (g x y : ℕ) (rest : List ℕ) → All (λ n. n ≤ g) (x ∷ y ∷ rest) → y ≤ g
second_low g x y rest h = first_low g y rest (All-tail (λ n. n ≤ g) x (y ∷ rest) h)

ends_hear : (most : Bounds) (g : ℕ) (m : Node) (p : Packet) → PacketIsWithinBounds most g p → AcceptedIsWithinGroup g m → NumbersAreLow most g m → PlanNumbersAreLow most g (hear_row m p)
unfolding hear_row request_row spread_row bcast_row order_row accept_row ack_row nack_row hold_row join_ask_row welcome_row leave_ask_row gone_row
    invite_row vote_row fetch_row piece_row result_row reset_row
ends_hear most g m (packet.Request s v report req body) u k h =
    let n = low_reported most g m s report (first_low g report.taken [] u.accepted) h in
    let l = ends_requested most g (take_report m s report) s req body false n in
    search (ends, l)
ends_hear most g m (packet.Spread s v report req body) u k h =
    let n = low_reported most g m s report (first_low g report.taken [] u.accepted) h in
    let l = ends_requested most g (take_report m s report) s req body true n in
    search (ends, l)
ends_hear most g m (packet.Bcast s v base acc number e) u k h =
    let n = low_noted most g m base acc (first_low g acc [] u.accepted) h in
    let l = ends_received most g (node_with_noted_fronts m base acc) s base number (Some e) said.Known n in
    search (ends, l)
ends_hear most g m (packet.Order s v base acc number from req) u k h =
    let n = low_noted most g m base acc (first_low g acc [] u.accepted) h in
    let l = ends_received most g (node_with_noted_fronts m base acc) s base number (data_entry_of from req (body_of_spread_send m from req)) (said.NoBody from req) n in
    search (ends, l)
ends_hear most g m (packet.Accept s v base acc high poll) u k h =
    let n = low_noted most g m base acc (first_low g acc [] u.accepted) h in
    search (ends, n)
ends_hear most g m (packet.Ack s v report) u k h =
    let n = report_keeps_numbers_low most g m s report (first_low g report.taken [] u.accepted) h in
    search (ends, n)
ends_hear most g m (packet.Nack s v report) u k h =
    let n = low_reported most g m s report (first_low g report.taken [] u.accepted) h in
    search (ends, n)
ends_hear most g m (packet.Hold s v base high req) u k h = let l = ends_held_up most g m base high req (waiting_send_of m) h in search (ends, l)
ends_hear most g m (packet.JoinAsk s v) u k h = let l = ends_asks_to_join most g m s (row_at_place (image_of_node m) s) h in search (ends, l)
ends_hear most g m (packet.Welcome s v base join image) u k h =
    let n = low_begun most g m v base join image u.round (first_low most.lists base (join ∷ []) u.numbers) (first_low g base (join ∷ []) u.accepted)
    (second_low g base join [] u.accepted) h in
    search (ends, n) depth 9
ends_hear most g m (packet.LeaveAsk s v report) u k h =
    let n = ends_asks_to_leave most g (take_report m s report) s (low_reported most g m s report (first_low g report.taken [] u.accepted) h) in
    let l = ends_asks_to_leave most g m s h in
    search (ends, n, l)
ends_hear most g m (packet.Invite s v) u k h = let n = promise_keeps_numbers_low most g m v u.round h in search (ends, n)
ends_hear most g m (packet.Vote s v vote) u k h =
    let n = promise_keeps_numbers_low most g m v u.round h in
    let l = ends_voted_for most g m s v vote m.ballot (first_low g vote.taken [] u.accepted) h.votes k h in
    search (ends, n, l)
ends_hear most g m (packet.Piece s v base number e) u k h =
    let l = ends_piece_for most g m s v base number e m.ballot (second_low most.lists base number [] u.numbers) (first_low g base [] u.accepted) h.votes k h in
    search (ends, l)
ends_hear most g m (packet.Result s base number v) u k h =
    let n = promise_keeps_numbers_low most g m v.stamp u.round h in
    let l = ends_hears_result most g (node_with_promise m v.stamp) s base number v (first_low g base [] u.accepted) (record { told = k.told; acc = k.acc }) n in
    search (ends, l)
ends_hear most g m _ u k h = search (ends, begin_ballot_keeps_numbers_low)

-- any event but bytes
abbrev pub IsNoHearing : NodeEvent → Type 0
IsNoHearing (does.Hear bytes) = ⊥
IsNoHearing _ = Unit {0}

ends_row : (most : Bounds) (g : ℕ) (m : Node) (event : NodeEvent) → IsNoHearing event → AcceptedIsWithinGroup g m → NumbersAreLow most g m → PlanNumbersAreLow most g (row m event)
unfolding row send_row done_row take_row join_row state_row leave_row reset_row ask_row give_up_row tick_row
ends_row most g m (does.Send body) d k h =
    let l : m.leaving ≡ false → PlanNumbersAreLow most g (queue m body) = λ f. queue_keeps_numbers_low most g m body f h in
    search (ends, l)
ends_row most g m (does.Done req) d k h = low_node_gives_low_plan most g _ (record {
  counts = record { entries = h.entries; rounds = h.rounds; sends = collect_keeps_last_request_low m.sends req most.requests h.sends };
  order = h.order;
  within = h.within;
  quits = λ t. nothing_waits_after_collect m.sends.last m.sends.queue req (h.quits t);
  tells = h.tells;
})
ends_row most g m does.Take d k h =
    let l : (m.core.taken == m.core.acc) ≡ false → PlanNumbersAreLow most g (give_out_entry m (log_entry_at m.core.log (m.core.taken + 1))) =
    λ f. give_out_keeps_numbers_low most g m (log_entry_at m.core.log (m.core.taken + 1)) f k h in
    search (ends, l)
ends_row most g m does.Join d k h = join_row_keeps_numbers_low most g m m.status h
ends_row most g m does.State d k h = state_row_keeps_numbers_low most g m m.status h
ends_row most g m does.Leave d k h = leave_row_keeps_numbers_low most g m m.status h
ends_row most g m (does.Reset least resilience) d k h = search (ends, begin_ballot_keeps_numbers_low)
ends_row most g m (does.Ask round) d k h = ask_row_keeps_numbers_low most g m round m.ballot h
ends_row most g m (does.GiveUp name) d k h = give_up_keeps_numbers_low most g m name m.ballot h.votes k h
ends_row most g m does.Tick d k h = tick_row_keeps_numbers_low most g m m.status h
ends_row most g m (does.Hear bytes) d k h = absurd d

pub step_keeps_numbers_low : (most : Bounds) (g : ℕ) (m : Node) (event : NodeEvent) → IsNoHearing event → AcceptedIsWithinGroup g m → NumbersAreLow most g m → NumbersAreLow (bounds_one_higher most) g (step m event).node
unfolding step
step_keeps_numbers_low most g m event d k h = finish_keeps_numbers_low most g m (row m event) (ends_row most g m event d k h)

pub hear_keeps_numbers_low : (most : Bounds) (g : ℕ) (m : Node) (p : Packet) → PacketIsWithinBounds most g p → AcceptedIsWithinGroup g m → NumbersAreLow most g m → NumbersAreLow (bounds_one_higher most) g (hear_packet m p).node
unfolding hear_packet
hear_keeps_numbers_low most g m p u k h = finish_keeps_numbers_low most g m (hear_row m p) (ends_hear most g m p u k h)

pub refusal_keeps_numbers_low : (most : Bounds) (g : ℕ) (m : Node) (cause : ℕ) → NumbersAreLow most g m → NumbersAreLow (bounds_one_higher most) g (hear_refused_bytes m cause).node
unfolding hear_refused_bytes
refusal_keeps_numbers_low most g m cause h = finish_keeps_numbers_low most g m (refuse_bytes m cause) (low_node_gives_low_plan most g _ h)
