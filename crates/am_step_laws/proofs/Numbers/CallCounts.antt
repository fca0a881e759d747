-- What the calls and the tick add to the numbers that grow.
use Rattle.am_step_laws.proofs.Words.{[], ◌≡◌, ℕ, ◌+◌, ◌<◌, ◌≤◌, ◌==◌, ◌||◌, nat_lt, not, Bool, true, false, List, ◌∷◌, find, filter, Option, Some, None, refl, arith}
use Rattle.am_step_laws.proofs.Words.{length-append, nat_tests, Entry, Data, Leave, Outcome, OwnSend, Sends, Status, Node, Ballot, top, push_entry, waiting_send_of}
use Rattle.am_step_laws.proofs.Words.{node_unsettled_count, Plan, plan_without_letters, number_send, emit_waiting_send, node_with_queued_send, queue, give_out_entry, join_by_status, state_by_status, plan_of_leaving, is_unfinished_ballot, begin_leaving}
use Rattle.am_step_laws.proofs.Words.{leave_by_status, answer_ask_of_ballot, is_view, tick_of_coordinator, tick_of_follower, tick_outcome_of_waiting_send, with_result_told_again, tick_of_sequencer, tick_of_acting_member, tick_by_ballot, tick_by_status}
use Rattle.am_step_laws.proofs.Words.{split_on_bool, Bounds, bounds_one_higher}
use Rattle.am_base.specs.declared.outcome.Outcome.TheVariants as said
use Rattle.am_node_defs.specs.Sends as own
use Rattle.am_model.specs.declared.status.Status.TheVariants as status
use Rattle.am_step_laws.proofs.Numbers.Counts.{NumbersAreLow, AcceptedIsWithinGroup, PlanNumbersAreLow, either_plan_has_low_numbers, low_node_gives_low_plan, higher_node_gives_low_plan, ends, plain_entry_keeps_numbers_low, no_unsettled_send_none_waits}

-- ---- sends

-- a send that was just queued goes out
ends_queued : (most : Bounds) (g : ℕ) (m : Node) (w : Option OwnSend) (o : Outcome) → top m ≤ most.lists → NumbersAreLow (bounds_one_higher most) g m → PlanNumbersAreLow most g (emit_waiting_send m w o)
ends_queued most g m None o low h = higher_node_gives_low_plan most g _ h
ends_queued most g m (Some s) o low h =
    let k = low_sent most g m (Data m.core.who s.req s.body) refl low h in
    search (either_plan_has_low_numbers, higher_node_gives_low_plan, k)
  where
    low_sent : (most : Bounds) (g : ℕ) (m : Node) (e : Entry) → is_view e ≡ false → top m ≤ most.lists → NumbersAreLow (bounds_one_higher most) g m → NumbersAreLow (bounds_one_higher most) g (push_entry m e)
    low_sent most g m e other low h = let p = plain_entry_keeps_numbers_low (bounds_one_higher most) g m e other h in
        record {
          counts = record { entries = simp length-append (omega arith); rounds = h.rounds; sends = h.sends };
          order = record { given = h.given; accepted = p.accepted; kept = h.kept };
          within = h.within;
          quits = h.quits;
          tells = record { reported = h.reported; votes = h.votes; known = p.known };
        }

ends_emit : (most : Bounds) (g : ℕ) (m : Node) (w : Option OwnSend) (o : Outcome) → NumbersAreLow most g m → PlanNumbersAreLow most g (emit_waiting_send m w o)
ends_emit most g m None o h = low_node_gives_low_plan most g _ h
ends_emit most g m (Some s) o h =
    let k : PlanNumbersAreLow most g (number_send m s o) = higher_node_gives_low_plan most g _ (plain_entry_keeps_numbers_low most g m (Data m.core.who s.req s.body) refl h) in
    search (ends, k)

pub queue_keeps_numbers_low : (most : Bounds) (g : ℕ) (m : Node) (body : List ℕ) → m.leaving ≡ false → NumbersAreLow most g m → PlanNumbersAreLow most g (queue m body)
queue_keeps_numbers_low most g m body stays h =
    let last = h.sends in
    let few = h.entries in
    let now : NumbersAreLow (bounds_one_higher most) g (node_with_queued_send m body) = record {
      counts = record { entries = omega arith; rounds = omega arith; sends = omega arith };
      order = h.order;
      within = h.within;
      quits = λ t. absurd (cc);
      tells = h.tells;
    } in
    let k = ends_queued most g (node_with_queued_send m body) (waiting_send_of (node_with_queued_send m body)) (said.Queued (m.sends.last + 1)) few now in
    search (either_plan_has_low_numbers, higher_node_gives_low_plan, k)

-- what is collected was settled
pub collect_keeps_last_request_low : (sends : Sends) (req most : ℕ) → sends.last ≤ most → (own.collect req sends).last ≤ most
collect_keeps_last_request_low sends req most h = split_on_bool (own.has_settled_send req sends) (λ t. rw t h) (λ f. rw f h)

pub no_waiting_send_after_filter : (test : OwnSend → Bool) (queue : List OwnSend) → find own.is_unsettled queue ≡ None → find own.is_unsettled (filter test queue) ≡ None
no_waiting_send_after_filter test [] h = refl
no_waiting_send_after_filter test (s ∷ queue) h = split_on_bool (own.is_unsettled s)
    (λ t. absurd (let x = rw t at h in cc))
    (λ f. let rest = no_waiting_send_after_filter test queue (rw f at h) in split_on_bool (test s) (λ t. rw (t, f) rest) (λ g. rw g rest))

pub nothing_waits_after_collect : (last : ℕ) (queue : List OwnSend) (req : ℕ) → find own.is_unsettled queue ≡ None
    → own.first_unsettled_send (own.collect req (record { last = last; queue = queue })) ≡ None
nothing_waits_after_collect last queue req h = split_on_bool (own.has_settled_send req (record { last = last; queue = queue }))
    (λ t. rw t (no_waiting_send_after_filter (λ send. not (own.send_has_request req send)) queue h))
    (λ f. rw f h)

-- ---- what is accepted

pub give_out_keeps_numbers_low : (most : Bounds) (g : ℕ) (m : Node) (e : Option Entry) → (m.core.taken == m.core.acc) ≡ false → AcceptedIsWithinGroup g m → NumbersAreLow most g m
    → PlanNumbersAreLow most g (give_out_entry m e)
give_out_keeps_numbers_low most g m None more k h = low_node_gives_low_plan most g _ h
give_out_keeps_numbers_low most g m (Some e) more k h =
    let given = h.given in
    let next : m.core.taken < m.core.acc = grind (arith, nat_tests) in
    low_node_gives_low_plan most g _ (record {
      counts = h.counts;
      order = record { given = omega arith; accepted = h.accepted; kept = h.kept };
      within = record { listed = h.listed; began = h.began; took = omega arith; trims = h.trims };
      quits = h.quits;
      tells = h.tells;
    })

-- ---- joining and leaving

pub join_row_keeps_numbers_low : (most : Bounds) (g : ℕ) (m : Node) (s : Status) → NumbersAreLow most g m → PlanNumbersAreLow most g (join_by_status m s)
join_row_keeps_numbers_low most g m status.Stranger h = low_node_gives_low_plan most g _ h
join_row_keeps_numbers_low most g m _ h = low_node_gives_low_plan most g _ h

pub state_row_keeps_numbers_low : (most : Bounds) (g : ℕ) (m : Node) (s : Status) → NumbersAreLow most g m → PlanNumbersAreLow most g (state_by_status m s)
state_row_keeps_numbers_low most g m status.Member h = search ends
state_row_keeps_numbers_low most g m _ h = search ends

-- the last member's own Leave
ends_go : (most : Bounds) (g : ℕ) (p : Plan) → NumbersAreLow most g p.node → PlanNumbersAreLow most g (plan_of_leaving p)
ends_go most g p h =
    let k : NumbersAreLow (bounds_one_higher most) g (push_entry p.node (Leave p.node.core.who)) = plain_entry_keeps_numbers_low most g p.node (Leave p.node.core.who) refl h in
    search (ends, higher_node_gives_low_plan, k)

low_leaving : (most : Bounds) (g : ℕ) (m : Node) → waiting_send_of m ≡ None → NumbersAreLow most g m → NumbersAreLow most g (record m { leaving = true })
low_leaving most g m none h = record {
  counts = h.counts;
  order = h.order;
  within = h.within;
  quits = λ t. none;
  tells = h.tells;
}

-- who begins to leave has nothing to send
ends_leave_now : (most : Bounds) (g : ℕ) (m : Node) → NumbersAreLow most g m → PlanNumbersAreLow most g (begin_leaving m)
ends_leave_now most g m h =
    let p = plan_without_letters (record m { leaving = true }) said.Asked in
    let k : (nat_lt 0 (node_unsettled_count m) || is_unfinished_ballot m.ballot) ≡ false → PlanNumbersAreLow most g (plan_of_leaving p) = λ f.
    ends_go most g p (low_leaving most g m (no_unsettled_send_none_waits m (grind (arith, nat_tests))) h) in
    search (ends, k)

pub leave_row_keeps_numbers_low : (most : Bounds) (g : ℕ) (m : Node) (s : Status) → NumbersAreLow most g m → PlanNumbersAreLow most g (leave_by_status m s)
leave_row_keeps_numbers_low most g m status.Member h = ends_leave_now most g m h
leave_row_keeps_numbers_low most g m _ h = search ends

-- ---- ballots

pub ask_row_keeps_numbers_low : (most : Bounds) (g : ℕ) (m : Node) (round : ℕ) (b : Option Ballot) → NumbersAreLow most g m → PlanNumbersAreLow most g (answer_ask_of_ballot m round b)
ask_row_keeps_numbers_low most g m round None h = search ends
ask_row_keeps_numbers_low most g m round (Some b) h = search ends

-- ---- the tick

ends_tick_ballot : (most : Bounds) (g : ℕ) (m : Node) (o : Outcome) → NumbersAreLow most g m → PlanNumbersAreLow most g (tick_of_coordinator m o)
ends_tick_ballot most g m (said.Waiting names) h = low_node_gives_low_plan most g _ h
ends_tick_ballot most g m (said.Fetching from want) h = low_node_gives_low_plan most g _ h
ends_tick_ballot most g m _ h = low_node_gives_low_plan most g _ h

ends_tick_member : (most : Bounds) (g : ℕ) (m : Node) → NumbersAreLow most g m → PlanNumbersAreLow most g (tick_of_follower m)
ends_tick_member most g m h =
    let k = ends_go most g (plan_without_letters m said.Ticked) h in
    let l = ends_emit most g m (waiting_send_of m) said.Ticked h in
    search (ends, k, l)

-- who leaves has no send to number
ends_tick_sequencer : (most : Bounds) (g : ℕ) (m : Node) → NumbersAreLow most g m → PlanNumbersAreLow most g (tick_of_sequencer m)
ends_tick_sequencer most g m h =
    let p = with_result_told_again (record (emit_waiting_send m (waiting_send_of m) (tick_outcome_of_waiting_send m (waiting_send_of m))) { polls = true }) in
    let k = (ends_emit most g m (waiting_send_of m) (tick_outcome_of_waiting_send m (waiting_send_of m)) h).node in
    either_plan_has_low_numbers most g m.leaving (plan_of_leaving p) p (λ t. ends_go most g p (stays_low most g m (waiting_send_of m) (tick_outcome_of_waiting_send m (waiting_send_of m)) (h.quits t) h)) (λ f. higher_node_gives_low_plan most g p k)
  where
    stays_low : (most : Bounds) (g : ℕ) (m : Node) (w : Option OwnSend) (o : Outcome) → w ≡ None → NumbersAreLow most g m → NumbersAreLow most g (emit_waiting_send m w o).node
    stays_low most g m None o is h = h
    stays_low most g m (Some s) o is h = absurd (cc)

ends_tick_acting : (most : Bounds) (g : ℕ) (m : Node) → NumbersAreLow most g m → PlanNumbersAreLow most g (tick_of_acting_member m)
ends_tick_acting most g m h =
    let k = ends_tick_sequencer most g m h in
    let l = ends_tick_member most g m h in
    search (ends, k, l)

ends_tick_with : (most : Bounds) (g : ℕ) (m : Node) (b : Option Ballot) → NumbersAreLow most g m → PlanNumbersAreLow most g (tick_by_ballot m b)
ends_tick_with most g m None h = ends_tick_acting most g m h
ends_tick_with most g m (Some b) h =
    let k = ends_tick_acting most g m h in
    let l = ends_tick_ballot most g m b.answer h in
    search (ends, k, l)

pub tick_row_keeps_numbers_low : (most : Bounds) (g : ℕ) (m : Node) (s : Status) → NumbersAreLow most g m → PlanNumbersAreLow most g (tick_by_status m s)
tick_row_keeps_numbers_low most g m status.Member h = ends_tick_with most g m m.ballot h
tick_row_keeps_numbers_low most g m _ h = low_node_gives_low_plan most g _ h
