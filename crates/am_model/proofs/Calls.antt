-- Calls and ticks, on the kept end of a list as on all of it.
use Rattle.am_model.proofs.EndWords.{◌≡◌, ℕ, ◌+◌, ◌-◌, ◌<◌, true, not, ◌&&◌, ◌||◌, ◌==◌, nat_lt, nat_le, if◌then◌else◌, List, Option, Some, None, refl, sym}
use Rattle.am_model.proofs.EndWords.{◌∙◌, ap, subst, arith, is_some, nat_tests, Entry, Data, Leave, Outcome, without_name, size, empty_set_of_names, stamps_are_equal, Log}
use Rattle.am_model.proofs.EndWords.{members_of_image, row_of_name, log_entry_at, log_with_entry, split_on_bool_of_log, Packet, Letter, with_letter, OwnSend, Status, Node, Ballot, top, image_of_node}
use Rattle.am_model.proofs.EndWords.{view, other_members, set_of_one_name, lowest_name_or_zero, names_that_pass, acts_in_its_view, is_member, is_sequencer, has_room, waiting_send_of, node_unsettled_count}
use Rattle.am_model.proofs.EndWords.{push_entry, Plan, bcast_packet_of, join_ask_packet_of, leave_ask_packet_of, invite_packet_of, fetch_packet_of, result_packet_of, first_lives_of_other_places, would_emit_send}
use Rattle.am_model.proofs.EndWords.{hand_in_send, number_send, emit_waiting_send, node_with_queued_send, queue, give_out_entry, take_row, ask_to_join, join_by_status, state_by_status, plan_of_leaving, is_unfinished_ballot}
use Rattle.am_model.proofs.EndWords.{begin_leaving, leave_by_status, answer_ask_of_ballot, tick_of_coordinator, tick_of_non_acting_member, tick_of_follower, tick_outcome_of_waiting_send, members_behind_view, members_of_view_entry, with_result_told_again}
use Rattle.am_model.proofs.EndWords.{tick_of_sequencer, tick_of_acting_member, tick_by_ballot, tick_by_status, node_with_log, hand_over_packet_of}
use Rattle.am_base.specs.declared.outcome.Outcome.TheVariants as said
use Rattle.am_model.specs.declared.status.Status.TheVariants as status
use Rattle.am_model.proofs.Plans.{PlansAreAlike, others_on_whole_log, request_says_the_same, spread_says_the_same, ack_says_the_same, leave_ask_says_the_same, fetch_says_the_same, same_test_branches_are_alike, both_branches_are_alike, quiet_is_alike, plan_alike_rules}
use Rattle.am_model.proofs.Plans.{replaced_letters_are_alike, telling_is_alike, and_telling_is_alike, numbering_is_alike}
use Rattle.am_model.proofs.Nodes.{KeepsEndOfLog, reading_on_whole_log, entry_at_on_whole_log, is_sequencer_on_whole_log, keeps_log_by_push}

-- ---- what a node tells

same_acts : (all : Log) (m : Node) → KeepsEndOfLog all m → acts_in_its_view (node_with_log m all) ≡ acts_in_its_view m
same_acts all m h = reading_on_whole_log all m (λ i t. is_member m.status && stamps_are_equal m.core.promise i.view) h

pub has_room_on_whole_log : (all : Log) (m : Node) → KeepsEndOfLog all m → has_room (node_with_log m all) ≡ has_room m
has_room_on_whole_log all m h = reading_on_whole_log all m (λ i t. nat_le (t + 1 - m.core.base) m.core.rules.window) h

same_viewer : (all : Log) (m : Node) → KeepsEndOfLog all m → set_of_one_name (view (node_with_log m all)).by ≡ set_of_one_name (view m).by
same_viewer all m h = reading_on_whole_log all m (λ i t. set_of_one_name i.view.by) h

-- ---- sends

same_would : (all : Log) (m : Node) (w : Option OwnSend) → KeepsEndOfLog all m → would_emit_send (node_with_log m all) w ≡ would_emit_send m w
same_would all m None h = refl
same_would all m (Some s) h = reading_on_whole_log all m (λ i t. (is_member m.status && stamps_are_equal m.core.promise i.view) && nat_lt (row_of_name i m.core.who).last s.req) h

alike_hand_in : (all : Log) (m : Node) (s : OwnSend) (o w : Outcome) → KeepsEndOfLog all m → o ≡ w → PlansAreAlike (hand_in_send (node_with_log m all) s o) (hand_in_send m s w)
alike_hand_in all m s o w h e = search (plan_alike_rules, telling_is_alike, same_viewer, request_says_the_same, others_on_whole_log, spread_says_the_same)

alike_number_send : (all : Log) (m : Node) (s : OwnSend) (o w : Outcome) → KeepsEndOfLog all m → o ≡ w
    → PlansAreAlike (number_send (node_with_log m all) s o) (number_send m s w)
alike_number_send all m s o w h e =
    numbering_is_alike all m (Data m.core.who s.req s.body) o w (λ n. bcast_packet_of n (top (node_with_log m all) + 1) (Data m.core.who s.req s.body)) _ h e
    (λ a n k. reading_on_whole_log all m (λ i t. bcast_packet_of n (t + 1) (Data m.core.who s.req s.body)) h)

alike_emit : (all : Log) (m : Node) (s : Option OwnSend) (o w : Outcome) → KeepsEndOfLog all m → o ≡ w → PlansAreAlike (emit_waiting_send (node_with_log m all) s o) (emit_waiting_send m s w)
alike_emit all m None o w h e = quiet_is_alike all m o w h e
alike_emit all m (Some s) o w h e = search (plan_alike_rules, same_would, is_sequencer_on_whole_log, alike_hand_in, has_room_on_whole_log, alike_number_send)

keeps_queued : (all : Log) (m : Node) (body : List ℕ) → KeepsEndOfLog all m → KeepsEndOfLog all (node_with_queued_send m body)
keeps_queued all m body h = record { kept = h.kept; order = h.order }

pub queue_is_alike : (all : Log) (m : Node) (body : List ℕ) → KeepsEndOfLog all m → PlansAreAlike (queue (node_with_log m all) body) (queue m body)
queue_is_alike all m body h =
    let k = keeps_queued all m body h in
    both_branches_are_alike (is_some (waiting_send_of m)) _ _ _ _ (λ t. quiet_is_alike all (node_with_queued_send m body) _ _ k refl)
    (λ f. alike_emit all (node_with_queued_send m body) (waiting_send_of (node_with_queued_send m body)) _ _ k refl)

-- ---- what is accepted

alike_given : (all : Log) (m : Node) (e : Option Entry) → KeepsEndOfLog all m → m.core.taken < m.core.acc → PlansAreAlike (give_out_entry (node_with_log m all) e) (give_out_entry m e)
alike_given all m None h more = quiet_is_alike all m _ _ h refl
alike_given all m (Some e) h more =
    let n : Node = record m { core = record (m.core) { taken = m.core.taken + 1 } } in
    let o = h.order in
    quiet_is_alike all n _ _ (record { kept = h.kept; order = record { base = o.base; taken = omega arith; given = omega arith; accepted = o.accepted } }) refl

alike_given_same : (all : Log) (m : Node) (e w : Option Entry) → KeepsEndOfLog all m → m.core.taken < m.core.acc → e ≡ w
    → PlansAreAlike (give_out_entry (node_with_log m all) e) (give_out_entry m w)
alike_given_same all m e w h more same = subst (λ x. PlansAreAlike (give_out_entry (node_with_log m all) x) (give_out_entry m w)) (sym same) (alike_given all m w h more)

pub take_row_is_alike : (all : Log) (m : Node) → KeepsEndOfLog all m → PlansAreAlike (take_row (node_with_log m all)) (take_row m)
unfolding take_row
take_row_is_alike all m h =
    both_branches_are_alike (not (is_member m.status)) _ _ _ _ (λ t. quiet_is_alike all m _ _ h refl)
    (λ f. both_branches_are_alike (m.core.taken == m.core.acc) _ _ _ _ (λ t. quiet_is_alike all m _ _ h refl)
    (λ g. alike_given_same all m _ _ h (grind (arith, nat_tests)) (entry_at_on_whole_log all m (m.core.taken + 1) h (omega arith))))

-- ---- joining and leaving

alike_ask_to_join : (all : Log) (m : Node) (o : Outcome) → KeepsEndOfLog all m → PlansAreAlike (ask_to_join (node_with_log m all) o) (ask_to_join m o)
unfolding first_lives_of_other_places
alike_ask_to_join all m o h = telling_is_alike all m o o (first_lives_of_other_places m) (first_lives_of_other_places m) join_ask_packet_of join_ask_packet_of h refl refl (λ a n k. refl)

pub join_by_is_alike : (all : Log) (m : Node) (s : Status) → KeepsEndOfLog all m → PlansAreAlike (join_by_status (node_with_log m all) s) (join_by_status m s)
join_by_is_alike all m status.Stranger h =
    alike_ask_to_join all (record m { status = status.Asking }) said.Asked (record { kept = h.kept; order = h.order })
join_by_is_alike all m _ h = quiet_is_alike all m _ _ h refl

pub state_by_is_alike : (all : Log) (m : Node) (s : Status) → KeepsEndOfLog all m → PlansAreAlike (state_by_status (node_with_log m all) s) (state_by_status m s)
state_by_is_alike all m status.Member h = search plan_alike_rules
state_by_is_alike all m _ h = quiet_is_alike all m _ _ h refl

-- the last member leaves
abbrev last_leave : Plan → Plan
last_leave p = record p { node = push_entry p.node (Leave p.node.core.who); outcome = λ n. said.Departed; numbers = true; departs = true }

alike_last : (p q : Plan) → PlansAreAlike p q → PlansAreAlike (last_leave p) (last_leave q)
alike_last p q h =
    let e = Leave q.node.core.who in
    record {
      whole = record { log = log_with_entry h.log e; keeps = keeps_log_by_push h.log q.node e h.keeps; node = ap (λ n. push_entry n (Leave n.core.who)) h.node };
      outcome = λ a n k. refl;
      letters = h.letters;
      polls = h.polls;
      numbers = refl;
      departs = refl;
    }

alike_held : (p q : Plan) → PlansAreAlike p q
    → PlansAreAlike (record p { outcome = λ n. said.Held p.node.core.base (top p.node) }) (record q { outcome = λ n. said.Held q.node.core.base (top q.node) })
alike_held p q h = record {
  whole = h.whole;
  outcome = λ a n k. ap (λ x. said.Held x.core.base (top x)) h.node ∙ reading_on_whole_log h.log q.node (λ i t. said.Held q.node.core.base t) h.keeps;
  letters = h.letters;
  polls = h.polls;
  numbers = h.numbers;
  departs = h.departs;
}

alike_go : (p q : Plan) → PlansAreAlike p q → PlansAreAlike (plan_of_leaving p) (plan_of_leaving q)
alike_go p q h =
    let others_same : other_members p.node ≡ other_members q.node = ap other_members h.node ∙ others_on_whole_log h.log q.node h.keeps in
    same_test_branches_are_alike _ _ _ _ _ _ (ap (λ n. not (is_sequencer n)) h.node ∙ ap not (is_sequencer_on_whole_log h.log q.node h.keeps))
    (λ t. and_telling_is_alike p q _ _ leave_ask_packet_of leave_ask_packet_of h others_same leave_ask_says_the_same)
    (λ f. same_test_branches_are_alike _ _ _ _ _ _ (ap (λ to. nat_lt 0 (size to)) others_same)
    (λ t. and_telling_is_alike p q _ _ hand_over_packet_of hand_over_packet_of h (ap (λ to. set_of_one_name (lowest_name_or_zero to)) others_same) (λ a n k. refl))
    (λ g. same_test_branches_are_alike _ _ _ _ _ _ (ap has_room h.node ∙ has_room_on_whole_log h.log q.node h.keeps)
    (λ t. alike_last p q h)
    (λ k. alike_held p q h)))

alike_leave_now : (all : Log) (m : Node) → KeepsEndOfLog all m → PlansAreAlike (begin_leaving (node_with_log m all)) (begin_leaving m)
alike_leave_now all m h =
    both_branches_are_alike m.leaving _ _ _ _ (λ t. quiet_is_alike all m _ _ h refl)
    (λ f. both_branches_are_alike (nat_lt 0 (node_unsettled_count m) || is_unfinished_ballot m.ballot) _ _ _ _ (λ t. quiet_is_alike all m _ _ h refl)
    (λ g. alike_go _ _ (quiet_is_alike all (record m { leaving = true }) said.Asked said.Asked (record { kept = h.kept; order = h.order }) refl)))

pub leave_by_is_alike : (all : Log) (m : Node) (s : Status) → KeepsEndOfLog all m → PlansAreAlike (leave_by_status (node_with_log m all) s) (leave_by_status m s)
leave_by_is_alike all m status.Member h = alike_leave_now all m h
leave_by_is_alike all m _ h = quiet_is_alike all m _ _ h refl

-- ---- ballots

pub ask_of_is_alike : (all : Log) (m : Node) (round : ℕ) (b : Option Ballot) → KeepsEndOfLog all m → PlansAreAlike (answer_ask_of_ballot (node_with_log m all) round b) (answer_ask_of_ballot m round b)
ask_of_is_alike all m round None h = quiet_is_alike all m _ _ h refl
ask_of_is_alike all m round (Some b) h = search plan_alike_rules

-- ---- the tick

alike_tick_ballot : (all : Log) (m : Node) (o : Outcome) → KeepsEndOfLog all m → PlansAreAlike (tick_of_coordinator (node_with_log m all) o) (tick_of_coordinator m o)
alike_tick_ballot all m (said.Waiting names) h = telling_is_alike all m _ _ names names invite_packet_of invite_packet_of h refl refl (λ a n k. refl)
alike_tick_ballot all m (said.Fetching from want) h = telling_is_alike all m _ _ (set_of_one_name from) (set_of_one_name from) fetch_packet_of fetch_packet_of h refl refl fetch_says_the_same
alike_tick_ballot all m _ h = quiet_is_alike all m _ _ h refl

alike_tick_promised : (all : Log) (m : Node) → KeepsEndOfLog all m → PlansAreAlike (tick_of_non_acting_member (node_with_log m all)) (tick_of_non_acting_member m)
alike_tick_promised all m h = search (plan_alike_rules, telling_is_alike, fetch_says_the_same)

alike_tick_member : (all : Log) (m : Node) → KeepsEndOfLog all m → PlansAreAlike (tick_of_follower (node_with_log m all)) (tick_of_follower m)
alike_tick_member all m h = search (plan_alike_rules, alike_go, same_would, alike_emit, telling_is_alike, same_viewer, ack_says_the_same)

same_put_off : (all : Log) (m : Node) (w : Option OwnSend) → KeepsEndOfLog all m → tick_outcome_of_waiting_send (node_with_log m all) w ≡ tick_outcome_of_waiting_send m w
same_put_off all m None h = refl
same_put_off all m (Some s) h = λ i. if same_would all m (Some s) h i && not (has_room_on_whole_log all m h i) then reading_on_whole_log all m
    (λ j t. said.PutOff s.req m.core.base t) h i else said.Ticked

same_behind : (all : Log) (m : Node) → KeepsEndOfLog all m → members_behind_view (node_with_log m all) ≡ members_behind_view m
same_behind all m h = reading_on_whole_log all m
    (λ i t. if nat_lt m.core.base i.view_number then names_that_pass (λ name. nat_lt (m.reports name).stored i.view_number)
    (without_name (members_of_image i) m.core.who) else empty_set_of_names) h

-- the Result that a list gives
abbrev view_by : Node → Log → Packet
view_by n log = result_packet_of n (image_of_node n).view_number (members_of_view_entry (log_entry_at log (image_of_node n).view_number)) (image_of_node n).resilience

-- the View is read where it is kept; else it goes to nobody
says_result : (all : Log) (n : Node) (ls : List Letter) → KeepsEndOfLog all n
    → with_letter (members_behind_view n) (view_by n all) ls ≡ with_letter (members_behind_view n) (view_by n n.core.log) ls
says_result all n ls h = split_on_bool_of_log (nat_lt n.core.base (image_of_node n).view_number)
    (λ t.
    let above : n.core.log.start < (image_of_node n).view_number = grind (arith, nat_tests) in
    ap (λ e. with_letter (members_behind_view n) (result_packet_of n (image_of_node n).view_number (members_of_view_entry e) (image_of_node n).resilience) ls)
    (entry_at_on_whole_log all n (image_of_node n).view_number h above))
    (λ f. rw f refl)

alike_result : (p q : Plan) → PlansAreAlike p q → PlansAreAlike (with_result_told_again p) (with_result_told_again q)
alike_result p q h = replaced_letters_are_alike p q (with_result_told_again p).letters (with_result_told_again q).letters p.polls q.polls h
    (λ a n k.
    (λ j. with_letter (same_behind a n k j) (reading_on_whole_log a n (λ i t. result_packet_of n i.view_number (members_of_view_entry (log_entry_at a i.view_number)) i.resilience) k j)
    (h.letters a n k j))
    ∙ says_result a n (q.letters n) k)
    h.polls

alike_polls : (p q : Plan) → PlansAreAlike p q → PlansAreAlike (record p { polls = true }) (record q { polls = true })
alike_polls p q h = replaced_letters_are_alike p q p.letters q.letters true true h h.letters refl

alike_tick_sequencer : (all : Log) (m : Node) → KeepsEndOfLog all m → PlansAreAlike (tick_of_sequencer (node_with_log m all)) (tick_of_sequencer m)
alike_tick_sequencer all m h =
    let p = record (emit_waiting_send (node_with_log m all) (waiting_send_of m) (tick_outcome_of_waiting_send (node_with_log m all) (waiting_send_of m))) { polls = true } in
    let q = record (emit_waiting_send m (waiting_send_of m) (tick_outcome_of_waiting_send m (waiting_send_of m))) { polls = true } in
    let a = alike_result p q (alike_polls _ _ (alike_emit all m (waiting_send_of m) _ _ h (same_put_off all m (waiting_send_of m) h))) in
    both_branches_are_alike m.leaving _ _ _ _ (λ t. alike_go (with_result_told_again p) (with_result_told_again q) a) (λ f. a)

alike_tick_acting : (all : Log) (m : Node) → KeepsEndOfLog all m → PlansAreAlike (tick_of_acting_member (node_with_log m all)) (tick_of_acting_member m)
alike_tick_acting all m h = search (plan_alike_rules, same_acts, alike_tick_promised, is_sequencer_on_whole_log, alike_tick_sequencer, alike_tick_member)

alike_tick_with : (all : Log) (m : Node) (b : Option Ballot) → KeepsEndOfLog all m → PlansAreAlike (tick_by_ballot (node_with_log m all) b) (tick_by_ballot m b)
alike_tick_with all m None h = alike_tick_acting all m h
alike_tick_with all m (Some b) h = both_branches_are_alike b.is_over _ _ _ _ (λ t. alike_tick_acting all m h) (λ f. alike_tick_ballot all m b.answer h)

pub tick_by_is_alike : (all : Log) (m : Node) (s : Status) → KeepsEndOfLog all m → PlansAreAlike (tick_by_status (node_with_log m all) s) (tick_by_status m s)
tick_by_is_alike all m status.Stranger h = quiet_is_alike all m _ _ h refl
tick_by_is_alike all m status.Asking h = alike_ask_to_join all m said.Ticked h
tick_by_is_alike all m status.Member h = alike_tick_with all m m.ballot h
tick_by_is_alike all m status.Departed h = quiet_is_alike all m _ _ h refl
