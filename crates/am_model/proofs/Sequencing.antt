-- What the sequencer does, on the kept end of a list as on all of it.
use Rattle.am_model.proofs.EndWords.{[], ◌≡◌, ℕ, ◌+◌, ◌-◌, ◌≤◌, Bool, not, ◌&&◌, ◌||◌, ◌==◌, nat_lt, nat_le, if◌then◌else◌, List, length, take, refl, sym, ◌∙◌, ap}
use Rattle.am_model.proofs.EndWords.{subst, arith, nat_tests, Report, Row, Image, Stamp, Data, Join, Leave, life_of_name, without_name, stamp_is_less, stamps_are_equal, Log}
use Rattle.am_model.proofs.EndWords.{fits, row_at_place, row_of_name, core_with_log, members_since_accepted, log_is_own_end, Node, top, image_of_node, set_of_one_name, is_member, number_is_within_bound}
use Rattle.am_model.proofs.EndWords.{report_fits, node_with_report, Plan, bcast_packet_of, order_packet_of, hold_packet_of, nack_packet_of, welcome_packet_of, gone_packet_of, fetch_packet_of, entries_to_serve}
use Rattle.am_model.proofs.EndWords.{letters_of_entries, row_of_name_in_list, has_no_join, take_report, number_send_of_member, answer_request, request_row, ack_row, serve_entries_above, serve_again, nack_row}
use Rattle.am_model.proofs.EndWords.{node_with_joiner_reports, number_join_and_welcome, answer_join_ask, join_ask_row, node_of_welcomed, ask_for_next_entries, welcome_row, all_others_stored, leaver_may_go, with_gone_where_it_may_go}
use Rattle.am_model.proofs.EndWords.{answer_leave_ask, leave_ask_row, gone_row, node_with_log}
use Rattle.am_base.specs.declared.outcome.Outcome.TheVariants as said
use Rattle.am_model.specs.declared.status.Status.TheVariants as status
use Rattle.am_model.specs.Joining.{outcome_of_letting_go}
use Rattle.am_model.proofs.Plans.{SayTheSame, PlansAreAlike, hold_says_the_same, nack_says_the_same, fetch_says_the_same, welcome_says_the_same, same_test_branches_are_alike, both_branches_are_alike, quiet_is_alike, polling_is_alike, same_outcomes_are_alike}
use Rattle.am_model.proofs.Plans.{same_letters_are_alike, telling_is_alike, and_telling_is_alike, and_where_is_alike, numbering_is_alike}
use Rattle.am_model.proofs.Nodes.{KeepsEndOfLog, reading_on_whole_log, entries_above_on_whole_log, since_accepted_on_whole_log, refresh_on_whole_log, keeps_log_by_refresh}
use Rattle.am_model.proofs.{Calls.has_room_on_whole_log}

-- ---- reports

keeps_report : (all : Log) (m : Node) (s : ℕ) (report : Report) → KeepsEndOfLog all m → KeepsEndOfLog all (node_with_report m s report)
keeps_report all m s report h = record { kept = h.kept; order = h.order }

keeps_reported : (all : Log) (m : Node) (s : ℕ) (report : Report) → KeepsEndOfLog all m → KeepsEndOfLog all (take_report m s report)
keeps_reported all m s report h = keeps_log_by_refresh all (node_with_report m s report) (keeps_report all m s report h)

-- what is done once a report is taken
reported_end : (all : Log) (m : Node) (s : ℕ) (report : Report) (row : Node → Plan) → KeepsEndOfLog all m
    → PlansAreAlike (row (node_with_log (take_report m s report) all)) (row (take_report m s report))
    → PlansAreAlike (row (take_report (node_with_log m all) s report)) (row (take_report m s report))
reported_end all m s report row h a = subst (λ x. PlansAreAlike (row x) (row (take_report m s report)))
    (sym (refresh_on_whole_log all (node_with_report m s report) (keeps_report all m s report h))) a

same_unknown : (all : Log) (m : Node) (s : ℕ) → KeepsEndOfLog all m → has_no_join (node_with_log m all) s ≡ has_no_join m s
same_unknown all m s h = reading_on_whole_log all m (λ i t. (row_of_name i s).joined == 0) h

same_fit : (all : Log) (m : Node) (report : Report) → KeepsEndOfLog all m → not (report_fits (node_with_log m all) report) ≡ not (report_fits m report)
same_fit all m report h = reading_on_whole_log all m (λ i t. not (nat_le report.taken report.stored && nat_le report.stored t)) h

-- ---- sends

alike_number : (all : Log) (m : Node) (s req : ℕ) (body : List ℕ) (by_order : Bool) → KeepsEndOfLog all m
    → PlansAreAlike (number_send_of_member (node_with_log m all) s req body by_order) (number_send_of_member m s req body by_order)
alike_number all m s req body by_order h =
    numbering_is_alike all m (Data s req body) _ _
    (λ n. if by_order then order_packet_of n (top (node_with_log m all) + 1) s req else bcast_packet_of n (top (node_with_log m all) + 1) (Data s req body)) _ h
    (reading_on_whole_log all m (λ i t. said.Numbered (t + 1)) h)
    (λ a n k. reading_on_whole_log all m (λ i t. if by_order then order_packet_of n (t + 1) s req else bcast_packet_of n (t + 1) (Data s req body)) h)

pub answer_request_is_alike : (all : Log) (m : Node) (s req : ℕ) (body : List ℕ) (by_order : Bool) → KeepsEndOfLog all m
    → PlansAreAlike (answer_request (node_with_log m all) s req body by_order) (answer_request m s req body by_order)
answer_request_is_alike all m s req body by_order h =
    same_test_branches_are_alike _ _ _ _ _ _ (reading_on_whole_log all m (λ i t. nat_lt 0 (row_of_name i s).left) h) (λ t. quiet_is_alike all m _ _ h refl)
    (λ f. same_test_branches_are_alike _ _ _ _ _ _ (reading_on_whole_log all m (λ i t. nat_le req (row_of_name i s).last) h) (λ t. quiet_is_alike all m _ _ h refl)
    (λ g. same_test_branches_are_alike _ _ _ _ _ _ (reading_on_whole_log all m (λ i t. nat_lt ((row_of_name i s).last + 1) req) h)
    (λ t. quiet_is_alike all m _ _ h (reading_on_whole_log all m (λ i t. said.Early (row_of_name i s).last) h))
    (λ k. same_test_branches_are_alike _ _ _ _ _ _ (ap not (has_room_on_whole_log all m h))
    (λ t. and_telling_is_alike _ _ (set_of_one_name s) (set_of_one_name s) (λ n. hold_packet_of n req) (λ n. hold_packet_of n req)
    (polling_is_alike all m _ _ h (reading_on_whole_log all m (λ i t. said.Held m.core.base t) h)) refl (hold_says_the_same req))
    (λ l. alike_number all m s req body by_order h))))

pub request_is_alike : (all : Log) (m : Node) (s : ℕ) (report : Report) (req : ℕ) (body : List ℕ) (by_order : Bool) → KeepsEndOfLog all m
    → PlansAreAlike (request_row (node_with_log m all) s report req body by_order) (request_row m s report req body by_order)
unfolding request_row
request_is_alike all m s report req body by_order h =
    same_test_branches_are_alike _ _ _ _ _ _ (same_unknown all m s h) (λ t. quiet_is_alike all m _ _ h refl)
    (λ f. same_test_branches_are_alike _ _ _ _ _ _ (same_fit all m report h) (λ t. quiet_is_alike all m _ _ h refl)
    (λ g. reported_end all m s report (λ n. answer_request n s req body by_order) h
    (answer_request_is_alike all (take_report m s report) s req body by_order (keeps_reported all m s report h))))

pub ack_is_alike : (all : Log) (m : Node) (s : ℕ) (report : Report) → KeepsEndOfLog all m → PlansAreAlike (ack_row (node_with_log m all) s report) (ack_row m s report)
unfolding ack_row
ack_is_alike all m s report h =
    same_test_branches_are_alike _ _ _ _ _ _ (same_unknown all m s h) (λ t. quiet_is_alike all m _ _ h refl)
    (λ f. same_test_branches_are_alike _ _ _ _ _ _ (same_fit all m report h) (λ t. quiet_is_alike all m _ _ h refl)
    (λ g. same_outcomes_are_alike all (node_with_report m s report) said.Noted said.Noted _ _ (keeps_report all m s report h) (λ a n k. refl)))

-- ---- entries sent again

pub served_entries_on_whole_log : (all : Log) (m : Node) (stored : ℕ) → KeepsEndOfLog all m → m.core.base ≤ stored → entries_to_serve (node_with_log m all) stored
    ≡ entries_to_serve m stored
served_entries_on_whole_log all m stored h low = ap (take 8) (entries_above_on_whole_log all m stored h low)

alike_serve : (all : Log) (m : Node) (s stored : ℕ) → KeepsEndOfLog all m → m.core.base ≤ stored → PlansAreAlike (serve_entries_above (node_with_log m all) s stored) (serve_entries_above m s stored)
alike_serve all m s stored h low =
    let e = served_entries_on_whole_log all m stored h low in
    same_letters_are_alike all m _ _ _ _ h (ap (λ es. said.Served (length es)) e) (λ a n k. ap (λ es. letters_of_entries (bcast_packet_of n) (set_of_one_name s) (stored + 1) es []) e)

pub serve_again_is_alike : (all : Log) (m : Node) (s stored : ℕ) → KeepsEndOfLog all m → PlansAreAlike (serve_again (node_with_log m all) s stored) (serve_again m s stored)
serve_again_is_alike all m s stored h =
    both_branches_are_alike (nat_lt stored m.core.base) _ _ _ _ (λ t. quiet_is_alike all m _ _ h refl)
    (λ f. alike_serve all m s stored h (grind (arith, nat_tests)))

pub nack_is_alike : (all : Log) (m : Node) (s : ℕ) (report : Report) → KeepsEndOfLog all m → PlansAreAlike (nack_row (node_with_log m all) s report) (nack_row m s report)
unfolding nack_row
nack_is_alike all m s report h =
    same_test_branches_are_alike _ _ _ _ _ _ (same_unknown all m s h) (λ t. quiet_is_alike all m _ _ h refl)
    (λ f. same_test_branches_are_alike _ _ _ _ _ _ (same_fit all m report h) (λ t. quiet_is_alike all m _ _ h refl)
    (λ g. reported_end all m s report (λ n. serve_again n s report.stored) h
    (serve_again_is_alike all (take_report m s report) s report.stored (keeps_reported all m s report h))))

-- ---- joining

alike_number_join : (all : Log) (m : Node) (s : ℕ) → KeepsEndOfLog all m → PlansAreAlike (number_join_and_welcome (node_with_log m all) s) (number_join_and_welcome m s)
alike_number_join all m s h =
    let k : KeepsEndOfLog all (node_with_joiner_reports m s) = record { kept = h.kept; order = h.order } in
    and_where_is_alike _ _ _ _ (set_of_one_name s) (set_of_one_name s) (λ n. welcome_packet_of n s) (λ n. welcome_packet_of n s) (λ a n l. reading_on_whole_log all m (λ i t. nat_le (t + 1) n.core.acc) h)
    (numbering_is_alike all (node_with_joiner_reports m s) (Join s) _ _ (λ n. bcast_packet_of n (top (node_with_log m all) + 1) (Join s)) _ k
    (reading_on_whole_log all m (λ i t. said.Numbered (t + 1)) h) (λ a n l. reading_on_whole_log all m (λ i t. bcast_packet_of n (t + 1) (Join s)) h))
    refl (welcome_says_the_same s)

alike_asks_to_join : (all : Log) (m : Node) (s : ℕ) (q : Row) → KeepsEndOfLog all m → PlansAreAlike (answer_join_ask (node_with_log m all) s q) (answer_join_ask m s q)
alike_asks_to_join all m s q h =
    both_branches_are_alike (nat_lt (life_of_name s) q.life) _ _ _ _ (λ t. quiet_is_alike all m _ _ h refl)
    (λ f. both_branches_are_alike ((q.life == life_of_name s) && nat_lt 0 q.left) _ _ _ _ (λ t. quiet_is_alike all m _ _ h refl)
    (λ g. both_branches_are_alike (nat_lt q.life (life_of_name s) && (nat_lt 0 q.life && ((q.left == 0) || nat_lt m.core.acc q.left))) _ _ _ _ (λ t. quiet_is_alike all m _ _ h refl)
    (λ k. same_test_branches_are_alike _ _ _ _ _ _ (reading_on_whole_log all m (λ i t. fits i (Join s) && not (nat_le (t + 1 - m.core.base) m.core.rules.window)) h)
    (λ t. polling_is_alike all m _ _ h (reading_on_whole_log all m (λ i t. said.Held m.core.base t) h))
    (λ l. same_test_branches_are_alike _ _ _ _ _ _ (reading_on_whole_log all m (λ i t. fits i (Join s)) h) (λ t. alike_number_join all m s h)
    (λ x. both_branches_are_alike (nat_le q.joined (m.reports s).stored || nat_lt m.core.acc q.joined) _ _ _ _ (λ t. quiet_is_alike all m _ _ h refl)
    (λ y. telling_is_alike all m _ _ (set_of_one_name s) (set_of_one_name s) (λ n. welcome_packet_of n s) (λ n. welcome_packet_of n s) h refl refl (welcome_says_the_same s)))))))

pub join_ask_is_alike : (all : Log) (m : Node) (s : ℕ) → KeepsEndOfLog all m → PlansAreAlike (join_ask_row (node_with_log m all) s) (join_ask_row m s)
unfolding join_ask_row
join_ask_is_alike all m s h =
    subst (λ q. PlansAreAlike (answer_join_ask (node_with_log m all) s q) (answer_join_ask m s (row_at_place (image_of_node m) s))) (sym (reading_on_whole_log all m (λ i t. row_at_place i s) h))
    (alike_asks_to_join all m s (row_at_place (image_of_node m) s) h)

-- the list begins anew on both sides
keeps_begun : (m : Node) (v : Stamp) (base join : ℕ) (image : Image) → KeepsEndOfLog (node_of_welcomed m v base join image).core.log (node_of_welcomed m v base join image)
keeps_begun m v base join image = record {
  kept = log_is_own_end
      (node_of_welcomed m v base join image).core.log;
  order = record { base = omega arith; taken = omega arith; given = omega arith; accepted = omega arith };
}

alike_welcomed : (all : Log) (m : Node) (s : ℕ) (v : Stamp) (join : ℕ) → KeepsEndOfLog all m → PlansAreAlike (ask_for_next_entries (node_with_log m all) s v join) (ask_for_next_entries m s v join)
alike_welcomed all m s v join h =
    same_test_branches_are_alike _ _ _ _ _ _ (reading_on_whole_log all m (λ i t. stamps_are_equal i.view v) h)
    (λ t. telling_is_alike all m _ _ (set_of_one_name s) (set_of_one_name s) nack_packet_of nack_packet_of h refl refl nack_says_the_same)
    (λ f. telling_is_alike all m _ _ (set_of_one_name s) (set_of_one_name s) fetch_packet_of fetch_packet_of h refl refl fetch_says_the_same)

pub welcome_is_alike : (all : Log) (m : Node) (s : ℕ) (v : Stamp) (base join : ℕ) (image : Image) → KeepsEndOfLog all m
    → PlansAreAlike (welcome_row (node_with_log m all) s v base join image) (welcome_row m s v base join image)
unfolding welcome_row
welcome_is_alike all m s v base join image h =
    both_branches_are_alike (is_member m.status) _ _ _ _ (λ t. quiet_is_alike all m _ _ h refl)
    (λ f. both_branches_are_alike (stamp_is_less v m.core.promise) _ _ _ _ (λ t. quiet_is_alike all m _ _ h refl)
    (λ g. both_branches_are_alike (nat_le join base ||
    (not (number_is_within_bound m base join) || (stamp_is_less v image.view || nat_lt 0 (row_of_name image m.core.who).joined))) _ _ _ _
    (λ t. quiet_is_alike all m _ _ h refl)
    (λ k. alike_welcomed (node_of_welcomed m v base join image).core.log (node_of_welcomed m v base join image) s v join (keeps_begun m v base join image))))

-- ---- leaving

says_may_go : (s : ℕ) → SayTheSame (λ n. leaver_may_go n s) (λ n. leaver_may_go n s)
says_may_go s all n h =
    reading_on_whole_log all n (λ i t. nat_lt 0 (row_of_name i s).left &&
    (nat_le (row_of_name i s).left n.core.acc && all_others_stored n (without_name (members_since_accepted (core_with_log all n.core)) s) (row_of_name i s).left)) h
    ∙ ap (λ set. nat_lt 0 (row_of_name_in_list n s).left && (nat_le (row_of_name_in_list n s).left n.core.acc && all_others_stored n (without_name set s) (row_of_name_in_list n s).left))
    (since_accepted_on_whole_log all n h)

alike_gone : (p q : Plan) (s : ℕ) → PlansAreAlike p q → PlansAreAlike (with_gone_where_it_may_go p s) (with_gone_where_it_may_go q s)
alike_gone p q s h =
    and_where_is_alike (λ n. leaver_may_go n s) (λ n. leaver_may_go n s) p q (set_of_one_name s) (set_of_one_name s) (λ n. gone_packet_of n (row_of_name_in_list n s).left)
    (λ n. gone_packet_of n (row_of_name_in_list n s).left) (says_may_go s) h refl
    (λ a n k. reading_on_whole_log a n (λ i t. gone_packet_of n (row_of_name i s).left) k)

says_let_go : (all : Log) (m : Node) (s : ℕ) → KeepsEndOfLog all m → SayTheSame (outcome_of_letting_go (node_with_log m all) s) (outcome_of_letting_go m s)
says_let_go all m s h a n k = λ j. if says_may_go s a n k j then reading_on_whole_log all m (λ i t. said.LetGo (row_of_name i s).left) h j else said.Again

pub asks_to_leave_is_alike : (all : Log) (m : Node) (s : ℕ) → KeepsEndOfLog all m → PlansAreAlike (answer_leave_ask (node_with_log m all) s) (answer_leave_ask m s)
asks_to_leave_is_alike all m s h =
    same_test_branches_are_alike _ _ _ _ _ _ (reading_on_whole_log all m (λ i t. ((row_of_name i s).left == 0) && not (nat_le (t + 1 - m.core.base) m.core.rules.window)) h)
    (λ t. polling_is_alike all m _ _ h (reading_on_whole_log all m (λ i t. said.Held m.core.base t) h))
    (λ f. same_test_branches_are_alike _ _ _ _ _ _ (reading_on_whole_log all m (λ i t. (row_of_name i s).left == 0) h)
    (λ t. alike_gone _ _ s (numbering_is_alike all m (Leave s) _ _ (λ n. bcast_packet_of n (top (node_with_log m all) + 1) (Leave s))
    (λ n. bcast_packet_of n (top m + 1) (Leave s)) h (reading_on_whole_log all m (λ i t. said.Numbered (t + 1)) h)
    (λ a n k. reading_on_whole_log all m (λ i t. bcast_packet_of n (t + 1) (Leave s)) h)))
    (λ g. alike_gone _ _ s (same_outcomes_are_alike all m said.Again said.Again _ _ h (says_let_go all m s h))))

pub leave_ask_is_alike : (all : Log) (m : Node) (s : ℕ) (v : Stamp) (report : Report) → KeepsEndOfLog all m
    → PlansAreAlike (leave_ask_row (node_with_log m all) s v report) (leave_ask_row m s v report)
unfolding leave_ask_row
leave_ask_is_alike all m s v report h =
    same_test_branches_are_alike _ _ _ _ _ _ (same_unknown all m s h) (λ t. quiet_is_alike all m _ _ h refl)
    (λ f. same_test_branches_are_alike _ _ _ _ _ _ (reading_on_whole_log all m (λ i t. stamps_are_equal v i.view && (nat_le report.taken report.stored && nat_le report.stored t)) h)
    (λ t. reported_end all m s report (λ n. answer_leave_ask n s) h (asks_to_leave_is_alike all (take_report m s report) s (keeps_reported all m s report h)))
    (λ g. asks_to_leave_is_alike all m s h))

pub gone_row_is_alike : (all : Log) (m : Node) → KeepsEndOfLog all m → PlansAreAlike (gone_row (node_with_log m all)) (gone_row m)
unfolding gone_row
gone_row_is_alike all m h =
    both_branches_are_alike m.leaving _ _ _ _ (λ t. quiet_is_alike all (record m { status = status.Departed }) _ _ (record { kept = h.kept; order = h.order }) refl)
    (λ f. quiet_is_alike all m _ _ h refl)
