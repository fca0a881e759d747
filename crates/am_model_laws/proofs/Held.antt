-- When a send is held.
use Rattle.am_model_laws.proofs.Words.{both_of_and, ◌≡◌, ℕ, ◌+◌, Bool, true, false, not, if◌then◌else◌, nat_lt, nat_le, List, Option, Some, None, refl, sym, ap, ◌∙◌}
use Rattle.am_model_laws.proofs.Words.{arith, nat_tests, Report, Stamp, Data, Outcome, Log, row_of_name, image_of_log, top_of_log, log_with_entry, CoreState, raise_accepted_to_told, pass_over_below_join}
use Rattle.am_model_laws.proofs.Words.{raise_own_report, tell_accept_front, advance_with_reports, trim_to_least_taken, OwnSend, Node, top, report_fits, has_room, is_sequencer, set_of_one_name, waiting_send_of, push_entry}
use Rattle.am_model_laws.proofs.Words.{node_with_report, Plan, plan_without_letters, plan_with_poll, with_one_more_letter, hold_packet_of, finish, refresh, refresh_as_sequencer, accepted_number_of_send, settle_send_at}
use Rattle.am_model_laws.proofs.Words.{settle_send_where_accepted, settle_waiting_send, refresh_at_end, row_of_name_in_list, has_no_join, take_report, number_send_of_member, answer_request, request_row}
use Rattle.am_model_laws.proofs.Words.{hears_packet_of_its_view, sequencer_hears_packet, hear_row, hear_packet, send_packet, IsNextSend, OutcomeIsHeld, HeldExactly, IsTurnedDown, elsewhere}
use Rattle.am_model_laws.proofs.Words.{stranger, unfit, again, early, IsAnswered, numbered, held, turned_down, SendsAnswered, split_on_bool}
use Rattle.am_base.specs.declared.outcome.Outcome.TheVariants as said
use Rattle.am_model_laws.proofs.{Refreshes.refresh_of_refreshed}

-- the refresh leaves the list
lead_log : (m : Node) → (refresh_as_sequencer m).core.log ≡ m.core.log
unfolding refresh_as_sequencer raise_own_report tell_accept_front advance_with_reports trim_to_least_taken raise_accepted_to_told pass_over_below_join
lead_log m = refl

refresh_log : (m : Node) → (refresh m).core.log ≡ m.core.log
unfolding refresh raise_accepted_to_told pass_over_below_join
refresh_log m = split_on_bool (is_sequencer m) (λ t. rw t (lead_log m)) (λ f. rw f (refl))

same_row : (m : Node) (s : ℕ) (report : Report) → row_of_name_in_list (take_report m s report) s ≡ row_of_name_in_list m s
same_row m s report = ap (λ log. row_of_name (image_of_log log) s) (refresh_log (node_with_report m s report))

-- once the report is taken
record IsNext (m : Node) (s req : ℕ) : Type 0 where
  stays : (row_of_name_in_list m s).left ≡ 0
  next : req ≡ (row_of_name_in_list m s).last + 1
  full : has_room m ≡ false

requested_held : (m n : Node) (s req : ℕ) (body : List ℕ) (by_order : Bool) → OutcomeIsHeld ((answer_request m s req body by_order).outcome n) → IsNext m s req
requested_held m n s req body by_order h = split_on_bool (nat_lt 0 (row_of_name_in_list m s).left)
    (λ a. let x : OutcomeIsHeld said.Stranger = rw a at h in let y = x.2 in absurd (cc))
    (λ a. let h1 = rw a at h in split_on_bool (nat_le req (row_of_name_in_list m s).last)
    (λ b. let x : OutcomeIsHeld said.Again = rw b at h1 in let y = x.2 in absurd (cc))
    (λ b. let h2 = rw b at h1 in split_on_bool (nat_lt ((row_of_name_in_list m s).last + 1) req)
    (λ c. let x : OutcomeIsHeld (said.Early (row_of_name_in_list m s).last) = rw c at h2 in let y = x.2 in absurd (cc))
    (λ c. let h3 = rw c at h2 in split_on_bool (has_room m)
    (λ d. let x : OutcomeIsHeld (said.Numbered (top m + 1)) = rw d at h3 in let y = x.2 in absurd (cc))
    (λ d. record { stays = grind (arith, nat_tests); next = grind (arith, nat_tests); full = d }))))

held_requested : (m n : Node) (s req : ℕ) (body : List ℕ) (by_order : Bool) → IsNext m s req → OutcomeIsHeld ((answer_request m s req body by_order).outcome n)
held_requested m n s req body by_order h =
    let a : nat_lt 0 (row_of_name_in_list m s).left ≡ false = grind (arith, nat_tests) in
    let b : nat_le req (row_of_name_in_list m s).last ≡ false = grind (arith, nat_tests) in
    let c : nat_lt ((row_of_name_in_list m s).last + 1) req ≡ false = grind (arith, nat_tests) in
    rw (a, b, c, h.full) (m.core.base, top m, refl)

request_held : (m n : Node) (s : ℕ) (report : Report) (req : ℕ) (body : List ℕ) (by_order : Bool)
    → OutcomeIsHeld ((request_row m s report req body by_order).outcome n) → IsNextSend m s report req × (has_room (take_report m s report) ≡ false)
unfolding request_row
request_held m n s report req body by_order h = split_on_bool (has_no_join m s)
    (λ a. let x : OutcomeIsHeld said.Stranger = rw a at h in let y = x.2 in absurd (cc))
    (λ a. let h1 = rw a at h in split_on_bool (report_fits m report)
    (λ b. let h2 = rw b at h1 in
    let r = requested_held (take_report m s report) n s req body by_order h2 in
    let row = same_row m s report in
    (record { known = grind (arith, nat_tests); fits = b; stays = ap (λ r. r.left) (sym row) ∙ r.stays; next = r.next ∙ ap (λ r. r.last + 1) row }, r.full))
    (λ b. let x : OutcomeIsHeld said.Unfit = rw b at h1 in let y = x.2 in absurd (cc)))

held_request : (m n : Node) (s : ℕ) (report : Report) (req : ℕ) (body : List ℕ) (by_order : Bool) → IsNextSend m s report req
    × (has_room (take_report m s report) ≡ false) → OutcomeIsHeld ((request_row m s report req body by_order).outcome n)
unfolding request_row
held_request m n s report req body by_order h =
    let a : has_no_join m s ≡ false = grind (arith, nat_tests) in
    let row = same_row m s report in
    rw (a, h.0.fits) (held_requested (take_report m s report) n s req body by_order
    (record { stays = ap (λ r. r.left) row ∙ h.0.stays; next = h.0.next ∙ ap (λ r. r.last + 1) (sym row); full = h.1 }))

-- ---- heard

-- after the gate it is the row of a request
heard_row : (m : Node) (s : ℕ) (v : Stamp) (report : Report) (req : ℕ) (body : List ℕ) (spread : Bool) → sequencer_hears_packet m s v ≡ true
    → hear_row m (send_packet spread s v report req body) ≡ request_row m s report req body spread
unfolding hear_row
heard_row m s v report req body true gate = let h = both_of_and (hears_packet_of_its_view m s v) (is_sequencer m) gate in rw (h.0, h.1) refl
heard_row m s v report req body false gate = rw gate refl

pub send_held_exactly_if_full : HeldExactly
unfolding hear_packet finish
send_held_exactly_if_full m s v report req body spread gate =
    let row = heard_row m s v report req body spread gate in
    let n = refresh_at_end (request_row m s report req body spread).node in
    rw row (request_held m n s report req body spread, held_request m n s report req body spread)

-- ---- every answer

settled_core : (m : Node) (req : ℕ) (at : Option ℕ) → (settle_send_at m req at).core ≡ m.core
settled_core m req None = refl
settled_core m req (Some k) = refl

settle_by : (m : Node) (w : Option OwnSend) → (settle_send_where_accepted m w).core ≡ m.core
settle_by m None = refl
settle_by m (Some s) = settled_core m s.req (accepted_number_of_send m s.req)

pub core_of_refresh_at_end : (m : Node) → (refresh_at_end m).core ≡ (refresh m).core
unfolding refresh_at_end settle_waiting_send
core_of_refresh_at_end m = settle_by (refresh m) (waiting_send_of (refresh m))

end_log : (m : Node) → (refresh_at_end m).core.log ≡ m.core.log
end_log m = ap (λ (c : CoreState). c.log) (core_of_refresh_at_end m) ∙ refresh_log m

-- where a node was refreshed before the end of its step
end_again : (m : Node) → (refresh_at_end (refresh m)).core ≡ (refresh m).core
end_again m = core_of_refresh_at_end (refresh m) ∙ ap (λ (n : Node). n.core) (refresh_of_refreshed m)

turned_down_at : (m n : Node) (s req : ℕ) (body : List ℕ) (o : Outcome) → IsTurnedDown o → n.core.log ≡ m.core.log
    → IsAnswered m s req body (finish m (plan_without_letters n o))
unfolding finish
turned_down_at m n s req body o h same = turned_down h (end_log n ∙ same)

-- by what a test says
answered_if : (m : Node) (s req : ℕ) (body : List ℕ) (b : Bool) (p q : Plan) → IsAnswered m s req body (finish m p) → IsAnswered m s req body (finish m q)
    → IsAnswered m s req body (finish m (if b then p else q))
answered_if m s req body true p q f g = f
answered_if m s req body false p q f g = g

requested_answered : (m n : Node) (s req : ℕ) (body : List ℕ) (spread : Bool) → n.core.log ≡ m.core.log
    → IsAnswered m s req body (finish m (answer_request (refresh n) s req body spread))
unfolding finish
requested_answered m n s req body spread was =
    let r = refresh n in
    let same : r.core.log ≡ m.core.log = refresh_log n ∙ was in
    let later = end_again n in
    let e = Data s req body in
    let put_off : IsAnswered m s req body (finish m (with_one_more_letter (plan_with_poll r (said.Held r.core.base (top r))) (set_of_one_name s) (λ n. hold_packet_of n req))) =
    held (ap (λ (c : CoreState). said.Held c.base (top_of_log c.log)) (sym later)) (ap (λ (c : CoreState). c.log) later ∙ same) in
    let next : IsAnswered m s req body (finish m (number_send_of_member r s req body spread)) =
    numbered (ap (λ (l : Log). said.Numbered (top_of_log l + 1)) same) (end_log (push_entry r e) ∙ ap (λ (l : Log). log_with_entry l e) same) in
    let down : (o : Outcome) → IsTurnedDown o → IsAnswered m s req body (finish m (plan_without_letters r o)) = λ o h. turned_down_at m r s req body o h same in
    answered_if m s req body (nat_lt 0 (row_of_name_in_list r s).left) _ _ (down said.Stranger stranger)
    (answered_if m s req body (nat_le req (row_of_name_in_list r s).last) _ _ (down said.Again again)
    (answered_if m s req body (nat_lt ((row_of_name_in_list r s).last + 1) req) _ _ (down (said.Early (row_of_name_in_list r s).last) (early (row_of_name_in_list r s).last))
    (answered_if m s req body (not (has_room r)) _ _ put_off next)))

request_answered : (m : Node) (s : ℕ) (report : Report) (req : ℕ) (body : List ℕ) (spread : Bool)
    → IsAnswered m s req body (finish m (request_row m s report req body spread))
unfolding request_row
request_answered m s report req body spread =
    answered_if m s req body (has_no_join m s) _ _ (turned_down_at m m s req body said.Stranger stranger refl)
    (answered_if m s req body (not (report_fits m report)) _ _ (turned_down_at m m s req body said.Unfit unfit refl)
    (requested_answered m (node_with_report m s report) s req body spread refl))

pub each_send_is_answered : SendsAnswered
unfolding hear_packet hear_row
each_send_is_answered m s v report req body true leads =
    rw leads (answered_if m s req body (hears_packet_of_its_view m s v) _ _ (request_answered m s report req body true)
    (turned_down_at m m s req body said.Elsewhere elsewhere refl))
each_send_is_answered m s v report req body false leads =
    answered_if m s req body (sequencer_hears_packet m s v) _ _ (request_answered m s report req body false)
    (turned_down_at m m s req body said.Elsewhere elsewhere refl)
