-- Where a call is ready, its end tells its answer.
use Rattle.am_race_laws.proofs.Words.{◌≡◌, ℕ, ◌+◌, ◌-◌, ◌<◌, ◌==◌, Bool, true, false, true≢false, List, [], ◌∷◌, length, get_or, Option, Some, None, is_some}
use Rattle.am_race_laws.proofs.Words.{nat_lt, refl, sym, ap, ◌∙◌, subst, arith, if◌then◌else◌, ltb-true, ne_eqb, slice_get-get_or, Entry, Outcome, NodeEvent}
use Rattle.am_race_laws.proofs.Words.{log_entry_at, CoreFrontsAreInOrder, entry_at_end_is_entry, entry_at_number_of_log, Sends, outcome_of_collecting, outcome_of_done, collect_outcome, has_settled_send, Act, Status, Node}
use Rattle.am_race_laws.proofs.Words.{Ballot, is_member, has_log_by_status, has_departed, plan_without_letters, finish, refresh_at_end, row, step, IsEndOf, both_of_and, end_of_ballot_of_round, end_of_ballot}
use Rattle.am_race_laws.proofs.Words.{Came, own_answer, end_answer, ballot_answer, sent_request, is_take, send_is_settled, is_ended, is_ready_after, may_take}
use Rattle.am_race_laws.proofs.Words.{told_at_end, EndTells}
use Rattle.am_model.specs.Calls.{done_row, take_row, give_out_entry, state_by_status, state_row, answer_ask_of_ballot, ask_row}
use Rattle.am_race_laws.proofs.Requests.{OwnRequestsAreOnce, settled_request_has_its_number}
use Rattle.am_base.specs.declared.outcome.Outcome.TheVariants as said
use Rattle.am_base.specs.declared.event.NodeEvent.TheVariants as does
use Rattle.am_group.specs.declared.event.Act.TheVariants as act
use Rattle.am_model.specs.declared.status.Status.TheVariants as status
use Rattle.am_race_laws.proofs.Words.{split_on_bool}

-- what a step answers, where its row answers one thing
answered : (all : Node) (what : NodeEvent) (o : Outcome) → ((n : Node) → (row all what).outcome n ≡ o) → (step all what).outcome ≡ o
unfolding step finish
answered all what o is = is (refresh_at_end (row all what).node)

-- ---- a receive

entry_there : (all m : Node) → IsEndOf all m → CoreFrontsAreInOrder m.core → m.core.taken < m.core.acc → (e : Entry)
    × (log_entry_at all.core.log (all.core.taken + 1) ≡ Some e)
entry_there all m is order less =
    let kept = order.kept in
    let low = order.let_go in
    let high = order.accepted in
    let t : all.core.taken ≡ m.core.taken = sym (ap (λ (n : Node). n.core.taken) is.same) in
    let at : ℕ = m.core.taken - m.core.log.start in
    let below : at < length m.core.log.entries = omega arith in
    let number : m.core.taken + 1 ≡ m.core.log.start + at + 1 = omega arith in
    let above : m.core.log.start < m.core.taken + 1 = omega arith in
    let e : Entry = get_or m.core.log.entries at (first_of m.core.log.entries below) in (
      e,
      ap (λ (n : ℕ). log_entry_at all.core.log (n + 1)) t ∙ sym (entry_at_end_is_entry all.core.log m.core.log (m.core.taken + 1) is.stands.kept above)
          ∙ entry_at_number_of_log m.core.log (m.core.taken + 1) at number ∙ slice_get-get_or m.core.log.entries at (first_of m.core.log.entries below) below,
    )
  where
    first_of : (es : List Entry) → {n : ℕ} → n < length es → Entry
    first_of [] h = absurd (omega arith)
    first_of (e ∷ es) h = e

took : (all : Node) (e : Entry) (o : Option Entry) → o ≡ Some e → (n : Node) → (give_out_entry all o).outcome n ≡ said.Took (all.core.taken + 1) e
took all e o is n = ap (λ (x : Option Entry). (give_out_entry all x).outcome n) is

take_told : (all : Node) (e : Entry) → is_member all.status ≡ true → (all.core.taken == all.core.acc) ≡ false
    → log_entry_at all.core.log (all.core.taken + 1) ≡ Some e
    → (n : Node) → (row all does.Take).outcome n ≡ said.Took (all.core.taken + 1) e
unfolding row take_row
take_told all e member some there n = rw (member, some) (took all e (log_entry_at all.core.log (all.core.taken + 1)) there n)

receive_tells : (all m : Node) → IsEndOf all m → CoreFrontsAreInOrder m.core → may_take m ≡ true → EndTells all act.Take None
unfolding own_answer
receive_tells all m is order may outcome told =
    let t = both_of_and (is_member m.status) (nat_lt m.core.taken m.core.acc) may in
    let less : m.core.taken < m.core.acc = ltb-true m.core.taken m.core.acc t.1 in
    let there = entry_there all m is order less in
    let taken : all.core.taken ≡ m.core.taken = sym (ap (λ (n : Node). n.core.taken) is.same) in
    let acc : all.core.acc ≡ m.core.acc = sym (ap (λ (n : Node). n.core.acc) is.same) in
    let member : is_member all.status ≡ true = ap (λ (n : Node). is_member n.status) (sym is.same) ∙ t.0 in
    let some : (all.core.taken == all.core.acc) ≡ false = ne_eqb all.core.taken all.core.acc (λ e. omega arith) in
    let got : outcome ≡ said.Took (all.core.taken + 1) there.0 =
    told ∙ answered all does.Take (said.Took (all.core.taken + 1) there.0) (take_told all there.0 member some there.1)
    in
    ap (λ (o : Outcome). is_some (told_at_end act.Take o)) got

-- ---- a send

queued_only : (m : Node) (outcome : Outcome) → send_is_settled m outcome ≡ true → (req : ℕ) × (outcome ≡ said.Queued req) × (has_settled_send req m.sends ≡ true)
queued_only m (said.Queued req) e = (req, refl, e)
queued_only m _ e = absurd (true≢false (sym e))

some_number : (req : ℕ) (o : Option ℕ) → is_some o ≡ true → (number : ℕ) × (outcome_of_collecting req o ≡ said.Sent req number)
some_number req None e = absurd (true≢false (sym e))
some_number req (Some number) e = (number, refl)

collected : (req : ℕ) (s : Sends) → OwnRequestsAreOnce s → has_settled_send req s ≡ true → (number : ℕ) × (collect_outcome req s ≡ said.Sent req number)
collected req s once is =
    let found = settled_request_has_its_number req s.queue once.apart is in
    let n = some_number req found.0.number found.2 in
    (n.0, ap (outcome_of_done req) found.1 ∙ n.1)

done_told : (all : Node) (req : ℕ) (n : Node) → (row all (does.Done req)).outcome n ≡ collect_outcome req all.sends
unfolding row done_row
done_told all req n = refl

send_tells : (all m : Node) (body : List ℕ) (came : Came) → IsEndOf all m → OwnRequestsAreOnce all.sends → send_is_settled m came.outcome ≡ true
    → EndTells all (act.Send body) (Some came)
unfolding end_answer
send_tells all m body came is once ready outcome told =
    let q = queued_only m came.outcome ready in
    let settled : has_settled_send q.0 all.sends ≡ true = ap (λ (n : Node). has_settled_send q.0 n.sends) (sym is.same) ∙ q.2 in
    let c = collected q.0 all.sends once settled in
    let got : outcome ≡ said.Sent q.0 c.0 =
    told ∙ ap (λ (o : Outcome). (step all (does.Done (sent_request o))).outcome) q.1
    ∙ answered all (does.Done q.0) (collect_outcome q.0 all.sends) (done_told all q.0) ∙ c.1
    in
    ap (λ (o : Outcome). is_some (told_at_end (act.Send body) o)) got

-- ---- a join and a leave

state_told : (all : Node) (n : Node) → (row all does.State).outcome n ≡ (state_by_status all all.status).outcome n
unfolding row state_row
state_told all n = refl

if_left : (all n : Node) (b : Bool) → is_some (told_at_end act.Join ((if b then plan_without_letters all said.Leaving else plan_without_letters all (said.Joined all.core.start)).outcome n))
    ≡ true
unfolding end_answer
if_left all n true = refl
if_left all n false = refl

join_by_status : (all n : Node) (s : Status) → has_log_by_status s ≡ true → is_some (told_at_end act.Join ((state_by_status all s).outcome n)) ≡ true
unfolding end_answer
join_by_status all n status.Member e = if_left all n all.leaving
join_by_status all n status.Departed e = refl
join_by_status all n _ e = absurd (true≢false (sym e))

leave_by_status : (all n : Node) (s : Status) → has_departed s ≡ true → is_some (told_at_end act.Leave ((state_by_status all s).outcome n)) ≡ true
unfolding end_answer
leave_by_status all n status.Departed e = refl
leave_by_status all n _ e = absurd (true≢false (sym e))

-- what the step at a State answers
state_step : (all : Node) → (step all does.State).outcome ≡ (state_by_status all all.status).outcome (refresh_at_end (row all does.State).node)
unfolding step finish
state_step all = state_told all (refresh_at_end (row all does.State).node)

join_tells : (all m : Node) (came : Came) → IsEndOf all m → has_log_by_status m.status ≡ true → EndTells all act.Join (Some came)
join_tells all m came is ready outcome told =
    ap (λ (o : Outcome). is_some (told_at_end act.Join o)) (told ∙ state_step all)
    ∙ join_by_status all (refresh_at_end (row all does.State).node) all.status (ap (λ (n : Node). has_log_by_status n.status) (sym is.same) ∙ ready)

leave_tells : (all m : Node) (came : Came) → IsEndOf all m → has_departed m.status ≡ true → EndTells all act.Leave (Some came)
leave_tells all m came is ready outcome told =
    ap (λ (o : Outcome). is_some (told_at_end act.Leave o)) (told ∙ state_step all)
    ∙ leave_by_status all (refresh_at_end (row all does.State).node) all.status (ap (λ (n : Node). has_departed n.status) (sym is.same) ∙ ready)

-- ---- a reset

ended_of : (b : Ballot) → is_ended (Some (end_of_ballot b)) ≡ true → is_some (ballot_answer b.answer) ≡ true
ended_of b e = split_on_bool b.is_over (λ t. rw t at e) (λ f. let going = rw f at e in absurd (cc))

ask_by_ballot : (all n : Node) (round : ℕ) (ballot : Option Ballot) → is_ended (end_of_ballot_of_round round ballot) ≡ true
    → is_some (ballot_answer ((answer_ask_of_ballot all round ballot).outcome n)) ≡ true
ask_by_ballot all n round None e = absurd (true≢false (sym e))
ask_by_ballot all n round (Some b) e = split_on_bool (nat_lt b.stamp.round round)
    (λ t. let none = rw t at e in absurd (cc))
    (λ f. split_on_bool (nat_lt round b.stamp.round) (λ t. rw (f, t) refl) (λ g. rw (f, g) (ended_of b (rw (f, g) at e))))

ask_step : (all : Node) (round : ℕ) → (step all (does.Ask round)).outcome
    ≡ (answer_ask_of_ballot all round all.ballot).outcome (refresh_at_end (row all (does.Ask round)).node)
unfolding step finish row ask_row
ask_step all round = refl

reset_tells : (all m : Node) (least resilience : ℕ) (came : Came) → IsEndOf all m → is_ended (end_of_ballot_of_round came.round m.ballot) ≡ true
    → EndTells all (act.Reset least resilience) (Some came)
unfolding end_answer
reset_tells all m least resilience came is ready outcome told =
    ap (λ (o : Outcome). is_some (ballot_answer o)) (told ∙ ask_step all came.round)
    ∙ ask_by_ballot all (refresh_at_end (row all (does.Ask came.round)).node) came.round all.ballot
    (ap (λ (n : Node). is_ended (end_of_ballot_of_round came.round n.ballot)) (sym is.same) ∙ ready)

-- ---- each call

pub ready_call_tells_its_answer : (all m : Node) (a : Act) (came : Came) → IsEndOf all m → OwnRequestsAreOnce all.sends → is_ready_after m a came.outcome came.round ≡ true
    → EndTells all a (Some came)
ready_call_tells_its_answer all m (act.Send body) came is once ready = send_tells all m body came is once ready
ready_call_tells_its_answer all m act.Join came is once ready = join_tells all m came is ready
ready_call_tells_its_answer all m act.Leave came is once ready = leave_tells all m came is ready
ready_call_tells_its_answer all m (act.Reset least resilience) came is once ready = reset_tells all m least resilience came is ready
ready_call_tells_its_answer all m _ came is once ready = absurd (true≢false (sym ready))

take_only : (a : Act) → is_take a ≡ true → act.Take ≡ a
take_only act.Take e = refl
take_only _ e = absurd (true≢false (sym e))

pub ready_take_tells_its_answer : (all m : Node) (a : Act) → is_take a ≡ true → IsEndOf all m → CoreFrontsAreInOrder m.core → may_take m ≡ true → EndTells all a None
ready_take_tells_its_answer all m a take is order may = subst (λ (x : Act). EndTells all x None) (take_only a take) (receive_tells all m is order may)
