-- What each change of a node keeps, as long as its ballot is none: of any name but the first founder, and of that.
use Rattle.am_run_laws.proofs.UnballotedWords.{◌≡◌, ℕ, ◌+◌, ◌-◌, ◌<◌, ◌≤◌, ◌==◌, nat_lt, true, not, List, take, get_or, Some, slice_get, sym, ap, ◌∙◌, subst, arith}
use Rattle.am_run_laws.proofs.UnballotedWords.{All, nat_tests, length-take, position-Some, slice_get-get_or, All-push, All-filter, All-map, All-weaker, Stamp}
use Rattle.am_run_laws.proofs.UnballotedWords.{Entry, Data, Join, Rules, stamps_are_equal, CoreState, raise_accepted_to_told, pass_over_below_join, slice_get-drop, OwnSend, item_at, Node, view}
use Rattle.am_run_laws.proofs.UnballotedWords.{is_member, acts_in_its_view, is_sequencer, entries_above, is_data_of, accepted_number_of_send, settle_waiting_send, split_on_bool, both_of_and, data_of_own_request, member_status_has_log}
use Rattle.am_run_laws.proofs.UnballotedWords.{slice_get_of_take}
use Rattle.am_node_defs.specs.Sends as own
use Rattle.am_run_laws.proofs.UnballotedKept.{first_founder_of, AcceptedStandsAt, UnballotedFrontsAreInOrder, OwnSendIsSettledRight, UnballotedNodeKeeps}
use Rattle.am_step_laws.proofs.Rests.{settle_keeps_property}
use Rattle.am_run_laws.proofs.{Lists.slice_get_is_item_at, Lists.slice_get_within_whole}

-- ---- who leads

-- a sequencer's name is in its promise
leads_own : (m : Node) → is_sequencer m ≡ true → (is_member m.status ≡ true) × (m.core.promise.by ≡ m.core.who)
leads_own m t =
    let a = both_of_and (acts_in_its_view m) ((view m).by == m.core.who) t in
    let b = both_of_and (is_member m.status) (stamps_are_equal m.core.promise (view m)) a.0 in
    let v = view m in
    (b.0, grind (arith, nat_tests))

pub unballoted_sequencer_is_first_founder : (rules : Rules) (list : List Entry) (acc i : ℕ) (m : Node) → UnballotedNodeKeeps rules list acc i m → is_sequencer m ≡ true → i ≡ first_founder_of rules
unballoted_sequencer_is_first_founder rules list acc i m h t =
    let a = leads_own m t in
    sym h.who ∙ sym a.1 ∙ ap (λ (s : Stamp). s.by) (h.status.promise (member_status_has_log m.status a.0))

-- ---- fronts

-- what is accepted goes on to what is told, and a joiner passes over what is below its Join
pub fronts_after_accept_and_pass : (first acc to i : ℕ) (core : CoreState) → acc ≤ to → core.told ≤ to → UnballotedFrontsAreInOrder first acc i core
    → UnballotedFrontsAreInOrder first to i (pass_over_below_join (raise_accepted_to_told core))
unfolding pass_over_below_join raise_accepted_to_told
fronts_after_accept_and_pass first acc to i core up low h =
    split_on_bool (nat_lt core.taken (core.start - 1))
    (λ y. rw y (record {
      accepted = omega arith;
      within = omega arith;
      taken = omega arith;
      base = h.base;
      told = λ d. low;
      passed = λ b. omega arith;
    }))
    (λ n. let z : core.start - 1 ≤ core.taken = grind (arith, nat_tests) in
    rw n (record {
      accepted = omega arith;
      within = omega arith;
      taken = omega arith;
      base = h.base;
      told = λ d. low;
      passed = λ b. absurd (omega arith);
    }))

-- ---- a send that is settled

-- where a send of the node's own stands among what is accepted
pub record FoundAmongAccepted (m : Node) (req k : ℕ) : Type 0 where
  pub body : List ℕ
  pub there : slice_get m.core.log.entries ((m.core.base - m.core.log.start) + k) ≡ Some (Data m.core.who req body)
  pub low : m.core.base + k < m.core.acc

pub accepted_at_gives_found_send : (m : Node) (req k : ℕ) → accepted_number_of_send m req ≡ Some k → FoundAmongAccepted m req k
accepted_at_gives_found_send m req k is =
    let test = is_data_of m.core.who req in
    let above = entries_above m m.core.base in
    let few = m.core.acc - m.core.base in
    let p = position-Some test (take few above) k (Join 0) is in
    let e = get_or (take few above) k (Join 0) in
    let found = data_of_own_request m.core.who req e p.1 in
    let low = p.0 in
    let long = length-take few above in
    let here = slice_get-get_or (take few above) k (Join 0) low in
    let there : slice_get m.core.log.entries ((m.core.base - m.core.log.start) + k) ≡ Some e =
    sym (slice_get-drop (m.core.base - m.core.log.start) k m.core.log.entries) ∙ slice_get_of_take few above k e here in
    record { body = found.0; there = there ∙ ap Some found.1; low = omega arith }

settled_stands : (rules : Rules) (list : List Entry) (acc i : ℕ) (m : Node) (req k : ℕ) → UnballotedNodeKeeps rules list acc i m → accepted_number_of_send m req ≡ Some k
    → (body : List ℕ) × AcceptedStandsAt list acc (m.core.base + 1 + k) (Data i req body)
settled_stands rules list acc i m req k h is =
    let f = accepted_at_gives_found_send m req k is in
    let low = f.low in
    let at = slice_get_within_whole list m.core.log.start m.core.log.entries ((m.core.base - m.core.log.start) + k) (Data m.core.who req f.body) h.log.within f.there in
    let there : item_at list (m.core.base + 1 + k) ≡ Some (Data m.core.who req f.body) =
    slice_get_is_item_at list (m.core.base + 1 + k) (m.core.log.start + ((m.core.base - m.core.log.start) + k)) _ (omega arith) at in
    (f.body, record { low = omega arith; there = there ∙ ap (λ w. Some (Data w req f.body)) h.who })

settled_send : (list : List Entry) (acc i req number : ℕ) (s : OwnSend) → ((body : List ℕ) × AcceptedStandsAt list acc number (Data i req body)) → OwnSendIsSettledRight list acc i s
    → OwnSendIsSettledRight list acc i (own.settle_send req number s)
settled_send list acc i req number s stands h = split_on_bool (s.req == req)
    (λ t. let e : req ≡ s.req = grind (arith, nat_tests) in rw t (stands.0, subst (λ r. AcceptedStandsAt list acc number (Data i r stands.0)) e stands.1))
    (λ f. rw f h)

with_queue : (rules : Rules) (list : List Entry) (acc i : ℕ) (m : Node) (sends : own.Sends) → All (OwnSendIsSettledRight list acc i) sends.queue → UnballotedNodeKeeps rules list acc i m
    → UnballotedNodeKeeps rules list acc i (record m { sends = sends })
with_queue rules list acc i m sends q h = record { who = h.who; log = h.log; fronts = h.fronts; status = h.status; sends = q }

pub settle_keeps_unballoted_node : (rules : Rules) (list : List Entry) (acc i : ℕ) (m : Node) → UnballotedNodeKeeps rules list acc i m → UnballotedNodeKeeps rules list acc i (settle_waiting_send m)
settle_keeps_unballoted_node rules list acc i m h = settle_keeps_property (UnballotedNodeKeeps rules list acc i) m h (λ s k w is.
    let number = m.core.base + 1 + k in
    let stands = settled_stands rules list acc i m s.req k h is in
    with_queue rules list acc i m (own.settle_request s.req number m.sends)
    (All-map (OwnSendIsSettledRight list acc i) (own.settle_send s.req number) m.sends.queue
    (All-weaker (OwnSendIsSettledRight list acc i) (λ x. OwnSendIsSettledRight list acc i (own.settle_send s.req number x))
    (λ x. settled_send list acc i s.req number x stands) m.sends.queue h.sends)) h)

-- ---- sends

pub submit_keeps_unballoted_node : (rules : Rules) (list : List Entry) (acc i : ℕ) (m : Node) (body : List ℕ) → UnballotedNodeKeeps rules list acc i m
    → UnballotedNodeKeeps rules list acc i (record m { sends = own.queue_send body m.sends })
submit_keeps_unballoted_node rules list acc i m body h = with_queue rules list acc i m (own.queue_send body m.sends) (All-push (OwnSendIsSettledRight list acc i) m.sends.queue _ h.sends tt) h

pub collect_keeps_unballoted_node : (rules : Rules) (list : List Entry) (acc i : ℕ) (m : Node) (req : ℕ) → UnballotedNodeKeeps rules list acc i m
    → UnballotedNodeKeeps rules list acc i (record m { sends = own.collect req m.sends })
collect_keeps_unballoted_node rules list acc i m req h = split_on_bool (own.has_settled_send req m.sends)
    (λ t. rw t (with_queue rules list acc i m _ (All-filter (λ s. not (own.send_has_request req s)) (OwnSendIsSettledRight list acc i) m.sends.queue h.sends) h))
    (λ f. rw f h)
