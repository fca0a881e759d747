-- A send of a node's own that is settled has a number that the node has accepted, and who has no list has no sends.
use Rattle.am_step_laws.proofs.Words.{◌≡◌, ℕ, ◌+◌, ◌-◌, ◌<◌, ◌≤◌, ◌==◌, not, Bool, true, false, ◌||◌, filter, List, [], ◌∷◌, length, take, Option, Some, None, refl}
use Rattle.am_step_laws.proofs.Words.{sym, ap, ◌∙◌, subst, arith, nat_tests, All, All-nil, All-cons, All-append, All-map, All-filter, All-weaker, length-take, split_on_bool}
use Rattle.am_step_laws.proofs.Words.{Leave, Outcome, Rules, OwnSend, Event, Node, Ballot, push_entry, waiting_send_of, has_log_by_status, is_member, is_asking_status, founder, stranger_node}
use Rattle.am_step_laws.proofs.Words.{accepted_number_of_send, settle_send_at, settle_send_where_accepted, settle_waiting_send, refresh, refresh_at_end, BallotVerdict, run, Cause, nat_lt, LooksAtBallot, finds_itself_out}
use Rattle.am_step_laws.proofs.Words.{Change, refreshes, settles, begins_list, looks, queues, collects, closes, departs, asks_to_join, refresh_changes_only_fronts, refresh_rests_with_list}
use Rattle.am_step_laws.proofs.Words.{member_status_has_log, asking_status_has_no_log}
use Rattle.std.proofs.Common.{cond, map}
use Rattle.std.specs.List.{position, position_or_len}
use Rattle.am_node_defs.specs.Sends as own
use Rattle.am_model.specs.Node.{entries_above}
use Rattle.am_model.specs.Refresh.{is_data_of}
use Rattle.am_step_laws.proofs.Nodes.{IsKeptFromTheFirst, nodes_of_runs_keep}
use Rattle.std.proofs.lemmas.Bool.{and_parts}

-- its number is one of these, where it has one
abbrev pub SendIsSettledUpTo : ℕ → OwnSend → Type 0
SendIsSettledUpTo most s = (number : ℕ) → s.number ≡ Some number → number ≤ most

pub record SendsAreSettledUpTo (m : Node) : Type 0 where
  pub blank : has_log_by_status m.status ≡ false → m.sends.queue ≡ []
  pub settled : All (SendIsSettledUpTo m.core.acc) m.sends.queue

up_to_more : (least most : ℕ) (s : OwnSend) → least ≤ most → SendIsSettledUpTo least s → SendIsSettledUpTo most s
up_to_more least most s low h = λ number is. let k = h number is in omega arith

all_more : (least most : ℕ) (queue : List OwnSend) → least ≤ most → All (SendIsSettledUpTo least) queue → All (SendIsSettledUpTo most) queue
all_more least most queue low h = All-weaker (SendIsSettledUpTo least) (SendIsSettledUpTo most) (λ s. up_to_more least most s low) queue h

-- ---- settling

low_by : (b : Bool) (at k most : ℕ) → nat_lt at most ≡ b → cond b (Some at) None ≡ Some k → k < most
low_by true at k most low is = let same : at ≡ k = cc in grind (arith, nat_tests)
low_by false at k most low is = cc

position_low : {A : Type 0} (p : A → Bool) (xs : List A) (k : ℕ) → position p xs ≡ Some k → k < length xs
position_low p xs k at = low_by (nat_lt (position_or_len p xs) (length xs)) (position_or_len p xs) k (length xs) refl at

settled_up : (most req number : ℕ) (s : OwnSend) → number ≤ most → SendIsSettledUpTo most s → SendIsSettledUpTo most (own.settle_send req number s)
settled_up most req number s low h = split_on_bool (s.req == req)
    (λ t. rw t (λ n is. let same : number ≡ n = cc in omega arith))
    (λ f. rw f h)

at_ok : (m : Node) (req : ℕ) (at : Option ℕ) → accepted_number_of_send m req ≡ at → SendsAreSettledUpTo m → SendsAreSettledUpTo (settle_send_at m req at)
at_ok m req None is h = h
at_ok m req (Some k) is h =
    let kept = take (m.core.acc - m.core.base) (entries_above m m.core.base) in
    let low : k < length kept = position_low (is_data_of m.core.who req) kept k is in
    let few = length-take (m.core.acc - m.core.base) (entries_above m m.core.base) in
    let number = m.core.base + 1 + k in
    let within : number ≤ m.core.acc = omega (arith, low, few) in
    let f = own.settle_send req number in
    record {
      blank = λ none. ap (λ (queue : List OwnSend). map f queue) (h.blank none);
      settled = All-map (SendIsSettledUpTo m.core.acc) f m.sends.queue (All-weaker (SendIsSettledUpTo m.core.acc) (λ s. SendIsSettledUpTo m.core.acc (f s))
          (λ s x. settled_up m.core.acc req number s within x) m.sends.queue h.settled);
    }

waiting_ok : (m : Node) (s : Option OwnSend) → SendsAreSettledUpTo m → SendsAreSettledUpTo (settle_send_where_accepted m s)
waiting_ok m None h = h
waiting_ok m (Some s) h = at_ok m s.req (accepted_number_of_send m s.req) refl h

settle_ok : (m : Node) → SendsAreSettledUpTo m → SendsAreSettledUpTo (settle_waiting_send m)
unfolding settle_waiting_send
settle_ok m h = waiting_ok m (waiting_send_of m) h

refresh_ok : (m : Node) → SendsAreSettledUpTo m → SendsAreSettledUpTo (refresh m)
refresh_ok m h =
    let r = (refresh_rests_with_list m).rests in
    let same : (refresh m).sends ≡ m.sends = ap (λ (x : Node). x.sends) (refresh_changes_only_fronts m) in
    let up = r.rises.acc in
    record {
      blank = λ none. ap (λ (s : own.Sends). s.queue) same ∙ h.blank (ap has_log_by_status (sym r.status) ∙ none);
      settled = subst (λ (s : own.Sends). All (SendIsSettledUpTo (refresh m).core.acc) s.queue) (sym same)
          (all_more m.core.acc (refresh m).core.acc m.sends.queue up h.settled);
    }

end_ok : (m : Node) → SendsAreSettledUpTo m → SendsAreSettledUpTo (refresh_at_end m)
unfolding refresh_at_end
end_ok m h = settle_ok (refresh m) (refresh_ok m h)

-- ---- each change

look_ok : (m : Node) (b : Ballot) (v : BallotVerdict) → LooksAtBallot m b v → SendsAreSettledUpTo m → SendsAreSettledUpTo v.node
look_ok m b v (finds_itself_out x) h = record { blank = h.blank; settled = h.settled }
look_ok m b v _ h = record { blank = h.blank; settled = h.settled }

change_ok : {c : Cause} {o : Outcome} (m n : Node) → Change c o m n → SendsAreSettledUpTo m → SendsAreSettledUpTo n
change_ok m n refreshes h = refresh_ok m h
change_ok m n settles h = settle_ok m h
change_ok m n (begins_list s v base join image is o may) h =
    let asks = (and_parts (not (s == m.core.who)) (is_member m.status || is_asking_status m.status) may.asks).1 in
    let asking : is_asking_status m.status ≡ true = ap (λ b. b || is_asking_status m.status) (sym may.no_member) ∙ asks in
    let none = h.blank (asking_status_has_no_log m.status asking) in
    record { blank = λ f. none; settled = subst (All (SendIsSettledUpTo n.core.acc)) (sym none) (All-nil (SendIsSettledUpTo n.core.acc)) }
change_ok m n (looks b verdict over why look is) h = look_ok m b verdict look h
change_ok m n (queues body is o member stays few) h =
    let new : OwnSend = record { req = m.sends.last + 1; body = body; number = None } in
    record {
      blank = λ none. absurd (let log = member_status_has_log m.status member in let no : true ≡ false = sym log ∙ none in cc);
      settled = All-append (SendIsSettledUpTo m.core.acc) m.sends.queue (new ∷ []) h.settled
          (All-cons (SendIsSettledUpTo m.core.acc) new [] (λ number is. absurd (cc)) (All-nil (SendIsSettledUpTo m.core.acc)));
    }
change_ok m n (collects req is) h = split_on_bool (own.has_settled_send req m.sends)
    (λ t. rw t (record {
      blank = λ none. ap (λ (queue : List OwnSend). filter (λ s. not (own.send_has_request req s)) queue) (h.blank none);
      settled = All-filter (λ s. not (own.send_has_request req s)) (SendIsSettledUpTo m.core.acc) m.sends.queue h.settled;
    }))
    (λ f. rw f h)
change_ok m n (departs s v number is by leaving) h = record { blank = λ none. absurd (cc); settled = h.settled }
change_ok m n (asks_to_join is status) h = record { blank = λ none. h.blank (ap has_log_by_status status); settled = h.settled }
change_ok m n (closes leads leaves alone room) h =
    let k = end_ok (push_entry m (Leave m.core.who)) (record { blank = h.blank; settled = h.settled }) in
    record { blank = λ none. absurd (cc); settled = k.settled }
change_ok m n _ h = record { blank = h.blank; settled = h.settled }

founder_ok : (rules : Rules) (name : ℕ) → SendsAreSettledUpTo (founder rules name)
founder_ok rules name = record { blank = λ none. refl; settled = All-nil (SendIsSettledUpTo 1) }

stranger_ok : (rules : Rules) (name : ℕ) → SendsAreSettledUpTo (stranger_node rules name)
stranger_ok rules name = record { blank = λ none. refl; settled = All-nil (SendIsSettledUpTo 0) }

sends_own : (rules : Rules) → IsKeptFromTheFirst rules SendsAreSettledUpTo
sends_own rules = record { founder_has = founder_ok rules; stranger_has = stranger_ok rules; change_keeps = λ m n. change_ok m n }

pub sends_of_runs_are_settled : (rules : Rules) (events : List Event) (name : ℕ) → SendsAreSettledUpTo ((run rules events).nodes name)
sends_of_runs_are_settled rules events name = nodes_of_runs_keep rules SendsAreSettledUpTo (sends_own rules) events name
