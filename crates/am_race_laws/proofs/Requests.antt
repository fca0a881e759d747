-- A node's own sends have different requests, so that what is settled is told.
use Rattle.am_race_laws.proofs.Words.{◌≡◌, ℕ, suc, ◌+◌, ◌<◌, ◌≤◌, ◌==◌, not, Bool, true, false, true≢false, List, [], ◌∷◌, ◌++◌, map, filter, find, Some, None}
use Rattle.am_race_laws.proofs.Words.{is_some, refl, sym, ap, ◌∙◌, subst, arith, ne_eqb, All, ◌&&◌, ◌||◌, list_any, eqb-true, All-push, All-filter, All-map}
use Rattle.am_race_laws.proofs.Words.{All-weaker, Outcome, Leave, Rules, OwnSend, Sends, Event, Node, push_entry, BallotVerdict, refresh, settle_waiting_send, refresh_at_end, run}
use Rattle.am_race_laws.proofs.Words.{split_on_bool, Cause, refresh_changes_only_fronts}
use Rattle.am_node_defs.specs.Sends as own
use Rattle.am_step_laws.specs.Looks.{LooksAtBallot, finds_itself_out}
use Rattle.am_step_laws.specs.Changes.{Change, refreshes, settles, looks, queues, collects, closes}
use Rattle.std.proofs.Math.Bool.{or-false}
use Rattle.am_step_laws.proofs.Nodes.{nodes_of_runs_keep, IsKeptFromTheFirst}
use Rattle.am_step_laws.proofs.Rests.{settle_keeps_property}

-- ---- sends with different requests

-- none of these has the request
abbrev pub NoSendHasRequest : ℕ → List OwnSend → Type 0
NoSendHasRequest req sends = All (λ t. (t.req == req) ≡ false) sends

-- no two have one request
abbrev pub SendsHaveDifferentRequests : List OwnSend → Type 0
SendsHaveDifferentRequests [] = Unit {0}
SendsHaveDifferentRequests (s ∷ ss) = NoSendHasRequest s.req ss × SendsHaveDifferentRequests ss

-- none is above the last, and no two have one
pub record OwnRequestsAreOnce (s : Sends) : Type 0 where
  pub low : All (λ t. t.req ≤ s.last) s.queue
  pub apart : SendsHaveDifferentRequests s.queue

apart_push : (q : List OwnSend) (n : OwnSend) → All (λ t. t.req < n.req) q → SendsHaveDifferentRequests q → SendsHaveDifferentRequests (q ++ n ∷ [])
apart_push [] n low h = ((λ k d lt. absurd (omega arith)), tt)
apart_push (s ∷ q) n low h = (
  All-push (λ t. (t.req == s.req) ≡ false) q n h.0 (ne_eqb n.req s.req (λ e. let l : s.req < n.req = low 0 s (omega arith) in omega arith)),
  apart_push q n (λ k d lt. low (suc k) d (omega arith)) h.1,
)

apart_filter : (p : OwnSend → Bool) (q : List OwnSend) → SendsHaveDifferentRequests q → SendsHaveDifferentRequests (filter p q)
apart_filter p [] h = tt
apart_filter p (s ∷ q) h = split_on_bool (p s)
    (λ t. rw t (All-filter p (λ x. (x.req == s.req) ≡ false) q h.0, apart_filter p q h.1))
    (λ f. rw f (apart_filter p q h.1))

same_request : (req number : ℕ) (s : OwnSend) → (own.settle_send req number s).req ≡ s.req
same_request req number s = split_on_bool (s.req == req) (λ t. rw t refl) (λ f. rw f refl)

lack_map : (req number other : ℕ) (q : List OwnSend) → NoSendHasRequest other q → NoSendHasRequest other (map (own.settle_send req number) q)
lack_map req number other q h =
    All-map (λ (x : OwnSend). (x.req == other) ≡ false) (own.settle_send req number) q
    (All-weaker (λ (x : OwnSend). (x.req == other) ≡ false) (λ (x : OwnSend). ((own.settle_send req number x).req == other) ≡ false)
    (λ x e. ap (λ (n : ℕ). n == other) (same_request req number x) ∙ e) q h)

apart_map : (req number : ℕ) (q : List OwnSend) → SendsHaveDifferentRequests q → SendsHaveDifferentRequests (map (own.settle_send req number) q)
apart_map req number [] h = tt
apart_map req number (s ∷ q) h = (
  subst (λ (n : ℕ). NoSendHasRequest n (map (own.settle_send req number) q)) (sym (same_request req number s)) (lack_map req number s.req q h.0),
  apart_map req number q h.1,
)

once_submit : (body : List ℕ) (s : Sends) → OwnRequestsAreOnce s → OwnRequestsAreOnce (own.queue_send body s)
once_submit body s h =
    let n : OwnSend = record { req = s.last + 1; body = body; number = None } in record {
      low = All-push (λ (t : OwnSend). t.req ≤ s.last + 1) s.queue n
          (All-weaker (λ (t : OwnSend). t.req ≤ s.last) (λ (t : OwnSend). t.req ≤ s.last + 1) (λ t l. omega arith) s.queue h.low) (omega arith);
      apart = apart_push s.queue n (All-weaker (λ (t : OwnSend). t.req ≤ s.last) (λ (t : OwnSend). t.req < s.last + 1) (λ t l. omega arith) s.queue h.low)
          h.apart;
    }

once_collect : (req : ℕ) (s : Sends) → OwnRequestsAreOnce s → OwnRequestsAreOnce (own.collect req s)
once_collect req s h = split_on_bool (own.has_settled_send req s)
    (λ t. rw t (record {
      low = All-filter (λ x. not (own.send_has_request req x)) (λ (x : OwnSend). x.req ≤ s.last) s.queue h.low;
      apart = apart_filter (λ x. not (own.send_has_request req x)) s.queue h.apart;
    }))
    (λ f. rw f h)

once_settle : (req number : ℕ) (s : Sends) → OwnRequestsAreOnce s → OwnRequestsAreOnce (own.settle_request req number s)
once_settle req number s h = record {
  low = All-map (λ (x : OwnSend). x.req ≤ s.last) (own.settle_send req number) s.queue
      (All-weaker (λ (x : OwnSend). x.req ≤ s.last) (λ (x : OwnSend). (own.settle_send req number x).req ≤ s.last)
      (λ x l. subst (λ (n : ℕ). n ≤ s.last) (sym (same_request req number x)) l) s.queue h.low);
  apart = apart_map req number s.queue h.apart;
}

-- ---- changes

abbrev NodeOnce : Node → Type 0
NodeOnce m = OwnRequestsAreOnce m.sends

once_at_end : (m : Node) → NodeOnce m → NodeOnce (settle_waiting_send m)
once_at_end m h = settle_keeps_property NodeOnce m h (λ s k w at. once_settle s.req (m.core.base + 1 + k) m.sends h)

once_refreshed : (m : Node) → NodeOnce m → NodeOnce (refresh m)
once_refreshed m h = subst NodeOnce (sym (refresh_changes_only_fronts m)) h

once_refreshed_at_end : (m : Node) → NodeOnce m → NodeOnce (refresh_at_end m)
unfolding refresh_at_end
once_refreshed_at_end m h = once_at_end (refresh m) (once_refreshed m h)

look_once : (m : Node) (b : _) (v : BallotVerdict) → LooksAtBallot m b v → NodeOnce m → NodeOnce v.node
look_once m b v (finds_itself_out x) h = h
look_once m b v _ h = h

change_once : {c : Cause} {o : Outcome} → (m n : Node) → Change c o m n → NodeOnce m → NodeOnce n
change_once m n refreshes h = once_refreshed m h
change_once m n settles h = once_at_end m h
change_once m n (looks b verdict over why look is) h = look_once m b verdict look h
change_once m n (queues body is o member stays few) h = once_submit body m.sends h
change_once m n (collects req is) h = once_collect req m.sends h
change_once m n (closes leads leaves alone room) h = once_refreshed_at_end (push_entry m (Leave m.core.who)) h
change_once m n _ h = h

-- ---- runs

first_once : OwnRequestsAreOnce own.no_sends
first_once = record { low = λ k d lt. absurd (omega arith); apart = tt }

once_own : (rules : Rules) → IsKeptFromTheFirst rules NodeOnce
once_own rules = record { founder_has = λ name. first_once; stranger_has = λ name. first_once; change_keeps = λ m n. change_once m n }

pub own_requests_once_in_runs : (rules : Rules) (events : List Event) (name : ℕ) → OwnRequestsAreOnce ((run rules events).nodes name).sends
own_requests_once_in_runs rules = nodes_of_runs_keep rules NodeOnce (once_own rules)

-- ---- what is settled is told

lacks_none : (req : ℕ) (q : List OwnSend) → NoSendHasRequest req q → list_any (λ send. (send.req == req) && is_some send.number) q ≡ false
lacks_none req [] h = refl
lacks_none req (s ∷ q) h =
    let here : (s.req == req) ≡ false = h 0 s (omega arith) in
    ap (λ (b : Bool). (b && is_some s.number) || list_any (λ send. (send.req == req) && is_some send.number) q) here
    ∙ lacks_none req q (λ k d lt. h (suc k) d (omega arith))

-- the send of a request that is settled has its number
pub settled_request_has_its_number : (req : ℕ) (q : List OwnSend) → SendsHaveDifferentRequests q → list_any (λ send. (send.req == req) && is_some send.number) q ≡ true
    → (s : OwnSend) × (find (own.send_has_request req) q ≡ Some s) × (is_some s.number ≡ true)
settled_request_has_its_number req [] h is = absurd (true≢false (sym is))
settled_request_has_its_number req (s ∷ q) h is = split_on_bool (s.req == req)
    (λ t.
    let same : s.req ≡ req = eqb-true s.req req t in
    let rest = lacks_none req q (subst (λ (n : ℕ). NoSendHasRequest n q) same h.0) in (
      s,
      rw t refl,
      sym (or-false (is_some s.number)) ∙ rw (t, rest) at is,
    ))
    (λ f.
    let more = settled_request_has_its_number req q h.1 (rw f at is) in
    (more.0, rw f more.1, more.2))
