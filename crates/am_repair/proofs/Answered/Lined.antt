-- A node's sends stand in line, and the request that may have gone out never falls.
use Rattle.am_step_laws.proofs.Words.{◌≡◌, ℕ, ◌+◌, ◌≤◌, min, true, false, List, [], ◌∷◌, find, Some, None, refl, ap, subst}
use Rattle.am_step_laws.proofs.Words.{arith, split_on_bool, Leave, Outcome, OwnSend, Node, Ballot, push_entry, waiting_send_of, BallotVerdict, refresh, settle_waiting_send, refresh_at_end}
use Rattle.am_step_laws.proofs.Words.{Cause, LooksAtBallot, finds_itself_out, Change, Changes, refreshes, settles, looks, queues, collects, closes}
use Rattle.am_step_laws.proofs.Words.{changes_keep_property, refresh_changes_only_fronts}
use Rattle.std.specs.Prelude.{is_some}
use Rattle.am_node_defs.specs.Sends as own
use Rattle.am_node_defs.specs.Sends.{unsettled_sends_are_in_line, next_unsettled_request, is_unsettled}
use Rattle.am_node_defs.proofs.Lines.{next_in_line_is_waiting, waiting_request_le_last, next_in_line_after_push, sends_in_line_after_push, sends_in_line_after_settle, sends_in_line_after_remove, settled_request_below_next}
use Rattle.am_step_laws.proofs.Rests.{settle_keeps_property}

pub record SendsOfNodeInLine (m : Node) : Type 0 where
  pub line : unsettled_sends_are_in_line m.sends.last m.sends.queue ≡ true

-- the last request that may have gone out: that of the send that waits, or the last
abbrev pub greatest_request_sent : Node → ℕ
greatest_request_sent m = min m.sends.last (own.next_request m.sends)

-- another node's may be higher
pub record NextRequestRose (m n : Node) : Type 0 where
  pub line : unsettled_sends_are_in_line n.sends.last n.sends.queue ≡ true
  pub last : m.sends.last ≤ n.sends.last
  pub next : own.next_request m.sends ≤ own.next_request n.sends

rose_here : (m : Node) → SendsOfNodeInLine m → NextRequestRose m m
rose_here m h = record { line = h.line; last = omega arith; next = omega arith }

-- the same sends
rose_same : (k m n : Node) → n.sends ≡ m.sends → NextRequestRose k m → NextRequestRose k n
rose_same k m n same h = subst (λ (s : own.Sends). (unsettled_sends_are_in_line s.last s.queue ≡ true) × (k.sends.last ≤ s.last) × (own.next_request k.sends ≤ own.next_request s)
    → NextRequestRose k n) same (λ x. subst (λ (s : own.Sends). NextRequestRose k n) same (rose_by k n x)) (h.line, h.last, h.next)
  where
    rose_by : (k n : Node) → (unsettled_sends_are_in_line n.sends.last n.sends.queue ≡ true) × (k.sends.last ≤ n.sends.last)
        × (own.next_request k.sends ≤ own.next_request n.sends) → NextRequestRose k n
    rose_by k n x = record { line = x.0; last = x.1; next = x.2 }

rose_settled : (k m : Node) → NextRequestRose k m → NextRequestRose k (settle_waiting_send m)
rose_settled k m h = settle_keeps_property (NextRequestRose k) m h (λ s number w at.
    let t = sends_in_line_after_settle m.sends.last s.req (m.core.base + 1 + number) m.sends.queue s h.line w refl in
    let before = next_in_line_is_waiting m.sends.last m.sends.queue s w in
    let next = h.next in
    let after = t.next in
    record { line = t.line; last = h.last; next = omega arith })

pub next_request_rose_by_refresh : (k m : Node) → NextRequestRose k m → NextRequestRose k (refresh m)
next_request_rose_by_refresh k m h = rose_same k m (refresh m) (ap (λ (x : Node). x.sends) (refresh_changes_only_fronts m)) h

rose_ended : (k m : Node) → NextRequestRose k m → NextRequestRose k (refresh_at_end m)
unfolding refresh_at_end
rose_ended k m h = rose_settled k (refresh m) (next_request_rose_by_refresh k m h)

rose_looked : (k m : Node) (b : Ballot) (v : BallotVerdict) → LooksAtBallot m b v → NextRequestRose k m → NextRequestRose k v.node
rose_looked k m b v (finds_itself_out x) h = record { line = h.line; last = h.last; next = h.next }
rose_looked k m b v _ h = record { line = h.line; last = h.last; next = h.next }

rose_change : {c : Cause} {o : Outcome} (k m n : Node) → Change c o m n → NextRequestRose k m → NextRequestRose k n
rose_change k m n refreshes h = next_request_rose_by_refresh k m h
rose_change k m n settles h = rose_settled k m h
rose_change k m n (looks b verdict over why look is) h = rose_looked k m b verdict look h
rose_change k m n (queues body is o member stays few) h =
    let new : OwnSend = record { req = m.sends.last + 1; body = body; number = None } in
    let same = next_in_line_after_push m.sends.last m.sends.queue new refl refl in
    let last = h.last in
    let next = h.next in
    record { line = sends_in_line_after_push m.sends.last m.sends.queue new refl refl h.line; last = omega arith; next = omega arith }
rose_change k m n (collects req is) h = split_on_bool (own.has_settled_send req m.sends)
    (λ t.
    let low = settled_request_below_next m.sends.last req m.sends.queue h.line t in
    let r = sends_in_line_after_remove m.sends.last req m.sends.queue h.line low in
    let same = r.next in
    let next = h.next in
    rw t (record { line = r.line; last = h.last; next = omega arith }))
    (λ f. rw f (record { line = h.line; last = h.last; next = h.next }))
rose_change k m n (closes leads leaves alone room) h =
    let e = rose_ended k (push_entry m (Leave m.core.who)) (record { line = h.line; last = h.last; next = h.next }) in
    record { line = e.line; last = e.last; next = e.next }
rose_change k m n _ h = record { line = h.line; last = h.last; next = h.next }

pub next_request_rose_by_changes : {c : Cause} {o : Outcome} {m n : Node} → Changes c o m n → SendsOfNodeInLine m → NextRequestRose m n
next_request_rose_by_changes {m = m} changes h = changes_keep_property (NextRequestRose m) (λ x y. rose_change m x y) changes (rose_here m h)

-- ---- what that says of the send that waits

pub waiting_request_le_sent : (m : Node) (s : OwnSend) → SendsOfNodeInLine m → waiting_send_of m ≡ Some s → s.req ≤ greatest_request_sent m
waiting_request_le_sent m s h w =
    let next = next_in_line_is_waiting m.sends.last m.sends.queue s w in
    let low = waiting_request_le_last m.sends.last m.sends.queue s h.line w in
    omega arith

-- where none waits the next is the one after the last
none_next : (last : ℕ) (q : List OwnSend) → is_some (find is_unsettled q) ≡ false → next_unsettled_request last q ≡ last + 1
none_next last [] none = refl
none_next last (s ∷ ss) none = split_on_bool (is_unsettled s)
    (λ t. absurd (let x = rw t at none in cc))
    (λ f. rw f (none_next last ss (rw f at none)))

pub next_request_if_none_waits : (m : Node) → is_some (waiting_send_of m) ≡ false → own.next_request m.sends ≡ m.sends.last + 1
next_request_if_none_waits m none = none_next m.sends.last m.sends.queue none
