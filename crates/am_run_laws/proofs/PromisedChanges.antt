-- What each change keeps of a promise, and the stamps of letters.
use Rattle.am_run_laws.proofs.PromisedWords.{◌≡◌, ◌⊎◌, inl, inr, ℕ, List, refl, sym, ap, ◌∙◌, subst, Stamp, Outcome, Packet, sender_of, stamp_of, Node, Ballot}
use Rattle.am_run_laws.proofs.PromisedWords.{BallotVerdict, Cause, hears, LooksAtBallot, finds_itself_out, MayPromise, invited, overtaken, told_result, Change, refreshes, settles}
use Rattle.am_run_laws.proofs.PromisedWords.{begins_list, promises, opens, looks, closes, Says, request, refresh_rests_with_list, own_leave_rests, settle_changes_only_sends, StampIsAtMost, StampIsBegun}
use Rattle.am_run_laws.proofs.Stamps.{stamp_at_most_through_middle, stamp_at_most_next_round}

-- what is heard has a stamp that was begun
abbrev pub HeardStampWasBegun : (ℕ → Node) → Cause → Type 0
HeardStampWasBegun nodes (hears p) = StampIsBegun nodes (stamp_of p)
HeardStampWasBegun nodes _ = Unit {0}

-- of the name that acts: its promise is no lower than before, and was begun, or is of its own name
pub record PromiseWasBegun (nodes : ℕ → Node) (i : ℕ) (x : Node) : Type 0 where
  pub who : x.core.who ≡ i
  pub up : StampIsAtMost (nodes i).core.promise x.core.promise
  pub begun : (x.core.promise.by ≡ i) ⊎ StampIsBegun nodes x.core.promise

same_promise : (nodes : ℕ → Node) (i : ℕ) (x y : Node) → y.core.who ≡ x.core.who → y.core.promise ≡ x.core.promise → PromiseWasBegun nodes i x → PromiseWasBegun nodes i y
same_promise nodes i x y a b h = record {
  who = a ∙ h.who;
  up = subst (StampIsAtMost (nodes i).core.promise) (sym b) h.up;
  begun = subst (λ (v : Stamp). (v.by ≡ i) ⊎ StampIsBegun nodes v) (sym b) h.begun;
}

new_promise : (nodes : ℕ → Node) (i : ℕ) (x y : Node) (v : Stamp) → y.core.who ≡ x.core.who → y.core.promise ≡ v → StampIsAtMost x.core.promise v
    → (v.by ≡ i) ⊎ StampIsBegun nodes v → PromiseWasBegun nodes i x → PromiseWasBegun nodes i y
new_promise nodes i x y v a b low begun h = record {
  who = a ∙ h.who;
  up = subst (StampIsAtMost (nodes i).core.promise) (sym b) (stamp_at_most_through_middle (nodes i).core.promise x.core.promise v h.up low);
  begun = subst (λ (u : Stamp). (u.by ≡ i) ⊎ StampIsBegun nodes u) (sym b) begun;
}

looked : (nodes : ℕ → Node) (i : ℕ) (m : Node) (b : Ballot) (v : BallotVerdict) → LooksAtBallot m b v → PromiseWasBegun nodes i m → PromiseWasBegun nodes i v.node
looked nodes i m b v (finds_itself_out x) h = same_promise nodes i m _ refl refl h
looked nodes i m b v _ h = same_promise nodes i m _ refl refl h

raised : (nodes : ℕ → Node) (c : Cause) (m : Node) (v : Stamp) → MayPromise c m v → HeardStampWasBegun nodes c → StampIsBegun nodes v
raised nodes c m v (invited s w is heard own) h = subst (HeardStampWasBegun nodes) is h
raised nodes c m v (overtaken s w shown is heard above) h = subst (HeardStampWasBegun nodes) is h
raised nodes c m v (told_result s base number w is heard own other) h = subst (HeardStampWasBegun nodes) is h

pub change_keeps_promise_begun : (nodes : ℕ → Node) (i : ℕ) (c : Cause) (o : Outcome) (m n : Node) → HeardStampWasBegun nodes c → Change c o m n → PromiseWasBegun nodes i m
    → PromiseWasBegun nodes i n
change_keeps_promise_begun nodes i c o m n w refreshes h = let r = (refresh_rests_with_list m).rests in same_promise nodes i m n r.who r.promise h
change_keeps_promise_begun nodes i c o m n w settles h = same_promise nodes i m n (ap (λ (x : Node). x.core.who) (settle_changes_only_sends m))
    (ap (λ (x : Node). x.core.promise) (settle_changes_only_sends m)) h
change_keeps_promise_begun nodes i c o m n w (begins_list s v base join image is says may) h =
    new_promise nodes i m n v refl refl may.promise (inr (subst (HeardStampWasBegun nodes) is w)) h
change_keeps_promise_begun nodes i c o m n w (promises v low why) h = new_promise nodes i m n v refl refl low (inr (raised nodes c m v why w)) h
change_keeps_promise_begun nodes i c o m n w (opens least resilience by may) h = new_promise nodes i m n _ refl refl (stamp_at_most_next_round m.core.promise m.core.who) (inl h.who) h
change_keeps_promise_begun nodes i c o m n w (looks b verdict over why look is) h = looked nodes i m b verdict look h
change_keeps_promise_begun nodes i c o m n w (closes leads leaves last room) h = let r = own_leave_rests m in same_promise nodes i m n r.who r.promise h
change_keeps_promise_begun nodes i c o m n w _ h = same_promise nodes i m n refl refl h

-- ---- letters

-- each has its sender's name and promise
pub said_packet_has_sender_promise : (m : Node) (c : Cause) (n : Node) (to : List ℕ) (p : Packet) → Says m c n to p → (sender_of p ≡ n.core.who) × (stamp_of p ≡ n.core.promise)
said_packet_has_sender_promise m c n to p (request x req body a b s) = (refl, refl)
said_packet_has_sender_promise m c n to p _ = (refl, refl)
