-- Each run keeps promises.
use Rattle.am_run_laws.proofs.PromisedWords.{◌≡◌, ⊎_elim, inl, inr, ℕ, ◌==◌, true, refl, sym, ap, ◌∙◌, subst, arith, All, nat_tests, All-nil, All-append, All-weaker}
use Rattle.am_run_laws.proofs.PromisedWords.{Stamp, no_stamp, Rules, MayFound, has, Letter, sender_of, stamp_of, Act, Node, map_with_value, founding_stamp, World, start}
use Rattle.am_run_laws.proofs.PromisedWords.{world_with_record, world_with_step, run, packet_heard_by_act, split_on_bool, Cause, hears, LetterSays, acting_name, IsCause, steps, item_of_index_has_property}
use Rattle.am_run_laws.proofs.PromisedWords.{all_gives_item_at, changes_keep_property, EventsKeep, runs_keep_what_events_keep, lowest_founder_founds, StampIsAtMost, StampIsBegun, LetterStampIsSound, PromisesAreBegun}
use Rattle.am_run_laws.proofs.{Stamps.stamp_at_most_itself, Stamps.stamp_at_most_through_middle, PromisedChanges.HeardStampWasBegun, PromisedChanges.PromiseWasBegun, PromisedChanges.change_keeps_promise_begun, PromisedChanges.said_packet_has_sender_promise}

pub record PromisesAndStampsWereBegun (w : World) : Type 0 where
  pub who : (i : ℕ) → (w.nodes i).core.who ≡ i
  pub each : (i : ℕ) → StampIsBegun w.nodes (w.nodes i).core.promise
  pub letters : All (LetterStampIsSound w.nodes) w.letters

-- a name's promise rises
most_up : (nodes : ℕ → Node) (i : ℕ) (n : Node) (v : Stamp) (name : ℕ) → StampIsAtMost (nodes i).core.promise n.core.promise → StampIsAtMost v (nodes name).core.promise
    → StampIsAtMost v (map_with_value nodes i n name).core.promise
most_up nodes i n v name up h = split_on_bool (name == i)
    (λ t. let e : name ≡ i = grind (arith, nat_tests) in rw t
    (stamp_at_most_through_middle v (nodes i).core.promise n.core.promise (subst (λ x. StampIsAtMost v (nodes x).core.promise) e h) up))
    (λ f. rw f h)

begun_up : (nodes : ℕ → Node) (i : ℕ) (n : Node) (v : Stamp) → StampIsAtMost (nodes i).core.promise n.core.promise → StampIsBegun nodes v → StampIsBegun (map_with_value nodes i n) v
begun_up nodes i n v up h = ⊎_elim (λ (x : v ≡ no_stamp). inl x) (λ (x : StampIsAtMost v (nodes v.by).core.promise). inr (most_up nodes i n v v.by up x)) h

stamp_up : (nodes : ℕ → Node) (i : ℕ) (n : Node) (l : Letter) → StampIsAtMost (nodes i).core.promise n.core.promise → LetterStampIsSound nodes l → LetterStampIsSound (map_with_value nodes i n) l
stamp_up nodes i n l up h = record {
  sender = most_up nodes i n (stamp_of l.packet) (sender_of l.packet) up h.sender;
  begun = begun_up nodes i n (stamp_of l.packet) up h.begun;
}

pub heard_stamp_was_begun : (w : World) (i : ℕ) (a : Act) (c : Cause) → All (LetterStampIsSound w.nodes) w.letters → IsCause w i a c → HeardStampWasBegun w.nodes c
heard_stamp_was_begun w i a (hears p) h is = subst (λ x. StampIsBegun w.nodes (stamp_of x)) is.is
    (all_gives_item_at (LetterStampIsSound w.nodes) w.letters (packet_heard_by_act a) is.letter h is.there).begun
heard_stamp_was_begun w i a _ h is = tt

own_begun : (nodes : ℕ → Node) (i : ℕ) (n : Node) → PromiseWasBegun nodes i n → StampIsBegun (map_with_value nodes i n) n.core.promise
own_begun nodes i n p = ⊎_elim
    (λ (x : n.core.promise.by ≡ i). inr (let t : (n.core.promise.by == i) ≡ true = grind (arith, nat_tests) in rw t (stamp_at_most_itself n.core.promise)))
    (λ (x : StampIsBegun nodes n.core.promise). begun_up nodes i n n.core.promise p.up x)
    p.begun

pub events_keep_promises_begun : EventsKeep PromisesAndStampsWereBegun
unfolding world_with_record world_with_step
events_keep_promises_begun w e v (steps c s runs cause effect) h =
    let i = acting_name w e in
    let n = s.node in
    let ok = heard_stamp_was_begun w i e.act c h.letters cause in
    let p = changes_keep_property (PromiseWasBegun w.nodes i) (λ x y. change_keeps_promise_begun w.nodes i c s.outcome x y ok) effect.changes
    (record { who = h.who i; up = stamp_at_most_itself (w.nodes i).core.promise; begun = inr (h.each i) }) in
    let begun = own_begun w.nodes i n p in
    let self : (i == i) ≡ true = grind (arith, nat_tests) in
    let here : StampIsAtMost n.core.promise (map_with_value w.nodes i n i).core.promise = rw self (stamp_at_most_itself n.core.promise) in
    let who = ap (λ (x : Node). x.core.who) effect.is in
    let promise = ap (λ (x : Node). x.core.promise) effect.is in
    let new : (l : Letter) → LetterSays (w.nodes i) c effect.sender l → LetterStampIsSound (map_with_value w.nodes i n) l = λ l x.
    (let b = said_packet_has_sender_promise (w.nodes i) c effect.sender l.to l.packet x.says in
    let sender : sender_of l.packet ≡ i = b.0 ∙ sym who ∙ p.who in
    let stamp : stamp_of l.packet ≡ n.core.promise = b.1 ∙ sym promise in
    record {
      sender = subst (λ k. StampIsAtMost (stamp_of l.packet) (map_with_value w.nodes i n k).core.promise) (sym sender)
          (subst (λ u. StampIsAtMost u (map_with_value w.nodes i n i).core.promise) (sym stamp) here);
      begun = subst (StampIsBegun (map_with_value w.nodes i n)) (sym stamp) begun;
    }) in
    record {
      who = λ j. split_on_bool (j == i) (λ t. let e : i ≡ j = grind (arith, nat_tests) in rw t (p.who ∙ e)) (λ f. rw f (h.who j));
      each = λ j. split_on_bool (j == i) (λ t. rw t begun) (λ f. rw f (begun_up w.nodes i n (w.nodes j).core.promise p.up (h.each j)));
      letters = All-append (LetterStampIsSound (map_with_value w.nodes i n)) w.letters s.letters
          (All-weaker (LetterStampIsSound w.nodes) (LetterStampIsSound (map_with_value w.nodes i n)) (λ l. stamp_up w.nodes i n l p.up) w.letters h.letters)
          (All-weaker (LetterSays (w.nodes i) c effect.sender) (LetterStampIsSound (map_with_value w.nodes i n)) new s.letters effect.letters);
    }
events_keep_promises_begun w e v _ h = record { who = h.who; each = h.each; letters = h.letters }

-- ---- the start

pub start_has_promises_begun : (rules : Rules) → MayFound rules → PromisesAndStampsWereBegun (start rules)
start_has_promises_begun rules may =
    let there : has rules.founders (founding_stamp rules).by ≡ true = (lowest_founder_founds rules may).founds in
    let first : StampIsAtMost (founding_stamp rules) ((start rules).nodes (founding_stamp rules).by).core.promise = rw there (stamp_at_most_itself (founding_stamp rules)) in
    record {
      who = λ i. split_on_bool (has rules.founders i) (λ t. rw t refl) (λ f. rw f refl);
      each = λ i. split_on_bool (has rules.founders i) (λ t. rw t (inr first)) (λ f. rw f (inl refl));
      letters = All-nil _;
    }

pub promises_are_begun : PromisesAreBegun
promises_are_begun rules events may =
    let w = run rules events in
    let h = runs_keep_what_events_keep PromisesAndStampsWereBegun events_keep_promises_begun (start rules) events (start_has_promises_begun rules may) in
    record { each = h.each; letters = λ k letter is. item_of_index_has_property (LetterStampIsSound w.nodes) w.letters k letter h.letters is }
