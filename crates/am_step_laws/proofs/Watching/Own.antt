-- Views of a name come from that name alone: along the changes of a step, its promise never falls, what it tells is what it decided, and
-- each View in its list is of another name's list or is not above its own view.
use Rattle.am_model.specs.Ballots.{decided_view}
use Rattle.am_base.specs.declared.entry.GroupView.{GroupView}
use Rattle.am_step_laws.proofs.Watching.WatchedWords.{eqb-false, bool_is_not_both, view_never_falls_in_growth, next_round_is_above, welcomed_node_has_no_log, eqb-true, ◌≡◌, ◌⊎◌, inl, inr, ⊎_elim, ℕ, ◌==◌}
use Rattle.am_step_laws.proofs.Watching.WatchedWords.{◌||◌, not, true, false, List, [], ◌∷◌, ◌++◌, Option, Some, refl, sym, ap, ◌∙◌, subst, arith, All, nat_tests, All-nil}
use Rattle.am_step_laws.proofs.Watching.WatchedWords.{All-cons, All-append, All-weaker, Outcome, Stamp, Entry, Leave, View, stamp_is_less, Log, Packet, Node, Ballot, view}
use Rattle.am_step_laws.proofs.Watching.WatchedWords.{is_member, is_asking_status, push_entry, has_log_by_status, BallotVerdict, next_stamp, need_set_of, need_set_without_given_up, trim_to_least_taken_by, refresh, settle_waiting_send, is_view}
use Rattle.am_step_laws.proofs.Watching.WatchedWords.{both_of_and, Cause, hears, LooksAtBallot, decides, MayPromise, invited, overtaken_by}
use Rattle.am_step_laws.proofs.Watching.WatchedWords.{told_result, Change, refreshes, settles, numbers, stores, begins_list, promises, opens, looks, fetches, stores_view}
use Rattle.am_step_laws.proofs.Watching.WatchedWords.{closes, Changes, unchanged, changed, refresh_rests_with_list, end_refresh_rests_with_list, settle_changes_only_sends, stamp_of, stamp_at_most_is_transitive, lower_stamp_is_not_above}
use Rattle.am_step_laws.proofs.Watching.WatchedWords.{stamp_not_below_itself, NodePartsHaveNames, HeardStampsHaveNames, view_of_pushed_view, NodeBallotFits, BallotIsOpenAndPromised, ChangeKeepsListAndBallot, changes_keep_list_and_names, numbered_entry_is_no_view}
use Rattle.am_base.specs.declared.outcome.Outcome.TheVariants as said
use Rattle.am_packet.specs.declared.packet.Packet.TheVariants as packet
use Rattle.am_step_laws.proofs.ViewChanges.{balloting_looks_at_open_ballot}

-- ---- what is known of nodes before a step

-- a stamp is at most its name's promise
abbrev pub StampIsBelowPromise : (ℕ → Node) → Stamp → Type 0
StampIsBelowPromise nodes v = stamp_is_less (nodes v.by).core.promise v ≡ false

-- a View isn't above the view of its name, which has a list
pub record ViewIsKnownToName (nodes : ℕ → Node) (v : Stamp) : Type 0 where
  pub low : stamp_is_less (view (nodes v.by)) v ≡ false
  pub has_list : has_log_by_status (nodes v.by).status ≡ true

abbrev pub EntryViewIsKnown : (ℕ → Node) → Entry → Type 0
EntryViewIsKnown nodes (View v) = ViewIsKnownToName nodes v.stamp
EntryViewIsKnown nodes _ = Unit {0}

-- what is heard was known
pub record HeardViewsAreKnown (nodes : ℕ → Node) (c : Cause) : Type 0 where
  pub stamp : (p : Packet) → c ≡ hears p → StampIsBelowPromise nodes (stamp_of p)
  pub piece : (s : ℕ) (v : Stamp) (base number : ℕ) (e : Entry) → c ≡ hears (packet.Piece s v base number e) → EntryViewIsKnown nodes e
  pub result : (s : ℕ) (base number : ℕ) (v : GroupView) → c ≡ hears (packet.Result s base number v)
      → (v.stamp.by == s) ≡ true → ViewIsKnownToName nodes v.stamp

-- ---- what is so along a step

-- where the last ballot was decided and the promise is the node's own, it is that of the ballot
pub record DecidedBallotIsThePromise (who : ℕ) (promise : Stamp) (ballot : Option Ballot) : Type 0 where
  pub is : (b : Ballot) (number : ℕ) (names : List ℕ) → ballot ≡ Some b → b.answer ≡ said.Decided number names → promise.by ≡ who → promise ≡ b.stamp

pub record ViewIsOfThisNode (name : ℕ) (x : Node) (v : Stamp) : Type 0 where
  pub by : v.by ≡ name
  pub low : stamp_is_less (view x) v ≡ false
  pub has_list : has_log_by_status x.status ≡ true

abbrev pub EntryViewKnownOrOwn : (ℕ → Node) → ℕ → Node → Entry → Type 0
EntryViewKnownOrOwn nodes name x (View v) = ViewIsKnownToName nodes v.stamp ⊎ ViewIsOfThisNode name x v.stamp
EntryViewKnownOrOwn nodes name x _ = Unit {0}

pub record OwnViewsAlongStep (nodes : ℕ → Node) (name : ℕ) (x : Node) : Type 0 where
  pub who : x.core.who ≡ name
  pub rises : stamp_is_less x.core.promise (nodes name).core.promise ≡ false
  pub below : (x.core.promise.by == name) ≡ false → StampIsBelowPromise nodes x.core.promise
  pub told : DecidedBallotIsThePromise x.core.who x.core.promise x.ballot
  pub entries : All (EntryViewKnownOrOwn nodes name x) x.core.log.entries

chained_up : (nodes : ℕ → Node) (name : ℕ) (x y : Node) → ChangeKeepsListAndBallot x y → (e : Entry) → EntryViewKnownOrOwn nodes name x e → EntryViewKnownOrOwn nodes name y e
chained_up nodes name x y d (View v) h = ⊎_elim
    (λ (k : ViewIsKnownToName nodes v.stamp). inl k)
    (λ (o : ViewIsOfThisNode name x v.stamp). inr (record {
      by = o.by;
      low = stamp_at_most_is_transitive v.stamp (view x) (view y) o.low (view_never_falls_in_growth x y (d.goes o.has_list));
      has_list = d.log_ o.has_list;
    }))
    h
chained_up nodes name x y d _ h = tt

pub known_gives_known_or_own : (nodes : ℕ → Node) (name : ℕ) (x : Node) (e : Entry) → EntryViewIsKnown nodes e → EntryViewKnownOrOwn nodes name x e
known_gives_known_or_own nodes name x (View v) h = inl h
known_gives_known_or_own nodes name x _ h = tt

plain_chained : (nodes : ℕ → Node) (name : ℕ) (x : Node) (e : Entry) → is_view e ≡ false → EntryViewKnownOrOwn nodes name x e
plain_chained nodes name x (View v) h = absurd (cc)
plain_chained nodes name x _ h = tt

-- ---- the kinds of changes

along_same : (nodes : ℕ → Node) (name : ℕ) (x y : Node) → y.core.who ≡ x.core.who → y.core.promise ≡ x.core.promise → y.core.log ≡ x.core.log
    → y.ballot ≡ x.ballot → ChangeKeepsListAndBallot x y → OwnViewsAlongStep nodes name x → OwnViewsAlongStep nodes name y
along_same nodes name x y who promise log ballot d h = record {
  who = who ∙ h.who;
  rises = ap (λ (v : Stamp). stamp_is_less v (nodes name).core.promise) promise ∙ h.rises;
  below = λ f. subst (StampIsBelowPromise nodes) (sym promise) (h.below (ap (λ (v : Stamp). v.by == name) (sym promise) ∙ f));
  told = rw (who, promise, ballot) h.told;
  entries = subst (λ (l : Log). All (EntryViewKnownOrOwn nodes name y) l.entries) (sym log)
      (All-weaker (EntryViewKnownOrOwn nodes name x) (EntryViewKnownOrOwn nodes name y) (chained_up nodes name x y d) x.core.log.entries h.entries);
}

along_pushed : (nodes : ℕ → Node) (name : ℕ) (x y : Node) (e : Entry) → y.core.who ≡ x.core.who → y.core.promise ≡ x.core.promise
    → y.core.log.entries ≡ x.core.log.entries ++ e ∷ [] → y.ballot ≡ x.ballot → EntryViewKnownOrOwn nodes name y e → ChangeKeepsListAndBallot x y → OwnViewsAlongStep nodes name x → OwnViewsAlongStep nodes name y
along_pushed nodes name x y e who promise entries ballot new d h = record {
  who = who ∙ h.who;
  rises = ap (λ (v : Stamp). stamp_is_less v (nodes name).core.promise) promise ∙ h.rises;
  below = λ f. subst (StampIsBelowPromise nodes) (sym promise) (h.below (ap (λ (v : Stamp). v.by == name) (sym promise) ∙ f));
  told = rw (who, promise, ballot) h.told;
  entries = subst (All (EntryViewKnownOrOwn nodes name y)) (sym entries) (All-append (EntryViewKnownOrOwn nodes name y) x.core.log.entries (e ∷ [])
      (All-weaker (EntryViewKnownOrOwn nodes name x) (EntryViewKnownOrOwn nodes name y) (chained_up nodes name x y d) x.core.log.entries h.entries)
      (All-cons (EntryViewKnownOrOwn nodes name y) e [] new (All-nil (EntryViewKnownOrOwn nodes name y))));
}

-- ---- promises

-- no promise of another's ballot, or of one that is heard of, is the node's own
not_own : (nodes : ℕ → Node) (name : ℕ) (c : Cause) (x : Node) (v : Stamp) → HeardViewsAreKnown nodes c → MayPromise c x v → OwnViewsAlongStep nodes name x → v.by ≡ x.core.who → ⊥
not_own nodes name c x v heard (invited s _ is by own) h e =
    let other = (both_of_and (not (s == x.core.who)) (is_member x.status || is_asking_status x.status) by).0 in
    let same : s ≡ x.core.who = sym (eqb-true v.by s own) ∙ e in
    grind (arith, nat_tests)
not_own nodes name c x v heard (overtaken_by s _ shown is by above) h e =
    let low : StampIsBelowPromise nodes v = heard.stamp (packet.Vote s v shown) is in
    let mine : stamp_is_less (nodes name).core.promise v ≡ false = subst (λ k. stamp_is_less (nodes k).core.promise v ≡ false) (e ∙ h.who) low in
    let up : stamp_is_less x.core.promise v ≡ false = stamp_at_most_is_transitive v (nodes name).core.promise x.core.promise mine h.rises in
    bool_is_not_both (stamp_is_less x.core.promise v) above up
not_own nodes name c x v heard (told_result s base number w is by own other) h e = eqb-false v.by x.core.who other e

heard_promise : (nodes : ℕ → Node) (c : Cause) (x : Node) (v : Stamp) → HeardViewsAreKnown nodes c → MayPromise c x v → StampIsBelowPromise nodes v
heard_promise nodes c x v heard (invited s _ is by own) = heard.stamp (packet.Invite s v) is
heard_promise nodes c x v heard (overtaken_by s _ shown is by above) = heard.stamp (packet.Vote s v shown) is
heard_promise nodes c x v heard (told_result s base number w is by own other) = heard.stamp (packet.Result s base number w) is

-- ---- looks

look_along : (nodes : ℕ → Node) (name : ℕ) (x : Node) (b : Ballot) (v : BallotVerdict) → LooksAtBallot x b v → ChangeKeepsListAndBallot x v.node → BallotIsOpenAndPromised x.core.who x.core.promise (view x) b
    → has_log_by_status x.status ≡ true → OwnViewsAlongStep nodes name x → OwnViewsAlongStep nodes name v.node
look_along nodes name x b v (decides may) d o log h =
    let names = need_set_without_given_up b (need_set_of x b) in
    let same : view v.node ≡ b.stamp = view_of_pushed_view (trim_to_least_taken_by x b names) (decided_view x b names) in
    let own : ViewIsOfThisNode name v.node b.stamp = record {
      by = o.own ∙ h.who;
      low = subst (λ (s : Stamp). stamp_is_less s b.stamp ≡ false) (sym same) (stamp_not_below_itself b.stamp);
      has_list = log;
    } in
    record {
      who = h.who;
      rises = h.rises;
      below = h.below;
      told = record { is = λ b2 number ns is answer mine. (let e : b.stamp ≡ b2.stamp = cc in o.promised ∙ e) };
      entries = All-append (EntryViewKnownOrOwn nodes name v.node) x.core.log.entries _
          (All-weaker (EntryViewKnownOrOwn nodes name x) (EntryViewKnownOrOwn nodes name v.node) (chained_up nodes name x v.node d) x.core.log.entries h.entries)
          (All-cons (EntryViewKnownOrOwn nodes name v.node) _ [] (inr own) (All-nil (EntryViewKnownOrOwn nodes name v.node)));
    }
look_along nodes name x b v _ d o log h = record {
  who = h.who;
  rises = h.rises;
  below = h.below;
  told = record { is = λ b2 number names is answer own. absurd (cc) };
  entries = All-weaker (EntryViewKnownOrOwn nodes name x) (EntryViewKnownOrOwn nodes name v.node) (chained_up nodes name x v.node d) x.core.log.entries h.entries;
}

-- ---- each change

change_along : (nodes : ℕ → Node) (name : ℕ) {c : Cause} {o : Outcome} → HeardViewsAreKnown nodes c → (x y : Node) → Change c o x y → ChangeKeepsListAndBallot x y → NodeBallotFits x
    → OwnViewsAlongStep nodes name x → OwnViewsAlongStep nodes name y
change_along nodes name heard x y refreshes d k h = let r = refresh_rests_with_list x in
    along_same nodes name x (refresh x) r.rests.who r.rests.promise r.log r.rests.ballot d h
change_along nodes name heard x y settles d k h = let e = settle_changes_only_sends x in
    along_same nodes name x (settle_waiting_send x) (ap (λ (n : Node). n.core.who) e) (ap (λ (n : Node). n.core.promise) e) (ap (λ (n : Node). n.core.log) e)
    (ap (λ (n : Node). n.ballot) e) d h
change_along nodes name heard x y (numbers e leads room why) d k h =
    along_pushed nodes name x y e refl refl refl refl (plain_chained nodes name y e (numbered_entry_is_no_view _ x e why)) d h
change_along nodes name heard x y (stores s v base acc number e by from plain may) d k h =
    along_pushed nodes name x y e refl refl refl refl (plain_chained nodes name y e plain) d h
change_along nodes name heard x y (begins_list s v base join image is o may) d k h =
    let none = k.none (welcomed_node_has_no_log x s v base join image may) in
    record {
      who = h.who;
      rises = stamp_at_most_is_transitive (nodes name).core.promise x.core.promise v h.rises may.promise;
      below = λ f. heard.stamp (packet.Welcome s v base join image) is;
      told = record { is = λ b number names there answer own. absurd (cc) };
      entries = All-nil (EntryViewKnownOrOwn nodes name y);
    }
change_along nodes name heard x y (promises v low why) d k h = record {
  who = h.who;
  rises = stamp_at_most_is_transitive (nodes name).core.promise x.core.promise v h.rises low;
  below = λ f. heard_promise nodes _ x v heard why;
  told = record { is = λ b number names there answer own. absurd (not_own nodes name _ x v heard why h own) };
  entries = All-weaker (EntryViewKnownOrOwn nodes name x) (EntryViewKnownOrOwn nodes name y) (chained_up nodes name x y d) x.core.log.entries h.entries;
}
change_along nodes name heard x y (opens least resilience by may) d k h = record {
  who = h.who;
  rises = stamp_at_most_is_transitive (nodes name).core.promise x.core.promise (next_stamp x) h.rises
      (lower_stamp_is_not_above x.core.promise (next_stamp x) (next_round_is_above x.core.promise x.core.who));
  below = λ f. absurd (eqb-false x.core.who name f h.who);
  told = record { is = λ b number names there answer own. absurd (cc) };
  entries = All-weaker (EntryViewKnownOrOwn nodes name x) (EntryViewKnownOrOwn nodes name y) (chained_up nodes name x y d) x.core.log.entries h.entries;
}
change_along nodes name heard x y (looks b verdict over why look is) d k h =
    let l = balloting_looks_at_open_ballot x b why k in
    look_along nodes name x b verdict look d l.open_ l.has_list h
change_along nodes name heard x y (fetches s v base number e is by promise below from may) d k h =
    along_pushed nodes name x y e refl refl refl refl (known_gives_known_or_own nodes name y e (heard.piece s v base number e is)) d h
change_along nodes name heard x y (stores_view s base number v is by own other promise below may) d k h =
    along_pushed nodes name x y (View v) refl refl refl refl (inl (heard.result s base number v is own)) d h
change_along nodes name heard x y (closes leads leaves alone room) d k h =
    let r = end_refresh_rests_with_list (push_entry x (Leave x.core.who)) in
    along_pushed nodes name x y (Leave x.core.who) r.rests.who r.rests.promise (ap (λ (l : Log). l.entries) r.log) r.rests.ballot tt d h
change_along nodes name heard x y _ d k h = along_same nodes name x y refl refl refl refl d h

pub changes_keep_own_views : (nodes : ℕ → Node) (name : ℕ) {c : Cause} {o : Outcome} → HeardViewsAreKnown nodes c → HeardStampsHaveNames c → (x n : Node) → Changes c o x n → NodePartsHaveNames x
    → NodeBallotFits x → OwnViewsAlongStep nodes name x → OwnViewsAlongStep nodes name n
changes_keep_own_views nodes name heard names x n unchanged k b h = h
changes_keep_own_views nodes name heard names x n (changed {n = y} one more) k b h =
    let g = changes_keep_list_and_names x y names (changed one unchanged) k b in
    changes_keep_own_views nodes name heard names y n more g.names g.does.balloted (change_along nodes name heard x y one g.does b h)
