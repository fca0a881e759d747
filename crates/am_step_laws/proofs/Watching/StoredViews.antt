-- Which Views the changes of a step add to a node's list.
use Rattle.am_step_laws.proofs.Words.{stamp_eq_gives_equality, ◌≡◌, ℕ, ◌+◌, ◌≤◌, ◌==◌, ◌&&◌, ◌||◌, not, Bool, true, false, List, [], ◌∷◌, Option, Some, None, refl, sym}
use Rattle.am_step_laws.proofs.Words.{ap, ◌∙◌, subst, arith, length-append, list_any, nat_tests, list_any-append, Outcome, GroupView, Stamp, Image, Entry, Leave}
use Rattle.am_step_laws.proofs.Words.{stamp_is_less, stamps_are_equal, Log, image_of_log, Ballot, top, view, acts_in_its_view, is_sequencer, is_member, push_entry, has_log_by_status, BallotVerdict, overtake_lower_ballot}
use Rattle.am_step_laws.proofs.Words.{need_set_of, need_set_without_given_up, trim_to_least_taken_by, next_stamp, refresh, settle_waiting_send, refresh_at_end, is_view, node_of_welcomed, split_on_bool, both_of_and, Cause, hears}
use Rattle.am_step_laws.proofs.Words.{HasOpenBallot, BallotIsLookedAt, with_more, without_one, as_it_is, LooksAtBallot, finds_itself_out, waits, fetches_from_best}
use Rattle.am_step_laws.proofs.Words.{MayPromise, invited, overtaken_by, told_result, MayBeWelcomed, Change, refreshes, settles}
use Rattle.am_step_laws.proofs.Words.{numbers, stores, begins_list, departs, promises, opens, looks, fetches, stores_view}
use Rattle.am_step_laws.proofs.Words.{asks_to_join, closes, Changes, refresh_rests_with_list, end_refresh_rests_with_list, settle_changes_only_sends, view_of_pushed_plain_entry, changes_keep_property, decided_view}
use Rattle.am_step_laws.proofs.Watching.StoredWords.{other_entry_has_no_stamp, or-false, view_of_pushed_view, next_round_is_above, welcomed_node_has_no_log, numbered_entry_is_no_view, not-true, is_view_of, BeginsBy, by_reset}
use Rattle.am_step_laws.proofs.Watching.StoredWords.{stamp_at_most_is_transitive, stamp_at_most_then_below, lower_stamp_is_not_above}
use Rattle.am_model.specs.Node.{Node}
use Rattle.am_step_laws.specs.Looks.{decides}
use Rattle.am_base.specs.declared.outcome.Outcome.TheVariants as said
use Rattle.am_packet.specs.declared.packet.Packet.TheVariants as packet
use Rattle.am_model.specs.declared.status.Status.TheVariants as status

-- the View of this stamp stands in a list
abbrev pub log_has_view : Log → Stamp → Bool
log_has_view log v = list_any (is_view_of v) log.entries

abbrev pub view_told_by_log : Log → Stamp
view_told_by_log log = (image_of_log log).view

-- ---- one entry more

pub or_is_associative : (a b c : Bool) → ((a || b) || c) ≡ (a || (b || c))
or_is_associative true b c = refl
or_is_associative false b c = refl

pub has_view_after_push : (m : Node) (e : Entry) (v : Stamp) → log_has_view (push_entry m e).core.log v ≡ (log_has_view m.core.log v || is_view_of v e)
has_view_after_push m e v = list_any-append (is_view_of v) m.core.log.entries (e ∷ []) ∙ ap (λ b. log_has_view m.core.log v || b) (or-false (is_view_of v e))

pub has_view_after_plain_push : (m : Node) (e : Entry) (v : Stamp) → is_view e ≡ false → log_has_view (push_entry m e).core.log v ≡ log_has_view m.core.log v
has_view_after_plain_push m e v plain = has_view_after_push m e v ∙ ap (λ b. log_has_view m.core.log v || b) (other_entry_has_no_stamp v e plain) ∙ or-false (log_has_view m.core.log v)

-- ---- what the changes have done so far

-- an open ballot is above this view
abbrev pub OpenBallotIsAboveView : Stamp → Option Ballot → Type 0
OpenBallotIsAboveView v None = Unit {0}
OpenBallotIsAboveView v (Some b) = b.is_over ≡ false → stamp_is_less v b.stamp ≡ true

-- no View more
pub record AddsNoView (m x : Node) : Type 0 where
  pub views : (v : Stamp) → log_has_view x.core.log v ≡ log_has_view m.core.log v
  pub same : view x ≡ view m
  pub high : stamp_is_less x.core.promise (view x) ≡ false
  pub opened : OpenBallotIsAboveView (view x) x.ballot
  pub member : is_member x.status ≡ true → is_member m.status ≡ true
  pub bare : has_log_by_status x.status ≡ false → has_log_by_status m.status ≡ false

-- a decided View more, and that is what the step answers
pub record AddsDecidedView (o : Outcome) (m x : Node) : Type 0 where
  pub views : (v : Stamp) → log_has_view x.core.log v ≡ (log_has_view m.core.log v || stamps_are_equal (view x) v)
  pub above : stamp_is_less (view m) (view x) ≡ true
  pub member : is_member x.status ≡ true → is_member m.status ≡ true
  pub number : ℕ
  pub names : List ℕ
  pub is : o ≡ said.Decided number names
  pub low : number ≤ top x

-- a Welcome is heard and answered
pub record WelcomeIsHeardAndAnswered (c : Cause) (o : Outcome) : Type 0 where
  pub from : ℕ
  pub stamp : Stamp
  pub base : ℕ
  pub join : ℕ
  pub image : Image
  pub heard : c ≡ hears (packet.Welcome from stamp base join image)
  pub is : o ≡ said.Welcomed join

-- a list has begun, without a View
pub record ListBeganByWelcome (c : Cause) (o : Outcome) (m x : Node) : Type 0 where
  pub views : (v : Stamp) → log_has_view x.core.log v ≡ false
  pub bare : has_log_by_status m.status ≡ false
  pub member : x.status ≡ status.Member
  pub other : (x.core.promise.by == x.core.who) ≡ false
  pub welcome : WelcomeIsHeardAndAnswered c o
  pub open welcome use *

pub data ViewsAddedByChanges (c : Cause) (o : Outcome) (m x : Node) : Type 0 where
  still : AddsNoView m x → ViewsAddedByChanges c o m x
  more : AddsDecidedView o m x → ViewsAddedByChanges c o m x
  new : ListBeganByWelcome c o m x → ViewsAddedByChanges c o m x

-- what brings no View
pub record CauseBringsNoView (c : Cause) : Type 0 where
  pub pieces : (s : ℕ) (v : Stamp) (base number : ℕ) (e : Entry) → c ≡ hears (packet.Piece s v base number e) → ⊥
  pub results : (s : ℕ) (base number : ℕ) (v : GroupView) → c ≡ hears (packet.Result s base number v) → ⊥

-- ---- no View more

-- with the same list
still_as : (m x y : Node) → y.core.log ≡ x.core.log → stamp_is_less y.core.promise (view x) ≡ false → OpenBallotIsAboveView (view x) y.ballot
    → (is_member y.status ≡ true → is_member x.status ≡ true) → (has_log_by_status y.status ≡ false → has_log_by_status x.status ≡ false) → AddsNoView m x → AddsNoView m y
still_as m x y log high opened member bare h = record {
  views = λ v. rw log (h.views v);
  same = rw log h.same;
  high = rw log high;
  opened = rw log opened;
  member = λ t. h.member (member t);
  bare = λ f. h.bare (bare f);
}

still_same : (m x y : Node) → y.status ≡ x.status → y.core.promise ≡ x.core.promise → y.core.log ≡ x.core.log → y.ballot ≡ x.ballot → AddsNoView m x → AddsNoView m y
still_same m x y stays promise log ballot h =
    still_as m x y log (rw promise h.high) (rw ballot h.opened) (λ t. ap is_member (sym stays) ∙ t) (λ f. ap has_log_by_status (sym stays) ∙ f) h

still_plain : (m x y : Node) (e : Entry) → is_view e ≡ false → y.status ≡ x.status → y.core.promise ≡ x.core.promise → y.core.log ≡ (push_entry x e).core.log
    → y.ballot ≡ x.ballot → AddsNoView m x → AddsNoView m y
still_plain m x y e plain stays promise log ballot h =
    let p = push_entry x e in
    let last = view_of_pushed_plain_entry x e plain in
    let k : AddsNoView m p = record {
      views = λ v. has_view_after_plain_push x e v plain ∙ h.views v;
      same = last ∙ h.same;
      high = rw last h.high;
      opened = rw last h.opened;
      member = h.member;
      bare = h.bare;
    } in
    still_same m p y stays promise log ballot k

departed : (m x y : Node) → y.core ≡ x.core → y.ballot ≡ x.ballot → y.status ≡ status.Departed → AddsNoView m x → AddsNoView m y
departed m x y core ballot gone h =
    still_as m x y (ap (λ k. k.log) core) (rw core h.high) (rw ballot h.opened) (λ t. absurd (let u = ap is_member gone in cc))
    (λ f. absurd (let u = ap has_log_by_status gone in cc)) h

above_overtaken : (v by : Stamp) (ballot : Option Ballot) → OpenBallotIsAboveView v ballot → OpenBallotIsAboveView v (overtake_lower_ballot by ballot)
above_overtaken v by None h = tt
above_overtaken v by (Some b) h = split_on_bool (not b.is_over && stamp_is_less b.stamp by)
    (λ t. rw t (λ over. absurd (cc)))
    (λ f. rw f h)

above_last : (m x : Node) (b : Ballot) → HasOpenBallot x b → AddsNoView m x → stamp_is_less (view x) b.stamp ≡ true
above_last m x b o h = subst (OpenBallotIsAboveView (view x)) o.last h.opened o.open_

above_looked : {c : Cause} (m x : Node) (b : Ballot) → BallotIsLookedAt c x b → AddsNoView m x → stamp_is_less (view x) b.stamp ≡ true
above_looked m x b (with_more old s v shown is by low high open_ same stays) h = above_last m x old open_ h
above_looked m x b (without_one old name is open_ other) h = above_last m x old open_ h
above_looked m x b (as_it_is old open_ on) h = above_last m x old open_ h

look_still : {c : Cause} (o : Outcome) (m x : Node) (b : Ballot) (v : BallotVerdict) → LooksAtBallot x b v → o ≡ v.outcome → stamp_is_less (view x) b.stamp ≡ true → AddsNoView m x
    → ViewsAddedByChanges c o m v.node
look_still o m x b v (waits y z) is up h = still (still_as m x v.node refl h.high (λ over. up) (λ t. t) (λ f. f) h)
look_still o m x b v (fetches_from_best y z u) is up h = still (still_as m x v.node refl h.high (λ over. up) (λ t. t) (λ f. f) h)
look_still o m x b v (decides may) is up h =
    let names = need_set_without_given_up b (need_set_of x b) in
    let t = trim_to_least_taken_by x b names in
    let stamp : view v.node ≡ b.stamp = view_of_pushed_view t (decided_view x b names) in
    more (record {
      views = λ s. has_view_after_push t _ s ∙ (λ i. h.views s i || stamps_are_equal (sym stamp i) s);
      above = (λ i. stamp_is_less (sym h.same i) (stamp i)) ∙ up;
      member = h.member;
      number = top x + 1;
      names = names;
      is = is;
      low = simp length-append (omega arith);
    })
look_still o m x b v _ is up h = still (still_as m x v.node refl h.high (λ over. absurd (cc)) (λ t. t) (λ f. f) h)

welcomed_still : {c : Cause} {o : Outcome} (m x : Node) (s : ℕ) (v : Stamp) (base join : ℕ) (image : Image) → c ≡ hears (packet.Welcome s v base join image)
    → o ≡ said.Welcomed join → MayBeWelcomed x s v base join image → AddsNoView m x → ViewsAddedByChanges c o m (node_of_welcomed x v base join image)
welcomed_still m x s v base join image is o may h =
    let asks = may.asks in
    let other = not-true (s == x.core.who) (both_of_and (not (s == x.core.who)) _ asks).0 in
    let own : v.by ≡ s = let t = may.own in grind (arith, nat_tests) in
    new (record {
      views = λ w. refl;
      bare = h.bare (welcomed_node_has_no_log x s v base join image may);
      member = refl;
      other = ap (λ (k : ℕ). k == x.core.who) own ∙ other;
      welcome = search (is, o);
    })

change_still : {c : Cause} {o : Outcome} (m x y : Node) → CauseBringsNoView c → Change c o x y → AddsNoView m x → ViewsAddedByChanges c o m y
change_still m x y brings refreshes h = let r = refresh_rests_with_list x in still (still_same m x (refresh x) r.rests.status r.rests.promise r.log r.rests.ballot h)
change_still m x y brings settles h = let e = settle_changes_only_sends x in
    still (still_same m x (settle_waiting_send x) (ap (λ (n : Node). n.status) e) (ap (λ (n : Node). n.core.promise) e) (ap (λ (n : Node). n.core.log) e)
    (ap (λ (n : Node). n.ballot) e) h)
change_still {c} m x y brings (numbers e leads room why) h = still (still_plain m x y e (numbered_entry_is_no_view c x e why) refl refl refl refl h)
change_still m x y brings (stores s v base acc number e by from plain may) h = still (still_plain m x y e plain refl refl refl refl h)
change_still m x y brings (begins_list s v base join image is o may) h = welcomed_still m x s v base join image is o may h
change_still m x y brings (departs s v number is by leaves) h = still (departed m x y refl refl refl h)
change_still m x y brings (promises v low why) h =
    still (still_as m x y refl (stamp_at_most_is_transitive (view x) x.core.promise v h.high low) (above_overtaken (view x) v x.ballot h.opened) (λ t. t) (λ f. f) h)
change_still m x y brings (opens least resilience by may) h =
    let up = stamp_at_most_then_below (view x) x.core.promise (next_stamp x) h.high (next_round_is_above x.core.promise x.core.who) in
    still (still_as m x y refl (lower_stamp_is_not_above (view x) (next_stamp x) up) (λ over. up) (λ t. t) (λ f. f) h)
change_still {c} {o} m x y brings (looks b verdict over why look is) h = look_still o m x b verdict look is (above_looked m x b why h) h
change_still m x y brings (fetches s v base number e is by promise below from may) h = absurd (brings.pieces s v base number e is)
change_still m x y brings (stores_view s base number v is by own other promise below may) h =
    absurd (brings.results s base number v is)
change_still m x y brings (asks_to_join is was) h = still (still_as m x y refl h.high h.opened (λ t. absurd (cc)) (λ f. ap has_log_by_status was) h)
change_still m x y brings (closes leads leaves alone room) h =
    let p = push_entry x (Leave x.core.who) in
    let r = end_refresh_rests_with_list p in
    let k = still_plain m x (refresh_at_end p) (Leave x.core.who) refl r.rests.status r.rests.promise r.log r.rests.ballot h in
    still (departed m (refresh_at_end p) y refl refl refl k)
change_still m x y brings _ h = still (still_same m x y refl refl refl refl h)

-- ---- a View more

more_same : (o : Outcome) (m x y : Node) → (is_member y.status ≡ true → is_member x.status ≡ true) → y.core.log ≡ x.core.log → AddsDecidedView o m x → AddsDecidedView o m y
more_same o m x y stays log h = record {
  views = λ v. rw log (h.views v);
  above = rw log h.above;
  member = λ t. h.member (stays t);
  number = h.number;
  names = h.names;
  is = h.is;
  low = rw log h.low;
}

more_plain : (o : Outcome) (m x y : Node) (e : Entry) → is_view e ≡ false → (is_member y.status ≡ true → is_member x.status ≡ true)
    → y.core.log ≡ (push_entry x e).core.log → AddsDecidedView o m x → AddsDecidedView o m y
more_plain o m x y e plain stays log h =
    let p = push_entry x e in
    let k : AddsDecidedView o m p = record {
      views = λ v. has_view_after_plain_push x e v plain ∙ h.views v ∙ ap (λ (u : Stamp). log_has_view m.core.log v || stamps_are_equal u v) (sym (view_of_pushed_plain_entry x e plain));
      above = ap (λ (u : Stamp). stamp_is_less (view m) u) (view_of_pushed_plain_entry x e plain) ∙ h.above;
      member = h.member;
      number = h.number;
      names = h.names;
      is = h.is;
      low = let l = h.low in simp length-append (omega arith);
    } in
    more_same o m p y stays log k

look_more : (o : Outcome) (m x : Node) (b : Ballot) (v : BallotVerdict) → LooksAtBallot x b v → o ≡ v.outcome → AddsDecidedView o m x → AddsDecidedView o m v.node
look_more o m x b v (decides may) is h = absurd (
    let same : h.number ≡ top x + 1 = cc in
    omega arith)
look_more o m x b v _ is h = more_same o m x v.node (λ t. t) refl h

change_more : {c : Cause} {o : Outcome} (m x y : Node) → CauseBringsNoView c → Change c o x y → AddsDecidedView o m x → AddsDecidedView o m y
change_more {c} {o} m x y brings refreshes h = let r = refresh_rests_with_list x in more_same o m x (refresh x) (λ t. ap is_member (sym r.rests.status) ∙ t) r.log h
change_more {c} {o} m x y brings settles h = let e = settle_changes_only_sends x in
    more_same o m x (settle_waiting_send x) (λ t. ap (λ (n : Node). is_member n.status) (sym e) ∙ t) (ap (λ (n : Node). n.core.log) e) h
change_more {c} {o} m x y brings (numbers e leads room why) h = more_plain o m x y e (numbered_entry_is_no_view c x e why) (λ t. t) refl h
change_more {c} {o} m x y brings (stores s v base acc number e by from plain may) h = more_plain o m x y e plain (λ t. t) refl h
change_more {c} {o} m x y brings (begins_list s v base join image is says may) h = absurd (let first = h.is in cc)
change_more {c} {o} m x y brings (departs s v number is by leaves) h = more_same o m x y (λ t. absurd (cc)) refl h
change_more {c} {o} m x y brings (looks b verdict over why look is) h = look_more o m x b verdict look is h
change_more {c} {o} m x y brings (fetches s v base number e is by promise below from may) h = absurd (brings.pieces s v base number e is)
change_more {c} {o} m x y brings (stores_view s base number v is by own other promise below may) h =
    absurd (brings.results s base number v is)
change_more {c} {o} m x y brings (asks_to_join is was) h = more_same o m x y (λ t. absurd (cc)) refl h
change_more {c} {o} m x y brings (closes leads leaves alone room) h =
    let p = push_entry x (Leave x.core.who) in
    let r = end_refresh_rests_with_list p in
    more_plain o m x y (Leave x.core.who) refl (λ t. absurd (cc)) r.log h
change_more {c} {o} m x y brings _ h = more_same o m x y (λ t. t) refl h

-- ---- a list that has begun

new_same : (c : Cause) (o : Outcome) (m x y : Node) → y.core.who ≡ x.core.who → y.status ≡ x.status → y.core.promise ≡ x.core.promise
    → ((v : Stamp) → log_has_view y.core.log v ≡ log_has_view x.core.log v) → ListBeganByWelcome c o m x → ListBeganByWelcome c o m y
new_same c o m x y who stays promise log h = record {
  views = λ v. log v ∙ h.views v;
  bare = h.bare;
  member = stays ∙ h.member;
  other = (λ i. (promise i).by == who i) ∙ h.other;
  welcome = h.welcome;
}

look_new : (c : Cause) (o : Outcome) (m x : Node) (b : Ballot) (v : BallotVerdict) → LooksAtBallot x b v → o ≡ v.outcome → ListBeganByWelcome c o m x → ListBeganByWelcome c o m v.node
look_new c o m x b v (finds_itself_out y) is h = absurd (let first = h.is in cc)
look_new c o m x b v _ is h = absurd (let first = h.is in cc)

promises_new : {A : Type 0} (c : Cause) (o : Outcome) (m x : Node) (v : Stamp) → MayPromise c x v → ListBeganByWelcome c o m x → A
promises_new c o m x v (invited s u is by own) h = absurd (let first = h.heard in cc)
promises_new c o m x v (overtaken_by s u vote is by up) h = absurd (let first = h.heard in cc)
promises_new c o m x v (told_result s base number u is by own other) h = absurd (let first = h.heard in cc)

opens_new : {A : Type 0} (c : Cause) (o : Outcome) (m x : Node) → BeginsBy x c → ListBeganByWelcome c o m x → A
opens_new c o m x (by_reset least resilience) h = absurd (let first = h.heard in cc)
opens_new c o m x _ h = absurd (let first = h.heard in cc)

-- it doesn't lead
leads_new : {A : Type 0} (c : Cause) (o : Outcome) (m x : Node) → is_sequencer x ≡ true → ListBeganByWelcome c o m x → A
leads_new c o m x leads h = absurd (
    let a = both_of_and (acts_in_its_view x) ((view x).by == x.core.who) leads in
    let b = both_of_and (is_member x.status) (stamps_are_equal x.core.promise (view x)) a.0 in
    let same = stamp_eq_gives_equality x.core.promise (view x) b.1 in
    let mine : (x.core.promise.by == x.core.who) ≡ true = ap (λ (s : Stamp). s.by == x.core.who) same ∙ a.1 in
    cc)

change_new : {c : Cause} {o : Outcome} (m x y : Node) → CauseBringsNoView c → Change c o x y → ListBeganByWelcome c o m x → ListBeganByWelcome c o m y
change_new {c} {o} m x y brings refreshes h = let r = refresh_rests_with_list x in
    new_same c o m x (refresh x) r.rests.who r.rests.status r.rests.promise (λ v. ap (λ (l : Log). log_has_view l v) r.log) h
change_new {c} {o} m x y brings settles h = let e = settle_changes_only_sends x in
    new_same c o m x (settle_waiting_send x) (ap (λ (n : Node). n.core.who) e) (ap (λ (n : Node). n.status) e) (ap (λ (n : Node). n.core.promise) e)
    (λ v. ap (λ (n : Node). log_has_view n.core.log v) e) h
change_new {c} {o} m x y brings (numbers e leads room why) h = new_same c o m x y refl refl refl (λ v. has_view_after_plain_push x e v (numbered_entry_is_no_view c x e why)) h
change_new {c} {o} m x y brings (stores s v base acc number e by from plain may) h = new_same c o m x y refl refl refl (λ u. has_view_after_plain_push x e u plain) h
change_new {c} {o} m x y brings (begins_list s v base join image is says may) h = absurd (let t = ap is_member h.member in let f = may.no_member in cc)
change_new {c} {o} m x y brings (departs s v number is by leaves) h = absurd (let first = h.heard in cc)
change_new {c} {o} m x y brings (promises v low why) h = promises_new c o m x v why h
change_new {c} {o} m x y brings (opens least resilience by may) h = opens_new c o m x by h
change_new {c} {o} m x y brings (looks b verdict over why look is) h = look_new c o m x b verdict look is h
change_new {c} {o} m x y brings (fetches s v base number e is by promise below from may) h = absurd (brings.pieces s v base number e is)
change_new {c} {o} m x y brings (stores_view s base number v is by own other promise below may) h =
    absurd (brings.results s base number v is)
change_new {c} {o} m x y brings (asks_to_join is was) h = absurd (let t = h.member in cc)
change_new {c} {o} m x y brings (closes leads leaves alone room) h = leads_new c o m x leads h
change_new {c} {o} m x y brings _ h = new_same c o m x y refl refl refl (λ v. refl) h

-- ---- all of them

change_walked : {c : Cause} {o : Outcome} (m x y : Node) → CauseBringsNoView c → Change c o x y → ViewsAddedByChanges c o m x → ViewsAddedByChanges c o m y
change_walked m x y brings one (still h) = change_still m x y brings one h
change_walked m x y brings one (more h) = more (change_more m x y brings one h)
change_walked m x y brings one (new h) = new (change_new m x y brings one h)

pub changes_add_known_views : {c : Cause} {o : Outcome} (m n : Node) → CauseBringsNoView c → stamp_is_less m.core.promise (view m) ≡ false → OpenBallotIsAboveView (view m) m.ballot → Changes c o m n
    → ViewsAddedByChanges c o m n
changes_add_known_views {c} {o} m n brings high opened all = changes_keep_property (ViewsAddedByChanges c o m) (λ x y one h. change_walked m x y brings one h) all
    (still (record { views = λ v. refl; same = refl; high = high; opened = opened; member = λ t. t; bare = λ f. f }))
