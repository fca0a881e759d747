-- A view is noted with the members that its View names: in the step that decides it nothing changes them any more.
use Rattle.am_model.specs.Ballots.{decided_view}
use Rattle.am_base.specs.declared.entry.GroupView.{GroupView}
use Rattle.am_step_laws.proofs.Watching.WatchedWords.{welcomed_node_has_no_log, numbered_entry_is_no_view, or_false_second_is_false, stamp_eq_of_itself, stamp_eq_gives_equality, ◌≡◌, ◌⊎◌, inl, inr, ⊎_elim, ℕ, ◌+◌, ◌<◌, ◌==◌, ◌&&◌}
use Rattle.am_step_laws.proofs.Watching.WatchedWords.{not, max, nat_lt, Bool, true, false, List, length, slice_index, Option, Some, None, refl, sym, ap, ◌∙◌, subst, arith}
use Rattle.am_step_laws.proofs.Watching.WatchedWords.{nat_tests, Entry, Data, Leave, View, Vote, Image, Stamp, Outcome, stamp_is_less, stamps_are_equal, Log, members_of_image, fits}
use Rattle.am_step_laws.proofs.Watching.WatchedWords.{log_entry_at, image_of_log, Node, Ballot, top, image_of_node, view, members, node_unsettled_count, push_entry, trim_node_up_to, has_log_by_status}
use Rattle.am_step_laws.proofs.Watching.WatchedWords.{BallotVerdict, overtake_lower_ballot, need_set_of, need_set_without_given_up, trim_to_least_taken_by, is_unfinished_ballot, is_view, refresh, split_on_bool, both_of_and, Cause, calls, hears}
use Rattle.am_step_laws.proofs.Watching.WatchedWords.{was_reset, was_fetched, HasOpenBallot, BallotIsLookedAt, with_more, without_one, as_it_is, LooksAtBallot, finds_itself_out, decides, IsNumberedBy}
use Rattle.am_step_laws.proofs.Watching.WatchedWords.{asked_send, own_send, asked_join, asked_leave, CarriesEntry, whole_entry, by_number, Change, refreshes, settles, numbers}
use Rattle.am_step_laws.proofs.Watching.WatchedWords.{stores, begins_list, promises, opens, looks, fetches, stores_view, asks_to_leave, closes, refresh_rests_with_list, end_refresh_rests_with_list}
use Rattle.am_step_laws.proofs.Watching.WatchedWords.{settle_changes_only_sends, image_of_pushed_entry, view_of_pushed_plain_entry, stamp_at_most_then_below, entry_at_of_longer_log, plain_entry_keeps_image_view, view_of_pushed_view, pushed_view_at_its_number, NodeBallotFits}
use Rattle.am_step_laws.proofs.Watching.WatchedWords.{members_after_data, members_after_view, selected_place_same_or_empty, length_of_selection, BallotHasNoOwnVote, own_best_list_needs_members, balloting_has_no_own_vote}
use Rattle.am_base.specs.declared.event.NodeEvent.TheVariants as does
use Rattle.am_step_laws.specs.Looks.{was_handed}
use Rattle.am_packet.specs.declared.packet.Packet.TheVariants as packet
use Rattle.am_step_laws.proofs.Watching.Own.{EntryViewIsKnown, HeardViewsAreKnown}
use Rattle.am_step_laws.proofs.ViewChanges.{balloting_looks_at_open_ballot}

-- ---- what made a node look at its ballot

pub data LooksAtVotesBy (c : Cause) (v : Stamp) : Type 0 where
  by_vote : (s : ℕ) (u : Stamp) (shown : Vote) → c ≡ hears (packet.Vote s u shown) → LooksAtVotesBy c v
  by_giving_up : (name : ℕ) → c ≡ calls (does.GiveUp name) → LooksAtVotesBy c v
  by_reset : (least resilience : ℕ) → c ≡ calls (does.Reset least resilience) → LooksAtVotesBy c v
  by_hand_over : (s : ℕ) (u : Stamp) → c ≡ hears (packet.HandOver s u) → LooksAtVotesBy c v
  by_piece : (s : ℕ) (u : Stamp) (base number : ℕ) (e : Entry) → c ≡ hears (packet.Piece s u base number e) → stamps_are_equal v u ≡ true → LooksAtVotesBy c v

-- nothing else that a node does at the same time changes its members
abbrev Alters : Cause → Type 0
Alters (calls does.Leave) = Unit {0}
Alters (hears (packet.JoinAsk s v)) = Unit {0}
Alters (hears (packet.LeaveAsk s v report)) = Unit {0}
Alters (hears (packet.Bcast s v base acc number e)) = Unit {0}
Alters (hears (packet.Order s v base acc number from req)) = Unit {0}
Alters (hears (packet.Result s base number v)) = Unit {0}
Alters _ = ⊥

never_both : (c : Cause) (v : Stamp) → LooksAtVotesBy c v → Alters c → ⊥
never_both c v (by_vote s u shown is) h = subst Alters is h
never_both c v (by_giving_up name is) h = subst Alters is h
never_both c v (by_reset least resilience is) h = subst Alters is h
never_both c v (by_hand_over s u is) h = subst Alters is h
never_both c v (by_piece s u base number e is at) h = subst Alters is h

-- nor does it fetch for another view then
piece_stamp : Cause → Stamp → Stamp
piece_stamp (hears (packet.Piece s u base number e)) v = u
piece_stamp _ v = v

fetched_for : (c : Cause) (v : Stamp) → LooksAtVotesBy c v → (s : ℕ) (u : Stamp) (base number : ℕ) (e : Entry) → c ≡ hears (packet.Piece s u base number e)
    → stamps_are_equal v u ≡ false → ⊥
unfolding piece_stamp
fetched_for c v (by_piece s u b2 n2 e2 is at) s2 u2 base number e also below =
    let same : u ≡ u2 = ap (λ x. piece_stamp x v) (sym is ∙ also) in
    let t : stamps_are_equal v u2 ≡ true = subst (λ x. stamps_are_equal v x ≡ true) same at in
    cc
fetched_for c v (by_vote s u shown is) s2 u2 base number e also below = absurd (cc)
fetched_for c v (by_giving_up name is) s2 u2 base number e also below = absurd (cc)
fetched_for c v (by_reset least resilience is) s2 u2 base number e also below = absurd (cc)
fetched_for c v (by_hand_over s u is) s2 u2 base number e also below = absurd (cc)

looks_by : (c : Cause) (m : Node) (b : Ballot) → BallotIsLookedAt c m b → m.core.promise ≡ b.stamp → LooksAtVotesBy c b.stamp
looks_by c m b (with_more old s v shown is by low high open_ same stays) promised = by_vote s v shown is
looks_by c m b (without_one old name is open_ other) promised = by_giving_up name is
looks_by c m b (as_it_is old open_ (was_reset least resilience is)) promised = by_reset least resilience is
looks_by c m b (as_it_is old open_ (was_handed s v is)) promised = by_hand_over s v is
looks_by c m b (as_it_is old open_ (was_fetched s v base number e is at)) promised =
    by_piece s v base number e is (subst (λ x. stamps_are_equal x v ≡ true) promised (let same = stamp_eq_gives_equality v m.core.promise at in
    subst (λ x. stamps_are_equal x v ≡ true) same (stamp_eq_of_itself v)))

-- ---- a view along a step

-- the last View stands with the members
abbrev pub LastViewNamesTheMembers : Log → Type 0
LastViewNamesTheMembers log = log_entry_at log (image_of_log log).view_number ≡ Some (View (record {
  stamp = (image_of_log log).view;
  members = members_of_image (image_of_log log);
  resilience = (image_of_log log).resilience;
}))

pub record DecidedInThisStep (c : Cause) (x : Node) : Type 0 where
  pub whole : LastViewNamesTheMembers x.core.log
  pub by : LooksAtVotesBy c (view x)
  pub stays : x.leaving ≡ false

-- a node's view since some moment of a step: the same, another name's, or one that it decided
pub data ViewSinceThen (c : Cause) (old : Stamp) (x : Node) : Type 0 where
  as_before : view x ≡ old → ViewSinceThen c old x
  of_other : ((view x).by == x.core.who) ≡ false → ViewSinceThen c old x
  decided : DecidedInThisStep c x → ViewSinceThen c old x

viewed_same : (c : Cause) (old : Stamp) (x y : Node) → y.core.who ≡ x.core.who → y.core.log ≡ x.core.log → (y.leaving ≡ x.leaving) → ViewSinceThen c old x
    → ViewSinceThen c old y
viewed_same c old x y who log stays (as_before h) = as_before (ap (λ (l : Log). (image_of_log l).view) log ∙ h)
viewed_same c old x y who log stays (of_other h) = of_other ((λ i. (image_of_log (log i)).view.by == who i) ∙ h)
viewed_same c old x y who log stays (decided h) = decided (record {
  whole = subst LastViewNamesTheMembers (sym log) h.whole;
  by = subst (λ (l : Log). LooksAtVotesBy c (image_of_log l).view) (sym log) h.by;
  stays = stays ∙ h.stays;
})

-- an entry that is no View, where a decided view stays whole
viewed_plain : (c : Cause) (old : Stamp) (x y : Node) (e : Entry) → is_view e ≡ false → y.core.who ≡ x.core.who → y.core.log ≡ (push_entry x e).core.log
    → (DecidedInThisStep c x → DecidedInThisStep c y) → ViewSinceThen c old x → ViewSinceThen c old y
viewed_plain c old x y e plain who log f (as_before h) = as_before (ap (λ (l : Log). (image_of_log l).view) log ∙ view_of_pushed_plain_entry x e plain ∙ h)
viewed_plain c old x y e plain who log f (of_other h) = of_other ((λ i. (image_of_log (log i)).view.by == who i)
    ∙ ap (λ (s : Stamp). s.by == x.core.who) (view_of_pushed_plain_entry x e plain) ∙ h)
viewed_plain c old x y e plain who log f (decided h) = decided (f h)

-- a send more
whole_sent : (x : Node) (from req : ℕ) (body : List ℕ) → length (image_of_node x).rows ≡ 16 → LastViewNamesTheMembers x.core.log → LastViewNamesTheMembers (push_entry x (Data from req body)).core.log
whole_sent x from req body long h =
    let e = Data from req body in
    let is = image_of_pushed_entry x e in
    let same = plain_entry_keeps_image_view (image_of_node x) (top x + 1) e refl in
    let number : (image_of_node (push_entry x e)).view_number ≡ (image_of_node x).view_number = ap (λ (i : Image). i.view_number) is ∙ same.number in
    let v : view (push_entry x e) ≡ view x = ap (λ (i : Image). i.view) is ∙ same.view in
    let r : (image_of_node (push_entry x e)).resilience ≡ (image_of_node x).resilience = ap (λ (i : Image). i.resilience) is ∙ same.resilience in
    let m : members (push_entry x e) ≡ members x = ap members_of_image is ∙ members_after_data (image_of_node x) (top x + 1) from req body long in
    ap (log_entry_at (push_entry x e).core.log) number ∙ entry_at_of_longer_log x.core.log e _ (image_of_node x).view_number h
    ∙ (λ i. Some (View (record { stamp = sym v i; members = sym m i; resilience = sym r i })))

-- the View that is decided
whole_decided : (x : Node) (v : GroupView) → members (push_entry x (View v)) ≡ v.members
    → LastViewNamesTheMembers (push_entry x (View v)).core.log
whole_decided x v same =
    let n = push_entry x (View v) in
    pushed_view_at_its_number x v ∙ (λ i. Some (View (record { stamp = view n; members = sym same i; resilience = (image_of_node n).resilience })))

-- ---- who has an unfinished ballot doesn't leave

abbrev pub BallotingNodeIsNotLeaving : Node → Type 0
BallotingNodeIsNotLeaving m = is_unfinished_ballot m.ballot ≡ true → m.leaving ≡ false

open_quiet : (m : Node) (b : Ballot) → HasOpenBallot m b → BallotingNodeIsNotLeaving m → m.leaving ≡ false
open_quiet m b o h = h (ap is_unfinished_ballot o.last ∙ ap not o.open_)

looked_quiet : (c : Cause) (m : Node) (b : Ballot) → BallotIsLookedAt c m b → BallotingNodeIsNotLeaving m → m.leaving ≡ false
looked_quiet c m b (with_more old s v shown is by low high open_ same stays) h = open_quiet m old open_ h
looked_quiet c m b (without_one old name is open_ other) h = open_quiet m old open_ h
looked_quiet c m b (as_it_is old open_ on) h = open_quiet m old open_ h

overtaken_quiet : (by : Stamp) (ballot : Option Ballot) → is_unfinished_ballot (overtake_lower_ballot by ballot) ≡ true → is_unfinished_ballot ballot ≡ true
overtaken_quiet by None t = t
overtaken_quiet by (Some b) t = split_on_bool (not b.is_over && stamp_is_less b.stamp by) (λ u. absurd (let z = rw u at t in cc)) (λ f. rw f at t)

look_leaving : (m : Node) (b : Ballot) (v : BallotVerdict) → LooksAtBallot m b v → v.node.leaving ≡ m.leaving
look_leaving m b v (finds_itself_out x) = refl
look_leaving m b v _ = refl

pub change_keeps_balloting_node_staying : {c : Cause} {o : Outcome} (m n : Node) → Change c o m n → BallotingNodeIsNotLeaving m → BallotingNodeIsNotLeaving n
change_keeps_balloting_node_staying m n refreshes h = let r = (refresh_rests_with_list m).rests in λ t. r.leaving ∙ h (sym (ap is_unfinished_ballot r.ballot) ∙ t)
change_keeps_balloting_node_staying m n settles h = subst BallotingNodeIsNotLeaving (sym (settle_changes_only_sends m)) h
change_keeps_balloting_node_staying m n (promises v low why) h = λ t. h (overtaken_quiet v m.ballot t)
change_keeps_balloting_node_staying m n (opens least resilience by may) h = λ t. may.stays
change_keeps_balloting_node_staying m n (looks b verdict over why look is) h = λ t. look_leaving m b verdict look ∙ looked_quiet _ m b why h
change_keeps_balloting_node_staying m n (asks_to_leave is was stays done) h = λ t. absurd (let f = or_false_second_is_false (nat_lt 0 (node_unsettled_count m)) (is_unfinished_ballot m.ballot) done in cc)
change_keeps_balloting_node_staying m n (closes leads leaves alone room) h = let r = (end_refresh_rests_with_list (push_entry m (Leave m.core.who))).rests in
    λ t. r.leaving ∙ h (sym (ap is_unfinished_ballot r.ballot) ∙ t)
change_keeps_balloting_node_staying m n _ h = h

-- ---- each change

fresh_numbered : (c : Cause) (m : Node) (e : Entry) → IsNumberedBy c m e → length (image_of_node m).rows ≡ 16 → DecidedInThisStep c m → DecidedInThisStep c (push_entry m e)
fresh_numbered c m e (asked_send s v report req body by known stays next) long h =
    record { whole = whole_sent m s req body long h.whole; by = subst (LooksAtVotesBy c) (sym (view_of_pushed_plain_entry m e refl)) h.by; stays = h.stays }
fresh_numbered c m e (own_send s is last) long h = record {
  whole = whole_sent m m.core.who s.req s.body long h.whole;
  by = subst (LooksAtVotesBy c) (sym (view_of_pushed_plain_entry m e refl)) h.by;
  stays = h.stays;
}
fresh_numbered c m e (asked_join s v is other fit) long h = absurd (never_both c (view m) h.by (subst Alters (sym is) tt))
fresh_numbered c m e (asked_leave s v report is other known stays) long h = absurd (never_both c (view m) h.by (subst Alters (sym is) tt))

carried_alters : (c : Cause) (m : Node) (s : ℕ) (v : Stamp) (base acc number : ℕ) (e : Entry) → CarriesEntry c m s v base acc number e → Alters c
carried_alters c m s v base acc number e (whole_entry x is) = subst Alters (sym is) tt
carried_alters c m s v base acc number e (by_number from req body is found) = subst Alters (sym is) tt

look_viewed : (c : Cause) (old : Stamp) (m : Node) (b : Ballot) (v : BallotVerdict) → LooksAtBallot m b v → LooksAtVotesBy c b.stamp → m.leaving ≡ false → length (image_of_node m).rows
    ≡ 16 → b.votes m.core.who ≡ None → ViewSinceThen c old m → ViewSinceThen c old v.node
look_viewed c old m b v (decides may) by stays long none h =
    let test : ℕ → Bool = λ name. not (b.given_up name) in
    let names = need_set_without_given_up b (need_set_of m b) in
    let before = trim_to_least_taken_by m b names in
    let r = max b.resilience (image_of_node m).resilience in
    let e = View (decided_view m b names) in
    let need = own_best_list_needs_members m b may.learned.own none in
    let some : (place : ℕ) → place < 16 → (slice_index names place ≡ 0) ⊎ (slice_index names place ≡ slice_index (members m) place) =
    λ place low. ⊎_elim (λ (z : slice_index names place ≡ 0). inl z)
    (λ (z : slice_index names place ≡ slice_index (need_set_of m b) place). inr (z ∙ ap (λ set. slice_index set place) need))
    (selected_place_same_or_empty test (need_set_of m b) place low) in
    let same : members (push_entry before e) ≡ names = ap members_of_image (image_of_pushed_entry before e)
    ∙ members_after_view (image_of_node m) (top m + 1) (decided_view m b names) long (omega arith) (length_of_selection test (need_set_of m b)) some in
    decided (record {
      whole = whole_decided before (decided_view m b names) same;
      by = subst (LooksAtVotesBy c) (sym (view_of_pushed_view before (decided_view m b names))) by;
      stays = stays;
    })
look_viewed c old m b v _ by stays long none h = viewed_same c old m v.node refl refl refl h

-- a fetched entry
fetch_viewed : (c : Cause) (old : Stamp) (nodes : ℕ → Node) (name : ℕ) (m : Node) (s : ℕ) (v : Stamp) (base number : ℕ) (e : Entry)
    → c ≡ hears (packet.Piece s v base number e) → stamps_are_equal (view m) v ≡ false → m.core.who ≡ name → EntryViewIsKnown nodes e
    → stamp_is_less (view m) (view (nodes name)) ≡ false → fits (image_of_node m) e ≡ true → ViewSinceThen c old m → ViewSinceThen c old (push_entry (trim_node_up_to m base) e)
unfolding fits
fetch_viewed c old nodes name m s v base number (View w) is below who known up fit h =
    let e = View w in
    let above = (both_of_and (stamp_is_less (view m) w.stamp) _ fit).0 in
    let last = view_of_pushed_view (trim_node_up_to m base) w in
    split_on_bool (w.stamp.by == m.core.who)
    (λ t.
    let mine : w.stamp.by ≡ name = (let x : w.stamp.by ≡ m.core.who = grind (arith, nat_tests) in x ∙ who) in
    let low : stamp_is_less (view (nodes name)) w.stamp ≡ false = subst (λ k. stamp_is_less (view (nodes k)) w.stamp ≡ false) mine known.low in
    let higher = stamp_at_most_then_below (view (nodes name)) (view m) w.stamp up above in
    absurd (cc))
    (λ f. of_other (ap (λ (x : Stamp). x.by == m.core.who) last ∙ f))
fetch_viewed c old nodes name m s v base number e is below who known up fit h =
    viewed_plain c old m (push_entry (trim_node_up_to m base) e) e refl refl refl
    (λ k. absurd (fetched_for c (view m) k.by s v base number _ is below)) h

pub change_keeps_origin_of_view : (nodes : ℕ → Node) (name : ℕ) (c : Cause) (o : Outcome) (old : Stamp) (m n : Node) → HeardViewsAreKnown nodes c → Change c o m n
    → has_log_by_status m.status ≡ true → m.core.who ≡ name → stamp_is_less (view m) (view (nodes name)) ≡ false → length (image_of_node m).rows ≡ 16
    → BallotHasNoOwnVote m.core.who m.ballot → NodeBallotFits m → BallotingNodeIsNotLeaving m → ViewSinceThen c old m → ViewSinceThen c old n
change_keeps_origin_of_view nodes name c o old m n heard refreshes log who up long none k q h = let r = refresh_rests_with_list m in
    viewed_same c old m (refresh m) r.rests.who r.log r.rests.leaving h
change_keeps_origin_of_view nodes name c o old m n heard settles log who up long none k q h =
    subst (ViewSinceThen c old) (sym (settle_changes_only_sends m)) (viewed_same c old m _ refl refl refl h)
change_keeps_origin_of_view nodes name c o old m n heard (numbers e leads room why) log who up long none k q h =
    viewed_plain c old m n e (numbered_entry_is_no_view c m e why) refl refl (fresh_numbered c m e why long) h
change_keeps_origin_of_view nodes name c o old m n heard (stores s v base acc number e by from plain may) log who up long none k q h =
    viewed_plain c old m n e plain refl refl (λ z. absurd (never_both c (view m) z.by (carried_alters c m s v base acc number e by))) h
change_keeps_origin_of_view nodes name c o old m n heard (begins_list s v base join image is says may) log who up long none k q h =
    absurd (let f = welcomed_node_has_no_log m s v base join image may in cc)
change_keeps_origin_of_view nodes name c o old m n heard (looks b verdict over why look is) log who up long none k q h =
    look_viewed c old m b verdict look (looks_by c m b why (balloting_looks_at_open_ballot m b why k).open_.promised) (looked_quiet c m b why q) long (balloting_has_no_own_vote c m b why none) h
change_keeps_origin_of_view nodes name c o old m n heard (fetches s v base number e is by promise below from may) log who up long none k q h =
    fetch_viewed c old nodes name m s v base number e is below who (heard.piece s v base number e is) up may.fits h
change_keeps_origin_of_view nodes name c o old m n heard (stores_view s base number v is by own other promise below may) log who up long none k q h =
    of_other (ap (λ (x : Stamp). x.by == m.core.who) (view_of_pushed_view (trim_node_up_to m base) v) ∙ other)
change_keeps_origin_of_view nodes name c o old m n heard (asks_to_leave is was stays done) log who up long none k q (as_before x) = as_before x
change_keeps_origin_of_view nodes name c o old m n heard (asks_to_leave is was stays done) log who up long none k q (of_other x) = of_other x
change_keeps_origin_of_view nodes name c o old m n heard (asks_to_leave is was stays done) log who up long none k q (decided x) =
    absurd (never_both c (view m) x.by (subst Alters (sym is) tt))
change_keeps_origin_of_view nodes name c o old m n heard (closes leads leaves alone room) log who up long none k q h =
    let e = Leave m.core.who in
    let r = end_refresh_rests_with_list (push_entry m e) in
    viewed_plain c old m n e refl r.rests.who r.log (λ z. absurd (let f = z.stays in cc)) h
change_keeps_origin_of_view nodes name c o old m n heard _ log who up long none k q h = viewed_same c old m n refl refl refl h
