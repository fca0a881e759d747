-- How a name comes to act in a view: it did before, it decided it, or a letter of the view's own name told it, whose base it had taken.
use Rattle.am_lawful_runs.proofs.Words.{decided_view, GroupView, Packet}
use Rattle.am_repair.proofs.Repairable.RepairedWords.{numbered_entry_is_no_view, stamp_name_is_sender, heard_asking_is_other, heard_member_is_other, stamp_eq_of_itself, stamp_eq_gives_equality, ◌≡◌, either, ℕ, ◌<◌, ◌≤◌, ◌==◌, ◌&&◌}
use Rattle.am_repair.proofs.Repairable.RepairedWords.{true, false, [], refl, sym, ap, ◌∙◌, subst, arith, nat_tests, Entry, View, Image, Stamp, Outcome, Rules, stamp_is_less}
use Rattle.am_repair.proofs.Repairable.RepairedWords.{stamps_are_equal, Log, blank, image_after_entries, image_of_log, Node, Ballot, view, acts_in_its_view, is_member, push_entry, trim_node_up_to, has_log_by_status, BallotVerdict}
use Rattle.am_repair.proofs.Repairable.RepairedWords.{node_with_promise, next_stamp, trim_to_least_taken_by, need_set_without_given_up, need_set_of, is_view, split_on_bool, Cause, hears, LooksAtBallot, fetches_from_best}
use Rattle.am_repair.proofs.Repairable.RepairedWords.{decides, MayStoreFetched, without_ballot, for_ballot, Change, refreshes, settles, numbers, stores, begins_list, departs}
use Rattle.am_repair.proofs.Repairable.RepairedWords.{promises, opens, looks, fetches, stores_view, takes, asks_to_join, asks_to_leave, closes, Changes, unchanged}
use Rattle.am_repair.proofs.Repairable.RepairedWords.{changed, view_of_pushed_plain_entry, IsBlankWithoutLog, stamp_not_below_itself, lower_stamp_is_not_above, unordered_stamps_are_equal, stamp_at_most_is_transitive, stamp_at_most_then_below, NodePartsHaveNames}
use Rattle.am_repair.proofs.Repairable.RepairedWords.{HeardStampsHaveNames, view_of_pushed_view, NodeBallotFits, next_round_is_above, balloting_looks_at_open_ballot, change_keeps_list_and_ballot, HeardWelcomeImageIsUsed, TrimsOnlyTakenAlongStep, changes_trim_only_taken, acting_member_promised_its_view}
use Rattle.am_repair.proofs.Repairable.RepairedWords.{refreshed_node_stands_alike, settled_node_stands_alike, views_of_alike_nodes, acts_of_alike_nodes, NodesStandAlike}

-- ---- names

-- ---- who tells a view

-- the letter that brings it, with its base
pub data CauseTellsView : Cause → ℕ → Stamp → ℕ → Type 0 where
  by_piece : (s : ℕ) (v : Stamp) (base number : ℕ) (e : Entry) → CauseTellsView (hears (Packet.Piece s v base number e)) s v base
  by_result : (s : ℕ) (base number : ℕ) (v : GroupView) → CauseTellsView (hears (Packet.Result s base number v)) s v.stamp base
  by_welcome : (s : ℕ) (v : Stamp) (base join : ℕ) (image : Image) → CauseTellsView (hears (Packet.Welcome s v base join image)) s v base

pub data CameToActInView (c : Cause) (m y : Node) : Type 0 where
  before : acts_in_its_view m ≡ true → view y ≡ view m → m.core.taken ≤ y.core.taken → CameToActInView c m y
  own : (view y).by ≡ y.core.who → stamp_is_less (view m) (view y) ≡ true → CameToActInView c m y
  told_so : (s : ℕ) (v : Stamp) (base : ℕ) → CauseTellsView c s v base → view y ≡ v → v.by ≡ s → (s == y.core.who) ≡ false → base ≤ y.core.taken → CameToActInView c m y

-- nothing of that changes
record Stays (x y : Node) : Type 0 where
  pub who : y.core.who ≡ x.core.who
  pub view_ : view y ≡ view x
  pub acts_ : acts_in_its_view y ≡ true → acts_in_its_view x ≡ true
  pub taken : x.core.taken ≤ y.core.taken

came_on : (c : Cause) (m x y : Node) → Stays x y → CameToActInView c m x → CameToActInView c m y
came_on c m x y s (before a v low) = before a (s.view_ ∙ v) (let t = s.taken in omega arith)
came_on c m x y s (own is above) = own (ap (λ (u : Stamp). u.by) s.view_ ∙ is ∙ sym s.who) (ap (stamp_is_less (view m)) s.view_ ∙ above)
came_on c m x y s (told_so from v base tells v_is by other low) =
    told_so from v base tells (s.view_ ∙ v_is) by (ap (λ k. from == k) s.who ∙ other) (let t = s.taken in omega arith)

stays_alike : (x y : Node) → NodesStandAlike x y → Stays x y
stays_alike x y h = record { who = h.who; view_ = views_of_alike_nodes h; acts_ = λ t. sym (acts_of_alike_nodes h) ∙ t; taken = h.taken }

stays_pushed : (x y : Node) (e : Entry) → is_view e ≡ false → y.core.who ≡ x.core.who → view y ≡ view (push_entry x e) → y.core.promise ≡ x.core.promise
    → y.status ≡ x.status → x.core.taken ≤ y.core.taken → Stays x y
stays_pushed x y e plain who viewed promise status taken =
    let v = viewed ∙ view_of_pushed_plain_entry x e plain in
    record { who = who; view_ = v; acts_ = λ t. sym (λ i. is_member (status i) && stamps_are_equal (promise i) (v i)) ∙ t; taken = taken }

-- nothing but numbers and sets that aren't named here
plain_stay : (x y : Node) → y.core.who ≡ x.core.who → y.core.log ≡ x.core.log → y.core.promise ≡ x.core.promise → y.status ≡ x.status
    → x.core.taken ≤ y.core.taken → Stays x y
plain_stay x y who log promise status taken =
    let v : view y ≡ view x = ap (λ (l : Log). (image_of_log l).view) log in
    record { who = who; view_ = v; acts_ = λ t. sym (λ i. is_member (status i) && stamps_are_equal (promise i) (v i)) ∙ t; taken = taken }

-- ---- each change

came_look : (c : Cause) (m x : Node) (b : Ballot) (v : BallotVerdict) → LooksAtBallot x b v → b.stamp.by ≡ x.core.who → stamp_is_less (view m) b.stamp ≡ true
    → (acts_in_its_view x ≡ true → CameToActInView c m x) → acts_in_its_view v.node ≡ true → CameToActInView c m v.node
came_look c m x b v (fetches_from_best w u z) mine above h t = came_on c m x v.node (record {
  who = refl;
  view_ = refl;
  acts_ = λ a. a;
  taken = omega arith;
}) (h t)
came_look c m x b v (decides may) mine above h t =
    let is : view v.node ≡ b.stamp = view_of_pushed_view (trim_to_least_taken_by x b (need_set_without_given_up b (need_set_of x b))) (decided_view x b (need_set_without_given_up b (need_set_of x b))) in
    own (ap (λ (u : Stamp). u.by) is ∙ mine) (ap (stamp_is_less (view m)) is ∙ above)
came_look c m x b v _ mine above h t = came_on c m x v.node (record { who = refl; view_ = refl; acts_ = λ a. a; taken = omega arith }) (h t)

-- a promise of the view that the node is in is no new one
promised_acts : (x : Node) (v : Stamp) → NodePartsHaveNames x → v.by < 256 → NodeBallotFits x → stamp_is_less v x.core.promise ≡ false → acts_in_its_view (node_with_promise x v) ≡ true → acts_in_its_view x
    ≡ true
promised_acts x v names few k low t =
    let a = acting_member_promised_its_view (node_with_promise x v) t in
    let up : stamp_is_less x.core.promise v ≡ false = ap (stamp_is_less x.core.promise) a.1 ∙ k.high in
    let same : v ≡ x.core.promise = unordered_stamps_are_equal v x.core.promise few names.promise_ low up in
    sym (ap (λ s. is_member x.status && stamps_are_equal s (view x)) same) ∙ t

-- what is fetched is no View, or that of the promise, from its own name
fetched_view : (x : Node) (s : ℕ) (v : Stamp) (base : ℕ) (e : Entry) → MayStoreFetched x s v e → v ≡ x.core.promise → is_view e ≡ true
    → acts_in_its_view (push_entry (trim_node_up_to x base) e) ≡ true → (view (push_entry (trim_node_up_to x base) e) ≡ v) × (v.by ≡ s)
fetched_view x s v base (View w) why promise is t =
    let last = view_of_pushed_view (trim_node_up_to x base) w in
    let at : w.stamp ≡ v = sym ((acting_member_promised_its_view (push_entry (trim_node_up_to x base) (View w)) t).1 ∙ last) ∙ sym promise in (
      last ∙ at,
      elim why [
        | without_ballot none from past ↦ stamp_name_is_sender v s from
        | for_ballot b open_ from past ↦
            let u : stamps_are_equal w.stamp v ≡ true = ap (stamps_are_equal w.stamp) (sym at) ∙ stamp_eq_of_itself w.stamp in
            absurd (split_on_bool (stamp_is_less v w.stamp) (λ y. let p = rw y at past in cc) (λ y. let p = rw (y, u) at past in cc))
      ],
    )
fetched_view x s v base _ why promise is t = absurd (cc)

came_change : (c : Cause) (o : Outcome) (m x y : Node) → HeardStampsHaveNames c → NodePartsHaveNames x → NodePartsHaveNames y → NodeBallotFits x → stamp_is_less (view x) (view m) ≡ false
    → Change c o x y → (acts_in_its_view x ≡ true → CameToActInView c m x) → acts_in_its_view y ≡ true → CameToActInView c m y
came_change c o m x y heard names after k low refreshes h t = let s = stays_alike x y (refreshed_node_stands_alike x) in came_on c m x y s (h (s.acts_ t))
came_change c o m x y heard names after k low settles h t = let s = stays_alike x y (settled_node_stands_alike x) in came_on c m x y s (h (s.acts_ t))
came_change c o m x y heard names after k low (numbers e leads room why) h t =
    let s = stays_pushed x y e (numbered_entry_is_no_view c x e why) refl refl refl refl (omega arith) in came_on c m x y s (h (s.acts_ t))
came_change c o m x y heard names after k low (stores s v base acc number e carries heard_ plain may) h t =
    let s_ = stays_pushed x y e plain refl refl refl refl (omega arith) in came_on c m x y s_ (h (s_.acts_ t))
came_change c o m x y heard names after k low (begins_list s v base join image is says may) h t =
    let at : view y ≡ v = sym (acting_member_promised_its_view y t).1 in
    told_so s v base (subst (λ z. CauseTellsView z s v base) (sym is) (by_welcome s v base join image)) at (stamp_name_is_sender v s may.own) (heard_asking_is_other x s may.asks)
    (omega arith)
came_change c o m x y heard names after k low (departs s v number is heard_ leaves) h t = absurd (cc)
came_change c o m x y heard names after k low (promises v high why) h t =
    let a = promised_acts x v names after.promise_ k high t in
    came_on c m x y (record { who = refl; view_ = refl; acts_ = λ u. a; taken = omega arith }) (h a)
came_change c o m x y heard names after k low (opens least resilience begins may) h t = absurd (
    let above = stamp_at_most_then_below (view x) x.core.promise (next_stamp x) k.high (next_round_is_above x.core.promise x.core.who) in
    let z : stamp_is_less (view x) (view x) ≡ true = subst (λ s. stamp_is_less (view x) s ≡ true) (acting_member_promised_its_view y t).1 above in
    let w = stamp_not_below_itself (view x) in cc)
came_change c o m x y heard names after k low (looks b verdict over why look is) h t =
    let l = (balloting_looks_at_open_ballot x b why k).open_ in
    came_look c m x b verdict look l.own (stamp_at_most_then_below (view m) (view x) b.stamp low l.above) h t
came_change c o m x y heard names after k low (fetches s v base number e is heard_ promise below why may) h t =
    split_on_bool (is_view e)
    (λ u. let at = fetched_view x s v base e why (stamp_eq_gives_equality v x.core.promise promise) u t in
    told_so s v base (subst (λ z. CauseTellsView z s v base) (sym is) (by_piece s v base number e)) at.0 at.1 (heard_member_is_other x s heard_) may.taken)
    (λ f. let s_ = stays_pushed x y e f refl refl refl refl (omega arith) in came_on c m x y s_ (h (s_.acts_ t)))
came_change c o m x y heard names after k low (stores_view s base number v is heard_ own_ other promise below may) h t =
    told_so s v.stamp base (subst (λ z. CauseTellsView z s v.stamp base) (sym is) (by_result s base number v)) (view_of_pushed_view (trim_node_up_to x base) v)
    (stamp_name_is_sender v.stamp s own_) (heard_member_is_other x s heard_) may.taken
came_change c o m x y heard names after k low (takes e is says member some there) h t =
    came_on c m x y (record { who = refl; view_ = refl; acts_ = λ a. a; taken = omega arith }) (h t)
came_change c o m x y heard names after k low (asks_to_join is was) h t = absurd (cc)
came_change c o m x y heard names after k low (asks_to_leave is was stays done) h t = came_on c m x y
    (record { who = refl; view_ = refl; acts_ = λ a. a; taken = omega arith }) (h t)
came_change c o m x y heard names after k low (closes leads leaves alone room) h t = absurd (cc)
came_change c o m x y heard names after k low _ h t = came_on c m x y (plain_stay x y refl refl refl refl (omega arith))
    (h t)

-- ---- a step

-- no stamp is below that of an empty list
blank_low : (v : Stamp) → stamp_is_less v (image_of_log (record { start = 0; image = blank; entries = [] })).view ≡ false
unfolding image_after_entries
blank_low v = grind (arith, nat_tests)

-- a view doesn't fall
pub view_never_falls_by_change : {c : Cause} {o : Outcome} (x y : Node) → IsBlankWithoutLog x → HeardStampsHaveNames c → NodePartsHaveNames x → NodeBallotFits x → Change c o x y
    → stamp_is_less (view y) (view x) ≡ false
view_never_falls_by_change x y blank heard names k z = split_on_bool (has_log_by_status x.status)
    (λ t. either ((change_keeps_list_and_ballot heard x y z names k).goes t).view
    (λ same. ap (λ u. stamp_is_less u (view x)) same.view ∙ stamp_not_below_itself (view x))
    (λ up. lower_stamp_is_not_above (view x) (view y) up.0))
    (λ f. subst (λ (l : Log). stamp_is_less (view y) (image_of_log l).view ≡ false) (sym (blank f).blank_) (blank_low (view y)))

came_along : (rules : Rules) {c : Cause} {o : Outcome} (m x n : Node) → HeardStampsHaveNames c → HeardWelcomeImageIsUsed c → Changes c o x n → TrimsOnlyTakenAlongStep rules x
    → stamp_is_less (view x) (view m) ≡ false → (acts_in_its_view x ≡ true → CameToActInView c m x) → acts_in_its_view n ≡ true → CameToActInView c m n
came_along rules m x n heard used unchanged a low h t = h t
came_along rules m x n heard used (changed {n = y} one more) a low h t =
    let b = changes_trim_only_taken rules x y heard used (changed one unchanged) a in
    came_along rules m y n heard used more b (stamp_at_most_is_transitive (view m) (view x) (view y) low (view_never_falls_by_change x y a.blanked heard a.names a.balloted one))
    (came_change _ _ m x y heard a.names b.names a.balloted low one h) t

pub acting_node_came_to_view : (rules : Rules) {c : Cause} {o : Outcome} (m n : Node) → HeardStampsHaveNames c → HeardWelcomeImageIsUsed c → Changes c o m n → TrimsOnlyTakenAlongStep rules m → acts_in_its_view n ≡ true → CameToActInView c m n
acting_node_came_to_view rules m n heard used all a t = came_along rules m m n heard used all a (stamp_not_below_itself (view m)) (λ u. before u refl (omega arith)) t
