-- Which Views a Piece and a Result add to a node's list.
use Rattle.am_step_laws.proofs.Words.{stamp_eq_gives_equality, ◌≡◌, ℕ, ◌+◌, ◌-◌, max, ◌==◌, ◌&&◌, ◌||◌, not, nat_lt, nat_le, if◌then◌else◌, Bool, true, false, List, [], ◌∷◌}
use Rattle.am_step_laws.proofs.Words.{Option, Some, None, refl, sym, ap, ◌∙◌, list_any, Outcome, GroupView, Stamp, Image, Entry, View, has, size, stamp_is_less}
use Rattle.am_step_laws.proofs.Words.{stamps_are_equal, Log, fits, Status, has_log_by_status, Ballot, top, image_of_node, view, names_that_pass, is_member, number_is_within_bound, push_entry, trim_node_up_to}
use Rattle.am_step_laws.proofs.Words.{Plan, StepResult, plan_without_letters, finish, BallotVerdict, node_with_promise, need_set_of, best_vote_for_ballot, need_set_without_given_up, trim_to_least_taken_by, decide, decide_view, restart_reports}
use Rattle.am_step_laws.proofs.Words.{push_fetched, catch_up, look_at_ballot_anew, piece_promised, piece_for, piece_row, row_of_promised_result, result_row}
use Rattle.am_step_laws.proofs.Words.{member_hears_other, hear_row, split_on_bool, both_of_and, or_false_first_is_false, end_refresh_rests_with_list, view_of_pushed_plain_entry, decided_view}
use Rattle.am_step_laws.proofs.Watching.StoredWords.{or-false, eq-eqb, view_of_pushed_view, not-false, has_own_leave, is_waited_for, verdict_ending, is_unfetchable_view, fetches_from, is_view_of}
use Rattle.am_step_laws.proofs.Watching.StoredWords.{stamp_not_below_itself, BallotIsOpenAndPromised, OpenBallotIsPromised, NodeBallotFits}
use Rattle.am_base.specs.Lists.{log_with_entry}
use Rattle.am_model.specs.Node.{Node}
use Rattle.am_base.specs.declared.outcome.Outcome.TheVariants as said
use Rattle.am_packet.specs.declared.packet.Packet.TheVariants as packet
use Rattle.am_step_laws.proofs.Watching.StoredViews.{log_has_view, view_told_by_log, or_is_associative, has_view_after_push, has_view_after_plain_push}

-- the name decided a view of its own, as its list tells
abbrev pub has_decided_own_view : ℕ → Node → Log → Bool
has_decided_own_view name m log = is_member m.status && (((view_told_by_log log).by == name) && not (stamps_are_equal (view m) (view_told_by_log log)))

abbrev pub any_entry_is_view : List Entry → Stamp → Bool
any_entry_is_view es v = list_any (is_view_of v) es

-- What a step adds to a name's list, which brought these entries: no View; its last View, and what was brought; or its list began,
-- without a View.
pub data AddsViewsToList (name : ℕ) (brought : List Entry) (m : Node) (s : Status) (log : Log) : Type 0 where
  none : ((v : Stamp) → log_has_view log v ≡ log_has_view m.core.log v) → view_told_by_log log ≡ view m → AddsViewsToList name brought m s log
  last : ((v : Stamp) → log_has_view log v ≡ (log_has_view m.core.log v || (any_entry_is_view brought v || stamps_are_equal (view_told_by_log log) v)))
      → stamp_is_less (view m) (view_told_by_log log) ≡ true → (is_member s ≡ true → is_member m.status ≡ true)
      → (has_decided_own_view name m log ≡ false → (v : Stamp) → (any_entry_is_view brought v || stamps_are_equal (view_told_by_log log) v) ≡ stamps_are_equal (view_told_by_log log) v)
      → AddsViewsToList name brought m s log
  began : ((v : Stamp) → log_has_view log v ≡ false) → ((v : Stamp) → log_has_view m.core.log v ≡ false) → has_log_by_status m.status ≡ false → is_member s ≡ true
      → AddsViewsToList name brought m s log

if_else : {A : Type 0} (P : A → Type 0) (b : Bool) (x y : A) → (b ≡ true → P x) → (b ≡ false → P y) → P (if b then x else y)
if_else P true x y f g = f refl
if_else P false x y f g = g refl

-- a plan whose node doesn't depart
pub record PlanAddsViews (name : ℕ) (brought : List Entry) (m : Node) (p : Plan) : Type 0 where
  pub stays : p.departs ≡ false
  pub adds : AddsViewsToList name brought m p.node.status p.node.core.log

abbrev pub StepAddsViews : ℕ → List Entry → Node → StepResult → Type 0
StepAddsViews name brought m s = AddsViewsToList name brought m s.node.status s.node.core.log

-- the end of the step adds nothing
pub finish_adds_no_view : (name : ℕ) (brought : List Entry) (m : Node) (p : Plan) → PlanAddsViews name brought m p → StepAddsViews name brought m (finish m p)
unfolding finish
finish_adds_no_view name brought m p h =
    let r = end_refresh_rests_with_list p.node in
    rw (h.stays, r.rests.status, r.log) h.adds

quietly : (name : ℕ) (brought : List Entry) (m : Node) (o : Outcome) → PlanAddsViews name brought m (plan_without_letters m o)
quietly name brought m o = record { stays = refl; adds = none (λ v. refl) refl }

-- ---- what a ballot comes to

-- the list stays, or has the ballot's View more
data ComesTo (p : Node) (b : Ballot) (v : BallotVerdict) : Type 0 where
  stays : v.node.core.log ≡ p.core.log → v.node.status ≡ p.status → ComesTo p b v
  decided : (w : GroupView) → w.stamp ≡ b.stamp → v.node.core.log ≡ (push_entry p (View w)).core.log → v.node.status ≡ p.status → ComesTo p b v

view_comes : (p t : Node) (b : Ballot) (names : List ℕ) → t.core.log ≡ p.core.log → t.status ≡ p.status → ComesTo p b (decide_view t b names)
view_comes p t b names log same =
    let w = decided_view t b names in
    if_else (ComesTo p b) (nat_lt (t.core.rules.window + 16 - size names) (top t + 1 - t.core.base)) (verdict_ending t b (said.Crowded t.core.base (top t)))
    (verdict_ending (restart_reports (push_entry t (View w))) b (said.Decided (top t + 1) names))
    (λ t. stays log same)
    (λ f. decided w refl (ap (λ (l : Log). log_with_entry l (View w)) log) same)

comes_to : (p : Node) (b : Ballot) → ComesTo p b (decide p b)
unfolding decide
comes_to p b =
    let need = need_set_of p b in
    let names = need_set_without_given_up b need in
    let C : BallotVerdict → Type 0 = ComesTo p b in
    if_else C (not (has need p.core.who)) _ _ (λ t. stays refl refl)
    (λ f. if_else C (nat_lt 0 (size (names_that_pass (is_waited_for p.core.who b) need))) _ _ (λ t. stays refl refl)
    (λ g. if_else C (not ((best_vote_for_ballot p b).by == p.core.who)) _ _ (λ t. stays refl refl)
    (λ k. if_else C (nat_lt (size names) b.least) _ _ (λ t. stays refl refl)
    (λ l. view_comes p (trim_to_least_taken_by p b names) b names refl refl))))

-- ---- an entry that comes

fits_above : (image : Image) (v : GroupView) → fits image (View v) ≡ true
    → stamp_is_less image.view v.stamp ≡ true
unfolding fits
fits_above image v h = (both_of_and (stamp_is_less image.view v.stamp) _ h).0

twice : (b : Bool) → ((b || false) || b) ≡ b
twice true = refl
twice false = refl

pub lower_stamp_is_not_equal : (a b : Stamp) → stamp_is_less a b ≡ true → stamps_are_equal a b ≡ false
lower_stamp_is_not_equal a b h = split_on_bool (stamps_are_equal a b)
    (λ t. absurd (let same = stamp_eq_gives_equality a b t in let n = stamp_not_below_itself a in cc))
    (λ f. f)

-- it stands alone
came : (name : ℕ) (m : Node) (base : ℕ) (e : Entry) (s : Status) → is_member m.status ≡ true → fits (image_of_node m) e ≡ true
    → AddsViewsToList name (e ∷ []) m s (push_entry (trim_node_up_to m base) e).core.log
came name m base (View w) s member fit =
    let e = View w in
    let same : view_told_by_log (push_entry m e).core.log ≡ w.stamp = view_of_pushed_view m w in
    last
    (λ v. rw (same, twice (stamps_are_equal w.stamp v)) (has_view_after_push m e v))
    (rw same (fits_above (image_of_node m) w fit))
    (λ t. member)
    (λ f v. rw same (twice (stamps_are_equal w.stamp v)))
came name m base _ s member fit = none (λ v. has_view_after_plain_push m _ v refl) (view_of_pushed_plain_entry m _ refl)

-- and then a decided View
came_decided : (name : ℕ) (m : Node) (base : ℕ) (e : Entry) (s : Status) (v : GroupView) → is_member m.status ≡ true
    → stamp_is_less (view m) v.stamp ≡ true → v.stamp.by ≡ name
    → AddsViewsToList name (e ∷ []) m s (push_entry (push_entry (trim_node_up_to m base) e) (View v)).core.log
came_decided name m base e s w member above own =
    let p = push_entry m e in
    let d = View w in
    let same : view_told_by_log (push_entry p d).core.log ≡ w.stamp = view_of_pushed_view p w in
    let by : ((view_told_by_log (push_entry p d).core.log).by == name) ≡ true = eq-eqb _ name (ap (λ (u : Stamp). u.by) same ∙ own) in
    let up : stamp_is_less (view m) (view_told_by_log (push_entry p d).core.log) ≡ true = rw same above in
    let new = lower_stamp_is_not_equal (view m) (view_told_by_log (push_entry p d).core.log) up in
    last
    (λ v. has_view_after_push p d v ∙ ap (λ b. b || stamps_are_equal w.stamp v) (has_view_after_push m e v) ∙ or_is_associative (log_has_view m.core.log v) (is_view_of v e) (stamps_are_equal w.stamp v)
    ∙ (λ i. log_has_view m.core.log v || (sym (or-false (is_view_of v e)) i || stamps_are_equal (sym same i) v)))
    up
    (λ t. member)
    (λ f. absurd (let g = rw (member, by, new) at f in cc))

-- ---- a Piece

fetched_adds : (name : ℕ) (m : Node) (v : Stamp) (base number : ℕ) (e : Entry) (in_ballot : Bool) (then_ : Node → Plan)
    → (fits (image_of_node m) e ≡ true → PlanAddsViews name (e ∷ []) m (then_ (push_entry (trim_node_up_to m base) e)))
    → PlanAddsViews name (e ∷ []) m (push_fetched m v base number e in_ballot then_)
fetched_adds name m v base number e in_ballot then_ goes =
    let P : Plan → Type 0 = PlanAddsViews name (e ∷ []) m in
    let q = quietly name (e ∷ []) m in
    if_else P (nat_le number (top m)) _ _ (λ t. q said.Known)
    (λ f. if_else P (has_own_leave m) _ _ (λ t. q said.Behind)
    (λ g. if_else P (nat_lt (top m + 1) number) _ _ (λ t. q (said.Gap (top m + 1)))
    (λ k. if_else P (nat_lt m.core.taken base) _ _ (λ t. q said.Behind)
    (λ l. if_else P (not (fits (image_of_node m) e) || (is_unfetchable_view v in_ballot e || not (number_is_within_bound m (max m.core.base base) number))) _ _ (λ t. q said.Unfit)
    (λ u. goes (not-false _ (or_false_first_is_false (not (fits (image_of_node m) e)) _ u)))))))

promised_adds : (name : ℕ) (m : Node) (s : ℕ) (v : Stamp) (base number : ℕ) (e : Entry) → is_member m.status ≡ true
    → PlanAddsViews name (e ∷ []) m (piece_promised m s v base number e)
promised_adds name m s v base number e member =
    if_else (PlanAddsViews name (e ∷ []) m) (not (v.by == s)) _ _ (λ t. quietly name (e ∷ []) m said.Elsewhere)
    (λ f. fetched_adds name m v base number e false (catch_up s v number) (λ fit. record { stays = refl; adds = came name m base e m.status member fit }))

decided_adds : (name : ℕ) (m : Node) (base : ℕ) (e : Entry) (b : Ballot) (v : BallotVerdict) → ComesTo (push_entry (trim_node_up_to m base) e) b v → m.core.who ≡ name
    → is_member m.status ≡ true → BallotIsOpenAndPromised m.core.who m.core.promise (view m) b → fits (image_of_node m) e ≡ true → AddsViewsToList name (e ∷ []) m v.node.status v.node.core.log
decided_adds name m base e b v (stays log same) who member open_ fit =
    rw log (came name m base e v.node.status member fit)
decided_adds name m base e b v (decided w is log same) who member open_ fit =
    rw log (came_decided name m base e v.node.status w member (rw is open_.above) (ap (λ (s : Stamp). s.by) is ∙ open_.own ∙ who))

piece_for_adds : (name : ℕ) (m : Node) (s : ℕ) (v : Stamp) (base number : ℕ) (e : Entry) (b : Option Ballot) → m.core.who ≡ name → is_member m.status ≡ true
    → OpenBallotIsPromised m.core.who m.core.promise (view m) b → PlanAddsViews name (e ∷ []) m (piece_for m s v base number e b)
piece_for_adds name m s v base number e None who member open_ = promised_adds name m s v base number e member
piece_for_adds name m s v base number e (Some b) who member open_ =
    let P : Plan → Type 0 = PlanAddsViews name (e ∷ []) m in
    if_else P b.is_over _ _ (λ t. promised_adds name m s v base number e member)
    (λ f. if_else P (not (fetches_from b.answer s)) _ _ (λ t. quietly name (e ∷ []) m said.Elsewhere)
    (λ g. fetched_adds name m v base number e true (look_at_ballot_anew b)
    (λ fit. let p = push_entry (trim_node_up_to m base) e in record {
      stays = refl;
      adds = decided_adds name m base e b (decide p b) (comes_to p b) who member (open_ f) fit;
    })))

pub piece_adds_its_view : (name : ℕ) (m : Node) (s : ℕ) (v : Stamp) (base number : ℕ) (e : Entry) → m.core.who ≡ name → NodeBallotFits m
    → PlanAddsViews name (e ∷ []) m (hear_row m (packet.Piece s v base number e))
unfolding hear_row piece_row
piece_adds_its_view name m s v base number e who kept =
    let P : Plan → Type 0 = PlanAddsViews name (e ∷ []) m in
    if_else P (member_hears_other m s) _ _
    (λ t. if_else P (not (stamps_are_equal v m.core.promise) || stamps_are_equal (view m) v) _ _ (λ u. quietly name (e ∷ []) m said.Elsewhere)
    (λ f. piece_for_adds name m s v base number e m.ballot who (both_of_and (not (s == m.core.who)) (is_member m.status) t).1 kept.opened))
    (λ f. quietly name (e ∷ []) m said.Elsewhere)

-- ---- a Result

viewed_adds : (name : ℕ) (m : Node) (v : GroupView) → is_member m.status ≡ true
    → fits (image_of_node m) (View v) ≡ true → AddsViewsToList name [] m m.status (push_entry m (View v)).core.log
viewed_adds name m w member fit =
    let e = View w in
    let same : view_told_by_log (push_entry m e).core.log ≡ w.stamp = view_of_pushed_view m w in
    last
    (λ v. rw same (has_view_after_push m e v))
    (rw same (fits_above (image_of_node m) w fit))
    (λ t. member)
    (λ f v. refl)

promised_result : (name : ℕ) (m : Node) (s : ℕ) (base number : ℕ) (v : GroupView) → is_member m.status ≡ true
    → PlanAddsViews name [] m (row_of_promised_result (node_with_promise m v.stamp) s base number v)
promised_result name m s base number v member =
    let P : Plan → Type 0 = PlanAddsViews name [] m in
    let p = node_with_promise m v.stamp in
    let e = View v in
    if_else P (stamps_are_equal (view p) v.stamp) _ _ (λ t. record { stays = refl; adds = none (λ u. refl) refl })
    (λ f. if_else P (nat_le number (top p)) _ _ (λ t. record { stays = refl; adds = none (λ u. refl) refl })
    (λ g. if_else P (has_own_leave p) _ _ (λ t. record { stays = refl; adds = none (λ u. refl) refl })
    (λ k. if_else P (nat_lt (top p + 1) number) _ _ (λ t. record { stays = refl; adds = none (λ u. refl) refl })
    (λ l. if_else P (nat_lt p.core.taken base) _ _ (λ t. record { stays = refl; adds = none (λ u. refl) refl })
    (λ q. if_else P (not (fits (image_of_node p) e) || not (number_is_within_bound p (max p.core.base base) number)) _ _
    (λ t. record { stays = refl; adds = none (λ u. refl) refl })
    (λ u. record { stays = refl; adds = viewed_adds name m v member (not-false _ (or_false_first_is_false (not (fits (image_of_node p) e)) _ u)) }))))))

pub result_adds_its_view : (name : ℕ) (m : Node) (s : ℕ) (base number : ℕ) (v : GroupView)
    → PlanAddsViews name [] m (hear_row m (packet.Result s base number v))
unfolding hear_row result_row
result_adds_its_view name m s base number v =
    let P : Plan → Type 0 = PlanAddsViews name [] m in
    if_else P (member_hears_other m s && (v.stamp.by == s)) _ _
    (λ t. if_else P ((v.stamp.by == m.core.who) || stamp_is_less v.stamp m.core.promise) _ _ (λ u. quietly name [] m said.Elsewhere)
    (λ f. promised_result name m s base number v
    (both_of_and (not (s == m.core.who)) (is_member m.status) (both_of_and (member_hears_other m s) (v.stamp.by == s) t).0).1))
    (λ f. quietly name [] m said.Elsewhere)
