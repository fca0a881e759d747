-- What the rows of pieces and results come to.
use Rattle.am_resetting.proofs.CatchingWords.{◌≡◌, ◌≢◌, ℕ, ◌+◌, ◌-◌, ◌<◌, ◌≤◌, max, Bool, true, false, not, ◌||◌, ◌&&◌, ◌==◌, if◌then◌else◌, List, Option, Some}
use Rattle.am_resetting.proofs.CatchingWords.{None, refl, sym, ap, subst, ◌∙◌, arith, nat_tests, greatest_number, Stamp, Entry, GroupView, Data, Join, Leave, View}
use Rattle.am_resetting.proofs.CatchingWords.{Image, Outcome, EntryIsInRange, empty_set_of_names, stamp_is_less, stamps_are_equal, CoreFrontsAreInOrder, told_by_pushed_entry, split_on_bool_of_log, has_log_by_status, Node, Ballot, top}
use Rattle.am_resetting.proofs.CatchingWords.{image_of_node, view, acts_in_its_view, is_member, push_entry, trim_node_up_to, Plan, plan_without_letters, BallotVerdict, node_with_promise, decide, is_unfetchable_view}
use Rattle.am_resetting.proofs.CatchingWords.{push_fetched, catch_up, look_at_ballot_anew, fetches_from, piece_promised, piece_for, piece_row, row_of_promised_result, result_row}
use Rattle.am_resetting.proofs.CatchingWords.{IsEndOf, NodeKeeps, IsOwnBallot, IsSteady, refusal_or_plan, plan_of, FollowsAsView, CatchesNext, IsBelow, HasNoViewAbove, CatcherMayStore}
use Rattle.am_resetting.proofs.CatchingWords.{IsTakenOut, Telling, VerdictComesTo, Reply, Replies, own_ballot_of_steady_node, view_after_view_is_stamp, view_stays_after_data, view_stays_after_join}
use Rattle.am_resetting.proofs.CatchingWords.{view_stays_after_leave, reply_of_equal_plan, branch_of_plan_if_false, stamp_not_lt_itself, equal_stamps_are_same, not-false, reply_quiet_with_outcome, reply_asks_nobody, reply_tells_one_note}
use Rattle.am_resetting.proofs.CatchingWords.{reply_says_and_tells, reply_without_letters, reply_with_telling, reply_asking_names, IsPlain, IsTold, decide_without_own_ballot}
use Rattle.am_base.specs.declared.outcome.Outcome.TheVariants as said
use Rattle.am_node_parts.specs.declared.reply.Telling.TheVariants as tell

or_left : (a b : Bool) → (a || b) ≡ false → a ≡ false
or_left true b h = absurd (cc)
or_left false b h = refl

eq_flip : (a b : Stamp) → stamps_are_equal a b ≡ false → stamps_are_equal b a ≡ false
eq_flip a b h = split_on_bool_of_log (stamps_are_equal b a) (λ t. let r : b.round ≡ a.round = grind (arith, nat_tests) in let n : b.by ≡ a.by = grind (arith, nat_tests) in
    let x : (a.round == b.round) ≡ true = grind (arith, nat_tests) in let y : (a.by == b.by) ≡ true = grind (arith, nat_tests) in
    absurd (let g = rw (x, y) at h in cc)) (λ f. f)

-- a node in another view doesn't act
pub other_view_node_acts_not : (m : Node) (v : Stamp) → v ≡ m.core.promise → stamps_are_equal (view m) v ≡ false → acts_in_its_view m ≡ false
other_view_node_acts_not m v is h =
    let f : stamps_are_equal m.core.promise (view m) ≡ false = ap (λ (p : Stamp). stamps_are_equal p (view m)) (sym is) ∙ eq_flip (view m) v h in
    both (is_member m.status) (stamps_are_equal m.core.promise (view m)) f
  where
    both : (a b : Bool) → b ≡ false → (a && b) ≡ false
    both true b h = h
    both false b h = refl

not_past : (v : Stamp) (in_ballot : Bool) (e : Entry) → is_unfetchable_view v in_ballot e ≡ false → HasNoViewAbove v e
not_past v in_ballot (View w) h = or_left (stamp_is_less v w.stamp) (in_ballot && stamps_are_equal w.stamp v) h
not_past v in_ballot _ h = tt

-- an entry that comes next may be stored
pub next_piece_may_be_stored : (m : Node) (v : Stamp) (base number : ℕ) (e : Entry) (in_ballot : Bool) → CoreFrontsAreInOrder m.core → has_log_by_status m.status ≡ true → v ≡ m.core.promise
    → acts_in_its_view m ≡ false
    → ((b : Ballot) → m.ballot ≡ Some b → b.is_over ≡ true) → EntryIsInRange e → top m < greatest_number → CatchesNext m v base number e in_ballot → CatcherMayStore m base e
next_piece_may_be_stored m v base number e in_ballot order logged is idle over within room next = record {
  order = order;
  idle = idle;
  logged = logged;
  over = over;
  taken = next.taken;
  fits = next.fits;
  up_to = subst (λ (p : Stamp). HasNoViewAbove p e) is (not_past v in_ballot e next.past);
  within = within;
  bound = let at = next.next in let low : number - max m.core.base base ≤ m.core.rules.window + 15 = (let b = next.bound in grind (arith, nat_tests)) in
      omega arith;
  number = room;
}

-- ---- the rows

pub push_fetched_not_next : (m n : Node) (v : Stamp) (base number : ℕ) (e : Entry) (in_ballot : Bool) (then_ : Node → Plan) (x : Option Outcome) (o : Outcome)
    → push_fetched m v base number e in_ballot then_ ≡ refusal_or_plan x m (then_ (push_entry (trim_node_up_to m base) e)) → x ≡ Some o → IsEndOf m n
    → Replies (push_fetched m v base number e in_ballot then_) (reply_without_letters o) n
push_fetched_not_next m n v base number e in_ballot then_ x o is some end =
    reply_of_equal_plan (push_fetched m v base number e in_ballot then_) (plan_without_letters m o) (reply_without_letters o) n (is
    ∙ ap (λ (y : Option Outcome). refusal_or_plan y m (then_ (push_entry (trim_node_up_to m base) e))) some) (reply_quiet_with_outcome m n o (λ k. end))

pub push_fetched_that_comes_next : (m n : Node) (v : Stamp) (base number : ℕ) (e : Entry) (in_ballot : Bool) (then_ : Node
    → Plan) (x : Option Outcome) (y : Reply)
    → push_fetched m v base number e in_ballot then_ ≡ refusal_or_plan x m (then_ (push_entry (trim_node_up_to m base) e)) → x ≡ None
    → Replies (then_ (push_entry (trim_node_up_to m base) e)) y n → Replies (push_fetched m v base number e in_ballot then_) y n
push_fetched_that_comes_next m n v base number e in_ballot then_ x y is none r =
    reply_of_equal_plan (push_fetched m v base number e in_ballot then_) (then_ (push_entry (trim_node_up_to m base) e)) y n (is
    ∙ ap (λ (y : Option Outcome). refusal_or_plan y m (then_ (push_entry (trim_node_up_to m base) e))) none) r

pub catch_up_replies_stored : (m n : Node) (s : ℕ) (v : Stamp) (number : ℕ) → IsEndOf m n
    → Replies (catch_up s v number m) (reply_with_telling (said.Stored number) (tell.AckIn v s)) n
catch_up_replies_stored m n s v number e = reply_says_and_tells m n (said.Stored number) (tell.AckIn v s) refl tt tt (λ k. e)

-- a plan with this answer and this packet
pub plan_replies_plain_telling : (m n : Node) (o : Outcome) (t : Telling) → IsPlain t → IsEndOf m n → Replies (plan_of m o t) (reply_with_telling o t) n
plan_replies_plain_telling m n o tell.Nothing plain e = reply_quiet_with_outcome m n o (λ k. e)
plan_replies_plain_telling m n o (tell.Note to what) plain e = reply_tells_one_note m n o to what plain (λ k. e)
plan_replies_plain_telling m n o _ plain e = absurd plain

pub piece_promised_is_elsewhere : (m n : Node) (s : ℕ) (v : Stamp) (base number : ℕ) (e : Entry) → (v.by == s) ≡ false → IsEndOf m n
    → Replies (piece_promised m s v base number e) (reply_without_letters said.Elsewhere) n
piece_promised_is_elsewhere m n s v base number e f end = rw f (reply_quiet_with_outcome m n said.Elsewhere (λ k. end))

pub piece_promised_by_sender : (m n : Node) (s : ℕ) (v : Stamp) (base number : ℕ) (e : Entry) (y : Reply) → (v.by == s) ≡ true
    → Replies (push_fetched m v base number e false (catch_up s v number)) y n → Replies (piece_promised m s v base number e) y n
piece_promised_by_sender m n s v base number e y is r = rw is r

-- ---- a ballot that fetches

ahead_pushed : (m : Node) (v : Stamp) (e : Entry) → stamp_is_less (view m) v ≡ true → IsBelow v e → stamp_is_less (view (push_entry m e)) v ≡ true
ahead_pushed m v (View w) ahead below = ap (λ (i : Image). stamp_is_less i.view v) (told_by_pushed_entry m.core.log (View w))
    ∙ ap (λ (s : Stamp). stamp_is_less s v) (view_after_view_is_stamp (image_of_node m) (top m + 1) w) ∙ below
ahead_pushed m v (Data from req body) ahead below = ap (λ (i : Image). stamp_is_less i.view v) (told_by_pushed_entry m.core.log (Data from req body))
    ∙ ap (λ (s : Stamp). stamp_is_less s v) (view_stays_after_data (image_of_node m) (top m + 1) from req body) ∙ ahead
ahead_pushed m v (Join name) ahead below = ap (λ (i : Image). stamp_is_less i.view v) (told_by_pushed_entry m.core.log (Join name))
    ∙ ap (λ (s : Stamp). stamp_is_less s v) (view_stays_after_join (image_of_node m) (top m + 1) name) ∙ ahead
ahead_pushed m v (Leave name) ahead below = ap (λ (i : Image). stamp_is_less i.view v) (told_by_pushed_entry m.core.log (Leave name))
    ∙ ap (λ (s : Stamp). stamp_is_less s v) (view_stays_after_leave (image_of_node m) (top m + 1) name) ∙ ahead

-- it is still taken out once the entry is stored
pub taken_out_ballot_after_push : (m n : Node) (b : Ballot) (v : Stamp) (e : Entry) → v ≡ m.core.promise → IsTakenOut m b → IsBelow v e → CoreFrontsAreInOrder n.core
    → top n < greatest_number → IsSteady (push_entry m e) n → IsTakenOut n b
taken_out_ballot_after_push m n b v e is taken below order room s =
    let own = taken.own in
    let stamp : b.stamp ≡ v = own.stamp taken.is_open ∙ sym is in
    let pushed_own : IsOwnBallot (push_entry m e) b = record {
      stamp = own.stamp;
      by = own.by;
      ahead = λ open_. ap (stamp_is_less (view (push_entry m e))) stamp ∙ ahead_pushed m v e (ap (stamp_is_less (view m)) (sym stamp) ∙ own.ahead open_) below;
      logged = own.logged;
      itself = own.itself;
      unvoted = own.unvoted;
      resilience = own.resilience;
    } in
    record { order = order; out = s.ballot ∙ taken.out; own = own_ballot_of_steady_node (push_entry m e) n b s pushed_own; is_open = taken.is_open; number = room }

pub fetched_piece_replies_asking : (m n : Node) (b : Ballot) (x : Option Ballot) (base : ℕ) (e : Entry) (o : Outcome) (set : List ℕ)
    → VerdictComesTo (decide (push_entry (trim_node_up_to m base) e) b) o n → IsTold o → set ≡ empty_set_of_names
    → Replies (look_at_ballot_anew b (push_entry (trim_node_up_to (record m { ballot = x }) base) e)) (reply_asking_names o set false) n
fetched_piece_replies_asking m n b x base e o set c told is =
    let w : Node = push_entry (trim_node_up_to m base) e in
    reply_asks_nobody (decide (record w { ballot = x }) b) n o set (subst (λ (v : BallotVerdict). VerdictComesTo v o n) (sym (decide_without_own_ballot w x b)) c) told is

pub piece_of_ballot_is_elsewhere : (m n : Node) (s : ℕ) (v : Stamp) (base number : ℕ) (e : Entry) (b : Ballot) → b.is_over ≡ false → fetches_from b.answer s ≡ false
    → IsEndOf m n → Replies (piece_for m s v base number e (Some b)) (reply_without_letters said.Elsewhere) n
piece_of_ballot_is_elsewhere m n s v base number e b f g end =
    reply_of_equal_plan (piece_for m s v base number e (Some b)) (plan_without_letters m said.Elsewhere) (reply_without_letters said.Elsewhere) n
    (branch_of_plan_if_false b.is_over (piece_promised m s v base number e) (if not (fetches_from b.answer s) then plan_without_letters m said.Elsewhere else push_fetched m v base number e true
    (look_at_ballot_anew b)) f
    ∙ ap (λ (x : Bool). if not x then plan_without_letters m said.Elsewhere else push_fetched m v base number e true (look_at_ballot_anew b)) g)
    (reply_quiet_with_outcome m n said.Elsewhere (λ k. end))

pub piece_of_other_stamp_elsewhere : (m n : Node) (s : ℕ) (v : Stamp) (base number : ℕ) (e : Entry) → (not (stamps_are_equal v m.core.promise) || stamps_are_equal (view m) v) ≡ true → IsEndOf m n
    → Replies (piece_row m s v base number e) (reply_without_letters said.Elsewhere) n
unfolding piece_row
piece_of_other_stamp_elsewhere m n s v base number e t end = rw t (reply_quiet_with_outcome m n said.Elsewhere (λ k. end))

pub piece_row_by_its_ballot : (m n : Node) (s : ℕ) (v : Stamp) (base number : ℕ) (e : Entry) (y : Reply) (b : Option Ballot)
    → (not (stamps_are_equal v m.core.promise) || stamps_are_equal (view m) v) ≡ false → m.ballot ≡ b → Replies (piece_for m s v base number e b) y n
    → Replies (piece_row m s v base number e) y n
unfolding piece_row
piece_row_by_its_ballot m n s v base number e y b f is r = rw f (subst (λ (x : Option Ballot). Replies (piece_for m s v base number e x) y n) (sym is) r)

-- what isn't apart
pub stamp_is_promise_not_view : (m : Node) (v : Stamp) → (not (stamps_are_equal v m.core.promise) || stamps_are_equal (view m) v) ≡ false → (v ≡ m.core.promise) × (stamps_are_equal (view m) v ≡ false)
stamp_is_promise_not_view m v h = (
  equal_stamps_are_same v m.core.promise (not-false (stamps_are_equal v m.core.promise) (or_left (not (stamps_are_equal v m.core.promise)) (stamps_are_equal (view m) v) h)),
  or_right (not (stamps_are_equal v m.core.promise)) (stamps_are_equal (view m) v) h,
)
  where
    or_right : (a b : Bool) → (a || b) ≡ false → b ≡ false
    or_right true b h = absurd (cc)
    or_right false b h = h

-- ---- results

pub next_view_may_be_stored : (m : Node) (base number : ℕ) (v : GroupView) → CoreFrontsAreInOrder m.core → has_log_by_status m.status ≡ true → v.stamp ≡ m.core.promise
    → ((b : Ballot) → m.ballot ≡ Some b → b.is_over ≡ true)
    → EntryIsInRange (View v) → top m < greatest_number → FollowsAsView m base number v → CatcherMayStore m base (View v)
next_view_may_be_stored m base number v order logged is over within room next = record {
  order = order;
  idle = other_view_node_acts_not m v.stamp is next.apart;
  logged = logged;
  over = over;
  taken = next.taken;
  fits = next.fits;
  up_to = ap (λ (p : Stamp). stamp_is_less p v.stamp) (sym is) ∙ stamp_not_lt_itself v.stamp;
  within = within;
  bound = let at = next.next in let low : number - max m.core.base base ≤ m.core.rules.window + 15 = (let b = next.bound in grind (arith, nat_tests)) in
      omega arith;
  number = room;
}

-- a node that hears the view of another name has no unfinished ballot
pub ballot_of_other_is_over : (m : Node) (v : Stamp) → NodeKeeps m → v ≡ m.core.promise → v.by ≢ m.core.who → (b : Ballot) → m.ballot ≡ Some b → b.is_over ≡ true
ballot_of_other_is_over m v keeps is other b there = split_on_bool_of_log b.is_over (λ t. t) (λ f. absurd (
    let own = keeps.ballot b there in
    let stamp : b.stamp ≡ v = own.stamp f ∙ sym is in
    other (ap (λ (s : Stamp). s.by) (sym stamp) ∙ own.by f)))

pub result_row_is_elsewhere : (m n : Node) (s : ℕ) (base number : ℕ) (v : GroupView)
    → ((v.stamp.by == m.core.who) || stamp_is_less v.stamp m.core.promise) ≡ true → IsEndOf m n
    → Replies (result_row m s base number v) (reply_without_letters said.Elsewhere) n
unfolding result_row
result_row_is_elsewhere m n s base number v t end = rw t (reply_quiet_with_outcome m n said.Elsewhere (λ k. end))

pub result_row_is_heard : (m mid n : Node) (s : ℕ) (base number : ℕ) (v : GroupView) (y : Reply)
    → ((v.stamp.by == m.core.who) || stamp_is_less v.stamp m.core.promise) ≡ false → mid ≡ node_with_promise m v.stamp → Replies (row_of_promised_result mid s base number v) y n
    → Replies (result_row m s base number v) y n
unfolding result_row
result_row_is_heard m mid n s base number v y f is r =
    rw f (subst (λ (x : Node). Replies (row_of_promised_result x s base number v) y n) is r)
