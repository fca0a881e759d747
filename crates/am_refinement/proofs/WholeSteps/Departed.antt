-- A step of who had departed before it changes nothing that the group looks at.
use Rattle.am_refinement.proofs.WholeSteps.StepWords.{◌≡◌, ℕ, ◌≤◌, ◌==◌, ◌||◌, not, max, true, false, refl, sym, ap, ◌∙◌, subst, arith, Stamp, Outcome, Status, Node}
use Rattle.am_refinement.proofs.WholeSteps.StepWords.{is_member, is_asking_status, is_sequencer, has_log_by_status, has_departed, is_unfinished_ballot, member_hears_other, member_or_asker_hears_other, hears_packet_of_its_view}
use Rattle.am_refinement.proofs.WholeSteps.StepWords.{hears_packet_of_sequencer, refresh, settle_waiting_send, refresh_at_end, split_on_bool, both_of_and, Cause, MayPromise, invited, overtaken, told_result}
use Rattle.am_refinement.proofs.WholeSteps.StepWords.{Change, settles, takes_report, admits, numbers, keeps_body, notes, stores, begins_list, promises, opens, fetches}
use Rattle.am_refinement.proofs.WholeSteps.StepWords.{stores_view, queues, collects, takes, asks_to_join, asks_to_leave, IsPlainChange, PlainChangesInTurn, nothing_yet, used_report, and_then}
use Rattle.am_refinement.proofs.WholeSteps.StepWords.{ChangesWithLook, plainly, looked, end_refresh_rests_with_list, with_sends_of, settle_changes_only_sends, sequencer_is_member, IsSameToGroup, looked_at_ballot_is_unfinished, follower_refresh_accepts_told}

-- it is the same to the group, and to the application
pub record DepartedNodeIsSame (x y : Node) : Type 0 where
  pub same : IsSameToGroup x y
  pub status : y.status ≡ x.status
  pub ballot : y.ballot ≡ x.ballot
  pub told : y.core.told ≡ x.core.told
  pub acc : y.core.acc ≡ x.core.acc

rests_itself : (x : Node) → DepartedNodeIsSame x x
rests_itself x = assumption

rests_then : (x y z : Node) → DepartedNodeIsSame x y → DepartedNodeIsSame y z → DepartedNodeIsSame x z
rests_then x y z a b = assumption (
  b.same.log ∙ a.same.log,
  b.same.log_ ∙ a.same.log_,
  b.same.departed ∙ a.same.departed,
  b.same.leaving ∙ a.same.leaving,
  b.same.promise ∙ a.same.promise,
  b.same.ballot ∙ a.same.ballot,
  b.same.start ∙ a.same.start,
  b.status ∙ a.status,
  b.ballot ∙ a.ballot,
  b.told ∙ a.told,
  b.acc ∙ a.acc,
)

-- ---- what it can't be

module _ (x : Node) (gone : x.status ≡ Status.Departed) where
  no_member : is_member x.status ≡ true → ⊥
  no_member t = (let z = sym t ∙ ap is_member gone in cc)

  no_leader : is_sequencer x ≡ true → ⊥
  no_leader t = no_member (sequencer_is_member x t)

  no_hearer : (s : ℕ) → member_hears_other x s ≡ true → ⊥
  no_hearer s t = no_member (both_of_and (not (s == x.core.who)) (is_member x.status) t).1

  no_asker : (s : ℕ) → member_or_asker_hears_other x s ≡ true → ⊥
  no_asker s t = none (both_of_and (not (s == x.core.who)) (is_member x.status || is_asking_status x.status) t).1
    where
      none : (is_member x.status || is_asking_status x.status) ≡ true → ⊥
      none u = (let z = sym u ∙ ap (λ (q : Status). is_member q || is_asking_status q) gone in cc)

  no_viewer : (s : ℕ) (v : Stamp) → hears_packet_of_its_view x s v ≡ true → ⊥
  no_viewer s v t = no_hearer s (both_of_and (member_hears_other x s) _ t).0

  no_follower : (s : ℕ) (v : Stamp) → hears_packet_of_sequencer x s v ≡ true → ⊥
  no_follower s v t = no_viewer s v (both_of_and (hears_packet_of_its_view x s v) (v.by == s) t).0

  no_promise : (c : Cause) (v : Stamp) → MayPromise c x v → ⊥
  no_promise c v (invited s _ is heard own) = no_asker s heard
  no_promise c v (overtaken s _ shown is heard above) = no_hearer s heard
  no_promise c v (told_result s base number w is heard own other) = no_hearer s heard

  other_status : (t : Status) → x.status ≡ t → has_departed t ≡ false → ⊥
  other_status t is f = (let z = sym (ap has_departed (sym is ∙ gone)) ∙ f in cc)

  rests_change : {c : Cause} {o : Outcome} (y : Node) (z : Change c o x y) → IsPlainChange z → DepartedNodeIsSame x y
  rests_change y settles p = subst (DepartedNodeIsSame x) (sym (settle_changes_only_sends x)) (record { same = settled; status = refl; ballot = refl; told = refl; acc = refl })
    where
      settled : IsSameToGroup x (with_sends_of x (settle_waiting_send x))
      settled = record { log = refl; log_ = refl; departed = refl; leaving = refl; promise = refl; ballot = refl; start = refl }
  rests_change y (takes_report s v report by may) p = absurd (no_leader may.leads)
  rests_change y (admits s v is leads fit) p = absurd (no_leader leads)
  rests_change y (numbers e leads room why) p = absurd (no_leader leads)
  rests_change y (keeps_body s v report req body is heard) p = absurd (no_viewer s v heard)
  rests_change y (notes s v base acc by heard) p = absurd (no_follower s v heard)
  rests_change y (stores s v base acc number e by heard plain may) p = absurd (no_follower s v heard)
  rests_change y (begins_list s v base join image is says may) p = absurd (no_asker s may.asks)
  rests_change y (promises v low why) p = absurd (no_promise _ v why)
  rests_change y (opens least resilience by may) p = absurd (no_member may.member)
  rests_change y (fetches s v base number e is heard promise below why may) p = absurd (no_hearer s heard)
  rests_change y (stores_view s base number v is heard own other promise below may) p = absurd (no_hearer s heard)
  rests_change y (queues body is says member stays few) p = absurd (no_member member)
  rests_change y (collects req is) p = assumption
  rests_change y (takes e is says member some there) p = absurd (no_member member)
  rests_change y (asks_to_join is was) p = absurd (other_status Status.Stranger was refl)
  rests_change y (asks_to_leave is was stays done) p = absurd (other_status Status.Member was refl)
  rests_change y _ p = absurd p

-- ---- a step

pub course_keeps_departed_node : {c : Cause} {o : Outcome} (m x : Node) → m.status ≡ Status.Departed → PlainChangesInTurn c o m x → DepartedNodeIsSame m x
course_keeps_departed_node m x gone nothing_yet = rests_itself m
course_keeps_departed_node m x gone (used_report s v report by may) = absurd (no_leader m gone may.leads)
course_keeps_departed_node m x gone (and_then {n = n} before z plain) =
    let h = course_keeps_departed_node m n gone before in
    rests_then m n x h (rests_change n (h.status ∙ gone) x z plain)

rests_deeds : {c : Cause} {o : Outcome} (m x : Node) → m.status ≡ Status.Departed → is_unfinished_ballot m.ballot ≡ false → ChangesWithLook c o m x → DepartedNodeIsSame m x
rests_deeds m x gone closed (plainly course) = course_keeps_departed_node m x gone course
rests_deeds {c = c} m x gone closed (looked {n = n} b verdict course over why look is) = absurd (
    let h = course_keeps_departed_node m n gone course in
    let open_ = looked_at_ballot_is_unfinished c n b why in
    let z = sym open_ ∙ ap is_unfinished_ballot h.ballot ∙ closed in cc)

-- with the refresh at its end
pub record DepartedNodeEndsSame (m n : Node) : Type 0 where
  pub same : IsSameToGroup m n
  pub status : n.status ≡ m.status
  pub ballot : n.ballot ≡ m.ballot
  pub low : n.core.acc ≤ max m.core.acc m.core.told

pub step_keeps_departed_node : {c : Cause} {o : Outcome} (m x : Node) → m.status ≡ Status.Departed → is_unfinished_ballot m.ballot ≡ false → ChangesWithLook c o m x
    → DepartedNodeEndsSame m (refresh_at_end x)
unfolding refresh_at_end
step_keeps_departed_node m x gone closed deeds =
    let r = end_refresh_rests_with_list x in
    let h = rests_deeds m x gone closed deeds in
    let follows : is_sequencer x ≡ false = split_on_bool (is_sequencer x) (λ t. absurd (no_leader x (h.status ∙ gone) t)) (λ f. f) in
    let acc_ = (follower_refresh_accepts_told x follows).1 in
    let settled : (refresh_at_end x).core.acc ≡ (refresh x).core.acc = ap (λ (n : Node). n.core.acc) (settle_changes_only_sends (refresh x)) in
    record {
      same = record {
        log = r.log ∙ h.same.log;
        log_ = ap has_log_by_status r.rests.status ∙ h.same.log_;
        departed = ap has_departed r.rests.status ∙ h.same.departed;
        leaving = r.rests.leaving ∙ h.same.leaving;
        promise = r.rests.promise ∙ h.same.promise;
        ballot = ap is_unfinished_ballot r.rests.ballot ∙ h.same.ballot;
        start = r.begins ∙ h.same.start;
      };
      status = r.rests.status ∙ h.status;
      ballot = r.rests.ballot ∙ h.ballot;
      low = omega arith;
    }
