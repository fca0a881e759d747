-- The plain changes of a step: what each does to who acts, and to a sequencer that took a report.
use Rattle.am_refinement.proofs.WholeSteps.StepWords.{numbered_entry_is_no_view, ◌≡◌, ℕ, ◌≤◌, ◌==◌, ◌||◌, not, nat_lt, Bool, true, false, List, length, refl, sym, ap, ◌∙◌, subst, Report}
use Rattle.am_refinement.proofs.WholeSteps.StepWords.{Stamp, Entry, Outcome, kind_of, Status, Node, Ballot, top, is_member, is_asking_status, is_sequencer, has_departed, World}
use Rattle.am_refinement.proofs.WholeSteps.StepWords.{list_after_step, both_of_and, Cause, hears, by_request, CauseHasReport, with_send, CauseHasFronts, by_entry, with_number, alone}
use Rattle.am_refinement.proofs.WholeSteps.StepWords.{MayLookAtBallot, was_reset, was_fetched, BallotIsLookedAt, with_more, without_one, as_it_is, BeginsBy, by_reset, MayPromise, invited}
use Rattle.am_refinement.proofs.WholeSteps.StepWords.{overtaken, told_result, CarriesEntry, whole_entry, by_number, Change, refreshes, settles, takes_report, admits, numbers}
use Rattle.am_refinement.proofs.WholeSteps.StepWords.{keeps_body, notes, stores, begins_list, departs, promises, opens, looks, fetches, stores_view, queues, collects, takes}
use Rattle.am_refinement.proofs.WholeSteps.StepWords.{asks_to_join, asks_to_leave, closes, IsPlainChange, settle_changes_only_sends, is_sequencer_after_pushed_entry, after_change, has_log_by_status, ◌+◌, ◌-◌, ◌<◌, [], ◌∷◌}
use Rattle.am_refinement.proofs.WholeSteps.StepWords.{◌++◌, take, drop, arith, append_assoc, length-append, take-add, nat_tests, length-take, length-drop, drop-drop}
use Rattle.am_refinement.proofs.WholeSteps.StepWords.{drop-append-le, take-append-le, top_of_log, CoreState, is_view, push_entry, list_with_accepted, split_on_bool, sequencer_view_is_its_own}
use Rattle.am_step_laws.specs.Looks.{was_handed}
use Rattle.am_refinement.specs.Keeping as plainly
use Rattle.am_refinement.proofs.Learning.{group_with_no_more_accepted}
use Rattle.am_base.specs.Lists.{log_with_entry}

-- ---- what a sequencer's step makes of the group list, in two parts

-- ---- an entry more

acc_front : (xs : List Entry) (e : Entry) (k d : ℕ) → k + d ≤ length xs → take k (drop d (xs ++ e ∷ [])) ≡ take k (drop d xs)
acc_front xs e k d low =
    let long = length-drop d xs in
    ap (take k) (drop-append-le d xs (e ∷ []) (omega arith)) ∙ take-append-le k (drop d xs) (e ∷ []) (omega arith)

grown_push : (group : List Entry) (c : CoreState) (e : Entry) → c.log.start ≤ length group → c.acc ≤ top_of_log c.log
    → list_with_accepted group (record c { log = log_with_entry c.log e }) ≡ list_with_accepted group c
grown_push group c e low high = split_on_bool (nat_lt (length group) c.acc)
    (λ t. (let above : length group < c.acc = grind (arith, nat_tests) in
    ap (λ l. group ++ l) (acc_front c.log.entries e (c.acc - length group) (length group - c.log.start) (omega arith))))
    (λ f. (let high_ : c.acc ≤ length group = grind (arith, nat_tests) in group_with_no_more_accepted group (record c { log = log_with_entry c.log e }) high_
    ∙ sym (group_with_no_more_accepted group c high_)))

pushed_group : (group : List Entry) (x : Node) (e : Entry) → is_sequencer x ≡ true → is_view e ≡ false → x.core.log.start ≤ length group
    → x.core.acc ≤ top_of_log x.core.log → list_after_step group (push_entry x e) ≡ list_after_step group x
pushed_group group x e leads plain low high =
    let by = sequencer_view_is_its_own x leads in
    let by_next = sequencer_view_is_its_own (push_entry x e) (is_sequencer_after_pushed_entry x e plain ∙ leads) in
    rw (by_next, by) (grown_push group x.core e low high)

-- ---- more is accepted

grown_twice : (group : List Entry) (c d : CoreState) → d.log ≡ c.log → c.log.start ≤ length group → c.acc ≤ d.acc → c.acc ≤ top_of_log c.log
    → list_with_accepted (list_with_accepted group c) d ≡ list_with_accepted group d
grown_twice group c d log low up high = split_on_bool (nat_lt (length group) c.acc)
    (λ t. (
    let above : length group < c.acc = grind (arith, nat_tests) in
    let g = length group in
    let entries = c.log.entries in
    let rest = drop (g - c.log.start) entries in
    let long_rest : length rest ≡ length entries - (g - c.log.start) = length-drop (g - c.log.start) entries in
    let front = take (c.acc - g) rest in
    let long_front : length front ≡ c.acc - g = (let z = length-take (c.acc - g) rest in omega arith) in
    let long : length (list_with_accepted group c) ≡ c.acc = (let z = length-append group front in omega arith) in
    let more : drop (c.acc - c.log.start) entries ≡ drop (c.acc - g) rest =
    ap (λ k. drop k entries) (let z : c.acc - c.log.start ≡ (g - c.log.start) + (c.acc - g) = omega arith in z)
    ∙ sym (drop-drop (c.acc - g) (g - c.log.start) entries) in
    let sum : d.acc - g ≡ (c.acc - g) + (d.acc - c.acc) = omega arith in
    (λ i. list_with_accepted group c ++ take (d.acc - long i) (drop (long i - (log i).start) (log i).entries))
    ∙ ap (λ l. (group ++ front) ++ take (d.acc - c.acc) l) more
    ∙ append_assoc group front (take (d.acc - c.acc) (drop (c.acc - g) rest))
    ∙ ap (λ l. group ++ l) (sym (take-add (c.acc - g) (d.acc - c.acc) rest))
    ∙ ap (λ k. group ++ take k rest) (sym sum)
    ∙ (λ i. group ++ take (d.acc - g) (drop (g - (sym log i).start) (sym log i).entries))))
    (λ f. (let low_ : c.acc ≤ length group = grind (arith, nat_tests) in ap (λ l. list_with_accepted l d) (group_with_no_more_accepted group c low_)))

pub group_after_lower_then_higher : (group : List Entry) (x y : Node) → is_sequencer x ≡ true → is_sequencer y ≡ true → y.core.log ≡ x.core.log
    → x.core.log.start ≤ length group
    → x.core.acc ≤ y.core.acc → x.core.acc ≤ top_of_log x.core.log → list_after_step (list_after_step group x) y ≡ list_after_step group y
group_after_lower_then_higher group x y leads leads_y log low up high =
    let by = sequencer_view_is_its_own x leads in
    let by_y = sequencer_view_is_its_own y leads_y in
    rw (by, by_y) (grown_twice group x.core y.core log low up high)

-- ---- what a status says of who has it

-- who is no member, and hasn't departed, has no list
pub nonmember_status_has_no_log : (t : Status) → is_member t ≡ false → has_departed t ≡ false → has_log_by_status t ≡ false
nonmember_status_has_no_log Status.Member m d = absurd (cc)
nonmember_status_has_no_log Status.Departed m d = absurd (cc)
nonmember_status_has_no_log _ m d = refl

asking_stays : (t : Status) → (is_member t || is_asking_status t) ≡ true → has_departed t ≡ true → ⊥
asking_stays Status.Stranger a d = cc
asking_stays Status.Asking a d = cc
asking_stays Status.Member a d = cc
asking_stays Status.Departed a d = cc

pub departed_status_is_departed : (t : Status) → has_departed t ≡ true → t ≡ Status.Departed
departed_status_is_departed Status.Departed d = refl
departed_status_is_departed _ d = absurd (cc)

-- ---- what brings a report

abbrev pub cause_brings_report : Cause → Bool
cause_brings_report (hears p) = nat_lt (kind_of p) 3 || ((kind_of p == 6) || ((kind_of p == 7) || (kind_of p == 11)))
cause_brings_report _ = false

-- a Welcome
abbrev pub cause_is_welcome : Cause → Bool
cause_is_welcome (hears p) = kind_of p == 10
cause_is_welcome _ = false

pub reporting_cause_brings_report : {c : Cause} (s : ℕ) (v : Stamp) (report : Report) → CauseHasReport c s v report → cause_brings_report c ≡ true
reporting_cause_brings_report s v report (with_send from u told req body (by_request a b d e f)) = refl
reporting_cause_brings_report s v report _ = refl

fronts_bring : {c : Cause} (s : ℕ) (v : Stamp) (base acc : ℕ) → CauseHasFronts c s v base acc → cause_brings_report c ≡ false
fronts_bring s v base acc (by_entry a b d e f g) = refl
fronts_bring s v base acc (with_number a b d e f g i) = refl
fronts_bring s v base acc (alone a b d e f g) = refl

carried_brings : {c : Cause} {m : Node} (s : ℕ) (v : Stamp) (base acc number : ℕ) (e : Entry) → CarriesEntry c m s v base acc number e → cause_brings_report c ≡ false
carried_brings s v base acc number e (whole_entry x is) = ap cause_brings_report is
carried_brings s v base acc number e (by_number from req body is found) = ap cause_brings_report is

-- a cause that brings no report, and is no Welcome
pub record BringsNoReportOrWelcome (c : Cause) : Type 0 where
  pub brings : cause_brings_report c ≡ false
  pub welcomes : cause_is_welcome c ≡ false

pub promise_brings_no_report : {c : Cause} {m : Node} (v : Stamp) → MayPromise c m v → BringsNoReportOrWelcome c
promise_brings_no_report v (invited s u is heard own) = record { brings = ap cause_brings_report is; welcomes = ap cause_is_welcome is }
promise_brings_no_report v (overtaken s u shown is heard above) = record { brings = ap cause_brings_report is; welcomes = ap cause_is_welcome is }
promise_brings_no_report v (told_result s base number u is heard own other) = record { brings = ap cause_brings_report is; welcomes = ap cause_is_welcome is }

pub begun_ballot_brings_no_report : {c : Cause} {m : Node} → BeginsBy m c → BringsNoReportOrWelcome c
begun_ballot_brings_no_report (by_reset least resilience) = record { brings = refl; welcomes = refl }
begun_ballot_brings_no_report _ = record { brings = refl; welcomes = refl }

may_look_brings : {c : Cause} {m : Node} → MayLookAtBallot c m → BringsNoReportOrWelcome c
may_look_brings (was_reset least resilience is) = record { brings = ap cause_brings_report is; welcomes = ap cause_is_welcome is }
may_look_brings (was_handed s v is) = record { brings = ap cause_brings_report is; welcomes = ap cause_is_welcome is }
may_look_brings (was_fetched s v base number e is same) = record { brings = ap cause_brings_report is; welcomes = ap cause_is_welcome is }

pub ballot_look_brings_no_report : {c : Cause} {m : Node} (b : Ballot) → BallotIsLookedAt c m b → BringsNoReportOrWelcome c
ballot_look_brings_no_report b (with_more old s v vote is heard low high open_ same stays) = record { brings = ap cause_brings_report is; welcomes = ap cause_is_welcome is }
ballot_look_brings_no_report b (without_one old name is open_ other) = record { brings = ap cause_brings_report is; welcomes = ap cause_is_welcome is }
ballot_look_brings_no_report b (as_it_is old open_ on) = may_look_brings on

pub bool_never_true_and_false : (b : Bool) → b ≡ true → b ≡ false → ⊥
bool_never_true_and_false b t f = (let z = sym t ∙ f in cc)

-- ---- each plain change

-- it is plain, too, to what is known within a step
pub plain_change_stays_plain : {c : Cause} {o : Outcome} {x y : Node} (z : Change c o x y) → IsPlainChange z → plainly.IsPlainOnEnd z
plain_change_stays_plain refreshes p = p
plain_change_stays_plain (departs from v number is heard leaves) p = absurd p
plain_change_stays_plain (looks b verdict over why look is) p = absurd p
plain_change_stays_plain (closes leads leaves alone_ room) p = p
plain_change_stays_plain _ p = tt

-- and notes no view
pub plain_change_notes_no_view : {c : Cause} {o : Outcome} {x y : Node} (z : Change c o x y) → IsPlainChange z → (w : World) → after_change z w ≡ w
plain_change_notes_no_view (looks b verdict over why look is) p w = absurd p
plain_change_notes_no_view _ p w = refl

-- nobody departs by it, and who is a member then was one before, or was welcomed
pub record StaysInTheGroup (c : Cause) (x y : Node) : Type 0 where
  pub there : has_departed x.status ≡ false → has_departed y.status ≡ false
  pub gone : has_departed x.status ≡ true → y.status ≡ x.status
  pub member : cause_is_welcome c ≡ false → is_member y.status ≡ true → is_member x.status ≡ true

stays_same : {c : Cause} (x y : Node) → y.status ≡ x.status → StaysInTheGroup c x y
stays_same x y is = record { there = λ f. ap has_departed is ∙ f; gone = λ t. is; member = λ f t. ap is_member (sym is) ∙ t }

pub plain_change_stays_in_group : {c : Cause} {o : Outcome} (x y : Node) (z : Change c o x y) → IsPlainChange z → StaysInTheGroup c x y
plain_change_stays_in_group x y refreshes p = absurd p
plain_change_stays_in_group x y settles p = stays_same x y (ap (λ (n : Node). n.status) (settle_changes_only_sends x))
plain_change_stays_in_group x y (begins_list from v base join image is says_ may) p = record {
  there = λ f. refl;
  gone = λ t. absurd (asking_stays x.status (both_of_and (not (from == x.core.who)) (is_member x.status || is_asking_status x.status) may.asks).1 t);
  member = λ f t. absurd (bool_never_true_and_false _ (ap cause_is_welcome is) f);
}
plain_change_stays_in_group x y (departs from v number is heard leaves) p = absurd p
plain_change_stays_in_group x y (looks b verdict over why look is) p = absurd p
plain_change_stays_in_group x y (asks_to_join is was) p = record { there = λ f. refl; gone = λ t. absurd (let z = sym t ∙ ap has_departed was in cc); member = λ f t. absurd (cc) }
plain_change_stays_in_group x y (closes leads leaves alone_ room) p = absurd p
plain_change_stays_in_group x y _ p = stays_same x y refl

-- ---- a sequencer that took a report

-- it still leads, and has accepted the same
pub record StillLeadsWithSameAccepted (group : List Entry) (x y : Node) : Type 0 where
  pub leads : is_sequencer y ≡ true
  pub start : y.core.log.start ≤ length group
  pub same : list_after_step group y ≡ list_after_step group x

-- ⊥ where the cause brings no report
pub reporting_change_still_leads : {c : Cause} {o : Outcome} (group : List Entry) (x y : Node) (z : Change c o x y) → IsPlainChange z → cause_brings_report c ≡ true → is_sequencer x ≡ true
    → x.core.log.start ≤ length group → x.core.acc ≤ top x → StillLeadsWithSameAccepted group x y
reporting_change_still_leads group x y settles p t l low high = subst (StillLeadsWithSameAccepted group x) (sym (settle_changes_only_sends x)) (record { leads = l; start = low; same = refl })
reporting_change_still_leads group x y (takes_report from v report by may) p t l low high = record { leads = l; start = low; same = refl }
reporting_change_still_leads group x y (admits from v is leads fit) p t l low high = absurd (bool_never_true_and_false _ t (ap cause_brings_report is))
reporting_change_still_leads group x y (numbers e leads room why) p t l low high = (let plain = numbered_entry_is_no_view _ x e why in
    record { leads = is_sequencer_after_pushed_entry x e plain ∙ l; start = low; same = pushed_group group x e l plain low high })
reporting_change_still_leads group x y (keeps_body from v report req body is heard) p t l low high = record { leads = l; start = low; same = refl }
reporting_change_still_leads group x y (notes from v base acc by heard) p t l low high = absurd (bool_never_true_and_false _ t (fronts_bring from v base acc by))
reporting_change_still_leads group x y (stores from v base acc number e by heard plain may) p t l low high = absurd (bool_never_true_and_false _ t (carried_brings from v base acc number e by))
reporting_change_still_leads group x y (begins_list from v base join image is says_ may) p t l low high = absurd (bool_never_true_and_false _ t (ap cause_brings_report is))
reporting_change_still_leads group x y (promises v below why) p t l low high = absurd (bool_never_true_and_false _ t (promise_brings_no_report v why).brings)
reporting_change_still_leads group x y (opens least resilience by may) p t l low high = absurd (bool_never_true_and_false _ t (begun_ballot_brings_no_report by).brings)
reporting_change_still_leads group x y (fetches from v base number e is heard promise below why may) p t l low high = absurd (bool_never_true_and_false _ t (ap cause_brings_report is))
reporting_change_still_leads group x y (stores_view from base number v is heard own other promise below may) p t l low high =
    absurd (bool_never_true_and_false _ t (ap cause_brings_report is))
reporting_change_still_leads group x y (queues body is says_ member stays_ few) p t l low high = absurd (bool_never_true_and_false _ t (ap cause_brings_report is))
reporting_change_still_leads group x y (collects req is) p t l low high = absurd (bool_never_true_and_false _ t (ap cause_brings_report is))
reporting_change_still_leads group x y (takes e is says_ member some there) p t l low high = absurd (bool_never_true_and_false _ t (ap cause_brings_report is))
reporting_change_still_leads group x y (asks_to_join is was) p t l low high = absurd (bool_never_true_and_false _ t (ap cause_brings_report is))
reporting_change_still_leads group x y (asks_to_leave is was stays_ done) p t l low high = absurd (bool_never_true_and_false _ t (ap cause_brings_report is))
reporting_change_still_leads group x y _ p t l low high = absurd p
