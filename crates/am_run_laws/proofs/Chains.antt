-- What some changes in turn keep.
use Rattle.am_run_laws.proofs.UnballotedWords.{◌≡◌, ℕ, ◌+◌, ◌-◌, ◌<◌, ◌≤◌, max, min, ◌==◌, ◌&&◌, nat_lt, not, true, false, if◌then◌else◌, List, Option, Some, None}
use Rattle.am_run_laws.proofs.UnballotedWords.{refl, sym, ap, ◌∙◌, subst, arith, nat_tests, Stamp, Entry, Leave, Image, Outcome, Rules, stamp_is_less, raise_accepted_to_told, pass_over_below_join}
use Rattle.am_run_laws.proofs.UnballotedWords.{raise_own_report, tell_accept_front, advance_with_reports, trim_to_least_taken, Status, Node, Ballot, acts_in_its_view, is_member, is_sequencer, push_entry, has_log_by_status, advance_node}
use Rattle.am_run_laws.proofs.UnballotedWords.{refresh_as_sequencer, refresh, settle_waiting_send, refresh_at_end, overtake_lower_ballot, node_of_welcomed, split_on_bool, both_of_and, Cause, hears, MayBeWelcomed, Change}
use Rattle.am_run_laws.proofs.UnballotedWords.{refreshes, settles, begins_list, departs, promises, opens, looks, queues, collects, takes, asks_to_join, closes}
use Rattle.am_run_laws.proofs.UnballotedWords.{Changes, unchanged, changed, refresh_rests_with_list, own_leave_rests, settle_changes_only_sends, member_status_has_log, asking_status_has_no_log, welcomed_node_is_asking, Packet}
use Rattle.am_base.specs.declared.outcome.Outcome.TheVariants as said
use Rattle.am_node_defs.specs.Sends as own
use Rattle.am_run_laws.proofs.{UnballotedKept.UnballotedNodeKeeps, Others.look_leaves_a_ballot}

-- ---- as long as there is no ballot

-- a ballot that is there stays
none_before : {c : Cause} {o : Outcome} (m n : Node) → Change c o m n → n.ballot ≡ None → m.ballot ≡ None
none_before m n refreshes h = sym (refresh_rests_with_list m).rests.ballot ∙ h
none_before m n settles h = subst (λ (x : Node). x.ballot ≡ None → m.ballot ≡ None) (sym (settle_changes_only_sends m)) (λ z. z) h
none_before m n (promises v low why) h = still v m.ballot h
  where
    still : (by : Stamp) (b : Option Ballot) → overtake_lower_ballot by b ≡ None → b ≡ None
    still by None x = refl
    still by (Some b) x = split_on_bool (not b.is_over && stamp_is_less b.stamp by) (λ t. let y = rw t at x in absurd (cc)) (λ f. let y = rw f at x in absurd (cc))
none_before m n (opens least resilience by may) h = absurd (cc)
none_before m n (looks b verdict over why look is) h = absurd (look_leaves_a_ballot m b verdict look h)
none_before m n (closes leads leaves last room) h = sym (own_leave_rests m).ballot ∙ h
none_before m n _ h = h

pub no_ballot_after_none_before : {c : Cause} {o : Outcome} {m n : Node} → Changes c o m n → n.ballot ≡ None → m.ballot ≡ None
no_ballot_after_none_before unchanged h = h
no_ballot_after_none_before (changed {m = x} {n = y} z zs) h = none_before x y z (no_ballot_after_none_before zs h)

-- what each change keeps that leaves no ballot
pub changes_without_ballot_keep : {c : Cause} {o : Outcome} {m n : Node} (P : Node → Type 0) → ((x y : Node) → Change c o x y → y.ballot ≡ None → P x → P y) → Changes c o m n
    → n.ballot ≡ None → P m → P n
changes_without_ballot_keep P f unchanged none h = h
changes_without_ballot_keep P f (changed {m = x} {n = y} z zs) none h = changes_without_ballot_keep P f zs none (f x y z (no_ballot_after_none_before zs none) h)

-- ---- the list's start, and the sends

abbrev NoWelcome : Cause → Type 0
NoWelcome c = (s : ℕ) (v : Stamp) (base join : ℕ) (image : Image) → c ≡ hears (Packet.Welcome s v base join image) → ⊥

-- only a Welcome begins a list
record Stays (m n : Node) : Type 0 where
  start : n.core.log.start ≡ m.core.log.start

stays_then : (k m n : Node) → n.core.log.start ≡ m.core.log.start → Stays k m → Stays k n
stays_then k m n e h = record { start = e ∙ h.start }

start_stays : {c : Cause} {o : Outcome} (k m n : Node) → NoWelcome c → Change c o m n → n.ballot ≡ None → Stays k m → Stays k n
start_stays k m n w refreshes none h = stays_then k m n ((refresh_rests_with_list m).rests.start) h
start_stays k m n w settles none h = stays_then k m n (ap (λ (x : Node). x.core.log.start) (settle_changes_only_sends m)) h
start_stays k m n w (begins_list s v base join image is says may) none h = absurd (w s v base join image is)
start_stays k m n w (opens least resilience by may) none h = absurd (cc)
start_stays k m n w (looks b verdict over why look is) none h = absurd (look_leaves_a_ballot m b verdict look none)
start_stays k m n w (closes leads leaves last room) none h = stays_then k m n ((own_leave_rests m).start) h
start_stays k m n w _ none h = stays_then k m n refl h

pub changes_keep_start_without_welcome : {c : Cause} {o : Outcome} {m n : Node} → NoWelcome c → Changes c o m n → n.ballot ≡ None → n.core.log.start ≡ m.core.log.start
changes_keep_start_without_welcome {m = m} w chain none = (changes_without_ballot_keep (Stays m) (λ x y. start_stays m x y w) chain none (record { start = refl })).start

-- a request number that was given out stays so
last_kept : {c : Cause} {o : Outcome} (low : ℕ) (m n : Node) → Change c o m n → n.ballot ≡ None → low ≤ m.sends.last → low ≤ n.sends.last
last_kept low m n refreshes none h = subst (λ k. low ≤ k) (sym (refresh_rests_with_list m).rests.asked) h
last_kept low m n settles none h = subst (λ (x : Node). low ≤ x.sends.last) (sym (settle_changes_only_sends m)) h
last_kept low m n (looks b verdict over why look is) none h = absurd (look_leaves_a_ballot m b verdict look none)
last_kept low m n (queues body is says member stays few) none h = omega arith
last_kept low m n (collects req is) none h = split_on_bool (own.has_settled_send req m.sends) (λ t. rw t h) (λ f. rw f h)
last_kept low m n (closes leads leaves last room) none h = subst (λ k. low ≤ k) (sym (own_leave_rests m).asked) h
last_kept low m n _ none h = h

pub last_request_le_after_changes : {c : Cause} {o : Outcome} {m n : Node} → Changes c o m n → n.ballot ≡ None → m.sends.last ≤ n.sends.last
last_request_le_after_changes {m = m} chain none = changes_without_ballot_keep (λ x. m.sends.last ≤ x.sends.last) (λ x y. last_kept m.sends.last x y) chain none (omega arith)

-- ---- how far the application has taken the list

-- and of a joiner what it passes over
abbrev pub front_of_given : Node → ℕ
front_of_given m = max m.core.taken (m.core.start - 1)

-- by what is answered: nothing was given, the next entry was, or a list has begun
pub data GaveByAnswer (c : Cause) (o : Outcome) (m n : Node) : Type 0 where
  nothing : front_of_given n ≡ front_of_given m → n.core.start ≡ m.core.start → has_log_by_status n.status ≡ has_log_by_status m.status → GaveByAnswer c o m n
  took : (k : ℕ) (e : Entry) → o ≡ said.Took (k + 1) e → front_of_given m ≡ k → front_of_given n ≡ k + 1 → n.core.start ≡ m.core.start → n.core.start - 1 ≤ k
      → has_log_by_status n.status ≡ true → has_log_by_status m.status ≡ true → GaveByAnswer c o m n
  began : (s : ℕ) (v : Stamp) (base join : ℕ) (image : Image) → c ≡ hears (Packet.Welcome s v base join image) → o ≡ said.Welcomed join
      → has_log_by_status m.status ≡ false → has_log_by_status n.status ≡ true → n.core.start ≡ join → front_of_given n ≡ join - 1 → 0 < join → GaveByAnswer c o m n

-- a change that moves no front
pub still_change_gives_nothing : {c : Cause} {o : Outcome} (k m n : Node) → front_of_given n ≡ front_of_given m → n.core.start ≡ m.core.start → has_log_by_status n.status ≡ has_log_by_status m.status → GaveByAnswer c o k m
    → GaveByAnswer c o k n
still_change_gives_nothing k m n a b d (nothing x y z) = nothing (a ∙ x) (b ∙ y) (d ∙ z)
still_change_gives_nothing k m n a b d (took j e is x y z w u v) = took j e is x (a ∙ y) (b ∙ z) (let s = ap (λ t. t - 1) b in omega arith) (d ∙ u) v
still_change_gives_nothing k m n a b d (began s v base join image is says x y z w u) = began s v base join image is says x (d ∙ y) (b ∙ z) (a ∙ w) u

pub front_after_pass_over : (taken acc start : ℕ) → max (if nat_lt taken (start - 1) then max taken (min acc (start - 1)) else taken) (start - 1) ≡ max taken (start - 1)
front_after_pass_over taken acc start = split_on_bool (nat_lt taken (start - 1)) (λ t. let z : taken < start - 1 = grind (arith, nat_tests) in
    rw t (omega arith)) (λ f. rw f refl)

advance_front : (m : Node) → (front_of_given (advance_node m) ≡ front_of_given m) × ((advance_node m).core.start ≡ m.core.start)
unfolding raise_accepted_to_told pass_over_below_join
advance_front m = (front_after_pass_over m.core.taken _ m.core.start, refl)

refresh_front : (m : Node) → (front_of_given (refresh m) ≡ front_of_given m) × ((refresh m).core.start ≡ m.core.start)
unfolding refresh refresh_as_sequencer raise_own_report tell_accept_front advance_with_reports trim_to_least_taken raise_accepted_to_told pass_over_below_join
refresh_front m = split_on_bool (is_sequencer m) (λ t. rw t ((front_after_pass_over m.core.taken _ m.core.start, refl))) (λ f. rw f (advance_front m))

settle_front : (m : Node) → (front_of_given (settle_waiting_send m) ≡ front_of_given m) × ((settle_waiting_send m).core.start ≡ m.core.start)
settle_front m = (ap front_of_given (settle_changes_only_sends m), ap (λ (x : Node). x.core.start) (settle_changes_only_sends m))

end_front : (m : Node) → (front_of_given (refresh_at_end m) ≡ front_of_given m) × ((refresh_at_end m).core.start ≡ m.core.start)
unfolding refresh_at_end
end_front m = let a = settle_front (refresh m) in let b = refresh_front m in (a.0 ∙ b.0, a.1 ∙ b.1)

pub taken_below_accepted_passes_low : (taken acc low : ℕ) → (taken < low → acc ≤ taken) → taken < acc → low ≤ taken
taken_below_accepted_passes_low taken acc low f less = split_on_bool (nat_lt taken low) (λ t. let z : taken < low = grind (arith, nat_tests) in let y = f z in
    absurd (omega arith)) (λ n. grind (arith, nat_tests))

abbrev number_of : Outcome → ℕ
number_of (said.Took number e) = number
number_of _ = 0

gave_taken : {c : Cause} {o : Outcome} (rules : Rules) (list : List Entry) (acc i : ℕ) (k m n : Node) (e : Entry) → UnballotedNodeKeeps rules list acc i m
    → is_member m.status ≡ true → (m.core.taken == m.core.acc) ≡ false → o ≡ said.Took (m.core.taken + 1) e
    → n ≡ record m { core = record (m.core) { taken = m.core.taken + 1 } } → GaveByAnswer c o k m → GaveByAnswer c o k n
gave_taken rules list acc i k m n e h member some says is (nothing x y z) =
    let f = h.fronts in
    let less : m.core.taken < m.core.acc = grind (arith, nat_tests) in
    let p : m.core.start - 1 ≤ m.core.taken = taken_below_accepted_passes_low m.core.taken m.core.acc (m.core.start - 1) f.passed less in
    let new = ap front_of_given is in
    let start = ap (λ (x : Node). x.core.start) is in
    let log = member_status_has_log m.status member in
    took m.core.taken e says (omega arith) (omega arith) (start ∙ y) (omega arith) (ap (λ (x : Node). has_log_by_status x.status) is ∙ log) (sym z ∙ log)
gave_taken rules list acc i k m n e h member some says is (took j g was x y z w u v) =
    let same : said.Took (m.core.taken + 1) e ≡ said.Took (j + 1) g = sym says ∙ was in
    let number : m.core.taken + 1 ≡ j + 1 = ap number_of same in
    absurd (omega arith)
gave_taken rules list acc i k m n e h member some says is (began s v base join image a b x y z w u) = let same = sym says ∙ b in absurd (cc)

-- ---- each change

pub departed_member_has_log_still : (s : Status) → is_member s ≡ true → has_log_by_status Status.Departed ≡ has_log_by_status s
departed_member_has_log_still s t = sym (member_status_has_log s t)

pub welcome_gives_begun_list : {c : Cause} {o : Outcome} (k m : Node) (s : ℕ) (v : Stamp) (base join : ℕ) (image : Image) → c ≡ hears (Packet.Welcome s v base join image)
    → o ≡ said.Welcomed join → MayBeWelcomed m s v base join image → GaveByAnswer c o k m → GaveByAnswer c o k (node_of_welcomed m v base join image)
welcome_gives_begun_list k m s v base join image is says may (nothing x y z) =
    let no = asking_status_has_no_log m.status (welcomed_node_is_asking m s v base join image may) in
    began s v base join image is says (sym z ∙ no) refl refl (omega arith) (omega arith)
welcome_gives_begun_list k m s v base join image is says may (took j e was x y z w u l) = let no = asking_status_has_no_log m.status (welcomed_node_is_asking m s v base join image may) in absurd (cc)
welcome_gives_begun_list k m s v base join image is says may (began s1 v1 base1 join1 image1 was said_ x y z w u) = let no =
    asking_status_has_no_log m.status (welcomed_node_is_asking m s v base join image may) in absurd (cc)

pub each_change_gives_by_answer : {c : Cause} {o : Outcome} (rules : Rules) (list : List Entry) (acc i : ℕ) (k m n : Node) → UnballotedNodeKeeps rules list acc i m → Change c o m n
    → n.ballot ≡ None → GaveByAnswer c o k m → GaveByAnswer c o k n
each_change_gives_by_answer rules list acc i k m n h refreshes none g = let f = refresh_front m in still_change_gives_nothing k m n f.0 f.1 (ap has_log_by_status (refresh_rests_with_list m).rests.status) g
each_change_gives_by_answer rules list acc i k m n h settles none g = let f = settle_front m in still_change_gives_nothing k m n f.0 f.1 (ap (λ (x : Node). has_log_by_status x.status) (settle_changes_only_sends m)) g
each_change_gives_by_answer rules list acc i k m n h (begins_list s v base join image is says may) none g = welcome_gives_begun_list k m s v base join image is says may g
each_change_gives_by_answer rules list acc i k m n h (departs s v number is heard leaves) none g =
    still_change_gives_nothing k m n refl refl (departed_member_has_log_still m.status (both_of_and (not (s == m.core.who)) (is_member m.status) heard).1) g
each_change_gives_by_answer rules list acc i k m n h (opens least resilience by may) none g = absurd (cc)
each_change_gives_by_answer rules list acc i k m n h (looks b verdict over why look is) none g = absurd (look_leaves_a_ballot m b verdict look none)
each_change_gives_by_answer rules list acc i k m n h (takes e is says member some there) none g = gave_taken rules list acc i k m n e h member some says refl g
each_change_gives_by_answer rules list acc i k m n h (asks_to_join is was) none g = still_change_gives_nothing k m n refl refl (sym (ap has_log_by_status was)) g
each_change_gives_by_answer rules list acc i k m n h (closes leads leaves last room) none g =
    let f = end_front (push_entry m (Leave m.core.who)) in
    still_change_gives_nothing k m n f.0 f.1 (departed_member_has_log_still m.status (both_of_and (is_member m.status) _ (both_of_and (acts_in_its_view m) _ leads).0).0) g
each_change_gives_by_answer rules list acc i k m n h _ none g = still_change_gives_nothing k m n refl refl refl g
