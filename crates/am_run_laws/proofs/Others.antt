-- What each change of another name than the first founder keeps, as long as its ballot is none.
use Rattle.am_run_laws.proofs.UnballotedWords.{◌≡◌, ◌≢◌, ℕ, ◌+◌, ◌-◌, ◌<◌, ◌≤◌, max, min, ◌==◌, not, nat_lt, true, false, if◌then◌else◌, List, [], ◌∷◌, length}
use Rattle.am_run_laws.proofs.UnballotedWords.{Some, None, slice_get, refl, sym, ap, ◌∙◌, subst, length-append, arith, All, nat_tests, Stamp, Image, Entry}
use Rattle.am_run_laws.proofs.UnballotedWords.{Data, View, Outcome, Rules, has, CoreState, raise_accepted_to_told, pass_over_below_join, Record, item_at, Status, Node, Ballot, top, is_member}
use Rattle.am_run_laws.proofs.UnballotedWords.{is_sequencer, push_entry, trim_node_up_to, founding_stamp, has_log_by_status, advance_node, refresh, BallotVerdict, node_of_welcomed, split_on_bool}
use Rattle.am_run_laws.proofs.UnballotedWords.{both_of_and, Cause, CauseHasFronts, alone, LooksAtBallot, finds_itself_out, CarriesEntry, whole_entry, by_number, MayPromise, invited}
use Rattle.am_run_laws.proofs.UnballotedWords.{overtaken, told_result, Change, refreshes, settles, takes_report, admits, numbers, notes, stores, begins_list}
use Rattle.am_run_laws.proofs.UnballotedWords.{departs, promises, opens, looks, fetches, stores_view, queues, collects, takes, asks_to_join, closes, WasSentByRecord}
use Rattle.am_run_laws.proofs.UnballotedWords.{EntryWasSent, NodeBodiesWereSent, FoundBodyWasSent, found_body_was_sent, all_gives_item_at, member_status_has_log, asking_status_has_no_log, welcomed_node_is_asking}
use Rattle.am_run_laws.proofs.UnballotedKept.{first_founder_of, ListIsOfTheWhole, UnballotedFrontsAreInOrder, unballoted_fronts_are_in_order, ListBeginsAtJoin, StatusFitsItsBeginning, OwnSendIsSettledRight, UnballotedNodeKeeps, WelcomeTellsWholeListFront, UnballotedCauseSays}
use Rattle.am_run_laws.proofs.{Lists.item_at_is_slice_get, Lists.pushed_entries_are_within_whole, Lists.no_entries_are_within_whole, UnballotedChanges.unballoted_sequencer_is_first_founder, UnballotedChanges.fronts_after_accept_and_pass}
use Rattle.am_run_laws.proofs.{UnballotedChanges.settle_keeps_unballoted_node, UnballotedChanges.submit_keeps_unballoted_node, UnballotedChanges.collect_keeps_unballoted_node}

-- ---- parts

-- the same list, numbers, status and sends
pub same_parts_keep_unballoted_node : (rules : Rules) (list : List Entry) (acc i : ℕ) (m n : Node) → n.core ≡ m.core → n.status ≡ m.status → n.sends ≡ m.sends
    → UnballotedNodeKeeps rules list acc i m → UnballotedNodeKeeps rules list acc i n
same_parts_keep_unballoted_node rules list acc i m n a b c h = record {
  who = ap (λ (x : CoreState). x.who) a ∙ h.who;
  log = subst (λ (x : CoreState). ListIsOfTheWhole list acc x.log) (sym a) h.log;
  fronts = subst (λ (x : CoreState). UnballotedFrontsAreInOrder (first_founder_of rules) acc i x) (sym a) h.fronts;
  status = subst (λ (x : Status). StatusFitsItsBeginning rules list acc i x n.core) (sym b)
      (subst (λ (x : CoreState). StatusFitsItsBeginning rules list acc i m.status x) (sym a) h.status);
  sends = subst (λ s. All (OwnSendIsSettledRight list acc i) s.queue) (sym c) h.sends;
}

-- what comes next in the whole list is stored
pub next_entry_keeps_unballoted_node : (rules : Rules) (list : List Entry) (acc i : ℕ) (m : Node) (e : Entry) → slice_get list (top m) ≡ Some e → UnballotedNodeKeeps rules list acc i m
    → UnballotedNodeKeeps rules list acc i (push_entry m e)
next_entry_keeps_unballoted_node rules list acc i m e is h =
    let f = h.fronts in
    let within : m.core.acc ≤ top (push_entry m e) = let a = f.within in let b = length-append m.core.log.entries (e ∷ []) in omega arith in
    assumption (pushed_entries_are_within_whole list m.core.log.start m.core.log.entries e h.log.within is, within)

-- its base goes up, and what it is told is no more than is accepted
noted_ok : (rules : Rules) (list : List Entry) (acc i : ℕ) (m : Node) (base to : ℕ) → m.core.base ≤ base → (i ≢ first_founder_of rules → to ≤ acc)
    → UnballotedNodeKeeps rules list acc i m → UnballotedNodeKeeps rules list acc i (record m { core = record (m.core) { base = base; told = to } })
noted_ok rules list acc i m base to up low h =
    let base_ : m.core.log.start ≤ base = let a = h.fronts.base in omega arith in
    assumption (low, base_)

pub status_keeps_unballoted_node : (rules : Rules) (list : List Entry) (acc i : ℕ) (m : Node) (s : Status) → has_log_by_status s ≡ has_log_by_status m.status → UnballotedNodeKeeps rules list acc i m
    → UnballotedNodeKeeps rules list acc i (record m { status = s })
status_keeps_unballoted_node rules list acc i m s b h =
    let status : StatusFitsItsBeginning rules list acc i s m.core = record {
      promise = λ t. h.status.promise (sym b ∙ t);
      founder = λ t. b ∙ h.status.founder t;
      blank = λ t. h.status.blank (sym b ∙ t);
      begins = λ t. h.status.begins (sym b ∙ t);
    } in
    assumption (status)

pub promise_keeps_unballoted_node : (rules : Rules) (list : List Entry) (acc i : ℕ) (m n : Node) (v : Stamp)
    → n ≡ record m { core = record (m.core) { promise = v }; ballot = n.ballot } → v ≡ founding_stamp rules → UnballotedNodeKeeps rules list acc i m
    → UnballotedNodeKeeps rules list acc i n
promise_keeps_unballoted_node rules list acc i m n v is e h = subst (UnballotedNodeKeeps rules list acc i) (sym is) (assumption)

-- the application takes the next entry
pub take_keeps_unballoted_node : (rules : Rules) (list : List Entry) (acc i : ℕ) (m : Node) → is_member m.status ≡ true → (m.core.taken == m.core.acc) ≡ false
    → UnballotedNodeKeeps rules list acc i m → UnballotedNodeKeeps rules list acc i (record m { core = record (m.core) { taken = m.core.taken + 1 } })
take_keeps_unballoted_node rules list acc i m member some h =
    let f = h.fronts in
    let p = f.passed in
    let less : m.core.taken < m.core.acc = grind (arith, nat_tests) in
    let stays : has_log_by_status m.status ≡ true = member_status_has_log m.status member in
    let taken : m.core.taken + 1 ≤ m.core.acc = omega arith in
    let passed : m.core.taken + 1 < m.core.start - 1 → m.core.acc ≤ m.core.taken + 1 = λ b.
    (let z : m.core.taken < m.core.start - 1 = omega arith in let q = p z in absurd (omega arith)) in
    let blank : has_log_by_status m.status ≡ false → (m.core.taken + 1 ≡ 0) × (m.core.start ≡ 0) = λ z. absurd (cc) in
    assumption (taken, passed, blank)

-- ---- what is accepted goes on

blank_passed : (taken acc start : ℕ) → taken ≡ 0 → start ≡ 0 → (if nat_lt taken (start - 1) then max taken (min acc (start - 1)) else taken) ≡ 0
blank_passed taken acc start a b =
    let f : nat_lt taken (start - 1) ≡ false = grind (arith, nat_tests) in
    rw f a

advance_ok : (rules : Rules) (list : List Entry) (acc to i : ℕ) (m : Node) → acc ≤ to → m.core.told ≤ to → StatusFitsItsBeginning rules list to i m.status m.core
    → ListIsOfTheWhole list to m.core.log → All (OwnSendIsSettledRight list to i) m.sends.queue → UnballotedNodeKeeps rules list acc i m → UnballotedNodeKeeps rules list to i (advance_node m)
unfolding raise_accepted_to_told pass_over_below_join
advance_ok rules list acc to i m up low st l q h =
    let blank : has_log_by_status m.status ≡ false → ((advance_node m).core.taken ≡ 0) × (m.core.start ≡ 0) = λ t. (let b = st.blank t in
    (blank_passed m.core.taken _ m.core.start b.0 b.1, b.1)) in
    assumption (blank, st, l, q, fronts_after_accept_and_pass (first_founder_of rules) acc to i m.core up low h.fronts)

-- the refresh of who doesn't lead
refreshed_ok : (rules : Rules) (list : List Entry) (acc i : ℕ) (m : Node) → i ≢ first_founder_of rules → UnballotedNodeKeeps rules list acc i m → UnballotedNodeKeeps rules list acc i (refresh m)
unfolding refresh
refreshed_ok rules list acc i m other h = split_on_bool (is_sequencer m)
    (λ t. absurd (other (unballoted_sequencer_is_first_founder rules list acc i m h t)))
    (λ f. rw f (advance_ok rules list acc acc i m (omega arith) (h.fronts.told other) h.status h.log h.sends h))

-- ---- a joiner's list

begun_ok : (rules : Rules) (list : List Entry) (acc i s : ℕ) (v : Stamp) (base join : ℕ) (image : Image) (m : Node) → acc ≤ length list
    → has rules.founders i ≡ false → WelcomeTellsWholeListFront rules list acc i v base join image → base < join → UnballotedNodeKeeps rules list acc i m
    → UnballotedNodeKeeps rules list acc i (node_of_welcomed m v base join image)
begun_ok rules list acc i s v base join image m within no_founder w above h =
    let low = w.low in
    let begins : ListBeginsAtJoin rules list acc i join = record {
      some = omega arith;
      founder = λ t. absurd (cc);
      joiner = λ f. record { low = w.low; there = w.joined f };
    } in
    record {
      who = h.who;
      log = record { start = omega arith; image = w.tells above; within = no_entries_are_within_whole list base (omega arith) };
      fronts = unballoted_fronts_are_in_order (first_founder_of rules) acc i (node_of_welcomed m v base join image).core (omega arith) (omega arith) (omega arith) (omega arith)
          (λ d. omega arith) (λ b. omega arith);
      status = record { promise = λ t. w.stamp; founder = λ t. refl; blank = λ t. absurd (cc); begins = λ t. begins };
      sends = h.sends;
    }

-- ---- what letters bring

-- the bodies of a send are one
pub record SendsHaveOneBody (all : List Record) : Type 0 where
  pub one : (name req : ℕ) (body other : List ℕ) → WasSentByRecord all name req body → WasSentByRecord all name req other → body ≡ other

fronts_told : (rules : Rules) (list : List Entry) (acc i : ℕ) (c : Cause) (s : ℕ) (v : Stamp) (base a : ℕ) → CauseHasFronts c s v base a
    → UnballotedCauseSays rules list acc i c → a ≤ acc
fronts_told rules list acc i c s v base a (alone s1 v1 base1 acc1 high poll) h = h
fronts_told rules list acc i c s v base a _ h = h.0

carried_ok : (rules : Rules) (list : List Entry) (acc i : ℕ) (all : List Record) (c : Cause) (m : Node) (s : ℕ) (v : Stamp) (base a number : ℕ) (e : Entry)
    → SendsHaveOneBody all → All (EntryWasSent all) list → NodeBodiesWereSent all i m → CarriesEntry c m s v base a number e → UnballotedCauseSays rules list acc i c → item_at list number ≡ Some e
carried_ok rules list acc i all c m s v base a number e one sent k (whole_entry x is) h = (subst (UnballotedCauseSays rules list acc i) is h).1
carried_ok rules list acc i all c m s v base a number e one sent k (by_number from req body is found) h =
    let p = subst (UnballotedCauseSays rules list acc i) is h in
    let was : WasSentByRecord all from req p.1 = all_gives_item_at (EntryWasSent all) list number (Data from req p.1) sent p.2 in
    let same = one.one from req body p.1 (subst (FoundBodyWasSent all from req) found (found_body_was_sent all i m from req k)) was in
    p.2 ∙ ap (λ b. Some (Data from req b)) (sym same)

-- ---- ballots

-- a look leaves a ballot
pub look_leaves_a_ballot : (m : Node) (b : Ballot) (v : BallotVerdict) → LooksAtBallot m b v → v.node.ballot ≡ None → ⊥
look_leaves_a_ballot m b v (finds_itself_out x) h = absurd (cc)
look_leaves_a_ballot m b v _ h = absurd (cc)

pub unballoted_promise_is_founding_stamp : (rules : Rules) (list : List Entry) (acc i : ℕ) (c : Cause) (m : Node) (v : Stamp) → MayPromise c m v → UnballotedCauseSays rules list acc i c
    → v ≡ founding_stamp rules
unballoted_promise_is_founding_stamp rules list acc i c m v (invited s w is heard own) h = absurd (subst (UnballotedCauseSays rules list acc i) is h)
unballoted_promise_is_founding_stamp rules list acc i c m v (overtaken s w vote is heard above) h = absurd (subst (UnballotedCauseSays rules list acc i) is h)
unballoted_promise_is_founding_stamp rules list acc i c m v (told_result s base number w is heard own other) h = (subst (UnballotedCauseSays rules list acc i) is h).0

-- ---- each change

next_is : (list : List Entry) (m : Node) (number : ℕ) (e : Entry) → number ≡ top m + 1 → item_at list number ≡ Some e → slice_get list (top m) ≡ Some e
next_is list m number e next is = item_at_is_slice_get list number (top m) e next is

pub logless_node_is_no_founder : (rules : Rules) (list : List Entry) (acc i : ℕ) (m : Node) → UnballotedNodeKeeps rules list acc i m → has_log_by_status m.status ≡ false
    → has rules.founders i ≡ false
logless_node_is_no_founder rules list acc i m h none = split_on_bool (has rules.founders i) (λ t. let l = h.status.founder t in absurd (cc)) (λ f. f)

-- what makes the name do a step, and the records to which all that was sent goes back
pub record HeardInUnballotedRun (rules : Rules) (list : List Entry) (acc i : ℕ) (all : List Record) (o : Outcome) (c : Cause) : Type 0 where
  pub cause : UnballotedCauseSays rules list acc i c
  pub within : acc ≤ length list
  pub unique : SendsHaveOneBody all
  pub sent : All (EntryWasSent all) list

pub change_keeps_other_unballoted_node : (rules : Rules) (list : List Entry) (acc i : ℕ) (all : List Record) (c : Cause) (o : Outcome) (m n : Node) → HeardInUnballotedRun rules list acc i all o c
    → i ≢ first_founder_of rules → Change c o m n → n.ballot ≡ None → NodeBodiesWereSent all i m → UnballotedNodeKeeps rules list acc i m → UnballotedNodeKeeps rules list acc i n
change_keeps_other_unballoted_node rules list acc i all c o m n w d refreshes none k h = refreshed_ok rules list acc i m d h
change_keeps_other_unballoted_node rules list acc i all c o m n w d settles none k h = settle_keeps_unballoted_node rules list acc i m h
change_keeps_other_unballoted_node rules list acc i all c o m n w d (takes_report s v report by may) none k h = absurd (d (unballoted_sequencer_is_first_founder rules list acc i m h may.leads))
change_keeps_other_unballoted_node rules list acc i all c o m n w d (admits s v is leads fit) none k h = absurd (d (unballoted_sequencer_is_first_founder rules list acc i m h leads))
change_keeps_other_unballoted_node rules list acc i all c o m n w d (numbers e leads room why) none k h = absurd (d (unballoted_sequencer_is_first_founder rules list acc i m h leads))
change_keeps_other_unballoted_node rules list acc i all c o m n w d (notes s v base a by heard) none k h =
    let low = fronts_told rules list acc i c s v base a by w.cause in
    let told = h.fronts.told in
    noted_ok rules list acc i m _ (max m.core.told a) (omega arith) (λ x. let t = told x in omega arith) h
change_keeps_other_unballoted_node rules list acc i all c o m n w d (stores s v base a number e by heard plain may) none k h =
    let is = carried_ok rules list acc i all c m s v base a number e w.unique w.sent k by w.cause in
    same_parts_keep_unballoted_node rules list acc i (push_entry m e) n refl refl refl (next_entry_keeps_unballoted_node rules list acc i m e (next_is list m number e may.next is) h)
change_keeps_other_unballoted_node rules list acc i all c o m n w d (begins_list s v base join image is says may) none k h =
    let p : WelcomeTellsWholeListFront rules list acc i v base join image = subst (UnballotedCauseSays rules list acc i) is w.cause in
    let none_yet = asking_status_has_no_log m.status (welcomed_node_is_asking m s v base join image may) in
    begun_ok rules list acc i s v base join image m w.within (logless_node_is_no_founder rules list acc i m h none_yet) p may.above h
change_keeps_other_unballoted_node rules list acc i all c o m n w d (departs s v number is heard leaves) none k h =
    status_keeps_unballoted_node rules list acc i m Status.Departed (sym (member_status_has_log m.status (both_of_and (not (s == m.core.who)) (is_member m.status) heard).1)) h
change_keeps_other_unballoted_node rules list acc i all c o m n w d (promises v low why) none k h =
    promise_keeps_unballoted_node rules list acc i m n v refl (unballoted_promise_is_founding_stamp rules list acc i c m v why w.cause) h
change_keeps_other_unballoted_node rules list acc i all c o m n w d (opens least resilience by may) none k h = absurd (cc)
change_keeps_other_unballoted_node rules list acc i all c o m n w d (looks b verdict over why look is) none k h = absurd (look_leaves_a_ballot m b verdict look none)
change_keeps_other_unballoted_node rules list acc i all c o m n w d (fetches s v base number e is heard promise below from may) none k h =
    let at = subst (UnballotedCauseSays rules list acc i) is w.cause in
    let t = noted_ok rules list acc i m (max m.core.base base) m.core.told (omega arith) h.fronts.told h in
    next_entry_keeps_unballoted_node rules list acc i (trim_node_up_to m base) e (next_is list m number e may.next at) t
change_keeps_other_unballoted_node rules list acc i all c o m n w d (stores_view s base number v is heard own other promise below may) none k h =
    let at = subst (UnballotedCauseSays rules list acc i) is w.cause in
    let t = noted_ok rules list acc i m (max m.core.base base) m.core.told (omega arith) h.fronts.told h in
    next_entry_keeps_unballoted_node rules list acc i (trim_node_up_to m base) (View v) (next_is list m number (View v) may.next at.1) t
change_keeps_other_unballoted_node rules list acc i all c o m n w d (queues body is says member stays few) none k h = submit_keeps_unballoted_node rules list acc i m body h
change_keeps_other_unballoted_node rules list acc i all c o m n w d (collects req is) none k h = collect_keeps_unballoted_node rules list acc i m req h
change_keeps_other_unballoted_node rules list acc i all c o m n w d (takes e is says member some there) none k h = take_keeps_unballoted_node rules list acc i m member some h
change_keeps_other_unballoted_node rules list acc i all c o m n w d (asks_to_join is was) none k h = status_keeps_unballoted_node rules list acc i m Status.Asking (sym (ap has_log_by_status was)) h
change_keeps_other_unballoted_node rules list acc i all c o m n w d (closes leads leaves last room) none k h = absurd (d (unballoted_sequencer_is_first_founder rules list acc i m h leads))
change_keeps_other_unballoted_node rules list acc i all c o m n w d _ none k h = same_parts_keep_unballoted_node rules list acc i m n refl refl refl h
