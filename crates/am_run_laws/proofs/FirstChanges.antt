-- What each change of the first founder keeps, as long as its ballot is none.
use Rattle.am_run_laws.proofs.UnballotedWords.{stamp_eq_of_itself, ◌≡◌, ℕ, ◌+◌, ◌-◌, ◌<◌, ◌≤◌, max, min, ◌==◌, ◌&&◌, not, nat_lt, true, false, if◌then◌else◌, List}
use Rattle.am_run_laws.proofs.UnballotedWords.{[], length, map, Some, None, refl, sym, ap, ◌∙◌, subst, append-nil, arith, nat_tests, Stamp, Report, Row, Image}
use Rattle.am_run_laws.proofs.UnballotedWords.{Entry, Data, Join, Leave, Outcome, Rules, life_of_name, stamps_are_equal, Log, fits, row_at_place, row_of_name, requests_of_sender, raise_accepted_to_told}
use Rattle.am_run_laws.proofs.UnballotedWords.{pass_over_below_join, raise_own_report, tell_accept_front, advance_with_reports, trim_to_least_taken, Node, top, view, is_member, acts_in_its_view, is_sequencer, Status}
use Rattle.am_run_laws.proofs.UnballotedWords.{push_entry, founding_stamp, has_log_by_status, refresh_as_sequencer, refresh, accepted_number_of_send, settle_waiting_send, refresh_at_end, is_view, member_hears_other}
use Rattle.am_run_laws.proofs.UnballotedWords.{hears_packet_of_its_view, hears_packet_of_sequencer, split_on_bool, both_of_and, image_of_list, is_member_at_end, member_has_member_row, member_row_gives_member, member_stays_by_push, standing_request_is_within_count, next_request_after_whole_list}
use Rattle.am_run_laws.proofs.UnballotedWords.{Cause, IsNumberedBy, asked_send, own_send, asked_join, asked_leave, MayBeWelcomed, Change, refreshes, settles, numbers}
use Rattle.am_run_laws.proofs.UnballotedWords.{notes, stores, begins_list, departs, promises, opens, looks, fetches, stores_view, queues, collects, takes}
use Rattle.am_run_laws.proofs.UnballotedWords.{asks_to_join, closes, base_le_base_after, refresh_rests_with_list, settle_changes_only_sends, member_status_has_log}
use Rattle.am_node_defs.specs.Sends as own
use Rattle.am_model.specs.Node as nodes
use Rattle.am_base.proofs.Rows as rows
use Rattle.am_run_laws.proofs.UnballotedKept.{first_founder_of, UnballotedFrontsAreInOrder, UnballotedNodeKeeps, UnballotedCauseSays, unballoted_node_in_longer_list}
use Rattle.am_run_laws.proofs.UnballotedChanges.{accepted_at_gives_found_send, settle_keeps_unballoted_node, submit_keeps_unballoted_node, collect_keeps_unballoted_node}
use Rattle.am_run_laws.proofs.Others.{same_parts_keep_unballoted_node, look_leaves_a_ballot, unballoted_promise_is_founding_stamp, status_keeps_unballoted_node, promise_keeps_unballoted_node, take_keeps_unballoted_node}
use Rattle.am_run_laws.proofs.Turns.{UnsettledSendsAreInTurn, waiting_send_has_next_request, turn_with_one_more_send, turn_after_settled_send, turn_after_collect}
use Rattle.am_run_laws.proofs.First.{image_has_founders_view, founder_base_of_same_list, FoundersSendsAreNext, FirstFounderBase, FirstFounderStaysMember, image_of_first_founder, founder_base_after_plain_entry}
use Rattle.am_abstract_group.proofs.Quiet.{leave_of_member_fits_list}
use Rattle.am_step_laws.proofs.ViewChanges.{sequencer_is_member, welcomed_node_has_no_log}
use Rattle.am_step_laws.proofs.Numbers.Counts.{skipped_taken_le_accepted}
use Rattle.am_step_laws.proofs.Rests.{settle_keeps_property}

-- ---- what is accepted goes on

passed_over : (taken acc start : ℕ) → (if nat_lt taken (start - 1) then max taken (min acc (start - 1)) else taken) < start - 1
    → acc ≤ (if nat_lt taken (start - 1) then max taken (min acc (start - 1)) else taken)
passed_over taken acc start = split_on_bool (nat_lt taken (start - 1))
    (λ t. rw t (λ b. omega arith))
    (λ f. let z : start - 1 ≤ taken = grind (arith, nat_tests) in rw f (λ b. absurd (omega arith)))

-- with other fronts and reports, as a refresh leaves them
abbrev risen : Node → ℕ → ℕ → (ℕ → Report) → Node
risen m told base reports = record m {
  core = record (m.core) {
    told = told;
    acc = max m.core.acc (min told (top m));
    taken = if nat_lt m.core.taken (m.core.start - 1) then max m.core.taken (min (max m.core.acc (min told (top m))) (m.core.start - 1)) else m.core.taken;
    base = base;
  };
  reports = reports;
}

node_up : (rules : Rules) (list : List Entry) (acc to i : ℕ) (m : Node) → acc ≤ to → UnballotedNodeKeeps rules list acc i m → UnballotedNodeKeeps rules list to i m
node_up rules list acc to i m up h = subst (λ l. UnballotedNodeKeeps rules l to i m) (append-nil list) (unballoted_node_in_longer_list rules list [] acc to i m up h)

first_rise : (rules : Rules) (m : Node) (told base : ℕ) (reports : ℕ → Report) → m.core.base ≤ base → FirstFounderBase rules m
    → FirstFounderBase rules (risen m told base reports)
first_rise rules m told base reports up h =
    let list = m.core.log.entries in
    let i = first_founder_of rules in
    let to = max m.core.acc (min told (top m)) in
    let n = node_up rules list m.core.acc to i m (omega arith) h.node in
    let x = risen m told base reports in
    let fronts : UnballotedFrontsAreInOrder i to i x.core = record {
      accepted = omega arith;
      within = omega arith;
      taken = skipped_taken_le_accepted m.core.taken to m.core.start (omega arith);
      base = omega arith;
      told = λ d. absurd (d refl);
      passed = passed_over m.core.taken to m.core.start;
    } in
    let blank : has_log_by_status m.status ≡ false → (x.core.taken ≡ 0) × (x.core.start ≡ 0) = λ z. absurd (cc) in
    assumption (fronts, blank, n)

first_refresh : (rules : Rules) (m : Node) → FirstFounderBase rules m → FirstFounderBase rules (refresh m)
unfolding refresh refresh_as_sequencer raise_own_report tell_accept_front advance_with_reports trim_to_least_taken raise_accepted_to_told pass_over_below_join
first_refresh rules m h = split_on_bool (is_sequencer m)
    (λ t. rw t (first_rise rules m _ _ _ (base_le_base_after _ m.core.base) h))
    (λ f. rw f (first_rise rules m m.core.told m.core.base m.reports (omega arith) h))

-- ---- its waiting send is settled

with_own : (rules : Rules) (m : Node) (sends : own.Sends) → UnballotedNodeKeeps rules m.core.log.entries m.core.acc (first_founder_of rules) (record m { sends = sends })
    → FoundersSendsAreNext rules m.core.log.entries sends → FirstFounderBase rules m → FirstFounderBase rules (record m { sends = sends })
with_own rules m sends n o h = record { node = n; start = h.start; group = h.group; good = h.good; log = h.log; own = o }

-- where it stands, so many requests are there
asked_there : (rules : Rules) (m : Node) (req k : ℕ) → FirstFounderBase rules m → accepted_number_of_send m req ≡ Some k
    → req ≤ length (requests_of_sender (first_founder_of rules) m.core.log.entries)
asked_there rules m req k h is =
    let f = accepted_at_gives_found_send m req k is in
    let there = f.there ∙ ap (λ w. Some (Data w req f.body)) h.node.who in
    standing_request_is_within_count m.core.log.entries (first_founder_of rules) req f.body ((m.core.base - m.core.log.start) + k) h.good.fit there

first_settle : (rules : Rules) (m : Node) → FirstFounderBase rules m → FirstFounderBase rules (settle_waiting_send m)
first_settle rules m h = settle_keeps_property (λ n. UnballotedNodeKeeps rules m.core.log.entries m.core.acc (first_founder_of rules) n → FirstFounderBase rules n) m (λ n. h)
    (λ s k w is n.
    let o = h.own in
    let number = m.core.base + 1 + k in
    let same = waiting_send_has_next_request o.next o.next m.sends.last m.sends.queue s o.turn w in
    let there = asked_there rules m s.req k h is in
    let turn = turn_after_settled_send o.next o.next m.sends.last number m.sends.queue s (omega arith) w o.turn in
    with_own rules m (own.settle_request s.req number m.sends) n
    (record {
      next = o.next + 1;
      turn = subst (λ r. UnsettledSendsAreInTurn (o.next + 1) (o.next + 1) (map (own.settle_send r number) m.sends.queue) m.sends.last) (sym same) turn;
      low = omega arith;
    }) h)
    (settle_keeps_unballoted_node rules m.core.log.entries m.core.acc (first_founder_of rules) m h.node)

-- ---- what it numbers

-- the row of a name that is there
row_is : (image : Image) (name : ℕ) → (0 < (row_of_name image name).joined) → (row_of_name image name ≡ row_at_place image name) × ((row_at_place image name).life ≡ life_of_name name)
row_is image name some = split_on_bool ((row_at_place image name).life == life_of_name name)
    (λ t. let same : (row_at_place image name).life ≡ life_of_name name = grind (arith, nat_tests) in (rw t refl, same))
    (λ f. let none = rw f at some in absurd (omega arith))

-- a name whose Join stands and which hasn't left is a member
known_member : (list : List Entry) (name : ℕ) → ((row_of_name (image_of_list list) name).joined == 0) ≡ false → (row_of_name (image_of_list list) name).left ≡ 0 → is_member_at_end list name
    ≡ true
known_member list name known stays =
    let some : 0 < (row_of_name (image_of_list list) name).joined = grind (arith, nat_tests) in
    let r = row_is (image_of_list list) name some in
    member_row_gives_member list name (record {
      joined = subst (λ (x : Row). 0 < x.joined) r.0 some;
      left = subst (λ (x : Row). x.left ≡ 0) r.0 stays;
      is = r.1;
    })

fits_data : (list : List Entry) (name req : ℕ) (body : List ℕ) → is_member_at_end list name ≡ true → req ≡ (row_of_name (image_of_list list) name).last + 1
    → fits (image_of_list list) (Data name req body) ≡ true
unfolding fits is_member_at_end
fits_data list name req body member next =
    let t : (req == (row_of_name (image_of_list list) name).last + 1) ≡ true = grind (arith, nat_tests) in
    rw (member, t) refl

-- of a member the last request is that of so many
last_asked : (rules : Rules) (m : Node) → FirstFounderBase rules m → is_member_at_end m.core.log.entries (first_founder_of rules) ≡ true
    → (row_of_name (image_of_list m.core.log.entries) (first_founder_of rules)).last ≡ length (requests_of_sender (first_founder_of rules) m.core.log.entries)
last_asked rules m h member =
    let list = m.core.log.entries in
    let i = first_founder_of rules in
    let in_ = member_has_member_row list i member in
    let next = (next_request_after_whole_list list i h.good.fit).own in_.joined in_.is in
    let alive : ((row_at_place (image_of_list list) i).life == life_of_name i) ≡ true = (let e = in_.is in grind (arith, nat_tests)) in
    let same : row_of_name (image_of_list list) i ≡ row_at_place (image_of_list list) i = rw alive refl in
    let last = ap (λ (r : Row). r.last) same in
    omega arith

numbered_fits : (rules : Rules) (c : Cause) (m : Node) (e : Entry) → FirstFounderBase rules m → is_member_at_end m.core.log.entries (first_founder_of rules) ≡ true → IsNumberedBy c m e
    → (is_view e ≡ false) × (fits (image_of_list m.core.log.entries) e ≡ true)
numbered_fits rules c m e h member (asked_send s v report req body by known stays next) =
    let list = m.core.log.entries in
    let t = image_of_first_founder rules m h in
    let known_ : ((row_of_name (image_of_list list) s).joined == 0) ≡ false = ap (λ i. (row_of_name i s).joined == 0) (sym t) ∙ known in
    let stays_ : nat_lt 0 (row_of_name (image_of_list list) s).left ≡ false = ap (λ i. nat_lt 0 (row_of_name i s).left) (sym t) ∙ stays in
    let left : (row_of_name (image_of_list list) s).left ≡ 0 = grind (arith, nat_tests) in
    let next_ : req ≡ (row_of_name (image_of_list list) s).last + 1 = next ∙ ap (λ i. (row_of_name i s).last + 1) t in
    (refl, fits_data list s req body (known_member list s known_ left) next_)
numbered_fits rules c m e h member (own_send s is last) =
    let list = m.core.log.entries in
    let i = first_founder_of rules in
    let t = image_of_first_founder rules m h in
    let who = h.node.who in
    let o = h.own in
    let same = waiting_send_has_next_request o.next o.next m.sends.last m.sends.queue s o.turn is in
    let asked = last_asked rules m h member in
    let above : nat_lt (row_of_name (image_of_list list) i).last s.req ≡ true = ap (λ x. nat_lt (row_of_name x i).last s.req) (sym t)
    ∙ ap (λ w. nat_lt (row_of_name (nodes.image_of_node m) w).last s.req) (sym who) ∙ last in
    let less : (row_of_name (image_of_list list) i).last < s.req = grind (arith, nat_tests) in
    let next : s.req ≡ (row_of_name (image_of_list list) i).last + 1 = omega arith in
    (refl, ap (λ w. fits (image_of_list list) (Data w s.req s.body)) who ∙ fits_data list i s.req s.body member next)
numbered_fits rules c m e h member (asked_join s v is other fit) = (refl, ap (λ i. fits i (Join s)) (sym (image_of_first_founder rules m h)) ∙ fit)
numbered_fits rules c m e h member (asked_leave s v report is other known stays) =
    let list = m.core.log.entries in
    let t = image_of_first_founder rules m h in
    let known_ : ((row_of_name (image_of_list list) s).joined == 0) ≡ false = ap (λ i. (row_of_name i s).joined == 0) (sym t) ∙ known in
    let stays_ : ((row_of_name (image_of_list list) s).left == 0) ≡ true = ap (λ i. (row_of_name i s).left == 0) (sym t) ∙ stays in
    let left : (row_of_name (image_of_list list) s).left ≡ 0 = grind (arith, nat_tests) in
    (refl, leave_of_member_fits_list list s (known_member list s known_ left))

-- it spares itself
numbered_spares : (rules : Rules) (c : Cause) (m : Node) (e : Entry) → m.core.who ≡ first_founder_of rules → IsNumberedBy c m e → rows.EntrySparesMember (first_founder_of rules) e
numbered_spares rules c m e who (asked_leave s v report is other known stays) =
    λ same. (let z : s ≡ m.core.who = same ∙ sym who in absurd (let y : ⊥ = grind (arith, nat_tests) in y))
numbered_spares rules c m e who _ = tt

-- ---- what it doesn't hear

pub view_of_first_founder : (rules : Rules) (m : Node) → FirstFounderBase rules m → view m ≡ founding_stamp rules
view_of_first_founder rules m h = ap (λ (i : Image). i.view) (image_of_first_founder rules m h) ∙ (image_has_founders_view rules m.core.log.entries h.group).view

-- another name isn't its sequencer
not_heard : (rules : Rules) (m : Node) (s : ℕ) (v : Stamp) → FirstFounderBase rules m → hears_packet_of_sequencer m s v ≡ true → ⊥
not_heard rules m s v h t =
    let a = both_of_and (hears_packet_of_its_view m s v) (v.by == s) t in
    let b = both_of_and (member_hears_other m s) (acts_in_its_view m && stamps_are_equal v (view m)) a.0 in
    let other = (both_of_and (not (s == m.core.who)) (is_member m.status) b.0).0 in
    let same = (both_of_and (acts_in_its_view m) (stamps_are_equal v (view m)) b.1).1 in
    let by = a.1 in
    let f = ap (λ (x : Stamp). x.by) (view_of_first_founder rules m h) in
    let first = view m in
    let z : ⊥ = grind (arith, nat_tests) in z

not_fetched : (rules : Rules) (m : Node) (v : Stamp) → FirstFounderBase rules m → is_member m.status ≡ true → stamps_are_equal v m.core.promise ≡ true
    → stamps_are_equal (view m) v ≡ false → ⊥
not_fetched rules m v h member promise below =
    let p = h.node.status.promise (member_status_has_log m.status member) in
    let f = view_of_first_founder rules m h in
    let t : stamps_are_equal v (founding_stamp rules) ≡ true = ap (stamps_are_equal v) (sym p) ∙ promise in
    let u : stamps_are_equal (founding_stamp rules) v ≡ false = ap (λ x. stamps_are_equal x v) (sym f) ∙ below in
    let first = founding_stamp rules in
    let z : ⊥ = grind (arith, nat_tests) in z

-- who has a list joins no more
pub logged_node_is_not_welcomed : (m : Node) (s : ℕ) (v : Stamp) (base join : ℕ) (image : Image) → MayBeWelcomed m s v base join image → has_log_by_status m.status ≡ true → ⊥
logged_node_is_not_welcomed m s v base join image h log = let none = welcomed_node_has_no_log m s v base join image h in cc

-- collecting changes no request number
collected_last : (next req : ℕ) (sends : own.Sends) → UnsettledSendsAreInTurn next next sends.queue sends.last
    → UnsettledSendsAreInTurn next next (own.collect req sends).queue (own.collect req sends).last
collected_last next req sends h =
    let same : (own.collect req sends).last ≡ sends.last = split_on_bool (own.has_settled_send req sends) (λ t. rw t refl) (λ f. rw f refl) in
    subst (UnsettledSendsAreInTurn next next (own.collect req sends).queue) (sym same) (turn_after_collect next next sends.last req sends (omega arith) h)

-- ---- each change

member_refreshed : (rules : Rules) (m : Node) → FirstFounderStaysMember rules m → is_member (refresh m).status ≡ true → is_member_at_end (refresh m).core.log.entries (first_founder_of rules) ≡ true
member_refreshed rules m h t =
    let r = refresh_rests_with_list m in
    ap (λ (l : Log). is_member_at_end l.entries (first_founder_of rules)) r.log ∙ h.member (ap is_member (sym r.rests.status) ∙ t)

member_settled : (rules : Rules) (m : Node) → FirstFounderStaysMember rules m → is_member (settle_waiting_send m).status ≡ true → is_member_at_end (settle_waiting_send m).core.log.entries (first_founder_of rules) ≡ true
member_settled rules m h = subst (λ (n : Node). is_member n.status ≡ true → is_member_at_end n.core.log.entries (first_founder_of rules) ≡ true) (sym (settle_changes_only_sends m)) h.member

numbered : (rules : Rules) (c : Cause) (m : Node) (e : Entry) → is_sequencer m ≡ true → IsNumberedBy c m e → FirstFounderStaysMember rules m → FirstFounderStaysMember rules (push_entry m e)
numbered rules c m e leads why h =
    let i = first_founder_of rules in
    let member = h.member (sequencer_is_member m leads) in
    let f = numbered_fits rules c m e h.base member why in
    let base = founder_base_after_plain_entry rules m e f.0 f.1 h.base in
    record { base = base; member = λ t. member_stays_by_push m.core.log.entries e i base.good (numbered_spares rules c m e h.base.node.who why) member }

closed : (rules : Rules) (m : Node) → is_sequencer m ≡ true → FirstFounderStaysMember rules m
    → FirstFounderStaysMember rules (record (refresh_at_end (push_entry m (Leave m.core.who))) { status = Status.Departed })
unfolding refresh_at_end
closed rules m leads h =
    let i = first_founder_of rules in
    let list = m.core.log.entries in
    let member = h.member (sequencer_is_member m leads) in
    let fit : fits (image_of_list list) (Leave m.core.who) ≡ true = leave_of_member_fits_list list m.core.who (ap (is_member_at_end list) h.base.node.who ∙ member) in
    let p = push_entry m (Leave m.core.who) in
    let n = refresh_at_end p in
    let base = first_settle rules (refresh p) (first_refresh rules p (founder_base_after_plain_entry rules m (Leave m.core.who) refl fit h.base)) in
    record {
      base = founder_base_of_same_list rules n (record n { status = Status.Departed }) refl refl refl
          (status_keeps_unballoted_node rules n.core.log.entries n.core.acc i n Status.Departed (sym base.log) base.node) base;
      member = λ t. absurd (cc);
    }

pub change_keeps_first_founder : (rules : Rules) (list : List Entry) (acc : ℕ) (c : Cause) (o : Outcome) (m n : Node) → UnballotedCauseSays rules list acc (first_founder_of rules) c
    → Change c o m n → n.ballot ≡ None → FirstFounderStaysMember rules m → FirstFounderStaysMember rules n
change_keeps_first_founder rules list acc c o m n w refreshes none h = record { base = first_refresh rules m h.base; member = member_refreshed rules m h }
change_keeps_first_founder rules list acc c o m n w settles none h = record { base = first_settle rules m h.base; member = member_settled rules m h }
change_keeps_first_founder rules list acc c o m n w (numbers e leads room why) none h = numbered rules c m e leads why h
change_keeps_first_founder rules list acc c o m n w (notes s v base a by heard) none h = absurd (not_heard rules m s v h.base heard)
change_keeps_first_founder rules list acc c o m n w (stores s v base a number e by heard plain may) none h = absurd (not_heard rules m s v h.base heard)
change_keeps_first_founder rules list acc c o m n w (begins_list s v base join image is says may) none h = absurd (logged_node_is_not_welcomed m s v base join image may h.base.log)
change_keeps_first_founder rules list acc c o m n w (departs s v number is heard leaves) none h =
    let b = h.base in
    record {
      base = founder_base_of_same_list rules m n refl refl refl (status_keeps_unballoted_node rules _ _ _ m Status.Departed (sym b.log) b.node) b;
      member = λ t. absurd (cc);
    }
change_keeps_first_founder rules list acc c o m n w (promises v low why) none h =
    let b = h.base in
    record {
      base = founder_base_of_same_list rules m n refl refl b.log (promise_keeps_unballoted_node rules _ _ _ m n v refl (unballoted_promise_is_founding_stamp rules list acc (first_founder_of rules) c m v why w) b.node) b;
      member = h.member;
    }
change_keeps_first_founder rules list acc c o m n w (opens least resilience by may) none h = absurd (cc)
change_keeps_first_founder rules list acc c o m n w (looks b verdict over why look is) none h = absurd (look_leaves_a_ballot m b verdict look none)
change_keeps_first_founder rules list acc c o m n w (fetches s v base number e is heard promise below from may) none h =
    absurd (not_fetched rules m v h.base (both_of_and (not (s == m.core.who)) (is_member m.status) heard).1 promise below)
change_keeps_first_founder rules list acc c o m n w (stores_view s base number v is heard own other promise below may) none h =
    absurd (not_fetched rules m v.stamp h.base (both_of_and (not (s == m.core.who)) (is_member m.status) heard).1
    (ap (stamps_are_equal v.stamp) promise ∙ stamp_eq_of_itself v.stamp) below)
change_keeps_first_founder rules list acc c o m n w (queues body is says member stays few) none h =
    let b = h.base in
    let own_ = b.own in
    record {
      base = with_own rules m (own.queue_send body m.sends) (submit_keeps_unballoted_node rules m.core.log.entries m.core.acc (first_founder_of rules) m body b.node)
          (record { next = own_.next; turn = turn_with_one_more_send own_.next own_.next m.sends.last m.sends.queue body own_.turn; low = own_.low }) b;
      member = h.member;
    }
change_keeps_first_founder rules list acc c o m n w (collects req is) none h =
    let b = h.base in
    let own_ = b.own in
    record {
      base = with_own rules m (own.collect req m.sends) (collect_keeps_unballoted_node rules m.core.log.entries m.core.acc (first_founder_of rules) m req b.node)
          (record { next = own_.next; turn = collected_last own_.next req m.sends own_.turn; low = own_.low }) b;
      member = h.member;
    }
change_keeps_first_founder rules list acc c o m n w (takes e is says member some there) none h =
    let b = h.base in
    record {
      base = founder_base_of_same_list rules m n refl refl b.log (take_keeps_unballoted_node rules _ _ _ m member some b.node) b;
      member = h.member;
    }
change_keeps_first_founder rules list acc c o m n w (asks_to_join is was) none h = let l = h.base.log in let z = ap has_log_by_status was in absurd (cc)
change_keeps_first_founder rules list acc c o m n w (closes leads leaves last room) none h = closed rules m leads h
change_keeps_first_founder rules list acc c o m n w _ none h =
    let b = h.base in
    record {
      base = founder_base_of_same_list rules m n refl refl b.log (same_parts_keep_unballoted_node rules _ _ _ m n refl refl refl b.node) b;
      member = h.member;
    }
