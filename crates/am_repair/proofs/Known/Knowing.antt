-- A sequencer trims no more than it knows each member of its list to have taken: each change keeps it.
use Rattle.am_repair.proofs.RepairWords.{fetched_entry_makes_no_sequencer, stamp_name_is_sender, heard_asking_is_other, sequencer_promise_is_its_view, sequencer_promise_le_view, view_of_other_never_leads, base_after_is_within, heard_member_is_other, has_member_is_in_row, ◌≡◌, Packet}
use Rattle.am_repair.proofs.RepairWords.{either, ℕ, ◌+◌, ◌<◌, ◌≤◌, ◌==◌, nat_lt, true, false, List, length, refl, sym, ap, ◌∙◌, subst, arith, nat_tests}
use Rattle.am_repair.proofs.RepairWords.{Stamp, Image, Report, Row, Entry, Data, Join, Leave, Outcome, place_of_name, life_of_name, has, row_at_place, members_of_image, image_with_row}
use Rattle.am_repair.proofs.RepairWords.{after, row_of_place, IsMemberRow, row_of_with_row, sixteen_rows_after_entry, raise_accepted_to_told, pass_over_below_join, raise_own_report, tell_accept_front, advance_with_reports, trim_to_least_taken, Node, Ballot, top}
use Rattle.am_repair.proofs.RepairWords.{image_of_node, view, members, is_sequencer, push_entry, trim_node_up_to, node_with_report, refresh_as_sequencer, refresh, settle_waiting_send, refresh_at_end}
use Rattle.am_repair.proofs.RepairWords.{BallotVerdict, node_with_promise, next_stamp, node_with_joiner_reports, split_on_bool, Cause, hears, HasOpenBallot, LooksAtBallot, decides, MayPromise, invited}
use Rattle.am_repair.proofs.RepairWords.{overtaken, told_result, IsNumberedBy, asked_send, own_send, asked_join, asked_leave, Change, refreshes, settles}
use Rattle.am_repair.proofs.RepairWords.{takes_report, admits, numbers, notes, stores, begins_list, departs, promises, opens, looks, fetches, stores_view}
use Rattle.am_repair.proofs.RepairWords.{asks_to_join, closes, settle_changes_only_sends, image_of_pushed_entry, is_sequencer_after_pushed_entry, present_row_makes_member, stamp_at_most_then_below, view_of_pushed_view, NodeBallotFits, next_round_is_above}
use Rattle.am_repair.proofs.RepairWords.{NodeTrimFronts, told_image_is_used, TrimsKnown}
use Rattle.am_repair.proofs.Ends.{hearer_of_sequencer_leads_not, after_report_is_no_less, reports_after_lead_no_less}
use Rattle.am_repair.proofs.Nodes.{sequencer_acts_by_own_view, acting_node_has_no_ballot, finished_ballot_is_not_open, refreshed_node_stands_alike}
use Rattle.am_repair.proofs.Nodes.{is_sequencer_of_alike_nodes}
use Rattle.am_repair.proofs.RepairLeading.{least_taken_le_each_report, balloting_node_has_open_ballot}

-- ---- who is a member after an entry was one before, but for a joiner

set_back : (image : Image) (name i : ℕ) (r : Row) → length image.rows ≡ 16 → (IsMemberRow r (life_of_name i) → IsMemberRow (row_of_place image (place_of_name name)) (life_of_name i))
    → IsMemberRow (row_of_place (image_with_row image name r) (place_of_name i)) (life_of_name i) → IsMemberRow (row_of_place image (place_of_name i)) (life_of_name i)
set_back image name i r long back h = either (row_of_with_row image name (place_of_name i) r long)
    (λ x. subst (λ p. IsMemberRow (row_of_place image p) (life_of_name i)) (sym x.0) (back (subst (λ y. IsMemberRow y (life_of_name i)) x.1 h)))
    (λ x. subst (λ y. IsMemberRow y (life_of_name i)) x.1 h)

data_back : (image : Image) (n from req i : ℕ) (body : List ℕ) → length image.rows ≡ 16
    → IsMemberRow (row_of_place (after image n (Data from req body)) (place_of_name i)) (life_of_name i) → IsMemberRow (row_of_place image (place_of_name i)) (life_of_name i)
unfolding after
data_back image n from req i body long h = split_on_bool ((row_at_place image from).life == life_of_name from)
    (λ t. set_back image from i (record (row_at_place image from) { last = req }) long (λ x. record { joined = x.joined; left = x.left; is = x.is })
    (rw t at h))
    (λ f. rw f at h)

leave_back : (image : Image) (n name i : ℕ) → length image.rows ≡ 16 → 0 < n → IsMemberRow (row_of_place (after image n (Leave name)) (place_of_name i)) (life_of_name i)
    → IsMemberRow (row_of_place image (place_of_name i)) (life_of_name i)
unfolding after
leave_back image n name i long up h = split_on_bool ((row_at_place image name).life == life_of_name name)
    (λ t. set_back image name i (record (row_at_place image name) { left = n }) long (λ x. absurd (let none = x.left in omega arith)) (rw t at h))
    (λ f. rw f at h)

join_back : (image : Image) (n name i : ℕ) → length image.rows ≡ 16 → (i == name) ≡ false
    → IsMemberRow (row_of_place (after image n (Join name)) (place_of_name i)) (life_of_name i) → IsMemberRow (row_of_place image (place_of_name i)) (life_of_name i)
unfolding after
join_back image n name i long other h = either (row_of_with_row image name (place_of_name i) (record { life = life_of_name name; joined = n; left = 0; last = 0 }) long)
    (λ x. absurd (
    let z : ⊥ = grind (arith, nat_tests) in z))
    (λ x. subst
    (λ y. IsMemberRow y (life_of_name i)) x.1 h)

-- a member of a longer list
member_back : (m : Node) (e : Entry) (i : ℕ) → NodeTrimFronts m → (length (image_of_node m).rows ≡ 16
    → IsMemberRow (row_of_place (after (image_of_node m) (top m + 1) e) (place_of_name i)) (life_of_name i)
    → IsMemberRow (row_of_place (image_of_node m) (place_of_name i)) (life_of_name i))
    → has (members (push_entry m e)) i ≡ true → has (members m) i ≡ true
member_back m e i f back there =
    let used = told_image_is_used m f in
    let longer = sixteen_rows_after_entry (image_of_node m) (top m + 1) e used.places in
    let here = ap (λ (x : Image). has (members_of_image x) i) (sym (image_of_pushed_entry m e)) ∙ there in
    present_row_makes_member (image_of_node m) i used.places (back used.places (has_member_is_in_row (after (image_of_node m) (top m + 1) e) i longer here))

-- ---- a refresh

lead_trims : (m : Node) (i : ℕ) → NodeTrimFronts m → has (members m) i ≡ true → m.core.base ≤ (m.reports i).taken → (refresh_as_sequencer m).core.base ≤ ((refresh_as_sequencer m).reports i).taken
unfolding refresh_as_sequencer raise_own_report tell_accept_front advance_with_reports trim_to_least_taken raise_accepted_to_told pass_over_below_join
lead_trims m i f there low =
    let c = (refresh_as_sequencer m).core in
    let base = f.base in
    let up = (reports_after_lead_no_less m i).taken in
    base_after_is_within ((refresh_as_sequencer m).reports i).taken m.core.base _ (omega arith) (λ to is. least_taken_le_each_report m (refresh_as_sequencer m).reports (record c { base = m.core.base }) i to f refl
    (omega arith) (omega arith) there is)

known_refresh : (m : Node) → NodeTrimFronts m → TrimsKnown m → TrimsKnown (refresh m)
unfolding refresh refresh_as_sequencer trim_to_least_taken raise_own_report advance_with_reports pass_over_below_join raise_accepted_to_told tell_accept_front
known_refresh m f h = split_on_bool (is_sequencer m)
    (λ t. rw t (λ u i few there. lead_trims m i f there (h t i few there)))
    (λ g. λ u i few there. absurd (let same = is_sequencer_of_alike_nodes (refreshed_node_stands_alike m) in cc))

known_settle : (m : Node) → TrimsKnown m → TrimsKnown (settle_waiting_send m)
known_settle m h = subst TrimsKnown (sym (settle_changes_only_sends m)) h

pub trims_known_after_end : (m : Node) → NodeTrimFronts m → TrimsKnown m → TrimsKnown (refresh_at_end m)
unfolding refresh_at_end
trims_known_after_end m f h = known_settle (refresh m) (known_refresh m f h)

-- ---- reports, and entries that the sequencer numbers

known_report : (m : Node) (s : ℕ) (report : Report) → TrimsKnown m → TrimsKnown (node_with_report m s report)
known_report m s report h t i few there = let a = h t i few there in let b = (after_report_is_no_less m.reports s report i).taken in omega arith

-- no more members than before
known_pushed : (m : Node) (e : Entry) → is_sequencer (push_entry m e) ≡ is_sequencer m
    → ((i : ℕ) → has (members (push_entry m e)) i ≡ true → has (members m) i ≡ true) → TrimsKnown m → TrimsKnown (push_entry m e)
known_pushed m e same back h t i few there = h (sym same ∙ t) i few (back i there)

-- a joiner begins at the base
pub trims_known_after_join : (m : Node) (s : ℕ) → NodeTrimFronts m → TrimsKnown m → TrimsKnown (push_entry (node_with_joiner_reports m s) (Join s))
trims_known_after_join m s f h t i few there = split_on_bool (i == s)
    (λ same. rw same (omega arith))
    (λ other. rw other (h (sym (is_sequencer_after_pushed_entry m (Join s) refl) ∙ t) i few
    (member_back m (Join s) i f (λ long x. join_back (image_of_node m) (top m + 1) s i long other x) there)))

abbrev pub CauseIsNoJoin : Cause → Type 0
CauseIsNoJoin c = (s : ℕ) (v : Stamp) → c ≡ hears (Packet.JoinAsk s v) → ⊥

known_numbered : (c : Cause) (m : Node) (e : Entry) → CauseIsNoJoin c → IsNumberedBy c m e → NodeTrimFronts m → TrimsKnown m → TrimsKnown (push_entry m e)
known_numbered c m e none (asked_send s v report req body by known left next) f h =
    known_pushed m (Data s req body) (is_sequencer_after_pushed_entry m (Data s req body) refl)
    (λ i there. member_back m (Data s req body) i f (λ long x. data_back (image_of_node m) (top m + 1) s req i body long x) there) h
known_numbered c m e none (own_send s is last) f h =
    let d = Data m.core.who s.req s.body in
    known_pushed m d (is_sequencer_after_pushed_entry m d refl) (λ i there. member_back m d i f
    (λ long x. data_back (image_of_node m) (top m + 1) m.core.who s.req i s.body long x) there) h
known_numbered c m e none (asked_join s v is other fit) f h = absurd (none s v is)
known_numbered c m e none (asked_leave s v report is other known stays) f h =
    known_pushed m (Leave s) (is_sequencer_after_pushed_entry m (Leave s) refl) (λ i there. member_back m (Leave s) i f
    (λ long x. leave_back (image_of_node m) (top m + 1) s i long (omega arith) x) there) h

-- ---- who doesn't lead

promised_leads : (c : Cause) (m : Node) (v : Stamp) → MayPromise c m v → NodeBallotFits m → is_sequencer (node_with_promise m v) ≡ true → ⊥
promised_leads c m v (invited s _ is heard own) k t =
    view_of_other_never_leads (node_with_promise m v) s (ap (λ (x : Stamp). x.by) (sym (sequencer_promise_is_its_view (node_with_promise m v) t)) ∙ stamp_name_is_sender v s own) (heard_asking_is_other m s heard) t
promised_leads c m v (told_result s base number w is heard own other) k t =
    view_of_other_never_leads (node_with_promise m v) v.by (ap (λ (x : Stamp). x.by) (sym (sequencer_promise_is_its_view (node_with_promise m v) t))) other t
promised_leads c m v (overtaken s _ vote is heard above) k t = sequencer_promise_le_view (node_with_promise m v) (stamp_at_most_then_below (view m) m.core.promise v k.high above) t

-- an open ballot's node doesn't act
open_leads : (m : Node) (b : Ballot) → HasOpenBallot m b → NodeBallotFits m → is_sequencer m ≡ true → ⊥
open_leads m b o k t = finished_ballot_is_not_open m b o (acting_node_has_no_ballot m k (sequencer_acts_by_own_view m t).0)

known_look : (m : Node) (b : Ballot) (v : BallotVerdict) → LooksAtBallot m b v → (is_sequencer m ≡ true → ⊥) → TrimsKnown v.node
known_look m b v (decides may) none = λ t i few there. (let low : nat_lt i 256 ≡ true = grind (arith, nat_tests) in rw low (omega arith))
known_look m b v _ none = λ t i few there. absurd (none t)

-- ---- each change

pub trims_known_after_change : (c : Cause) (o : Outcome) (m n : Node) → CauseIsNoJoin c → NodeBallotFits m → NodeTrimFronts m → Change c o m n → TrimsKnown m → TrimsKnown n
trims_known_after_change c o m n none k f refreshes h = known_refresh m f h
trims_known_after_change c o m n none k f settles h = known_settle m h
trims_known_after_change c o m n none k f (takes_report s v report brings may) h = known_report m s report h
trims_known_after_change c o m n none k f (admits s v is leads fit) h = absurd (none s v is)
trims_known_after_change c o m n none k f (numbers e leads room why) h = known_numbered c m e none why f h
trims_known_after_change c o m n none k f (notes s v base acc brings heard) h = λ t i few there. absurd (let g = hearer_of_sequencer_leads_not m s v heard in cc)
trims_known_after_change c o m n none k f (stores s v base acc number e carries heard plain may) h = λ t i few there. absurd
    (let g = hearer_of_sequencer_leads_not m s v heard in let same = is_sequencer_after_pushed_entry m e plain in cc)
trims_known_after_change c o m n none k f (begins_list s v base join image is says may) h = λ t i few there. absurd (
    let own = stamp_name_is_sender v s may.own in
    let p = sequencer_promise_is_its_view n t in
    view_of_other_never_leads n s (ap (λ (x : Stamp). x.by) (sym p) ∙ own) (heard_asking_is_other m s may.asks) t)
trims_known_after_change c o m n none k f (departs s v number is heard leaves) h = λ t i few there. absurd (cc)
trims_known_after_change c o m n none k f (promises v low why) h = λ t i few there. absurd (promised_leads c m v why k t)
trims_known_after_change c o m n none k f (opens least resilience begins may) h = λ t i few there. absurd (
    let above = stamp_at_most_then_below (view m) m.core.promise (next_stamp m) k.high (next_round_is_above m.core.promise m.core.who) in
    sequencer_promise_le_view n above t)
trims_known_after_change c o m n none k f (looks b verdict over why look is) h = (let old = balloting_node_has_open_ballot c m b why in known_look m b verdict look
    (open_leads m old.0 old.1 k))
trims_known_after_change c o m n none k f (fetches s v base number e is heard promise below why may) h = λ t i few there. absurd
    (fetched_entry_makes_no_sequencer m s v base e why (heard_member_is_other m s heard) promise below t)
trims_known_after_change c o m n none k f (stores_view s base number v is heard own other promise below may) h = λ t i few there. absurd (
    view_of_other_never_leads n v.stamp.by (ap (λ (x : Stamp). x.by) (view_of_pushed_view (trim_node_up_to m base) v)) other t)
trims_known_after_change c o m n none k f (asks_to_join is was) h = λ t i few there. absurd (cc)
trims_known_after_change c o m n none k f (closes leads leaves alone room) h = λ t i few there. absurd (cc)
trims_known_after_change c o m n none k f _ h = h
