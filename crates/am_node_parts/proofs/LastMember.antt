-- The last member departs.
use Rattle.am_node_parts.proofs.Words.{◌≡◌, inr, ℕ, zero, suc, ◌+◌, ◌-◌, ◌<◌, List, [], ◌∷◌, ◌++◌, length, Bool, true, false, ◌&&◌, ◌==◌, nat_lt, nat_le}
use Rattle.am_node_parts.proofs.Words.{if◌then◌else◌, Some, None, length-append, refl, sym, ◌∙◌, ap, arith, slice_index, slice_get, get_or-map}
use Rattle.am_node_parts.proofs.Words.{nat_tests, map-set, Image, Row, Entry, Leave, stamps_are_equal, place_of_name, life_of_name, has, size, without_name, Log, top_of_log}
use Rattle.am_node_parts.proofs.Words.{row_at_place, blank_row, members_of_image, member_life_of_row, log_with_entry, log_entry_at, after, IsKept, split_on_bool_of_log, told_by_pushed_entry, untrimmed_core_keeps_own_log}
use Rattle.am_node_parts.proofs.Words.{members_after_row_set, CoreWithReports, RefreshesAlike, IsMemberOrLastLeaver, sum_by-cons, Status, Node, top, image_of_node, view, members, other_members, has_log_by_status}
use Rattle.am_node_parts.proofs.Words.{waiting_send_of, is_member, is_sequencer, push_entry, refresh, refresh_as_sequencer, settle_waiting_send, settle_send_where_accepted, refresh_at_end, core_with_reports_of, node_with_core_and_reports}
use Rattle.am_node_parts.proofs.Words.{IsEndOf, NodeKeeps, IsSteady}
use Rattle.am_base.specs.Lists.{fits}
use Rattle.am_node_defs.specs.Refresh as fronts
use Rattle.am_model.specs.declared.status.Status.TheVariants.{Stranger, Asking, Member, Departed}
use Rattle.am_node_parts.specs.Replies.{departed_node}
use Rattle.am_node_parts.proofs.{Ends.node_with_log_has_end, Keeping.push_keeps_node_order, Keeping.is_sequencer_after_push, Keeping.fold_keeps_sixteen_rows, Keeping.refresh_is_steady, Keeping.own_ballot_of_same_promise}

-- ---- a member's row

pub record HasJoinedRow (r : Row) (life : ℕ) : Type 0 where
  pub joined : 0 < r.joined
  pub same : r.life ≡ life

row_by_life : (r : Row) (life : ℕ) → 0 < life → (member_life_of_row r == life) ≡ true → HasJoinedRow r life
row_by_life r life up is = split_on_bool_of_log (nat_lt 0 r.joined && (r.left == 0))
    (λ t. let here = rw t at is in record { joined = grind (arith, nat_tests); same = grind (arith, nat_tests) })
    (λ f. let none = rw f at is in absurd (let z : ⊥ = grind (arith, nat_tests) in z))

pub member_has_joined_row : (image : Image) (who : ℕ) → has (members_of_image image) who ≡ true → HasJoinedRow (row_at_place image who) (life_of_name who)
member_has_joined_row image who is =
    let there : slice_index (members_of_image image) (place_of_name who) ≡ member_life_of_row (row_at_place image who) = get_or-map member_life_of_row image.rows (place_of_name who) blank_row in
    row_by_life (row_at_place image who) (life_of_name who) (omega arith) (ap (λ k. k == life_of_name who) (sym there) ∙ is)

-- ---- who stands outside

no_member : (s : Status) (a b : Bool) → is_member s ≡ false → ((is_member s && a) && b) ≡ true → ⊥
no_member s a b none is = let e = rw none at is in cc

log_stays : (s : Status) (old : Bool) → (has_log_by_status s ≡ false → old ≡ false) → old ≡ true → has_log_by_status s ≡ true
log_stays Stranger old f t = absurd (let e = f refl in cc)
log_stays Asking old f t = absurd (let e = f refl in cc)
log_stays Member old f t = refl
log_stays Departed old f t = refl

pub departed_status_keeps_node_order : (m : Node) (s : Status) → is_member s ≡ false → (has_log_by_status s ≡ false → has_log_by_status m.status ≡ false) → NodeKeeps m
    → NodeKeeps (record m { status = s })
departed_status_keeps_node_order m s outside log keeps = record {
  own = keeps.own;
  leads = λ is. absurd (no_member s (stamps_are_equal m.core.promise (view m)) ((view m).by == m.core.who) outside is);
  promised = keeps.promised;
  blank = λ none. keeps.blank (log none);
  ballot = λ b is. own_ballot_of_same_promise m (record m { status = s }) b refl refl refl (log_stays s (has_log_by_status m.status) log) (keeps.ballot b is);
  settled = keeps.settled;
  due = keeps.due;
  unsent = λ none. keeps.unsent (log none);
}

-- ---- the members after a Leave

members_left : (image : Image) (number name : ℕ) → length image.rows ≡ 16 → 0 < number → has (members_of_image image) name ≡ true
    → members_of_image (after image number (Leave name)) ≡ without_name (members_of_image image) name
unfolding after
members_left image number name long up is =
    let row = member_has_joined_row image name is in
    let life = row.same in
    let test : ((row_at_place image name).life == life_of_name name) ≡ true = grind (arith, nat_tests) in
    rw test (map-set member_life_of_row image.rows (place_of_name name) (record (row_at_place image name) { left = number })
    ∙ sym (members_after_row_set image name (record (row_at_place image name) { left = number }) long life life up))

left_members : (m : Node) (capacity : ℕ) → IsKept m.core.log capacity → has (members m) m.core.who ≡ true → members (push_entry m (Leave m.core.who))
    ≡ other_members m
left_members m capacity kept is =
    ap members_of_image (told_by_pushed_entry m.core.log (Leave m.core.who))
    ∙ members_left (image_of_node m) (top m + 1) m.core.who (fold_keeps_sixteen_rows m.core.log.image (m.core.log.start + 1) m.core.log.entries kept.image.places) (omega arith) is

-- ---- who has left leads once more

get_last : (xs : List Entry) (e : Entry) → slice_get (xs ++ e ∷ []) (length xs) ≡ Some e
get_last [] e = refl
get_last (x ∷ xs) e = get_last xs e

entry_after : (log : Log) (e : Entry) (k : ℕ) → k ≡ length log.entries → log_entry_at (log_with_entry log e) (suc (log.start + k)) ≡ Some e
entry_after log e k is =
    let low : nat_le log.start (log.start + k) ≡ true = grind (arith, nat_tests) in
    let back : log.start + k - log.start ≡ length log.entries = omega arith in
    rw low (ap (slice_get (log.entries ++ e ∷ [])) back ∙ get_last log.entries e)

last_entry : (log : Log) (e : Entry) → log_entry_at (log_with_entry log e) (top_of_log (log_with_entry log e)) ≡ Some e
last_entry log e =
    let long = length-append log.entries (e ∷ []) in
    let at : top_of_log (log_with_entry log e) ≡ suc (log.start + length log.entries) = omega arith in
    ap (log_entry_at (log_with_entry log e)) at ∙ entry_after log e (length log.entries) refl

pub last_leaver_may_lead : (m : Node) (capacity : ℕ) → IsKept m.core.log capacity → has (members m) m.core.who ≡ true → size (other_members m) ≡ 0
    → IsMemberOrLastLeaver (push_entry m (Leave m.core.who)).core
last_leaver_may_lead m capacity kept is alone = inr (last_entry m.core.log (Leave m.core.who), ap size (left_members m capacity kept is) ∙ alone)

-- ---- leading

pub lead_of_end_is_lead : (m : Node) (new : CoreWithReports) → m.core.base ≡ m.core.log.start → RefreshesAlike fronts.refresh_with_reports (core_with_reports_of m) new → IsEndOf (refresh_as_sequencer m) (node_with_core_and_reports m new)
unfolding refresh_as_sequencer
lead_of_end_is_lead m new kept by =
    let one = by m.core.log (untrimmed_core_keeps_own_log m.core kept) in
    node_with_log_has_end m.core.log (refresh_as_sequencer m) (node_with_core_and_reports m new) one.0 (ap (node_with_core_and_reports m) (sym one.1))

settle_none : (m : Node) → waiting_send_of m ≡ None → settle_waiting_send m ≡ m
unfolding settle_waiting_send
settle_none m none = ap (settle_send_where_accepted m) none

lead_waits : (m : Node) → waiting_send_of m ≡ None → waiting_send_of (refresh_as_sequencer m) ≡ None
unfolding refresh_as_sequencer
lead_waits m none = none

refresh_leads : (m : Node) → is_sequencer m ≡ true → refresh m ≡ refresh_as_sequencer m
unfolding refresh
refresh_leads m leads = rw leads refl

lead_departed : (m : Node) → departed_node (refresh_as_sequencer m) ≡ refresh_as_sequencer (departed_node m)
unfolding refresh_as_sequencer
lead_departed m = refl

at_end_leads : (m : Node) → waiting_send_of m ≡ None → is_sequencer m ≡ true → refresh_at_end m ≡ refresh_as_sequencer m
unfolding refresh_at_end
at_end_leads m none leads = ap settle_waiting_send (refresh_leads m leads) ∙ settle_none (refresh_as_sequencer m) (lead_waits m none)

-- the end of a step of who has left is that of a leading node that has departed
pub departed_refresh_is_lead : (m : Node) → waiting_send_of m ≡ None → is_sequencer m ≡ true
    → departed_node (refresh_at_end (push_entry m (Leave m.core.who))) ≡ refresh_as_sequencer (push_entry (departed_node m) (Leave m.core.who))
departed_refresh_is_lead m none leads =
    let gone = push_entry m (Leave m.core.who) in
    ap departed_node (at_end_leads gone none (is_sequencer_after_push m (Leave m.core.who) refl ∙ leads)) ∙ lead_departed gone

-- ---- what is kept of it

pub own_leave_of_member_fits : (m : Node) → has (members m) m.core.who ≡ true → fits (image_of_node m) (Leave m.core.who) ≡ true
unfolding fits
own_leave_of_member_fits m is = is

no_leader : (a b : Bool) → ((false && a) && b) ≡ true → ⊥
no_leader a b is = cc

pub last_leave_keeps_node_order : (m : Node) (capacity : ℕ) → IsKept m.core.log capacity → has (members m) m.core.who ≡ true → NodeKeeps (departed_node m)
    → NodeKeeps (push_entry (departed_node m) (Leave m.core.who))
last_leave_keeps_node_order m capacity kept is keeps =
    push_keeps_node_order (departed_node m) (Leave m.core.who) refl (own_leave_of_member_fits m is) capacity kept refl
    (λ leads. absurd (no_leader (stamps_are_equal m.core.promise (view m)) ((view m).by == m.core.who) leads)) keeps

-- nobody is left

none_at : (set : List ℕ) (i : ℕ) → size set ≡ 0 → slice_index set i ≡ 0
none_at [] i none = refl
none_at (zero ∷ lives) zero none = refl
none_at (zero ∷ lives) (suc i) none =
    let more : size (zero ∷ lives) ≡ 0 + size lives = sum_by-cons (λ (life : ℕ). if nat_lt 0 life then 1 else 0) zero lives in
    none_at lives i (omega arith)
none_at (suc b ∷ lives) i none =
    let more : size (suc b ∷ lives) ≡ (if nat_lt 0 (suc b) then 1 else 0) + size lives =
    sum_by-cons (λ (life : ℕ). if nat_lt 0 life then 1 else 0) (suc b) lives in
    let some : nat_lt 0 (suc b) ≡ true = grind (arith, nat_tests) in
    let one : size (suc b ∷ lives) ≡ 1 + size lives = more ∙ ap (λ t. (if t then 1 else 0) + size lives) some in
    absurd (omega arith)

without_none : (set : List ℕ) (who : ℕ) → size set ≡ 0 → size (without_name set who) ≡ 0
without_none set who none =
    let zero_there = none_at set (place_of_name who) none in
    let test : has set who ≡ false = grind (arith, nat_tests) in
    rw test none

steady_others : (m n : Node) → IsSteady m n → other_members n ≡ other_members m
steady_others m n s = λ k. without_name (members_of_image (s.told k)) (s.who k)

pub nobody_else_after_last_leave : (m : Node) (capacity : ℕ) → IsKept m.core.log capacity → has (members m) m.core.who ≡ true → waiting_send_of m ≡ None → is_sequencer m ≡ true
    → size (other_members m) ≡ 0 → size (other_members (refresh_at_end (push_entry m (Leave m.core.who)))) ≡ 0
nobody_else_after_last_leave m capacity kept is none leads alone =
    let gone = push_entry m (Leave m.core.who) in
    let still : is_sequencer gone ≡ true = is_sequencer_after_push m (Leave m.core.who) refl ∙ leads in
    ap (λ (x : Node). size (other_members x)) (at_end_leads gone none still ∙ sym (refresh_leads gone still))
    ∙ ap size (steady_others gone (refresh gone) (refresh_is_steady gone))
    ∙ ap (λ set. size (without_name set m.core.who)) (left_members m capacity kept is)
    ∙ without_none (other_members m) m.core.who alone
