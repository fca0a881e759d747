-- What a refresh and the end of a step leave as it is.
use Rattle.am_step_laws.proofs.EffectWords.{◌≡◌, ℕ, ◌+◌, ◌-◌, ◌≤◌, ◌==◌, ◌&&◌, max, min, nat_lt, if◌then◌else◌, List, [], ◌∷◌, ◌++◌, length, Option, Some, None}
use Rattle.am_step_laws.proofs.EffectWords.{slice_get, option_map, refl, sym, ap, ◌∙◌, subst, arith, length-append, slice_get-map, append-nil, Entry, Leave, Image}
use Rattle.am_step_laws.proofs.EffectWords.{stamps_are_equal, Log, row_at_place, after, image_after_entries, image_of_log, life_of_name, pass_over_below_join, base_after_trim, raise_own_report, tell_accept_front, advance_with_reports, OwnSend, Node}
use Rattle.am_step_laws.proofs.EffectWords.{image_of_node, view, is_member, acts_in_its_view, is_sequencer, push_entry, waiting_send_of, refresh_as_sequencer, refresh, accepted_number_of_send, settle_send_at}
use Rattle.am_step_laws.proofs.EffectWords.{settle_send_where_accepted, settle_waiting_send, refresh_at_end, fold_append, split_on_bool, HasOwnSend, EntryStands}
use Rattle.am_node_defs.specs.Sends as own
use Rattle.am_node_defs.specs.Cores.{raise_accepted_to_told}
use Rattle.am_node_defs.specs.Refresh.{trim_to_least_taken}
use Rattle.am_step_laws.proofs.{Items.slice_get_of_front}

-- ---- a refresh

-- the node with the fronts and the reports of another
abbrev pub with_fronts_of : Node → Node → Node
with_fronts_of m n = record m { core = record (m.core) { base = n.core.base; told = n.core.told; acc = n.core.acc; taken = n.core.taken }; reports = n.reports }

-- a refresh changes fronts and reports alone
pub refresh_changes_only_fronts : (m : Node) → refresh m ≡ with_fronts_of m (refresh m)
unfolding refresh refresh_as_sequencer raise_own_report tell_accept_front advance_with_reports trim_to_least_taken raise_accepted_to_told pass_over_below_join
refresh_changes_only_fronts m = split_on_bool (is_sequencer m) (λ t. rw t refl) (λ f. rw f refl)

-- ---- the end of a step

-- and the waiting send may be settled then
abbrev pub with_sends_of : Node → Node → Node
with_sends_of m n = record m { sends = record m.sends { queue = n.sends.queue } }

-- what holds of a node holds after that, where it does once the send is settled at a number
pub settle_keeps_property : (P : Node → Type 0) (m : Node) → P m
    → ((s : OwnSend) (k : ℕ) → waiting_send_of m ≡ Some s → accepted_number_of_send m s.req ≡ Some k → P (settle_send_at m s.req (Some k))) → P (settle_waiting_send m)
unfolding settle_waiting_send
settle_keeps_property P m h f = by_waiting (waiting_send_of m) refl
  where
    by_place : (s : OwnSend) (at : Option ℕ) → waiting_send_of m ≡ Some s → accepted_number_of_send m s.req ≡ at → P (settle_send_at m s.req at)
    by_place s None w at = h
    by_place s (Some k) w at = f s k w at

    by_waiting : (w : Option OwnSend) → waiting_send_of m ≡ w → P (settle_send_where_accepted m w)
    by_waiting None w = h
    by_waiting (Some s) w = by_place s (accepted_number_of_send m s.req) w refl

pub settle_changes_only_sends : (m : Node) → settle_waiting_send m ≡ with_sends_of m (settle_waiting_send m)
settle_changes_only_sends m = settle_keeps_property (λ n. n ≡ with_sends_of m n) m refl (λ s k w at. refl)

-- a send keeps its request and its body
same_send : (req number : ℕ) (s : OwnSend) → ((own.settle_send req number s).req ≡ s.req) × ((own.settle_send req number s).body ≡ s.body)
same_send req number s = split_on_bool (s.req == req) (λ t. rw t (refl, refl)) (λ f. rw f (refl, refl))

sends_settle : (m : Node) (q : ℕ) (body : List ℕ) → HasOwnSend m q body → HasOwnSend (settle_waiting_send m) q body
sends_settle m q body h = settle_keeps_property (λ n. HasOwnSend n q body) m h (λ s k w at.
    let f = own.settle_send s.req (m.core.base + 1 + k) in
    let same = same_send s.req (m.core.base + 1 + k) h.send in
    record {
      index = h.index;
      send = f h.send;
      there = slice_get-map f m.sends.queue h.index ∙ ap (option_map f) h.there;
      request = same.0 ∙ h.request;
      body_ = same.1 ∙ h.body_;
    })

-- ---- what stays

-- who it is, and how it stands in the group
pub record HasSameStanding (p n : Node) : Type 0 where
  pub who : n.core.who ≡ p.core.who
  pub promise : n.core.promise ≡ p.core.promise
  pub status : n.status ≡ p.status
  pub leaving : n.leaving ≡ p.leaving
  pub ballot : n.ballot ≡ p.ballot

-- its numbers don't fall
pub record NodeFrontsRise (p n : Node) : Type 0 where
  pub base : p.core.base ≤ n.core.base
  pub acc : p.core.acc ≤ n.core.acc
  pub taken : p.core.taken ≤ n.core.taken

-- a list may have more
pub record LogIsLonger (old new : Log) : Type 0 where
  pub start : new.start ≡ old.start
  pub more : List Entry
  pub entries : new.entries ≡ old.entries ++ more

-- What a node keeps to the end of a step; its list may have its own Leave more, where it departs.
pub record RestsButForOwnLeave (p n : Node) : Type 0 where
  pub same : HasSameStanding p n
  pub open same use *
  pub rules : n.core.rules ≡ p.core.rules
  pub longer : LogIsLonger p.core.log n.core.log
  pub open longer use *
  pub view : view n ≡ view p
  pub rises : NodeFrontsRise p n
  pub open rises use *
  pub asked : n.sends.last ≡ p.sends.last
  pub sends : (req : ℕ) (body : List ℕ) → HasOwnSend p req body → HasOwnSend n req body

-- and the whole list stays, and the number of the joining
pub record RestsWithWholeList (p n : Node) : Type 0 where
  pub rests : RestsButForOwnLeave p n
  pub log : n.core.log ≡ p.core.log
  pub begins : n.core.start ≡ p.core.start

-- a trim lowers no base
pub base_le_base_after : (least : Option ℕ) (base : ℕ) → base ≤ base_after_trim least base
base_le_base_after None base = omega arith
base_le_base_after (Some to) base = omega arith

pub taken_le_skipped_taken : (taken acc start : ℕ) → taken ≤ (if nat_lt taken (start - 1) then max taken (min acc (start - 1)) else taken)
taken_le_skipped_taken taken acc start = split_on_bool (nat_lt taken (start - 1)) (λ t. rw t (omega arith)) (λ f. rw f (omega arith))

rises_refresh : (m : Node) → NodeFrontsRise m (refresh m)
unfolding refresh refresh_as_sequencer raise_own_report tell_accept_front advance_with_reports trim_to_least_taken raise_accepted_to_told pass_over_below_join
rises_refresh m = split_on_bool (is_sequencer m)
    (λ t. rw t (record { base = base_le_base_after _ m.core.base; acc = omega arith; taken = taken_le_skipped_taken m.core.taken _ m.core.start }))
    (λ f. rw f (record { base = omega arith; acc = omega arith; taken = taken_le_skipped_taken m.core.taken _ m.core.start }))

abbrev KeepsSends : Node → Node → Type 0
KeepsSends m n = (req : ℕ) (body : List ℕ) → HasOwnSend m req body → HasOwnSend n req body

-- the node with another list
abbrev with_list : Node → Log → Node
with_list m log = record m { core = record (m.core) { log = log } }

-- another list that goes on, with other fronts and other sends
rests_with : (p n k : Node) (log : Log) → LogIsLonger p.core.log log → (image_of_log log).view ≡ view p → NodeFrontsRise p n → KeepsSends p k
    → RestsButForOwnLeave p (with_sends_of (with_fronts_of (with_list p log) n) k)
rests_with p n k log longer same_view r sends = record {
  same = record { who = refl; promise = refl; status = refl; leaving = refl; ballot = refl };
  rules = refl;
  longer = longer;
  view = same_view;
  rises = record { base = r.base; acc = r.acc; taken = r.taken };
  asked = refl;
  sends = λ req body h. (let x = sends req body h in record { index = x.index; send = x.send; there = x.there; request = x.request; body_ = x.body_ });
}

rests_whole : (m n k : Node) → NodeFrontsRise m n → KeepsSends m k → RestsWithWholeList m (with_sends_of (with_fronts_of m n) k)
rests_whole m n k r sends = record {
  rests = rests_with m n k m.core.log (record { start = refl; more = []; entries = sym (append-nil m.core.log.entries) }) refl r sends;
  log = refl;
  begins = refl;
}

pub refresh_rests_with_list : (m : Node) → RestsWithWholeList m (refresh m)
refresh_rests_with_list m = subst (RestsWithWholeList m) (sym (refresh_changes_only_fronts m)) (rests_whole m (refresh m) m (rises_refresh m) (λ req body h. h))

end_is : (m : Node) → refresh_at_end m ≡ with_sends_of (with_fronts_of m (refresh m)) (settle_waiting_send (refresh m))
unfolding refresh_at_end
end_is m = settle_changes_only_sends (refresh m) ∙ ap (λ (n : Node). with_sends_of n (settle_waiting_send (refresh m))) (refresh_changes_only_fronts m)

end_sends : (m : Node) → KeepsSends m (settle_waiting_send (refresh m))
end_sends m req body h = sends_settle (refresh m) req body ((refresh_rests_with_list m).rests.sends req body h)

pub end_refresh_rests_with_list : (m : Node) → RestsWithWholeList m (refresh_at_end m)
end_refresh_rests_with_list m = subst (RestsWithWholeList m) (sym (end_is m)) (rests_whole m (refresh m) (settle_waiting_send (refresh m)) (rises_refresh m) (end_sends m))

-- ---- its own Leave more

-- a Leave changes no view
pub leave_keeps_image_view : (image : Image) (number name : ℕ) → (after image number (Leave name)).view ≡ image.view
unfolding after
leave_keeps_image_view image number name = split_on_bool ((row_at_place image name).life == life_of_name name) (λ t. rw t refl) (λ f. rw f refl)

pub own_leave_rests : (p : Node) → RestsButForOwnLeave p (refresh_at_end (push_entry p (Leave p.core.who)))
unfolding image_after_entries
own_leave_rests p =
    let e = Leave p.core.who in
    let m = push_entry p e in
    let r = rises_refresh m in
    let same_view = ap (λ (i : Image). i.view) (fold_append p.core.log.image (p.core.log.start + 1) p.core.log.entries (e ∷ []))
    ∙ leave_keeps_image_view (image_of_node p) (p.core.log.start + 1 + length p.core.log.entries) p.core.who in
    let sends : KeepsSends p (settle_waiting_send (refresh m)) = λ req body h. end_sends m req body
    (record { index = h.index; send = h.send; there = h.there; request = h.request; body_ = h.body_ }) in
    subst (RestsButForOwnLeave p) (sym (end_is m)) (rests_with p (refresh m) (settle_waiting_send (refresh m)) m.core.log
    (record { start = refl; more = e ∷ []; entries = refl }) same_view (record { base = r.base; acc = r.acc; taken = r.taken }) sends)

-- ---- what follows

pub acts_after_rest : {p n : Node} → RestsButForOwnLeave p n → acts_in_its_view n ≡ acts_in_its_view p
acts_after_rest {p} {n} h = λ i. is_member (h.status i) && stamps_are_equal (h.promise i) (h.view i)

pub is_sequencer_after_rest : {p n : Node} → RestsButForOwnLeave p n → is_sequencer n ≡ is_sequencer p
is_sequencer_after_rest {p} {n} h = λ i. acts_after_rest h i && ((h.view i).by == h.who i)

pub entry_stands_after_rest : {p n : Node} (base number : ℕ) (e : Entry) → RestsButForOwnLeave p n → EntryStands p.core.log base number e → EntryStands n.core.log base number e
entry_stands_after_rest {p} {n} base number e h s = record {
  index = s.index;
  there = ap (λ l. slice_get l s.index) h.entries ∙ slice_get_of_front p.core.log.entries h.more s.index e s.there;
  at = λ b. s.at (subst (λ x. x ≤ base) h.start b) ∙ ap (λ x. x + s.index + 1) (sym h.start);
  within =
      let l = ap length h.entries ∙ length-append p.core.log.entries h.more in
      omega arith;
}
