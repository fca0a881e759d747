-- Who left: whose Leave stands on the chain asked to leave, and who departed has its Leave accepted, unless nobody is left.
use Rattle.am_base.specs.declared.entry.GroupView.{GroupView}
use Rattle.am_abstract_group.specs.Runs.{first_choice}
use Rattle.am_repair.proofs.Repairable.RepairedWords.{same_from_push, ◌≡◌, ◌⊎◌, either, inl, inr, ℕ, ◌+◌, ◌<◌, List, [], ◌∷◌, ◌++◌, length, true, refl, sym}
use Rattle.am_repair.proofs.Repairable.RepairedWords.{subst, arith, Entry, Leave, View, Image, place_of_name, life_of_name, IsBeginningOf, IsGoodList, is_member_at_end, stamp_of_list, key_of_stamp, IsMemberRow, row_of_place, ap, ◌∙◌}
use Rattle.am_repair.proofs.Repairable.RepairedWords.{list_begins_itself, front_begins_append, begins_through_both, shorter_beginning_begins_longer, begins_not_longer_is_same, beginning_is_no_longer, begins_push_or_is_push, length_of_pushed_list}
use Rattle.am_repair.proofs.Repairable.RepairedWords.{beginning_of_good_is_good, image_after_pushed_entry, image_has_sixteen_rows, member_has_member_row, member_row_gives_member, member_of_both_is_between, leaver_was_member, leaver_is_no_member, Group, function_with_value, list_with_chosen_view, Leads}
use Rattle.am_repair.proofs.Repairable.RepairedWords.{chain_of, MayNumber, chosen_by, node_with_entry, accepts, learns, begins, raises, gives_over, welcomes, asks, stops, GroupKeeps}
use Rattle.am_repair.proofs.Repairable.RepairedWords.{Move, Run, founded, more, put_at_same_index, put_keeps_property, group_run_is_kept_lawful, moves_grow_the_group, BecameMemberBy, stayed, joins, founds, new_member_came_by_entry}
use Rattle.am_base.specs.Whole.{image_of_list}
use Rattle.am_refinement.proofs.Growing.{move_grows_each_name}
use Rattle.am_abstract_group.specs.Moves.{numbers, stores, fetches, decides, departs, closes}
use Rattle.am_abstract_group.specs.Group as groups
use Rattle.am_refinement.proofs.Words.{cases_lt}

-- ---- what is kept

abbrev LeavesAsked : Group → Type 0
LeavesAsked s = (a : List Entry) (j : ℕ) → IsBeginningOf (a ++ Leave j ∷ []) (chain_of s.views) → (s.node j).leaving ≡ true

pub data GoneBy (s : Group) (d : ℕ) : Type 0 where
  accepted : (before : List Entry) → IsBeginningOf (before ++ Leave d ∷ []) s.group → GoneBy s d
  last : (before : List Entry) → chain_of s.views ≡ before ++ Leave d ∷ [] → ((j : ℕ) → is_member_at_end (chain_of s.views) j ≡ true → ⊥) → GoneBy s d

abbrev AllGone : Group → Type 0
AllGone s = (d : ℕ) → (s.node d).departed ≡ true → GoneBy s d

-- ---- lists

same_leave : (a b : ℕ) → Leave a ≡ Leave b → a ≡ b
same_leave a b h = cc

-- a Leave adds nobody
none_more : (list : List Entry) (name j : ℕ) → is_member_at_end (list ++ Leave name ∷ []) j ≡ true → is_member_at_end list j ≡ true
none_more list name j h = by_kind (new_member_came_by_entry (image_of_list list) (1 + length list) (Leave name) j (image_has_sixteen_rows list) (omega arith)
    (subst (λ (i : Image). IsMemberRow (row_of_place i (place_of_name j)) (life_of_name j)) (image_after_pushed_entry list (Leave name)) (member_has_member_row (list ++ Leave name ∷ []) j h)))
  where
    by_kind : BecameMemberBy (image_of_list list) (1 + length list) (Leave name) j → is_member_at_end list j ≡ true
    by_kind (stayed old same) = member_row_gives_member list j old
    by_kind (joins is same) = absurd (cc)
    by_kind (founds is blank_ same) = absurd (cc)

-- a name leaves a list once
pub leave_stands_once_in_list : (list a b : List Entry) (d : ℕ) → IsGoodList list → IsBeginningOf (a ++ Leave d ∷ []) list → IsBeginningOf (b ++ Leave d ∷ []) list → length a < length b → ⊥
leave_stands_once_in_list list a b d good h k less =
    let good_a = beginning_of_good_is_good h good in
    let good_b = beginning_of_good_is_good k good in
    let long = length_of_pushed_list a (Leave d) in
    let front : IsBeginningOf (a ++ Leave d ∷ []) b = shorter_beginning_begins_longer h (begins_through_both (front_begins_append b (Leave d ∷ [])) k) (omega arith) in
    leaver_is_no_member a d good_a (member_of_both_is_between d (beginning_of_good_is_good (front_begins_append b (Leave d ∷ [])) good_b) (front_begins_append a (Leave d ∷ [])) front (leaver_was_member a d good_a)
    (leaver_was_member b d good_b))

-- ---- Leaves

-- the chain stays
asked_same : (s t : Group) → chain_of t.views ≡ chain_of s.views → ((j : ℕ) → (s.node j).leaving ≡ true → (t.node j).leaving ≡ true) → LeavesAsked s
    → LeavesAsked t
asked_same s t chain leaving h a j begins_ = leaving j (h a j (subst (IsBeginningOf (a ++ Leave j ∷ [])) chain begins_))

-- it gets an entry
asked_more : (s t : Group) (e : Entry) → chain_of t.views ≡ chain_of s.views ++ e ∷ [] → ((j : ℕ) → (s.node j).leaving ≡ true → (t.node j).leaving ≡ true)
    → ((j : ℕ) → e ≡ Leave j → (s.node j).leaving ≡ true) → LeavesAsked s → LeavesAsked t
asked_more s t e chain leaving new h a j begins_ = leaving j (either (begins_push_or_is_push e (subst (IsBeginningOf (a ++ Leave j ∷ [])) chain begins_))
    (λ old. h a j old)
    (λ now. new j (sym (same_from_push a (chain_of s.views) (Leave j) e now).1)))

-- the chain of a sequencer's group, with an entry more
chain_more : (s : Group) (i : ℕ) (list : List Entry) → GroupKeeps s → Leads i (s.node i)
    → function_with_value s.views.line (key_of_stamp (stamp_of_list (s.node i).list)) list (key_of_stamp s.views.current) ≡ list
chain_more s i list k leads =
    let ok = (k.each i).leads leads in
    let viewed : stamp_of_list (s.node i).list ≡ s.views.current = ap stamp_of_list ok.chain ∙ k.views.view in
    ap (λ u. function_with_value s.views.line (key_of_stamp u) list (key_of_stamp s.views.current)) viewed ∙ put_at_same_index s.views.line (key_of_stamp s.views.current) list

numbers_asked : (s : Group) (i : ℕ) (e : Entry) → MayNumber s.node i e → (j : ℕ) → e ≡ Leave j → (s.node j).leaving ≡ true
numbers_asked s i (Leave name) may j is = let same : name ≡ j = same_leave name j is in ap (λ k. (s.node k).leaving) (sym same) ∙ may.0
numbers_asked s i (View v) may j is = absurd may
numbers_asked s i _ may j is = absurd (cc)

asked_move : (s t : Group) → Move s t → GroupKeeps s → ((j : ℕ) → (s.node j).leaving ≡ true → (t.node j).leaving ≡ true) → LeavesAsked s → LeavesAsked t
asked_move s t (numbers i e leads fit may) k leaving h =
    let ok = (k.each i).leads leads in
    asked_more s t e (chain_more s i ((s.node i).list ++ e ∷ []) k leads ∙ ap (λ l. l ++ e ∷ []) ok.chain) leaving (numbers_asked s i e may) h
asked_move s t (closes i n leads leaves alone may) k leaving h =
    let ok = (k.each i).leads leads in
    asked_more s t (Leave i) (chain_more s i ((s.node i).list ++ Leave i ∷ []) k leads ∙ ap (λ l. l ++ Leave i ∷ []) ok.chain) leaving
    (λ j is. let same : i ≡ j = same_leave i j is in ap (λ x. (s.node x).leaving) (sym same) ∙ leaves) h
asked_move s t (decides i v may) k leaving h = λ a j begins_.
    (let m = s.node i in
    let is : chain_of t.views ≡ list_with_chosen_view (chosen_by m v) = put_at_same_index s.views.line (key_of_stamp m.promise) (list_with_chosen_view (chosen_by m v)) in
    leaving j (either (begins_push_or_is_push (View (chosen_by m v).view) (subst (IsBeginningOf (a ++ Leave j ∷ [])) is begins_))
    (λ old. h a j (begins_through_both old ((k.each i).list may.up)))
    (λ now. absurd (let e = (same_from_push a m.list (Leave j) (View (chosen_by m v).view) now).1 in cc))))
asked_move s t _ k leaving h = asked_same s t refl leaving h

-- ---- who departed

-- as it was, or this name departed now
put_gone : (s : Group) (i : ℕ) (m : groups.ChainNode) (d : ℕ) → (function_with_value s.node i m d).departed ≡ true → ((s.node d).departed ≡ true) ⊎ ((d ≡ i) × (m.departed ≡ true))
put_gone s i m d = put_keeps_property (λ k n. n.departed ≡ true → ((s.node k).departed ≡ true) ⊎ ((k ≡ i) × (m.departed ≡ true))) s.node i m (λ z. inr (refl, z))
    (λ k other z. inl z) d

not_now : (s : Group) (i : ℕ) (m : groups.ChainNode) (d : ℕ) → m.departed ≡ (s.node i).departed → (function_with_value s.node i m d).departed ≡ true → (s.node d).departed ≡ true
not_now s i m d same t = either (put_gone s i m d t)
    (λ a. a)
    (λ a. ap (λ k. (s.node k).departed) a.0 ∙ sym same ∙ a.1)

-- the chain stays, and more is accepted
gone_same : (s t : Group) → chain_of t.views ≡ chain_of s.views → IsBeginningOf s.group t.group → (d : ℕ) → GoneBy s d → GoneBy t d
gone_same s t chain group d (accepted before h) = accepted before (begins_through_both h group)
gone_same s t chain group d (last before is none) = last before (chain ∙ is) (λ j member. none j (subst (λ l. is_member_at_end l j ≡ true) chain member))

-- while somebody leads, nobody was the last
gone_led : (s t : Group) (i : ℕ) → GroupKeeps s → Leads i (s.node i) → IsBeginningOf s.group t.group → (d : ℕ) → GoneBy s d → GoneBy t d
gone_led s t i k leads group d (accepted before h) = accepted before (begins_through_both h group)
gone_led s t i k leads group d (last before is none) = absurd (none i ((k.each i).leads leads).member)

-- of the group after a move: its chain is a good one, and who departed has its Leave there
record Ends (t : Group) : Type 0 where
  good : IsGoodList (chain_of t.views)
  there : (d : ℕ) → (t.node d).departed ≡ true → (before : List Entry) × IsBeginningOf (before ++ Leave d ∷ []) (chain_of t.views)

-- nor decides a ballot, as that would want the last Leave
gone_decided : (s t : Group) (i : ℕ) (v : GroupView) → GroupKeeps s → Ends t → groups.IsUp (s.node i) → is_member_at_end (s.node i).list i ≡ true
    → chain_of t.views ≡ list_with_chosen_view (chosen_by (s.node i) v) → IsBeginningOf s.group t.group → (d : ℕ) → (t.node d).departed ≡ true → GoneBy s d
    → GoneBy t d
gone_decided s t i v k kt up member is group d gone (accepted before h) = accepted before (begins_through_both h group)
gone_decided s t i v k kt up member is group d gone (last before chain none) = absurd (
    let m = s.node i in
    let there = kt.there d gone in
    let part : IsBeginningOf (there.0 ++ Leave d ∷ []) m.list =
    either (begins_push_or_is_push (View (chosen_by m v).view) (subst (IsBeginningOf (there.0 ++ Leave d ∷ [])) is there.1))
    (λ old. old)
    (λ now. absurd (let e = (same_from_push there.0 m.list (Leave d) (View (chosen_by m v).view) now).1 in cc)) in
    let on = (k.each i).list up in
    let long_a = length_of_pushed_list there.0 (Leave d) in
    let long_b = length_of_pushed_list before (Leave d) in
    let whole = ap length chain in
    let short = beginning_is_no_longer on in
    let low = beginning_is_no_longer part in
    either (cases_lt (length there.0) (length before))
    (λ less. leave_stands_once_in_list (chain_of s.views) there.0 before d k.views.good (begins_through_both part on)
    (subst (IsBeginningOf (before ++ Leave d ∷ [])) (sym chain) (list_begins_itself (before ++ Leave d ∷ []))) less)
    (λ all. (let same : m.list ≡ chain_of s.views = begins_not_longer_is_same on (omega arith) in
    none i (subst (λ l. is_member_at_end l i ≡ true) same member))))

gone_move : (s t : Group) → Move s t → GroupKeeps s → Ends t → AllGone s → AllGone t
gone_move s t (numbers i e leads fit may) k kt h = λ d gone. gone_led s t i k leads (list_begins_itself s.group) d
    (h d (not_now s i (node_with_entry (s.node i) e) d refl gone))
gone_move s t (accepts i n leads may) k kt h = λ d gone. gone_led s t i k leads (moves_grow_the_group s t (accepts i n leads may) k tt).group d (h d gone)
gone_move s t (closes i n leads leaving alone may) k kt h = λ d gone.
    (let m = record (node_with_entry (s.node i) (Leave i)) { departed = true } in
    let ok = (k.each i).leads leads in
    let is : chain_of t.views ≡ (s.node i).list ++ Leave i ∷ [] = chain_more s i ((s.node i).list ++ Leave i ∷ []) k leads in
    either (put_gone s i m d gone)
    (λ old. gone_led s t i k leads (moves_grow_the_group s t (closes i n leads leaving alone may) k tt).group d (h d old))
    (λ now. subst (GoneBy t) (sym now.0) (last (s.node i).list is (λ j member.
    (let before = none_more (s.node i).list i j (subst (λ l. is_member_at_end l j ≡ true) is member) in
    let same = alone j before in
    leaver_is_no_member (s.node i).list i (subst IsGoodList is kt.good) (subst (λ x. is_member_at_end ((s.node i).list ++ Leave i ∷ []) x ≡ true) same (subst (λ l. is_member_at_end l j ≡ true) is
    member)))))))
gone_move s t (decides i v may) k kt h = λ d gone.
    gone_decided s t i v k kt may.up may.needed (put_at_same_index s.views.line (key_of_stamp (s.node i).promise) (list_with_chosen_view (chosen_by (s.node i) v)))
    (list_begins_itself s.group) d gone (h d (not_now s i _ d refl gone))
gone_move s t (departs i before may) k kt h = λ d gone. either (put_gone s i (record (s.node i) { departed = true }) d gone)
    (λ old. gone_same s t refl (list_begins_itself s.group) d (h d old))
    (λ now. subst (GoneBy t) (sym now.0) (accepted before may.accepted))
gone_move s t (stores i e up decided other stays next) k kt h = λ d gone. gone_same s t refl (list_begins_itself s.group) d
    (h d (not_now s i (node_with_entry (s.node i) e) d refl gone))
gone_move s t (learns i told_ acc up rises within before up_to given low) k kt h = λ d gone. gone_same s t refl (list_begins_itself s.group) d
    (h d (not_now s i _ d refl gone))
gone_move s t (begins i few up stays member) k kt h = λ d gone. gone_same s t refl (list_begins_itself s.group) d (h d (not_now s i _ d refl gone))
gone_move s t (raises i stamp there above) k kt h = λ d gone. gone_same s t refl (list_begins_itself s.group) d (h d (not_now s i _ d refl gone))
gone_move s t (fetches i f list e up ballot served shown next) k kt h = λ d gone. gone_same s t refl (list_begins_itself s.group) d
    (h d (not_now s i (node_with_entry (s.node i) e) d refl gone))
gone_move s t (gives_over i) k kt h = λ d gone. gone_same s t refl (list_begins_itself s.group) d (h d (not_now s i _ d refl gone))
gone_move s t (welcomes j stamp base join may) k kt h = λ d gone. gone_same s t refl (list_begins_itself s.group) d (h d (not_now s j _ d refl gone))
gone_move s t (asks i up unballoted) k kt h = λ d gone. gone_same s t refl (list_begins_itself s.group) d (h d (not_now s i _ d refl gone))
gone_move s t (stops i) k kt h = λ d gone. gone_same s t refl (list_begins_itself s.group) d (h d (not_now s i _ d refl gone))
gone_move s t _ k kt h = λ d gone. gone_same s t refl (list_begins_itself s.group) d (h d gone)

-- ---- each run

pub record AllLeaversAskedAndGone (s : Group) : Type 0 where
  pub asked : LeavesAsked s
  pub gone : AllGone s

nil_none : (a : List Entry) (e x : Entry) → IsBeginningOf (a ++ x ∷ []) (e ∷ []) → x ≡ e
nil_none a e x h = either (begins_push_or_is_push {b = []} e h)
    (λ z. absurd (let l = beginning_is_no_longer z in let k = length_of_pushed_list a x in omega arith))
    (λ z. (same_from_push a [] x e z).1)

pub leavers_of_runs_asked : (founders : List ℕ) (first resilience : ℕ) (s : Group) → Run founders first resilience s → AllLeaversAskedAndGone s
leavers_of_runs_asked founders first resilience s (founded may) = record {
  asked = λ a j begins_. absurd (let e = nil_none a (View (first_choice founders first resilience).view) (Leave j) begins_ in cc);
  gone = λ d gone. absurd (cc);
}
leavers_of_runs_asked founders first resilience t (more {s = s} run step law) =
    let old = group_run_is_kept_lawful founders first resilience s run in
    let new = (group_run_is_kept_lawful founders first resilience t (more run step law)).kept in
    let h = leavers_of_runs_asked founders first resilience s run in
    let u : Group = record (step.moved) { views = record (step.moved.views) { complete = step.complete } } in
    let kept : GroupKeeps u = subst GroupKeeps step.is new in
    let ends : Ends step.moved = record { good = kept.views.good; there = λ d gone. (let k = kept.departed d gone in (k.before, k.chain)) } in
    let gone = gone_move s step.moved step.move old.kept ends h.gone in
    let leaving = λ (j : ℕ). (move_grows_each_name s step.moved step.move old.kept j).leaving in
    subst AllLeaversAskedAndGone (sym step.is) (record {
      asked = asked_same step.moved u refl (λ j z. z) (asked_move s step.moved step.move old.kept leaving h.asked);
      gone = λ d g. gone_same step.moved u refl (list_begins_itself step.moved.group) d (gone d g);
    })
