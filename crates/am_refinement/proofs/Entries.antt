-- The changes of a node that make its list longer, or let it begin, as moves of the group.
use Rattle.am_refinement.proofs.Words.{numbered_entry_is_no_view, stamp_eq_gives_equality, ◌≡◌, ◌≢◌, ℕ, ◌<◌, ◌≤◌, ◌==◌, true, false, List, [], ◌∷◌, ◌++◌, length, take, Some, slice_get}
use Rattle.am_refinement.proofs.Words.{refl, sym, ap, ◌∙◌, subst, arith, nat_tests, append_assoc, Stamp, Image, Entry, View, stamps_are_equal, Log, fits, IsBeginningOf, image_of_list}
use Rattle.am_refinement.proofs.Words.{stamp_of_list, key_of_stamp, equal_keys_have_equal_names, begins_through_both, front_begins_append, Group, Views, function_with_value, list_with_chosen_view, Move, group_with_node, group_with_line, node_with_entry, put_at_same_index}
use Rattle.am_refinement.proofs.Words.{Node, view, is_member, acts_in_its_view, is_sequencer, push_entry, has_log_by_status, has_departed, is_unfinished_ballot, is_view, Decided, World}
use Rattle.am_refinement.proofs.Words.{is_stopped, whole, up_to_next, line_of, split_on_bool, both_of_and, node_of_welcomed, Cause, IsNumberedBy, NameStands, NotedStands, ViewsStand}
use Rattle.am_refinement.proofs.Words.{StandsBut, within, MoveIsSound, MovesLeadTo, MayMove, MeetsNeedsOfNumbering, IsOthers, NeedsEntry, NeedsPiece, NeedsWelcome, FrontsBegin}
use Rattle.std.proofs.lemmas.List.{append-nil}
use Rattle.am_refinement.specs.Steps.{of_line, of_shown}
use Rattle.am_abstract_group.specs.Group as groups
use Rattle.am_abstract_group.specs.Moves as group
use Rattle.am_refinement.proofs.{Names.MovesOntoStandingGroup, Names.standing_group_after_one_move, Names.move_leads_to_property, Names.views_stand_if_noted_lines_stay, Names.others_stand_within_changed_node, Names.fronts_stand_within_changed_node, Names.noted_view_with_other_line}
use Rattle.am_refinement.proofs.{Changes.acting_name_stands, Changes.running_member_is_up, Changes.image_of_whole_within_step, Lines.ListHasViewOf, Lines.unlike_last_view_is_passed, Lines.line_after_passed_view, Lines.line_after_ending_view}
use Rattle.am_refinement.proofs.{Lines.line_after_plain_entry, Lines.line_opens_with_its_view}

-- ---- one entry more

pub record HasOneMoreEntry (x y : Node) (e : Entry) : Type 0 where
  pub log : y.core.log ≡ (push_entry x e).core.log
  pub stays : y.status ≡ x.status
  pub leaving : y.leaving ≡ x.leaving
  pub promise : y.core.promise ≡ x.core.promise
  pub ballot : y.ballot ≡ x.ballot
  pub start : y.core.start ≡ x.core.start

whole_longer : (w : World) (name : ℕ) (x y : Node) (e : Entry) → HasOneMoreEntry x y e → whole (within w name y) y ≡ whole (within w name x) x ++ e ∷ []
whole_longer w name x y e l = ap (λ (g : Log). take g.start w.group ++ g.entries) l.log
    ∙ sym (append_assoc (take x.core.log.start w.group) x.core.log.entries (e ∷ []))

pub longer_list_keeps_name_standing : (w : World) (name : ℕ) (x y : Node) (e : Entry) (a : groups.ChainNode) → HasOneMoreEntry x y e → NameStands (within w name x) name x a
    → NameStands (within w name y) name y (node_with_entry a e)
longer_list_keeps_name_standing w name x y e a l h = record {
  begins = record {
    within = subst (λ (g : Log). g.start ≤ length w.group) (sym l.log) h.begins.within;
    image = subst (λ (g : Log). g.image ≡ image_of_list (take g.start w.group)) (sym l.log) h.begins.image;
  };
  list = ap (λ k. k ++ e ∷ []) h.list ∙ sym (whole_longer w name x y e l);
  flags = record {
    log_ = h.log_ ∙ ap has_log_by_status (sym l.stays);
    stopped = h.stopped;
    departed = h.departed ∙ ap has_departed (sym l.stays);
    leaving = h.leaving ∙ sym l.leaving;
  };
  promise = h.promise ∙ sym l.promise;
  ballot = h.ballot ∙ ap is_unfinished_ballot (sym l.ballot);
  start = λ t. h.start (ap has_log_by_status (sym l.stays) ∙ t) ∙ sym l.start;
}

-- ---- the lines

-- a noted view's View stands in its coordinator's list
pub noted_view_is_in_list : (w : World) (views : Views) (v : Decided) (list : List Entry) → NotedStands w views v → line_of w v.stamp ≡ up_to_next v.stamp list
    → ListHasViewOf v.stamp list
noted_view_is_in_list w views v list h is =
    let ch = views.chosen (key_of_stamp v.stamp) in
    line_opens_with_its_view ch.before (record ch.view { stamp = v.stamp }) list
    (subst (λ (s : Stamp). IsBeginningOf (ch.before ++ View (record ch.view { stamp = s }) ∷ []) (up_to_next v.stamp list)) h.stamp
    (subst (λ l. IsBeginningOf (list_with_chosen_view ch) l) (h.line ∙ is) h.opens))

pub line_of_own_stamp : (w : World) (name : ℕ) (x : Node) (v : Stamp) → v.by ≡ name → line_of (within w name x) v ≡ up_to_next v (whole (within w name x) x)
line_of_own_stamp w name x v same = let t : (v.by == name) ≡ true = grind (arith, nat_tests) in rw t refl

-- what the whole list's view is
pub view_of_whole_list : (w : World) (name : ℕ) (x : Node) (a : groups.ChainNode) → NameStands (within w name x) name x a → stamp_of_list a.list ≡ view x
unfolding stamp_of_list
view_of_whole_list w name x a h = ap (λ (i : Image). i.view) (image_of_whole_within_step w name name x a h)

-- of the name's own views only that which its list ends with may go on, and not by a View
lines_longer : (w : World) (name : ℕ) (x y : Node) (e : Entry) (a : groups.ChainNode) (views : Views) → HasOneMoreEntry x y e → NameStands (within w name x) name x a
    → IsOthers name x e → ViewsStand (within w name x) views
    → (k : ℕ) (d : Decided) → slice_get w.views k ≡ Some d → line_of (within w name y) d.stamp ≡ line_of (within w name x) d.stamp
lines_longer w name x y e a views l old others h k d at = split_on_bool (d.stamp.by == name)
    (λ t.
    let same : d.stamp.by ≡ name = grind (arith, nat_tests) in
    let v = d.stamp in
    let list = whole (within w name x) x in
    let here = line_of_own_stamp w name x v same in
    let stands = noted_view_is_in_list (within w name x) views d list (h.noted k d at) here in
    let viewed : stamp_of_list list ≡ view x = ap stamp_of_list (sym old.list) ∙ view_of_whole_list w name x a old in
    let stays : up_to_next v (list ++ e ∷ []) ≡ up_to_next v list = split_on_bool (is_view e)
    (λ u. line_after_ending_view v list e stands u)
    (λ f. line_after_passed_view v list e (unlike_last_view_is_passed v list stands
    (λ is. (let own : (view x).by ≡ name = ap (λ (s : Stamp). s.by) (sym viewed ∙ is) ∙ same in let z = others own in cc)))) in
    line_of_own_stamp w name y v same ∙ ap (up_to_next v) (whole_longer w name x y e l) ∙ stays ∙ sym here)
    (λ f. rw f refl)

-- a move that makes one list longer, and no line of its own
grows : (w : World) (name : ℕ) (x y : Node) (e : Entry) (s : Group) → name < 256 → HasOneMoreEntry x y e → IsOthers name x e
    → (move : Move s (group_with_node s name (node_with_entry (s.node name) e))) → MoveIsSound move → StandsBut name (within w name x) s → MovesOntoStandingGroup name (within w name y) s
grows w name x y e s few l others move ok h =
    let old = acting_name_stands w name x s few h in
    let b = node_with_entry (s.node name) e in
    standing_group_after_one_move name (within w name y) s (group_with_node s name b) move ok b (put_at_same_index s.node name b) refl refl (record {
      each = others_stand_within_changed_node w name x y s b (longer_list_keeps_name_standing w name x y e (s.node name) l) h.each;
      fronts = fronts_stand_within_changed_node w name x y s b h.fronts;
      views = views_stand_if_noted_lines_stay (within w name x) (within w name y) s.views refl (lines_longer w name x y e (s.node name) s.views l old others h.views) h.views;
      group = h.group;
    })

-- ---- entries of a line, or of a list that was shown

entry_stands : (w : World) (name : ℕ) (x y : Node) (e : Entry) (s : Group) → name < 256 → is_stopped w name ≡ false → is_member x.status ≡ true
    → HasOneMoreEntry x y e → NeedsEntry s name x e → StandsBut name (within w name x) s → MovesOntoStandingGroup name (within w name y) s
entry_stands w name x y e s few runs member l needs h =
    let old = acting_name_stands w name x s few h in
    grows w name x y e s few l needs.others (group.stores name e
    (running_member_is_up w name x (s.node name) runs member old) needs.decided needs.other needs.stays needs.next) tt h

pub stored_piece_stands_as_move : (w : World) (name : ℕ) (x y : Node) (e : Entry) (s : Group) → name < 256 → is_stopped w name ≡ false → is_member x.status ≡ true
    → HasOneMoreEntry x y e → NeedsPiece s name x e → StandsBut name (within w name x) s → MovesOntoStandingGroup name (within w name y) s
stored_piece_stands_as_move w name x y e s few runs member l (of_line needs) h = entry_stands w name x y e s few runs member l needs h
stored_piece_stands_as_move w name x y e s few runs member l (of_shown open_ needs) h =
    let old = acting_name_stands w name x s few h in
    grows w name x y e s few l needs.others (group.fetches name needs.from needs.list e (running_member_is_up w name x (s.node name) runs member old)
    (old.ballot ∙ open_) needs.served needs.shown needs.next) tt h

-- ---- a sequencer's own entry

-- equal keys are of equal stamps
pub stamps_of_equal_keys : (a b : Stamp) → a.by < 256 → b.by < 256 → key_of_stamp a ≡ key_of_stamp b → a ≡ b
unfolding key_of_stamp
stamps_of_equal_keys a b h k same =
    let by = equal_keys_have_equal_names a b h k same in
    let round : a.round ≡ b.round = omega arith in
    λ i. record { round = round i; by = by i }

-- the lines once a sequencer's list, and its view's line with it, is longer
views_numbered : (w : World) (name : ℕ) (x y : Node) (e : Entry) (a : groups.ChainNode) (views : Views) → HasOneMoreEntry x y e → NameStands (within w name x) name x a
    → is_view e ≡ false
    → (stamp_of_list a.list).by ≡ name → name < 256 → ((k : ℕ) (v : Decided) → slice_get w.views k ≡ Some v → v.stamp.by < 256)
    → views.line (key_of_stamp (stamp_of_list a.list)) ≡ a.list
    → ViewsStand (within w name x) views → ViewsStand (within w name y) (record views { line = function_with_value views.line (key_of_stamp (stamp_of_list a.list)) (a.list ++ e ∷ []) })
unfolding function_with_value
views_numbered w name x y e a views l old plain by few small chain h = record {
  noted = λ k d at. (let n = h.noted k d at in
      let v = d.stamp in
      let list = whole (within w name x) x in
      let is_list : a.list ≡ list = old.list in
      let next : whole (within w name y) y ≡ a.list ++ e ∷ [] = whole_longer w name x y e l ∙ ap (λ g. g ++ e ∷ []) (sym is_list) in
      split_on_bool (key_of_stamp v == key_of_stamp (stamp_of_list a.list))
      (λ t.
      let keys : key_of_stamp v ≡ key_of_stamp (stamp_of_list a.list) = grind (arith, nat_tests) in
      let same : v ≡ stamp_of_list a.list = stamps_of_equal_keys v (stamp_of_list a.list) (small k d at) (omega arith) keys in
      let mine : v.by ≡ name = ap (λ (s : Stamp). s.by) same ∙ by in
      let was : views.line (key_of_stamp v) ≡ a.list = ap views.line keys ∙ chain in
      let whole_line : up_to_next v a.list ≡ a.list = ap (up_to_next v) is_list ∙ sym (line_of_own_stamp w name x v mine) ∙ sym n.line ∙ was in
      let now : line_of (within w name y) v ≡ a.list ++ e ∷ [] = line_of_own_stamp w name y v mine ∙ ap (up_to_next v) next ∙ line_after_plain_entry v a.list e plain whole_line in
      noted_view_with_other_line (within w name x) (within w name y) views d (function_with_value views.line (key_of_stamp (stamp_of_list a.list)) (a.list ++ e ∷ []))
      (rw t (sym now))
      (rw t (begins_through_both (subst (IsBeginningOf (list_with_chosen_view (views.chosen (key_of_stamp v)))) was n.opens) (front_begins_append a.list (e ∷ [])))) n)
      (λ f.
      let stays : line_of (within w name y) v ≡ line_of (within w name x) v = split_on_bool (v.by == name)
      (λ u.
      let mine : v.by ≡ name = grind (arith, nat_tests) in
      let here = line_of_own_stamp w name x v mine in
      let stands = noted_view_is_in_list (within w name x) views d list n here in
      let other : stamp_of_list list ≢ v = λ is. (let k2 : key_of_stamp v ≡ key_of_stamp (stamp_of_list a.list) = ap key_of_stamp (sym is ∙ ap stamp_of_list (sym is_list)) in
      let z : ⊥ = grind (arith, nat_tests) in z) in
      line_of_own_stamp w name y v mine ∙ ap (up_to_next v) (whole_longer w name x y e l) ∙ line_after_passed_view v list e (unlike_last_view_is_passed v list stands other) ∙ sym here)
      (λ g. rw g refl) in
      noted_view_with_other_line (within w name x) (within w name y) views d (function_with_value views.line (key_of_stamp (stamp_of_list a.list)) (a.list ++ e ∷ []))
      (rw f (n.line ∙ sym stays))
      (rw f n.opens) n));
  decided = λ i t. (let n = h.decided i t in record { index = n.index; view = n.view; there = n.there; is = n.is });
  current = λ d last. h.current d (record { before = last.before; is = last.is });
}

-- what a sequencer's node shows of what stands for it
pub record StandsForSequencer (name : ℕ) (x : Node) (a : groups.ChainNode) : Type 0 where
  pub member : is_member x.status ≡ true
  pub by : (stamp_of_list a.list).by ≡ name
  pub acts_ : a.promise ≡ stamp_of_list a.list

pub sequencer_node_stands_for_sequencer : (w : World) (name : ℕ) (x : Node) (a : groups.ChainNode) → x.core.who ≡ name → is_sequencer x ≡ true → NameStands (within w name x) name x a
    → StandsForSequencer name x a
sequencer_node_stands_for_sequencer w name x a who leads old =
    let both = both_of_and (acts_in_its_view x) ((view x).by == x.core.who) leads in
    let acting = both_of_and (is_member x.status) (stamps_are_equal x.core.promise (view x)) both.0 in
    let viewed = view_of_whole_list w name x a old in
    let own : (view x).by ≡ x.core.who = let t = both.1 in grind (arith, nat_tests) in
    record {
      member = acting.0;
      by = ap (λ (v : Stamp). v.by) viewed ∙ own ∙ who;
      acts_ = old.promise ∙ stamp_eq_gives_equality x.core.promise (view x) acting.1 ∙ sym viewed;
    }

-- the group with a sequencer's entry stands for the world with it
pub numbered_entry_keeps_group_standing : (w : World) (name : ℕ) (x : Node) (e : Entry) (s : Group) → name < 256 → StandsForSequencer name x (s.node name)
    → ((k : ℕ) (v : Decided) → slice_get w.views k ≡ Some v → v.stamp.by < 256) → is_view e ≡ false
    → s.views.line (key_of_stamp (stamp_of_list (s.node name).list)) ≡ (s.node name).list
    → StandsBut name (within w name x) s → StandsBut name (within w name (push_entry x e)) (group_with_line s name (node_with_entry (s.node name) e))
numbered_entry_keeps_group_standing w name x e s few leading small plain chain h =
    let y = push_entry x e in
    let a = s.node name in
    let old = acting_name_stands w name x s few h in
    let l : HasOneMoreEntry x y e = record { log = refl; stays = refl; leaving = refl; promise = refl; ballot = refl; start = refl } in
    let b = node_with_entry a e in
    record {
      each = others_stand_within_changed_node w name x y s b (longer_list_keeps_name_standing w name x y e a l) h.each;
      fronts = fronts_stand_within_changed_node w name x y s b h.fronts;
      views = views_numbered w name x y e a s.views l old plain leading.by few small chain h.views;
      group = h.group;
    }

pub numbered_entry_stands_as_move : (w : World) (name : ℕ) (c : Cause) (x : Node) (e : Entry) (s : Group) → MayMove w name c x s → is_sequencer x ≡ true → IsNumberedBy c x e
    → MeetsNeedsOfNumbering s name x e → StandsBut name (within w name x) s → MovesOntoStandingGroup name (within w name (push_entry x e)) s
numbered_entry_stands_as_move w name c x e s may leads why needs h =
    let y = push_entry x e in
    let a = s.node name in
    let old = acting_name_stands w name x s may.few h in
    let leading = sequencer_node_stands_for_sequencer w name x a may.who leads old in
    let fit : fits (image_of_list a.list) e ≡ true = ap (λ (i : Image). fits i e) (image_of_whole_within_step w name name x a old) ∙ needs.fit in
    standing_group_after_one_move name (within w name y) s (group_with_line s name (node_with_entry a e))
    (group.numbers name e (record { up = running_member_is_up w name x a may.runs leading.member old; acts = leading.acts_; by = leading.by }) fit needs.may) needs.named
    (node_with_entry a e) (put_at_same_index s.node name (node_with_entry a e)) refl refl (numbered_entry_keeps_group_standing w name x e s may.few leading may.noted (numbered_entry_is_no_view c x e why) needs.chain h)

-- ---- a joiner's list begins

none_opens : (before : List Entry) (e : Entry) → IsBeginningOf (before ++ e ∷ []) [] → ⊥
none_opens [] e h = let z = h.same in absurd (cc)
none_opens (x ∷ before) e h = let z = h.same in absurd (cc)

pub welcome_stands_as_move : (w : World) (name : ℕ) (c : Cause) (x : Node) (v : Stamp) (base join : ℕ) (image : Image) (s : Group) → MayMove w name c x s
    → NeedsWelcome s name v base join image → StandsBut name (within w name x) s
    → MovesLeadTo (λ t. StandsBut name (within w name (node_of_welcomed x v base join image)) t × FrontsBegin name base t) s
unfolding up_to_next
welcome_stands_as_move w name c x v base join image s may needs h =
    let y = node_of_welcomed x v base join image in
    let old = acting_name_stands w name x s may.few h in
    let a = s.node name in
    let b = record a { list = take base s.group; has_log = true; start = join; promise = v; told = base; acc = base } in
    let bare : whole (within w name x) x ≡ [] = sym old.list ∙ needs.blank in
    let all_of : take base s.group ≡ take base w.group = ap (take base) h.group in
    let lines : (k : ℕ) (d : Decided) → slice_get w.views k ≡ Some d
    → line_of (within w name y) d.stamp ≡ line_of (within w name x) d.stamp = λ k d at. split_on_bool (d.stamp.by == name)
    (λ t.
    let mine : d.stamp.by ≡ name = grind (arith, nat_tests) in
    let n = h.views.noted k d at in
    let none : line_of (within w name x) d.stamp ≡ [] = line_of_own_stamp w name x d.stamp mine ∙ ap (up_to_next d.stamp) bare in
    let ch = s.views.chosen (key_of_stamp d.stamp) in
    absurd (none_opens ch.before (View ch.view) (subst (IsBeginningOf (list_with_chosen_view ch)) (n.line ∙ none) n.opens)))
    (λ f. rw f refl) in
    move_leads_to_property (λ t. StandsBut name (within w name y) t × FrontsBegin name base t) s (group_with_node s name b) (group.welcomes name v base join needs.may) tt (
      record {
        each = others_stand_within_changed_node w name x y s b (λ k. assumption (
          subst (λ (g : List Entry). base ≤ length g) h.group needs.within,
          needs.image_ ∙ ap image_of_list all_of,
          all_of ∙ sym (append-nil (take base w.group)),
          needs.may.there.stays,
        )) h.each;
        fronts = fronts_stand_within_changed_node w name x y s b h.fronts;
        views = views_stand_if_noted_lines_stay (within w name x) (within w name y) s.views refl lines h.views;
        group = h.group;
      },
      record { told = ap (λ (m : groups.ChainNode). m.told) (put_at_same_index s.node name b); acc = ap (λ (m : groups.ChainNode). m.acc) (put_at_same_index s.node name b) },
    )
