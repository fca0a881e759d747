-- A decision, as a move of the group.
use Rattle.am_refinement.proofs.Words.{◌≡◌, either, ℕ, ◌+◌, ◌==◌, true, false, List, [], ◌∷◌, ◌++◌, length, take, Some, slice_get, refl, sym, ap, ◌∙◌, subst, arith}
use Rattle.am_refinement.proofs.Words.{list_any, nat_tests, append_assoc, GroupView, Stamp, Image, Entry, View, stamps_are_equal, Log, key_of_stamp, Group, Views, function_with_value, list_with_chosen_view}
use Rattle.am_refinement.proofs.Words.{group_with_choice, chosen_by, put_at_same_index, Node, Ballot, view, members, push_entry, need_set_of, need_set_without_given_up, restart_reports, ballot_with_end}
use Rattle.am_refinement.proofs.Words.{Decided, World, last_view_of, whole, is_view_of, up_to_view, up_to_next, line_of, split_on_bool, Cause, HasOpenBallot, BallotIsLookedAt, with_more}
use Rattle.am_refinement.proofs.Words.{without_one, as_it_is, slice_get_of_front, slice_get_of_pushed, slice_get_after_push, image_of_pushed_entry, image_after_view_has_it, NameStands, NotedStands, ViewsStand}
use Rattle.am_refinement.proofs.Words.{StandsBut, within, MayMove, NeedsDecision, world_noting, decided_view}
use Rattle.std.proofs.lemmas.List.{append-nil, same_from_push}
use Rattle.am_abstract_group.specs.Group as groups
use Rattle.am_abstract_group.specs.Moves as group
use Rattle.am_model.specs.Node as nodes
use Rattle.am_base.specs.declared.outcome.Outcome.TheVariants as said
use Rattle.am_step_laws.specs.Looks as looks
use Rattle.am_refinement.proofs.{Names.MovesOntoStandingGroup, Names.standing_group_after_one_move, Names.name_stands_with_same_group, Names.others_stand_within_changed_node, Names.fronts_stand_within_changed_node, Changes.acting_name_stands, Changes.length_of_whole_list}
use Rattle.am_refinement.proofs.{Lines.line_after_ending_view, Entries.noted_view_is_in_list, Entries.line_of_own_stamp}

-- ---- lists

-- a View that wasn't there ends the line that it opens
line_opens : (v : GroupView) (es : List Entry) → list_any (is_view_of v.stamp) es ≡ false → up_to_next v.stamp (es ++ View v ∷ []) ≡ es ++ View v ∷ []
unfolding up_to_next up_to_view
line_opens v [] h = let t : stamps_are_equal v.stamp v.stamp ≡ true = grind (arith, nat_tests) in rw t refl
line_opens v (x ∷ es) h = split_on_bool (is_view_of v.stamp x)
    (λ t. absurd (let z = rw t at h in cc))
    (λ f. rw f (ap (λ l. x ∷ l) (line_opens v es (rw f at h))))

-- ---- the ballot that is looked at

open_promise : (w : World) (name : ℕ) (c : Cause) (x : Node) (b : Ballot) (s : Group) → MayMove w name c x s → HasOpenBallot x b → b.stamp ≡ x.core.promise
open_promise w name c x b s may o = may.ballot b o.last o.open_

looked_promise : (w : World) (name : ℕ) (c : Cause) (x : Node) (b : Ballot) (s : Group) → MayMove w name c x s → BallotIsLookedAt c x b → b.stamp ≡ x.core.promise
looked_promise w name c x b s may (with_more old from v vote is heard low high o same stays) = open_promise w name c x old s may o
looked_promise w name c x b s may (without_one old other is o differs) = open_promise w name c x old s may o
looked_promise w name c x b s may (as_it_is old o on) = open_promise w name c x old s may o

-- ---- the views

module _ (w : World) (name : ℕ) (x y : Node) (a : groups.ChainNode) (views : Views) (v : GroupView)
    (promised : a.promise ≡ v.stamp) (mine : v.stamp.by ≡ name) (old : NameStands (within w name x) name x a)
    (log : y.core.log ≡ (push_entry x (View v)).core.log) (same_members : members y ≡ v.members)
    (fresh : views.decided (key_of_stamp v.stamp) ≡ false) (unseen : list_any (is_view_of v.stamp) a.list ≡ false) (h : ViewsStand (within w name x) views) where
  e : Entry
  e = View v

  next : World
  next = world_noting w (last_view_of y)

  made : Views
  made = record views {
    decided = function_with_value views.decided (key_of_stamp a.promise) true;
    chosen = function_with_value views.chosen (key_of_stamp a.promise) (chosen_by a v);
    line = function_with_value views.line (key_of_stamp a.promise) (list_with_chosen_view (chosen_by a v));
    current = a.promise;
  }

  is_whole : whole (within next name y) y ≡ a.list ++ View v ∷ []
  unfolding next
  is_whole = ap (λ (g : Log). take g.start w.group ++ g.entries) log
      ∙ sym (append_assoc (take x.core.log.start w.group) x.core.log.entries (View v ∷ [])) ∙ ap (λ l. l ++ View v ∷ []) (sym old.list)

  told_is : nodes.image_of_node y ≡ nodes.image_of_node (push_entry x (View v))
  told_is = ap (λ (g : Log). nodes.image_of_node (record y { core = record (y.core) { log = g } })) log

  is_stamp : view y ≡ v.stamp
  is_stamp = ap (λ (i : Image). i.view) (told_is ∙ image_of_pushed_entry x (View v)) ∙ (image_after_view_has_it (nodes.image_of_node x) (nodes.top x + 1) v).0

  is_number : (nodes.image_of_node y).view_number ≡ nodes.top x + 1
  is_number = ap (λ (i : Image). i.view_number) (told_is ∙ image_of_pushed_entry x (View v)) ∙ (image_after_view_has_it (nodes.image_of_node x) (nodes.top x + 1) v).1

  is_resilience : (nodes.image_of_node y).resilience ≡ v.resilience
  is_resilience = ap (λ (i : Image). i.resilience) (told_is ∙ image_of_pushed_entry x (View v)) ∙ (image_after_view_has_it (nodes.image_of_node x) (nodes.top x + 1) v).2

  long : length a.list ≡ nodes.top x
  long = length_of_whole_list (within w name x) name x a old

  -- what was noted before
  old_noted : (k : ℕ) (d : Decided) → slice_get w.views k ≡ Some d → NotedStands (within next name y) made d
  unfolding next made function_with_value
  old_noted k d at =
      let n = h.noted k d at in
      let list = whole (within w name x) x in
      let other : (key_of_stamp d.stamp == key_of_stamp a.promise) ≡ false = split_on_bool (key_of_stamp d.stamp == key_of_stamp a.promise)
      (λ t. absurd (let keys : key_of_stamp d.stamp ≡ key_of_stamp v.stamp = (let z : key_of_stamp d.stamp ≡ key_of_stamp a.promise = grind (arith, nat_tests) in z ∙ ap key_of_stamp promised) in
      let z : views.decided (key_of_stamp v.stamp) ≡ true = ap views.decided (sym keys) ∙ n.decided in cc))
      (λ f. f) in
      let stays : line_of (within next name y) d.stamp ≡ line_of (within w name x) d.stamp = split_on_bool (d.stamp.by == name)
      (λ u.
      let own : d.stamp.by ≡ name = grind (arith, nat_tests) in
      let here = line_of_own_stamp w name x d.stamp own in
      let stands = noted_view_is_in_list (within w name x) views d list n here in
      line_of_own_stamp next name y d.stamp own ∙ ap (up_to_next d.stamp) (is_whole ∙ ap (λ l. l ++ View v ∷ []) old.list)
      ∙ line_after_ending_view d.stamp list (View v) stands refl ∙ sym here)
      (λ g. rw g refl) in
      record {
        decided = rw other n.decided;
        chose = rw other n.chose;
        line = rw other (n.line ∙ sym stays);
        opens = rw other n.opens;
      }

  -- and the view that was decided
  new_noted : NotedStands (within next name y) made (last_view_of y)
  unfolding next made function_with_value
  new_noted =
      let keys : key_of_stamp (view y) ≡ key_of_stamp a.promise = ap key_of_stamp (is_stamp ∙ sym promised) in
      let t : (key_of_stamp (view y) == key_of_stamp a.promise) ≡ true = grind (arith, nat_tests) in
      let own : (view y).by ≡ name = ap (λ (z : Stamp). z.by) is_stamp ∙ mine in
      let opened_ : list_with_chosen_view (chosen_by a v) ≡ a.list ++ View v ∷ [] = λ i. a.list ++ View (record v { stamp = promised i }) ∷ [] in
      let line_ : line_of (within next name y) (view y) ≡ a.list ++ View v ∷ [] =
      line_of_own_stamp next name y (view y) own ∙ ap (up_to_next (view y)) is_whole ∙ ap (λ (z : Stamp). up_to_next z (a.list ++ View v ∷ [])) is_stamp
      ∙ line_opens v a.list unseen in
      record {
        decided = rw t refl;
        chose = record {
          stamp = rw t (promised ∙ sym is_stamp);
          members = rw t (sym same_members);
          resilience = rw t (sym is_resilience);
          number = rw t (omega (arith, long, is_number));
        };
        line = rw t (opened_ ∙ sym line_);
        opens = rw t (record { rest = []; same = append-nil (list_with_chosen_view (chosen_by a v)) });
      }

  views_decided : ViewsStand (within next name y) made
  unfolding next made function_with_value
  views_decided = record {
    noted = λ k d at. either (slice_get_after_push w.views (last_view_of y) k d at)
        (λ p. old_noted k d p)
        (λ p. subst (NotedStands (within next name y) made) p.1 new_noted);
    decided = λ i t. split_on_bool (i == key_of_stamp a.promise)
        (λ u. (let is : i ≡ key_of_stamp a.promise = grind (arith, nat_tests) in
        record { index = length w.views; view = last_view_of y; there = slice_get_of_pushed w.views (last_view_of y); is = ap key_of_stamp (is_stamp ∙ sym promised) ∙ sym is }))
        (λ f. (let n = h.decided i (rw f at t) in
        record { index = n.index; view = n.view; there = slice_get_of_front w.views (last_view_of y ∷ []) n.index n.view n.there; is = n.is }));
    current = λ d last. promised ∙ sym is_stamp ∙ ap (λ (z : Decided). z.stamp) (same_from_push w.views last.before (last_view_of y) d last.is).1;
  }

-- ---- the decision

pub decision_stands_as_move : (w : World) (name : ℕ) (c : Cause) (x : Node) (b : Ballot) (s : Group) → MayMove w name c x s → BallotIsLookedAt c x b
    → NeedsDecision s name x b → StandsBut name (within w name x) s
    → MovesOntoStandingGroup name (within (world_noting w (last_view_of (restart_reports (looks.decided_view_node x b)))) name
    (record (restart_reports (looks.decided_view_node x b)) { ballot = Some (ballot_with_end b (said.Decided (nodes.top x + 1) (need_set_without_given_up b (need_set_of x b)))) })) s
unfolding next made
decision_stands_as_move w name c x b s may why needs h =
    let names = need_set_without_given_up b (need_set_of x b) in
    let v = decided_view x b names in
    let y = record (restart_reports (looks.decided_view_node x b)) { ballot = Some (ballot_with_end b (said.Decided (nodes.top x + 1) names)) } in
    let w2 = world_noting w (last_view_of (restart_reports (looks.decided_view_node x b))) in
    let a = s.node name in
    let old = acting_name_stands w name x s may.few h in
    let same = looked_promise w name c x b s may why in
    let promised : a.promise ≡ b.stamp = old.promise ∙ sym same in
    let mine : b.stamp.by ≡ name = ap (λ (z : Stamp). z.by) same ∙ needs.own in
    let fresh : s.views.decided (key_of_stamp b.stamp) ≡ false = ap (λ (z : Stamp). s.views.decided (key_of_stamp z)) same ∙ needs.fresh in
    let unseen : list_any (is_view_of b.stamp) a.list ≡ false = ap (λ (z : Stamp). list_any (is_view_of z) a.list) same ∙ needs.unseen in
    let chosen = record a { list = list_with_chosen_view (chosen_by a v); ballot = false } in
    let list_ : list_with_chosen_view (chosen_by a v) ≡ whole (within w name y) y = (λ i. a.list ++ View (record v { stamp = promised i }) ∷ [])
    ∙ sym (is_whole w name x y a s.views v promised mine old refl needs.members_ fresh unseen h.views) in
    let name_ : NameStands (within w name x) name x a → NameStands (within w name y) name y chosen = λ k. assumption (list_) in
    standing_group_after_one_move name (within w2 name y) s (group_with_choice s name v) (group.decides name v needs.may) (needs.set, needs.voted)
    chosen (put_at_same_index s.node name chosen) refl refl (record {
      each = λ i few. name_stands_with_same_group (within w name y) (within w2 name y) i _ _ refl refl (others_stand_within_changed_node w name x y s chosen name_ h.each i few);
      fronts = fronts_stand_within_changed_node w name x y s chosen h.fronts;
      views = views_decided w name x y a s.views v promised mine old refl needs.members_ fresh unseen h.views;
      group = h.group;
    })
