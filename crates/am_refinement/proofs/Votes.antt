-- A ballot that its coordinator decides may be decided by the group's own test.
use Rattle.am_refinement.proofs.Words.{eq-eqb, eqb-true, ◌≡◌, ◌⊎◌, inl, inr, either, ℕ, zero, suc, ◌+◌, ◌<◌, ◌≤◌, ◌==◌, ◌&&◌, ◌||◌, not, nat_lt, is_some, set, List}
use Rattle.am_refinement.proofs.Words.{[], ◌∷◌, ◌++◌, length, Bool, true, false, Option, Some, None, slice_index, refl, sym, ap, ◌∙◌, subst, arith, list_all}
use Rattle.am_refinement.proofs.Words.{list_any, range_with_len, nat_tests, Entry, Vote, Image, Stamp, IsSetOfNames, place_of_name, life_of_name, name_of_place_and_life, list_by_place, has, size}
use Rattle.am_refinement.proofs.Words.{names_are_within, slice_index-by_place, stamp_is_less, stamps_are_equal, vote_is_less, member_life_of_row, members_of_image, IsBeginningOf, image_of_list, is_member_at_end, stamp_of_list}
use Rattle.am_refinement.proofs.Words.{resilience_of_list, key_of_stamp, key_is_less_for_lesser_stamp, view_key_grows_along_list, begins_through_both, image_after_pushed_entry, Group, IsThere, IsUp, CoordinatorMayDecide, ShowedNoBetterList, GroupKeeps, Node, Ballot}
use Rattle.am_refinement.proofs.Words.{view, members, life_where_name_passes, names_that_pass, View, append_assoc, length-map, mod_sixteen_lt, is_view_of, trim_to_least_taken_by, own_vote, best_vote_for_ballot, need_set_of}
use Rattle.am_refinement.proofs.Words.{has_voted, is_waited_for, need_set_without_given_up, World, best_vote_is_greatest, split_on_bool, set_with_name_has_size, passing_name_is_in_those, selection_of_set_is_set, unordered_stamps_are_equal, own_best_list_needs_members}
use Rattle.am_refinement.proofs.Words.{selected_name_keeps_its_life, members_after_view, selected_place_same_or_empty, length_of_selection, NameStands, within, image_of_pushed_entry, VoteTells, AllShown, AllVoted}
use Rattle.am_refinement.proofs.Words.{NeedsDecision, decided_view, stamp_eq_of_itself, not-true}
use Rattle.am_model.specs.Node as nodes
use Rattle.am_step_laws.specs.Looks as looks
use Rattle.am_refinement.proofs.{Lines.ListHasViewOf, Lines.image_after_view_has_stamp, Changes.image_of_whole_within_step, Changes.length_of_whole_list}
use Rattle.std.proofs.lemmas.Bool.{or_right}

-- ---- what is known of a ballot

pub record BallotIsKnownToGroup (w : World) (name : ℕ) (x : Node) (b : Ballot) (s : Group) : Type 0 where
  pub few : name < 256
  pub who : x.core.who ≡ name
  pub stands : NameStands (within w name x) name x (s.node name)
  pub up : IsUp (s.node name)
  pub ballot : (s.node name).ballot ≡ true
  pub stamp : b.stamp ≡ x.core.promise
  -- its votes tell what was shown; it has none of its own, and only stopped names are given up
  pub votes : (j : ℕ) (vote : Vote) → b.votes j ≡ Some vote → VoteTells s j b.stamp vote
  pub own : b.votes x.core.who ≡ None
  pub given : (j : ℕ) → b.given_up j ≡ true → (s.node j).stopped ≡ true
  -- views are of names, and only names vote
  pub view_ : (view x).by < 256
  pub views : (j : ℕ) (vote : Vote) → b.votes j ≡ Some vote → vote.view.by < 256
  pub names : (j : ℕ) (vote : Vote) → b.votes j ≡ Some vote → j < 256

-- ---- the best vote

vote_low : (own : Vote) (vote : Vote) → own.view.by < 256 → vote.view.by < 256 → vote_is_less own vote ≡ false
    → (key_of_stamp vote.view < key_of_stamp own.view) ⊎ ((key_of_stamp vote.view ≡ key_of_stamp own.view) × (vote.top ≤ own.top))
vote_low own vote small few low =
    let a : stamp_is_less own.view vote.view ≡ false = split_on_bool (stamp_is_less own.view vote.view) (λ t. absurd (let z = rw t at low in cc)) (λ f. f) in
    let rest : (stamps_are_equal own.view vote.view && nat_lt own.top vote.top) ≡ false = rw a at low in
    split_on_bool (stamp_is_less vote.view own.view)
    (λ t. inl (key_is_less_for_lesser_stamp vote.view own.view few small t))
    (λ f.
    let same : vote.view ≡ own.view = unordered_stamps_are_equal vote.view own.view few small f a in
    let t : stamps_are_equal own.view vote.view ≡ true = subst (λ u. stamps_are_equal own.view u ≡ true) (sym same) (stamp_eq_of_itself own.view) in
    inr (ap key_of_stamp same, grind (arith, nat_tests)))

best_low : (x : Node) (b : Ballot) → ((best_vote_for_ballot x b).by == x.core.who) ≡ true → b.votes x.core.who ≡ None → (view x).by < 256
    → ((j : ℕ) (vote : Vote) → b.votes j ≡ Some vote → vote.view.by < 256)
    → (j : ℕ) (vote : Vote) → j < 256 → b.votes j ≡ Some vote → vote_is_less (own_vote x) vote ≡ false
unfolding best_vote_for_ballot
best_low x b own none small views j vote few is =
    let best = best_vote_is_greatest b.votes x.core.who (own_vote x) small views in
    let by : (best_vote_for_ballot x b).by ≡ x.core.who = grind (arith, nat_tests) in
    let shown : (best_vote_for_ballot x b).vote ≡ own_vote x = either best.shown
    (λ z. z.1)
    (λ z. absurd (let y : b.votes x.core.who ≡ Some (best_vote_for_ballot x b).vote = ap b.votes (sym by) ∙ z in cc)) in
    ap (λ (v : Vote). vote_is_less v vote) (sym shown) ∙ best.above_all j vote few is

-- ---- who is needed

pub given_vote_is_some : (o : Option Vote) → is_some o ≡ true → (v : Vote) × (o ≡ Some v)
given_vote_is_some None h = absurd (cc)
given_vote_is_some (Some v) h = (v, refl)

pub unawaited_name_has_voted : (who j : ℕ) (b : Ballot) → is_waited_for who b j ≡ false → b.given_up j ≡ false → (j == who) ≡ false → is_some (b.votes j) ≡ true
unawaited_name_has_voted who j b waits stays other = split_on_bool (is_some (b.votes j))
    (λ t. t)
    (λ f. absurd (
    let v : has_voted who b j ≡ false = rw (other, f) refl in
    cc))

pub needed_name_is_not_awaited : (x : Node) (b : Ballot) (j : ℕ) → nat_lt 0 (size (names_that_pass (is_waited_for x.core.who b) (need_set_of x b))) ≡ false → has (need_set_of x b) j ≡ true
    → is_waited_for x.core.who b j ≡ false
needed_name_is_not_awaited x b j none needed = split_on_bool (is_waited_for x.core.who b j)
    (λ t. absurd (let some = set_with_name_has_size (names_that_pass (is_waited_for x.core.who b) (need_set_of x b)) j (passing_name_is_in_those (is_waited_for x.core.who b) (need_set_of x b) j needed t) in
    let z : nat_lt 0 (size (names_that_pass (is_waited_for x.core.who b) (need_set_of x b))) ≡ true = grind (arith, nat_tests) in cc))
    (λ f. f)

all_places : (p : ℕ → Bool) (from n : ℕ) → ((place : ℕ) → place < from + n → p place ≡ true) → list_all p (range_with_len from n) ≡ true
all_places p from zero h = refl
all_places p from (suc n) h = rw (h from (omega arith)) (all_places p (from + 1) n (λ place low. h place (omega arith)))

-- as a test
is_some_of : (test : ℕ → Bool) (names : List ℕ) (place : ℕ) → place < 16
    → ((slice_index (names_that_pass test names) place == 0) || (slice_index (names_that_pass test names) place == slice_index names place)) ≡ true
is_some_of test names place low =
    let life = slice_index (names_that_pass test names) place in
    let all = slice_index names place in
    either (selected_place_same_or_empty test names place low)
    (λ z. (let t : (life == 0) ≡ true = grind (arith, nat_tests) in rw t refl))
    (λ z. (let t : (life == all) ≡ true = grind (arith, nat_tests) in
    or_right (life == 0) (life == all) t))

-- who is among those of a set that pass is in the set, and passes
pub those_in : (test : ℕ → Bool) (names : List ℕ) (j : ℕ) → has (names_that_pass test names) j ≡ true → (has names j ≡ true) × (test j ≡ true)
unfolding names_that_pass
those_in test names j in_ =
    let is = slice_index-by_place (λ place. life_where_name_passes test place (slice_index names place)) (place_of_name j) (mod_sixteen_lt j) in
    let at : life_where_name_passes test (place_of_name j) (slice_index names (place_of_name j)) ≡ life_of_name j = sym is
    ∙ eqb-true (slice_index (list_by_place (λ place. life_where_name_passes test place (slice_index names place))) (place_of_name j)) (life_of_name j) in_ in
    split_on_bool (slice_index names (place_of_name j) == 0)
    (λ t. absurd (let z : 0 ≡ life_of_name j = rw t at at in omega arith))
    (λ f. split_on_bool (test (name_of_place_and_life (place_of_name j) (slice_index names (place_of_name j))))
    (λ t.
    let life : slice_index names (place_of_name j) ≡ life_of_name j = rw (f, t) at at in
    let name : name_of_place_and_life (place_of_name j) (slice_index names (place_of_name j)) ≡ j = omega arith in
    (eq-eqb (slice_index names (place_of_name j)) (life_of_name j) life, ap test (sym name) ∙ t))
    (λ g. absurd (let z : 0 ≡ life_of_name j = rw (f, g) at at in omega arith)))

-- another name that is needed, and isn't given up, has voted for no better list
other_voted : (w : World) (name : ℕ) (x : Node) (b : Ballot) (s : Group) (j : ℕ) → BallotIsKnownToGroup w name x b s → looks.MayDecide x b
    → has (need_set_of x b) j ≡ true → b.given_up j ≡ false → (j == x.core.who) ≡ false → ShowedNoBetterList s (key_of_stamp (s.node name).promise) j (s.node name).list
unfolding stamp_of_list
other_voted w name x b s j h may needed stays other =
    let a = s.node name in
    let told_is = image_of_whole_within_step w name name x a h.stands in
    let long = length_of_whole_list (within w name x) name x a h.stands in
    let stamp : b.stamp ≡ a.promise = h.stamp ∙ sym h.stands.promise in
    let vote = given_vote_is_some (b.votes j) (unawaited_name_has_voted x.core.who j b (needed_name_is_not_awaited x b j may.learned.all needed) stays other) in
    let tells = h.votes j vote.0 vote.1 in
    let low = best_low x b may.learned.own h.own h.view_ h.views j vote.0 (h.names j vote.0 vote.1) vote.1 in
    let order = vote_low (own_vote x) vote.0 h.view_ (h.views j vote.0 vote.1) low in
    let seen : key_of_stamp vote.0.view ≡ key_of_stamp (stamp_of_list tells.list) = ap key_of_stamp tells.view in
    let mine : key_of_stamp (view x) ≡ key_of_stamp (stamp_of_list a.list) = ap (λ (i : Image). key_of_stamp i.view) (sym told_is) in
    record {
      vote = tells.list;
      is = ap (λ (u : Stamp). s.shown (key_of_stamp u) j) (sym stamp) ∙ tells.shown;
      worse = either order
          (λ z. inl (omega arith))
          (λ z. (let y = z.0 in let u = z.1 in inr (omega arith, omega arith)));
    }

-- ---- the group's own test

may_decide : (w : World) (name : ℕ) (x : Node) (b : Ballot) (s : Group) → BallotIsKnownToGroup w name x b s → looks.MayDecide x b
    → CoordinatorMayDecide s name (decided_view x b (need_set_without_given_up b (need_set_of x b)))
unfolding is_member_at_end stamp_of_list resilience_of_list
may_decide w name x b s h may =
    let a = s.node name in
    let who = h.who in
    let told_is = image_of_whole_within_step w name name x a h.stands in
    let long = length_of_whole_list (within w name x) name x a h.stands in
    let need = own_best_list_needs_members x b may.learned.own h.own in
    let test : ℕ → Bool = λ j. not (b.given_up j) in
    let members_is : members_of_image (image_of_list a.list) ≡ members x = ap members_of_image told_is in
    let in_need : (j : ℕ) → is_member_at_end a.list j ≡ true → has (need_set_of x b) j ≡ true = λ j m. ap (λ set. has set j) (need ∙ sym members_is) ∙ m in
    let stamp : b.stamp ≡ a.promise = h.stamp ∙ sym h.stands.promise in
    let spared : (j : ℕ) → IsThere (s.node j)
    → b.given_up j ≡ false = λ j there. split_on_bool (b.given_up j) (λ t. absurd (let z = h.given j t in let y = there.goes in cc)) (λ f. f) in
    record {
      small = h.few;
      up = h.up;
      ballot = h.ballot;
      needed = ap (λ set. has set name) (members_is ∙ sym need) ∙ ap (has (need_set_of x b)) (sym who) ∙ may.learned.needed;
      votes = λ j m there. split_on_bool (j == x.core.who)
          (λ t. inl (let same : j ≡ x.core.who = grind (arith, nat_tests) in same ∙ who))
          (λ f. inr (other_voted w name x b s j h may (in_need j m) (spared j there) f));
      within = subst (λ set. names_are_within (need_set_without_given_up b (need_set_of x b)) set ≡ true) (need ∙ sym members_is)
          (all_places _ 0 16 (λ place low. is_some_of test (need_set_of x b) place (omega arith)));
      all = λ j m there. (let at = selected_name_keeps_its_life test (need_set_of x b) j (in_need j m) (ap not (spared j there)) in grind (arith, nat_tests));
      strong = (let same : (image_of_list a.list).resilience ≡ (nodes.image_of_node x).resilience = ap (λ (i : Image). i.resilience) told_is in omega arith);
    }

-- ---- all that a decision needs

-- a View that stands in a good list is no greater than the list's view
prefix_view : (v : Stamp) (a b : List Entry) → ListHasViewOf v b → (p : List Entry) × IsBeginningOf p (a ++ b) × (stamp_of_list p ≡ v)
unfolding stamp_of_list
prefix_view v a [] h = absurd (cc)
prefix_view v a (e ∷ b) h = split_on_bool (is_view_of v e)
    (λ t. (
      a ++ e ∷ [],
      record { rest = b; same = append_assoc a (e ∷ []) b },
      ap (λ (i : Image). i.view) (image_after_pushed_entry a e)
          ∙ image_after_view_has_stamp v (image_of_list a) (1 + length a) e t,
    ))
    (λ f. (let r = prefix_view v (a ++ e ∷ []) b (rw f at h) in (r.0, subst (IsBeginningOf r.0) (append_assoc a (e ∷ []) b) r.1, r.2)))

unseen : (s : Group) (i : ℕ) → GroupKeeps s → IsUp (s.node i) → (s.node i).ballot ≡ true → list_any (is_view_of (s.node i).promise) (s.node i).list ≡ false
unseen s i k up ballot = split_on_bool (list_any (is_view_of (s.node i).promise) (s.node i).list)
    (λ t. absurd (
    let list = (s.node i).list in
    let p = prefix_view (s.node i).promise [] list t in
    let in_chain = (k.each i).list up in
    let low = view_key_grows_along_list k.views.good (begins_through_both p.1 in_chain) in
    let same = ap key_of_stamp p.2 in
    let now = ap key_of_stamp k.views.view in
    let above = ((k.each i).ballot up ballot).above in
    omega arith))
    (λ f. f)

pub open_ballot_is_undecided : (s : Group) (i : ℕ) → GroupKeeps s → IsUp (s.node i) → (s.node i).ballot ≡ true → s.views.decided (key_of_stamp (s.node i).promise) ≡ false
open_ballot_is_undecided s i k up ballot = split_on_bool (s.views.decided (key_of_stamp (s.node i).promise))
    (λ t. absurd (let above = ((k.each i).ballot up ballot).above in let most = k.views.order (key_of_stamp (s.node i).promise) t in omega arith))
    (λ f. f)

view_members : (x : Node) (b : Ballot) → length (nodes.image_of_node x).rows ≡ 16 → need_set_of x b ≡ members x → members (looks.decided_view_node x b) ≡ need_set_without_given_up b (need_set_of x b)
view_members x b long need =
    let test : ℕ → Bool = λ name. not (b.given_up name) in
    let names = need_set_without_given_up b (need_set_of x b) in
    let before = trim_to_least_taken_by x b names in
    let some : (place : ℕ) → place < 16 → (slice_index names place ≡ 0) ⊎ (slice_index names place ≡ slice_index (members x) place) =
    λ place low. either (selected_place_same_or_empty test (need_set_of x b) place low) (λ z. inl z)
    (λ z. inr (z ∙ ap (λ set. slice_index set place) need)) in
    ap members_of_image (image_of_pushed_entry before (View (decided_view x b names)))
    ∙ members_after_view (nodes.image_of_node x) (nodes.top x + 1) (decided_view x b names) long (omega arith) (length_of_selection test (need_set_of x b)) some

-- each other name of the View has voted for no better list, whether it stopped or not
all_voted : (w : World) (name : ℕ) (x : Node) (b : Ballot) (s : Group) → BallotIsKnownToGroup w name x b s → looks.MayDecide x b
    → AllVoted s name (λ j. has (need_set_without_given_up b (need_set_of x b)) j ≡ true)
all_voted w name x b s h may j in_ =
    let both = those_in (λ k. not (b.given_up k)) (need_set_of x b) j in_ in
    split_on_bool (j == x.core.who)
    (λ t. inl (eqb-true j x.core.who t ∙ h.who))
    (λ f. inr (other_voted w name x b s j h may both.0 (not-true (b.given_up j) both.1) f))

pub decided_ballot_has_its_needs : (w : World) (name : ℕ) (x : Node) (b : Ballot) (s : Group) → GroupKeeps s → BallotIsKnownToGroup w name x b s → x.core.promise.by ≡ name
    → IsSetOfNames (members x) → looks.MayDecide x b → NeedsDecision s name x b
decided_ballot_has_its_needs w name x b s k h own set may =
    let same = h.stands.promise in
    let need = own_best_list_needs_members x b may.learned.own h.own in
    record {
      may = may_decide w name x b s h may;
      own = own;
      fresh = ap (λ (u : Stamp). s.views.decided (key_of_stamp u)) (sym same) ∙ open_ballot_is_undecided s name k h.up h.ballot;
      unseen = ap (λ (u : Stamp). list_any (is_view_of u) (s.node name).list) (sym same) ∙ unseen s name k h.up h.ballot;
      members_ = view_members x b (sym (length-map (nodes.image_of_node x).rows member_life_of_row) ∙ set.places) need;
      set = selection_of_set_is_set (λ j. not (b.given_up j)) (need_set_of x b) (subst IsSetOfNames (sym need) set);
      voted = all_voted w name x b s h may;
    }

-- ---- whom a coordinator fetches from

-- all whose votes it needs have shown a list, and the best of these is another's
pub best_vote_list_was_shown : (w : World) (name : ℕ) (x : Node) (b : Ballot) (s : Group) → GroupKeeps s → BallotIsKnownToGroup w name x b s → ((best_vote_for_ballot x b).by == x.core.who) ≡ false
    → nat_lt 0 (size (names_that_pass (is_waited_for x.core.who b) (need_set_of x b))) ≡ false → AllShown s b.stamp (best_vote_for_ballot x b).by
unfolding best_vote_for_ballot is_member_at_end
best_vote_list_was_shown w name x b s k h other none = either (best_vote_is_greatest b.votes x.core.who (own_vote x) h.view_ h.views).shown
    (λ z. absurd (let t : ((best_vote_for_ballot x b).by == x.core.who) ≡ true = eq-eqb (best_vote_for_ballot x b).by x.core.who z.0 in cc))
    (λ z. (let best = h.votes (best_vote_for_ballot x b).by (best_vote_for_ballot x b).vote z in
    let by : b.stamp.by ≡ name = ap (λ (u : Stamp). u.by) (h.stamp ∙ sym h.stands.promise) ∙ ((k.each name).ballot h.up h.ballot).by in
    record {
      list = best.list;
      shown = best.shown;
      others = λ j m there. split_on_bool (j == x.core.who)
          (λ t. inl (eqb-true j x.core.who t ∙ h.who ∙ sym by))
          (λ f.
          (let needed : has (need_set_of x b) j ≡ true = ap (λ set. has set j) best.members ∙ m in
          let spared : b.given_up j ≡ false = split_on_bool (b.given_up j) (λ t. absurd (let q = h.given j t in let y = there.goes in cc)) (λ g. g) in
          let vote = given_vote_is_some (b.votes j) (unawaited_name_has_voted x.core.who j b (needed_name_is_not_awaited x b j none needed) spared f) in
          let tells = h.votes j vote.0 vote.1 in
          inr (tells.list, tells.shown)));
    }))
