-- What stopped names have is on the chain, or was left out of it; so a decision finds what each of its members has.
use Rattle.am_refinement.proofs.Words.{le_or_gt, split_on_bool, ◌≡◌, ◌⊎◌, inl, inr, either, ℕ, ◌<◌, ◌≤◌, ◌==◌, ◌||◌, List, [], ◌∷◌, ◌++◌, length, take, true, false}
use Rattle.am_refinement.proofs.Words.{Some, slice_index, refl, sym, ap, ◌∙◌, subst, arith, nat_tests, Entry, Leave, View, GroupView, Stamp, place_of_name, has}
use Rattle.am_refinement.proofs.Words.{names_are_within, members_of_image, range_passes_at_each, IsBeginningOf, IsProperBeginningOf, IsGoodList, image_of_list, is_member_at_end, key_of_stamp, list_begins_itself, empty_list_begins_all}
use Rattle.am_refinement.proofs.Words.{front_begins_append, begins_through_both, shorter_beginning_begins_longer, taken_front_begins_list, shorter_beginning_is_below, proper_beginning_is_shorter, length_of_pushed_list, mod_sixteen_lt, beginning_of_good_is_good, member_of_both_is_between}
use Rattle.am_refinement.proofs.Words.{member_of_pushed_view_members, equal_keys_have_equal_names, view_key_grows_along_list, Group, function_with_value, function_with_value_of_two, list_with_chosen_view, chain_of, IsUp, IsNoBetterList, CoordinatorMayDecide, ShowedNoBetterList, group_with_choice, chosen_by}
use Rattle.am_refinement.proofs.Words.{next_own_stamp, node_with_entry, GroupKeeps, IsLawful, first_choice, start_group_is_kept, put_at_same_index, put_keeps_property, put2_at_same_or_other, own_stamp_is_above_promise, deciding_ballot_is_ok, deciding_list_begins_chain}
use Rattle.am_refinement.proofs.Words.{group_begins_deciding_list, NewView, OnBranch, on_chain, left_out, BranchesAreSound, MovesBranch, DecisionsAreNew, BranchesBegin}
use Rattle.am_abstract_group.specs.Group as groups
use Rattle.am_abstract_group.specs.Moves as group
use Rattle.am_refinement.proofs.Membership.LeftOut.{chain_after_numbered_entry, departed_is_in_no_choice}

-- ---- a decision

-- each name of the View is a member of what is chosen
within_has : (members all : List ℕ) (j : ℕ) → names_are_within members all ≡ true → has members j ≡ true → has all j ≡ true
within_has members all j within in_ =
    let place = mod_sixteen_lt j in
    let at = range_passes_at_each (λ place. (slice_index members place == 0) || (slice_index members place == slice_index all place)) 0 16 (place_of_name j) (omega arith)
    (omega arith) within in
    grind (arith, nat_tests)

-- a list that is no better, on one branch, is no longer
vote_low : (v list branch : List Entry) → IsGoodList branch → IsBeginningOf v branch → IsBeginningOf list branch → IsNoBetterList v list → length v ≤ length list
vote_low v list branch good h begins worse = either (le_or_gt (length v) (length list))
    (λ l. l)
    (λ l. let up = view_key_grows_along_list (beginning_of_good_is_good h good) (shorter_beginning_begins_longer begins h (omega arith)) in
    either worse
    (λ x. absurd (omega arith))
    (λ x. x.1))

module _ (s : Group) (k : GroupKeeps s) (lawful : IsLawful s) (c : ℕ) (v : GroupView) (d : CoordinatorMayDecide s c v) (b : BranchesAreSound s)
    (voted : (j : ℕ) → has v.members j ≡ true → (j ≡ c) ⊎ ShowedNoBetterList s (key_of_stamp (s.node c).promise) j (s.node c).list) where
  abbrev chosen : List Entry
  chosen = (s.node c).list

  abbrev all : List Entry
  all = list_with_chosen_view (chosen_by (s.node c) v)

  chain : IsBeginningOf chosen (chain_of s.views)
  chain = deciding_list_begins_chain s k lawful c v d

  in_chosen : (j : ℕ) → has v.members j ≡ true → is_member_at_end chosen j ≡ true
  unfolding is_member_at_end
  in_chosen j h = within_has v.members (members_of_image (image_of_list chosen)) j d.within h

  -- on one branch with the coordinator's list, a name of the View has no more
  low_on : (j : ℕ) (branch : List Entry) → has v.members j ≡ true → (s.node j).departed ≡ false → IsGoodList branch → IsBeginningOf chosen branch
      → IsBeginningOf (s.node j).list branch → IsBeginningOf (s.node j).list chosen
  low_on j branch in_ stays good mine its = either (voted j in_)
      (λ z. subst (λ x. IsBeginningOf (s.node x).list chosen) (sym z) (list_begins_itself chosen))
      (λ z. let shown = k.shown (key_of_stamp (s.node c).promise) j z.vote z.is in
      let low = vote_low z.vote chosen branch good (begins_through_both shown.list its) mine z.worse in
      shorter_beginning_begins_longer its mine (either (b.short c j z.vote d.up d.ballot z.is stays) (λ y. omega arith) (λ y. y)))

  stays_in : (j : ℕ) → has v.members j ≡ true → (s.node j).departed ≡ false
  stays_in j in_ = split_on_bool (s.node j).departed (λ t. absurd (departed_is_in_no_choice s k lawful c v d j (in_chosen j in_) t)) (λ f. f)

  -- each name of the View has a beginning of what is chosen
  members_low : (j : ℕ) → has v.members j ≡ true → IsBeginningOf (s.node j).list chosen
  members_low j in_ = elim (b.branch j (stays_in j in_)) [
    | on_chain its ↦ low_on j (chain_of s.views) in_ (stays_in j in_) k.views.good chain its
    | left_out a u branch part mine its good member out ↦ either (le_or_gt (length (a ++ View u ∷ [])) (length chosen))
        (λ z. absurd (let inside = shorter_beginning_begins_longer part chain z in
        let fine = beginning_of_good_is_good chain k.views.good in
        let there = member_of_both_is_between j fine (front_begins_append a (View u ∷ [])) inside member (in_chosen j in_) in
        let has_it = member_of_pushed_view_members a u j there in cc))
        (λ z. (let more = length_of_pushed_list a (View u) in
        let below = shorter_beginning_begins_longer chain (begins_through_both (front_begins_append a (View u ∷ [])) part) (omega arith) in
        low_on j branch in_ (stays_in j in_) good (begins_through_both below mine) its))
  ]

  new_view : NewView s (group_with_choice s c v) (key_of_stamp (s.node c).promise)
  new_view =
      let same = put_at_same_index s.views.chosen (key_of_stamp (s.node c).promise) (chosen_by (s.node c) v) in
      let line = put_at_same_index s.views.line (key_of_stamp (s.node c).promise) all in
      record {
        accepted = subst (λ (x : groups.Chosen). IsBeginningOf s.group x.before) (sym same) (group_begins_deciding_list s k lawful c v d);
        leavers = λ i leaves in_. subst (IsBeginningOf (s.node i).list) (sym line)
            (begins_through_both (members_low i (subst (λ (x : groups.Chosen). has x.members i ≡ true) same in_))
            (front_begins_append chosen (View (chosen_by (s.node c) v).view ∷ [])));
      }

  -- ---- who is on which branch then

  now : chain_of (group_with_choice s c v).views ≡ all
  now = put_at_same_index s.views.line (key_of_stamp (s.node c).promise) all

  on_new : {a : List Entry} → IsBeginningOf a chosen → IsBeginningOf a (chain_of (group_with_choice s c v).views)
  on_new h = subst (IsBeginningOf _) (sym now) (begins_through_both h (front_begins_append chosen (View (chosen_by (s.node c) v).view ∷ [])))

  viewed : IsBeginningOf (chosen ++ View (chosen_by (s.node c) v).view ∷ []) (chain_of (group_with_choice s c v).views)
  viewed = subst (IsBeginningOf all) (sym now) (list_begins_itself all)

  -- who isn't a member of what is chosen ended in it
  ended_in : (j : ℕ) (branch : List Entry) → (s.node j).departed ≡ false → IsGoodList branch → IsBeginningOf chosen branch → IsBeginningOf (s.node j).list branch
      → is_member_at_end chosen j ≡ false → IsBeginningOf (s.node j).list chosen
  ended_in j branch stays good mine its none = split_on_bool (s.node j).has_log
      (λ log. either (le_or_gt (length (s.node j).list) (length chosen))
      (λ z. shorter_beginning_begins_longer its mine z)
      (λ z. absurd (let joined = (k.each j).joined log in
      let front = begins_through_both (taken_front_begins_list (s.node j).start s.group) (group_begins_deciding_list s k lawful c v d) in
      let there = b.own j stays (take (s.node j).start s.group) chosen (shorter_beginning_is_below (shorter_beginning_begins_longer mine its (omega arith)) z) front joined.member in
      cc)))
      (λ f. subst (λ l. IsBeginningOf l chosen) (sym ((k.each j).blank f)) (empty_list_begins_all chosen))

  -- on one branch with it
  beside : (j : ℕ) (branch : List Entry) → (s.node j).departed ≡ false → IsGoodList branch → IsBeginningOf chosen branch → IsBeginningOf (s.node j).list branch
      → IsBeginningOf (s.node j).list chosen ⊎ ((is_member_at_end chosen j ≡ true) × (has v.members j ≡ false))
  beside j branch stays good mine its = split_on_bool (is_member_at_end chosen j)
      (λ t. split_on_bool (has v.members j)
      (λ in_. inl (low_on j branch in_ stays good mine its))
      (λ out. inr (t, out)))
      (λ f. inl (ended_in j branch stays good mine its f))

  after_choice : (j : ℕ) → (s.node j).departed ≡ false → OnBranch s j
      → IsBeginningOf (s.node j).list (chain_of (group_with_choice s c v).views)
      ⊎ ((a : List Entry) × (u : GroupView) × (branch : List Entry)
      × IsBeginningOf (a ++ View u ∷ []) (chain_of (group_with_choice s c v).views)
      × IsBeginningOf a branch × IsBeginningOf (s.node j).list branch × IsGoodList branch × (is_member_at_end a j ≡ true) × (has u.members j ≡ false))
  after_choice j stays (on_chain its) = either (beside j (chain_of s.views) stays k.views.good chain its)
      (λ z. inl (on_new z))
      (λ z. inr
      (chosen, (chosen_by (s.node c) v).view, chain_of s.views, viewed, chain, its, k.views.good, z.0, z.1))
  after_choice j stays (left_out a u branch part mine its good member out) = either (le_or_gt (length (a ++ View u ∷ [])) (length chosen))
      (λ z. inr (a, u, branch, on_new (shorter_beginning_begins_longer part chain z), mine, its, good, member, out))
      (λ z. (let more = length_of_pushed_list a (View u) in
      let below = begins_through_both (shorter_beginning_begins_longer chain (begins_through_both (front_begins_append a (View u ∷ [])) part) (omega arith)) mine in
      either (beside j branch stays good below its)
      (λ y. inl (on_new y))
      (λ y. inr
      (chosen, (chosen_by (s.node c) v).view, branch, viewed, below, its, good, y.0, y.1))))

-- ---- each move

-- a name that hasn't departed is up, or has what it had
abbrev Steady : groups.ChainNode → groups.ChainNode → Type 0
Steady m n = n.departed ≡ false → IsUp n ⊎ ((n.list ≡ m.list) × (m.departed ≡ false))

-- what is shown to an open ballot is all that its voter has, or the ballot was open and this was shown to it
abbrev OpenedAs : Group → Group → ℕ → ℕ → List Entry → groups.ChainNode → Type 0
OpenedAs s t c k list m = IsUp m → m.ballot ≡ true → t.shown (key_of_stamp m.promise) k ≡ Some list
    → (length (t.node k).list ≤ length list)
    ⊎ (IsUp (s.node c) × ((s.node c).ballot ≡ true) × (s.shown (key_of_stamp (s.node c).promise) k ≡ Some list) × (length (s.node c).list ≤ length m.list))

abbrev Opened : Group → Group → Type 0
Opened s t = (c k : ℕ) (list : List Entry) → OpenedAs s t c k list (t.node c)

-- a name that has an open ballot then had it
abbrev HadBallot : groups.ChainNode → groups.ChainNode → Type 0
HadBallot m n = IsUp n → n.ballot ≡ true → IsUp m × (m.ballot ≡ true) × (n.promise ≡ m.promise) × (length m.list ≤ length n.list)

branches_of : (s t : Group) → GroupKeeps t → ((j : ℕ) → Steady (s.node j) (t.node j))
    → ((j : ℕ) → (s.node j).departed ≡ false → OnBranch s j → (t.node j).list ≡ (s.node j).list → OnBranch t j)
    → Opened s t → BranchesAreSound s → BranchesAreSound t
branches_of s t k steady moved opened b = record {
  branch = λ j stays. either (steady j stays)
      (λ up. on_chain ((k.each j).list up))
      (λ z. moved j z.1 (b.branch j z.1) z.0);
  own = λ j stays. either (steady j stays)
      (λ up. (k.each j).own up)
      (λ z. subst (λ l. (a d : List Entry) → IsProperBeginningOf d l → IsBeginningOf a d → is_member_at_end a j ≡ true → is_member_at_end d j ≡ true) (sym z.0) (b.own j z.1));
  short = λ c j list up ballot shown stays. either (steady j stays)
      (λ own_up. k.short c j list up ballot shown own_up)
      (λ z. either (opened c j list up ballot shown)
      (λ y. inl y)
      (λ y. (let same = ap length z.0 in
      either (b.short c j list y.0 y.1 y.2 z.1)
      (λ x. inl (omega arith))
      (λ x. inr (omega arith)))));
}

-- on a chain that goes on
still_on : (s t : Group) → IsBeginningOf (chain_of s.views) (chain_of t.views) → (j : ℕ) → (s.node j).departed ≡ false → OnBranch s j
    → (t.node j).list ≡ (s.node j).list → OnBranch t j
still_on s t chain j stays (on_chain its) same = on_chain (subst (λ l. IsBeginningOf l (chain_of t.views)) (sym same) (begins_through_both its chain))
still_on s t chain j stays (left_out a v branch part mine its good member out) same =
    left_out a v branch (begins_through_both part chain) mine (subst (λ l. IsBeginningOf l branch) (sym same) its) good member out

same_chain : (s : Group) → IsBeginningOf (chain_of s.views) (chain_of s.views)
same_chain s = list_begins_itself (chain_of s.views)

-- a move of one name
record OneName (s t : Group) (i : ℕ) (n : groups.ChainNode) : Type 0 where
  node : t.node ≡ function_with_value s.node i n
  shown : t.shown ≡ s.shown
  chain : IsBeginningOf (chain_of s.views) (chain_of t.views)
  steady : Steady (s.node i) n
  opened : HadBallot (s.node i) n

steady_put : (s : Group) (i : ℕ) (n : groups.ChainNode) → Steady (s.node i) n → (j : ℕ) → Steady (s.node j) (function_with_value s.node i n j)
steady_put s i n h j = put_keeps_property (λ k (m : groups.ChainNode). Steady (s.node k) m) s.node i n h (λ k other stays. inr (refl, stays)) j

opened_put : (s t : Group) (i : ℕ) (n : groups.ChainNode) → OneName s t i n → Opened s t
opened_put s t i n h c k list = subst (λ (f : ℕ → groups.ChainNode). OpenedAs s t c k list (f c)) (sym h.node)
    (put_keeps_property (λ j m. OpenedAs s t j k list m) s.node i n
    (λ up ballot shown. (let o = h.opened up ballot in
    inr (o.0, o.1, ap (λ (u : Stamp). s.shown (key_of_stamp u) k) (sym o.2) ∙ ap (λ f. f (key_of_stamp n.promise) k) (sym h.shown) ∙ shown, o.3)))
    (λ j other up ballot shown. inr (up, ballot, ap (λ f. f (key_of_stamp (s.node j).promise) k) (sym h.shown) ∙ shown, omega arith)) c)

one_name : (s t : Group) (i : ℕ) (n : groups.ChainNode) → GroupKeeps t → OneName s t i n → BranchesAreSound s → BranchesAreSound t
one_name s t i n k h b = branches_of s t k
    (λ j. subst (λ (f : ℕ → groups.ChainNode). Steady (s.node j) (f j)) (sym h.node) (steady_put s i n h.steady j))
    (still_on s t h.chain) (opened_put s t i n h) b

-- and one that leaves the chain as it was
own_move : (s : Group) (i : ℕ) (n : groups.ChainNode) → GroupKeeps (group.group_with_node s i n) → Steady (s.node i) n → HadBallot (s.node i) n → BranchesAreSound s
    → BranchesAreSound (group.group_with_node s i n)
own_move s i n k steady opened b =
    one_name s (group.group_with_node s i n) i n k (record { node = refl; shown = refl; chain = same_chain s; steady = steady; opened = opened }) b

-- and one that changes no name
no_name : (s t : Group) → GroupKeeps t → t.node ≡ s.node → t.views ≡ s.views → t.shown ≡ s.shown → BranchesAreSound s → BranchesAreSound t
no_name s t k node views shown b = branches_of s t k
    (λ j. subst (λ (f : ℕ → groups.ChainNode). Steady (s.node j) (f j)) (sym node) (λ stays. inr (refl, stays)))
    (still_on s t (subst (λ v. IsBeginningOf (chain_of s.views) (chain_of v)) (sym views) (list_begins_itself (chain_of s.views))))
    (λ c k list. subst (λ (f : ℕ → groups.ChainNode). OpenedAs s t c k list (f c)) (sym node)
    (λ up ballot is. inr (up, ballot, ap (λ f. f (key_of_stamp (s.node c).promise) k) (sym shown) ∙ is, omega arith))) b

pub is_up_of_same_flags : (m n : groups.ChainNode) → n.has_log ≡ m.has_log → n.stopped ≡ m.stopped → n.departed ≡ m.departed → IsUp m → IsUp n
is_up_of_same_flags m n log stopped departed up = record { log = log ∙ up.log; there = record { goes = stopped ∙ up.there.goes; stays = departed ∙ up.there.stays } }

-- a new ballot's stamp is above all that was shown to its name
none_shown : (s : Group) (i j : ℕ) (list : List Entry) → GroupKeeps s → i < 256 → s.shown (key_of_stamp (next_own_stamp i (s.node i))) j ≡ Some list → ⊥
none_shown s i j list k few is =
    let o = k.shown (key_of_stamp (next_own_stamp i (s.node i))) j list is in
    let by = equal_keys_have_equal_names o.stamp (next_own_stamp i (s.node i)) o.small few o.is in
    let low : key_of_stamp (next_own_stamp i (s.node i)) ≤ key_of_stamp (s.node i).promise = subst (λ x. key_of_stamp (next_own_stamp i (s.node i)) ≤ key_of_stamp (s.node x).promise) by o.begun in
    let above = own_stamp_is_above_promise i (s.node i) (k.each i).small in
    omega arith

begun_open : (s : Group) (i : ℕ) → GroupKeeps s → i < 256 → Opened s (group.group_with_node s i (record (s.node i) { promise = next_own_stamp i (s.node i); ballot = true }))
begun_open s i k few c j list =
    let n : groups.ChainNode = record (s.node i) { promise = next_own_stamp i (s.node i); ballot = true } in
    put_keeps_property (λ x m. OpenedAs s (group.group_with_node s i n) x j list m) s.node i n
    (λ up ballot is. absurd (none_shown s i j list k few is))
    (λ x other up ballot is. inr (up, ballot, is, omega arith)) c

-- a list that is shown now
shown_open : (s : Group) (i : ℕ) → Opened s (record s { shown = function_with_value_of_two s.shown (key_of_stamp (s.node i).promise) i (Some (s.node i).list) })
shown_open s i c j list up ballot is = either (put2_at_same_or_other s.shown (key_of_stamp (s.node i).promise) i (Some (s.node i).list) (key_of_stamp (s.node c).promise) j)
    (λ z. (let same : Some (s.node i).list ≡ Some list = sym z.2 ∙ is in
    let its : (s.node i).list ≡ list = cc in
    let long = ap (λ x. length (s.node x).list) z.1 ∙ ap length its in
    inl (omega arith)))
    (λ z. inr (up, ballot, sym z.1 ∙ is, omega arith))

choice_branches : (s : Group) (k : GroupKeeps s) (lawful : IsLawful s) (c : ℕ) (v : GroupView) (d : CoordinatorMayDecide s c v)
    → ((j : ℕ) → has v.members j ≡ true → (j ≡ c) ⊎ ShowedNoBetterList s (key_of_stamp (s.node c).promise) j (s.node c).list) → GroupKeeps (group_with_choice s c v) → BranchesAreSound s
    → BranchesAreSound (group_with_choice s c v)
choice_branches s k lawful c v d voted kept b =
    let t = group_with_choice s c v in
    let n : groups.ChainNode = record (s.node c) { list = list_with_chosen_view (chosen_by (s.node c) v); ballot = false } in
    branches_of s t kept
    (λ j. steady_put s c n (λ stays. inl (is_up_of_same_flags (s.node c) n refl refl refl d.up)) j)
    (λ j stays old same. either (after_choice s k lawful c v d b voted j stays old)
    (λ z. on_chain (subst (λ l. IsBeginningOf l (chain_of t.views)) (sym same) z))
    (λ z. left_out z.0 z.1 z.2 z.3 z.4 (subst (λ l. IsBeginningOf l z.2) (sym same) z.5) z.6 z.7 z.8))
    (λ x j list. put_keeps_property (λ y m. OpenedAs s t y j list m) s.node c n
    (λ up ballot is. absurd (cc))
    (λ y other up ballot is. inr (up, ballot, is, omega arith)) x) b

-- a name that gets an entry more
longer_name : (s t : Group) (i : ℕ) (e : Entry) → t.node ≡ function_with_value s.node i (node_with_entry (s.node i) e) → t.shown ≡ s.shown
    → IsBeginningOf (chain_of s.views) (chain_of t.views) → IsUp (s.node i) → OneName s t i (node_with_entry (s.node i) e)
longer_name s t i e node shown chain up = record {
  node = node;
  shown = shown;
  chain = chain;
  steady = λ stays. inl (is_up_of_same_flags (s.node i) (node_with_entry (s.node i) e) refl refl refl up);
  opened = λ z ballot. (up, ballot, refl, (let z = length_of_pushed_list (s.node i).list e in omega arith));
}

pub moves_keep_branches : MovesBranch
moves_keep_branches s t (group.numbers i e leads fit may) voted k law kt b = one_name s t i (node_with_entry (s.node i) e) kt (longer_name s t i e refl refl
    (subst (IsBeginningOf (chain_of s.views)) (sym (chain_after_numbered_entry s i (node_with_entry (s.node i) e) e k leads refl)) (front_begins_append (chain_of s.views) (e ∷ []))) leads.up) b
moves_keep_branches s t (group.stores i e up decided other stays next) voted k law kt b = one_name s t i (node_with_entry (s.node i) e) kt
    (longer_name s t i e refl refl (same_chain s) up) b
moves_keep_branches s t (group.learns i told acc up rises within before up_to given low) voted k law kt b =
    own_move s i _ kt (λ z. inl (is_up_of_same_flags (s.node i) _ refl refl refl up)) (λ z ballot. (up, ballot, refl, omega arith)) b
moves_keep_branches s t (group.begins i few up stays member) voted k law kt b = branches_of s t kt
    (λ j. steady_put s i (record (s.node i) { promise = next_own_stamp i (s.node i); ballot = true }) (λ z. inl (is_up_of_same_flags (s.node i) _ refl refl refl up)) j)
    (still_on s t (same_chain s)) (begun_open s i k few) b
moves_keep_branches s t (group.raises i stamp there above) voted k law kt b = own_move s i _ kt (λ z. inr (refl, there.stays)) (λ z ballot. absurd (cc)) b
moves_keep_branches s t (group.shows i there small other begun none) voted k law kt b = branches_of s t kt (λ j stays. inr (refl, stays))
    (still_on s t (same_chain s)) (shown_open s i) b
moves_keep_branches s t (group.fetches i f list e up ballot served shown next) voted k law kt b = one_name s t i (node_with_entry (s.node i) e) kt
    (longer_name s t i e refl refl (same_chain s) up) b
moves_keep_branches s t (group.decides i v may) voted k law kt b = choice_branches s k law i v may voted.1 kt b
moves_keep_branches s t (group.gives_over i) voted k law kt b = own_move s i _ kt (λ z. inr (refl, z)) (λ z ballot. absurd (cc)) b
moves_keep_branches s t (group.welcomes j stamp base join may) voted k law kt b =
    own_move s j _ kt (λ z. inl (record { log = refl; there = record { goes = may.there.goes; stays = z } }))
    (λ z ballot. absurd (let none = may.no_ballot in cc)) b
moves_keep_branches s t (group.asks i up none) voted k law kt b =
    own_move s i _ kt (λ z. inl (is_up_of_same_flags (s.node i) _ refl refl refl up)) (λ z ballot. absurd (cc)) b
moves_keep_branches s t (group.departs i before may) voted k law kt b =
    own_move s i _ kt (λ z. absurd (cc)) (λ z ballot. absurd (let y = z.there.stays in cc)) b
moves_keep_branches s t (group.closes i n leads leaving alone may) voted k law kt b = one_name s t i (record (node_with_entry (s.node i) (Leave i)) { departed = true }) kt
    (record {
      node = refl;
      shown = refl;
      chain = subst (IsBeginningOf (chain_of s.views)) (sym (chain_after_numbered_entry s i (record (node_with_entry (s.node i) (Leave i)) { departed = true }) (Leave i) k leads refl))
          (front_begins_append (chain_of s.views) (Leave i ∷ []));
      steady = λ z. absurd (cc);
      opened = λ z ballot. absurd (let y = z.there.stays in cc);
    }) b
moves_keep_branches s t (group.stops i) voted k law kt b = own_move s i _ kt (λ z. inr (refl, z)) (λ z ballot. absurd (let y = z.there.goes in cc)) b
moves_keep_branches s t _ voted k law kt b = no_name s t kt refl refl refl b

-- ---- what a decision finds

pub decisions_find_all_branches : DecisionsAreNew
decisions_find_all_branches s t (group.decides i v may) voted k law b = (
  split_on_bool (s.views.decided (key_of_stamp (s.node i).promise))
      (λ d. absurd (let above = (deciding_ballot_is_ok s k law i v may).above in let most = k.views.order (key_of_stamp (s.node i).promise) d in omega arith))
      (λ f. f),
  new_view s k law i v may b voted.1,
)
decisions_find_all_branches s t _ voted k law b = tt

-- ---- the start

pub branches_begin_chain : BranchesBegin
branches_begin_chain founders first resilience may =
    let k = start_group_is_kept founders first resilience may in
    record {
      branch = λ i stays. split_on_bool (has founders i)
          (λ t. on_chain (rw t (list_begins_itself (list_with_chosen_view (first_choice founders first resilience)))))
          (λ f. on_chain (rw f (empty_list_begins_all (list_with_chosen_view (first_choice founders first resilience)))));
      own = λ i stays. split_on_bool (has founders i)
          (λ t. (k.each i).own (record { log = t; there = record { goes = refl; stays = refl } }))
          (λ f. rw f (λ a d below. absurd (let z = proper_beginning_is_shorter below in omega arith)));
      short = λ c j list up ballot. absurd (cc);
    }
