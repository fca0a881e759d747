-- A coordinator that decides has all that was accepted.
use Rattle.am_abstract_group.proofs.Words.{le_or_gt, split_on_bool, ◌≡◌, ◌⊎◌, ℕ, zero, suc, ◌+◌, ◌-◌, ◌<◌, ◌≤◌, ◌&&◌, ◌||◌, not, nat_lt, min, Bool, true, false, List, []}
use Rattle.am_abstract_group.proofs.Words.{◌∷◌, ◌++◌, length, take, Option, Some, None, slice_get, refl, sym, ap, ◌∙◌, subst, arith, nat_tests, slice_get_within}
use Rattle.am_abstract_group.proofs.Words.{GroupView, Entry, Leave, View, has, IsBeginningOf, IsGoodList, is_member_at_end, key_of_stamp, resilience_of_list, list_begins_itself, empty_list_begins_all, front_begins_append}
use Rattle.am_abstract_group.proofs.Words.{begins_through_both, beginning_is_no_longer, shorter_beginning_begins_longer, begins_not_longer_is_same, begins_push_next_entry, length_of_pushed_list, taken_front_begins_list, length_of_taken_list, take_length_of_beginning}
use Rattle.am_abstract_group.proofs.Words.{member_of_both_is_between, empty_list_has_no_member, member_of_pushed_view_members, name_in_view_is_member, beginning_of_good_is_good, leaver_was_member, leaver_is_no_member, view_key_grows_along_list, resilience_grows_along_list, resilience_of_pushed_view}
use Rattle.am_abstract_group.proofs.Words.{count_of_passing_names, counting_names_in, list_with_chosen_view, Group, chain_of, IsThere, IsUp, IsNoBetterList, CoordinatorMayDecide, counts_for, IsLawful, BallotIsAboveView, GroupKeeps}
use Rattle.am_abstract_group.proofs.Puts.{count_le_of_weaker_test, count_lt_of_weaker_test, either_of_two_gives}

-- the greatest number that passes
greatest_of : (p : ℕ → Bool) (bound x : ℕ) → p x ≡ true → ((y : ℕ) → p y ≡ true → y ≤ bound) → (g : ℕ) × (p g ≡ true) × ((y : ℕ) → p y ≡ true → y ≤ g)
greatest_of p zero x h all = let z = all x h in (x, h, λ y k. let w = all y k in omega arith)
greatest_of p (suc bound) x h all = split_on_bool (p (suc bound))
    (λ t. (suc bound, t, all))
    (λ f. greatest_of p bound x h (λ y k. either_of_two_gives (le_or_gt y bound) (λ l. l) (λ l. let w = all y k in let e : y ≡ suc bound = omega arith in
    let z : p (suc bound) ≡ true = subst (λ m. p m ≡ true) e k in absurd (cc))))

-- Where the members stand whose storage of an entry counts.
record CountedAt (list : List Entry) (n : ℕ) : Type 0 where
  pub at : List Entry
  pub above : IsBeginningOf (take (n - 1) list) at
  pub below : IsBeginningOf at (take n list)
  pub members : (h : ℕ) → has (counting_names_in list n) h ≡ true → is_member_at_end at h ≡ true
  pub back : (h : ℕ) → is_member_at_end at h ≡ true → has (counting_names_in list n) h ≡ true

take_step : (list : List Entry) (n : ℕ) (e : Entry) → 0 < n → slice_get list (n - 1) ≡ Some e → take n list ≡ take (n - 1) list ++ e ∷ []
take_step list n e low h =
    let within = slice_get_within list (n - 1) e h in
    let long = length_of_taken_list (n - 1) list (omega arith) in
    let one = begins_push_next_entry e (taken_front_begins_list (n - 1) list) (ap (slice_get list) long ∙ h) in
    let more = length_of_pushed_list (take (n - 1) list) e in
    let z : length (take (n - 1) list ++ e ∷ []) ≡ n = omega arith in
    ap (λ k. take k list) (sym z) ∙ take_length_of_beginning one

before_entry : (list : List Entry) (n : ℕ) (e : Entry) → 0 < n → slice_get list (n - 1) ≡ Some e → IsBeginningOf (take (n - 1) list) (take n list)
before_entry list n e low h = subst (IsBeginningOf (take (n - 1) list)) (sym (take_step list n e low h)) (front_begins_append (take (n - 1) list) (e ∷ []))

counted_go : (list : List Entry) (n : ℕ) (o : Option Entry) → IsGoodList list → 0 < n → n ≤ length list → slice_get list (n - 1) ≡ o → CountedAt list n
unfolding is_member_at_end
counted_go list n None good low high h = absurd (none_past list (n - 1) (omega arith) h)
  where
    none_past : (l : List Entry) (k : ℕ) → k < length l → ◌≡◌ {A = Option Entry} (slice_get l k) None → ⊥
    none_past [] k w h = let z : ⊥ = omega arith in z
    none_past (e ∷ l) zero w h = cc
    none_past (e ∷ l) (suc k) w h = none_past l k (omega arith) h
counted_go list n (Some (View v)) good low high h =
    let step = take_step list n (View v) low h in
    let fine = subst IsGoodList step (beginning_of_good_is_good (taken_front_begins_list n list) good) in
    record {
      at = take n list;
      above = before_entry list n (View v) low h;
      below = list_begins_itself (take n list);
      members = λ x y. let z : has v.members x ≡ true = rw h at y in
          subst (λ l. is_member_at_end l x ≡ true) (sym step) (name_in_view_is_member (take (n - 1) list) v x fine z);
      back = λ x y. rw h (member_of_pushed_view_members (take (n - 1) list) v x (subst (λ l. is_member_at_end l x ≡ true) step y));
    }
counted_go list n (Some e) good low high h = record {
  at = take (n - 1) list;
  above = list_begins_itself (take (n - 1) list);
  below = before_entry list n e low h;
  members = λ x y. rw h at y;
  back = λ x y. rw h y;
}

counted_at : (list : List Entry) (n : ℕ) → IsGoodList list → 0 < n → n ≤ length list → CountedAt list n
counted_at list n good low high = counted_go list n (slice_get list (n - 1)) good low high refl

and_true : (a b c : Bool) → a ≡ true → b ≡ true → c ≡ false → (a && (b && not c)) ≡ true
and_true true true false x y z = refl
and_true _ _ _ x y z = absurd (cc)

or_both : (a b c : Bool) → (a ≡ false → (b ≡ true) × (c ≡ true)) → (a || (b && c)) ≡ true
or_both true b c h = refl
or_both false b c h = let z = h refl in let x = z.0 in let y = z.1 in rw (x, y) refl

-- A ballot that may be decided, in a lawful moment.
module _ (s : Group) (k : GroupKeeps s) (lawful : IsLawful s) (c : ℕ) (v : GroupView) (d : CoordinatorMayDecide s c v) where
  pub deciding_ballot_is_ok : BallotIsAboveView s.views c (s.node c)
  deciding_ballot_is_ok = (k.each c).ballot d.up d.ballot

  pub deciding_list_begins_chain : IsBeginningOf (s.node c).list (chain_of s.views)
  deciding_list_begins_chain = (k.each c).list d.up

  -- the coordinator is a member all the way up
  on_chain : is_member_at_end (chain_of s.views) c ≡ true
  on_chain = (k.each c).stays d.up.there deciding_ballot_is_ok.staying (s.node c).list deciding_list_begins_chain d.needed

  pub coordinator_in_longer_chain_front : (p : List Entry) → IsBeginningOf p (chain_of s.views) → length (s.node c).list ≤ length p → is_member_at_end p c ≡ true
  coordinator_in_longer_chain_front p h l = member_of_both_is_between c k.views.good (shorter_beginning_begins_longer deciding_list_begins_chain h l) h d.needed on_chain

  -- a needed name has promised, and has no more than the coordinator
  pub needed_name_has_promised : (j : ℕ) → is_member_at_end (s.node c).list j ≡ true → IsThere (s.node j) → key_of_stamp (s.node c).promise ≤ key_of_stamp (s.node j).promise
  needed_name_has_promised j m t = either_of_two_gives (d.votes j m t)
      (λ x. let e = ap (λ i. key_of_stamp (s.node i).promise) x in omega arith)
      (λ x. (k.shown (key_of_stamp (s.node c).promise) j x.vote x.is).promised)

  vote_low : (v : List Entry) → IsBeginningOf v (chain_of s.views) → IsNoBetterList v (s.node c).list → length v ≤ length (s.node c).list
  vote_low v h worse = either_of_two_gives (le_or_gt (length v) (length (s.node c).list))
      (λ l. l)
      (λ l.
      let up = view_key_grows_along_list (beginning_of_good_is_good h k.views.good) (shorter_beginning_begins_longer deciding_list_begins_chain h (omega arith)) in
      either_of_two_gives worse
      (λ x. absurd (omega arith))
      (λ x. x.1))

  pub needed_list_is_no_longer : (j : ℕ) → is_member_at_end (s.node c).list j ≡ true → IsUp (s.node j) → length (s.node j).list ≤ length (s.node c).list
  needed_list_is_no_longer j m u = either_of_two_gives (d.votes j m u.there)
      (λ x. let e = ap (λ i. length (s.node i).list) x in omega arith)
      (λ x.
      let o = k.shown (key_of_stamp (s.node c).promise) j x.vote x.is in
      let low = vote_low x.vote (begins_through_both o.list ((k.each j).list u)) x.worse in
      either_of_two_gives (k.short c j x.vote d.up d.ballot x.is u)
      (λ y. omega arith)
      (λ y. y))

  -- a departed name's Leave stands in the coordinator's list
  pub departed_leave_in_deciding_list : (e : ℕ) (h : (s.node e).departed ≡ true) → IsBeginningOf ((k.departed e h).before ++ Leave e ∷ []) (s.node c).list
  departed_leave_in_deciding_list e h =
      let o = k.departed e h in
      let more = length_of_pushed_list o.before (Leave e) in
      either_of_two_gives (le_or_gt (length (o.before ++ Leave e ∷ [])) (length (s.node c).list))
      (λ l. shorter_beginning_begins_longer o.chain deciding_list_begins_chain l)
      (λ l.
      o.stored c (coordinator_in_longer_chain_front o.before (begins_through_both (front_begins_append o.before (Leave e ∷ [])) o.chain) (omega arith)) d.up.there deciding_ballot_is_ok.staying)

  -- each complete view's View does
  pub complete_view_in_deciding_list : (g : ℕ) → s.views.complete g ≡ true → IsBeginningOf (list_with_chosen_view (s.views.chosen g)) (s.node c).list
  complete_view_in_deciding_list g h =
      let o = k.views.complete g h in
      let ch = s.views.chosen g in
      either_of_two_gives (le_or_gt (length (list_with_chosen_view ch)) (length (s.node c).list))
      (λ l. shorter_beginning_begins_longer o deciding_list_begins_chain l)
      (λ l.
      (k.each c).complete g h d.up.there (member_of_pushed_view_members ch.before ch.view c (coordinator_in_longer_chain_front (list_with_chosen_view ch) o (omega arith))))

  -- Who holds more of the chain than the coordinator are too few: if none of them is up, they are stopped undeparted, and
  -- count for the greatest complete view.
  module _ (p at : List Entry) (chain : IsBeginningOf p (chain_of s.views)) (above : IsBeginningOf (s.node c).list at) (below : IsBeginningOf at p)
      (longer : length (s.node c).list < length p)
      (count_in holders : ℕ → Bool) (in_count : (h : ℕ) → holders h ≡ true → count_in h ≡ true) (members_at : (h : ℕ) → count_in h ≡ true
      → is_member_at_end at h ≡ true) (at_members : (h : ℕ) → is_member_at_end at h ≡ true → count_in h ≡ true)
      (logs : (h : ℕ) → holders h ≡ true → (s.node h).has_log ≡ true) (stored : (h : ℕ) → holders h ≡ true → IsBeginningOf p (s.node h).list)
      (low : (h : ℕ) → holders h ≡ true → IsUp (s.node h) → length (s.node h).list ≤ length (s.node c).list)
      (enough : min (resilience_of_list p + 1) (count_of_passing_names count_in) ≤ count_of_passing_names holders) where
    not_up : (h : ℕ) → holders h ≡ true → IsUp (s.node h) → ⊥
    not_up h t u = let l = low h t u in let m = beginning_is_no_longer (stored h t) in let z : ⊥ = omega arith in z

    not_departed : (h : ℕ) → holders h ≡ true → (s.node h).departed ≡ true → ⊥
    not_departed h t gone =
        let o = k.departed h gone in
        let inside = departed_leave_in_deciding_list h gone in
        let good = beginning_of_good_is_good (begins_through_both inside deciding_list_begins_chain) k.views.good in
        leaver_is_no_member o.before h good (member_of_both_is_between h (beginning_of_good_is_good (begins_through_both below chain) k.views.good) (front_begins_append o.before (Leave h ∷ []))
        (begins_through_both inside above) (leaver_was_member o.before h good) (members_at h (in_count h t)))

    is_stopped : (h : ℕ) → holders h ≡ true → ((s.node h).stopped ≡ true) × ((s.node h).departed ≡ false)
    is_stopped h t = split_on_bool (s.node h).departed
        (λ gone. absurd (not_departed h t gone))
        (λ stays. split_on_bool (s.node h).stopped
        (λ x. (x, stays))
        (λ goes. absurd (not_up h t (record { log = logs h t; there = record { goes = goes; stays = stays } }))))

    counts : (g : ℕ) → s.views.complete g ≡ true → (h : ℕ) → holders h ≡ true → counts_for s g h ≡ true
    counts g is h t = or_both (has (s.views.chosen g).members h) (s.node h).has_log (nat_lt (length (list_with_chosen_view (s.views.chosen g))) (s.node h).start)
        (λ f. (logs h t, late g is h t f (le_or_gt (s.node h).start (length (list_with_chosen_view (s.views.chosen g))))))
      where
        late : (g : ℕ) → s.views.complete g ≡ true → (h : ℕ) → holders h ≡ true → has (s.views.chosen g).members h ≡ false
            → ((s.node h).start ≤ length (list_with_chosen_view (s.views.chosen g))) ⊎ (length (list_with_chosen_view (s.views.chosen g)) < (s.node h).start)
            → nat_lt (length (list_with_chosen_view (s.views.chosen g))) (s.node h).start ≡ true
        late g is h t f w = either_of_two_gives w
            (λ x.
            let ch = s.views.chosen g in
            let j = (k.each h).joined (logs h t) in
            let long = length_of_taken_list (s.node h).start s.group j.accepted in
            let first = begins_through_both (taken_front_begins_list (s.node h).start s.group) k.group in
            let part = shorter_beginning_begins_longer first (k.views.complete g is) (omega arith) in
            let good = beginning_of_good_is_good (begins_through_both below chain) k.views.good in
            let there = member_of_both_is_between h good part (begins_through_both (complete_view_in_deciding_list g is) above) j.member (members_at h (in_count h t)) in
            let z = member_of_pushed_view_members ch.before ch.view h there in absurd (cc))
            (λ x. grind (arith, nat_tests))

    pub nothing_held_beyond_deciding_list : ⊥
    nothing_held_beyond_deciding_list =
        let g = greatest_of s.views.complete (key_of_stamp s.views.current) k.views.some.0 k.views.some.1 (λ y h. k.views.order y (k.views.marked y h)) in
        let ch = s.views.chosen g.0 in
        let law = lawful g.0 g.1 g.2 in
        let few = count_le_of_weaker_test holders (λ name. counts_for s g.0 name && ((s.node name).stopped && not (s.node name).departed)) 256 (λ h t. let q =
        is_stopped h t in and_true (counts_for s g.0 h) (s.node h).stopped (s.node h).departed (counts g.0 g.1 h t) q.0 q.1) in
        let c_in = at_members c (coordinator_in_longer_chain_front at (begins_through_both below chain) (beginning_is_no_longer above)) in
        let c_out : holders c ≡ false = split_on_bool (holders c) (λ t. absurd (not_up c t d.up)) (λ f. f) in
        let fewer = count_lt_of_weaker_test holders count_in 256 c in_count d.small c_out c_in in
        let rises = resilience_grows_along_list (beginning_of_good_is_good chain k.views.good) (begins_through_both (complete_view_in_deciding_list g.0 g.1) (begins_through_both above below)) in
        let there = resilience_of_pushed_view ch.before ch.view in
        omega arith

  -- what was accepted stands in the coordinator's list
  pub group_list_begins_deciding_list : IsBeginningOf s.group (s.node c).list
  group_list_begins_deciding_list = either_of_two_gives (le_or_gt (length s.group) (length (s.node c).list))
      (λ l. shorter_beginning_begins_longer k.group deciding_list_begins_chain l)
      (λ l. absurd (lost l))
    where
      lost : length (s.node c).list < length s.group → ⊥
      lost l =
          let some : 0 < length (s.node c).list = either_of_two_gives (le_or_gt (length (s.node c).list) 0)
          (λ x. absurd (empty_list_has_no_member c (subst (λ y. is_member_at_end y c ≡ true) (sym (begins_not_longer_is_same (empty_list_begins_all (s.node c).list) x)) d.needed)))
          (λ x. x) in
          let w = k.witness (length (s.node c).list + 1) (omega arith) (omega arith) in
          let n = w.number in
          let a = w.above in
          let b = w.within in
          let good = beginning_of_good_is_good k.group k.views.good in
          let at = counted_at s.group n good (omega arith) b in
          let whole = taken_front_begins_list n s.group in
          let long = length_of_taken_list n s.group b in
          let shorter = length_of_taken_list (n - 1) s.group (omega arith) in
          let up_to = shorter_beginning_begins_longer deciding_list_begins_chain (begins_through_both (taken_front_begins_list (n - 1) s.group) k.group) (omega arith) in
          let above = begins_through_both up_to at.above in
          let good_at : IsGoodList at.at = beginning_of_good_is_good (begins_through_both at.below whole) good in
          nothing_held_beyond_deciding_list (take n s.group) at.at (begins_through_both whole k.group) above at.below (omega arith)
          (has (counting_names_in s.group n)) w.holders w.counts at.members at.back w.logs w.stored
          (λ h t u.
          let j = (k.each h).joined (w.logs h t) in
          let early = w.joined h t in
          let start = length_of_taken_list (s.node h).start s.group j.accepted in
          let part = shorter_beginning_begins_longer (begins_through_both (taken_front_begins_list (s.node h).start s.group) k.group) deciding_list_begins_chain (omega arith) in
          needed_list_is_no_longer h (member_of_both_is_between {a = take (s.node h).start s.group} {b = (s.node c).list} {c =
          at.at} h good_at part above j.member (at.members h (w.counts h t))) u)
          w.enough
