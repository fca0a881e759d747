-- Votes, and what voters send of their lists.
use Rattle.am_abstract_group.proofs.Words.{◌≡◌, ◌≢◌, ◌⊎◌, inl, ℕ, ◌<◌, ◌≤◌, true, List, length, Option, Some, None, sym, ap, ◌∙◌, subst, arith, Entry, IsBeginningOf, is_member_at_end, key_of_stamp}
use Rattle.am_abstract_group.proofs.Words.{list_begins_itself, begins_through_both, equal_keys_have_equal_names, function_with_value_of_two, Group, IsThere, IsUp, ServedListBeginsChain, GroupKeeps}
use Rattle.am_abstract_group.proofs.{Puts.put2_at_same_or_other, Puts.either_of_two_gives}

some_same : {x y : List Entry} → ◌≡◌ {A = Option (List Entry)} (Some x) (Some y) → x ≡ y
some_same e = cc

module _ (s : Group) (k : GroupKeeps s) where
  -- by the key of the promise of who shows or is served
  module _ (i : ℕ) where
    abbrev p : ℕ
    p = key_of_stamp (s.node i).promise

    pub show_keeps_group : IsThere (s.node i) → (s.node i).promise.by < 256 → (s.node i).promise.by ≢ i → p ≤ key_of_stamp (s.node (s.node i).promise.by).promise
        → s.shown p i ≡ None → GroupKeeps (record s { shown = function_with_value_of_two s.shown p i (Some (s.node i).list) })
    show_keeps_group t small other begun none = record {
      views = k.views;
      group = k.group;
      each = k.each;
      shown = λ x name l h. either_of_two_gives (put2_at_same_or_other s.shown p i (Some (s.node i).list) x name)
          (λ c.
          let same : (s.node i).list ≡ l = some_same (sym c.2 ∙ h) in
          let at = ap (λ j. key_of_stamp (s.node j).promise) c.1 in
          let is = c.0 in
          record {
            promised = omega arith;
            list = subst (λ y. IsBeginningOf y (s.node name).list) (ap (λ j. (s.node j).list) c.1 ∙ same) (list_begins_itself (s.node name).list);
            stamp = (s.node i).promise;
            is = sym is;
            small = small;
            other = λ same. other (same ∙ c.1);
            begun = omega arith;
          })
          (λ c. k.shown x name l (sym c.1 ∙ h));
      still = λ v l h none. either_of_two_gives (put2_at_same_or_other s.shown p i (Some (s.node i).list) (key_of_stamp (s.node v).promise) v)
          (λ d.
          ap (λ j. (s.node j).list) d.1 ∙ some_same (sym d.2 ∙ h))
          (λ d. k.still v l (sym d.1 ∙ h) none);
      short = λ c v l u b h w. either_of_two_gives (put2_at_same_or_other s.shown p i (Some (s.node i).list) (key_of_stamp (s.node c).promise) v)
          (λ d.
          let same : (s.node i).list ≡ l = some_same (sym d.2 ∙ h) in
          let a = ap (λ j. length (s.node j).list) d.1 in
          let b = ap length same in
          inl (omega arith))
          (λ d. k.short c v l u b (sym d.1 ∙ h) w);
      served = λ c v l u b served h. either_of_two_gives (put2_at_same_or_other s.shown p i (Some (s.node i).list) (key_of_stamp (s.node c).promise) v)
          (λ d.
          let was = k.sent (key_of_stamp (s.node c).promise) v served in
          let old : s.shown p i ≡ Some was.0 = subst (λ j. s.shown p j ≡ Some was.0) d.1 (subst (λ x. s.shown x v ≡ Some was.0) d.0 was.1) in
          absurd (cc))
          (λ d. k.served c v l u b served (sym d.1
          ∙ h));
      sent = λ x v served. either_of_two_gives (put2_at_same_or_other s.shown p i (Some (s.node i).list) x v)
          (λ d. ((s.node i).list, d.2))
          (λ d. let was = k.sent x v served in (was.0, d.1 ∙ was.1));
      witness = k.witness;
      departed = k.departed;
      enough = k.enough;
    }

    pub serve_keeps_group : (list : List Entry) → IsUp (s.node i) → s.shown p i ≡ Some list
        → ((j : ℕ) → is_member_at_end list j ≡ true → IsThere (s.node j) → (j ≡ (s.node i).promise.by)
        ⊎ ((vote : List Entry) × (s.shown p j ≡ Some vote))) → GroupKeeps (record s { served = function_with_value_of_two s.served p i true })
    serve_keeps_group list up is voted =
        let served : (c v : ℕ) (l : List Entry) → IsUp (s.node c) → (s.node c).ballot ≡ true → function_with_value_of_two s.served p i true (key_of_stamp (s.node c).promise) v ≡ true
        → s.shown (key_of_stamp (s.node c).promise) v ≡ Some l → ServedListBeginsChain s.node s.views (key_of_stamp (s.node c).promise) l = λ c v l u b served h.
        either_of_two_gives (put2_at_same_or_other s.served p i true (key_of_stamp (s.node c).promise) v)
        (λ d.
        let old : s.shown p i ≡ Some l = subst (λ j. s.shown p j ≡ Some l) d.1 (subst (λ x. s.shown x v ≡ Some l) d.0 h) in
        let same : list ≡ l = some_same (sym is ∙ old) in
        let o = k.shown p i list is in
        let by = ((k.each c).ballot u b).by in
        let at = d.0 in
        record {
          chain = begins_through_both (subst (λ y. IsBeginningOf y (s.node i).list) same o.list) ((k.each i).list up);
          promised = λ j t m. either_of_two_gives (voted j (subst (λ y. is_member_at_end y j ≡ true) (sym same) m) t)
              (λ x.
              let e = x ∙ sym (equal_keys_have_equal_names (s.node c).promise (s.node i).promise (k.each c).small (k.each i).small at) ∙ by in
              let q = ap (λ y. key_of_stamp (s.node y).promise) e in omega arith)
              (λ x. let q = (k.shown p j x.0 x.1).promised in omega arith);
        })
        (λ d. k.served c v l u b (sym d.1 ∙ served) h) in
        let sent : (x v : ℕ) → function_with_value_of_two s.served p i true x v ≡ true → (l : List Entry) × (s.shown x v ≡ Some l) = λ x v served.
        either_of_two_gives (put2_at_same_or_other s.served p i true x v)
        (λ d. (list, subst (λ j. s.shown x j ≡ Some list) (sym d.1) (subst (λ y. s.shown y i ≡ Some list) (sym d.0) is)))
        (λ d. k.sent x v (sym d.1 ∙ served)) in
        assumption (served, sent)
