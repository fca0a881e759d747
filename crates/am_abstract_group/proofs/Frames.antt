-- What a change of one node leaves as it was.
use Rattle.am_abstract_group.proofs.Words.{split_on_bool, ◌≡◌, ◌≢◌, ◌⊎◌, inl, inr, ℕ, ◌≤◌, true, false, List, length, Some, refl, sym, ap, ◌∙◌, subst, arith, Entry, IsBeginningOf, key_of_stamp}
use Rattle.am_abstract_group.proofs.Words.{list_begins_itself, begins_through_both, beginning_is_no_longer, function_with_value, ChainNode, list_with_chosen_view, Views, Group, IsThere, IsUp, group_with_node, NodeIsSound, ShownListIsPromised}
use Rattle.am_abstract_group.proofs.Words.{ServedListBeginsChain, Witness, DepartedLeaveIsStored, GroupKeeps, ◌<◌, take}
use Rattle.am_abstract_group.proofs.Puts.{put_at_same_or_other, put_at_same_index, put_keeps_property, either_of_two_gives}

-- a node later on: it has no less, and it isn't there again nor stays again
pub record NodeHasNoLess (a b : ChainNode) : Type 0 where
  pub list : IsBeginningOf a.list b.list
  pub log : a.has_log ≡ true → b.has_log ≡ true
  pub start : a.has_log ≡ true → b.start ≡ a.start
  pub there : IsThere b → IsThere a
  pub staying : b.leaving ≡ false → a.leaving ≡ false
  pub promise : key_of_stamp a.promise ≤ key_of_stamp b.promise

later_refl : (a : ChainNode) → NodeHasNoLess a a
later_refl a = record { list = list_begins_itself a.list; log = λ h. h; start = λ h. refl; there = λ h. h; staying = λ h. h; promise = omega arith }

-- with the same list, and the same but for its promise and its ballot
pub higher_promise_has_no_less : (a b : ChainNode) → b.list ≡ a.list → b.has_log ≡ a.has_log → b.start ≡ a.start → b.leaving ≡ a.leaving → (IsThere b → IsThere a)
    → key_of_stamp a.promise ≤ key_of_stamp b.promise → NodeHasNoLess a b
higher_promise_has_no_less a b list log start leaving there up = record {
  list = subst (IsBeginningOf a.list) (sym list) (list_begins_itself a.list);
  log = λ h. log ∙ h;
  start = λ h. start;
  there = there;
  staying = λ h. sym leaving ∙ h;
  promise = up;
}

pub all_nodes_have_no_less : (node : ℕ → ChainNode) (i : ℕ) (n : ChainNode) → NodeHasNoLess (node i) n → (j : ℕ) → NodeHasNoLess (node j) (function_with_value node i n j)
all_nodes_have_no_less node i n h = put_keeps_property (λ j m. NodeHasNoLess (node j) m) node i n h (λ j _. later_refl (node j))

pub later_nodes_keep_shown_list : (a b : ℕ → ChainNode) (x name : ℕ) (l : List Entry) → ((j : ℕ) → NodeHasNoLess (a j) (b j)) → ShownListIsPromised a x name l → ShownListIsPromised b x name l
later_nodes_keep_shown_list a b x name l up h =
    let q = (up name).promise in let t = (up h.stamp.by).promise in
    let promised : x ≤ key_of_stamp (b name).promise = omega arith in let begun : x ≤ key_of_stamp (b h.stamp.by).promise = omega arith in
    search (h.stamp, promised, begun, begins_through_both h.list (up name).list)

pub later_nodes_keep_served_list : (a b : ℕ → ChainNode) (views : Views) (x : ℕ) (l : List Entry) → ((j : ℕ) → NodeHasNoLess (a j) (b j)) → ServedListBeginsChain a views x l → ServedListBeginsChain b views x l
later_nodes_keep_served_list a b views x l up h = record {
  chain = h.chain;
  promised = λ j t m. let p = h.promised j ((up j).there t) m in let q = (up j).promise in
      omega arith;
}

pub later_nodes_keep_witness : (a b : ℕ → ChainNode) (group : List Entry) (n : ℕ) → ((j : ℕ) → NodeHasNoLess (a j) (b j)) → Witness a group n → Witness b group n
later_nodes_keep_witness a b group n up w =
    let logs : (h : ℕ) → w.holders h ≡ true → (b h).has_log ≡ true = λ h t. (up h).log (w.logs h t) in
    let joined : (h : ℕ) → w.holders h ≡ true → (b h).start < n = λ h t. let e = (up h).start (w.logs h t) in let z = w.joined h t in omega arith in
    let stored : (h : ℕ) → w.holders h ≡ true → IsBeginningOf (take w.number group) (b h).list = λ h t. begins_through_both (w.stored h t) (up h).list in
    search (w.number, w.holders, logs, joined, stored)

pub later_nodes_keep_departed : (a b : ℕ → ChainNode) (views : Views) (d : ℕ) → ((j : ℕ) → NodeHasNoLess (a j) (b j)) → DepartedLeaveIsStored a views d → DepartedLeaveIsStored b views d
later_nodes_keep_departed a b views d up h = record {
  before = h.before;
  chain = h.chain;
  stored = λ j m t l. begins_through_both (h.stored j m ((up j).there t) ((up j).staying l)) (up j).list;
}

module _ (s : Group) (k : GroupKeeps s) (i : ℕ) (n : ChainNode) where
  -- its ballot is the one that it had, or one that nobody voted for yet
  abbrev pub BallotIsOldOrUnvoted : Type 0
  BallotIsOldOrUnvoted = IsUp n → n.ballot ≡ true → (IsUp (s.node i) × ((s.node i).ballot ≡ true) × (n.promise ≡ (s.node i).promise))
      ⊎ ((h : ℕ) (l : List Entry) → s.shown (key_of_stamp n.promise) h ≡ Some l → ⊥)

  -- its list is as it was, or no longer than what it showed to each unfinished ballot, or than what the coordinator has
  abbrev pub ListIsOldOrShown : Type 0
  ListIsOldOrShown = ((n.list ≡ (s.node i).list) × (IsUp n → IsUp (s.node i)))
      ⊎ (IsUp n × ((c : ℕ) (l : List Entry) → c ≢ i → IsUp (s.node c) → (s.node c).ballot ≡ true → s.shown (key_of_stamp (s.node c).promise) i ≡ Some l
      → (length n.list ≤ length l) ⊎ (length n.list ≤ length (s.node c).list)))

  pub node_change_keeps_group : NodeHasNoLess (s.node i) n → NodeIsSound s.views s.group i n → BallotIsOldOrUnvoted → ListIsOldOrShown
      → ((l : List Entry) → s.shown (key_of_stamp n.promise) i ≡ Some l → s.views.decided (key_of_stamp n.promise) ≡ false → n.list ≡ l)
      → (n.departed ≡ true → ((s.node i).departed ≡ true) ⊎ DepartedLeaveIsStored s.node s.views i) → GroupKeeps (group_with_node s i n)
  node_change_keeps_group later ok ballot list still gone = record {
    views = k.views;
    group = k.group;
    each = put_keeps_property (λ j m. NodeIsSound s.views s.group j m) s.node i n ok (λ j _. k.each j);
    shown = λ x name l h. later_nodes_keep_shown_list s.node (function_with_value s.node i n) x name l up (k.shown x name l h);
    still = put_keeps_property (λ v m. (l : List Entry) → s.shown (key_of_stamp m.promise) v ≡ Some l → s.views.decided (key_of_stamp m.promise) ≡ false
        → m.list ≡ l) s.node i n still (λ v _. k.still v);
    short = λ c v l. put_keeps_property
        (λ c m. IsUp m → m.ballot ≡ true → s.shown (key_of_stamp m.promise) v ≡ Some l → IsUp (function_with_value s.node i n v)
        → (length (function_with_value s.node i n v).list ≤ length l) ⊎ (length (function_with_value s.node i n v).list ≤ length m.list))
        s.node i n (short_own v l) (λ c other. short_other c v l other) c;
    served = λ c h l. put_keeps_property
        (λ c m. IsUp m → m.ballot ≡ true → s.served (key_of_stamp m.promise) h ≡ true → s.shown (key_of_stamp m.promise) h ≡ Some l
        → ServedListBeginsChain (function_with_value s.node i n) s.views (key_of_stamp m.promise) l)
        s.node i n
        (λ u b a d. either_of_two_gives (ballot u b)
        (λ o.
        subst (λ p. ServedListBeginsChain (function_with_value s.node i n) s.views (key_of_stamp p) l) (sym o.2) (later_nodes_keep_served_list s.node (function_with_value s.node i n) s.views (key_of_stamp (s.node i).promise) l up
        (k.served i h l o.0 o.1 (subst (λ p. s.served (key_of_stamp p) h ≡ true) o.2 a) (subst (λ p. s.shown (key_of_stamp p) h ≡ Some l) o.2 d))))
        (λ o. absurd (o h l d)))
        (λ c other u b a d. later_nodes_keep_served_list s.node (function_with_value s.node i n) s.views (key_of_stamp (s.node c).promise) l up (k.served c h l u b a d)) c;
    sent = k.sent;
    witness = λ m low high. later_nodes_keep_witness s.node (function_with_value s.node i n) s.group m up (k.witness m low high);
    departed = put_keeps_property (λ d m. m.departed ≡ true → DepartedLeaveIsStored (function_with_value s.node i n) s.views d) s.node i n
        (λ h. either_of_two_gives (gone h)
        (λ o. later_nodes_keep_departed s.node (function_with_value s.node i n) s.views i up (k.departed i o))
        (λ o. later_nodes_keep_departed s.node (function_with_value s.node i n) s.views i up o))
        (λ d other h. later_nodes_keep_departed s.node (function_with_value s.node i n) s.views d up (k.departed d h));
    enough = λ x decided holders counts stored much. split_on_bool (holders i)
        (λ t. either_of_two_gives list
        (λ o.
        k.enough x decided holders counts (λ h y. either_of_two_gives (put_at_same_or_other s.node i n h)
        (λ z. subst (λ j. IsBeginningOf (list_with_chosen_view (s.views.chosen x)) (s.node j).list) (sym z.0)
        (subst (IsBeginningOf (list_with_chosen_view (s.views.chosen x))) (ap (λ (m : ChainNode). m.list) z.1 ∙ o.0) (stored h y)))
        (λ z. subst (λ (m : ChainNode). IsBeginningOf (list_with_chosen_view (s.views.chosen x)) m.list) z.1 (stored h y))) much)
        (λ o.
        begins_through_both (subst (λ (m : ChainNode). IsBeginningOf (list_with_chosen_view (s.views.chosen x)) m.list) (put_at_same_index s.node i n) (stored i t)) (ok.list o.0)))
        (λ f. k.enough x decided holders counts (λ h y. either_of_two_gives (put_at_same_or_other s.node i n h)
        (λ z. let u : holders i ≡ true = subst (λ j. holders j ≡ true) z.0 y in absurd (cc))
        (λ z. subst (λ (m : ChainNode). IsBeginningOf (list_with_chosen_view (s.views.chosen x)) m.list) z.1 (stored h y))) much);
  }
    where
      up : (j : ℕ) → NodeHasNoLess (s.node j) (function_with_value s.node i n j)
      up = all_nodes_have_no_less s.node i n later

      short_own : (v : ℕ) (l : List Entry) → IsUp n → n.ballot ≡ true → s.shown (key_of_stamp n.promise) v ≡ Some l → IsUp (function_with_value s.node i n v)
          → (length (function_with_value s.node i n v).list ≤ length l) ⊎ (length (function_with_value s.node i n v).list ≤ length n.list)
      short_own v l u b d = put_keeps_property
          (λ v m. s.shown (key_of_stamp n.promise) v ≡ Some l → IsUp m → (length m.list ≤ length l) ⊎ (length m.list ≤ length n.list))
          s.node i n (λ _ _. inr (omega arith))
          (λ v other d w. either_of_two_gives (ballot u b)
          (λ o.
          let more = beginning_is_no_longer later.list in
          either_of_two_gives (k.short i v l o.0 o.1 (subst (λ p. s.shown (key_of_stamp p) v ≡ Some l) o.2 d) w)
          (λ a. inl a)
          (λ a. inr (omega arith)))
          (λ o. absurd (o v l d))) v d

      short_other : (c v : ℕ) (l : List Entry) → c ≢ i → IsUp (s.node c) → (s.node c).ballot ≡ true → s.shown (key_of_stamp (s.node c).promise) v ≡ Some l
          → IsUp (function_with_value s.node i n v) → (length (function_with_value s.node i n v).list ≤ length l) ⊎ (length (function_with_value s.node i n v).list ≤ length (s.node c).list)
      short_other c v l other u b d = put_keeps_property
          (λ v m. s.shown (key_of_stamp (s.node c).promise) v ≡ Some l → IsUp m → (length m.list ≤ length l) ⊎ (length m.list ≤ length (s.node c).list))
          s.node i n
          (λ d w. either_of_two_gives list
          (λ o. let e = ap length o.0 in
          either_of_two_gives (k.short c i l u b d (o.1 w))
          (λ a. inl (omega arith))
          (λ a. inr (omega arith)))
          (λ o. o.1 c l other u b d))
          (λ v _ d w. k.short c v l u b d w) v d
