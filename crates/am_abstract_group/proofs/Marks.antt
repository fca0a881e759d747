-- A view that completes stands in the chain.
use Rattle.am_abstract_group.proofs.Words.{le_or_gt, split_on_bool, ◌≡◌, ◌⊎◌, ℕ, Bool, true, [], ◌∷◌, length, refl, ap, arith, View, has, image_after_entries, IsBeginningOf, stamp_of_list}
use Rattle.am_abstract_group.proofs.Words.{key_of_stamp, front_begins_append, shorter_beginning_begins_longer, length_of_pushed_list, beginning_of_good_is_good, view_key_grows_along_list, view_below_pushed_view, list_with_chosen_view, Views, Group, chain_of, IsThere}
use Rattle.am_abstract_group.proofs.Words.{ViewCompletes, NodeIsSound, GroupKeeps, List, ◌<◌, Some, Entry, IsUp, Leads, LeaderHasChain, LateNodeHasLeft, BallotIsAboveView, ServedListBeginsChain, DepartedLeaveIsStored}
use Rattle.am_abstract_group.proofs.{Puts.either_of_two_gives}

view_nil : key_of_stamp (stamp_of_list []) ≡ 0
unfolding image_after_entries stamp_of_list key_of_stamp
view_nil = refl

module _ (s : Group) (k : GroupKeeps s) (complete : ℕ → Bool) (stay : (x : ℕ) → s.views.complete x ≡ true → complete x ≡ true) (marks : (x : ℕ) → complete x ≡ true
    → (s.views.complete x ≡ true) ⊎ ViewCompletes s x) where
  abbrev views : Views
  views = record s.views { complete = complete }

  -- it stands there, as enough have stored its View
  stands : (x : ℕ) → ViewCompletes s x → IsBeginningOf (list_with_chosen_view (s.views.chosen x)) (chain_of s.views)
  stands x h = k.enough x h.decided h.holders h.counts h.stored h.enough

  -- and each of its members that is there has stored it
  stored : (x : ℕ) → ViewCompletes s x → (j : ℕ) → IsThere (s.node j) → has (s.views.chosen x).members j ≡ true
      → IsBeginningOf (list_with_chosen_view (s.views.chosen x)) (s.node j).list
  stored x h j t m =
      let ch = s.views.chosen x in
      let on = stands x h in
      let good = beginning_of_good_is_good on k.views.good in
      let low = view_below_pushed_view ch.before ch.view good in
      let stamp = k.views.stamps x h.decided in
      let last = h.none_lags j m t in
      let long = length_of_pushed_list ch.before (View ch.view) in
      split_on_bool (s.node j).has_log
      (λ log.
      let mine = (k.each j).list (record { log = log; there = t }) in
      either_of_two_gives (le_or_gt (length (list_with_chosen_view ch)) (length (s.node j).list))
      (λ l. shorter_beginning_begins_longer on mine l)
      (λ l.
      let part = shorter_beginning_begins_longer (shorter_beginning_begins_longer mine on (omega arith)) (front_begins_append ch.before (View ch.view ∷ [])) (omega arith) in
      let up = view_key_grows_along_list (beginning_of_good_is_good (front_begins_append ch.before (View ch.view ∷ [])) good) part in
      absurd (omega arith)))
      (λ none.
      let e = ap (λ l. key_of_stamp (stamp_of_list l)) ((k.each j).blank none) in
      let z = view_nil in absurd (omega arith))

  node_marked : (j : ℕ) → NodeIsSound views s.group j (s.node j)
  node_marked j =
      let ok = k.each j in
      let leads : Leads j (s.node j) → LeaderHasChain views j (s.node j) = λ l. assumption (ok.leads l) in
      let late : IsUp (s.node j) → key_of_stamp (s.node j).promise < key_of_stamp s.views.current → LateNodeHasLeft views j (s.node j) = λ u l. let o = ok.late u l in
      search (o.before, o.last, o) in
      let ballot : IsUp (s.node j) → (s.node j).ballot ≡ true → BallotIsAboveView views j (s.node j) = λ u b. assumption (ok.ballot u b) in
      let done : (x : ℕ) → complete x ≡ true → IsThere (s.node j) → has (s.views.chosen x).members j ≡ true → IsBeginningOf (list_with_chosen_view (s.views.chosen x)) (s.node j).list
      = λ x h t m. either_of_two_gives (marks x h) (λ o. ok.complete x o t m) (λ o. stored x o j t m) in
      assumption (leads, late, ballot, done)

  pub completed_view_keeps_group : GroupKeeps (record s { views = record s.views { complete = complete } })
  completed_view_keeps_group =
      let done : (x : ℕ) → complete x ≡ true → IsBeginningOf (list_with_chosen_view (s.views.chosen x)) (chain_of s.views)
      = λ x h. either_of_two_gives (marks x h) (λ o. k.views.complete x o) (λ o. stands x o) in
      let marked : (x : ℕ) → complete x ≡ true → s.views.decided x ≡ true = λ x h. either_of_two_gives (marks x h) (λ o. k.views.marked x o) (λ o. o.decided) in
      let some : (x : ℕ) × (complete x ≡ true) = (k.views.some.0, stay k.views.some.0 k.views.some.1) in
      let served : (c h : ℕ) (l : List Entry) → IsUp (s.node c) → (s.node c).ballot ≡ true → s.served (key_of_stamp (s.node c).promise) h ≡ true
      → s.shown (key_of_stamp (s.node c).promise) h ≡ Some l → ServedListBeginsChain s.node views (key_of_stamp (s.node c).promise) l
      = λ c h l u b a d. assumption (k.served c h l u b a d) in
      let departed : (e : ℕ) → (s.node e).departed ≡ true → DepartedLeaveIsStored s.node views e = λ e h. let o = k.departed e h in search (o.before, o) in
      assumption (done, marked, some, node_marked, served, departed)
