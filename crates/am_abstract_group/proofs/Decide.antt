-- A decision keeps what is kept.
use Rattle.am_abstract_group.proofs.Words.{le_or_gt, split_on_bool, ◌≡◌, ◌≢◌, ◌⊎◌, inl, inr, ℕ, ◌+◌, ◌<◌, ◌≤◌, min, Bool, true, false, List, [], ◌∷◌, ◌++◌, length, take}
use Rattle.am_abstract_group.proofs.Words.{Some, refl, sym, ap, ◌∙◌, subst, arith, GroupView, Entry, View, has, IsBeginningOf, IsGoodList, is_member_at_end, stamp_of_list, key_of_stamp, list_begins_itself}
use Rattle.am_abstract_group.proofs.Words.{front_begins_append, begins_through_both, beginning_is_no_longer, shorter_beginning_begins_longer, length_of_pushed_list, begins_below_begins, shorter_beginning_is_below, begins_push_or_is_push, taken_front_begins_list}
use Rattle.am_abstract_group.proofs.Words.{member_of_both_is_between, member_of_pushed_view_members, name_in_view_is_member, beginning_of_good_is_good, pushed_list_is_good, MembershipEnds, membership_ends_between, view_after_pushed_view, greater_view_fits, equal_keys_have_equal_names, resilience_of_pushed_view}
use Rattle.am_abstract_group.proofs.Words.{function_with_value, count_of_passing_names, ChainNode, Chosen, list_with_chosen_view, Views, Group, chain_of, current_of, IsThere, IsUp, CoordinatorMayDecide, chosen_by, group_with_choice}
use Rattle.am_abstract_group.proofs.Words.{IsLawful, LateNodeHasLeft, NodeIsSound, ServedListBeginsChain, DepartedLeaveIsStored, ViewsAreSound, GroupKeeps}
use Rattle.am_abstract_group.proofs.Heart.{deciding_ballot_is_ok, deciding_list_begins_chain, coordinator_in_longer_chain_front, needed_name_has_promised, needed_list_is_no_longer, departed_leave_in_deciding_list, complete_view_in_deciding_list, group_list_begins_deciding_list, nothing_held_beyond_deciding_list}
use Rattle.am_abstract_group.proofs.Puts.{put_at_same_or_other, put_at_same_index, put_at_other_index, put_keeps_property, either_of_two_gives}
use Rattle.am_abstract_group.proofs.Frames.{NodeHasNoLess, all_nodes_have_no_less, later_nodes_keep_shown_list, later_nodes_keep_served_list, later_nodes_keep_witness}
use Rattle.am_abstract_group.proofs.{Nodes.fronts_hold_in_longer_list, Nodes.acting_view_le_current}

module _ (s : Group) (k : GroupKeeps s) (lawful : IsLawful s) (c : ℕ) (v : GroupView) (d : CoordinatorMayDecide s c v) where
  abbrev list : List Entry
  list = (s.node c).list

  abbrev w : ℕ
  w = key_of_stamp (s.node c).promise

  abbrev choice : Chosen
  choice = chosen_by (s.node c) v

  abbrev node : ChainNode
  node = record (s.node c) { list = list_with_chosen_view choice; ballot = false }

  abbrev views : Views
  views = (group_with_choice s c v).views

  chain : IsBeginningOf list (chain_of s.views)
  chain = deciding_list_begins_chain s k lawful c v d

  pub group_begins_deciding_list : IsBeginningOf s.group list
  group_begins_deciding_list = group_list_begins_deciding_list s k lawful c v d

  above : key_of_stamp s.views.current < w
  above = (deciding_ballot_is_ok s k lawful c v d).above

  older : (x : ℕ) → s.views.decided x ≡ true → x ≢ w
  older x h e = let o = k.views.order x h in let a = above in let z : ⊥ = omega arith in z

  has_own : has v.members c ≡ true
  has_own = d.all c d.needed d.up.there

  good : IsGoodList (list_with_chosen_view choice)
  good =
      let fine = beginning_of_good_is_good chain k.views.good in
      let now = acting_view_le_current s.views list k.views chain in
      let a = above in
      let by : has v.members (s.node c).promise.by ≡ true = subst (λ j. has v.members j ≡ true) (sym (deciding_ballot_is_ok s k lawful c v d).by) has_own in
      pushed_list_is_good list (View choice.view) fine
      (greater_view_fits list choice.view fine (k.each c).small (omega arith) d.within by d.strong) (k.each c).small

  more : IsBeginningOf list (list_with_chosen_view choice)
  more = front_begins_append list (View choice.view ∷ [])

  chain_is : chain_of views ≡ list_with_chosen_view choice
  chain_is = put_at_same_index s.views.line w (list_with_chosen_view choice)

  chosen_is : current_of views ≡ choice
  chosen_is = put_at_same_index s.views.chosen w choice

  pub earlier_choice_stays : (x : ℕ) → s.views.decided x ≡ true → views.chosen x ≡ s.views.chosen x
  earlier_choice_stays x h = put_at_other_index s.views.chosen w choice x (older x h)

  -- a decided ballot is the new one, or was decided
  decided_cases : (x : ℕ) → views.decided x ≡ true → (x ≡ w) ⊎ (s.views.decided x ≡ true)
  decided_cases x h = either_of_two_gives (put_at_same_or_other s.views.decided w true x)
      (λ z. inl z.0)
      (λ z. inr (sym z.1 ∙ h))

  pub earlier_decision_stays : (x : ℕ) → s.views.decided x ≡ true → views.decided x ≡ true
  earlier_decision_stays x h = put_at_other_index s.views.decided w true x (older x h) ∙ h

  -- what the coordinator has is in the new chain
  on_new : {a : List Entry} → IsBeginningOf a list → IsBeginningOf a (chain_of views)
  on_new h = subst (IsBeginningOf _) (sym chain_is) (begins_through_both h more)

  own_now : is_member_at_end (list_with_chosen_view choice) c ≡ true
  own_now = name_in_view_is_member list choice.view c good has_own

  views_decided : ViewsAreSound views
  views_decided = record {
    now = put_at_same_index s.views.decided w true;
    order = λ x h. either_of_two_gives (decided_cases x h) (λ z. omega arith) (λ z. let o = k.views.order x z in let a = above in
        omega arith);
    stamps = λ x h. either_of_two_gives (decided_cases x h)
        (λ z. ap (λ y. key_of_stamp (function_with_value s.views.chosen w choice y).stamp) z ∙ ap (λ (ch : Chosen). key_of_stamp ch.stamp) chosen_is ∙ sym z)
        (λ z. ap (λ (ch : Chosen). key_of_stamp ch.stamp) (earlier_choice_stays x z) ∙ k.views.stamps x z);
    good = subst IsGoodList (sym chain_is) good;
    view = ap stamp_of_list chain_is ∙ view_after_pushed_view list choice.view;
    opens = subst (λ ch. IsBeginningOf (list_with_chosen_view ch) (chain_of views)) (sym chosen_is) (subst (IsBeginningOf (list_with_chosen_view choice)) (sym chain_is) (list_begins_itself (list_with_chosen_view choice)));
    complete = λ x h. subst (λ ch. IsBeginningOf (list_with_chosen_view ch) (chain_of views)) (sym (earlier_choice_stays x (k.views.marked x h)))
        (on_new (complete_view_in_deciding_list s k lawful c v d x h));
    marked = λ x h. earlier_decision_stays x (k.views.marked x h);
    some = k.views.some;
  }

  -- the Join of each name with a log stands in what was chosen
  join_in : (j : ℕ) → (s.node j).has_log ≡ true → IsBeginningOf (take (s.node j).start s.group) list
  join_in j h = begins_through_both (taken_front_begins_list (s.node j).start s.group) group_begins_deciding_list

  -- who is up and stays is needed
  stays_in : (j : ℕ) → IsUp (s.node j) → is_member_at_end (chain_of s.views) j ≡ true → is_member_at_end list j ≡ true
  stays_in j u m = member_of_both_is_between j k.views.good (join_in j u.log) chain ((k.each j).joined u.log).member m

  -- each name that is up has a beginning of what was chosen
  all_low : (j : ℕ) → IsUp (s.node j) → IsBeginningOf (s.node j).list list
  all_low j u =
      let ok = k.each j in
      let on = ok.list u in
      split_on_bool (is_member_at_end list j)
      (λ t. shorter_beginning_begins_longer on chain (needed_list_is_no_longer s k lawful c v d j t u))
      (λ f. either_of_two_gives (le_or_gt (length (s.node j).list) (length list))
      (λ l. shorter_beginning_begins_longer on chain l)
      (λ l.
      let z = ok.own u (take (s.node j).start s.group) list (shorter_beginning_is_below (shorter_beginning_begins_longer chain on (omega arith)) l) (join_in j u.log) (ok.joined u.log).member in
      absurd (cc)))

  -- a ballot of another that is up is above the new view
  ballot_above : (j : ℕ) → j ≢ c → IsUp (s.node j) → (s.node j).ballot ≡ true → w < key_of_stamp (s.node j).promise
  ballot_above j other u b =
      let o = (k.each j).ballot u b in
      let mine = deciding_ballot_is_ok s k lawful c v d in
      let on = (k.each j).stays u.there o.staying (s.node j).list ((k.each j).list u) o.member in
      let p = needed_name_has_promised s k lawful c v d j (stays_in j u on) u.there in
      let apart : key_of_stamp (s.node j).promise ≢ w = λ same. other (sym o.by ∙ equal_keys_have_equal_names (s.node j).promise (s.node c).promise (k.each j).small (k.each c).small same
      ∙ mine.by) in
      omega arith

  -- a name that is late now
  late_now : (j : ℕ) → IsUp (s.node j) → key_of_stamp (s.node j).promise < w → LateNodeHasLeft views j (s.node j)
  late_now j u l =
      let ok = k.each j in
      let joined = ok.joined u.log in
      let out : is_member_at_end list j ≡ false = split_on_bool (is_member_at_end list j) (λ t. let p = needed_name_has_promised s k lawful c v d j t u.there in
      absurd (omega arith)) (λ f. f) in
      let e = membership_ends_between j (join_in j u.log) joined.member out in
      let b = e.before ++ e.last ∷ [] in
      let on = begins_through_both e.within chain in
      let reach : IsBeginningOf (s.node j).list b = either_of_two_gives (le_or_gt (length (s.node j).list) (length b))
      (λ x. shorter_beginning_begins_longer (ok.list u) on x)
      (λ x.
      let shorter = front_begins_append e.before (e.last ∷ []) in
      let z = ok.own u (take (s.node j).start s.group) b (shorter_beginning_is_below (shorter_beginning_begins_longer on (ok.list u) (omega arith)) x) (begins_through_both e.above shorter) joined.member in
      let ended = e.ended in absurd (cc)) in
      let lines : (x : ℕ) → views.decided x ≡ true → key_of_stamp (s.node j).promise ≤ x → IsBeginningOf b (views.line x) = λ x h p. either_of_two_gives (decided_cases x h)
      (λ z. subst (IsBeginningOf b) (sym (ap (function_with_value s.views.line w (list_with_chosen_view choice)) z)) (on_new e.within))
      (λ z. subst (IsBeginningOf b) (sym (put_at_other_index s.views.line w (list_with_chosen_view choice) x (older x z))) (old_line j u e x z p on)) in
      search (e.before, e.last, e, reach, lines)
    where
      old_line : (j : ℕ) (u : IsUp (s.node j)) (e : MembershipEnds (take (s.node j).start s.group) list j) (x : ℕ) → s.views.decided x ≡ true → key_of_stamp (s.node j).promise ≤ x
          → IsBeginningOf (e.before ++ e.last ∷ []) (chain_of s.views) → IsBeginningOf (e.before ++ e.last ∷ []) (s.views.line x)
      old_line j u e x h p on = either_of_two_gives (le_or_gt (key_of_stamp s.views.current) (key_of_stamp (s.node j).promise))
          (λ z.
          let o = k.views.order x h in
          let same : key_of_stamp s.views.current ≡ x = omega arith in
          subst (λ y. IsBeginningOf (e.before ++ e.last ∷ []) (s.views.line y)) same on)
          (λ z.
          let o = (k.each j).late u z in
          let then = o.lines (key_of_stamp s.views.current) k.views.now (omega arith) in
          let at_x = o.lines x h p in
          let long = length_of_pushed_list o.before o.last in
          let mine = length_of_pushed_list e.before e.last in
          either_of_two_gives (le_or_gt (length (e.before ++ e.last ∷ [])) (length (o.before ++ o.last ∷ [])))
          (λ y. begins_through_both (shorter_beginning_begins_longer on then y) at_x)
          (λ y.
          let up_to = begins_through_both (front_begins_append e.before (e.last ∷ [])) on in
          let still = member_of_both_is_between {b = o.before ++ o.last ∷ []} j (beginning_of_good_is_good up_to k.views.good) (front_begins_append o.before (o.last ∷ []))
          (shorter_beginning_begins_longer then up_to (omega arith)) o.member e.member in
          let ended = o.ended in absurd (cc)))

  other_ok : (j : ℕ) → j ≢ c → NodeIsSound views s.group j (s.node j)
  other_ok j other =
      let ok = k.each j in
      record {
        small = ok.small;
        list = λ u. on_new (all_low j u);
        blank = ok.blank;
        fronts = ok.fronts;
        leads = λ l.
            let o = ok.leads l in
            let p = needed_name_has_promised s k lawful c v d j (stays_in j l.up o.member) l.up.there in
            let q = ap key_of_stamp (l.acts ∙ ap stamp_of_list o.chain ∙ k.views.view) in
            let a = above in absurd (omega arith);
        promised = λ t m. needed_name_has_promised s k lawful c v d j (subst (λ (ch : Chosen). is_member_at_end ch.before j ≡ true) chosen_is m) t;
        stays = λ t l a h m. subst (λ y. is_member_at_end y j ≡ true) (sym chain_is) (either_of_two_gives (begins_push_or_is_push (View choice.view) (subst (IsBeginningOf a) chain_is h))
            (λ x.
            let on = ok.stays t l a (begins_through_both x chain) m in
            name_in_view_is_member list choice.view j good (d.all j (member_of_both_is_between j k.views.good x chain m on) t))
            (λ x. subst (λ y. is_member_at_end y j ≡ true) x m));
        joined = ok.joined;
        own = ok.own;
        late = λ u l. late_now j u l;
        ballot = λ u b. let o = ok.ballot u b in assumption (o, ballot_above j other u b);
        complete = λ x h t m.
            let same = earlier_choice_stays x (k.views.marked x h) in
            subst (λ ch. IsBeginningOf (list_with_chosen_view ch) (s.node j).list) (sym same) (ok.complete x h t (subst (λ (ch : Chosen). has ch.members j ≡ true) same m));
        heard = λ x h l. heard_old j x h l;
      }
    where
      heard_old : (j : ℕ) (x : ℕ) → views.decided x ≡ true → key_of_stamp (s.node j).promise < x → (s.node j).told ≤ length (views.chosen x).before
      heard_old j x h l = either_of_two_gives (decided_cases x h)
          (λ z.
          let e = ap (λ y. length (function_with_value s.views.chosen w choice y).before) z ∙ ap (λ (ch : Chosen). length ch.before) chosen_is in
          let t = (k.each j).fronts.told in
          let g = beginning_is_no_longer group_begins_deciding_list in omega arith)
          (λ z. let e = ap (λ (ch : Chosen). length ch.before) (earlier_choice_stays x z) in let o = (k.each j).heard x z l in omega arith)

  own_ok : NodeIsSound views s.group c node
  own_ok =
      let ok = k.each c in
      let whole : IsBeginningOf (list_with_chosen_view choice) (chain_of views) = subst (IsBeginningOf (list_with_chosen_view choice)) (sym chain_is) (list_begins_itself (list_with_chosen_view choice)) in
      let now : is_member_at_end (chain_of views) c ≡ true = subst (λ y. is_member_at_end y c ≡ true) (sym chain_is) own_now in
      record {
        small = ok.small;
        list = λ u. whole;
        blank = λ h. absurd (cc);
        fronts = fronts_hold_in_longer_list s.group (s.node c) node (View choice.view ∷ []) refl refl refl ok.fronts;
        leads = λ l. record { chain = sym chain_is; member = now };
        promised = λ t m. omega arith;
        stays = λ t l a h m. now;
        joined = λ h. let o = ok.joined h in record { accepted = o.accepted; member = o.member };
        own = λ u a e below h m. member_of_both_is_between c good h (begins_below_begins below) m own_now;
        late = λ u l. absurd (omega arith);
        ballot = λ u b. absurd (cc);
        complete = λ x h t m. subst (λ ch. IsBeginningOf (list_with_chosen_view ch) (list_with_chosen_view choice)) (sym (earlier_choice_stays x (k.views.marked x h)))
            (begins_through_both (complete_view_in_deciding_list s k lawful c v d x h) more);
        heard = λ x h l. either_of_two_gives (decided_cases x h) (λ z. absurd (omega arith)) (λ z. let o = k.views.order x z in let a = above in
            absurd (omega arith));
      }

  later : NodeHasNoLess (s.node c) node
  later = record {
    list = more;
    log = λ h. h;
    start = λ h. refl;
    there = λ t. record { goes = t.goes; stays = t.stays };
    staying = λ h. h;
    promise = omega arith;
  }

  up : (j : ℕ) → NodeHasNoLess (s.node j) (function_with_value s.node c node j)
  up = all_nodes_have_no_less s.node c node later

  enough_new : (x : ℕ) → views.decided x ≡ true → (holders : ℕ → Bool) → ((h : ℕ) → holders h ≡ true → has (views.chosen x).members h ≡ true)
      → ((h : ℕ) → holders h ≡ true → IsBeginningOf (list_with_chosen_view (views.chosen x)) (function_with_value s.node c node h).list)
      → min ((views.chosen x).resilience + 1) (count_of_passing_names (has (views.chosen x).members)) ≤ count_of_passing_names holders → IsBeginningOf (list_with_chosen_view (views.chosen x)) (chain_of views)
  enough_new x h holders counts stored much = either_of_two_gives (decided_cases x h)
      (λ z. subst (λ ch. IsBeginningOf (list_with_chosen_view ch) (chain_of views)) (sym (ap (function_with_value s.views.chosen w choice) z ∙ chosen_is))
      (subst (IsBeginningOf (list_with_chosen_view choice)) (sym chain_is) (list_begins_itself (list_with_chosen_view choice))))
      (λ z.
      let same = earlier_choice_stays x z in
      subst (λ ch. IsBeginningOf (list_with_chosen_view ch) (chain_of views)) (sym same)
      (old x z holders (λ i t. subst (λ (ch : Chosen). has ch.members i ≡ true) same (counts i t))
      (λ i t. subst (λ ch. IsBeginningOf (list_with_chosen_view ch) (function_with_value s.node c node i).list) same (stored i t))
      (subst (λ (ch : Chosen). min (ch.resilience + 1) (count_of_passing_names (has ch.members)) ≤ count_of_passing_names holders) same much)))
    where
      old : (x : ℕ) → s.views.decided x ≡ true → (holders : ℕ → Bool) → ((h : ℕ) → holders h ≡ true → has (s.views.chosen x).members h ≡ true)
          → ((h : ℕ) → holders h ≡ true → IsBeginningOf (list_with_chosen_view (s.views.chosen x)) (function_with_value s.node c node h).list)
          → min ((s.views.chosen x).resilience + 1) (count_of_passing_names (has (s.views.chosen x).members)) ≤ count_of_passing_names holders
          → IsBeginningOf (list_with_chosen_view (s.views.chosen x)) (chain_of views)
      old x z holders counts stored much = split_on_bool (holders c)
          (λ t. subst (IsBeginningOf (list_with_chosen_view (s.views.chosen x))) (ap (λ (m : ChainNode). m.list) (put_at_same_index s.node c node) ∙ sym chain_is) (stored c t))
          (λ f.
          let ch = s.views.chosen x in
          let had : (h : ℕ) → holders h ≡ true → IsBeginningOf (list_with_chosen_view ch) (s.node h).list = λ h y. either_of_two_gives (put_at_same_or_other s.node c node h)
          (λ q. let u : holders c ≡ true = subst (λ j. holders j ≡ true) q.0 y in absurd (cc))
          (λ q. subst (λ (m : ChainNode). IsBeginningOf (list_with_chosen_view ch) m.list) q.1 (stored h y)) in
          let on = k.enough x z holders counts had much in
          let fine = beginning_of_good_is_good on k.views.good in
          let there = resilience_of_pushed_view ch.before ch.view in
          either_of_two_gives (le_or_gt (length (list_with_chosen_view ch)) (length list))
          (λ l. on_new (shorter_beginning_begins_longer on chain l))
          (λ l. absurd
          (nothing_held_beyond_deciding_list s k lawful c v d (list_with_chosen_view ch) (list_with_chosen_view ch) on (shorter_beginning_begins_longer chain on (omega arith)) (list_begins_itself (list_with_chosen_view ch)) l
          (has ch.members) holders counts
          (λ h m. name_in_view_is_member ch.before ch.view h fine m)
          (λ h m. member_of_pushed_view_members ch.before ch.view h m)
          (λ h t. split_on_bool (s.node h).has_log (λ y. y) (λ y.
          let e = beginning_is_no_longer (subst (IsBeginningOf (list_with_chosen_view ch)) ((k.each h).blank y) (had h t)) in
          let long = length_of_pushed_list ch.before (View ch.view) in absurd (omega arith)))
          had
          (λ h t u. beginning_is_no_longer (all_low h u))
          (subst (λ r. min (r + 1) (count_of_passing_names (has ch.members)) ≤ count_of_passing_names holders) (sym there) much))))

  pub decision_keeps_group : GroupKeeps (group_with_choice s c v)
  decision_keeps_group = record {
    views = views_decided;
    group = on_new group_begins_deciding_list;
    each = put_keeps_property (λ j m. NodeIsSound views s.group j m) s.node c node own_ok (λ j other. other_ok j other);
    shown = λ x name l h. later_nodes_keep_shown_list s.node (function_with_value s.node c node) x name l up (k.shown x name l h);
    still = put_keeps_property (λ v m. (l : List Entry) → s.shown (key_of_stamp m.promise) v ≡ Some l → views.decided (key_of_stamp m.promise) ≡ false → m.list ≡ l) s.node c node
        (λ l h none. let z = put_at_same_index s.views.decided w true in absurd (cc))
        (λ v _ l h none. k.still v l h (split_on_bool (s.views.decided (key_of_stamp (s.node v).promise)) (λ t. let z = earlier_decision_stays (key_of_stamp (s.node v).promise) t in
        absurd (cc)) (λ f. f)));
    short = λ i v l. put_keeps_property
        (λ i m. IsUp m → m.ballot ≡ true → s.shown (key_of_stamp m.promise) v ≡ Some l → IsUp (function_with_value s.node c node v)
        → (length (function_with_value s.node c node v).list ≤ length l) ⊎ (length (function_with_value s.node c node v).list ≤ length m.list))
        s.node c node (λ u b. absurd (cc))
        (λ i other u b h. put_keeps_property
        (λ v m. s.shown (key_of_stamp (s.node i).promise) v ≡ Some l → IsUp m → (length m.list ≤ length l) ⊎ (length m.list ≤ length (s.node i).list))
        s.node c node
        (λ h q. let p = (k.shown (key_of_stamp (s.node i).promise) c l h).promised in let a = ballot_above i other u b in absurd (omega arith))
        (λ v differ h q. k.short i v l u b h q) v h) i;
    served = λ i v l. put_keeps_property
        (λ i m. IsUp m → m.ballot ≡ true → s.served (key_of_stamp m.promise) v ≡ true → s.shown (key_of_stamp m.promise) v ≡ Some l
        → ServedListBeginsChain (function_with_value s.node c node) views (key_of_stamp m.promise) l)
        s.node c node (λ u b. absurd (cc))
        (λ i other u b a h.
        let o = k.served i v l u b a h in
        let t = later_nodes_keep_served_list s.node (function_with_value s.node c node) s.views (key_of_stamp (s.node i).promise) l up o in
        record { chain = on_new (served_low i other u b l o.chain o.promised); promised = t.promised }) i;
    sent = k.sent;
    witness = λ n low high. later_nodes_keep_witness s.node (function_with_value s.node c node) s.group n up (k.witness n low high);
    departed = put_keeps_property (λ e m. m.departed ≡ true → DepartedLeaveIsStored (function_with_value s.node c node) views e) s.node c node
        (λ h. let z = d.up.there.stays in absurd (cc))
        (λ e other h. let o = k.departed e h in record {
          before = o.before;
          chain = on_new (departed_leave_in_deciding_list s k lawful c v d e h);
          stored = λ j m t l. begins_through_both (o.stored j m ((up j).there t) ((up j).staying l)) (up j).list;
        });
    enough = enough_new;
  }
    where
      served_low : (i : ℕ) → i ≢ c → IsUp (s.node i) → (s.node i).ballot ≡ true → (l : List Entry) → IsBeginningOf l (chain_of s.views)
          → ((j : ℕ) → IsThere (s.node j) → is_member_at_end l j ≡ true → key_of_stamp (s.node i).promise ≤ key_of_stamp (s.node j).promise) → IsBeginningOf l list
      served_low i other u b l on promised = either_of_two_gives (le_or_gt (length l) (length list))
          (λ x. shorter_beginning_begins_longer on chain x)
          (λ x.
          let p = promised c d.up.there (coordinator_in_longer_chain_front s k lawful c v d l on (omega arith)) in
          let a = ballot_above i other u b in absurd (omega arith))
