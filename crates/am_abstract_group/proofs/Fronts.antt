-- The group list grows, and the chain does.
use Rattle.am_abstract_group.proofs.Words.{le_or_gt, split_on_bool, ◌≡◌, ◌≢◌, ◌⊎◌, ℕ, ◌+◌, ◌-◌, ◌<◌, ◌≤◌, min, true, false, List, [], ◌∷◌, ◌++◌, length, take, Some}
use Rattle.am_abstract_group.proofs.Words.{slice_get, sym, ap, ◌∙◌, subst, arith, take-append-le, Entry, View, has, members_of_image, fits, counting_names_of_entry, IsBeginningOf, IsGoodList}
use Rattle.am_abstract_group.proofs.Words.{IsNotView, ViewNameIsByte, image_of_list, is_member_at_end, stamp_of_list, key_of_stamp, resilience_of_list, list_begins_itself, front_begins_append, begins_through_both, beginning_is_no_longer}
use Rattle.am_abstract_group.proofs.Words.{shorter_beginning_begins_longer, begins_push_or_is_push, taken_front_begins_list, length_of_taken_list, EntrySparesMember, member_stays_by_push, pushed_list_is_good, view_stays_by_pushed_non_view, function_with_value, count_of_passing_names, counting_names_in}
use Rattle.am_abstract_group.proofs.Words.{need_count, ChainNode, list_with_chosen_view, Views, Group, chain_of, IsThere, IsUp, Leads, MayAccept, NodeIsSound, ServedListBeginsChain, Witness, DepartedLeaveIsStored}
use Rattle.am_abstract_group.proofs.Words.{ViewsAreSound, GroupKeeps, LeaderHasChain, JoinIsAccepted, LateNodeHasLeft, BallotIsAboveView}
use Rattle.am_abstract_group.proofs.Puts.{put_at_same_or_other, put_at_same_index, put_keeps_property, either_of_two_gives}
use Rattle.am_abstract_group.proofs.Frames.{NodeHasNoLess, all_nodes_have_no_less, later_nodes_keep_shown_list, later_nodes_keep_served_list, later_nodes_keep_witness, later_nodes_keep_departed}
use Rattle.am_group.proofs.Places.{slice_get_of_append_front}

take_more : {a b : List Entry} (n : ℕ) → IsBeginningOf a b → n ≤ length a → take n b ≡ take n a
take_more {a} {b} n h l = ap (take n) (sym h.same) ∙ take-append-le n a h.rest l

-- what counts at a number is the same in a longer list
counted_more : {a b : List Entry} (n : ℕ) → IsBeginningOf a b → 0 < n → n ≤ length a → counting_names_in b n ≡ counting_names_in a n
counted_more {a} {b} n h low l =
    let z : n - 1 ≤ length a = omega arith in
    let w : n - 1 < length a = omega arith in
    ap (λ (x : List Entry). counting_names_of_entry (slice_get b (n - 1)) (members_of_image (image_of_list x))) (take_more (n - 1) h z)
    ∙ ap (λ o. counting_names_of_entry o (members_of_image (image_of_list (take (n - 1) a)))) (ap (λ l. slice_get l (n - 1)) (sym h.same) ∙ slice_get_of_append_front a h.rest (n - 1) w)

need_more : {a b : List Entry} (n : ℕ) → IsBeginningOf a b → 0 < n → n ≤ length a → need_count b n ≡ need_count a n
need_more {a} {b} n h low l =
    ap (λ m. min (resilience_of_list (take n b) + 1) (count_of_passing_names (has m))) (counted_more n h low l)
    ∙ ap (λ x. min (resilience_of_list x + 1) (count_of_passing_names (has (counting_names_in a n)))) (take_more n h l)

-- the same witness, of a longer list
witness_more : (node : ℕ → ChainNode) (a b : List Entry) (n : ℕ) → IsBeginningOf a b → 0 < n → Witness node a n → Witness node b n
witness_more node a b n h low w =
    let above = w.above in let within = w.within in let more = beginning_is_no_longer h in
    let up : 0 < w.number = omega arith in
    record {
      number = w.number;
      above = above;
      within = omega arith;
      holders = w.holders;
      counts = λ x t. subst (λ m. has m x ≡ true) (sym (counted_more w.number h up within)) (w.counts x t);
      logs = w.logs;
      joined = w.joined;
      stored = λ x t. subst (λ l. IsBeginningOf l (node x).list) (sym (take_more w.number h within)) (w.stored x t);
      enough = subst (λ k. k ≤ count_of_passing_names w.holders) (sym (need_more w.number h up within)) w.enough;
    }

-- what a name keeps, when more is accepted
node_accepts : (views : Views) (a b : List Entry) (i : ℕ) (m : ChainNode) → IsBeginningOf a b → NodeIsSound views a i m → NodeIsSound views b i m
node_accepts views a b i m h ok =
    let more = beginning_is_no_longer h in
    let told : m.told ≤ length b = omega arith in
    let joined : m.has_log ≡ true → JoinIsAccepted b i m = λ l. let o = ok.joined l in let x = o.accepted in
    record { accepted = omega arith; member = subst (λ l. is_member_at_end l i ≡ true) (sym (take_more m.start h x)) o.member } in
    assumption (told, joined, begins_through_both ok.fronts.delivered h)

-- an entry that is held as the list is accepted up to a number
accept_witness : (node : ℕ → ChainNode) (list group : List Entry) (to n : ℕ) → ((j : ℕ) → (node j).has_log ≡ true → (node j).start ≤ length group)
    → MayAccept node list (length group) to → length group < n → n ≤ to → Witness node (take to list) n
accept_witness node list group to n start may low high =
    let long = length_of_taken_list to list may.within in
    let it = taken_front_begins_list to list in
    let h = may.held n low high in
    let m = h.0 in
    let a = h.1 in
    let held = h.3 in
    let up : 0 < m = omega arith in
    let w : m ≤ length (take to list) = omega arith in
    record {
      number = m;
      above = a;
      within = w;
      holders = held.holders;
      counts = λ x t. subst (λ l. has l x ≡ true) (counted_more m it up w) (held.counts x t);
      logs = held.logs;
      joined = λ x t. let s = start x (held.logs x t) in omega arith;
      stored = λ x t. subst (λ l. IsBeginningOf l (node x).list) (take_more m it w) (held.stored x t);
      enough = subst (λ k. k ≤ count_of_passing_names held.holders) (need_more m it up w) held.enough;
    }

-- more of the chain is accepted
pub accepted_chain_keeps_group : (s : Group) (k : GroupKeeps s) (list : List Entry) (to : ℕ) → list ≡ chain_of s.views → MayAccept s.node list (length s.group) to
    → GroupKeeps (record s { group = take to list })
accepted_chain_keeps_group s k list to is may =
    let long = length_of_taken_list to list may.within in
    let chain : IsBeginningOf (take to list) (chain_of s.views) = subst (IsBeginningOf (take to list)) is (taken_front_begins_list to list) in
    let grows : IsBeginningOf s.group (take to list) = shorter_beginning_begins_longer k.group chain (omega arith) in
    let witness : (n : ℕ) → 1 < n → n ≤ length (take to list) → Witness s.node (take to list) n = λ n low high. either_of_two_gives (le_or_gt n (length s.group))
    (λ h. witness_more s.node s.group (take to list) n grows (omega arith) (k.witness n low h))
    (λ h. accept_witness s.node list s.group to n (λ j l. ((k.each j).joined l).accepted) may h (omega arith)) in
    assumption (chain, witness, λ (j : ℕ). node_accepts s.views s.group (take to list) j (s.node j) grows (k.each j))

-- One entry more of the chain, by its sequencer.
module _ (s : Group) (k : GroupKeeps s) (i : ℕ) (e : Entry) (leads : Leads i (s.node i)) (fit : fits (image_of_list (s.node i).list) e ≡ true) (plain : IsNotView e) where
  list_is : (s.node i).list ≡ chain_of s.views
  list_is = ((k.each i).leads leads).chain

  view_is : stamp_of_list (s.node i).list ≡ s.views.current
  view_is = ap stamp_of_list list_is ∙ k.views.view

  abbrev pub views_with_grown_line : Views
  views_with_grown_line = record s.views { line = function_with_value s.views.line (key_of_stamp (stamp_of_list (s.node i).list)) ((s.node i).list ++ e ∷ []) }

  pub chain_of_grown_line : chain_of views_with_grown_line ≡ (s.node i).list ++ e ∷ []
  chain_of_grown_line = ap (λ x. function_with_value s.views.line x ((s.node i).list ++ e ∷ []) (key_of_stamp s.views.current)) (ap key_of_stamp view_is)
      ∙ put_at_same_index s.views.line (key_of_stamp s.views.current) ((s.node i).list ++ e ∷ [])

  chain_grows : IsBeginningOf (chain_of s.views) (chain_of views_with_grown_line)
  chain_grows = subst (IsBeginningOf (chain_of s.views)) (sym chain_of_grown_line)
      (subst (λ l. IsBeginningOf l ((s.node i).list ++ e ∷ [])) list_is (front_begins_append (s.node i).list (e ∷ [])))

  line_grows : (x : ℕ) → IsBeginningOf (s.views.line x) (function_with_value s.views.line (key_of_stamp (stamp_of_list (s.node i).list)) ((s.node i).list ++ e ∷ []) x)
  line_grows x = either_of_two_gives (put_at_same_or_other s.views.line (key_of_stamp (stamp_of_list (s.node i).list)) ((s.node i).list ++ e ∷ []) x)
      (λ c.
      let at : x ≡ key_of_stamp s.views.current = c.0 ∙ ap key_of_stamp view_is in
      subst (IsBeginningOf (s.views.line x)) (sym c.1) (subst (λ l. IsBeginningOf l ((s.node i).list ++ e ∷ [])) (list_is
      ∙ ap s.views.line (sym at)) (front_begins_append (s.node i).list (e ∷ []))))
      (λ c.
      subst (IsBeginningOf (s.views.line x)) (sym c.1) (list_begins_itself (s.views.line x)))

  small_plain : (e : Entry) → IsNotView e → ViewNameIsByte e
  small_plain (View v) h = absurd h
  small_plain _ h = tt

  pub grown_line_is_good : IsGoodList ((s.node i).list ++ e ∷ [])
  grown_line_is_good = pushed_list_is_good (s.node i).list e (subst IsGoodList (sym list_is) k.views.good) fit (small_plain e plain)

  pub grown_line_keeps_views : ViewsAreSound views_with_grown_line
  grown_line_keeps_views = assumption (
    subst IsGoodList (sym chain_of_grown_line) grown_line_is_good,
    ap stamp_of_list chain_of_grown_line ∙ view_stays_by_pushed_non_view (s.node i).list e plain ∙ view_is,
    begins_through_both k.views.opens chain_grows,
    λ (x : ℕ) (c : s.views.complete x ≡ true). begins_through_both (k.views.complete x c) chain_grows,
  )

  -- what each other name keeps
  others_grow : (j : ℕ) → j ≢ i → (IsThere (s.node j) → (s.node j).leaving ≡ false → EntrySparesMember j e) → NodeIsSound views_with_grown_line s.group j (s.node j)
  others_grow j other spares =
      let ok = k.each j in
      let leads_ : Leads j (s.node j) → LeaderHasChain views_with_grown_line j (s.node j) = λ l. let o = ok.leads l in
      absurd (other (sym l.by ∙ ap (λ (x : List Entry). (stamp_of_list x).by) (o.chain ∙ sym list_is) ∙ leads.by)) in
      let stays : IsThere (s.node j) → (s.node j).leaving ≡ false → (a : List Entry) → IsBeginningOf a (chain_of views_with_grown_line) → is_member_at_end a j ≡ true
      → is_member_at_end (chain_of views_with_grown_line) j ≡ true = λ t l a h m. either_of_two_gives (begins_push_or_is_push e (subst (IsBeginningOf a) chain_of_grown_line h))
      (λ x. stay (ok.stays t l a (subst (IsBeginningOf a) list_is x) m) t l)
      (λ x. subst (λ y. is_member_at_end y j ≡ true) (x ∙ sym chain_of_grown_line) m) in
      let late : IsUp (s.node j) → key_of_stamp (s.node j).promise < key_of_stamp s.views.current → LateNodeHasLeft views_with_grown_line j (s.node j) = λ u l. let o = ok.late u l in
      let lines : (x : ℕ) → s.views.decided x ≡ true → key_of_stamp (s.node j).promise ≤ x → IsBeginningOf (o.before ++ o.last ∷ []) (views_with_grown_line.line x)
      = λ x d h. begins_through_both (o.lines x d h) (line_grows x) in search (o.before, o.last, o, lines) in
      let ballot : IsUp (s.node j) → (s.node j).ballot ≡ true → BallotIsAboveView views_with_grown_line j (s.node j) = λ u b. assumption (ok.ballot u b) in
      assumption (leads_, stays, late, ballot, λ (u : IsUp (s.node j)). begins_through_both (ok.list u) chain_grows)
    where
      stay : is_member_at_end (chain_of s.views) j ≡ true → IsThere (s.node j) → (s.node j).leaving ≡ false → is_member_at_end (chain_of views_with_grown_line) j ≡ true
      stay m t l = subst (λ y. is_member_at_end y j ≡ true) (sym chain_of_grown_line)
          (member_stays_by_push (s.node i).list e j grown_line_is_good (spares t l) (subst (λ y. is_member_at_end y j ≡ true) (sym list_is) m))

  pub grown_chain_keeps_group : (n : ChainNode) → n.list ≡ (s.node i).list ++ e ∷ [] → n.has_log ≡ true → n.start ≡ (s.node i).start → n.promise ≡ (s.node i).promise
      → n.ballot ≡ (s.node i).ballot
      → (n.leaving ≡ false → (s.node i).leaving ≡ false) → (n.departed ≡ true → ((s.node i).departed ≡ true) ⊎ DepartedLeaveIsStored s.node views_with_grown_line i)
      → ((j : ℕ) → j ≢ i → IsThere (s.node j) → (s.node j).leaving ≡ false → EntrySparesMember j e)
      → NodeIsSound views_with_grown_line s.group i n → GroupKeeps (record s { node = function_with_value s.node i n; views = views_with_grown_line })
  grown_chain_keeps_group n list_n log start promise ballot staying gone spares ok =
      let chain_n : n.list ≡ chain_of views_with_grown_line = list_n ∙ sym chain_of_grown_line in
      record {
        views = grown_line_keeps_views;
        group = begins_through_both k.group chain_grows;
        each = put_keeps_property (λ j m. NodeIsSound views_with_grown_line s.group j m) s.node i n ok (λ j other. others_grow j other (spares j other));
        shown = λ x name l h. later_nodes_keep_shown_list s.node (function_with_value s.node i n) x name l up_all (k.shown x name l h);
        still = put_keeps_property (λ v m. (l : List Entry) → s.shown (key_of_stamp m.promise) v ≡ Some l → s.views.decided (key_of_stamp m.promise) ≡ false → m.list ≡ l) s.node i n
            (λ l h none. let now = k.views.now in let at = ap (λ p. s.views.decided (key_of_stamp p)) (promise ∙ leads.acts ∙ view_is) in absurd (cc))
            (λ v _. k.still v);
        short = λ c v l u b h w. absurd_short c v l u b h w;
        served = λ c h l. put_keeps_property
            (λ c m. IsUp m → m.ballot ≡ true → s.served (key_of_stamp m.promise) h ≡ true → s.shown (key_of_stamp m.promise) h ≡ Some l
            → ServedListBeginsChain (function_with_value s.node i n) views_with_grown_line (key_of_stamp m.promise) l)
            s.node i n
            (λ u b. absurd (no_ballot (sym ballot ∙ b)))
            (λ c other u b a d. let o = later_nodes_keep_served_list s.node (function_with_value s.node i n) s.views (key_of_stamp (s.node c).promise) l up_all (k.served c h l u b a d) in
            record { chain = begins_through_both o.chain chain_grows; promised = o.promised }) c;
        sent = k.sent;
        witness = λ m low high. later_nodes_keep_witness s.node (function_with_value s.node i n) s.group m up_all (k.witness m low high);
        departed = put_keeps_property (λ d m. m.departed ≡ true → DepartedLeaveIsStored (function_with_value s.node i n) views_with_grown_line d) s.node i n
            (λ h. either_of_two_gives (gone h)
            (λ o. departed_grows i (k.departed i o))
            (λ o. later_nodes_keep_departed s.node (function_with_value s.node i n) views_with_grown_line i up_all o))
            (λ d other h. departed_grows d (k.departed d h));
        enough = λ x decided holders counts stored much. split_on_bool (holders i)
            (λ t. subst (IsBeginningOf (list_with_chosen_view (s.views.chosen x))) (ap (λ (m : ChainNode). m.list) (put_at_same_index s.node i n) ∙ chain_n) (stored i t))
            (λ f. begins_through_both (k.enough x decided holders counts (λ h y. either_of_two_gives (put_at_same_or_other s.node i n h)
            (λ z. let u : holders i ≡ true = subst (λ j. holders j ≡ true) z.0 y in absurd (cc))
            (λ z. subst (λ (m : ChainNode). IsBeginningOf (list_with_chosen_view (s.views.chosen x)) m.list) z.1 (stored h y))) much) chain_grows);
      }
    where
      no_ballot : (s.node i).ballot ≡ true → ⊥
      no_ballot b =
          let o = (k.each i).ballot leads.up b in
          let p = ap key_of_stamp (leads.acts ∙ view_is) in omega arith

      up_all : (j : ℕ) → NodeHasNoLess (s.node j) (function_with_value s.node i n j)
      up_all = all_nodes_have_no_less s.node i n (record {
        list = subst (IsBeginningOf (s.node i).list) (sym list_n) (front_begins_append (s.node i).list (e ∷ []));
        log = λ h. log;
        start = λ h. start;
        there = λ h. leads.up.there;
        staying = staying;
        promise = let z = ap key_of_stamp promise in omega arith;
      })

      departed_grows : (d : ℕ) → DepartedLeaveIsStored s.node s.views d → DepartedLeaveIsStored (function_with_value s.node i n) views_with_grown_line d
      departed_grows d h = let o = later_nodes_keep_departed s.node (function_with_value s.node i n) s.views d up_all h in
          record { before = o.before; chain = begins_through_both o.chain chain_grows; stored = o.stored }

      -- nobody voted for a ballot above the current view and numbers
      absurd_short : (c v : ℕ) (l : List Entry) → IsUp (function_with_value s.node i n c) → (function_with_value s.node i n c).ballot ≡ true
          → s.shown (key_of_stamp (function_with_value s.node i n c).promise) v ≡ Some l → IsUp (function_with_value s.node i n v)
          → (length (function_with_value s.node i n v).list ≤ length l) ⊎ (length (function_with_value s.node i n v).list ≤ length (function_with_value s.node i n c).list)
      absurd_short c v l = put_keeps_property
          (λ c m. IsUp m → m.ballot ≡ true → s.shown (key_of_stamp m.promise) v ≡ Some l → IsUp (function_with_value s.node i n v)
          → (length (function_with_value s.node i n v).list ≤ length l) ⊎ (length (function_with_value s.node i n v).list ≤ length m.list))
          s.node i n
          (λ u b. absurd (no_ballot (sym ballot ∙ b)))
          (λ c other u b h. put_keeps_property
          (λ v m. s.shown (key_of_stamp (s.node c).promise) v ≡ Some l → IsUp m → (length m.list ≤ length l) ⊎ (length m.list ≤ length (s.node c).list))
          s.node i n
          (λ h w. let o = (k.each c).ballot u b in let a = o.above in let p = (k.shown (key_of_stamp (s.node c).promise) i l h).promised in
          let q = ap key_of_stamp (leads.acts ∙ view_is) in absurd (omega arith))
          (λ v differ h w. k.short c v l u b h w) v h) c
