-- What each move of one node keeps of that node.
use Rattle.am_abstract_group.proofs.Words.{le_or_gt, ◌≡◌, ◌≢◌, ◌⊎◌, ℕ, ◌+◌, ◌<◌, ◌≤◌, Bool, true, false, List, [], ◌∷◌, ◌++◌, length, take, Some, slice_get, refl}
use Rattle.am_abstract_group.proofs.Words.{sym, ap, ◌∙◌, subst, arith, length-append, take-append-le, slice_get_within, Stamp, Entry, View, rank_of_name, IsBeginningOf, is_member_at_end}
use Rattle.am_abstract_group.proofs.Words.{stamp_of_list, key_of_stamp, front_begins_append, begins_through_both, beginning_is_no_longer, shorter_beginning_begins_longer, begins_not_longer_is_same, begins_push_next_entry, length_of_pushed_list, begins_below_begins}
use Rattle.am_abstract_group.proofs.Words.{proper_beginning_is_shorter, shorter_beginning_is_below, taken_front_begins_list, length_of_taken_list, member_of_both_is_between, view_key_grows_along_list, ChainNode, list_with_chosen_view, Views, Group, chain_of, current_of}
use Rattle.am_abstract_group.proofs.Words.{IsThere, IsUp, IsOngoing, next_own_stamp, node_with_entry, GroupMayWelcome, FrontsAreAccepted, LateNodeHasLeft, BallotIsAboveView, NodeIsSound, ServedListBeginsChain, ViewsAreSound}
use Rattle.am_abstract_group.proofs.{Puts.either_of_two_gives}

-- a list that goes on
pub fronts_hold_in_longer_list : (group : List Entry) (m n : ChainNode) (more : List Entry) → n.list ≡ m.list ++ more → n.told ≡ m.told → n.acc ≡ m.acc → FrontsAreAccepted group m
    → FrontsAreAccepted group n
fronts_hold_in_longer_list group m n more list told acc h =
    let within = h.within in
    let long = ap length list ∙ length-append m.list more in
    let same : take n.acc n.list ≡ take m.acc m.list = ap (λ k. take k n.list) acc ∙ ap (take m.acc) list ∙ take-append-le m.acc m.list more within in
    record { told = omega arith; acc = omega arith; within = omega arith; delivered = subst (λ l. IsBeginningOf l group) (sym same) h.delivered }

-- flags that only fall, or a ballot that ends
pub falling_flags_keep_node : (views : Views) (group : List Entry) (i : ℕ) (m : ChainNode) (stopped departed leaving ballot : Bool)
    → (IsThere (record m { stopped = stopped; departed = departed; leaving = leaving; ballot = ballot }) → IsThere m)
    → (leaving ≡ false → m.leaving ≡ false)
    → (IsUp (record m { stopped = stopped; departed = departed; leaving = leaving; ballot = ballot }) → ballot ≡ true → (m.ballot ≡ true) × (leaving ≡ false))
    → NodeIsSound views group i m → NodeIsSound views group i (record m { stopped = stopped; departed = departed; leaving = leaving; ballot = ballot })
falling_flags_keep_node views group i m stopped departed leaving ballot there staying voting ok =
    let up : IsUp (record m { stopped = stopped; departed = departed; leaving = leaving; ballot = ballot })
    → IsUp m = λ u. record { log = u.log; there = there u.there } in
    record {
      small = ok.small;
      list = λ u. ok.list (up u);
      blank = ok.blank;
      fronts = record { told = ok.fronts.told; acc = ok.fronts.acc; within = ok.fronts.within; delivered = ok.fronts.delivered };
      leads = λ l. let o = ok.leads (record { up = up l.up; acts = l.acts; by = l.by }) in record { chain = o.chain; member = o.member };
      promised = λ t. ok.promised (there t);
      stays = λ t l. ok.stays (there t) (staying l);
      joined = λ h. let o = ok.joined h in record { accepted = o.accepted; member = o.member };
      own = λ u. ok.own (up u);
      late = λ u l. let o = ok.late (up u) l in record { before = o.before; last = o.last; list = o.list; member = o.member; ended = o.ended; lines = o.lines };
      ballot = λ u b. let v = voting u b in let o = ok.ballot (up u) v.0 in
          record { small = o.small; above = o.above; by = o.by; staying = v.1; member = o.member };
      complete = λ x c t. ok.complete x c (there t);
      heard = ok.heard;
    }

-- told and acc
pub learned_fronts_keep_node : (views : Views) (group : List Entry) (i : ℕ) (m : ChainNode) (told acc : ℕ) → ViewsAreSound views → IsBeginningOf group (chain_of views) → IsUp m
    → told ≤ length group → acc ≤ told → acc ≤ length m.list → ((x : ℕ) → views.decided x ≡ true → key_of_stamp m.promise < x → told ≤ length (views.chosen x).before)
    → NodeIsSound views group i m → NodeIsSound views group i (record m { told = told; acc = acc })
learned_fronts_keep_node views group i m told acc v g u low a w heard ok =
    let up : IsUp (record m { told = told; acc = acc }) → IsUp m = λ u. record { log = u.log; there = record { goes = u.there.goes; stays = u.there.stays } } in
    let there : IsThere (record m { told = told; acc = acc }) → IsThere m = λ t. record { goes = t.goes; stays = t.stays } in
    let long = length_of_taken_list acc m.list w in
    record {
      small = ok.small;
      list = λ u. ok.list (up u);
      blank = ok.blank;
      fronts = record { told = low; acc = a; within = w; delivered = shorter_beginning_begins_longer (begins_through_both (taken_front_begins_list acc m.list) (ok.list u)) g (omega arith) };
      leads = λ l. let o = ok.leads (record { up = up l.up; acts = l.acts; by = l.by }) in record { chain = o.chain; member = o.member };
      promised = λ t. ok.promised (there t);
      stays = λ t. ok.stays (there t);
      joined = λ h. let o = ok.joined h in record { accepted = o.accepted; member = o.member };
      own = λ u. ok.own (up u);
      late = λ u l. let o = ok.late (up u) l in record { before = o.before; last = o.last; list = o.list; member = o.member; ended = o.ended; lines = o.lines };
      ballot = λ u b. let o = ok.ballot (up u) b in record { small = o.small; above = o.above; by = o.by; staying = o.staying; member = o.member };
      complete = λ x c t. ok.complete x c (there t);
      heard = heard;
    }

-- a greater stamp of another name
pub raised_promise_keeps_node : (views : Views) (group : List Entry) (i : ℕ) (m : ChainNode) (stamp : Stamp) → key_of_stamp m.promise < key_of_stamp stamp → stamp.by < 256 → stamp.by ≢ i
    → NodeIsSound views group i m → NodeIsSound views group i (record m { promise = stamp; ballot = false })
raised_promise_keeps_node views group i m stamp above small other ok =
    let there : IsThere (record m { promise = stamp; ballot = false }) → IsThere m = λ t. record { goes = t.goes; stays = t.stays } in
    let up : IsUp (record m { promise = stamp; ballot = false }) → IsUp m = λ u. record { log = u.log; there = there u.there } in
    record {
      small = small;
      list = λ u. ok.list (up u);
      blank = ok.blank;
      fronts = record { told = ok.fronts.told; acc = ok.fronts.acc; within = ok.fronts.within; delivered = ok.fronts.delivered };
      leads = λ l. absurd (other (ap (λ (s : Stamp). s.by) l.acts ∙ l.by));
      promised = λ t h. let o = ok.promised (there t) h in omega arith;
      stays = λ t. ok.stays (there t);
      joined = λ h. let o = ok.joined h in record { accepted = o.accepted; member = o.member };
      own = λ u. ok.own (up u);
      late = λ u l. let o = ok.late (up u) (omega arith) in
          let lines : (x : ℕ) → views.decided x ≡ true → key_of_stamp stamp ≤ x → IsBeginningOf (o.before ++ o.last ∷ []) (views.line x) = λ x d h. o.lines x d (omega arith) in
          search (o.before, o.last, o, lines);
      ballot = λ u b. absurd (cc);
      complete = λ x c t. ok.complete x c (there t);
      heard = λ x d l. ok.heard x d (omega arith);
    }

-- who doesn't leave has promised the current view
not_late : (views : Views) (group : List Entry) (i : ℕ) (m : ChainNode) → ViewsAreSound views → IsUp m → m.leaving ≡ false → NodeIsSound views group i m
    → key_of_stamp views.current ≤ key_of_stamp m.promise
not_late views group i m v u staying ok = either_of_two_gives (le_or_gt (key_of_stamp views.current) (key_of_stamp m.promise))
    (λ h. h)
    (λ h.
    let o = ok.late u h in
    let chain = o.lines (key_of_stamp views.current) v.now (omega arith) in
    let shorter = front_begins_append o.before (o.last ∷ []) in
    let now = ok.stays u.there staying o.before (begins_through_both shorter chain) o.member in
    let still = member_of_both_is_between {b = o.before ++ o.last ∷ []} i v.good shorter chain o.member now in
    absurd (cc))

pub own_stamp_is_above_promise : (i : ℕ) (m : ChainNode) → m.promise.by < 256 → key_of_stamp m.promise < key_of_stamp (next_own_stamp i m)
unfolding key_of_stamp
own_stamp_is_above_promise i m h = let r : rank_of_name m.promise.by < 256 = omega arith in omega arith

-- a view that acts is no later than the current one
pub acting_view_le_current : (views : Views) (list : List Entry) → ViewsAreSound views → IsBeginningOf list (chain_of views) → key_of_stamp (stamp_of_list list) ≤ key_of_stamp views.current
acting_view_le_current views list v h = let a = view_key_grows_along_list v.good h in let e = ap key_of_stamp v.view in omega arith

pub begun_ballot_keeps_node : (views : Views) (group : List Entry) (i : ℕ) (m : ChainNode) → ViewsAreSound views → i < 256 → IsUp m → m.leaving ≡ false → is_member_at_end m.list i ≡ true
    → NodeIsSound views group i m → NodeIsSound views group i (record m { promise = next_own_stamp i m; ballot = true })
begun_ballot_keeps_node views group i m v small u staying member ok =
    let there : IsThere (record m { promise = next_own_stamp i m; ballot = true }) → IsThere m = λ t. record { goes = t.goes; stays = t.stays } in
    let up : IsUp (record m { promise = next_own_stamp i m; ballot = true }) → IsUp m = λ u. record { log = u.log; there = there u.there } in
    let now = not_late views group i m v u staying ok in
    let above = own_stamp_is_above_promise i m ok.small in
    record {
      small = small;
      list = λ u. ok.list (up u);
      blank = ok.blank;
      fronts = record { told = ok.fronts.told; acc = ok.fronts.acc; within = ok.fronts.within; delivered = ok.fronts.delivered };
      leads = λ l. let e = ap key_of_stamp l.acts in let c = acting_view_le_current views m.list v (ok.list u) in absurd (omega arith);
      promised = λ t h. omega arith;
      stays = λ t. ok.stays (there t);
      joined = λ h. let o = ok.joined h in record { accepted = o.accepted; member = o.member };
      own = λ u. ok.own (up u);
      late = λ u l. absurd (omega arith);
      ballot = λ u b. record { small = small; above = omega arith; by = refl; staying = staying; member = member };
      complete = λ x c t. ok.complete x c (there t);
      heard = λ x d l. ok.heard x d (omega arith);
    }

-- One entry more, which the chain has. What follows from it but for ballots and late nodes is the same wherever it comes from.
longer_ok : (views : Views) (group : List Entry) (i : ℕ) (m : ChainNode) (e : Entry) → IsUp m → IsBeginningOf (m.list ++ e ∷ []) (chain_of views)
    → IsOngoing m.list i → (m.promise ≡ stamp_of_list (m.list ++ e ∷ []) → (stamp_of_list (m.list ++ e ∷ [])).by ≡ i → ⊥)
    → (key_of_stamp m.promise < key_of_stamp views.current → LateNodeHasLeft views i (node_with_entry m e)) → (m.ballot ≡ true → BallotIsAboveView views i (node_with_entry m e)) → NodeIsSound views group i m
    → NodeIsSound views group i (node_with_entry m e)
longer_ok views group i m e u chain ongoing leads late ballot ok =
    let there : IsThere (node_with_entry m e) → IsThere m = λ t. record { goes = t.goes; stays = t.stays } in
    let up : IsUp (node_with_entry m e) → IsUp m = λ u. record { log = u.log; there = there u.there } in
    record {
      small = ok.small;
      list = λ u. chain;
      blank = λ h. absurd (cc);
      fronts = fronts_hold_in_longer_list group m (node_with_entry m e) (e ∷ []) refl refl refl ok.fronts;
      leads = λ l. absurd (leads l.acts l.by);
      promised = λ t. ok.promised (there t);
      stays = λ t. ok.stays (there t);
      joined = λ h. let o = ok.joined h in record { accepted = o.accepted; member = o.member };
      own = λ u a d below h a_in. own_go d a h a_in (begins_below_begins below) (proper_beginning_is_shorter below);
      late = λ u l. late l;
      ballot = λ u b. ballot b;
      complete = λ x c t h. begins_through_both (ok.complete x c (there t) h) (front_begins_append m.list (e ∷ []));
      heard = ok.heard;
    }
  where
    low_or_above : (a b : ℕ) → a < b + 1 → (a < b) ⊎ (a ≡ b)
    low_or_above a b h = grind arith

    own_go : (d a : List Entry) → IsBeginningOf a d → is_member_at_end a i ≡ true → IsBeginningOf d (m.list ++ e ∷ []) → length d < length (m.list ++ e ∷ []) → is_member_at_end d i ≡ true
    own_go d a h a_in below short =
        let more = length_of_pushed_list m.list e in
        either_of_two_gives (low_or_above (length d) (length m.list) (omega arith))
        (λ l. ok.own u a d (shorter_beginning_is_below (shorter_beginning_begins_longer below (front_begins_append m.list (e ∷ [])) (omega arith)) l) h a_in)
        (λ l.
        let all : d ≡ m.list = begins_not_longer_is_same (shorter_beginning_begins_longer below (front_begins_append m.list (e ∷ [])) (omega arith)) (omega arith) in
        subst (λ l. is_member_at_end l i ≡ true) (sym all) (ongoing a (subst (IsBeginningOf a) all h) a_in))

-- the next entry of the line of a decided promise is the next of the chain
store_late : (views : Views) (i : ℕ) (m : ChainNode) (e : Entry) → views.decided (key_of_stamp m.promise) ≡ true → IsOngoing m.list i
    → slice_get (views.line (key_of_stamp m.promise)) (length m.list) ≡ Some e → LateNodeHasLeft views i m → LateNodeHasLeft views i (node_with_entry m e)
store_late views i m e decided ongoing next o =
    let line = o.lines (key_of_stamp m.promise) decided (omega arith) in
    let all = begins_push_next_entry e (begins_through_both o.list line) next in
    let more = length_of_pushed_list m.list e in
    let short : length m.list < length (o.before ++ o.last ∷ []) = either_of_two_gives (le_or_gt (length (o.before ++ o.last ∷ [])) (length m.list))
    (λ h.
    let same : m.list ≡ o.before ++ o.last ∷ [] = begins_not_longer_is_same o.list h in
    let still : is_member_at_end m.list i ≡ true = ongoing o.before (subst (IsBeginningOf o.before) (sym same) (front_begins_append o.before (o.last ∷ []))) o.member in
    let z : is_member_at_end (o.before ++ o.last ∷ []) i ≡ true = subst (λ l. is_member_at_end l i ≡ true) same still in
    let ended = o.ended in absurd (cc))
    (λ h. h) in
    record { before = o.before; last = o.last; list = shorter_beginning_begins_longer all line (omega arith); member = o.member; ended = o.ended; lines = o.lines }

store_chain : (views : Views) (group : List Entry) (i : ℕ) (m : ChainNode) (e : Entry) → ViewsAreSound views → IsUp m → views.decided (key_of_stamp m.promise) ≡ true
    → IsOngoing m.list i → slice_get (views.line (key_of_stamp m.promise)) (length m.list) ≡ Some e → NodeIsSound views group i m → IsBeginningOf (m.list ++ e ∷ []) (chain_of views)
store_chain views group i m e v u decided ongoing next ok = either_of_two_gives (le_or_gt (key_of_stamp views.current) (key_of_stamp m.promise))
    (λ h.
    let o = v.order (key_of_stamp m.promise) decided in
    let same : key_of_stamp m.promise ≡ key_of_stamp views.current = omega arith in
    begins_push_next_entry e (ok.list u) (ap (λ x. slice_get (views.line x) (length m.list)) (sym same) ∙ next))
    (λ h.
    let o = store_late views i m e decided ongoing next (ok.late u h) in
    begins_through_both o.list (o.lines (key_of_stamp views.current) v.now (omega arith)))

pub stored_entry_keeps_node : (views : Views) (group : List Entry) (i : ℕ) (m : ChainNode) (e : Entry) → ViewsAreSound views → IsUp m → views.decided (key_of_stamp m.promise) ≡ true
    → m.promise.by ≢ i → IsOngoing m.list i → slice_get (views.line (key_of_stamp m.promise)) (length m.list) ≡ Some e → NodeIsSound views group i m
    → NodeIsSound views group i (node_with_entry m e)
stored_entry_keeps_node views group i m e v u decided other ongoing next ok = longer_ok views group i m e u (store_chain views group i m e v u decided ongoing next ok) ongoing
    (λ acts by. other (ap (λ (s : Stamp). s.by) acts ∙ by))
    (λ l. store_late views i m e decided ongoing next (ok.late u l))
    (λ b. let o = ok.ballot u b in let a = o.above in let w = v.order (key_of_stamp m.promise) decided in absurd (omega arith))
    ok

-- the next entry of a list that was sent of
pub fetched_entry_begins_served_list : (node : ℕ → ChainNode) (views : Views) (group : List Entry) (i : ℕ) (m : ChainNode) (list : List Entry) (e : Entry) → IsUp m
    → ServedListBeginsChain node views (key_of_stamp m.promise) list → slice_get list (length m.list) ≡ Some e → NodeIsSound views group i m → IsBeginningOf (m.list ++ e ∷ []) list
fetched_entry_begins_served_list node views group i m list e u served next ok =
    let within = slice_get_within list (length m.list) e next in
    begins_push_next_entry e (shorter_beginning_begins_longer (ok.list u) served.chain (omega arith)) next

pub fetched_entry_keeps_node : (node : ℕ → ChainNode) (views : Views) (group : List Entry) (i : ℕ) (m : ChainNode) (list : List Entry) (e : Entry) → ViewsAreSound views → IsUp m
    → m.ballot ≡ true → ServedListBeginsChain node views (key_of_stamp m.promise) list → slice_get list (length m.list) ≡ Some e → NodeIsSound views group i m
    → NodeIsSound views group i (node_with_entry m e)
fetched_entry_keeps_node node views group i m list e v u voting served next ok =
    let b = ok.ballot u voting in
    let above = b.above in
    let chain = begins_through_both (fetched_entry_begins_served_list node views group i m list e u served next ok) served.chain in
    let c = acting_view_le_current views (m.list ++ e ∷ []) v chain in
    let shorter = front_begins_append m.list (e ∷ []) in
    longer_ok views group i m e u chain (λ a h x. b.member)
    (λ acts by. let k = ap key_of_stamp acts in let z : ⊥ = omega arith in z)
    (λ l. absurd (omega arith))
    (λ h. assumption (
      b,
      above,
      member_of_both_is_between i v.good shorter chain b.member (ok.stays u.there b.staying m.list (begins_through_both shorter chain) b.member),
    ))
    ok

-- a Welcome that is heard is of the current view
pub heard_welcome_of_current_view : (s : Group) (j : ℕ) (stamp : Stamp) (base join : ℕ) → GroupMayWelcome s j stamp base join → ViewsAreSound s.views → NodeIsSound s.views s.group j (s.node j)
    → key_of_stamp s.views.current ≤ key_of_stamp stamp
heard_welcome_of_current_view s j stamp base join w v ok = either_of_two_gives (le_or_gt (key_of_stamp s.views.current) (key_of_stamp stamp))
    (λ h. h)
    (λ h.
    let chosen = (current_of s.views).before in
    let in_then = w.later (key_of_stamp s.views.current) v.now h in
    let whole : IsBeginningOf chosen (chain_of s.views) = begins_through_both (front_begins_append chosen _) v.opens in
    let part = taken_front_begins_list join chosen in
    let now = ok.stays w.there w.staying (take join chosen) (begins_through_both part whole) in_then in
    let p = ok.promised w.there (member_of_both_is_between j v.good part whole in_then now) in
    omega arith)

pub welcome_keeps_node : (s : Group) (j : ℕ) (stamp : Stamp) (base join : ℕ) → GroupMayWelcome s j stamp base join → ViewsAreSound s.views → IsBeginningOf s.group (chain_of s.views)
    → NodeIsSound s.views s.group j (s.node j) → NodeIsSound s.views s.group j
    (record (s.node j) { list = take base s.group; has_log = true; start = join; promise = stamp; told = base; acc = base })
welcome_keeps_node s j stamp base join w v g ok =
    let now = heard_welcome_of_current_view s j stamp base join w v ok in
    let accepted = w.accepted in
    let long = length_of_taken_list base s.group (omega arith) in
    let there : IsThere (record (s.node j) { list = take base s.group; has_log = true; start = join; promise = stamp; told = base; acc = base })
    → IsThere (s.node j) = λ t. record { goes = t.goes; stays = t.stays } in
    record {
      small = w.small;
      list = λ u. begins_through_both (taken_front_begins_list base s.group) g;
      blank = λ h. absurd (cc);
      fronts = record {
        told = omega arith;
        acc = omega arith;
        within = omega arith;
        delivered = begins_through_both (taken_front_begins_list base (take base s.group)) (taken_front_begins_list base s.group);
      };
      leads = λ l. absurd (w.other (ap (λ (s : Stamp). s.by) l.acts ∙ l.by));
      promised = λ t h. now;
      stays = λ t. ok.stays (there t);
      joined = λ h. record { accepted = accepted; member = w.joined };
      own = λ u a d d_below h a_in. absurd (w.above a (begins_through_both h (begins_below_begins d_below)) a_in);
      late = λ u l. absurd (omega arith);
      ballot = λ u b. absurd (cc);
      complete = λ x c t h.
          let o = beginning_is_no_longer (subst (IsBeginningOf (list_with_chosen_view (s.views.chosen x))) (ok.blank w.no_log) (ok.complete x c (there t) h)) in
          let l = length_of_pushed_list (s.views.chosen x).before (View (s.views.chosen x).view) in
          absurd (omega arith);
      heard = λ x d l. let o = v.order x d in absurd (omega arith);
    }
