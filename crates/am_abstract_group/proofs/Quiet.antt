-- Each move but a decision keeps what is kept, whoever stopped.
use Rattle.am_abstract_group.proofs.Words.{le_or_gt, ◌≡◌, ◌≢◌, ◌⊎◌, inl, inr, ℕ, ◌<◌, ◌≤◌, Bool, true, false, List, [], ◌∷◌, ◌++◌, length, take, Some, slice_get}
use Rattle.am_abstract_group.proofs.Words.{refl, sym, ap, ◌∙◌, subst, arith, Stamp, Entry, Leave, View, fits, IsBeginningOf, IsNotView, image_of_list, is_member_at_end, stamp_of_list, key_of_stamp, list_begins_itself}
use Rattle.am_abstract_group.proofs.Words.{empty_list_begins_all, front_begins_append, begins_through_both, beginning_is_no_longer, shorter_beginning_begins_longer, begins_below_begins, EntrySparesMember, member_of_both_is_between, member_stays_by_push, equal_keys_have_equal_names, function_with_value}
use Rattle.am_abstract_group.proofs.Words.{ChainNode, Group, chain_of, IsThere, IsUp, Leads, IsOngoing, IsHeld, MayAccept, node_with_entry, next_own_stamp, IsGreaterBegunStamp, MayNumber, GroupMayWelcome}
use Rattle.am_abstract_group.proofs.Words.{MayDepart, group_with_node, group_with_line, ServedListBeginsChain, DepartedLeaveIsStored, GroupKeeps}
use Rattle.am_abstract_group.proofs.Nodes.{fronts_hold_in_longer_list, falling_flags_keep_node, learned_fronts_keep_node, raised_promise_keeps_node, begun_ballot_keeps_node, own_stamp_is_above_promise, stored_entry_keeps_node, fetched_entry_keeps_node, fetched_entry_begins_served_list, welcome_keeps_node, heard_welcome_of_current_view}
use Rattle.am_abstract_group.proofs.Fronts.{accepted_chain_keeps_group, grown_chain_keeps_group, views_with_grown_line, grown_line_keeps_views, chain_of_grown_line, grown_line_is_good}
use Rattle.am_abstract_group.proofs.Puts.{put_at_same_or_other, put_at_same_index, put_at_other_index, either_of_two_gives}
use Rattle.am_abstract_group.proofs.Frames.{NodeHasNoLess, higher_promise_has_no_less, node_change_keeps_group}

later_longer : (m : ChainNode) (e : Entry) → NodeHasNoLess m (node_with_entry m e)
later_longer m e = record {
  list = front_begins_append m.list (e ∷ []);
  log = λ h. h;
  start = λ h. refl;
  there = λ t. record { goes = t.goes; stays = t.stays };
  staying = λ h. h;
  promise = omega arith;
}

pub leave_of_member_fits_list : (list : List Entry) (i : ℕ) → is_member_at_end list i ≡ true → fits (image_of_list list) (Leave i) ≡ true
unfolding is_member_at_end fits
leave_of_member_fits_list list i h = h

module _ (s : Group) (k : GroupKeeps s) where
  held_same : (i : ℕ) (a b : ChainNode) (list : List Entry) (x : ℕ) → a.list ≡ b.list → a.has_log ≡ b.has_log → IsHeld (function_with_value s.node i b) list x
      → IsHeld (function_with_value s.node i a) list x
  held_same i a b list x lists logs h = record {
    holders = h.holders;
    counts = h.counts;
    logs = λ j t. put_pair i a b j (λ m. m.has_log ≡ true) (λ z. logs ∙ z) (h.logs j t);
    stored = λ j t. put_pair i a b j (λ m. IsBeginningOf (take x list) m.list) (λ z. subst (IsBeginningOf (take x list)) (sym lists) z) (h.stored j t);
    enough = h.enough;
  }
    where
      put_pair : (i : ℕ) (a b : ChainNode) (j : ℕ) (P : ChainNode → Type 0) → (P b → P a) → P (function_with_value s.node i b j) → P (function_with_value s.node i a j)
      put_pair i a b j P f h = either_of_two_gives (put_at_same_or_other s.node i b j)
          (λ c. subst P (sym (ap (function_with_value s.node i a) c.0 ∙ put_at_same_index s.node i a)) (f (subst P c.1 h)))
          (λ c. subst P (sym (put_at_other_index s.node i a j c.0)) (subst P c.1 h))

  pub stored_entry_keeps_group : (i : ℕ) (e : Entry) → IsUp (s.node i) → s.views.decided (key_of_stamp (s.node i).promise) ≡ true → (s.node i).promise.by ≢ i
      → IsOngoing (s.node i).list i → slice_get (s.views.line (key_of_stamp (s.node i).promise)) (length (s.node i).list) ≡ Some e
      → GroupKeeps (group_with_node s i (node_with_entry (s.node i) e))
  stored_entry_keeps_group i e u decided other ongoing next =
      let n = node_with_entry (s.node i) e in
      let up : IsUp n = record { log = u.log; there = record { goes = u.there.goes; stays = u.there.stays } } in
      node_change_keeps_group s k i n (later_longer (s.node i) e)
      (stored_entry_keeps_node s.views s.group i (s.node i) e k.views u decided other ongoing next (k.each i))
      (λ _ b. inl (u, b, refl))
      (inr (
        up,
        λ c l differ w b h. let p = (k.shown (key_of_stamp (s.node c).promise) i l h).promised in let o = (k.each c).ballot w b in let a = o.above in
            let d = k.views.order (key_of_stamp (s.node i).promise) decided in absurd (omega arith),
      ))
      (λ l h none. absurd (cc))
      (λ h. inl h)

  pub fetched_entry_keeps_group : (i h : ℕ) (list : List Entry) (e : Entry) → IsUp (s.node i) → (s.node i).ballot ≡ true → s.served (key_of_stamp (s.node i).promise) h ≡ true
      → s.shown (key_of_stamp (s.node i).promise) h ≡ Some list → slice_get list (length (s.node i).list) ≡ Some e → GroupKeeps (group_with_node s i (node_with_entry (s.node i) e))
  fetched_entry_keeps_group i h list e u voting sent is next =
      let n = node_with_entry (s.node i) e in
      let up : IsUp n = record { log = u.log; there = record { goes = u.there.goes; stays = u.there.stays } } in
      let served = k.served i h list u voting sent is in
      node_change_keeps_group s k i n (later_longer (s.node i) e)
      (fetched_entry_keeps_node s.node s.views s.group i (s.node i) list e k.views u voting served next (k.each i))
      (λ _ b. inl (u, b, refl))
      (inr (up, λ c l differ w b shown. inr (shorter i list e u voting served next c l differ w b shown)))
      (λ l h none. let o = k.shown (key_of_stamp (s.node i).promise) i l h in
      absurd (o.other (equal_keys_have_equal_names o.stamp (s.node i).promise o.small (k.each i).small o.is ∙ ((k.each i).ballot u voting).by)))
      (λ h. inl h)
    where
      shorter : (i : ℕ) (list : List Entry) (e : Entry) → IsUp (s.node i) → (s.node i).ballot ≡ true → ServedListBeginsChain s.node s.views (key_of_stamp (s.node i).promise) list
          → slice_get list (length (s.node i).list) ≡ Some e → (c : ℕ) (l : List Entry) → c ≢ i → IsUp (s.node c) → (s.node c).ballot ≡ true
          → s.shown (key_of_stamp (s.node c).promise) i ≡ Some l → length ((s.node i).list ++ e ∷ []) ≤ length (s.node c).list
      shorter i list e u voting served next c l differ w b shown =
          let mine = (k.each i).ballot u voting in
          let theirs = (k.each c).ballot w b in
          let p = (k.shown (key_of_stamp (s.node c).promise) i l shown).promised in
          let apart : key_of_stamp (s.node c).promise ≢ key_of_stamp (s.node i).promise =
          λ same. differ (sym theirs.by ∙ equal_keys_have_equal_names (s.node c).promise (s.node i).promise (k.each c).small (k.each i).small same ∙ mine.by) in
          let below : key_of_stamp (s.node c).promise < key_of_stamp (s.node i).promise = omega arith in
          let chain_c = (k.each c).list w in
          let now = (k.each c).stays w.there theirs.staying (s.node c).list chain_c theirs.member in
          let taken = beginning_is_no_longer (fetched_entry_begins_served_list s.node s.views s.group i (s.node i) list e u served next (k.each i)) in
          either_of_two_gives (le_or_gt (length (s.node c).list) (length list))
          (λ x.
          let member = member_of_both_is_between c k.views.good (shorter_beginning_begins_longer chain_c served.chain x) served.chain theirs.member now in
          let q = served.promised c w.there member in absurd (omega arith))
          (λ x. omega arith)

  pub learned_fronts_keep_group : (i told acc : ℕ) → IsUp (s.node i) → told ≤ length s.group
      → ((x : ℕ) → s.views.decided x ≡ true → key_of_stamp (s.node i).promise < x → told ≤ length (s.views.chosen x).before) → acc ≤ told → acc ≤ length (s.node i).list
      → GroupKeeps (group_with_node s i (record (s.node i) { told = told; acc = acc }))
  learned_fronts_keep_group i told acc u low heard a w =
      let n = record (s.node i) { told = told; acc = acc } in
      node_change_keeps_group s k i n
      (higher_promise_has_no_less (s.node i) n refl refl refl refl (λ t. record { goes = t.goes; stays = t.stays }) (omega arith))
      (learned_fronts_keep_node s.views s.group i (s.node i) told acc k.views k.group u low a w heard (k.each i))
      (λ _ b. inl (u, b, refl))
      (inl (refl, λ _. u))
      (λ l h none. k.still i l h none)
      (λ h. inl h)

  pub begun_ballot_keeps_group : (i : ℕ) → i < 256 → IsUp (s.node i) → (s.node i).leaving ≡ false → is_member_at_end (s.node i).list i ≡ true
      → GroupKeeps (group_with_node s i (record (s.node i) { promise = next_own_stamp i (s.node i); ballot = true }))
  begun_ballot_keeps_group i small u staying member =
      let n = record (s.node i) { promise = next_own_stamp i (s.node i); ballot = true } in
      let above = own_stamp_is_above_promise i (s.node i) (k.each i).small in
      node_change_keeps_group s k i n
      (higher_promise_has_no_less (s.node i) n refl refl refl refl (λ t. record { goes = t.goes; stays = t.stays }) (omega arith))
      (begun_ballot_keeps_node s.views s.group i (s.node i) k.views small u staying member (k.each i))
      (λ _ _. inr (λ h l shown.
      let o = k.shown (key_of_stamp (next_own_stamp i (s.node i))) h l shown in
      let by : o.stamp.by ≡ i = equal_keys_have_equal_names o.stamp (next_own_stamp i (s.node i)) o.small small o.is in
      let q = ap (λ j. key_of_stamp (s.node j).promise) by in
      let z : ⊥ = omega arith in z))
      (inl (refl, λ _. u))
      (λ l h none. let o = k.shown (key_of_stamp (next_own_stamp i (s.node i))) i l h in absurd (o.other (equal_keys_have_equal_names o.stamp (next_own_stamp i (s.node i)) o.small small o.is)))
      (λ h. inl h)

  pub raised_promise_keeps_group : (i : ℕ) (stamp : Stamp) → IsThere (s.node i) → IsGreaterBegunStamp s.node i stamp
      → GroupKeeps (group_with_node s i (record (s.node i) { promise = stamp; ballot = false }))
  raised_promise_keeps_group i stamp t a =
      let n = record (s.node i) { promise = stamp; ballot = false } in
      node_change_keeps_group s k i n
      (higher_promise_has_no_less (s.node i) n refl refl refl refl (λ t. record { goes = t.goes; stays = t.stays }) (omega arith))
      (raised_promise_keeps_node s.views s.group i (s.node i) stamp a.greater a.small a.other (k.each i))
      (λ _ b. absurd (cc))
      (inl (refl, λ w. record { log = w.log; there = t }))
      (λ l h none. let o = k.shown (key_of_stamp stamp) i l h in let p = o.promised in absurd (omega arith))
      (λ h. inl h)

  flags_keep : (i : ℕ) (stopped departed leaving ballot : Bool)
      → (IsThere (record (s.node i) { stopped = stopped; departed = departed; leaving = leaving; ballot = ballot }) → IsThere (s.node i))
      → (leaving ≡ false → (s.node i).leaving ≡ false)
      → (IsUp (record (s.node i) { stopped = stopped; departed = departed; leaving = leaving; ballot = ballot }) → ballot ≡ true → ((s.node i).ballot ≡ true)
      × (leaving ≡ false))
      → (departed ≡ true → ((s.node i).departed ≡ true) ⊎ DepartedLeaveIsStored s.node s.views i)
      → GroupKeeps (group_with_node s i (record (s.node i) { stopped = stopped; departed = departed; leaving = leaving; ballot = ballot }))
  flags_keep i stopped departed leaving ballot there staying voting gone =
      let n = record (s.node i) { stopped = stopped; departed = departed; leaving = leaving; ballot = ballot } in
      let up : IsUp n → IsUp (s.node i) = λ u. record { log = u.log; there = there u.there } in
      node_change_keeps_group s k i n
      (record { list = list_begins_itself (s.node i).list; log = λ h. h; start = λ h. refl; there = there; staying = staying; promise = omega arith })
      (falling_flags_keep_node s.views s.group i (s.node i) stopped departed leaving ballot there staying voting (k.each i))
      (λ u b. inl (up u, (voting u b).0, refl))
      (inl (refl, up))
      (λ l h none. k.still i l h none)
      gone

  pub stop_keeps_group : (i : ℕ) → GroupKeeps (group_with_node s i (record (s.node i) { stopped = true }))
  stop_keeps_group i = flags_keep i true (s.node i).departed (s.node i).leaving (s.node i).ballot
      (λ t. let z = t.goes in absurd (cc)) (λ h. h) (λ u. let z = u.there.goes in absurd (cc)) (λ h. inl h)

  pub leave_request_keeps_group : (i : ℕ) → IsUp (s.node i) → (s.node i).ballot ≡ false → GroupKeeps (group_with_node s i (record (s.node i) { leaving = true }))
  leave_request_keeps_group i u none = flags_keep i (s.node i).stopped (s.node i).departed true (s.node i).ballot
      (λ t. record { goes = t.goes; stays = t.stays }) (λ h. absurd (cc)) (λ u b. absurd (cc)) (λ h. inl h)

  pub ended_ballot_keeps_group : (i : ℕ) → GroupKeeps (group_with_node s i (record (s.node i) { ballot = false }))
  ended_ballot_keeps_group i = flags_keep i (s.node i).stopped (s.node i).departed (s.node i).leaving false
      (λ t. record { goes = t.goes; stays = t.stays }) (λ h. h) (λ u b. absurd (cc)) (λ h. inl h)

  pub departure_keeps_group : (i : ℕ) (before : List Entry) → MayDepart s i before → GroupKeeps (group_with_node s i (record (s.node i) { departed = true }))
  departure_keeps_group i before d = flags_keep i (s.node i).stopped true (s.node i).leaving (s.node i).ballot
      (λ t. let z = t.stays in absurd (cc)) (λ h. h) (λ u. let z = u.there.stays in absurd (cc))
      (λ h. inr (record { before = before; chain = begins_through_both d.accepted k.group; stored = d.stored }))

  pub welcome_keeps_group : (j : ℕ) (stamp : Stamp) (base join : ℕ) → GroupMayWelcome s j stamp base join
      → GroupKeeps (group_with_node s j (record (s.node j) { list = take base s.group; has_log = true; start = join; promise = stamp; told = base; acc = base }))
  welcome_keeps_group j stamp base join w =
      let n = record (s.node j) { list = take base s.group; has_log = true; start = join; promise = stamp; told = base; acc = base } in
      let ok = k.each j in
      let no_log = w.no_log in
      let promise = w.promise in
      let empty = ok.blank no_log in
      let now = heard_welcome_of_current_view s j stamp base join w k.views ok in
      let last = k.views.order (key_of_stamp stamp) w.decided in
      let up : IsUp n = record { log = refl; there = record { goes = w.there.goes; stays = w.there.stays } } in
      node_change_keeps_group s k j n
      (record {
        list = subst (λ l. IsBeginningOf l (take base s.group)) (sym empty) (empty_list_begins_all (take base s.group));
        log = λ h. refl;
        start = λ h. absurd (cc);
        there = λ t. record { goes = t.goes; stays = t.stays };
        staying = λ h. h;
        promise = promise;
      })
      (welcome_keeps_node s j stamp base join w k.views k.group ok)
      (λ u b. absurd (cc))
      (inr (up, λ c l differ u b h. let p = (k.shown (key_of_stamp (s.node c).promise) j l h).promised in let a = ((k.each c).ballot u b).above in absurd (omega arith)))
      (λ l h none. let z = w.decided in absurd (cc))
      (λ h. inl h)

  pub acceptance_keeps_group : (i n : ℕ) → Leads i (s.node i) → MayAccept s.node (s.node i).list (length s.group) n → GroupKeeps (record s { group = take n (s.node i).list })
  acceptance_keeps_group i n l may = accepted_chain_keeps_group s k (s.node i).list n ((k.each i).leads l).chain may

  plain_of : (i : ℕ) (e : Entry) → MayNumber s.node i e → IsNotView e
  plain_of i (View v) h = absurd h
  plain_of i _ h = tt

  -- a numbered entry spares its sequencer and who doesn't leave
  spares_own : (i : ℕ) (e : Entry) → MayNumber s.node i e → EntrySparesMember i e
  spares_own i (Leave name) h = h.1
  spares_own i (View v) h = absurd h
  spares_own i _ h = tt

  spares_staying : (i : ℕ) (e : Entry) → MayNumber s.node i e → (j : ℕ) → (s.node j).leaving ≡ false → EntrySparesMember j e
  spares_staying i (Leave name) h j l = λ same. let z = h.0 in let w = ap (λ x. (s.node x).leaving) same in absurd (cc)
  spares_staying i (View v) h j l = absurd h
  spares_staying i _ h j l = tt

  pub numbered_entry_keeps_group : (i : ℕ) (e : Entry) → Leads i (s.node i) → fits (image_of_list (s.node i).list) e ≡ true → MayNumber s.node i e
      → GroupKeeps (group_with_line s i (node_with_entry (s.node i) e))
  numbered_entry_keeps_group i e l fit may =
      let m = s.node i in
      let n = node_with_entry m e in
      let plain = plain_of i e may in
      let ok = k.each i in
      let lead = ok.leads l in
      let views = views_with_grown_line s k i e l fit plain in
      let grow = grown_line_keeps_views s k i e l fit plain in
      let chain : chain_of views ≡ m.list ++ e ∷ [] = chain_of_grown_line s k i e l fit plain in
      let more : IsBeginningOf m.list (m.list ++ e ∷ []) = front_begins_append m.list (e ∷ []) in
      let mem_now : is_member_at_end m.list i ≡ true = subst (λ x. is_member_at_end x i ≡ true) (sym lead.chain) lead.member in
      let mem_then : is_member_at_end (m.list ++ e ∷ []) i ≡ true = member_stays_by_push m.list e i (grown_line_is_good s k i e l fit plain) (spares_own i e may) mem_now in
      let there : IsThere n → IsThere m = λ t. record { goes = t.goes; stays = t.stays } in
      let log = l.up.log in
      let at_current : key_of_stamp m.promise ≡ key_of_stamp s.views.current = ap key_of_stamp (l.acts ∙ ap stamp_of_list lead.chain ∙ k.views.view) in
      grown_chain_keeps_group s k i e l fit plain n refl log refl refl refl (λ h. h) (λ h. inl h) (λ j differ t stays. spares_staying i e may j stays)
      (record {
        small = ok.small;
        list = λ u. subst (IsBeginningOf n.list) (sym chain) (list_begins_itself n.list);
        blank = λ h. absurd (cc);
        fronts = fronts_hold_in_longer_list s.group m n (e ∷ []) refl refl refl ok.fronts;
        leads = λ q. record { chain = sym chain; member = subst (λ x. is_member_at_end x i ≡ true) (sym chain) mem_then };
        promised = λ t. ok.promised (there t);
        stays = λ t q a h x. subst (λ y. is_member_at_end y i ≡ true) (sym chain) mem_then;
        joined = λ h. let o = ok.joined h in record { accepted = o.accepted; member = o.member };
        own = λ u a d below h x. member_of_both_is_between i (grown_line_is_good s k i e l fit plain) h (begins_below_begins below) x mem_then;
        late = λ u q. absurd (omega arith);
        ballot = λ u b. let o = ok.ballot l.up b in let a = o.above in absurd (omega arith);
        complete = λ x c t h. begins_through_both (ok.complete x c (there t) h) more;
        heard = ok.heard;
      })

  pub last_leave_keeps_group : (i n : ℕ) → Leads i (s.node i) → (s.node i).leaving ≡ true → ((j : ℕ) → is_member_at_end (s.node i).list j ≡ true → j ≡ i)
      → MayAccept (function_with_value s.node i (node_with_entry (s.node i) (Leave i))) ((s.node i).list ++ Leave i ∷ []) (length s.group) n
      → GroupKeeps (record (group_with_line s i (record (node_with_entry (s.node i) (Leave i)) { departed = true })) { group = take n ((s.node i).list ++ Leave i ∷ []) })
  last_leave_keeps_group i to l leaving alone may =
      let e = Leave i in
      let m = s.node i in
      let n = record (node_with_entry m e) { departed = true } in
      let ok = k.each i in
      let lead = ok.leads l in
      let mem_now : is_member_at_end m.list i ≡ true = subst (λ x. is_member_at_end x i ≡ true) (sym lead.chain) lead.member in
      let fit = leave_of_member_fits_list m.list i mem_now in
      let views = views_with_grown_line s k i e l fit tt in
      let chain : chain_of views ≡ m.list ++ e ∷ [] = chain_of_grown_line s k i e l fit tt in
      let more : IsBeginningOf m.list (m.list ++ e ∷ []) = front_begins_append m.list (e ∷ []) in
      let not_there : IsThere n → ⊥ = λ t. let z = t.stays in cc in
      let log = l.up.log in
      let closed : GroupKeeps (record s { node = function_with_value s.node i n; views = views }) = grown_chain_keeps_group s k i e l fit tt n refl log refl refl refl (λ h. h)
      (λ h. inr (record {
        before = m.list;
        chain = subst (IsBeginningOf (m.list ++ e ∷ [])) (sym chain) (list_begins_itself (m.list ++ e ∷ []));
        stored = λ j x t stays. let z = ap (λ x. (s.node x).leaving) (alone j x) in absurd (cc);
      }))
      (λ j differ t stays. λ same. differ (sym same))
      (record {
        small = ok.small;
        list = λ u. absurd (not_there u.there);
        blank = λ h. absurd (cc);
        fronts = fronts_hold_in_longer_list s.group m n (e ∷ []) refl refl refl ok.fronts;
        leads = λ q. absurd (not_there q.up.there);
        promised = λ t. absurd (not_there t);
        stays = λ t. absurd (not_there t);
        joined = λ h. let o = ok.joined h in record { accepted = o.accepted; member = o.member };
        own = λ u. absurd (not_there u.there);
        late = λ u. absurd (not_there u.there);
        ballot = λ u. absurd (not_there u.there);
        complete = λ x c t. absurd (not_there t);
        heard = ok.heard;
      }) in
      accepted_chain_keeps_group (record s { node = function_with_value s.node i n; views = views }) closed (m.list ++ e ∷ []) to (sym chain)
      (record {
        rises = may.rises;
        within = may.within;
        held = λ x low high. let h = may.held x low high in
            (h.0, h.1, h.2, held_same i n (node_with_entry m e) (m.list ++ e ∷ []) h.0 refl refl h.3);
      })
