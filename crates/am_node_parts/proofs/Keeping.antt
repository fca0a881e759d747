-- The parts of a node keep what they keep.
use Rattle.am_node_parts.proofs.Words.{left_of_and, ◌≡◌, ◌≢◌, ◌<◌, inl, ℕ, ◌+◌, [], ◌∷◌, length, ◌-◌, ◌≤◌, nat_lt, List, Bool, true, false, ◌&&◌, ◌==◌, Option, Some}
use Rattle.am_node_parts.proofs.Words.{None, option_map, refl, sym, ◌∙◌, ap, subst, arith, Image, Stamp, Report, Row, Entry, Data, Join, Leave, View, nat_tests}
use Rattle.am_node_parts.proofs.Words.{has, life_of_name, stamps_are_equal, stamp_is_less, members_of_image, row_at_place, after, fits, image_after_entries, CoreState, CoreFrontsAreInOrder, raise_accepted_to_told, pass_over_below_join, IsKept}
use Rattle.am_node_parts.proofs.Words.{split_on_bool_of_log, top_of_end_is_top, end_has_image_of_whole_log, told_by_pushed_entry, untrimmed_core_keeps_own_log, CoreWithReports, RefreshesAlike, IsMemberOrLastLeaver, raise_own_report, tell_accept_front, advance_with_reports, trim_to_least_taken, KeptBody}
use Rattle.am_node_parts.proofs.Words.{OwnSend, Sends, next_request, has_log_by_status, Node, Ballot, top, image_of_node, view, members, acts_in_its_view, waiting_send_of, is_member, is_sequencer}
use Rattle.am_node_parts.proofs.Words.{push_entry, node_with_report, reports_after_report, Status, Member, is_view, refresh, refresh_as_sequencer, core_with_reports_of, node_with_core_and_reports, accepted_number_of_send, settle_send_at}
use Rattle.am_node_parts.proofs.Words.{settle_send_where_accepted, settle_waiting_send, refresh_at_end, IsEndOf, sixteen_rows_after_entry, NodeKeeps, IsOwnBallot, IsSteady, RequestMayBeDue, MayServe}
use Rattle.am_node_defs.specs.Cores.{advance_core}
use Rattle.am_node_defs.specs.Refresh as fronts
use Rattle.am_node_defs.specs.Sends as sending
use Rattle.am_node_parts.proofs.Due.{due_request_after_entry}

pub steady_node_stays_sequencer : (m n : Node) → IsSteady m n → is_sequencer n ≡ is_sequencer m
steady_node_stays_sequencer m n s = λ k. (is_member (s.status k) && stamps_are_equal (s.promise k) (s.told k).view) && ((s.told k).view.by == s.who k)

pub steady_node_may_serve : (m n : Node) (from : ℕ) → IsSteady m n → MayServe m from → MayServe n from
steady_node_may_serve m n from s serves =
    let number = serves.number in
    record { leads = steady_node_stays_sequencer m n s ∙ serves.leads; other = λ is. serves.other (is ∙ s.who); number = omega arith }

-- a ballot stays the node's own where its promise, its name, its view and its list stay
pub own_ballot_of_same_promise : (m n : Node) (b : Ballot) → n.core.promise ≡ m.core.promise → n.core.who ≡ m.core.who → view n ≡ view m
    → (has_log_by_status m.status ≡ true → has_log_by_status n.status ≡ true) → IsOwnBallot m b → IsOwnBallot n b
own_ballot_of_same_promise m n b promise who same log own = record {
  stamp = λ open_. own.stamp open_ ∙ sym promise;
  by = λ open_. own.by open_ ∙ sym who;
  ahead = λ open_. ap (λ (v : Stamp). stamp_is_less v b.stamp) same ∙ own.ahead open_;
  logged = λ open_. log (own.logged open_);
  itself = λ open_. ap b.given_up who ∙ own.itself open_;
  unvoted = λ open_. ap b.votes who ∙ own.unvoted open_;
  resilience = own.resilience;
}

pub own_ballot_of_steady_node : (m n : Node) (b : Ballot) → IsSteady m n → IsOwnBallot m b → IsOwnBallot n b
own_ballot_of_steady_node m n b s own = own_ballot_of_same_promise m n b s.promise s.who (ap (λ (i : Image). i.view) s.told) (λ logged. ap has_log_by_status s.status ∙ logged) own

-- an ended ballot needs nothing else
pub ended_ballot_counts_as_own : (n : Node) (b : Ballot) → b.is_over ≡ true → b.resilience ≤ 15 → IsOwnBallot n b
ended_ballot_counts_as_own n b is few = record {
  stamp = λ open_. absurd (never open_);
  by = λ open_. absurd (never open_);
  ahead = λ open_. absurd (never open_);
  logged = λ open_. absurd (never open_);
  itself = λ open_. absurd (never open_);
  unvoted = λ open_. absurd (never open_);
  resilience = few;
}
  where
    never : b.is_over ≡ false → ⊥
    never open_ = let both = sym is ∙ open_ in cc

pub steady_node_keeps_order : (m n : Node) → IsSteady m n → NodeKeeps m → (n.reports n.core.who).taken ≤ n.core.taken → NodeKeeps n
steady_node_keeps_order m n s keeps own = record {
  own = own;
  leads = λ is. (λ k. has (members_of_image (s.told k)) (s.who k)) ∙ keeps.leads (sym (steady_node_stays_sequencer m n s) ∙ is);
  promised = (λ k. stamp_is_less (s.promise k) (s.told k).view) ∙ keeps.promised;
  blank = λ none. let before = ap has_log_by_status (sym s.status) ∙ none in s.top ∙ keeps.blank before;
  ballot = λ b is. own_ballot_of_steady_node m n b s (keeps.ballot b (sym s.ballot ∙ is));
  settled = λ leaves. ap sending.first_unsettled_send s.sends ∙ keeps.settled (sym s.leaving ∙ leaves);
  due = subst (λ (r : Row). RequestMayBeDue r (life_of_name n.core.who) (next_request n.sends)) (sym (λ k. row_at_place (s.told k) (s.who k)))
      (subst (λ (w : ℕ). RequestMayBeDue (row_at_place (image_of_node m) m.core.who) (life_of_name w) (next_request n.sends)) (sym s.who)
      (subst (λ (x : Sends). RequestMayBeDue (row_at_place (image_of_node m) m.core.who) (life_of_name m.core.who) (next_request x)) (sym s.sends) keeps.due));
  unsent = λ none.
      let before = keeps.unsent (ap has_log_by_status (sym s.status) ∙ none) in
      let same = ap next_request s.sends in
      omega arith;
}

-- who leads may
pub sequencer_may_lead : (m : Node) → NodeKeeps m → is_sequencer m ≡ true → IsMemberOrLastLeaver m.core
sequencer_may_lead m keeps is = inl (keeps.leads is)

-- ---- the refresh

pub lead_is_steady : (m : Node) (new : CoreWithReports) → CoreFrontsAreInOrder m.core → RefreshesAlike fronts.refresh_with_reports (core_with_reports_of m) new → IsSteady m (node_with_core_and_reports m new)
unfolding raise_own_report tell_accept_front advance_with_reports trim_to_least_taken raise_accepted_to_told pass_over_below_join
lead_is_steady m new order by =
    let is = by m.core.log (untrimmed_core_keeps_own_log m.core order.kept) in
    let end = (is.0).kept in
    record {
      who = ap (λ (s : CoreWithReports). s.core.who) is.1;
      promise = ap (λ (s : CoreWithReports). s.core.promise) is.1;
      told = end_has_image_of_whole_log m.core.log new.core.log end;
      top = top_of_end_is_top m.core.log new.core.log end;
      status = refl;
      ballot = refl;
      leaving = refl;
      sends = refl;
    }

-- a node that goes on with what it was told
pub advance_keeps_node_order : (m : Node) (core : CoreState) → core ≡ advance_core m.core → NodeKeeps m → NodeKeeps (record m { core = core })
unfolding raise_accepted_to_told pass_over_below_join
advance_keeps_node_order m core is keeps = subst (λ (x : CoreState). NodeKeeps (record m { core = x })) (sym is)
    (steady_node_keeps_order m (record m { core = advance_core m.core })
    (record { who = refl; promise = refl; told = refl; top = refl; status = refl; ballot = refl; leaving = refl; sends = refl }) keeps
    (let own = keeps.own in split_on_bool_of_log (nat_lt m.core.taken (m.core.start - 1)) (λ t. rw t (omega arith)) (λ f. rw f own)))

-- other sends, and all else the same
pub record MayHoldSends (m : Node) (sends : Sends) : Type 0 where
  pub settled : m.leaving ≡ true → sending.first_unsettled_send sends ≡ None
  pub due : RequestMayBeDue (row_at_place (image_of_node m) m.core.who) (life_of_name m.core.who) (next_request sends)
  pub unsent : has_log_by_status m.status ≡ false → next_request sends ≤ 1

-- other sends, another ballot, or a wish to leave
keeps_changed : (m : Node) (leaving : Bool) (sends : Sends) (ballot : Option Ballot) → MayHoldSends (record m { leaving = leaving }) sends
    → ((b : Ballot) → ballot ≡ Some b → IsOwnBallot m b) → NodeKeeps m → NodeKeeps (record m { leaving = leaving; sends = sends; ballot = ballot })
keeps_changed m leaving sends ballot may owns keeps = record {
  own = keeps.own;
  leads = keeps.leads;
  promised = keeps.promised;
  blank = keeps.blank;
  ballot = λ b there. own_ballot_of_same_promise m (record m { leaving = leaving; sends = sends; ballot = ballot }) b refl refl refl (λ logged. logged) (owns b there);
  settled = may.settled;
  due = may.due;
  unsent = may.unsent;
}

pub new_sends_keep_node_order : (m : Node) (sends : Sends) → MayHoldSends m sends → NodeKeeps m → NodeKeeps (record m { sends = sends })
new_sends_keep_node_order m sends may keeps = keeps_changed m m.leaving sends m.ballot may keeps.ballot keeps

pub leaving_keeps_node_order : (m : Node) → waiting_send_of m ≡ None → NodeKeeps m → NodeKeeps (record m { leaving = true })
leaving_keeps_node_order m none keeps =
    keeps_changed m true m.sends m.ballot (record { settled = λ leaves. none; due = keeps.due; unsent = keeps.unsent }) keeps.ballot keeps

-- the waiting send is settled, which stands in the list
pub may_hold_settled_sends : (m : Node) (sends : Sends) (req : ℕ) → NodeKeeps m → option_map (λ (send : OwnSend). send.req) (sending.first_unsettled_send m.sends) ≡ Some req
    → next_request sends ≡ req + 1 → RequestMayBeDue (row_at_place (image_of_node m) m.core.who) (life_of_name m.core.who) (req + 1) → 0 < top m → MayHoldSends m sends
may_hold_settled_sends m sends req keeps waits next due some = record {
  settled = λ leaves. let none = ap (option_map (λ (send : OwnSend). send.req)) (keeps.settled leaves) in absurd (cc);
  due = subst (λ n. RequestMayBeDue (row_at_place (image_of_node m) m.core.who) (life_of_name m.core.who) n) (sym next) due;
  unsent = λ none. let blank = keeps.blank none in absurd (omega arith);
}

-- ---- a report of another name, and an entry more

pub report_is_steady : (m : Node) (from : ℕ) (report : Report) → IsSteady m (node_with_report m from report)
report_is_steady m from report = record { who = refl; promise = refl; told = refl; top = refl; status = refl; ballot = refl; leaving = refl; sends = refl }

pub report_keeps_node_order : (m : Node) (from : ℕ) (report : Report) → from ≢ m.core.who → NodeKeeps m → NodeKeeps (node_with_report m from report)
report_keeps_node_order m from report other keeps =
    let test : (m.core.who == from) ≡ false = grind (arith, nat_tests) in
    let same : reports_after_report m.reports from report m.core.who ≡ m.reports m.core.who = rw test refl in
    let taken = ap (λ (r : Report). r.taken) same in
    steady_node_keeps_order m (node_with_report m from report) (report_is_steady m from report) keeps (let own = keeps.own in omega arith)

view_after : (image : Image) (number : ℕ) (e : Entry) → is_view e ≡ false → (after image number e).view ≡ image.view
unfolding after
view_after image number (Data from req body) h = split_on_bool_of_log ((row_at_place image from).life == life_of_name from) (λ t. rw t refl) (λ f. rw f refl)
view_after image number (Join name) h = refl
view_after image number (Leave name) h = split_on_bool_of_log ((row_at_place image name).life == life_of_name name) (λ t. rw t refl) (λ f. rw f refl)
view_after image number (View v) h = absurd (cc)

view_pushed : (m : Node) (e : Entry) → is_view e ≡ false → view (push_entry m e) ≡ view m
view_pushed m e h = ap (λ (i : Image). i.view) (told_by_pushed_entry m.core.log e) ∙ view_after (image_of_node m) (top m + 1) e h

pub is_sequencer_after_push : (m : Node) (e : Entry) → is_view e ≡ false → is_sequencer (push_entry m e) ≡ is_sequencer m
is_sequencer_after_push m e h = ap (λ (v : Stamp). (is_member m.status && stamps_are_equal m.core.promise v) && (v.by == m.core.who)) (view_pushed m e h)

pub fold_keeps_sixteen_rows : (image : Image) (n : ℕ) (es : List Entry) → length image.rows ≡ 16 → length (image_after_entries image n es).rows ≡ 16
unfolding image_after_entries
fold_keeps_sixteen_rows image n [] long = long
fold_keeps_sixteen_rows image n (e ∷ es) long = fold_keeps_sixteen_rows (after image n e) (n + 1) es (sixteen_rows_after_entry image n e long)

-- what is settled stands in the list with an entry more
pub due_request_after_push : (m : Node) (e : Entry) (capacity : ℕ) → IsKept m.core.log capacity → fits (image_of_node m) e ≡ true → (next : ℕ)
    → RequestMayBeDue (row_at_place (image_of_node m) m.core.who) (life_of_name m.core.who) next → RequestMayBeDue (row_at_place (image_of_node (push_entry m e)) m.core.who) (life_of_name m.core.who) next
due_request_after_push m e capacity kept fit next due =
    subst (λ (i : Image). RequestMayBeDue (row_at_place i m.core.who) (life_of_name m.core.who) next) (sym (told_by_pushed_entry m.core.log e))
    (due_request_after_entry (image_of_node m) (top m + 1) e m.core.who next (fold_keeps_sixteen_rows m.core.log.image (m.core.log.start + 1) m.core.log.entries kept.image.places)
    (omega arith) fit due)

-- one that isn't a View, where who leads stays a member
pub push_keeps_node_order : (m : Node) (e : Entry) → is_view e ≡ false → fits (image_of_node m) e ≡ true → (capacity : ℕ) → IsKept m.core.log capacity → has_log_by_status m.status
    ≡ true → (is_sequencer m ≡ true → has (members (push_entry m e)) m.core.who ≡ true) → NodeKeeps m → NodeKeeps (push_entry m e)
push_keeps_node_order m e plain fit capacity kept has_one stays keeps = record {
  own = keeps.own;
  leads = λ is. stays (sym (is_sequencer_after_push m e plain) ∙ is);
  promised = ap (stamp_is_less m.core.promise) (view_pushed m e plain) ∙ keeps.promised;
  blank = λ none. absurd (cc);
  ballot = λ b there. own_ballot_of_same_promise m (push_entry m e) b refl refl (view_pushed m e plain) (λ logged. logged) (keeps.ballot b there);
  settled = keeps.settled;
  due = due_request_after_push m e capacity kept fit (next_request m.sends) keeps.due;
  unsent = λ none. absurd (cc);
}

pub status_of_member_has_log : (s : Status) → is_member s ≡ true → has_log_by_status s ≡ true
status_of_member_has_log Member h = refl
status_of_member_has_log _ h = absurd (cc)

-- who acts has a list
acting_log : (m : Node) → acts_in_its_view m ≡ true → has_log_by_status m.status ≡ true
acting_log m h = status_of_member_has_log m.status (left_of_and (is_member m.status) (stamps_are_equal m.core.promise (view m)) h)

pub sequencer_status_has_log : (m : Node) → is_sequencer m ≡ true → has_log_by_status m.status ≡ true
sequencer_status_has_log m h = acting_log m (left_of_and (acts_in_its_view m) ((view m).by == m.core.who) h)

-- ---- the refresh leaves what a node tells, and once more changes nothing

pub refresh_is_steady : (m : Node) → IsSteady m (refresh m)
unfolding refresh refresh_as_sequencer raise_own_report tell_accept_front advance_with_reports trim_to_least_taken raise_accepted_to_told pass_over_below_join
refresh_is_steady m = split_on_bool_of_log (is_sequencer m)
    (λ t. rw t (record { who = refl; promise = refl; told = refl; top = refl; status = refl; ballot = refl; leaving = refl; sends = refl }))
    (λ f. rw f (record { who = refl; promise = refl; told = refl; top = refl; status = refl; ballot = refl; leaving = refl; sends = refl }))

-- the end of a node tells what it tells
pub end_of_node_is_steady : (m n : Node) → IsEndOf m n → IsSteady m n
end_of_node_is_steady m n end = record {
  who = ap (λ (x : Node). x.core.who) end.same;
  promise = ap (λ (x : Node). x.core.promise) end.same;
  told = end_has_image_of_whole_log m.core.log n.core.log end.stands.kept;
  top = top_of_end_is_top m.core.log n.core.log end.stands.kept;
  status = ap (λ (x : Node). x.status) end.same;
  ballot = ap (λ (x : Node). x.ballot) end.same;
  leaving = ap (λ (x : Node). x.leaving) end.same;
  sends = ap (λ (x : Node). x.sends) end.same;
}

pub steady_nodes_follow_each_other : (a b c : Node) → IsSteady a b → IsSteady b c → IsSteady a c
steady_nodes_follow_each_other a b c f g = record {
  who = g.who ∙ f.who;
  promise = g.promise ∙ f.promise;
  told = g.told ∙ f.told;
  top = g.top ∙ f.top;
  status = g.status ∙ f.status;
  ballot = g.ballot ∙ f.ballot;
  leaving = g.leaving ∙ f.leaving;
  sends = g.sends ∙ f.sends;
}

pub end_of_refresh_is_steady : (m n : Node) → IsEndOf (refresh m) n → IsSteady m n
end_of_refresh_is_steady m n end = steady_nodes_follow_each_other m (refresh m) n (refresh_is_steady m) (end_of_node_is_steady (refresh m) n end)

-- the end of a node keeps what it keeps
pub end_keeps_node_order : (m n : Node) → IsEndOf m n → NodeKeeps m → NodeKeeps n
end_keeps_node_order m n end keeps =
    let taken = ap (λ (x : Node). x.core.taken) end.same in
    let own = ap (λ (x : Node). (x.reports x.core.who).taken) end.same in
    steady_node_keeps_order m n (end_of_node_is_steady m n end) keeps (omega arith)

-- other bodies, and all else the same
pub bodies_keep_node_order : (m : Node) (bodies : List KeptBody) → NodeKeeps m → NodeKeeps (record m { bodies = bodies })
bodies_keep_node_order m bodies keeps = steady_node_keeps_order m (record m { bodies = bodies })
    (record { who = refl; promise = refl; told = refl; top = refl; status = refl; ballot = refl; leaving = refl; sends = refl }) keeps keeps.own

-- the end of a step leaves a node its name
settled_at_who : (m : Node) (req : ℕ) (at : Option ℕ) → (settle_send_at m req at).core.who ≡ m.core.who
settled_at_who m req None = refl
settled_at_who m req (Some k) = refl

settled_who : (m : Node) (w : Option OwnSend) → (settle_send_where_accepted m w).core.who ≡ m.core.who
settled_who m None = refl
settled_who m (Some s) = settled_at_who m s.req (accepted_number_of_send m s.req)

pub refresh_at_end_keeps_name : (m : Node) → (refresh_at_end m).core.who ≡ m.core.who
unfolding refresh_at_end settle_waiting_send
refresh_at_end_keeps_name m = settled_who (refresh m) (waiting_send_of (refresh m)) ∙ (refresh_is_steady m).who
