-- What the parts of a node keep where its list is trimmed or gets one entry more.
use Rattle.am_resetting.proofs.DecidingWords.{◌≡◌, ◌⊎◌, ⊎_elim, inl, inr, ℕ, ◌+◌, ◌≤◌, [], ◌∷◌, Bool, true, false, ◌==◌, ◌&&◌, nat_lt, Some, refl, sym, ap}
use Rattle.am_resetting.proofs.DecidingWords.{subst, ◌∙◌, length-append, arith, nat_tests, Image, Stamp, Entry, Data, Join, Leave, View, has, stamp_is_less}
use Rattle.am_resetting.proofs.DecidingWords.{stamps_are_equal, Log, top_of_log, log_with_entry, after, fits, members_of_image, CoreState, CoreChangesAlike, trim_core_to, top_of_end_is_top, end_has_image_of_whole_log}
use Rattle.am_resetting.proofs.DecidingWords.{told_by_pushed_entry, untrimmed_core_keeps_own_log, split_on_bool_of_log, has_log_by_status, Node, Ballot, top, image_of_node, view, members, acts_in_its_view, is_member, is_sequencer}
use Rattle.am_resetting.proofs.DecidingWords.{push_entry, IsKept, next_request, NodeKeeps, IsSteady, due_request_after_push, steady_node_keeps_order, ended_ballot_counts_as_own, IsTakenOut, HasNoViewAbove}
use Rattle.am_resetting.proofs.DecidingWords.{CatcherMayStore}
use Rattle.am_node_defs.specs.Reports as reports
use Rattle.am_resetting.proofs.{Orders.stamp_lt_not_equal, Views.members_after_view_have_by, Views.view_after_view_is_stamp, Views.view_stays_after_data, Views.view_stays_after_join, Views.view_stays_after_leave}

-- who doesn't act doesn't lead
idle_leads : (m : Node) → acts_in_its_view m ≡ false → is_sequencer m ≡ false
idle_leads m h = rw h refl

steady_acts : (m n : Node) → IsSteady m n → acts_in_its_view n ≡ acts_in_its_view m
steady_acts m n s = λ k. is_member (s.status k) && stamps_are_equal (s.promise k) (s.told k).view

-- ---- a trim

pub trimmed_core_is_steady : (m : Node) (core : CoreState) (base : ℕ) → m.core.base ≡ m.core.log.start → CoreChangesAlike (trim_core_to base) m.core core
    → IsSteady m (record m { core = core })
trimmed_core_is_steady m core base e keeps =
    let one = keeps m.core.log (untrimmed_core_keeps_own_log m.core e) in
    let end = (one.0).kept in
    record {
      who = ap (λ (c : CoreState). c.who) one.1;
      promise = ap (λ (c : CoreState). c.promise) one.1;
      told = end_has_image_of_whole_log m.core.log core.log end;
      top = top_of_end_is_top m.core.log core.log end;
      status = refl;
      ballot = refl;
      leaving = refl;
      sends = refl;
    }

pub node_keeps_by_trim : (m : Node) (core : CoreState) (base : ℕ) → m.core.base ≡ m.core.log.start → CoreChangesAlike (trim_core_to base) m.core core → NodeKeeps m
    → NodeKeeps (record m { core = core })
node_keeps_by_trim m core base e keeps is =
    let n : Node = record m { core = core } in
    let steady = trimmed_core_is_steady m core base e keeps in
    let one = keeps m.core.log (untrimmed_core_keeps_own_log m.core e) in
    let taken = ap (λ (c : CoreState). c.taken) one.1 in
    let same = ap (λ who. (m.reports who).taken) steady.who in
    let own = is.own in
    steady_node_keeps_order m n steady is (omega arith)

-- ---- one entry more

pub top_after_pushed_entry : (log : Log) (e : Entry) → top_of_log (log_with_entry log e) ≡ top_of_log log + 1
top_after_pushed_entry log e = let h = length-append log.entries (e ∷ []) in omega arith

pub steady_nodes_after_same_push : (m n : Node) (e : Entry) → IsSteady m n → IsSteady (push_entry m e) (push_entry n e)
steady_nodes_after_same_push m n e s = record {
  who = s.who;
  promise = s.promise;
  told = told_by_pushed_entry n.core.log e ∙ (λ k. after (s.told k) (s.top k + 1) e) ∙ sym (told_by_pushed_entry m.core.log e);
  top = top_after_pushed_entry n.core.log e ∙ ap (λ k. k + 1) s.top ∙ sym (top_after_pushed_entry m.core.log e);
  status = s.status;
  ballot = s.ballot;
  leaving = s.leaving;
  sends = s.sends;
}

-- the view stays, or it is one that may be there, whose name is a member
record HasView (m n : Node) : Type 0 where
  pub up_to : stamp_is_less m.core.promise (view n) ≡ false
  pub own : has (members n) (view n).by ≡ true

view_pushed : (m : Node) (e : Entry) → fits (image_of_node m) e ≡ true → HasNoViewAbove m.core.promise e → (view (push_entry m e) ≡ view m) ⊎ HasView m (push_entry m e)
view_pushed m (Data from req body) fit up_to = inl (ap (λ (i : Image). i.view) (told_by_pushed_entry m.core.log (Data from req body))
    ∙ view_stays_after_data (image_of_node m) (top m + 1) from req body)
view_pushed m (Join name) fit up_to = inl (ap (λ (i : Image). i.view) (told_by_pushed_entry m.core.log (Join name)) ∙ view_stays_after_join (image_of_node m) (top m + 1) name)
view_pushed m (Leave name) fit up_to = inl (ap (λ (i : Image). i.view) (told_by_pushed_entry m.core.log (Leave name)) ∙ view_stays_after_leave (image_of_node m) (top m + 1) name)
view_pushed m (View w) fit up_to =
    let e : Entry = View w in
    let same = told_by_pushed_entry m.core.log e in
    let v : view (push_entry m e) ≡ w.stamp = ap (λ (i : Image). i.view) same ∙ view_after_view_is_stamp (image_of_node m) (top m + 1) w in
    inr (record {
      up_to = ap (stamp_is_less m.core.promise) v ∙ up_to;
      own = (λ k. has (members_of_image (same k)) (v k).by) ∙ members_after_view_have_by (image_of_node m) (top m + 1) w fit;
    })

pub node_keeps_by_push : (m : Node) (e : Entry) (capacity : ℕ) → IsKept m.core.log capacity → NodeKeeps m → fits (image_of_node m) e ≡ true → HasNoViewAbove m.core.promise e
    → acts_in_its_view m ≡ false → has_log_by_status m.status ≡ true → ((b : Ballot) → m.ballot ≡ Some b → b.is_over ≡ true) → NodeKeeps (push_entry m e)
node_keeps_by_push m e capacity kept keeps fit up_to idle logged over = record {
  own = keeps.own;
  leads = λ is. ⊎_elim
      (λ (same : view (push_entry m e) ≡ view m).
      let none : is_sequencer (push_entry m e) ≡ false = ap (λ (v : Stamp). (is_member m.status && stamps_are_equal m.core.promise v) && (v.by == m.core.who)) same
      ∙ idle_leads m idle in
      absurd (let x = sym none ∙ is in cc))
      (λ (new : HasView m (push_entry m e)).
      let by : ((view (push_entry m e)).by == m.core.who) ≡ true =
      split_right (is_member m.status && stamps_are_equal m.core.promise (view (push_entry m e))) ((view (push_entry m e)).by == m.core.who) is in
      let who : (view (push_entry m e)).by ≡ m.core.who = grind (arith, nat_tests) in
      sym (ap (has (members (push_entry m e))) who) ∙ new.own)
      (view_pushed m e fit up_to);
  promised = ⊎_elim
      (λ (same : view (push_entry m e) ≡ view m). ap (stamp_is_less m.core.promise) same ∙ keeps.promised)
      (λ (new : HasView m (push_entry m e)). new.up_to)
      (view_pushed m e fit up_to);
  blank = λ none. absurd (let x = sym logged ∙ none in cc);
  settled = keeps.settled;
  due = due_request_after_push m e capacity kept fit (next_request m.sends) keeps.due;
  unsent = keeps.unsent;
  ballot = λ b there. ended_ballot_counts_as_own (push_entry m e) b (over b there) (keeps.ballot b there).resilience;
}
  where
    split_right : (a b : Bool) → (a && b) ≡ true → b ≡ true
    split_right true b h = h
    split_right false b h = absurd (cc)

-- what may be stored, once the list is trimmed
pub node_keeps_by_stored_piece : (m n : Node) (base : ℕ) (e : Entry) (capacity : ℕ) → IsKept n.core.log capacity → CatcherMayStore m base e → IsSteady m n → NodeKeeps n
    → NodeKeeps (push_entry n e)
node_keeps_by_stored_piece m n base e capacity kept may s keeps = node_keeps_by_push n e capacity kept keeps
    (ap (λ (i : Image). fits i e) s.told ∙ may.fits)
    (subst (λ (p : Stamp). HasNoViewAbove p e) (sym s.promise) may.up_to)
    (steady_acts m n s ∙ may.idle)
    (ap has_log_by_status s.status ∙ may.logged)
    (λ b there. may.over b (sym s.ballot ∙ there))

-- ---- an unfinished ballot that was taken out

-- its node doesn't act
pub node_without_ballot_acts_not : (m : Node) (b : Ballot) → IsTakenOut m b → acts_in_its_view m ≡ false
node_without_ballot_acts_not m b is =
    let stamp = (is.own).stamp is.is_open in
    let ahead = (is.own).ahead is.is_open in
    let e : stamps_are_equal m.core.promise (view m) ≡ false = ap (λ (p : Stamp). stamps_are_equal p (view m)) (sym stamp) ∙ stamp_lt_not_equal (view m) b.stamp ahead in
    and_false (is_member m.status) (stamps_are_equal m.core.promise (view m)) e
  where
    and_false : (a b : Bool) → b ≡ false → (a && b) ≡ false
    and_false true b h = h
    and_false false b h = refl

-- the reports begin anew
pub node_keeps_by_new_reports : (m : Node) (base : ℕ) → base ≤ m.core.taken → NodeKeeps m → NodeKeeps (record m { reports = reports.reports_beginning_at base })
node_keeps_by_new_reports m base low keeps = steady_node_keeps_order m (record m { reports = reports.reports_beginning_at base })
    (record { who = refl; promise = refl; told = refl; top = refl; status = refl; ballot = refl; leaving = refl; sends = refl }) keeps
    (split_on_bool_of_log (nat_lt m.core.who 256) (λ t. rw t low) (λ f. rw f (omega arith)))
