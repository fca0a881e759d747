-- Where a lawful run ends, who lags behind a running sequencer's View may fetch what is missing.
use Rattle.am_fetch_runs.proofs.Words.{◌≡◌, ℕ, ◌+◌, ◌-◌, ◌<◌, ◌≤◌, ◌==◌, true, false, List, length, take, slice_get, Some, inl, inr, sym, ap, ◌∙◌, subst, arith}
use Rattle.am_fetch_runs.proofs.Words.{eqb-true, View, Rules, Image, Stamp, Entry, blank, log_image_at, log_entry_at, stamps_are_equal, Node, top, view, World, run}
use Rattle.am_fetch_runs.proofs.Words.{IsBeginningOf, is_member_at_end, key_of_stamp, stamp_of_list, image_of_list, beginning_of_good_is_good, shorter_beginning_begins_longer, view_after_pushed_view, name_of_view_is_byte}
use Rattle.am_fetch_runs.proofs.Words.{length_of_pushed_list, view_key_grows_along_list, image_of_whole_list, view_number_le_length, image_at_of_whole_list, Group, list_with_chosen_view, current_of, Following}
use Rattle.am_fetch_runs.proofs.Words.{image_of_node, run_trims_only_taken, names_hold_in_runs, LawfulUntilLastStop, lawful_is_until_last_stop, some_group_follows_until_last_stop, Rules, MayFound, Event, LagsBehind, LaggersMayCatchUp, LaggersReachView}
use Rattle.am_base.specs.declared.entry.GroupView.{GroupView}
use Rattle.am_base.specs.Lists.{fits, row_of_name}
use Rattle.am_base.proofs.Prefixes.{take_length_of_beginning}
use Rattle.am_node_defs.proofs.Lives.{entry_fits_at_its_number, unused_places_after_entries, UnusedPlacesHaveNoLife}
use Rattle.am_model.specs.Refresh.{refresh_at_end}
use Rattle.am_model.specs.Calls.{is_unfinished_ballot}
use Rattle.am_model.specs.Resets.{is_unfetchable_view}
use Rattle.am_step_laws.proofs.Resets.{stamp_eq_of_itself}
use Rattle.am_step_laws.proofs.Trimming.TakenRuns.{WorldTrimsOnlyTaken}
use Rattle.am_refinement.proofs.Entries.{stamps_of_equal_keys}
use Rattle.am_refinement.proofs.Parts.{entry_at_of_whole_list}
use Rattle.am_refinement.proofs.Sending.{last_view_number_and_resilience}
use Rattle.std.proofs.lemmas.Bool.{cases_lt, false_from_ne_true}
use Rattle.am_fetch_laws.specs.Exchanges.{MayCatchUp}
use Rattle.am_fetch_laws.proofs.Exchanged.{exchanges_reach_view}
use Rattle.am_fetch_runs.proofs.Lists.{member_at_end_has_not_left, no_view_is_unfetchable, entry_is_above_start}
use Rattle.am_fetch_runs.proofs.Behind as behind
use Rattle.am_fetch_runs.proofs.Alike.{lists_of_both}

-- who lags behind a sequencer is another
pub lagger_is_another : (w : World) (q name : ℕ) → LagsBehind w q name → (q == name) ≡ false
lagger_is_another w q name lag = false_from_ne_true (q == name) (λ (t : (q == name) ≡ true).
    let same = eqb-true q name t in
    let equal : stamps_are_equal (view (w.nodes name)) (view (w.nodes q)) ≡ true = ap (λ i. stamps_are_equal (view (w.nodes i)) (view (w.nodes q))) (sym same)
    ∙ stamp_eq_of_itself (view (w.nodes q)) in
    let b = lag.behind in
    cc)

module _ (rules : Rules) (w : World) (s : Group) (q name : ℕ) (old : Following rules w s) (lag : LagsBehind w q name) (own : (w.nodes q).core.who ≡ q)
    (mine : (w.nodes name).core.who ≡ name) (laws : WorldTrimsOnlyTaken rules w) where
  abbrev leader : Node
  leader = w.nodes q

  abbrev m : Node
  m = w.nodes name

  abbrev list : List Entry
  list = (s.node q).list

  open lists_of_both rules w s q name old lag.among lag.trimmed own laws use {kept, chain, good, begins, its, stands, long_member, long_leader, base_rises, taken_low, kept_from, told_}

  member : is_member_at_end list name ≡ true
  member = subst (λ l. is_member_at_end l name ≡ true) (sym chain) (behind.member_of_chain rules w s q name old lag.among own)

  told_list : image_of_list list ≡ image_of_node leader
  told_list = image_of_whole_list w q leader (s.node q) its

  viewed_list : stamp_of_list list ≡ view leader
  viewed_list = behind.view_of_whole_list rules w s q name old lag.among own

  current_view : s.views.current ≡ view leader
  current_view = behind.current_is_its_view rules w s q name old lag.among own

  small_view : (view leader).by < 256
  small_view = subst (λ (u : Stamp). u.by < 256) viewed_list (name_of_view_is_byte list good)

  -- ---- the promise

  promised : m.core.promise ≡ view leader
  promised = behind.promised_is_view rules w s q name old lag.among own lag.promised

  is_another : (q == name) ≡ false
  is_another = lagger_is_another w q name lag

  no_ballot : is_unfinished_ballot m.ballot ≡ false
  no_ballot = false_from_ne_true (is_unfinished_ballot m.ballot) (λ (t : is_unfinished_ballot m.ballot ≡ true).
      let above = ((kept.each name).ballot (behind.up_there rules w s q name old lag.among own) (stands.ballot ∙ t)).above in
      let same = ap key_of_stamp (stands.promise ∙ promised ∙ sym current_view) in
      omega arith)

  -- ---- the View

  abbrev before : List Entry
  before = (current_of s.views).before

  abbrev last : GroupView
  last = (current_of s.views).view

  opens : IsBeginningOf (list_with_chosen_view (current_of s.views)) list
  opens = subst (IsBeginningOf (list_with_chosen_view (current_of s.views))) (sym chain) kept.views.opens

  last_is_view : last.stamp ≡ view leader
  last_is_view =
      let after_ = view_after_pushed_view before last in
      let small = subst (λ (u : Stamp). u.by < 256) after_ (name_of_view_is_byte (list_with_chosen_view (current_of s.views)) (beginning_of_good_is_good opens good)) in
      let key = kept.views.stamps (key_of_stamp s.views.current) kept.views.now in
      stamps_of_equal_keys last.stamp (view leader) small small_view (key ∙ ap key_of_stamp current_view)

  number : (image_of_node leader).view_number ≡ length (list_with_chosen_view (current_of s.views))
  number = ap (λ (i : Image). i.view_number) (sym told_list) ∙ (last_view_number_and_resilience before last list good opens (viewed_list ∙ sym last_is_view)).0
      ∙ sym (length_of_pushed_list before (View last))

  missing : top m < (image_of_node leader).view_number
  unfolding stamp_of_list
  missing = elim (cases_lt (length (s.node name).list) (length (list_with_chosen_view (current_of s.views)))) [
    | inl short ↦ (let a = long_member in let b = number in omega arith)
    | inr reached ↦ absurd (
        let opened = shorter_beginning_begins_longer opens begins reached in
        let good_member = beginning_of_good_is_good begins good in
        let low = view_key_grows_along_list good_member opened in
        let high = view_key_grows_along_list good begins in
        let first = ap key_of_stamp (view_after_pushed_view before last ∙ last_is_view) in
        let end = ap key_of_stamp viewed_list in
        let told_m : stamp_of_list (s.node name).list ≡ view m = view_of_list in
        let mine_ = ap key_of_stamp told_m in
        let small = subst (λ (u : Stamp). u.by < 256) told_m (name_of_view_is_byte (s.node name).list good_member) in
        let same = stamps_of_equal_keys (view m) (view leader) small small_view (omega arith) in
        let equal : stamps_are_equal (view m) (view leader) ≡ true = ap (λ (u : Stamp). stamps_are_equal u (view leader)) same ∙ stamp_eq_of_itself (view leader) in
        let b = lag.behind in
        cc)
  ]
    where
      view_of_list : stamp_of_list (s.node name).list ≡ view m
      view_of_list = ap (λ (i : Image). i.view) (image_of_whole_list w name m (s.node name) stands)

  reached : (image_of_node leader).view_number ≤ top leader
  reached =
      let most = view_number_le_length list in
      let same = ap (λ (i : Image). i.view_number) told_list in
      let long = long_leader in
      omega arith

  -- ---- fronts

  abbrev base : ℕ
  base = (refresh_at_end leader).core.base

  room : (image_of_node leader).view_number - base ≤ m.core.rules.window + 15
  room =
      let few = (laws.kept q).few in
      let same = ap (λ (x : Rules). x.window) (laws.kept name).founding in
      let a = base_rises in
      let b = reached in
      omega arith

  -- ---- what lists tell

  viewed : (log_image_at leader.core.log (image_of_node leader).view_number).view ≡ view leader
  unfolding stamp_of_list
  viewed =
      let a = kept_from in
      let b = missing in
      ap (λ (i : Image). i.view) (image_at_of_whole_list w q (image_of_node leader).view_number leader (s.node q) its (omega arith)
      ∙ ap (λ n. image_of_list (take n list)) number ∙ ap image_of_list (take_length_of_beginning opens))
      ∙ last_view_of_front
    where
      last_view_of_front : stamp_of_list (list_with_chosen_view (current_of s.views)) ≡ view leader
      last_view_of_front = view_after_pushed_view before last ∙ last_is_view

  fit : (k : ℕ) (e : Entry) → k ≤ (image_of_node leader).view_number → log_entry_at leader.core.log k ≡ Some e
      → (fits (log_image_at leader.core.log (k - 1)) e ≡ true) × (is_unfetchable_view (view leader) false e ≡ false)
  fit k e low there =
      let above = entry_is_above_start leader.core.log k e there in
      let get : slice_get list (k - 1) ≡ Some e = sym (entry_at_of_whole_list w q k leader (s.node q) its above) ∙ there in
      let a = reached in
      let b = long_leader in (
        ap (λ (i : Image). fits i e) (image_at_of_whole_list w q (k - 1) leader (s.node q) its (omega arith)) ∙ entry_fits_at_its_number blank 1 (k - 1) list e good.fit get,
        ap (λ (u : Stamp). is_unfetchable_view u false e) (sym viewed_list) ∙ no_view_is_unfetchable list (k - 1) e good (omega arith) get,
      )

  stays : (k : ℕ) → top m ≤ k → k < (image_of_node leader).view_number → (row_of_name (log_image_at leader.core.log k) m.core.who).left ≡ 0
  stays k low high =
      let a = kept_from in
      let b = reached in
      let c = long_leader in
      let is = image_at_of_whole_list w q k leader (s.node q) its (omega arith) in
      let used : UnusedPlacesHaveNoLife (log_image_at leader.core.log k) = unused_places_after_entries leader.core.log.image (leader.core.log.start + 1) _ (omega arith)
      (laws.each q lag.among.small_leader).fronts.used in
      ap (λ i. (row_of_name (log_image_at leader.core.log k) i).left) mine ∙ ap (λ (i : Image). (row_of_name i name).left) is
      ∙ member_at_end_has_not_left list name k good (omega arith) (subst UnusedPlacesHaveNoLife is used) member

  pub lagger_may_catch_up : MayCatchUp leader m
  lagger_may_catch_up =
      let a = lag.trimmed in
      let b = taken_low in
      record {
        leads = lag.among.leads;
        list = record {
          behind = record {
            listed = lag.among.member_;
            below = ap (λ (u : Stamp). stamps_are_equal (view m) u) promised ∙ lag.behind;
            other = ap (λ (u : Stamp). u.by == m.core.who) promised ∙ (λ i. leads_own i == mine i) ∙ is_another;
            no_ballot = no_ballot;
          };
          promised = promised;
          missing = missing;
          reached = reached;
          kept = kept_from;
          told_ = told_;
          viewed = viewed;
          fit = fit;
          stays = stays;
          trimmed = lag.trimmed;
          low = omega arith;
          room = room;
        };
      }
    where
      leads_own : (view leader).by ≡ q
      leads_own = (behind.acting rules w s q name old lag.among own).2 ∙ own

-- ---- in every lawful run, and after it while nobody stops

pub laggers_may_catch_up_until_last_stop : (rules : Rules) (events : List Event) (q name : ℕ) → MayFound rules → LawfulUntilLastStop rules events → LagsBehind (run rules events) q name
    → MayCatchUp ((run rules events).nodes q) ((run rules events).nodes name)
laggers_may_catch_up_until_last_stop rules events q name may until lag =
    let h = some_group_follows_until_last_stop rules events may until in
    let who = (names_hold_in_runs rules events may).who in
    lagger_may_catch_up rules (run rules events) h.0 q name h.1 lag (who q) (who name) (run_trims_only_taken rules events may)

pub laggers_may_catch_up : LaggersMayCatchUp
laggers_may_catch_up rules events q name may lawful lag = laggers_may_catch_up_until_last_stop rules events q name may (lawful_is_until_last_stop rules events lawful) lag

pub laggers_reach_view : LaggersReachView
laggers_reach_view rules events q name many may lawful lag far =
    exchanges_reach_view (record { sequencer = (run rules events).nodes q; member_ = (run rules events).nodes name }) many (laggers_may_catch_up rules events q name may lawful lag) far
