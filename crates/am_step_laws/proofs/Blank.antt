-- A node that has no list has a blank one.
use Rattle.am_step_laws.proofs.Words.{EachNodeHas, events_keep_each_node, first_node_has_property, member_status_has_log, ◌≡◌, ℕ, ◌<◌, true, false, [], refl, sym, ap, ◌∙◌, subst, arith, Outcome, Rules, Log}
use Rattle.am_step_laws.proofs.Words.{blank, top_of_log, raise_accepted_to_told, pass_over_below_join, Status, Node, Ballot, is_member, is_sequencer, has_log_by_status, BallotVerdict, refresh, World, start}
use Rattle.am_step_laws.proofs.Words.{first_node, run, split_on_bool, Cause, Change, refreshes, settles, numbers, notes, stores, begins_list, departs, looks, fetches}
use Rattle.am_step_laws.proofs.Words.{stores_view, asks_to_join, closes, Changes, no_change, changed, acting_name, LooksAtBallot, finds_itself_out, refresh_rests_with_list, settle_changes_only_sends}
use Rattle.am_step_laws.proofs.Words.{EventsKeep, runs_keep_what_events_keep, NodesWithoutListAreBlank}
use Rattle.am_model.specs.declared.status.Status.TheVariants as status
use Rattle.am_step_laws.proofs.ViewChanges.{NodeBallotFits, sequencer_is_member, hearing_sequencer_has_log, hearing_member_has_log, balloting_looks_at_open_ballot, change_keeps_list_and_ballot}
use Rattle.am_step_laws.proofs.Numbers.RunCounts.{number_bounds_hold_in_runs}
use Rattle.am_step_laws.proofs.ViewNames.{NodePartsHaveNames, HeardStampsHaveNames, change_keeps_stamp_names}
use Rattle.am_step_laws.proofs.Views.{WorldNotesViewsOnce, heard_stamps_have_names}
use Rattle.am_step_laws.proofs.{Views.events_note_views_once, Views.start_notes_views_once}

-- by the parts of a node that stay while it has no list
pub record ListIsBlank (log : Log) (base told begins : ℕ) : Type 0 where
  pub blank_ : log ≡ record { start = 0; image = blank; entries = [] }
  pub base_ : base ≡ 0
  pub told_ : told ≡ 0
  pub begins_ : begins ≡ 0

abbrev pub IsBlankWithoutLog : Node → Type 0
IsBlankWithoutLog m = has_log_by_status m.status ≡ false → ListIsBlank m.core.log m.core.base m.core.told m.core.start

pub status_without_log_is_nonmember : (s : Status) → has_log_by_status s ≡ false → is_member s ≡ false
status_without_log_is_nonmember status.Stranger h = refl
status_without_log_is_nonmember status.Asking h = refl
status_without_log_is_nonmember status.Member h = absurd (cc)
status_without_log_is_nonmember status.Departed h = absurd (cc)

blank_refresh : (m : Node) → IsBlankWithoutLog m → IsBlankWithoutLog (refresh m)
unfolding refresh raise_accepted_to_told pass_over_below_join
blank_refresh m h = split_on_bool (is_sequencer m)
    (λ t. λ none. absurd (
    let a = sequencer_is_member m t in
    let kept : has_log_by_status m.status ≡ false = (let same = (refresh_rests_with_list m).rests.status in sym (ap has_log_by_status same) ∙ none) in
    let f = status_without_log_is_nonmember m.status kept in
    cc))
    (λ f. rw f h)

-- a look changes no status
look_log : (m : Node) (b : Ballot) (v : BallotVerdict) → LooksAtBallot m b v → has_log_by_status v.node.status ≡ has_log_by_status m.status
look_log m b v (finds_itself_out x) = refl
look_log m b v _ = refl

-- who has a list isn't blank
listed : (m n : Node) → has_log_by_status n.status ≡ has_log_by_status m.status → has_log_by_status m.status ≡ true → IsBlankWithoutLog n
listed m n same t = λ f. absurd (cc)

pub change_keeps_list_blank : {c : Cause} {o : Outcome} (m n : Node) → Change c o m n → NodeBallotFits m → IsBlankWithoutLog m → IsBlankWithoutLog n
change_keeps_list_blank m n refreshes k h = blank_refresh m h
change_keeps_list_blank m n settles k h = subst IsBlankWithoutLog (sym (settle_changes_only_sends m)) h
change_keeps_list_blank m n (numbers e leads room why) k h = listed m n refl (member_status_has_log m.status (sequencer_is_member m leads))
change_keeps_list_blank m n (notes s v base acc by from) k h = listed m n refl (hearing_sequencer_has_log m s v from)
change_keeps_list_blank m n (stores s v base acc number e by from plain may) k h = listed m n refl (hearing_sequencer_has_log m s v from)
change_keeps_list_blank m n (begins_list s v base join image is o may) k h = λ f. absurd (cc)
change_keeps_list_blank m n (departs s v number is by leaves) k h = λ f. absurd (cc)
change_keeps_list_blank m n (looks b verdict over why look is) k h =
    let l = balloting_looks_at_open_ballot m b why k in
    λ f. absurd (let d = look_log m b verdict look in let t = l.has_list in cc)
change_keeps_list_blank m n (fetches s v base number e is by promise below from may) k h = listed m n refl (hearing_member_has_log m s by)
change_keeps_list_blank m n (stores_view s base number v is by own other promise below may) k h = listed m n refl (hearing_member_has_log m s by)
change_keeps_list_blank m n (asks_to_join is was) k h = λ f. h (ap has_log_by_status was)
change_keeps_list_blank m n (closes leads leaves alone room) k h = λ f. absurd (cc)
change_keeps_list_blank m n _ k h = h

changes_blank : {c : Cause} {o : Outcome} (m n : Node) → HeardStampsHaveNames c → Changes c o m n → NodePartsHaveNames m → NodeBallotFits m → IsBlankWithoutLog m → IsBlankWithoutLog n
changes_blank m n heard no_change names k h = h
changes_blank m n heard (changed {n = x} one more) names k h =
    changes_blank x n heard more (change_keeps_stamp_names heard m x one names) (change_keeps_list_and_ballot heard m x one names k).balloted (change_keeps_list_blank m x one k h)

-- ---- runs

abbrev pub ListlessNodesAreBlank : Rules → World → Type 0
ListlessNodesAreBlank rules = EachNodeHas (WorldNotesViewsOnce rules) (λ name n. name < 256 → IsBlankWithoutLog n)

pub events_keep_lists_blank : (rules : Rules) → EventsKeep (ListlessNodesAreBlank rules)
events_keep_lists_blank rules = events_keep_each_node (WorldNotesViewsOnce rules) _ (events_note_views_once rules)
    (λ w e c s cause effect views blank few. let kept = views.each (acting_name w e) few in
    changes_blank (w.nodes (acting_name w e)) s.node (heard_stamps_have_names rules w e c views cause) effect.changes kept.names kept.balloted (blank few))

pub first_node_has_blank_list : (rules : Rules) (name : ℕ) → IsBlankWithoutLog (first_node rules name)
first_node_has_blank_list rules name = first_node_has_property rules IsBlankWithoutLog name (λ f. absurd (cc)) (λ f. record { blank_ = refl; base_ = refl; told_ = refl; begins_ = refl })

none_in : (log : Log) → log ≡ record { start = 0; image = blank; entries = [] } → top_of_log log ≡ 0
none_in log is = ap top_of_log is

pub blank_lists_hold_in_runs : NodesWithoutListAreBlank
blank_lists_hold_in_runs rules events name may few none =
    let w = run rules events in
    let h = runs_keep_what_events_keep (ListlessNodesAreBlank rules) (events_keep_lists_blank rules) (start rules) events
    (record { base = start_notes_views_once rules may; each = λ other low. first_node_has_blank_list rules other }) in
    let k = h.each name few none in
    let n = (number_bounds_hold_in_runs rules events).each name in
    let top = none_in (w.nodes name).core.log k.blank_ in
    record {
      log = k.blank_;
      base = k.base_;
      told = k.told_;
      start = k.begins_;
      acc = omega arith;
      taken = omega arith;
      ballot = (h.base.each name few).balloted.none none;
    }
