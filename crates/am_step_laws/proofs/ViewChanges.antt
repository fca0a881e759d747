-- What changes do to views, to lists and to ballots: an open ballot is above the view, and is what was promised.
use Rattle.am_step_laws.proofs.Words.{member_status_has_log, stamp_eq_gives_equality, right_of_and, left_of_and, ◌≡◌, ℕ, ◌+◌, ◌<◌, ◌==◌, ◌&&◌, ◌||◌, not, max, nat_lt, Bool, true, false, Option, Some}
use Rattle.am_step_laws.proofs.Words.{None, refl, sym, ap, ◌∙◌, subst, arith, nat_tests, Outcome, GroupView, Stamp, Image, Entry, Leave, View, stamp_is_less}
use Rattle.am_step_laws.proofs.Words.{stamps_are_equal, Log, fits, image_after_entries, image_of_log, Status, Node, Ballot, image_of_node, view, acts_in_its_view, is_sequencer, is_member, is_asking_status, push_entry}
use Rattle.am_step_laws.proofs.Words.{trim_node_up_to, has_log_by_status, BallotVerdict, overtake_lower_ballot, need_set_of, need_set_without_given_up, trim_to_least_taken_by, next_stamp, is_unfinished_ballot, is_view, refresh, member_hears_other}
use Rattle.am_step_laws.proofs.Words.{hears_packet_of_its_view, hears_packet_of_sequencer, split_on_bool, Cause, HasOpenBallot, BallotIsLookedAt, with_more, without_one, as_it_is, LooksAtBallot, finds_itself_out}
use Rattle.am_step_laws.proofs.Words.{waits, fetches_from_best, finds_too_few, finds_no_room, decides, IsNumberedBy, asked_send}
use Rattle.am_step_laws.proofs.Words.{MayStoreFetched, without_ballot, for_ballot, MayBeWelcomed, Change, refreshes, settles, numbers, stores, begins_list, departs}
use Rattle.am_step_laws.proofs.Words.{promises, opens, looks, fetches, stores_view, asks_to_join, closes, Changes, unchanged, changed, or_false_first_is_false, or_false_second_is_false}
use Rattle.am_step_laws.proofs.Words.{view_of_pushed_plain_entry, refresh_rests_with_list, end_refresh_rests_with_list, settle_changes_only_sends, decided_view}
use Rattle.am_packet.specs.declared.packet.Packet.TheVariants as packet
use Rattle.am_model.specs.declared.status.Status.TheVariants as status
use Rattle.am_step_laws.proofs.ViewNames.{ViewStampHasName, NodePartsHaveNames, HeardStampsHaveNames, change_keeps_stamp_names, promised_stamp_has_name}
use Rattle.am_step_laws.proofs.ViewSteps.{EntriesStayAndViewRises, same_log_goes_on, log_growth_is_transitive, view_of_pushed_view, pushed_higher_view_grows_log, pushed_fitting_entry_grows_log, pushed_plain_entry_grows_log}
use Rattle.am_step_laws.proofs.Stamps.{stamp_at_most_is_transitive, stamp_at_most_then_below, lower_stamp_is_not_above, stamp_not_below_itself, unordered_stamps_are_equal, other_stamp_at_most_is_below}

-- ---- what ballots keep

pub record BallotIsOpenAndPromised (who : ℕ) (promise v : Stamp) (b : Ballot) : Type 0 where
  pub above : stamp_is_less v b.stamp ≡ true
  pub promised : promise ≡ b.stamp
  pub own : b.stamp.by ≡ who

abbrev pub OpenBallotIsPromised : ℕ → Stamp → Stamp → Option Ballot → Type 0
OpenBallotIsPromised who promise v None = Unit {0}
OpenBallotIsPromised who promise v (Some b) = b.is_over ≡ false → BallotIsOpenAndPromised who promise v b

-- by the parts of a node
pub record BallotFitsPromiseAndView (who : ℕ) (s : Status) (promise v : Stamp) (ballot : Option Ballot) : Type 0 where
  pub high : stamp_is_less promise v ≡ false
  pub none : has_log_by_status s ≡ false → ballot ≡ None
  pub opened : OpenBallotIsPromised who promise v ballot

abbrev pub NodeBallotFits : Node → Type 0
NodeBallotFits m = BallotFitsPromiseAndView m.core.who m.status m.core.promise (view m) m.ballot

-- what a change does
pub record ChangeKeepsListAndBallot (m n : Node) : Type 0 where
  pub goes : has_log_by_status m.status ≡ true → EntriesStayAndViewRises m.core.log n.core.log
  pub log_ : has_log_by_status m.status ≡ true → has_log_by_status n.status ≡ true
  pub balloted : NodeBallotFits n

-- nothing of that changes
does_same : (m n : Node) → n.core.who ≡ m.core.who → n.status ≡ m.status → n.core.promise ≡ m.core.promise → n.core.log ≡ m.core.log → n.ballot ≡ m.ballot
    → NodeBallotFits m → ChangeKeepsListAndBallot m n
does_same m n who stays promise log ballot h = record {
  goes = λ t. same_log_goes_on m.core.log n.core.log log;
  log_ = λ t. ap has_log_by_status stays ∙ t;
  balloted = rw (who, stays, promise, log, ballot) h;
}

-- an entry that is no View
does_plain : (m n : Node) (e : Entry) → is_view e ≡ false → n.core.who ≡ m.core.who → has_log_by_status n.status ≡ true → n.core.promise ≡ m.core.promise
    → n.core.log ≡ (push_entry m e).core.log → n.ballot ≡ m.ballot → NodeBallotFits m → ChangeKeepsListAndBallot m n
does_plain m n e plain who stays promise log ballot h =
    let v : view n ≡ view m = ap (λ (l : Log). (image_of_log l).view) log ∙ view_of_pushed_plain_entry m e plain in
    record {
      goes = λ t. log_growth_is_transitive m.core.log (push_entry m e).core.log n.core.log (pushed_plain_entry_grows_log m e plain) (same_log_goes_on (push_entry m e).core.log n.core.log log);
      log_ = λ t. stays;
      balloted = record { high = rw (promise, v) h.high; none = λ f. absurd (cc); opened = rw (who, promise, v, ballot) h.opened };
    }

pub numbered_entry_is_no_view : (c : Cause) (m : Node) (e : Entry) → IsNumberedBy c m e → is_view e ≡ false
numbered_entry_is_no_view c m e (asked_send s v report req body by known stays next) = refl
numbered_entry_is_no_view c m e _ = refl

-- ---- who has a list

pub asking_node_has_no_log : (s : Status) → is_member s ≡ false → (is_member s || is_asking_status s) ≡ true → has_log_by_status s ≡ false
asking_node_has_no_log status.Asking f h = refl
asking_node_has_no_log _ f h = absurd (cc)

-- who is welcomed has no list, and no ballot
pub welcomed_node_has_no_log : (m : Node) (s : ℕ) (v : Stamp) (base join : ℕ) (image : Image) → MayBeWelcomed m s v base join image → has_log_by_status m.status ≡ false
welcomed_node_has_no_log m s v base join image may = asking_node_has_no_log m.status may.no_member
    (right_of_and (not (s == m.core.who)) (is_member m.status || is_asking_status m.status) may.asks)

-- whoever has a ballot has a list
ballot_log : (m : Node) (b : Ballot) → m.ballot ≡ Some b → NodeBallotFits m → has_log_by_status m.status ≡ true
ballot_log m b is h = split_on_bool (has_log_by_status m.status) (λ t. t) (λ f. absurd (let none = h.none f in cc))

-- ---- promises

overtaken_open : (who : ℕ) (promise v by : Stamp) (ballot : Option Ballot) → (by.by < 256) → promise.by < 256 → stamp_is_less by promise ≡ false
    → OpenBallotIsPromised who promise v ballot → OpenBallotIsPromised who by v (overtake_lower_ballot by ballot)
overtaken_open who promise v by None k l low h = tt
overtaken_open who promise v by (Some b) k l low h = split_on_bool (not b.is_over && stamp_is_less b.stamp by)
    (λ t. rw t (λ over. absurd (cc)))
    (λ f. rw f (λ over.
    let o = h over in
    let stays : stamp_is_less b.stamp by ≡ false = let g = rw over at f in g in
    let up : stamp_is_less promise by ≡ false = subst (λ (s : Stamp). stamp_is_less s by ≡ false) (sym o.promised) stays in
    let same : by ≡ promise = unordered_stamps_are_equal by promise k l low up in
    record { above = o.above; promised = same ∙ o.promised; own = o.own }))

pub next_round_is_above : (promise : Stamp) (who : ℕ) → stamp_is_less promise (record { round = promise.round + 1; by = who }) ≡ true
next_round_is_above promise who = let t : nat_lt promise.round (promise.round + 1) ≡ true = grind (arith, nat_tests) in rw t refl

-- ---- looks at a ballot

-- the ballot that is looked at is the open one, but for votes
pub record LooksAtOpenBallot (m : Node) (b : Ballot) : Type 0 where
  pub has_list : has_log_by_status m.status ≡ true
  pub open_ : BallotIsOpenAndPromised m.core.who m.core.promise (view m) b

pub open_ballot_is_promised : (m : Node) (b : Ballot) → HasOpenBallot m b → NodeBallotFits m → BallotIsOpenAndPromised m.core.who m.core.promise (view m) b
open_ballot_is_promised m b o h = subst (OpenBallotIsPromised m.core.who m.core.promise (view m)) o.last h.opened o.open_

pub balloting_looks_at_open_ballot : {c : Cause} (m : Node) (b : Ballot) → BallotIsLookedAt c m b → NodeBallotFits m → LooksAtOpenBallot m b
balloting_looks_at_open_ballot m b (with_more old s v shown is by low high open_ same stays) h =
    let o = open_ballot_is_promised m old open_ h in
    record { has_list = ballot_log m old open_.last h; open_ = record { above = o.above; promised = o.promised; own = o.own } }
balloting_looks_at_open_ballot m b (without_one old name is open_ other) h =
    let o = open_ballot_is_promised m old open_ h in
    record { has_list = ballot_log m old open_.last h; open_ = record { above = o.above; promised = o.promised; own = o.own } }
balloting_looks_at_open_ballot m b (as_it_is old open_ on) h = record { has_list = ballot_log m old open_.last h; open_ = open_ballot_is_promised m old open_ h }

-- another answer, or an end
does_look : (m : Node) (b : Ballot) (o : Outcome) (over : Bool) → LooksAtOpenBallot m b → NodeBallotFits m
    → ChangeKeepsListAndBallot m (record m { ballot = Some (record b { answer = o; is_over = over }) })
does_look m b o over l h = record {
  goes = λ t. same_log_goes_on m.core.log m.core.log refl;
  log_ = λ t. t;
  balloted = record {
    high = h.high;
    none = λ f. absurd (let t = l.has_list in cc);
    opened = λ x. (let k = l.open_ in record { above = k.above; promised = k.promised; own = k.own });
  };
}

look_does : (m : Node) (b : Ballot) (v : BallotVerdict) → LooksAtBallot m b v → LooksAtOpenBallot m b → NodeBallotFits m → ChangeKeepsListAndBallot m v.node
look_does m b v (finds_itself_out x) l h = does_look m b _ true l h
look_does m b v (waits x y) l h = does_look m b _ false l h
look_does m b v (fetches_from_best x y z) l h = does_look m b _ false l h
look_does m b v (finds_too_few x y) l h = does_look m b _ true l h
look_does m b v (finds_no_room x) l h =
    record {
      goes = λ t. same_log_goes_on m.core.log m.core.log refl;
      log_ = λ t. t;
      balloted = record { high = h.high; none = λ f. absurd (let t = l.has_list in cc); opened = λ x. absurd (cc) };
    }
look_does m b v (decides may) l h =
    let names = need_set_without_given_up b (need_set_of m b) in
    let before = trim_to_least_taken_by m b names in
    let r = max b.resilience (image_of_node m).resilience in
    let e = View (decided_view m b names) in
    let o = l.open_ in
    let same : view (push_entry before e) ≡ b.stamp = view_of_pushed_view before (decided_view m b names) in
    record {
      goes = λ t. pushed_higher_view_grows_log before (decided_view m b names) o.above;
      log_ = λ t. t;
      balloted = record {
        high = rw (same, o.promised) (stamp_not_below_itself b.stamp);
        none = λ f. absurd (let t = l.has_list in cc);
        opened = λ x. absurd (cc);
      };
    }

-- ---- fetched entries

unfinished_none : (who : ℕ) (promise v w : Stamp) (ballot : Option Ballot) → is_unfinished_ballot ballot ≡ false → OpenBallotIsPromised who promise w ballot
unfinished_none who promise v w None f = tt
unfinished_none who promise v w (Some b) f = λ over. absurd (let g = rw over at f in cc)

-- a View up to the promise, below an open ballot
fetched_high : (m : Node) (s : ℕ) (v : Stamp) (w : GroupView) → m.core.promise ≡ v → w.stamp.by < 256 → NodePartsHaveNames m
    → MayStoreFetched m s v (View w) → NodeBallotFits m → (stamp_is_less m.core.promise w.stamp ≡ false) × OpenBallotIsPromised m.core.who m.core.promise w.stamp m.ballot
fetched_high m s v w is few named (without_ballot none own past) h =
    let low : stamp_is_less v w.stamp ≡ false = or_false_first_is_false (stamp_is_less v w.stamp) _ past in
    (subst (λ (p : Stamp). stamp_is_less p w.stamp ≡ false) (sym is) low, unfinished_none m.core.who m.core.promise w.stamp w.stamp m.ballot none)
fetched_high m s v w is few named (for_ballot b open_ from past) h =
    let low : stamp_is_less v w.stamp ≡ false = or_false_first_is_false (stamp_is_less v w.stamp) _ past in
    let differs : stamps_are_equal w.stamp v ≡ false = or_false_second_is_false (stamp_is_less v w.stamp) _ past in
    let mine : v.by < 256 = let k = named.promise_ in let q = ap (λ (x : Stamp). x.by) is in omega arith in
    let strict : stamp_is_less w.stamp v ≡ true = other_stamp_at_most_is_below w.stamp v few mine low differs in
    let o = open_ballot_is_promised m b open_ h in
    let above : stamp_is_less w.stamp b.stamp ≡ true = subst (λ (x : Stamp). stamp_is_less w.stamp x ≡ true) (sym is ∙ o.promised) strict in
    let P : Option Ballot → Type 0 = OpenBallotIsPromised m.core.who m.core.promise w.stamp in (
      subst (λ (p : Stamp). stamp_is_less p w.stamp ≡ false) (sym is) low,
      subst P (sym open_.last) (λ over. record { above = above; promised = o.promised; own = o.own }),
    )

does_fetch : (m : Node) (s : ℕ) (v : Stamp) (base : ℕ) (e : Entry) → m.core.promise ≡ v → ViewStampHasName e → NodePartsHaveNames m → has_log_by_status m.status ≡ true → MayStoreFetched m s v e
    → fits (image_of_node m) e ≡ true → NodeBallotFits m → ChangeKeepsListAndBallot m (push_entry (trim_node_up_to m base) e)
does_fetch m s v base (View w) is few named log from fit h =
    let k = fetched_high m s v w is few named from h in
    let same : view (push_entry (trim_node_up_to m base) (View w)) ≡ w.stamp = view_of_pushed_view (trim_node_up_to m base) w in
    record {
      goes = λ t. pushed_fitting_entry_grows_log (trim_node_up_to m base) (View w) fit;
      log_ = λ t. t;
      balloted = record {
        high = rw same k.0;
        none = h.none;
        opened = rw same k.1;
      };
    }
does_fetch m s v base e is few named log from fit h =
    let d = does_plain (trim_node_up_to m base) (push_entry (trim_node_up_to m base) e) e refl refl log refl refl refl h in
    record { goes = d.goes; log_ = d.log_; balloted = d.balloted }

-- the View of a Result is of another name
other_open : (who : ℕ) (promise w v : Stamp) (ballot : Option Ballot) → promise ≡ v → (v.by == who) ≡ false → OpenBallotIsPromised who promise w ballot
    → OpenBallotIsPromised who promise v ballot
other_open who promise w v None is other h = tt
other_open who promise w v (Some b) is other h = λ over. absurd (
    let o = h over in
    let same : v.by ≡ who = ap (λ (s : Stamp). s.by) (sym is ∙ o.promised) ∙ o.own in
    let t : (v.by == who) ≡ true = grind (arith, nat_tests) in
    cc)

does_result : (m : Node) (base : ℕ) (v : GroupView) → m.core.promise ≡ v.stamp → (v.stamp.by == m.core.who) ≡ false
    → fits (image_of_node m) (View v) ≡ true → NodeBallotFits m → ChangeKeepsListAndBallot m (push_entry (trim_node_up_to m base) (View v))
does_result m base v is other fit h =
    let same : view (push_entry (trim_node_up_to m base) (View v)) ≡ v.stamp = view_of_pushed_view (trim_node_up_to m base) v in
    record {
      goes = λ t. pushed_fitting_entry_grows_log (trim_node_up_to m base) (View v) fit;
      log_ = λ t. t;
      balloted = record {
        high = rw (same, is) (stamp_not_below_itself v.stamp);
        none = h.none;
        opened = rw same (other_open m.core.who m.core.promise (view m) v.stamp m.ballot is other h.opened);
      };
    }

-- ---- each change

-- who acts has a list
pub sequencer_is_member : (m : Node) → is_sequencer m ≡ true → is_member m.status ≡ true
sequencer_is_member m h = left_of_and (is_member m.status) (stamps_are_equal m.core.promise (view m)) (left_of_and (acts_in_its_view m) ((view m).by == m.core.who) h)

pub hearing_member_has_log : (m : Node) (s : ℕ) → (not (s == m.core.who) && is_member m.status) ≡ true → has_log_by_status m.status ≡ true
hearing_member_has_log m s h = member_status_has_log m.status (right_of_and (not (s == m.core.who)) (is_member m.status) h)

pub hearing_sequencer_has_log : (m : Node) (s : ℕ) (v : Stamp) → hears_packet_of_sequencer m s v ≡ true → has_log_by_status m.status ≡ true
hearing_sequencer_has_log m s v h = hearing_member_has_log m s (left_of_and (member_hears_other m s) (acts_in_its_view m && stamps_are_equal v (view m)) (left_of_and (hears_packet_of_its_view m s v) (v.by == s) h))

pub change_keeps_list_and_ballot : {c : Cause} {o : Outcome} → HeardStampsHaveNames c → (m n : Node) → Change c o m n → NodePartsHaveNames m → NodeBallotFits m → ChangeKeepsListAndBallot m n
unfolding image_after_entries
change_keeps_list_and_ballot heard m n refreshes k h = let r = refresh_rests_with_list m in does_same m (refresh m) r.rests.who r.rests.status r.rests.promise r.log r.rests.ballot h
change_keeps_list_and_ballot heard m n settles k h = subst (ChangeKeepsListAndBallot m) (sym (settle_changes_only_sends m)) (does_same m _ refl refl refl refl refl h)
change_keeps_list_and_ballot heard m n (numbers e leads room why) k h = does_plain m n e (numbered_entry_is_no_view _ m e why) refl
    (member_status_has_log m.status (sequencer_is_member m leads)) refl refl refl h
change_keeps_list_and_ballot heard m n (stores s v base acc number e by from plain may) k h = does_plain m n e plain refl (hearing_sequencer_has_log m s v from) refl refl refl h
change_keeps_list_and_ballot heard m n (begins_list s v base join image is o may) k h =
    let without = welcomed_node_has_no_log m s v base join image may in
    record {
      goes = λ t. absurd (cc);
      log_ = λ t. refl;
      balloted = record {
        high = may.view;
        none = λ f. absurd (cc);
        opened = subst (OpenBallotIsPromised m.core.who v image.view) (sym (h.none without)) tt;
      };
    }
change_keeps_list_and_ballot heard m n (departs s v number is by leaves) k h = record {
  goes = λ t. same_log_goes_on m.core.log n.core.log refl;
  log_ = λ t. refl;
  balloted = record { high = h.high; none = λ f. absurd (cc); opened = h.opened };
}
change_keeps_list_and_ballot heard m n (promises v low why) k h = record {
  goes = λ t. same_log_goes_on m.core.log n.core.log refl;
  log_ = λ t. t;
  balloted = record {
    high = stamp_at_most_is_transitive (view m) m.core.promise v h.high low;
    none = λ f. (ap (overtake_lower_ballot v) (h.none f));
    opened = overtaken_open m.core.who m.core.promise (view m) v m.ballot (promised_stamp_has_name _ m v why heard) k.promise_ low h.opened;
  };
}
change_keeps_list_and_ballot heard m n (opens least resilience by may) k h =
    let next = next_stamp m in
    let above = next_round_is_above m.core.promise m.core.who in
    record {
      goes = λ t. same_log_goes_on m.core.log n.core.log refl;
      log_ = λ t. t;
      balloted = record {
        high = stamp_at_most_is_transitive (view m) m.core.promise next h.high (lower_stamp_is_not_above m.core.promise next above);
        none = λ f. absurd (let t = member_status_has_log m.status may.member in cc);
        opened = λ over. record { above = stamp_at_most_then_below (view m) m.core.promise next h.high above; promised = refl; own = refl };
      };
    }
change_keeps_list_and_ballot heard m n (looks b verdict over why look is) k h = look_does m b verdict look (balloting_looks_at_open_ballot m b why h) h
change_keeps_list_and_ballot heard m n (fetches s v base number e is by promise below from may) k h =
    does_fetch m s v base e (sym (stamp_eq_gives_equality v m.core.promise promise)) (heard.pieces (packet.Piece s v base number e) is) k (hearing_member_has_log m s by) from may.fits h
change_keeps_list_and_ballot heard m n (stores_view s base number v is by own other promise below may) k h =
    does_result m base v promise other may.fits h
change_keeps_list_and_ballot heard m n (asks_to_join is was) k h = record {
  goes = λ t. absurd (let f = ap has_log_by_status was in cc);
  log_ = λ t. absurd (let f = ap has_log_by_status was in cc);
  balloted = record { high = h.high; none = λ f. h.none (ap has_log_by_status was); opened = h.opened };
}
change_keeps_list_and_ballot heard m n (closes leads leaves alone room) k h =
    let p = push_entry m (Leave m.core.who) in
    let r = end_refresh_rests_with_list p in
    does_plain m n (Leave m.core.who) refl r.rests.who refl r.rests.promise r.log r.rests.ballot h
change_keeps_list_and_ballot heard m n _ k h = does_same m n refl refl refl refl refl h

-- ---- a step

pub record ChangesKeepListAndNames (m n : Node) : Type 0 where
  pub does : ChangeKeepsListAndBallot m n
  pub names : NodePartsHaveNames n

pub changes_keep_list_and_names : {c : Cause} {o : Outcome} (m n : Node) → HeardStampsHaveNames c → Changes c o m n → NodePartsHaveNames m → NodeBallotFits m → ChangesKeepListAndNames m n
changes_keep_list_and_names m n heard unchanged k h = record { does = does_same m m refl refl refl refl refl h; names = k }
changes_keep_list_and_names m n heard (changed {n = x} one more) k h =
    let d = change_keeps_list_and_ballot heard m x one k h in
    let r = changes_keep_list_and_names x n heard more (change_keeps_stamp_names heard m x one k) d.balloted in
    record {
      does = record {
        goes = λ t. log_growth_is_transitive m.core.log x.core.log n.core.log (d.goes t) (r.does.goes (d.log_ t));
        log_ = λ t. r.does.log_ (d.log_ t);
        balloted = r.does.balloted;
      };
      names = r.names;
    }
