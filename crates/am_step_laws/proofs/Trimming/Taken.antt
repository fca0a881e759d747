-- A node trims no more than its own application has taken: who leads is a member of its own list, so its own report counts.
use Rattle.am_step_laws.proofs.Words.{heard_member_is_other, stamp_eq_of_itself, stamp_eq_gives_equality, has_member_is_in_row, ◌≡◌, ◌≢◌, ℕ, ◌+◌, ◌≤◌, ◌==◌, ◌&&◌, ◌||◌, not, nat_lt, nat_le, Bool, true, false}
use Rattle.am_step_laws.proofs.Words.{if◌then◌else◌, List, [], ◌∷◌, length, Option, Some, None, slice_index, unwrap_or, refl, sym, ap, ◌∙◌, subst, arith, nat_tests}
use Rattle.am_step_laws.proofs.Words.{Entry, Data, Join, Leave, View, Vote, Image, GroupView, Stamp, Outcome, place_of_name, life_of_name, name_of_place_and_life, has, names_of, stamp_is_less}
use Rattle.am_step_laws.proofs.Words.{stamps_are_equal, NamedVote, vote_is_less, all_names, better_vote_of, best_vote_from, top_of_log, image_of_log, members_of_image, row_at_place, after, fits}
use Rattle.am_step_laws.proofs.Words.{slice_index-by_place, length-by_place, Packet, least_of_names, least_of_names_le_each, EntrySparesMember, mod_sixteen_lt, sixteen_rows_after_entry, member_row_after_entry, Node, Ballot, top}
use Rattle.am_step_laws.proofs.Words.{image_of_node, view, members, life_where_name_passes, names_that_pass, is_member, is_asking_status, acts_in_its_view, is_sequencer, push_entry, trim_node_up_to, refresh}
use Rattle.am_step_laws.proofs.Words.{refresh_at_end, BallotVerdict, overtake_lower_ballot, node_with_promise, next_stamp, own_vote, best_vote_for_ballot, need_set_of, need_set_without_given_up, taken_number_of_voter, trim_to_least_taken_by, is_view}
use Rattle.am_step_laws.proofs.Words.{has_no_join, member_hears_other, member_or_asker_hears_other, hears_packet_of_sequencer, hears_packet_of_its_view, has_log_by_status, split_on_bool, both_of_and, Cause, hears, HasOpenBallot}
use Rattle.am_step_laws.proofs.Words.{BallotIsLookedAt, with_more, without_one, as_it_is, LooksAtBallot, finds_no_room, decides, MayPromise, invited, overtaken_by, told_result}
use Rattle.am_step_laws.proofs.Words.{IsNumberedBy, asked_send, own_send, asked_join, asked_leave, MayStoreFetched, without_ballot, for_ballot, Change, refreshes, settles}
use Rattle.am_step_laws.proofs.Words.{takes_report, admits, numbers, notes, stores, begins_list, departs, promises, opens, looks, fetches, stores_view, takes}
use Rattle.am_step_laws.proofs.Words.{asks_to_join, closes, refresh_rests_with_list, end_refresh_rests_with_list, settle_changes_only_sends, asking_status_has_no_log, image_of_pushed_entry, view_of_pushed_plain_entry, BallotKeepsItsCoordinator, open_ballot_keeps_its_coordinator}
use Rattle.am_step_laws.proofs.Words.{JoinIsNextLife, fitting_entry_joins_next_life, JoinsAreNextLives, decided_view}
use Rattle.am_packet.specs.declared.packet.Packet.TheVariants as packet
use Rattle.am_node_defs.specs.Reports as reports
use Rattle.am_model.specs.Sequencing as sequencing
use Rattle.am_step_laws.proofs.Trimming.Trims.{NodeTrimFronts, BallotHasNoOwnVote, TrimsNoMoreThanTaken, WelcomeImageIsUsed, told_image_is_used, pushed_entry_keeps_trim_fronts, trim_keeps_trim_fronts, own_member_bounds_least_taken, refresh_keeps_trim_fronts, end_refresh_keeps_trim_fronts}
use Rattle.am_step_laws.proofs.Trimming.Trims.{last_leave_bounds_least_taken, lower_own_report_keeps_fronts}
use Rattle.am_step_laws.proofs.Trimming.LeaderRows.{present_row_makes_member, data_keeps_each_member, view_keeps_its_members}
use Rattle.am_step_laws.proofs.Stamps.{stamp_not_below_itself, stamp_at_most_then_below}
use Rattle.am_step_laws.proofs.ViewSteps.{view_of_pushed_view}
use Rattle.am_step_laws.proofs.{ViewChanges.NodeBallotFits, ViewChanges.next_round_is_above, Blank.IsBlankWithoutLog}

-- ---- what a sequencer numbers

-- who is known and hasn't left is a member
pub known_name_is_member : (m : Node) (s : ℕ) → length (image_of_node m).rows ≡ 16 → has_no_join m s ≡ false → (sequencing.row_of_name_in_list m s).left ≡ 0 → has (members m) s ≡ true
known_name_is_member m s long known stays = split_on_bool ((row_at_place (image_of_node m) s).life == life_of_name s)
    (λ t. let j : ((row_at_place (image_of_node m) s).joined == 0) ≡ false = rw t at known in
    let l : (row_at_place (image_of_node m) s).left ≡ 0 = rw t at stays in
    let is : (row_at_place (image_of_node m) s).life ≡ life_of_name s = grind (arith, nat_tests) in
    present_row_makes_member (image_of_node m) s long (record { joined = grind (arith, nat_tests); left = l; is = is }))
    (λ f. absurd (let k = rw f at known in cc))

pub leave_of_member_fits : (image : Image) (name : ℕ) → has (members_of_image image) name ≡ true → fits image (Leave name) ≡ true
unfolding fits
leave_of_member_fits image name h = h

spared : (m : Node) (e : Entry) (name : ℕ) → NodeTrimFronts m → fits (image_of_node m) e ≡ true → EntrySparesMember name e → has (members m) name ≡ true
    → has (members (push_entry m e)) name ≡ true
spared m e name h fit spares member =
    let used = told_image_is_used m h in
    let longer = sixteen_rows_after_entry (image_of_node m) (top m + 1) e used.places in
    let k = member_row_after_entry (image_of_node m) (top m + 1) e name used.places fit spares (has_member_is_in_row (image_of_node m) name used.places member) in
    ap (λ (i : Image). has (members_of_image i) name) (image_of_pushed_entry m e) ∙ present_row_makes_member (after (image_of_node m) (top m + 1) e) name longer k

sent_member : (m : Node) (from req : ℕ) (body : List ℕ) (name : ℕ) → NodeTrimFronts m → has (members m) name ≡ true
    → has (members (push_entry m (Data from req body))) name ≡ true
sent_member m from req body name h member =
    let used = told_image_is_used m h in
    let e = Data from req body in
    ap (λ (i : Image). has (members_of_image i) name) (image_of_pushed_entry m e)
    ∙ data_keeps_each_member (image_of_node m) (top m + 1) from req body name used.places (sixteen_rows_after_entry (image_of_node m) (top m + 1) e used.places) member

record Numbered (m : Node) (e : Entry) : Type 0 where
  plain : is_view e ≡ false
  fit : JoinIsNextLife (image_of_node m) e
  member : has (members (push_entry m e)) m.core.who ≡ true

numbered : (c : Cause) (m : Node) (e : Entry) → IsNumberedBy c m e → NodeTrimFronts m → has (members m) m.core.who ≡ true → Numbered m e
numbered c m e (asked_send s v report req body by known stays next) h member =
    record { plain = refl; fit = tt; member = sent_member m s req body m.core.who h member }
numbered c m e (own_send s is last) h member = record { plain = refl; fit = tt; member = sent_member m m.core.who s.req s.body m.core.who h member }
numbered c m e (asked_join s v is other fit) h member = record { plain = refl; fit = fit; member = spared m (Join s) m.core.who h fit tt member }
numbered c m e (asked_leave s v report is other known stays) h member =
    let left : (sequencing.row_of_name_in_list m s).left ≡ 0 = grind (arith, nat_tests) in
    let fit = leave_of_member_fits (image_of_node m) s (known_name_is_member m s (told_image_is_used m h).places known left) in
    let spares : s ≢ m.core.who = λ same. (let t : (s == m.core.who) ≡ true = grind (arith, nat_tests) in cc) in
    record { plain = refl; fit = tt; member = spared m (Leave s) m.core.who h fit spares member }

-- ---- ballots

no_vote_overtaken : (who : ℕ) (by : Stamp) (ballot : Option Ballot) → BallotHasNoOwnVote who ballot → BallotHasNoOwnVote who (overtake_lower_ballot by ballot)
no_vote_overtaken who by None h = tt
no_vote_overtaken who by (Some b) h = split_on_bool (not b.is_over && stamp_is_less b.stamp by) (λ t. rw t h) (λ f. rw f h)

open_vote : (m : Node) (b : Ballot) → HasOpenBallot m b → BallotHasNoOwnVote m.core.who m.ballot → b.votes m.core.who ≡ None
open_vote m b o h = subst (BallotHasNoOwnVote m.core.who) o.last h

pub balloting_has_no_own_vote : (c : Cause) (m : Node) (b : Ballot) → BallotIsLookedAt c m b → BallotHasNoOwnVote m.core.who m.ballot → b.votes m.core.who ≡ None
balloting_has_no_own_vote c m b (as_it_is old open_ on) h = open_vote m old open_ h
balloting_has_no_own_vote c m b (with_more old s v shown is heard low high open_ same stays) h =
    let other = (both_of_and (not (s == m.core.who)) (is_member m.status) heard).0 in
    let flipped : (m.core.who == s) ≡ false = grind (arith, nat_tests) in
    rw flipped (open_vote m old open_ h)
balloting_has_no_own_vote c m b (without_one old name is open_ other) h =
    let flipped : (m.core.who == name) ≡ false = grind (arith, nat_tests) in
    rw flipped (open_vote m old open_ h)

-- the best vote, where it is the coordinator's own, is what it has
OwnBest : ℕ → Vote → NamedVote → Type 0
OwnBest own vote best = best.by ≡ own → best.vote ≡ vote

own_better : (own : ℕ) (vote : Vote) (best : NamedVote) (name : ℕ) (o : Option Vote) → OwnBest own vote best → (name ≡ own → o ≡ None)
    → OwnBest own vote (better_vote_of best name o)
unfolding OwnBest
own_better own vote best name None h f = h
own_better own vote best name (Some v) h f = split_on_bool (vote_is_less best.vote v) (λ t. rw t (λ same. absurd (let none = f same in cc))) (λ g. rw g h)

own_best : (votes : ℕ → Option Vote) (own : ℕ) (vote : Vote) (best : NamedVote) (names : List ℕ) → OwnBest own vote best → votes own ≡ None
    → OwnBest own vote (best_vote_from votes best names)
unfolding best_vote_from
own_best votes own vote best [] h none = h
own_best votes own vote best (name ∷ names) h none = own_best votes own vote (better_vote_of best name (votes name)) names
    (own_better own vote best name (votes name) h (λ same. ap votes same ∙ none)) none

pub own_best_list_needs_members : (m : Node) (b : Ballot) → ((best_vote_for_ballot m b).by == m.core.who) ≡ true → b.votes m.core.who ≡ None → need_set_of m b ≡ members m
unfolding best_vote_for_ballot OwnBest
own_best_list_needs_members m b own none =
    let same : (best_vote_for_ballot m b).by ≡ m.core.who = grind (arith, nat_tests) in
    ap (λ (v : Vote). v.members) (own_best b.votes m.core.who (own_vote m) (record { by = m.core.who; vote = own_vote m }) all_names (λ e. refl) none same)

-- who passes is among those that pass
pub selected_name_keeps_its_life : (test : ℕ → Bool) (names : List ℕ) (who : ℕ) → has names who ≡ true → test who ≡ true
    → slice_index (names_that_pass test names) (place_of_name who) ≡ life_of_name who
unfolding names_that_pass
selected_name_keeps_its_life test names who there passes =
    let place = place_of_name who in
    let is : slice_index names place ≡ life_of_name who = grind (arith, nat_tests) in
    let some : (life_of_name who == 0) ≡ false = grind (arith, nat_tests) in
    let same : name_of_place_and_life place (life_of_name who) ≡ who = omega arith in
    let t : test (name_of_place_and_life place (life_of_name who)) ≡ true = ap test same ∙ passes in
    slice_index-by_place (λ p. life_where_name_passes test p (slice_index names p)) place (mod_sixteen_lt who) ∙ ap (life_where_name_passes test place) is ∙ rw (some, t) refl

-- the least that those of a view have taken is no more than its coordinator's own
trimmed_own : (m : Node) (b : Ballot) (names : List ℕ) → length names ≡ 16 → slice_index names (place_of_name m.core.who) ≡ life_of_name m.core.who
    → unwrap_or (least_of_names (taken_number_of_voter m.core.who m.core.taken b) (names_of names)) 0 ≤ m.core.taken
trimmed_own m b names long there =
    let who = m.core.who in
    let low = mod_sixteen_lt who in
    let found = least_of_names_le_each (taken_number_of_voter who m.core.taken b) names 0 (place_of_name who) (omega arith) (omega arith) in
    let name : name_of_place_and_life (0 + place_of_name who) (slice_index names (place_of_name who)) ≡ who = omega arith in
    let itself_ : (who == who) ≡ true = grind (arith, nat_tests) in
    let own : taken_number_of_voter who m.core.taken b who ≡ m.core.taken = rw itself_ refl in
    let at = ap (taken_number_of_voter who m.core.taken b) name in
    let is = ap (λ o. unwrap_or o 0) found.1 in
    omega arith

-- the coordinator is in the view that it may decide
in_view : (m : Node) (b : Ballot) → has (need_set_of m b) m.core.who ≡ true → b.given_up m.core.who ≡ false
    → slice_index (need_set_without_given_up b (need_set_of m b)) (place_of_name m.core.who) ≡ life_of_name m.core.who
in_view m b needed stays = selected_name_keeps_its_life (λ name. not (b.given_up name)) (need_set_of m b) m.core.who needed (ap not stays)

trims_own : (m : Node) (b : Ballot) → has (need_set_of m b) m.core.who ≡ true → b.given_up m.core.who ≡ false
    → unwrap_or (least_of_names (taken_number_of_voter m.core.who m.core.taken b) (names_of (need_set_without_given_up b (need_set_of m b)))) 0 ≤ m.core.taken
unfolding names_that_pass
trims_own m b needed stays = trimmed_own m b (need_set_without_given_up b (need_set_of m b)) (length-by_place _) (in_view m b needed stays)

restarted_own : (m : Node) (base : ℕ) → base ≤ m.core.taken → (reports.reports_beginning_at base m.core.who).taken ≤ m.core.taken
restarted_own m base low = split_on_bool (nat_lt m.core.who 256) (λ t. rw t low) (λ f. rw f (omega arith))

-- another answer, or an end
answered_own : (m : Node) (ballot : Option Ballot) → BallotHasNoOwnVote m.core.who ballot → TrimsNoMoreThanTaken m → TrimsNoMoreThanTaken (record m { ballot = ballot })
answered_own m ballot none h = record { fronts = h.fronts; leads = h.leads; vote = none }

look_own : (m : Node) (b : Ballot) (v : BallotVerdict) → LooksAtBallot m b v → b.votes m.core.who ≡ None → b.given_up m.core.who ≡ false → TrimsNoMoreThanTaken m → TrimsNoMoreThanTaken v.node
look_own m b v (finds_no_room learned) none stays h =
    let f = trim_keeps_trim_fronts m _ (trims_own m b learned.needed stays) h.fronts in
    record { fronts = f; leads = h.leads; vote = none }
look_own m b v (decides may) none stays h =
    let needed = may.learned.needed in
    let names = need_set_without_given_up b (need_set_of m b) in
    let before = trim_to_least_taken_by m b names in
    let e = View (decided_view m b names) in
    let f = trim_keeps_trim_fronts m _ (trims_own m b needed stays) h.fronts in
    let g = pushed_entry_keeps_trim_fronts before e tt f in
    let used = told_image_is_used m h.fronts in
    let member : has (members m) m.core.who ≡ true = subst (λ set. has set m.core.who ≡ true) (own_best_list_needs_members m b may.learned.own none) needed in
    let after_ = view_keeps_its_members (image_of_node m) (top m + 1) (decided_view m b names) m.core.who used.places (sixteen_rows_after_entry (image_of_node m) (top m + 1) e used.places) member
    (in_view m b needed stays) in
    record {
      fronts = lower_own_report_keeps_fronts _ (restarted_own m before.core.base f.base) g;
      leads = λ t. ap (λ (i : Image). has (members_of_image i) m.core.who) (image_of_pushed_entry before e) ∙ after_;
      vote = none;
    }
look_own m b v _ none stays h = answered_own m _ none h

-- ---- who doesn't lead

-- a view of another name
pub view_of_other_never_leads : (m : Node) (by : ℕ) → (view m).by ≡ by → (by == m.core.who) ≡ false → is_sequencer m ≡ true → ⊥
view_of_other_never_leads m by is other t =
    let own = (both_of_and (acts_in_its_view m) ((view m).by == m.core.who) t).1 in
    let z : ⊥ = grind (arith, nat_tests) in z

-- a promise above the view
pub sequencer_promise_le_view : (m : Node) → stamp_is_less (view m) m.core.promise ≡ true → is_sequencer m ≡ true → ⊥
sequencer_promise_le_view m above t =
    let a = (both_of_and (acts_in_its_view m) ((view m).by == m.core.who) t).0 in
    let e = (both_of_and (is_member m.status) (stamps_are_equal m.core.promise (view m)) a).1 in
    let same = stamp_eq_gives_equality m.core.promise (view m) e in
    let z : stamp_is_less (view m) (view m) ≡ true = subst (λ s. stamp_is_less (view m) s ≡ true) same above in
    let y = stamp_not_below_itself (view m) in cc

pub sequencer_promise_is_its_view : (m : Node) → is_sequencer m ≡ true → m.core.promise ≡ view m
sequencer_promise_is_its_view m t =
    let a = (both_of_and (acts_in_its_view m) ((view m).by == m.core.who) t).0 in
    stamp_eq_gives_equality m.core.promise (view m) (both_of_and (is_member m.status) (stamps_are_equal m.core.promise (view m)) a).1

-- who hears the sequencer
heard_other : (m : Node) (s : ℕ) (v : Stamp) → hears_packet_of_sequencer m s v ≡ true → (view m).by ≡ s × ((s == m.core.who) ≡ false)
heard_other m s v t =
    let a = both_of_and (hears_packet_of_its_view m s v) (v.by == s) t in
    let b = both_of_and (member_hears_other m s) (acts_in_its_view m && stamps_are_equal v (view m)) a.0 in
    let other = (both_of_and (not (s == m.core.who)) (is_member m.status) b.0).0 in
    let same = stamp_eq_gives_equality v (view m) (both_of_and (acts_in_its_view m) (stamps_are_equal v (view m)) b.1).1 in
    let by : v.by ≡ s = let x = a.1 in grind (arith, nat_tests) in
    (ap (λ (x : Stamp). x.by) (sym same) ∙ by, grind arith)

-- ---- each change

-- with the same list, status, promise and name
same_owned : (m n : Node) → n.core.who ≡ m.core.who → n.core.log ≡ m.core.log → n.core.promise ≡ m.core.promise → n.status ≡ m.status → NodeTrimFronts n
    → BallotHasNoOwnVote n.core.who n.ballot → TrimsNoMoreThanTaken m → TrimsNoMoreThanTaken n
same_owned m n who log promise stays f none h = record {
  fronts = f;
  leads = λ t. (let same : is_sequencer n ≡ is_sequencer m =
      λ i. (is_member (stays i) && stamps_are_equal (promise i) (image_of_log (log i)).view) && ((image_of_log (log i)).view.by == who i) in
      (λ i. has (members_of_image (image_of_log (log i))) (who i)) ∙ h.leads (sym same ∙ t));
  vote = none;
}

asks_no_log : (m : Node) (s : ℕ) → (not (s == m.core.who) && (is_member m.status || is_asking_status m.status)) ≡ true → is_member m.status ≡ false
    → has_log_by_status m.status ≡ false
asks_no_log m s asks none = let k = (both_of_and (not (s == m.core.who)) (is_member m.status || is_asking_status m.status) asks).1 in asking_status_has_no_log m.status (rw none at k)

pub heard_asking_is_other : (m : Node) (s : ℕ) → member_or_asker_hears_other m s ≡ true → (s == m.core.who) ≡ false
heard_asking_is_other m s h = let k = (both_of_and (not (s == m.core.who)) (is_member m.status || is_asking_status m.status) h).0 in grind arith

pub stamp_name_is_sender : (v : Stamp) (s : ℕ) → (v.by == s) ≡ true → v.by ≡ s
stamp_name_is_sender v s h = grind (arith, nat_tests)

-- a fetched View is of another name
fetched_view : (m : Node) (s : ℕ) (v : Stamp) (w : GroupView) → MayStoreFetched m s v (View w)
    → (s == m.core.who) ≡ false → w.stamp ≡ v → (w.stamp.by == m.core.who) ≡ false
fetched_view m s v w (without_ballot none own past) other same = let a = stamp_name_is_sender v s own in let b = ap (λ (x : Stamp). x.by) same in
    grind (arith, nat_tests)
fetched_view m s v w (for_ballot b open_ from past) other same = absurd (
    let t : stamps_are_equal w.stamp v ≡ true = subst (λ x. stamps_are_equal w.stamp x ≡ true) same (stamp_eq_of_itself w.stamp) in
    split_on_bool (stamp_is_less v w.stamp) (λ u. let p = rw u at past in cc) (λ u. let p = rw (u, t) at past in cc))

-- and no fetched entry makes a sequencer
pub fetched_entry_makes_no_sequencer : (m : Node) (s : ℕ) (v : Stamp) (base : ℕ) (e : Entry) → MayStoreFetched m s v e → (s == m.core.who) ≡ false → stamps_are_equal v m.core.promise ≡ true
    → stamps_are_equal (view m) v ≡ false → is_sequencer (push_entry (trim_node_up_to m base) e) ≡ true → ⊥
fetched_entry_makes_no_sequencer m s v base (View w) why other same below t =
    let n = push_entry (trim_node_up_to m base) (View w) in
    let last = view_of_pushed_view (trim_node_up_to m base) w in
    let is : w.stamp ≡ v = sym (sequencer_promise_is_its_view n t ∙ last) ∙ sym (stamp_eq_gives_equality v m.core.promise same) in
    view_of_other_never_leads n w.stamp.by (ap (λ (x : Stamp). x.by) last) (fetched_view m s v w why other is) t
fetched_entry_makes_no_sequencer m s v base e why other same below t =
    let p = sequencer_promise_is_its_view (push_entry (trim_node_up_to m base) e) t ∙ view_of_pushed_plain_entry (trim_node_up_to m base) e refl in
    let z : stamps_are_equal (view m) v ≡ true = subst (λ x. stamps_are_equal x v
    ≡ true) p (subst (λ x. stamps_are_equal m.core.promise x ≡ true) (sym (stamp_eq_gives_equality v m.core.promise same)) (stamp_eq_of_itself m.core.promise)) in
    cc

-- a promise that isn't below the view, by whom it is made
promised_follows : (c : Cause) (m : Node) (v : Stamp) → MayPromise c m v → stamp_is_less v m.core.promise ≡ false → NodeBallotFits m → is_sequencer (node_with_promise m v) ≡ true
    → ⊥
promised_follows c m v (invited s _ is heard own) low k t =
    let p = sequencer_promise_is_its_view (node_with_promise m v) t in
    view_of_other_never_leads (node_with_promise m v) s (ap (λ (x : Stamp). x.by) (sym p) ∙ stamp_name_is_sender v s own) (heard_asking_is_other m s heard) t
promised_follows c m v (told_result s base number w is heard own other) low k t =
    let p = sequencer_promise_is_its_view (node_with_promise m v) t in
    view_of_other_never_leads (node_with_promise m v) v.by (ap (λ (x : Stamp). x.by) (sym p)) other t
promised_follows c m v (overtaken_by s _ shown is heard above) low k t =
    sequencer_promise_le_view (node_with_promise m v) (stamp_at_most_then_below (view m) m.core.promise v k.high above) t

abbrev pub HeardWelcomeImageIsUsed : Cause → Type 0
HeardWelcomeImageIsUsed c = (p : Packet) → c ≡ hears p → WelcomeImageIsUsed p

none_taken : (m : Node) → has_log_by_status m.status ≡ false → IsBlankWithoutLog m → NodeTrimFronts m → m.core.taken ≡ 0
none_taken m none blanked h =
    let b = blanked none in
    let high = ap top_of_log b.blank_ in
    omega arith

pub change_keeps_trimmed_taken : (c : Cause) (o : Outcome) (m n : Node) → HeardWelcomeImageIsUsed c → BallotKeepsItsCoordinator m.core.who m.ballot → NodeBallotFits m → IsBlankWithoutLog m → Change c o m n → TrimsNoMoreThanTaken m
    → TrimsNoMoreThanTaken n
unfolding JoinsAreNextLives
change_keeps_trimmed_taken c o m n heard own k blanked refreshes h =
    let r = refresh_rests_with_list m in
    same_owned m (refresh m) r.rests.who r.log r.rests.promise r.rests.status
    (refresh_keeps_trim_fronts m (λ t. own_member_bounds_least_taken m h.fronts (h.leads t)) h.fronts)
    (subst (BallotHasNoOwnVote (refresh m).core.who) (sym r.rests.ballot) (subst (λ w. BallotHasNoOwnVote w m.ballot) (sym r.rests.who) h.vote)) h
change_keeps_trimmed_taken c o m n heard own k blanked settles h = subst TrimsNoMoreThanTaken (sym (settle_changes_only_sends m)) (record { fronts = h.fronts; leads = h.leads; vote = h.vote })
change_keeps_trimmed_taken c o m n heard own k blanked (takes_report s v report by may) h =
    let f = h.fronts in
    let flipped : (m.core.who == s) ≡ false = grind (arith, nat_tests) in
    record { fronts = lower_own_report_keeps_fronts _ (rw flipped f.reported) f; leads = h.leads; vote = h.vote }
change_keeps_trimmed_taken c o m n heard own k blanked (admits s v is leads fit) h =
    let f = h.fronts in
    record { fronts = lower_own_report_keeps_fronts _ (split_on_bool (m.core.who == s) (λ t. rw t f.base) (λ u. rw u f.reported)) f; leads = h.leads; vote = h.vote }
change_keeps_trimmed_taken c o m n heard own k blanked (numbers e leads room why) h =
    let z = numbered c m e why h.fronts (h.leads leads) in
    record { fronts = pushed_entry_keeps_trim_fronts m e z.fit h.fronts; leads = λ t. z.member; vote = h.vote }
change_keeps_trimmed_taken c o m n heard own k blanked (notes s v base acc by from) h =
    let f = h.fronts in
    let low = f.base in
    let within : (if nat_le base m.core.taken then base else m.core.base) ≤ m.core.taken =
    split_on_bool (nat_le base m.core.taken) (λ t. rw t (grind (arith, nat_tests))) (λ u. rw u low) in
    let g = trim_keeps_trim_fronts m _ within f in
    record { fronts = g; leads = h.leads; vote = h.vote }
change_keeps_trimmed_taken c o m n heard own k blanked (stores s v base acc number e by from plain may) h =
    let other = heard_other m s v from in
    let g = pushed_entry_keeps_trim_fronts m e (fitting_entry_joins_next_life (image_of_node m) e may.fits) h.fronts in
    let by_s : (view n).by ≡ s = ap (λ (x : Stamp). x.by) (view_of_pushed_plain_entry m e plain) ∙ other.0 in
    record { fronts = g; leads = λ t. absurd (view_of_other_never_leads n s by_s other.1 t); vote = h.vote }
change_keeps_trimmed_taken c o m n heard own k blanked (begins_list s v base join image is says may) h =
    let none = asks_no_log m s may.asks may.no_member in
    let taken = none_taken m none blanked h.fronts in
    let reported = h.fronts.reported in
    record {
      fronts = record {
        used = heard (packet.Welcome s v base join image) is;
        joins = tt;
        kept = omega arith;
        base = omega arith;
        given = omega arith;
        accepted = omega arith;
        reported = omega arith;
      };
      leads = λ t. absurd (let p = sequencer_promise_is_its_view n t in view_of_other_never_leads n s (ap (λ (x : Stamp). x.by) (sym p) ∙ stamp_name_is_sender v s may.own) (heard_asking_is_other m s may.asks) t);
      vote = h.vote;
    }
change_keeps_trimmed_taken c o m n heard own k blanked (departs s v number is by leaves) h = record { fronts = h.fronts; leads = λ t. absurd (cc); vote = h.vote }
change_keeps_trimmed_taken c o m n heard own k blanked (promises v low why) h =
    record {
      fronts = h.fronts;
      leads = λ t. absurd (promised_follows c m v why low k t);
      vote = no_vote_overtaken m.core.who v m.ballot h.vote;
    }
change_keeps_trimmed_taken c o m n heard own k blanked (opens least resilience by may) h =
    record {
      fronts = h.fronts;
      leads = λ t. absurd (sequencer_promise_le_view n (stamp_at_most_then_below (view m) m.core.promise (next_stamp m) k.high (next_round_is_above m.core.promise m.core.who)) t);
      vote = refl;
    }
change_keeps_trimmed_taken c o m n heard own k blanked (looks b verdict over why look is) h =
    look_own m b verdict look (balloting_has_no_own_vote c m b why h.vote) (open_ballot_keeps_its_coordinator c m b why own) h
change_keeps_trimmed_taken c o m n heard own k blanked (fetches s v base number e is by promise below why may) h =
    let f = trim_keeps_trim_fronts m base may.taken h.fronts in
    record {
      fronts = pushed_entry_keeps_trim_fronts (trim_node_up_to m base) e (fitting_entry_joins_next_life (image_of_node m) e may.fits) f;
      leads = λ t. absurd (fetched_entry_makes_no_sequencer m s v base e why (heard_member_is_other m s by) promise below t);
      vote = h.vote;
    }
change_keeps_trimmed_taken c o m n heard own k blanked (stores_view s base number v is by whose other promise below may) h =
    let f = trim_keeps_trim_fronts m base may.taken h.fronts in
    let e = View v in
    record {
      fronts = pushed_entry_keeps_trim_fronts (trim_node_up_to m base) e tt f;
      leads = λ t. absurd (view_of_other_never_leads n v.stamp.by (ap (λ (x : Stamp). x.by) (view_of_pushed_view (trim_node_up_to m base) v)) other t);
      vote = h.vote;
    }
change_keeps_trimmed_taken c o m n heard own k blanked (takes e is says member some there) h =
    let f = h.fronts in
    let given = f.given in
    let reported = f.reported in
    let more : m.core.taken ≢ m.core.acc = λ same. (let t : (m.core.taken == m.core.acc) ≡ true = grind (arith, nat_tests) in cc) in
    record {
      fronts = record {
        used = f.used;
        joins = f.joins;
        kept = f.kept;
        base = omega arith;
        given = omega arith;
        accepted = f.accepted;
        reported = omega arith;
      };
      leads = h.leads;
      vote = h.vote;
    }
change_keeps_trimmed_taken c o m n heard own k blanked (asks_to_join is was) h = record { fronts = h.fronts; leads = λ t. absurd (cc); vote = h.vote }
change_keeps_trimmed_taken c o m n heard own k blanked (closes leads leaves alone room) h =
    let e = Leave m.core.who in
    let p = push_entry m e in
    let r = end_refresh_rests_with_list p in
    let f = end_refresh_keeps_trim_fronts p (last_leave_bounds_least_taken m h.fronts (h.leads leads) alone) (pushed_entry_keeps_trim_fronts m e tt h.fronts) in
    record {
      fronts = f;
      leads = λ t. absurd (cc);
      vote = subst (BallotHasNoOwnVote (refresh_at_end p).core.who) (sym r.rests.ballot) (subst (λ w. BallotHasNoOwnVote w m.ballot) (sym r.rests.who) h.vote);
    }
change_keeps_trimmed_taken c o m n heard own k blanked _ h = record { fronts = h.fronts; leads = h.leads; vote = h.vote }
