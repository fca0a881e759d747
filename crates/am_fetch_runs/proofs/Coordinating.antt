-- Where a lawful run ends, a coordinator whose ballot fetches may follow the best vote's name.
use Rattle.am_fetch_runs.proofs.Words.{◌≡◌, inl, inr, ℕ, ◌+◌, ◌-◌, ◌<◌, ◌≤◌, ◌==◌, nat_lt, true, false, List, [], ◌∷◌, ◌++◌, length, take, slice_get, None, Some, refl, sym, ap, ◌∙◌, subst, arith, nat_tests}
use Rattle.am_fetch_runs.proofs.Words.{View, Rules, Image, Stamp, Entry, has, blank, log_image_at, log_entry_at, stamps_are_equal, stamp_is_less, split_on_bool, Node, top, view, image_of_node, is_member, World, run, is_stopped}
use Rattle.am_fetch_runs.proofs.Words.{IsGoodList, IsBeginningOf, is_member_at_end, key_of_stamp, stamp_of_list, image_of_list, beginning_of_good_is_good, shorter_beginning_begins_longer, view_after_pushed_view, name_of_view_is_byte, lowest_name_or_zero}
use Rattle.am_fetch_runs.proofs.Words.{view_key_grows_along_list, image_of_whole_list, length_of_whole_list, image_at_of_whole_list, Group, chain_of, Following, GroupKeeps, IsUp, group_run_is_kept, run_trims_only_taken, names_hold_in_runs}
use Rattle.am_fetch_runs.proofs.Words.{key_is_less_for_lesser_stamp, stamp_eq_gives_equality, member_has_not_departed, taken_front_begins_list, length_of_taken_list, begins_push_next_entry}
use Rattle.std.specs.Prelude.{◌≢◌, not}
use Rattle.am_base.specs.declared.image.Vote.{Vote}
use Rattle.am_base.specs.declared.entry.GroupView.{GroupView}
use Rattle.am_base.specs.Lists.{fits, row_of_name, members_of_image}
use Rattle.am_base.specs.Votes.{NamedVote, vote_is_less}
use Rattle.am_base.proofs.Prefixes.{take_length_of_beginning}
use Rattle.am_node_defs.proofs.Lives.{entry_fits_at_its_number, unused_places_after_entries, UnusedPlacesHaveNoLife}
use Rattle.am_model.specs.Node.{Ballot}
use Rattle.am_model.specs.Ballots.{own_vote}
unfoldable use Rattle.am_model.specs.Ballots.{best_vote_for_ballot}
use Rattle.am_model.specs.Refresh.{refresh_at_end}
use Rattle.am_model.specs.Resets.{is_unfetchable_view}
use Rattle.am_model_laws.specs.Laws.{IsBestVote}
use Rattle.am_model_laws.proofs.BestVotes.{best_vote_is_greatest}
use Rattle.am_step_laws.proofs.Rests.{end_refresh_rests_with_list}
use Rattle.am_step_laws.proofs.Resets.{stamp_eq_of_itself}
use Rattle.am_step_laws.proofs.Stamps.{unordered_stamps_are_equal}
use Rattle.am_step_laws.proofs.ViewChanges.{OpenBallotIsPromised}
use Rattle.std.proofs.lemmas.Option.{slice_get_within}
use Rattle.std.specs.Prelude.{Option, ◌*◌}
use Rattle.am_base.specs.Names.{name_is_less}
use Rattle.am_model.specs.Calls.{is_unfinished_ballot}
use Rattle.am_node_defs.proofs.Ends.{image_at_top_is_told}
use Rattle.am_step_laws.proofs.Trimming.TakenRuns.{WorldTrimsOnlyTaken}
use Rattle.am_refinement.specs.Standing.{NameStands}
use Rattle.am_refinement.specs.Letters.{VoteTells}
use Rattle.am_refinement.specs.Keeping.{NodeStandsKept, LastStands}
use Rattle.am_refinement.specs.States.{VotesStand}
use Rattle.am_refinement.proofs.Votes.{open_ballot_is_undecided}
use Rattle.am_refinement.proofs.Entries.{stamps_of_equal_keys}
use Rattle.am_refinement.proofs.Parts.{entry_at_of_whole_list}
use Rattle.std.proofs.lemmas.Bool.{false_from_ne_true}
use Rattle.am_ballot_laws.specs.Following.{vote_at, BestIs, MayFollow, MayFollowVoter, LooksAtWhole, fetching_ballot}
use Rattle.am_fetch_runs.specs.Events.{events_of_exchanges}
use Rattle.am_fetch_runs.specs.Ballots.{FetchesFromVoter, CoordinatorsMayFollow, FetchingBallotsEnd}
use Rattle.am_fetch_runs.proofs.Lists.{member_at_end_has_not_left, entry_is_above_start}
use Rattle.am_fetch_runs.proofs.Words.{MayFound, Event, LawfulUntilLastStop, lawful_is_until_last_stop, some_group_follows_until_last_stop}
use Rattle.am_fetch_runs.proofs.Ballots.{ballots_end_in_runs}
use Rattle.am_fetch_runs.proofs.Behind.{running_member_is_up}
use Rattle.am_fetch_runs.proofs.Votes.{lesser_vote_has_shorter_list}

-- ---- votes and Views

-- a vote of no greater view, with a lesser top, is less
less_vote : (a b : Vote) → a.view.by < 256 → b.view.by < 256 → key_of_stamp a.view ≤ key_of_stamp b.view → a.top < b.top → vote_is_less a b ≡ true
less_vote a b small few low short = split_on_bool (stamp_is_less a.view b.view)
    (λ t. rw t refl)
    (λ f. split_on_bool (stamp_is_less b.view a.view)
    (λ t. absurd (let z = key_is_less_for_lesser_stamp b.view a.view few small t in omega arith))
    (λ g.
    let same = unordered_stamps_are_equal a.view b.view small few f g in
    let equal : stamps_are_equal a.view b.view ≡ true = ap (stamps_are_equal a.view) (sym same) ∙ stamp_eq_of_itself a.view in
    let less : nat_lt a.top b.top ≡ true = grind (arith, nat_tests) in
    rw (f, equal, less) refl))

-- a View of a list isn't above the list's last
view_in_list_is_low : (list : List Entry) (k : ℕ) (g : GroupView) → IsGoodList list → k < length list → slice_get list k ≡ Some (View g)
    → (key_of_stamp g.stamp ≤ key_of_stamp (stamp_of_list list)) × (g.stamp.by < 256)
view_in_list_is_low list k g good low there =
    let long = length_of_taken_list k list (omega arith) in
    let next = begins_push_next_entry (View g) (taken_front_begins_list k list) (ap (slice_get list) long ∙ there) in
    let up = view_key_grows_along_list good next in
    let is = view_after_pushed_view (take k list) g in
    let key = ap key_of_stamp is in
    (omega arith, subst (λ (u : Stamp). u.by < 256) is (name_of_view_is_byte (take k list ++ View g ∷ []) (beginning_of_good_is_good next good)))

unfetchable_by_key : (v : Stamp) (list : List Entry) (k : ℕ) (e : Entry) → v.by < 256 → key_of_stamp (stamp_of_list list) < key_of_stamp v → IsGoodList list → k < length list
    → slice_get list k ≡ Some e → is_unfetchable_view v true e ≡ false
unfetchable_by_key v list k (View g) small above good low there =
    let x = view_in_list_is_low list k g good low there in
    let key = x.0 in
    let less = false_from_ne_true (stamp_is_less v g.stamp) (λ (t : stamp_is_less v g.stamp ≡ true). (let z = key_is_less_for_lesser_stamp v g.stamp small x.1 t in omega arith)) in
    let differ = false_from_ne_true (stamps_are_equal g.stamp v) (λ (t : stamps_are_equal g.stamp v ≡ true). (let z = ap key_of_stamp (stamp_eq_gives_equality g.stamp v t) in omega arith)) in
    rw (less, differ) refl
unfetchable_by_key v list k _ small above good low there = refl

-- ---- in the group that follows

module _ (rules : Rules) (w : World) (s : Group) (voter name : ℕ) (b : Ballot) (old : Following rules w s) (h : FetchesFromVoter w voter name b)
    (who_c : (w.nodes name).core.who ≡ name) (laws : WorldTrimsOnlyTaken rules w) where
  abbrev c : Node
  c = w.nodes name

  abbrev p : Node
  p = w.nodes voter

  abbrev lc : List Entry
  lc = (s.node name).list

  abbrev lp : List Entry
  lp = (s.node voter).list

  kept : GroupKeeps s
  kept = group_run_is_kept rules.founders (lowest_name_or_zero rules.founders) rules.resilience s old.group

  up : (i : ℕ) → i < 256 → is_member (w.nodes i).status ≡ true → is_stopped w i ≡ false → IsUp (s.node i)
  up i low member runs = running_member_is_up rules w s i old low member runs

  stands_c : NameStands w name c (s.node name)
  stands_c = old.stands.each name h.at_name.small

  stands_p : NameStands w voter p (s.node voter)
  stands_p = old.stands.each voter h.at_voter.small

  up_c : IsUp (s.node name)
  up_c = up name h.at_name.small h.member_ h.at_name.runs

  up_p : IsUp (s.node voter)
  up_p = up voter h.at_voter.small h.votes_ h.at_voter.runs

  keeps_c : NodeStandsKept w s name c
  keeps_c = old.nodes name h.at_name.small (member_has_not_departed c.status h.member_)

  good_c : IsGoodList lc
  good_c = keeps_c.good

  good_p : IsGoodList lp
  good_p = (old.nodes voter h.at_voter.small (member_has_not_departed p.status h.votes_)).good

  begins_c : IsBeginningOf lc (chain_of s.views)
  begins_c = (kept.each name).list up_c

  begins_p : IsBeginningOf lp (chain_of s.views)
  begins_p = (kept.each voter).list up_p

  told_p : image_of_list lp ≡ image_of_node p
  told_p = image_of_whole_list w voter p (s.node voter) stands_p

  long_p : length lp ≡ top p
  long_p = length_of_whole_list w voter p (s.node voter) stands_p

  long_c : length lc ≡ top c
  long_c = length_of_whole_list w name c (s.node name) stands_c

  viewed_p : stamp_of_list lp ≡ view p
  unfolding stamp_of_list
  viewed_p = ap (λ (i : Image). i.view) told_p

  viewed_c : stamp_of_list lc ≡ view c
  unfolding stamp_of_list
  viewed_c = ap (λ (i : Image). i.view) (image_of_whole_list w name c (s.node name) stands_c)

  small_p : (view p).by < 256
  small_p = subst (λ (u : Stamp). u.by < 256) viewed_p (name_of_view_is_byte lp good_p)

  small_c : (view c).by < 256
  small_c = subst (λ (u : Stamp). u.by < 256) viewed_c (name_of_view_is_byte lc good_c)

  -- ---- the ballot

  ballot_c : (s.node name).ballot ≡ true
  ballot_c = stands_c.ballot ∙ ap (λ o. is_unfinished_ballot o) h.last ∙ ap not h.open_

  own_stamp : c.core.promise.by ≡ name
  own_stamp = ap (λ (u : Stamp). u.by) (sym stands_c.promise) ∙ ((kept.each name).ballot up_c ballot_c).by

  same_stamp : b.stamp ≡ c.core.promise
  same_stamp = sym ((subst (OpenBallotIsPromised c.core.who c.core.promise (view c)) h.last (laws.blanks.base.each name h.at_name.small).balloted.opened) h.open_).promised

  -- the chain's view is below its stamp
  above : key_of_stamp s.views.current < key_of_stamp c.core.promise
  above = let a = ((kept.each name).ballot up_c ballot_c).above in let same = ap key_of_stamp stands_c.promise in omega arith

  below : key_of_stamp (stamp_of_list lp) < key_of_stamp c.core.promise
  below =
      let a = above in
      let up_ = view_key_grows_along_list kept.views.good begins_p in
      let end = ap key_of_stamp kept.views.view in
      omega arith

  names_ : (j : ℕ) (v : Vote) → b.votes j ≡ Some v → (j < 256) × (v.view.by < 256)
  names_ = (subst (LastStands w) h.last keeps_c.ballots.last).names

  told : (j : ℕ) (v : Vote) → b.votes j ≡ Some v → VoteTells s j b.stamp v
  told = (subst (VotesStand s) h.last keeps_c.ballots.votes) h.open_

  -- it has no vote of its own
  unvoted : b.votes name ≡ None
  unvoted = by (b.votes name) refl
    where
      by : (o : Option Vote) → b.votes name ≡ o → b.votes name ≡ None
      by None is = is
      by (Some v) is = absurd (
          let t = told name v is in
          let x = kept.shown (key_of_stamp b.stamp) name t.list t.shown in
          let small : b.stamp.by < 256 = subst (λ k. k < 256) (sym (ap (λ (u : Stamp). u.by) same_stamp ∙ own_stamp)) h.at_name.small in
          let same = stamps_of_equal_keys x.stamp b.stamp x.small small x.is in
          x.other (ap (λ (u : Stamp). u.by) same ∙ ap (λ (u : Stamp). u.by) same_stamp ∙ own_stamp))

  -- ---- the best vote

  abbrev best : NamedVote
  best = best_vote_for_ballot c b

  is_best : IsBestVote b.votes c.core.who (own_vote c) best
  unfolding best_vote_for_ballot
  is_best = best_vote_is_greatest b.votes c.core.who (own_vote c) small_c (λ j v is. (names_ j v is).1)

  other : best.by ≢ c.core.who
  other = λ (same : best.by ≡ c.core.who). (let z = sym h.best ∙ same ∙ who_c in let f = h.other in let t : (voter == name) ≡ true = grind (arith, nat_tests) in cc)

  shown_p : b.votes voter ≡ Some best.vote
  shown_p = elim is_best.shown [
    | inl own ↦ absurd (other own.0)
    | inr shown ↦ ap b.votes (sym h.best) ∙ shown
  ]

  tells : VoteTells s voter b.stamp best.vote
  tells = told voter best.vote shown_p

  promise_p : (s.node voter).promise ≡ b.stamp
  promise_p = stands_p.promise ∙ h.promised ∙ sym same_stamp

  -- the voter's list is what it showed
  still : lp ≡ tells.list
  still = kept.still voter tells.list (ap (λ (u : Stamp). s.shown (key_of_stamp u) voter) promise_p ∙ tells.shown)
      (ap (λ (u : Stamp). s.views.decided (key_of_stamp u)) (stands_p.promise ∙ h.promised ∙ sym stands_c.promise) ∙ open_ballot_is_undecided s name kept up_c ballot_c)

  best_view : best.vote.view ≡ view p
  best_view = tells.view ∙ ap stamp_of_list (sym still) ∙ viewed_p

  best_top : best.vote.top ≡ top p
  best_top = tells.top ∙ ap length (sym still) ∙ long_p

  best_members : best.vote.members ≡ members_of_image (image_of_node p)
  best_members = tells.members ∙ ap (λ l. members_of_image (image_of_list l)) (sym still) ∙ ap members_of_image told_p

  -- ---- the lists

  missing : top c < top p
  missing =
      let short = lesser_vote_has_shorter_list lc lp (own_vote c) best.vote good_c begins_c begins_p (names_ voter best.vote shown_p).1 viewed_c (viewed_p ∙ sym best_view) long_c
      (long_p ∙ sym best_top) (is_best.own_first other) in
      let x = long_c in
      let y = long_p in
      omega arith

  begins : IsBeginningOf lc lp
  begins = let m = missing in let x = long_c in let y = long_p in shorter_beginning_begins_longer begins_c begins_p (omega arith)

  kept_from : p.core.log.start ≤ top c
  kept_from =
      let f = (laws.each name h.at_name.small).fronts in
      let start = (laws.each voter h.at_voter.small).fronts.kept in
      let rises = (end_refresh_rests_with_list p).rests.base in
      omega (arith, f.given, f.accepted, h.trimmed)

  told_ : image_of_node c ≡ log_image_at p.core.log (top c)
  told_ = sym (image_of_whole_list w name c (s.node name) stands_c)
      ∙ ap image_of_list (sym (take_length_of_beginning begins))
      ∙ ap (λ n. image_of_list (take n lp)) long_c
      ∙ sym (image_at_of_whole_list w voter (top c) p (s.node voter) stands_p kept_from)

  -- a part of the voter's list
  part : (k : ℕ) → p.core.log.start ≤ k → (log_image_at p.core.log k).view ≡ stamp_of_list (take k lp)
  unfolding stamp_of_list
  part k low = ap (λ (i : Image). i.view) (image_at_of_whole_list w voter k p (s.node voter) stands_p low)

  part_small : (k : ℕ) → p.core.log.start ≤ k → (log_image_at p.core.log k).view.by < 256
  part_small k low = subst (λ (u : Stamp). u.by < 256) (sym (part k low)) (name_of_view_is_byte (take k lp) (beginning_of_good_is_good (taken_front_begins_list k lp) good_p))

  part_key : (k : ℕ) → p.core.log.start ≤ k → key_of_stamp (log_image_at p.core.log k).view ≤ key_of_stamp (stamp_of_list lp)
  part_key k low = let x = view_key_grows_along_list good_p (taken_front_begins_list k lp) in let y = ap key_of_stamp (part k low) in omega arith

  fit : (k : ℕ) (e : Entry) → log_entry_at p.core.log k ≡ Some e → (fits (log_image_at p.core.log (k - 1)) e ≡ true) × (is_unfetchable_view c.core.promise true e ≡ false)
  fit k e there =
      let start = entry_is_above_start p.core.log k e there in
      let get : slice_get lp (k - 1) ≡ Some e = sym (entry_at_of_whole_list w voter k p (s.node voter) stands_p start) ∙ there in
      let within = slice_get_within lp (k - 1) e get in
      let small : c.core.promise.by < 256 = subst (λ i. i < 256) (sym own_stamp) h.at_name.small in (
        ap (λ (i : Image). fits i e) (image_at_of_whole_list w voter (k - 1) p (s.node voter) stands_p (omega arith)) ∙ entry_fits_at_its_number blank 1 (k - 1) lp e good_p.fit get,
        unfetchable_by_key c.core.promise lp (k - 1) e small below good_p within get,
      )

  member : is_member_at_end lp name ≡ true
  unfolding is_member_at_end
  member = ap (λ set. has set name) (ap members_of_image told_p ∙ sym best_members) ∙ h.needed

  stays : (k : ℕ) → top c ≤ k → k < top p → (row_of_name (log_image_at p.core.log k) c.core.who).left ≡ 0
  stays k low high =
      let a = kept_from in
      let y = long_p in
      let is = image_at_of_whole_list w voter k p (s.node voter) stands_p (omega arith) in
      let used : UnusedPlacesHaveNoLife (log_image_at p.core.log k) = unused_places_after_entries p.core.log.image (p.core.log.start + 1) _ (omega arith)
      (laws.each voter h.at_voter.small).fronts.used in
      ap (λ i. (row_of_name (log_image_at p.core.log k) i).left) who_c ∙ ap (λ (i : Image). (row_of_name i name).left) is
      ∙ member_at_end_has_not_left lp name k good_p (omega arith) (subst UnusedPlacesHaveNoLife is used) member

  differ : (k : ℕ) → p.core.log.start ≤ k → stamps_are_equal (log_image_at p.core.log k).view c.core.promise ≡ false
  differ k low = false_from_ne_true (stamps_are_equal (log_image_at p.core.log k).view c.core.promise) (λ (t : stamps_are_equal (log_image_at p.core.log k).view c.core.promise ≡ true).
      (let z = ap key_of_stamp (stamp_eq_gives_equality (log_image_at p.core.log k).view c.core.promise t) in
      let x = part_key k low in
      let y = below in
      omega arith))

  room : top p - (refresh_at_end p).core.base ≤ c.core.rules.window + 15
  room =
      let few = (laws.kept voter).few in
      let same = ap (λ (x : Rules). x.window) (laws.kept name).founding in
      let rises = (end_refresh_rests_with_list p).rests.base in
      omega arith

  best_is : BestIs name b voter best.vote p.core.log
  best_is = record {
    own = unvoted;
    names = names_;
    shown = shown_p;
    greatest = λ j v is. is_best.above_all j v (names_ j v is).0 is;
    lowest = λ j v less is. is_best.lowest other j v (names_ j v is).0 (ap (λ i. name_is_less j i) h.best ∙ less) is;
    view_ = best_view;
    top_ = best_top;
    members_ = best_members;
    needed = h.needed;
    nobody = h.nobody;
    less = λ k low high. (let x = part_key k low in let y = ap key_of_stamp (viewed_p ∙ sym best_view) in let z = best_top in
        less_vote (vote_at p.core.log k) best.vote (part_small k low) (names_ voter best.vote shown_p).1 (omega arith) (omega arith));
    small = λ k low high. part_small k low;
  }

  pub coordinator_may_follow : p.core.who ≡ voter → MayFollowVoter p c best.vote b
  coordinator_may_follow who_p = record {
    voter = record {
      listed = h.votes_;
      promised = h.promised;
      other = (λ i. own_stamp i == who_p i) ∙ turned voter name h.other;
      below = ap (λ (u : Stamp). stamps_are_equal u c.core.promise) (ap (λ (i : Image). i.view) (sym (image_at_top_is_told p.core.log))) ∙ differ (top p) (omega arith);
    };
    list = subst (λ i. MayFollow p.core.log (refresh_at_end p).core.base i best.vote c b) (sym who_p) (record {
      fetches = record {
        coordinates = record {
          listed = h.member_;
          last = h.last;
          open_ = h.open_;
          stamp = same_stamp;
          own = own_stamp ∙ sym who_c;
          below = ap (λ (i : Image). stamps_are_equal i.view c.core.promise) told_ ∙ differ (top c) kept_from;
        };
        answer = h.answer;
        other = ap (λ i. voter == i) who_c ∙ h.other;
      };
      votes = subst (λ i. BestIs i b voter best.vote p.core.log) (sym who_c) best_is;
      missing = missing;
      kept = kept_from;
      told_ = told_;
      fit = fit;
      differ = λ k low high. differ k low;
      stays = stays;
      trimmed = h.trimmed;
      low = (let f = (laws.each name h.at_name.small).fronts in omega (arith, f.given, f.accepted, h.trimmed));
      room = room;
    });
  }
    where
      turned : (a b : ℕ) → (a == b) ≡ false → (b == a) ≡ false
      turned a b f = grind (arith, nat_tests)

-- ---- in every lawful run, and after it while nobody stops

pub coordinators_may_follow_until_last_stop : (rules : Rules) (events : List Event) (voter name : ℕ) (b : Ballot) → MayFound rules → LawfulUntilLastStop rules events
    → FetchesFromVoter (run rules events) voter name b
    → MayFollowVoter ((run rules events).nodes voter) ((run rules events).nodes name) (best_vote_for_ballot ((run rules events).nodes name) b).vote b
coordinators_may_follow_until_last_stop rules events voter name b may until h =
    let f = some_group_follows_until_last_stop rules events may until in
    let who = (names_hold_in_runs rules events may).who in
    coordinator_may_follow rules (run rules events) f.0 voter name b f.1 h (who name) (run_trims_only_taken rules events may) (who voter)

pub coordinators_may_follow : CoordinatorsMayFollow
coordinators_may_follow rules events voter name b may lawful h =
    coordinators_may_follow_until_last_stop rules events voter name b may (lawful_is_until_last_stop rules events lawful) h

pub fetching_ballots_end_until_last_stop : (rules : Rules) (events : List Event) (voter name many : ℕ) (b : Ballot) → MayFound rules → LawfulUntilLastStop rules events
    → FetchesFromVoter (run rules events) voter name b → top ((run rules events).nodes voter) ≤ top ((run rules events).nodes name) + 8 * many
    → (n : ℕ) × (n ≤ many) × LooksAtWhole ((run rules events).nodes voter).core.log (fetching_ballot b voter (top ((run rules events).nodes voter)))
    ((run rules (events ++ events_of_exchanges n (run rules events) voter name)).nodes name)
fetching_ballots_end_until_last_stop rules events voter name many b may until h far =
    ballots_end_in_runs rules events voter name many (best_vote_for_ballot ((run rules events).nodes name) b).vote b may h.at_voter h.at_name
    (coordinators_may_follow_until_last_stop rules events voter name b may until h) far

pub fetching_ballots_end : FetchingBallotsEnd
fetching_ballots_end rules events voter name many b may lawful h far =
    fetching_ballots_end_until_last_stop rules events voter name many b may (lawful_is_until_last_stop rules events lawful) h far
