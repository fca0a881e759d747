-- One vote after the other comes, or a name that has stopped is given up, until nobody is waited for.
use Rattle.am_reset_runs.proofs.Words.{◌≡◌, ◌≢◌, inl, inr, ◌⊎◌, ℕ, ◌+◌, ◌<◌, ◌≤◌, ◌==◌, not, nat_lt, true, false, List, [], count_by, Option, Some, None, is_some, refl, sym, ap, ◌∙◌, subst, arith, nat_tests}
use Rattle.am_reset_runs.proofs.Words.{split_on_bool, eqb-true, place_of_name, has, size, Stamp, stamp_is_less, stamps_are_equal, Log, top_of_log, image_of_log, members_of_image, Event}
use Rattle.am_reset_runs.proofs.Words.{Node, Ballot, view, members, is_member, node_with_promise, step, refresh_at_end, end_refresh_rests_with_list, World, current, is_stopped, world_with_step, event_at}
use Rattle.am_reset_runs.proofs.Words.{Vote, vote_is_less, own_vote, need_set_of, is_waited_for, ballot_with_answer, ballot_with_vote, ballot_without_voter, decide, best_vote_for_ballot, names_that_pass}
use Rattle.am_reset_runs.proofs.Words.{Coordinates, WaitsForVoter, voted, MayVoteFor, MayReset}
use Rattle.am_group_defs.specs.World.{world_after_give_up}
unfoldable use Rattle.am_group_defs.specs.World.{happens, world_after_events}
use Rattle.am_base.specs.declared.event.NodeEvent.TheVariants as does
use Rattle.am_base.specs.declared.outcome.Outcome.TheVariants as said
use Rattle.am_group.specs.declared.event.Act.TheVariants as act
use Rattle.am_abstract_group.proofs.Puts.{count_le_of_weaker_test, count_lt_of_weaker_test}
use Rattle.am_abstract_group.specs.Group.{count_of_passing_below}
use Rattle.am_model_laws.specs.Laws.{IsBestVote}
use Rattle.am_model_laws.proofs.BestVotes.{best_vote_is_greatest}
use Rattle.am_fetch_laws.specs.Exchanges.{TwoNodes}
unfoldable use Rattle.am_fetch_laws.specs.Exchanges.{exchanges}
use Rattle.am_ballot_laws.proofs.Voting.{give_ups_look, voters_are_heard, coordinates_after_end}
use Rattle.am_fetch_runs.specs.Events.{events_of_exchanges}
use Rattle.am_fetch_runs.proofs.Events.{IsThereNow, BothAreThere, OneMoved, stepped, place_is_of_its_name, two_of, exchanges_happen}
use Rattle.am_reset_runs.proofs.Parts.{stamp_of_reset, VotersAreSound, HasVoted, VotesCome}
use Rattle.am_reset_runs.proofs.Counts.{count_lt_of_weaker}

-- ---- stamps

lower_has_no_more_rounds : (a b : Stamp) → stamp_is_less a b ≡ false → b.round ≤ a.round
lower_has_no_more_rounds a b f = grind (arith, nat_tests)

fewer_rounds_differ : (a b : Stamp) → a.round < b.round → stamps_are_equal a b ≡ false
fewer_rounds_differ a b low = grind (arith, nat_tests)

pub more_rounds_are_not_less : (a b : Stamp) → a.round < b.round → stamp_is_less b a ≡ false
more_rounds_are_not_less a b low = grind (arith, nat_tests)

turned : (a b : ℕ) → (a == b) ≡ false → (b == a) ≡ false
turned a b f = grind (arith, nat_tests)

pub itself_is_equal : (k : ℕ) → (k == k) ≡ true
itself_is_equal k = grind (arith, nat_tests)

-- who has voted has voted as long as its node is the same
still_voted : {w v x : World} {c name : ℕ} {vote : Vote} → HasVoted w v c name vote → x.nodes name ≡ v.nodes name → HasVoted w x c name vote
still_voted h same = record {
  may = h.may;
  other = h.other;
  view_ = h.view_;
  top_ = h.top_;
  members_ = h.members_;
  log = ap (λ (m : Node). m.core.log) same ∙ h.log;
  promise = ap (λ (m : Node). m.core.promise) same ∙ h.promise;
  status = ap (λ (m : Node). m.status) same ∙ h.status;
  leaving = ap (λ (m : Node). m.leaving) same ∙ h.leaving;
}

-- ---- what a ballot hasn't heard of

-- places whose current names haven't voted
abbrev pub unvoted_places : World → Ballot → ℕ
unvoted_places w b = count_of_passing_below (λ place. not (is_some (b.votes (current w place)))) 16

-- those, and stopped names that weren't given up
abbrev pub unheard : World → Ballot → ℕ
unheard w b = unvoted_places w b + count_by (λ name. not (b.given_up name)) w.stopped

module _ (w : World) (c : ℕ) (sound : VotersAreSound w c) (may : MayReset w c) where
  abbrev st : Stamp
  st = stamp_of_reset w c

  -- a voter may vote for the stamp
  promised_below : (name : ℕ) → MayVoteFor w c name → (w.nodes name).core.promise.round < st.round
  promised_below name h = let x = lower_has_no_more_rounds (w.nodes c).core.promise (w.nodes name).core.promise h.promised in omega arith

  viewed_below : (name : ℕ) → MayVoteFor w c name → (view (w.nodes name)).round < st.round
  viewed_below name h = let x = lower_has_no_more_rounds (w.nodes name).core.promise (view (w.nodes name)) (sound.high name h) in let y = promised_below name h in omega arith

  module _ (v : World) (m : Node) (b : Ballot) (h : VotesCome w v c m b) where
    same_view : view m ≡ view (w.nodes c)
    same_view = ap (λ (l : Log). (image_of_log l).view) h.log

    same_members : members m ≡ members (w.nodes c)
    same_members = ap (λ (l : Log). members_of_image (image_of_log l)) h.log

    -- ---- who is needed

    pub is_best : IsBestVote b.votes m.core.who (own_vote m) (best_vote_for_ballot m b)
    unfolding best_vote_for_ballot
    is_best = best_vote_is_greatest b.votes m.core.who (own_vote m) (subst (λ (u : Stamp). u.by < 256) (sym same_view) (sound.small c may.itself))
        (λ name vote shown. (let x = h.votes name vote shown in subst (λ (u : Stamp). u.by < 256) (sym x.view_) (sound.small name x.may)))

    -- the members of a voter's list, or of its own
    needed_by : (j : ℕ) → has (need_set_of m b) j ≡ true → (voter : ℕ) × MayVoteFor w c voter × (has (members (w.nodes voter)) j ≡ true)
    needed_by j there = elim is_best.shown [
      | inl own ↦ (c, may.itself, ap (λ set. has set j) (sym same_members) ∙ ap (λ (x : Vote). has x.members j) (sym own.1) ∙ there)
      | inr shown ↦ (let x = h.votes (best_vote_for_ballot m b).by (best_vote_for_ballot m b).vote shown in ((best_vote_for_ballot m b).by, x.may, ap (λ set. has set j) (sym x.members_) ∙ there))
    ]

    pub needed_is_known : (j : ℕ) → has (need_set_of m b) j ≡ true → (is_stopped w j ≡ true) ⊎ MayVoteFor w c j
    needed_is_known j there = let x = needed_by j there in may.each x.0 j x.1 x.2

    -- the coordinator is among them
    pub itself_is_needed : has (need_set_of m b) m.core.who ≡ true
    itself_is_needed = elim is_best.shown [
      | inl own ↦ ap (λ (x : Vote). has x.members m.core.who) own.1 ∙ ap (λ set. has set m.core.who) same_members ∙ ap (has (members (w.nodes c))) h.who ∙ may.listed
      | inr shown ↦
          (let best = best_vote_for_ballot m b in
          let x = h.votes best.by best.vote shown in
          let own_view = sym same_view in
          let own_log = sym h.log in
          let its_view = sym x.view_ in
          let its_top = sym x.top_ in
          let other : best.by ≢ m.core.who = λ (same : best.by ≡ m.core.who). (let f = x.other in let t : (best.by == c) ≡ true = ap (λ i. i == c) (same ∙ h.who) ∙ itself_is_equal c in cc) in
          let less : vote_is_less (own_vote (w.nodes c)) (own_vote (w.nodes best.by)) ≡ true =
          (λ i. vote_is_less (record { view = own_view i; top = top_of_log (own_log i); taken = 0; members = [] }) (record { view = its_view i; top = its_top i; taken = 0; members = [] })) ∙ is_best.own_first other in
          ap (λ set. has set m.core.who) x.members_ ∙ ap (has (members (w.nodes best.by))) h.who ∙ sound.better best.by x.may less)
    ]

    -- it has no vote of its own
    pub unvoted : b.votes c ≡ None
    unvoted = by (b.votes c) refl
      where
        by : (o : Option Vote) → b.votes c ≡ o → b.votes c ≡ None
        by None is = is
        by (Some vote) is = absurd (let f = (h.votes c vote is).other in let t = itself_is_equal c in cc)

    -- ---- who coordinates

    -- its list's view isn't the stamp
    pub views_below : stamps_are_equal (view m) m.core.promise ≡ false
    views_below = (λ i. stamps_are_equal (same_view i) (h.promise i)) ∙ fewer_rounds_differ (view (w.nodes c)) st (viewed_below c may.itself)

    module _ (names : List ℕ) where
      abbrev b1 : Ballot
      b1 = ballot_with_answer b (said.Waiting names)

      abbrev p : Node
      p = record m { ballot = Some b1 }

      coordinates : Coordinates p b1
      coordinates = record {
        listed = ap is_member h.status ∙ may.itself.member_;
        last = refl;
        open_ = refl;
        stamp = h.stamp ∙ sym h.promise;
        own = ap (λ (u : Stamp). u.by) h.promise ∙ sound.who c ∙ sym h.who;
        below = views_below;
      }

      -- ---- it waits

      module _ (is : names ≡ names_that_pass (is_waited_for m.core.who b) (need_set_of m b)) (some : nat_lt 0 (size names) ≡ true) where
        waits : v.nodes c ≡ refresh_at_end p
        unfolding decide
        waits =
            let needed = itself_is_needed in
            let waiting : nat_lt 0 (size (names_that_pass (is_waited_for m.core.who b) (need_set_of m b))) ≡ true = ap (λ (set : List ℕ). nat_lt 0 (size set)) (sym is) ∙ some in
            let verdict : (decide m b).node ≡ record m { ballot = Some (ballot_with_answer b (said.Waiting (names_that_pass (is_waited_for m.core.who b) (need_set_of m b)))) } =
            rw (needed, waiting) refl in
            let back = sym is in
            h.looked ∙ ap refresh_at_end (verdict ∙ (λ i. record m { ballot = Some (ballot_with_answer b (said.Waiting (back i))) }))

        there : IsThereNow v c
        there = record {
          now = ap (λ (f : ℕ → ℕ). current (record w { lives = f }) (place_of_name c)) h.lives ∙ may.itself.current_.now;
          runs = ap (λ (xs : List ℕ). is_stopped (record w { stopped = xs }) c) h.stopped ∙ may.itself.current_.runs;
          who = ap (λ (x : Node). x.core.who) waits ∙ (end_refresh_rests_with_list p).rests.who ∙ h.who;
        }

        coordinates_now : Coordinates (v.nodes c) b1
        coordinates_now = subst (λ (x : Node). Coordinates x b1) (sym waits) (coordinates_after_end p b1 coordinates)

        -- what rests of its node
        still : (x : Node) → x ≡ refresh_at_end p → (x.core.log ≡ (w.nodes c).core.log) × (x.core.who ≡ c) × (x.core.promise ≡ st) × (x.status ≡ (w.nodes c).status) × (x.leaving ≡ (w.nodes c).leaving)
        still x at = let r = end_refresh_rests_with_list p in (
          ap (λ (y : Node). y.core.log) at ∙ r.log ∙ h.log,
          ap (λ (y : Node). y.core.who) at ∙ r.rests.who ∙ h.who,
          ap (λ (y : Node). y.core.promise) at ∙ r.rests.promise ∙ h.promise,
          ap (λ (y : Node). y.status) at ∙ r.rests.status ∙ h.status,
          ap (λ (y : Node). y.leaving) at ∙ r.rests.leaving ∙ h.leaving,
        )

        -- ---- a name is given up

        module _ (k : ℕ) (goes : is_stopped w k ≡ true) (unvoted_ : b.votes k ≡ None) (kept : b.given_up k ≡ false) (other : (k == c) ≡ false) where
          abbrev e : Event
          e = event_at (place_of_name c) (act.GiveUp k)

          abbrev v1 : World
          v1 = happens v e

          abbrev b2 : Ballot
          b2 = ballot_without_voter b1 k

          given_up : v1 ≡ world_with_step v e c (step (v.nodes c) (does.GiveUp k))
          unfolding happens
          given_up =
              let runs = there.runs in
              let stops : is_stopped v k ≡ true = ap (λ (xs : List ℕ). is_stopped (record w { stopped = xs }) k) h.stopped ∙ goes in
              ap (λ x. world_after_give_up v e x k) (place_is_of_its_name v c there) ∙ rw (runs, stops) refl

          moved : OneMoved v v1 c (step (v.nodes c) (does.GiveUp k)).node (step (v.nodes c) (does.GiveUp k)).letters
          moved = subst (λ (x : World). OneMoved v x c (step (v.nodes c) (does.GiveUp k)).node (step (v.nodes c) (does.GiveUp k)).letters) (sym given_up) (stepped v e c (step (v.nodes c) (does.GiveUp k)))

          not_itself : (k == (v.nodes c).core.who) ≡ false
          not_itself = ap (λ i. k == i) there.who ∙ other

          votes_after : (j : ℕ) (vote : Vote) → b2.votes j ≡ Some vote → HasVoted w v1 c j vote
          votes_after j vote shown = split_on_bool (j == k)
              (λ t. absurd (let z : None ≡ Some vote = rw t at shown in cc))
              (λ f. let was : b.votes j ≡ Some vote = rw f at shown in
              let x = h.votes j vote was in
              still_voted x (moved.others j x.other))

          pub come_after : VotesCome w v1 c (v.nodes c) b2
          come_after = let s = still (v.nodes c) waits in record {
            log = s.0;
            who = s.1;
            promise = s.2;
            status = s.3;
            leaving = s.4;
            stamp = h.stamp;
            open_ = refl;
            least_ = h.least_;
            votes = votes_after;
            given = λ j t. split_on_bool (j == k)
                (λ same. ap (is_stopped w) (eqb-true j k same) ∙ goes)
                (λ f. h.given j (rw f at t));
            lives = moved.lives ∙ h.lives;
            stopped = moved.stopped ∙ h.stopped;
            alike = λ j f none. moved.others j f ∙ split_on_bool (j == k)
                (λ t. h.alike j f (ap b.votes (eqb-true j k t) ∙ unvoted_))
                (λ g. h.alike j f (rw g at none));
            looked = moved.node ∙ give_ups_look (v.nodes c) b1 k coordinates_now not_itself;
          }

          pub no_more_places : unvoted_places w b2 ≤ unvoted_places w b
          no_more_places = count_le_of_weaker_test (λ place. not (is_some (b2.votes (current w place)))) (λ place. not (is_some (b.votes (current w place)))) 16
              (λ j t. split_on_bool (current w j == k)
              (λ same. ap (λ o. not (is_some o)) (ap b.votes (eqb-true (current w j) k same) ∙ unvoted_))
              (λ f. rw f at t))

          pub fewer_after : unheard w b2 < unheard w b
          fewer_after =
              let places = no_more_places in
              let same : (k == k) ≡ true = itself_is_equal k in
              let ups = count_lt_of_weaker (λ name. not (b2.given_up name)) (λ name. not (b.given_up name)) w.stopped k
              (λ j t. split_on_bool (j == k)
              (λ same. ap (λ i. not (b.given_up i)) (eqb-true j k same) ∙ ap not kept)
              (λ f. rw f at t)) goes (rw same refl) (ap not kept) in
              omega arith

        -- ---- a name votes

        module _ (k : ℕ) (votes_ : MayVoteFor w c k) (waited : has names k ≡ true) (unvoted_ : b.votes k ≡ None) (kept : b.given_up k ≡ false) (other : (k == c) ≡ false) where
          abbrev v2 : World
          v2 = world_after_events v (events_of_exchanges 1 v k c)

          same_voter : v.nodes k ≡ w.nodes k
          same_voter = h.alike k other unvoted_

          both : BothAreThere v k c
          both = record {
            leader = record {
              now = ap (λ (f : ℕ → ℕ). current (record w { lives = f }) (place_of_name k)) h.lives ∙ votes_.current_.now;
              runs = ap (λ (xs : List ℕ). is_stopped (record w { stopped = xs }) k) h.stopped ∙ votes_.current_.runs;
              who = ap (λ (x : Node). x.core.who) same_voter ∙ sound.who k;
            };
            lagger = there;
            differ = other;
          }

          promise_now : (v.nodes c).core.promise ≡ st
          promise_now = (still (v.nodes c) waits).2

          waits_for_voter : WaitsForVoter (v.nodes k) (v.nodes c) b1 names
          waits_for_voter =
              let who = both.leader.who in
              let low = promised_below k votes_ in
              record {
                coordinates = coordinates_now;
                answer = refl;
                among = ap (has names) who ∙ waited;
                kept = ap b.given_up who ∙ kept;
                voter = record {
                  listed = ap (λ (x : Node). is_member x.status) same_voter ∙ votes_.member_;
                  other = (λ i. (promise_now i).by == who i) ∙ (ap (λ i. i == k) (sound.who c) ∙ turned k c other);
                  may = (λ i. stamp_is_less (promise_now i) (same_voter i).core.promise) ∙ more_rounds_are_not_less (w.nodes k).core.promise st low;
                  below = (λ i. stamps_are_equal (view (same_voter i)) (promise_now i)) ∙ fewer_rounds_differ (view (w.nodes k)) st (viewed_below k votes_);
                };
              }

          abbrev y : Node
          y = voted (v.nodes k) (v.nodes c)

          abbrev b3 : Ballot
          b3 = ballot_with_vote b1 k (own_vote y)

          exchanged : two_of v2 k c ≡ record { sequencer = y; member_ = refresh_at_end (decide (refresh_at_end (v.nodes c)) b3).node }
          unfolding exchanges
          exchanged =
              let who = both.leader.who in
              (exchanges_happen 1 v k c both).two ∙ voters_are_heard (v.nodes k) (v.nodes c) b1 names waits_for_voter
              ∙ (λ i. record { sequencer = y; member_ = refresh_at_end (decide (refresh_at_end (v.nodes c)) (ballot_with_vote b1 (who i) (own_vote y))).node })

          voter_after : v2.nodes k ≡ y
          voter_after = ap (λ (t : TwoNodes). t.sequencer) exchanged

          has_voted : HasVoted w v2 c k (own_vote y)
          has_voted =
              let r = end_refresh_rests_with_list (node_with_promise (v.nodes k) (v.nodes c).core.promise) in
              let log : y.core.log ≡ (w.nodes k).core.log = r.log ∙ ap (λ (x : Node). x.core.log) same_voter in
              record {
                may = votes_;
                other = other;
                view_ = ap (λ (l : Log). (image_of_log l).view) log;
                top_ = ap top_of_log log;
                members_ = ap (λ (l : Log). members_of_image (image_of_log l)) log;
                log = ap (λ (x : Node). x.core.log) voter_after ∙ log;
                promise = ap (λ (x : Node). x.core.promise) voter_after ∙ r.rests.promise ∙ promise_now;
                status = ap (λ (x : Node). x.status) voter_after ∙ r.rests.status ∙ ap (λ (x : Node). x.status) same_voter;
                leaving = ap (λ (x : Node). x.leaving) voter_after ∙ r.rests.leaving ∙ ap (λ (x : Node). x.leaving) same_voter;
              }

          pub come_with_vote : VotesCome w v2 c (refresh_at_end (v.nodes c)) b3
          come_with_vote =
              let e1 = exchanges_happen 1 v k c both in
              let s = still (v.nodes c) waits in
              let r = end_refresh_rests_with_list (v.nodes c) in
              record {
                log = r.log ∙ s.0;
                who = r.rests.who ∙ s.1;
                promise = r.rests.promise ∙ s.2;
                status = r.rests.status ∙ s.3;
                leaving = r.rests.leaving ∙ s.4;
                stamp = h.stamp;
                open_ = refl;
                least_ = h.least_;
                votes = λ j vote shown. split_on_bool (j == k)
                    (λ t. let is : Some (own_vote y) ≡ Some vote = rw t at shown in
                    let same : own_vote y ≡ vote = cc in
                    subst (λ i. HasVoted w v2 c i vote) (sym (eqb-true j k t)) (subst (HasVoted w v2 c k) same has_voted))
                    (λ f. let was : b.votes j ≡ Some vote = rw f at shown in
                    let x = h.votes j vote was in
                    still_voted x (e1.others j f x.other));
                given = h.given;
                lives = e1.lives ∙ h.lives;
                stopped = e1.stopped ∙ h.stopped;
                alike = λ j f none. split_on_bool (j == k)
                    (λ t. absurd (let z : Some (own_vote y) ≡ None = rw t at none in cc))
                    (λ g. e1.others j g f ∙ h.alike j f (rw g at none));
                looked = ap (λ (t : TwoNodes). t.member_) exchanged;
              }

          pub fewer_places : unvoted_places w b3 < unvoted_places w b
          fewer_places =
              let now = votes_.current_.now in
              let low : place_of_name k < 16 = omega arith in
              let same : (current w (place_of_name k) == k) ≡ true = ap (λ i. i == k) now ∙ itself_is_equal k in
              count_lt_of_weaker_test (λ place. not (is_some (b3.votes (current w place)))) (λ place. not (is_some (b.votes (current w place)))) 16 (place_of_name k)
              (λ j t. split_on_bool (current w j == k)
              (λ same_. ap (λ o. not (is_some o)) (ap b.votes (eqb-true (current w j) k same_) ∙ unvoted_))
              (λ f. rw f at t)) low (rw same refl) (ap (λ i. not (is_some (b.votes i))) now ∙ ap (λ o. not (is_some o)) unvoted_)

          pub fewer_with_vote : unheard w b3 < unheard w b
          fewer_with_vote = let places = fewer_places in omega arith
