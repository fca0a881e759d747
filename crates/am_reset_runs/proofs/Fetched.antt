-- Where the coordinator fetches, exchanges with the best vote's name bring it what that has shown, and then it has learned all.
use Rattle.am_reset_runs.proofs.Words.{◌≡◌, inl, inr, ℕ, ◌+◌, ◌<◌, ◌≤◌, ◌==◌, nat_lt, true, false, List, Some, None, sym, ap, ◌∙◌, subst, arith}
use Rattle.am_reset_runs.proofs.Words.{split_on_bool, eqb-true, place_of_name, has, size, Stamp, Log, image_of_log, members_of_image, Image, Event, Node, Ballot, top, is_member}
use Rattle.am_reset_runs.proofs.Words.{World, current, is_stopped, world_after_events, Vote, own_vote, need_set_of, is_waited_for, need_set_without_given_up, best_vote_for_ballot, names_that_pass, IsCurrent, MayVoteFor, MayReset}
use Rattle.std.specs.Prelude.{◌-◌, ◌/◌}
use Rattle.am_model_laws.specs.Laws.{IsBestVote}
use Rattle.am_model_laws.proofs.BestVotes.{best_vote_is_greatest}
use Rattle.am_fetch_laws.specs.Exchanges.{TwoNodes, exchanges}
use Rattle.am_ballot_laws.specs.Following.{LooksAtWhole, MayFollowVoter, fetching_ballot}
use Rattle.am_ballot_laws.proofs.Exchanged.{RestsAsVoter, exchanges_reach_whole_of_voter}
use Rattle.am_fetch_runs.specs.Events.{events_of_exchanges}
use Rattle.am_fetch_runs.proofs.Events.{IsThereNow, ExchangedSoOften, two_of, exchanges_happen}
use Rattle.am_trim_laws.specs.Trims.{HasComeToJoin}
use Rattle.am_reset_runs.proofs.Parts.{VotersAreSound, HasVoted, VotesCome, IsReady, HasLearnedAll}
use Rattle.am_reset_runs.proofs.Voting.{unvoted}
use Rattle.am_reset_runs.proofs.Heard as heard

module _ (w v : World) (c : ℕ) (sound : VotersAreSound w c) (may : MayReset w c) (m : Node) (b : Ballot) (h : VotesCome w v c m b)
    (nobody : nat_lt 0 (size (names_that_pass (is_waited_for m.core.who b) (need_set_of m b))) ≡ false) (stays : (v.nodes c).leaving ≡ false)
    (other : ((best_vote_for_ballot m b).by == m.core.who) ≡ false) (who : (name : ℕ) → (v.nodes name).core.who ≡ name)
    (come : (name : ℕ) → MayVoteFor w c name → HasComeToJoin (v.nodes name)) where
  abbrev voter : ℕ
  voter = (best_vote_for_ballot m b).by

  abbrev b1 : Ballot
  b1 = heard.b1 w v c sound may m b h nobody stays come other

  shown : HasVoted w v c voter (best_vote_for_ballot m b).vote
  shown = heard.has_voted w v c sound may m b h nobody stays come other

  now : (name : ℕ) → MayVoteFor w c name → IsThereNow v name
  now name x = let y = heard.current_of_voter w v c sound may m b h nobody stays come name x in record { now = y.now; runs = y.runs; who = who name }

  module _ (best : Vote) (follow : MayFollowVoter (v.nodes voter) (v.nodes c) best b1) where
    -- as many exchanges as bring all, eight entries each
    abbrev enough : ℕ
    enough = (top (v.nodes voter) - top (v.nodes c) + 7) / 8

    pub reach : (n : ℕ) × (n ≤ enough) × LooksAtWhole (v.nodes voter).core.log (fetching_ballot b1 (v.nodes voter).core.who (top (v.nodes voter))) (exchanges n (two_of v voter c)).member_
        × RestsAsVoter (v.nodes voter) (exchanges n (two_of v voter c)).sequencer
    reach = let missing = follow.list.missing in exchanges_reach_whole_of_voter (two_of v voter c) enough best b1 follow (omega arith)

    pub few_exchanges : reach.0 ≤ ((v.nodes c).core.rules.window + 22) / 8
    few_exchanges = let room = follow.list.room in let low = follow.list.low in let within = reach.1 in omega arith

    abbrev pub more : List Event
    more = events_of_exchanges reach.0 v voter c

    abbrev x : World
    x = world_after_events v more

    pub done : ExchangedSoOften reach.0 v x voter c
    done = exchanges_happen reach.0 v voter c (record { leader = now voter shown.may; lagger = now c may.itself; differ = shown.other })

    abbrev pub b2 : Ballot
    b2 = fetching_ballot b1 (v.nodes voter).core.who (top (v.nodes voter))

    pub looks : LooksAtWhole (v.nodes voter).core.log b2 (x.nodes c)
    looks = let same = sym (ap (λ (t : TwoNodes). t.member_) done.two) in subst (LooksAtWhole (v.nodes voter).core.log b2) same reach.2

    rests : RestsAsVoter (v.nodes voter) (x.nodes voter)
    rests = let same = sym (ap (λ (t : TwoNodes). t.sequencer) done.two) in subst (RestsAsVoter (v.nodes voter)) same reach.3

    abbrev pub whole : Node
    whole = looks.whole

    who_whole : whole.core.who ≡ c
    who_whole = sym looks.coordinates.own ∙ ap (λ (u : Stamp). u.by) (sym looks.coordinates.stamp ∙ h.stamp) ∙ sound.who c

    -- ---- who is needed

    same_image : image_of_log whole.core.log ≡ image_of_log (w.nodes voter).core.log
    same_image = looks.told_ ∙ ap (λ (l : Log). image_of_log l) shown.log

    is_best : IsBestVote b.votes whole.core.who (own_vote whole) (best_vote_for_ballot whole b2)
    unfolding best_vote_for_ballot
    is_best = best_vote_is_greatest b.votes whole.core.who (own_vote whole) (subst (λ (i : Image). i.view.by < 256) (sym same_image) (sound.small voter shown.may))
        (λ name vote is. (let y = h.votes name vote is in subst (λ (u : Stamp). u.by < 256) (sym y.view_) (sound.small name y.may)))

    same_needed : need_set_of whole b2 ≡ need_set_of m b
    same_needed = elim is_best.shown [
      | inl own ↦ ap (λ (y : Vote). y.members) own.1 ∙ ap (λ (i : Image). members_of_image i) same_image ∙ sym shown.members_
      | inr there ↦ absurd (
          let by : (best_vote_for_ballot whole b2).by ≡ c = eqb-true (best_vote_for_ballot whole b2).by whole.core.who looks.learned.own ∙ who_whole in
          let z : None ≡ Some (best_vote_for_ballot whole b2).vote = sym (unvoted w c sound may v m b h) ∙ ap b.votes (sym by) ∙ there in
          cc)
    ]

    module _ (come_on : (name : ℕ) → is_member (v.nodes name).status ≡ true → HasComeToJoin (v.nodes name) → HasComeToJoin (x.nodes name)) where
      ready : (name : ℕ) → has (need_set_without_given_up b2 (need_set_of whole b2)) name ≡ true → (name == c) ≡ false → IsReady x name b2.stamp
      ready name there not_it =
          let before = heard.voter_is_ready w v c sound may m b h nobody stays come name (ap (λ set. has (need_set_without_given_up b set) name) (sym same_needed) ∙ there) not_it in
          let current_ : IsCurrent x name = record {
            small = before.current_.small;
            now = ap (λ (f : ℕ → ℕ). current (record v { lives = f }) (place_of_name name)) done.lives ∙ before.current_.now;
            runs = ap (λ (xs : List ℕ). is_stopped (record v { stopped = xs }) name) done.stopped ∙ before.current_.runs;
          } in
          split_on_bool (name == voter)
          (λ t. let same = eqb-true name voter t in
          record {
            current_ = current_;
            member_ = ap (λ i. is_member (x.nodes i).status) same ∙ ap is_member rests.status ∙ ap (λ i. is_member (v.nodes i).status) (sym same) ∙ before.member_;
            stays = ap (λ i. (x.nodes i).leaving) same ∙ rests.leaving ∙ ap (λ i. (v.nodes i).leaving) (sym same) ∙ before.stays;
            come = come_on name before.member_ before.come;
            promise = ap (λ i. (x.nodes i).core.promise) same ∙ rests.promise ∙ ap (λ i. (v.nodes i).core.promise) (sym same) ∙ before.promise;
          })
          (λ f. let same = done.others name f not_it in
          record {
            current_ = current_;
            member_ = ap (λ (y : Node). is_member y.status) same ∙ before.member_;
            stays = ap (λ (y : Node). y.leaving) same ∙ before.stays;
            come = come_on name before.member_ before.come;
            promise = ap (λ (y : Node). y.core.promise) same ∙ before.promise;
          })

      -- ---- it has learned all

      pub learned_by_fetching : (x.nodes c).leaving ≡ false → HasLearnedAll x c whole b2
      learned_by_fetching remains =
          let mine = heard.current_of_voter w v c sound may m b h nobody stays come c may.itself in
          record {
            current_ = record {
              small = mine.small;
              now = ap (λ (f : ℕ → ℕ). current (record v { lives = f }) (place_of_name c)) done.lives ∙ mine.now;
              runs = ap (λ (xs : List ℕ). is_stopped (record v { stopped = xs }) c) done.stopped ∙ mine.runs;
            };
            stays = remains;
            come = come_on c follow.list.fetches.listed (come c may.itself);
            who = who_whole;
            listed = looks.coordinates.listed;
            promise = sym looks.coordinates.stamp;
            below = looks.coordinates.below;
            own = ap (λ (u : Stamp). u.by) h.stamp ∙ sound.who c;
            least_ = h.least_;
            unvoted = unvoted w c sound may v m b h;
            kept = heard.kept w v c sound may m b h nobody stays come;
            learned = looks.learned;
            ready = ready;
            looked = looks.is;
          }
