-- Once nobody is waited for, the coordinator has learned all that its ballot needs, or fetches from the best vote's name.
use Rattle.am_reset_runs.proofs.Words.{◌≡◌, inl, inr, ℕ, ◌+◌, ◌==◌, not, nat_lt, true, false, List, [], ◌∷◌, Option, Some, None, refl, sym, ap, ◌∙◌, subst}
use Rattle.am_reset_runs.proofs.Words.{split_on_bool, place_of_name, has, size, Stamp, Log, top_of_log, image_of_log, members_of_image, Node, Ballot, top, is_member, refresh_at_end, end_refresh_rests_with_list}
use Rattle.am_reset_runs.proofs.Words.{World, current, is_stopped, Vote, NamedVote, vote_is_less, own_vote, need_set_of, is_waited_for, need_set_without_given_up, ballot_with_answer, decide, best_vote_for_ballot, names_that_pass}
use Rattle.am_reset_runs.proofs.Words.{given_vote_is_some, unawaited_name_has_voted, needed_name_is_not_awaited, those_in, IsCurrent, MayVoteFor, MayReset}
use Rattle.am_base.specs.Votes.{better_vote_of}
unfoldable use Rattle.am_base.specs.Votes.{best_vote_from}
use Rattle.am_base.specs.Votes.{all_names}
use Rattle.am_base.specs.declared.outcome.Outcome.TheVariants as said
use Rattle.am_fetch_runs.specs.Ballots.{FetchesFromVoter}
use Rattle.am_trim_laws.specs.Trims.{HasComeToJoin}
use Rattle.am_reset_runs.proofs.Parts.{VotersAreSound, HasVoted, VotesCome, IsReady, HasLearnedAll, TrimsTaken}
use Rattle.am_reset_runs.proofs.Voting.{itself_is_needed, is_best, views_below, unvoted, itself_is_equal}

-- ---- the best vote, whatever the coordinator has taken

record AreAlike (a b : NamedVote) : Type 0 where
  by : a.by ≡ b.by
  view_ : a.vote.view ≡ b.vote.view
  top_ : a.vote.top ≡ b.vote.top
  members_ : a.vote.members ≡ b.vote.members

better_is_alike : (a b : NamedVote) (name : ℕ) (o : Option Vote) → AreAlike a b → AreAlike (better_vote_of a name o) (better_vote_of b name o)
better_is_alike a b name None h = h
better_is_alike a b name (Some vote) h =
    let view_ = h.view_ in
    let top_ = h.top_ in
    let same : vote_is_less a.vote vote ≡ vote_is_less b.vote vote = (λ i. vote_is_less (record { view = view_ i; top = top_ i; taken = 0; members = [] }) vote) in
    split_on_bool (vote_is_less b.vote vote)
    (λ t. let s = same ∙ t in rw (s, t) (record { by = refl; view_ = refl; top_ = refl; members_ = refl }))
    (λ f. let s = same ∙ f in rw (s, f) h)

best_is_alike : (votes : ℕ → Option Vote) (a b : NamedVote) (names : List ℕ) → AreAlike a b → AreAlike (best_vote_from votes a names) (best_vote_from votes b names)
unfolding best_vote_from
best_is_alike votes a b [] h = h
best_is_alike votes a b (name ∷ names) h =
    best_is_alike votes (better_vote_of a name (votes name)) (better_vote_of b name (votes name)) names (better_is_alike a b name (votes name) h)

-- two nodes of one name with one list have one best vote
best_with_same_list : (x y : Node) (b d : Ballot) → d.votes ≡ b.votes → x.core.who ≡ y.core.who → x.core.log ≡ y.core.log → AreAlike (best_vote_for_ballot x d) (best_vote_for_ballot y b)
unfolding best_vote_for_ballot
best_with_same_list x y b d votes who log =
    subst (λ (f : ℕ → Option Vote). AreAlike (best_vote_from f (record { by = x.core.who; vote = own_vote x }) all_names) (best_vote_from b.votes (record { by = y.core.who; vote = own_vote y }) all_names)) (sym votes)
    (best_is_alike b.votes (record { by = x.core.who; vote = own_vote x }) (record { by = y.core.who; vote = own_vote y }) all_names
    (record {
      by = who;
      view_ = ap (λ (l : Log). (image_of_log l).view) log;
      top_ = ap top_of_log log;
      members_ = ap (λ (l : Log). members_of_image (image_of_log l)) log;
    }))

-- ---- nobody is waited for

module _ (w v : World) (c : ℕ) (sound : VotersAreSound w c) (may : MayReset w c) (m : Node) (b : Ballot) (h : VotesCome w v c m b)
    (nobody : nat_lt 0 (size (names_that_pass (is_waited_for m.core.who b) (need_set_of m b))) ≡ false) (stays : (v.nodes c).leaving ≡ false)
    (come : (name : ℕ) → MayVoteFor w c name → HasComeToJoin (v.nodes name)) where
  pub current_of_voter : (name : ℕ) → MayVoteFor w c name → IsCurrent v name
  current_of_voter name x = record {
    small = x.current_.small;
    now = ap (λ (f : ℕ → ℕ). current (record w { lives = f }) (place_of_name name)) h.lives ∙ x.current_.now;
    runs = ap (λ (xs : List ℕ). is_stopped (record w { stopped = xs }) name) h.stopped ∙ x.current_.runs;
  }

  needed : has (need_set_of m b) m.core.who ≡ true
  needed = itself_is_needed w c sound may v m b h

  pub kept : b.given_up c ≡ false
  kept = split_on_bool (b.given_up c) (λ t. absurd (let z = h.given c t in let y = may.itself.current_.runs in cc)) (λ f. f)

  -- who is needed and wasn't given up has voted
  voter_of : (name : ℕ) → has (need_set_without_given_up b (need_set_of m b)) name ≡ true → (name == c) ≡ false → (vote : Vote) × (b.votes name ≡ Some vote)
  voter_of name there other =
      let in_ = those_in (λ j. not (b.given_up j)) (need_set_of m b) name there in
      let unawaited = needed_name_is_not_awaited m b name nobody in_.0 in
      let stands : b.given_up name ≡ false = split_on_bool (b.given_up name) (λ t. absurd (let z = rw t at in_.1 in cc)) (λ f. f) in
      given_vote_is_some (b.votes name) (unawaited_name_has_voted m.core.who name b unawaited stands (ap (λ i. name == i) h.who ∙ other))

  pub voter_is_ready : (name : ℕ) → has (need_set_without_given_up b (need_set_of m b)) name ≡ true → (name == c) ≡ false → IsReady v name b.stamp
  voter_is_ready name there other =
      let vote = voter_of name there other in
      let x = h.votes name vote.0 vote.1 in
      record {
        current_ = current_of_voter name x.may;
        member_ = ap is_member x.status ∙ x.may.member_;
        stays = x.leaving ∙ x.may.stays;
        come = come name x.may;
        promise = x.promise ∙ sym h.stamp;
      }

  -- its own list is the best
  pub learned_all : ((best_vote_for_ballot m b).by == m.core.who) ≡ true → HasLearnedAll v c m b
  learned_all own = record {
    current_ = current_of_voter c may.itself;
    stays = stays;
    come = come c may.itself;
    who = h.who;
    listed = ap is_member h.status ∙ may.itself.member_;
    promise = h.promise ∙ sym h.stamp;
    below = views_below w c sound may v m b h;
    own = ap (λ (u : Stamp). u.by) h.stamp ∙ sound.who c;
    least_ = h.least_;
    kept = kept;
    unvoted = unvoted w c sound may v m b h;
    learned = record { needed = needed; all = nobody; own = own };
    ready = voter_is_ready;
    looked = h.looked;
  }

  -- another list is
  module _ (other : ((best_vote_for_ballot m b).by == m.core.who) ≡ false) where
    abbrev pub voter : ℕ
    voter = (best_vote_for_ballot m b).by

    abbrev pub b1 : Ballot
    b1 = ballot_with_answer b (said.Fetching voter (top m + 1))

    abbrev p : Node
    p = record m { ballot = Some b1 }

    fetches : v.nodes c ≡ refresh_at_end p
    unfolding decide
    fetches = let n = needed in h.looked ∙ ap (λ (x : Node). refresh_at_end x) (rw (n, nobody, other) refl)

    shown : b.votes voter ≡ Some (best_vote_for_ballot m b).vote
    shown = elim (is_best w c sound may v m b h).shown [
      | inl own ↦ absurd (let t : (voter == m.core.who) ≡ true = ap (λ i. i == m.core.who) own.0 ∙ itself_is_equal m.core.who in cc)
      | inr there ↦ there
    ]

    pub has_voted : HasVoted w v c voter (best_vote_for_ballot m b).vote
    has_voted = h.votes voter (best_vote_for_ballot m b).vote shown

    alike : AreAlike (best_vote_for_ballot (v.nodes c) b1) (best_vote_for_ballot m b)
    alike =
        let r = end_refresh_rests_with_list p in
        best_with_same_list (v.nodes c) m b b1 refl (ap (λ (x : Node). x.core.who) fetches ∙ r.rests.who) (ap (λ (x : Node). x.core.log) fetches ∙ r.log)

    pub fetches_from_voter : TrimsTaken v voter → FetchesFromVoter v voter c b1
    fetches_from_voter trims =
        let r = end_refresh_rests_with_list p in
        let x = has_voted in
        let at = alike in
        let log : (v.nodes c).core.log ≡ m.core.log = ap (λ (y : Node). y.core.log) fetches ∙ r.log in
        let who : (v.nodes c).core.who ≡ c = ap (λ (y : Node). y.core.who) fetches ∙ r.rests.who ∙ h.who in
        let member : is_member (v.nodes c).status ≡ true = ap (λ (y : Node). is_member y.status) fetches ∙ ap is_member (r.rests.status ∙ h.status) ∙ may.itself.member_ in
        let set : need_set_of (v.nodes c) b1 ≡ need_set_of m b = at.members_ in
        let current_ = current_of_voter c may.itself in
        record {
          at_voter = current_of_voter voter x.may;
          at_name = current_;
          other = x.other;
          votes_ = ap is_member x.status ∙ x.may.member_;
          member_ = member;
          last = ap (λ (y : Node). y.ballot) fetches ∙ r.rests.ballot;
          open_ = refl;
          answer = ap (λ (l : Log). said.Fetching voter (top_of_log l + 1)) (sym log);
          best = at.by;
          needed = ap (λ s. has s c) set ∙ ap (has (need_set_of m b)) (sym h.who) ∙ needed;
          nobody = ap (λ s. nat_lt 0 (size (names_that_pass (is_waited_for c b1) s))) set ∙ ap (λ i. nat_lt 0 (size (names_that_pass (is_waited_for i b) (need_set_of m b)))) (sym h.who) ∙ nobody;
          promised = x.promise ∙ sym (ap (λ (y : Node). y.core.promise) fetches ∙ r.rests.promise ∙ h.promise);
          trimmed = trims c current_ member stays (come c may.itself);
        }
