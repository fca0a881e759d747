-- What a Piece brings a coordinator that fetches.
use Rattle.am_fetch_laws.proofs.Words.{◌≡◌, ℕ, ◌+◌, ◌-◌, ◌<◌, ◌==◌, nat_lt, true, false, Option, Some, refl, sym, ap, ◌∙◌, subst, arith, nat_tests, has, size}
use Rattle.am_fetch_laws.proofs.Words.{Entry, Stamp, stamps_are_equal, Image, Log, top_of_log, log_entry_at, log_image_at, image_of_log, row_of_name, fits, after, Node, Ballot, top, image_of_node, trim_node_up_to}
use Rattle.am_fetch_laws.proofs.Words.{refresh_at_end, end_refresh_rests_with_list, image_of_pushed_entry, is_unfetchable_view, MayBeStored, length-append}
use Rattle.am_base.specs.declared.image.Vote.{Vote}
use Rattle.am_base.specs.declared.outcome.Outcome.TheVariants as said
use Rattle.am_base.specs.Founding.{Rules}
use Rattle.am_base.specs.Votes.{NamedVote, vote_is_less}
use Rattle.am_base.specs.Lists.{members_of_image}
use Rattle.am_model.specs.Ballots.{own_vote, need_set_of, is_waited_for, verdict_going_on, ballot_with_answer, BallotVerdict}
unfoldable use Rattle.am_model.specs.Ballots.{decide, best_vote_for_ballot}
use Rattle.am_model.specs.Node.{names_that_pass}
use Rattle.am_node_defs.proofs.Ends.{image_at_next_number, image_at_top_is_told}
use Rattle.am_ballot_laws.specs.Fetching.{with_entry_above}
use Rattle.am_ballot_laws.specs.Voting.{Coordinates}
use Rattle.am_ballot_laws.proofs.Voting.{coordinates_after_end}
use Rattle.am_ballot_laws.specs.Following.{BestIs, MayFollow, LooksAtWhole, fetching_ballot}
use Rattle.am_ballot_laws.proofs.Best.{best_stays, best_is_own}

-- so many entries more, and it goes on
pub record Followed (log : Log) (base from : ℕ) (best : Vote) (b : Ballot) (many : ℕ) (m n : Node) : Type 0 where
  pub more : top n ≡ top m + many
  pub goes_on : MayFollow log base from best n (fetching_ballot b from (top n + 1))
  pub who : n.core.who ≡ m.core.who
  pub promise : n.core.promise ≡ m.core.promise

-- the same votes stay so with another answer
same_votes : (who : ℕ) (b c : Ballot) (from : ℕ) (best : Vote) (log : Log) → c.votes ≡ b.votes → c.given_up ≡ b.given_up → BestIs who b from best log → BestIs who c from best log
same_votes who b c from best log votes given h = record {
  own = ap (λ f. f who) votes ∙ h.own;
  names = λ name v is. h.names name v (ap (λ f. f name) (sym votes) ∙ is);
  shown = ap (λ f. f from) votes ∙ h.shown;
  greatest = λ name v is. h.greatest name v (ap (λ f. f name) (sym votes) ∙ is);
  lowest = λ name v less is. h.lowest name v less (ap (λ f. f name) (sym votes) ∙ is);
  view_ = h.view_;
  top_ = h.top_;
  members_ = h.members_;
  needed = h.needed;
  nobody = (λ i. nat_lt 0 (size (names_that_pass (is_waited_for who (record b { votes = votes i; given_up = given i })) best.members))) ∙ h.nobody;
  less = h.less;
  small = h.small;
}

pub may_be_stored : (log : Log) (base from : ℕ) (best : Vote) (m : Node) (b : Ballot) (e : Entry) → MayFollow log base from best m b → log_entry_at log (top m + 1) ≡ Some e
    → MayBeStored m base (top m + 1) e
may_be_stored log base from best m b e h there =
    let missing = h.missing in
    let room = h.room in
    let before : top m + 1 - 1 ≡ top m = omega arith in
    record {
      next = refl;
      stays = ap (λ (i : Image). nat_lt 0 (row_of_name i m.core.who).left) h.told_ ∙ ap (nat_lt 0) (h.stays (top m) (omega arith) missing);
      taken = h.trimmed;
      fits = ap (λ (i : Image). fits i e) h.told_ ∙ ap (λ k. fits (log_image_at log k) e) (sym before) ∙ (h.fit (top m + 1) e there).0;
      within = omega arith;
    }

longer_by_one : (m : Node) (base : ℕ) (e : Entry) → top (with_entry_above m base e) ≡ top m + 1
longer_by_one m base e = simp length-append (omega arith)

module _ (log : Log) (base from : ℕ) (best : Vote) (m : Node) (b : Ballot) (e : Entry) (h : MayFollow log base from best m b) (there : log_entry_at log (top m + 1) ≡ Some e) where
  abbrev x : Node
  x = with_entry_above m base e

  told : image_of_node x ≡ log_image_at log (top m + 1)
  told = image_of_pushed_entry (trim_node_up_to m base) e ∙ ap (λ (i : Image). after i (top m + 1) e) h.told_ ∙ sym (image_at_next_number log (top m) e h.kept there)

  longer : top x ≡ top m + 1
  longer = longer_by_one m base e

  small : (own_vote x).view.by < 256
  small =
      let missing = h.missing in
      let kept = h.kept in
      subst (λ (i : Image). i.view.by < 256) (sym told) (h.votes.small (top m + 1) (omega arith) (omega arith))

  -- more is missing: it goes on to fetch
  goes_on : top m + 1 < top_of_log log → best_vote_for_ballot x b ≡ record { by = from; vote = best }
  unfolding best_vote_for_ballot
  goes_on short =
      let kept = h.kept in
      let less : vote_is_less (own_vote x) best ≡ true = (λ i. vote_is_less (record { view = (told i).view; top = longer i; taken = 0; members = best.members }) best)
      ∙ h.votes.less (top m + 1) (omega arith) short in
      best_stays x.core.who b from best log h.votes (own_vote x) small less

  looked : top m + 1 < top_of_log log → decide x b ≡ verdict_going_on x b (said.Fetching from (top x + 1))
  unfolding decide
  looked short =
      let is = goes_on short in
      let needed : has (need_set_of x b) x.core.who ≡ true = ap (λ (v : NamedVote). has v.vote.members x.core.who) is ∙ h.votes.needed in
      let nobody : nat_lt 0 (size (names_that_pass (is_waited_for x.core.who b) (need_set_of x b))) ≡ false =
      ap (λ (v : NamedVote). nat_lt 0 (size (names_that_pass (is_waited_for x.core.who b) v.vote.members))) is ∙ h.votes.nobody in
      let other : ((best_vote_for_ballot x b).by == x.core.who) ≡ false = ap (λ (v : NamedVote). v.by == x.core.who) is ∙ h.fetches.other in
      rw (needed, nobody, other) (ap (λ (v : NamedVote). verdict_going_on x b (said.Fetching v.by (top x + 1))) is)

  -- it coordinates on, with its ballot as it is or with another answer
  coordinates : (c : Ballot) → c.is_over ≡ false → c.stamp ≡ b.stamp → Coordinates (record x { ballot = Some c }) c
  coordinates c open_ stamp =
      let missing = h.missing in
      let kept = h.kept in
      record {
        listed = h.fetches.listed;
        last = refl;
        open_ = open_;
        stamp = stamp ∙ h.fetches.stamp;
        own = h.fetches.own;
        below = ap (λ (i : Image). stamps_are_equal i.view m.core.promise) told ∙ h.differ (top m + 1) (omega arith) (omega arith);
      }

  pub piece_goes_on : top m + 1 < top_of_log log → Followed log base from best b 1 m (refresh_at_end (decide x b).node)
  piece_goes_on short =
      let c = ballot_with_answer b (said.Fetching from (top x + 1)) in
      let p = (verdict_going_on x b (said.Fetching from (top x + 1))).node in
      let n = refresh_at_end p in
      let r = end_refresh_rests_with_list p in
      let same : top n ≡ top m + 1 = ap (λ (l : Log). top_of_log l) r.log ∙ longer in
      let told_n : image_of_node n ≡ log_image_at log (top n) = ap (λ (l : Log). image_of_log l) r.log ∙ told ∙ ap (log_image_at log) (sym same) in
      let kept = h.kept in
      let window = ap (λ (y : Rules). y.window) r.rests.rules in
      subst (λ (v : BallotVerdict). Followed log base from best b 1 m (refresh_at_end v.node)) (sym (looked short)) (record {
        more = same;
        who = r.rests.who;
        promise = r.rests.promise;
        goes_on = subst (λ k. MayFollow log base from best n (fetching_ballot b from (k + 1))) (ap (λ (l : Log). top_of_log l) (sym r.log)) (record {
          fetches = record {
            coordinates = coordinates_after_end p c (coordinates c refl refl);
            answer = ap (λ (l : Log). said.Fetching from (top_of_log l + 1)) (sym r.log);
            other = ap (λ i. from == i) r.rests.who ∙ h.fetches.other;
          };
          votes = subst (λ i. BestIs i c from best log) (sym r.rests.who) (same_votes m.core.who b c from best log refl refl h.votes);
          missing = omega arith;
          kept = omega arith;
          told_ = told_n;
          fit = λ number y at. ((h.fit number y at).0, ap (λ (v : Stamp). is_unfetchable_view v true y) r.rests.promise ∙ (h.fit number y at).1);
          differ = λ number low high. ap (λ (v : Stamp). stamps_are_equal (log_image_at log number).view v) r.rests.promise ∙ h.differ number low high;
          stays = λ number low high. ap (λ i. (row_of_name (log_image_at log number) i).left) r.rests.who ∙ h.stays number (omega arith) high;
          trimmed = omega (arith, r.rests.taken, h.trimmed);
          low = omega (arith, h.low);
          room = omega (arith, h.room, window);
        });
      })

  -- nothing is missing: it has learned all
  pub piece_ends : top m + 1 ≡ top_of_log log → LooksAtWhole log b (refresh_at_end (decide x b).node)
  unfolding best_vote_for_ballot
  piece_ends all =
      let whole : image_of_node x ≡ image_of_log log = told ∙ ap (log_image_at log) all ∙ image_at_top_is_told log in
      let is : best_vote_for_ballot x b ≡ record { by = x.core.who; vote = own_vote x } = best_is_own x.core.who b from best log h.votes (own_vote x) small
      (ap (λ (i : Image). i.view) whole ∙ sym h.votes.view_) (longer ∙ all ∙ sym h.votes.top_) in
      let members_ : (best_vote_for_ballot x b).vote.members ≡ best.members = ap (λ (v : NamedVote). v.vote.members) is ∙ ap (λ (i : Image). members_of_image i) whole ∙ sym h.votes.members_ in
      record {
        whole = x;
        told_ = whole;
        top_ = longer ∙ all;
        coordinates = subst (λ (o : Option Ballot). Coordinates (record x { ballot = o }) b) (sym h.fetches.last) (coordinates b h.fetches.open_ refl);
        learned = record {
          needed = ap (λ set. has set x.core.who) members_ ∙ h.votes.needed;
          all = ap (λ set. nat_lt 0 (size (names_that_pass (is_waited_for x.core.who b) set))) members_ ∙ h.votes.nobody;
          own = ap (λ (v : NamedVote). v.by == x.core.who) is ∙ itself x.core.who;
        };
        is = refl;
      }
    where
      itself : (k : ℕ) → (k == k) ≡ true
      itself k = grind (arith, nat_tests)
