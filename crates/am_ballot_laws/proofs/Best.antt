-- Which vote is the best while a coordinator's own grows towards it.
use Rattle.am_fetch_laws.proofs.Words.{◌≡◌, inl, inr, ℕ, ◌+◌, ◌<◌, true, false, Some, None, sym, ap, ◌∙◌, arith, nat_tests, split_on_bool, Ballot}
use Rattle.std.specs.Prelude.{◌≢◌, ◌*◌, ◌/◌, ◌%◌}
use Rattle.am_base.specs.declared.image.Vote.{Vote}
use Rattle.am_base.specs.Lists.{Log}
use Rattle.am_base.specs.Names.{name_is_less}
use Rattle.am_base.specs.Votes.{NamedVote, vote_is_less, best_vote}
use Rattle.am_model_laws.specs.Laws.{IsBestVote}
use Rattle.am_model_laws.proofs.BestVotes.{best_vote_is_greatest}
use Rattle.am_ballot_laws.specs.Following.{BestIs}

some_is : (v w : Vote) → Some v ≡ Some w → v ≡ w
some_is v w h = cc

same_rank : (a b : ℕ) → a < 256 → b < 256 → name_is_less a b ≡ false → name_is_less b a ≡ false → a ≡ b
same_rank a b low high f g =
    let x : 16 * (a % 16) + a / 16 ≡ 16 * (b % 16) + b / 16 = grind (arith, nat_tests) in
    omega arith

module _ (who : ℕ) (b : Ballot) (from : ℕ) (best : Vote) (log : Log) (h : BestIs who b from best log) (vote : Vote) (small : vote.view.by < 256) where
  abbrev r : NamedVote
  r = best_vote b.votes who vote

  is : IsBestVote b.votes who vote r
  is = best_vote_is_greatest b.votes who vote small (λ name v shown. (h.names name v shown).1)

  few : from < 256
  few = (h.names from best h.shown).0

  -- who has shown a vote isn't the coordinator
  not_own : b.votes r.by ≡ Some r.vote → r.by ≢ who
  not_own shown = λ (same : r.by ≡ who). (let z : None ≡ Some r.vote = sym h.own ∙ ap b.votes (sym same) ∙ shown in cc)

  -- while its own vote shows less, the best vote is the best
  pub best_stays : vote_is_less vote best ≡ true → r ≡ record { by = from; vote = best }
  best_stays less = elim is.shown [
    | inl own ↦ absurd (let f = is.above_all from best few h.shown in let t = ap (λ (v : Vote). vote_is_less v best) own.1 in cc)
    | inr shown ↦
        (let low = (h.names r.by r.vote shown).0 in
        let other = not_own shown in
        split_on_bool (name_is_less from r.by)
        (λ t. absurd (let a = is.lowest other from best few t h.shown in let f = h.greatest r.by r.vote shown in cc))
        (λ f. split_on_bool (name_is_less r.by from)
        (λ t. absurd (let a = h.lowest r.by r.vote t shown in let g = is.above_all from best few h.shown in cc))
        (λ g.
        let by : r.by ≡ from = same_rank r.by from low few g f in
        let its : r.vote ≡ best = some_is r.vote best (sym shown ∙ ap b.votes by ∙ h.shown) in
        λ i. record { by = by i; vote = its i })))
  ]

  -- and once it shows as much it is its own
  pub best_is_own : vote.view ≡ best.view → vote.top ≡ best.top → r ≡ record { by = who; vote = vote }
  best_is_own view_ top_ = elim is.shown [
    | inl own ↦ (λ i. record { by = own.0 i; vote = own.1 i })
    | inr shown ↦ absurd (
        let t = is.own_first (not_own shown) in
        let f = h.greatest r.by r.vote shown in
        let same : vote_is_less vote r.vote ≡ vote_is_less best r.vote = (λ i. vote_is_less (record { view = view_ i; top = top_ i; taken = 0; members = best.members }) r.vote) in
        cc)
  ]
