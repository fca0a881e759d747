-- The best vote is the greatest.
use Rattle.am_model_laws.proofs.Words.{ltb-true, ◌≡◌, ℕ, zero, suc, ◌+◌, ◌*◌, ◌/◌, ◌%◌, ◌<◌, ◌≤◌, ◌⊎◌, Bool, true, false, ◌&&◌, ◌||◌, ◌==◌, nat_lt, Option, Some}
use Rattle.am_model_laws.proofs.Words.{None, refl, sym, ap, subst, map, ◌∙◌, inl, inr, arith, range_with_len, cases_lt, nat_tests, Vote, rank_of_name, name_is_less, NamedVote}
use Rattle.am_model_laws.proofs.Words.{vote_is_less, better_vote_of, best_vote_from, best_vote, IsBestVote, BestVoteIsGreatest, split_on_bool}

-- ---- the order of votes

-- of three numbers, each of which counts before the next
abbrev lt : ℕ → ℕ → ℕ → ℕ → ℕ → ℕ → Bool
lt r k t s l u = nat_lt r s || ((r == s) && (nat_lt k l || ((k == l) && nat_lt t u)))

lt_trans : (r k t s l u x y w : ℕ) → lt r k t s l u ≡ true → lt s l u x y w ≡ true → lt r k t x y w ≡ true
lt_trans r k t s l u x y w a b = grind (arith, nat_tests)

-- what isn't above one is below whatever that is below
lt_under : (r k t s l u x y w : ℕ) → lt r k t s l u ≡ false → lt r k t x y w ≡ true → lt s l u x y w ≡ true
lt_under r k t s l u x y w a b = grind (arith, nat_tests)

lt_self : (r k t : ℕ) → lt r k t r k t ≡ false
lt_self r k t = grind (arith, nat_tests)

abbrev LowerVote : Vote → Vote → Type 0
LowerVote a b = lt a.view.round (rank_of_name a.view.by) a.top b.view.round (rank_of_name b.view.by) b.top ≡ true

-- names are the same where their ranks are
by_ranks : (r k t s l u n m : ℕ) → (n ≡ m → k ≡ l) → ((nat_lt r s || ((r == s) && nat_lt k l)) || (((r == s) && (n == m)) && nat_lt t u)) ≡ true
    → lt r k t s l u ≡ true
by_ranks r k t s l u n m same h = grind (arith, nat_tests)

by_names : (r k t s l u n m : ℕ) → (k ≡ l → n ≡ m) → lt r k t s l u ≡ true
    → ((nat_lt r s || ((r == s) && nat_lt k l)) || (((r == s) && (n == m)) && nat_lt t u)) ≡ true
by_names r k t s l u n m same h = grind (arith, nat_tests)

vote_lower : (a b : Vote) → vote_is_less a b ≡ true → LowerVote a b
vote_lower a b h = by_ranks a.view.round (rank_of_name a.view.by) a.top b.view.round (rank_of_name b.view.by) b.top a.view.by b.view.by (λ e. ap (λ n. rank_of_name n) e) h

lower_vote : (a b : Vote) → a.view.by < 256 → b.view.by < 256 → LowerVote a b → vote_is_less a b ≡ true
lower_vote a b x y h = by_names a.view.round (rank_of_name a.view.by) a.top b.view.round (rank_of_name b.view.by) b.top a.view.by b.view.by (λ e. omega arith) h

not_lower : (a b : Vote) → ¬ (LowerVote a b) → vote_is_less a b ≡ false
not_lower a b h = split_on_bool (vote_is_less a b) (λ t. absurd (h (vote_lower a b t))) (λ f. f)

lower_irrefl : (a : Vote) → ¬ (LowerVote a a)
lower_irrefl a h = absurd (let z = lt_self a.view.round (rank_of_name a.view.by) a.top in cc)

votes_trans : (a b c : Vote) → LowerVote a b → LowerVote b c → LowerVote a c
votes_trans a b c h k = lt_trans a.view.round (rank_of_name a.view.by) a.top b.view.round (rank_of_name b.view.by) b.top c.view.round (rank_of_name c.view.by) c.top h k

votes_under : (a b c : Vote) → ¬ (LowerVote a b) → LowerVote a c → LowerVote b c
votes_under a b c h k = split_on_bool (lt a.view.round (rank_of_name a.view.by) a.top b.view.round (rank_of_name b.view.by) b.top)
    (λ t. absurd (h t))
    (λ f. lt_under a.view.round (rank_of_name a.view.by) a.top b.view.round (rank_of_name b.view.by) b.top c.view.round (rank_of_name c.view.by) c.top f k)

-- ---- names by their rank

abbrev name_of : ℕ → ℕ
name_of rank = rank / 16 + 16 * (rank % 16)

rank_name : (rank : ℕ) → rank < 256 → rank_of_name (name_of rank) ≡ rank
rank_name rank h = omega arith

name_rank : (name : ℕ) → name < 256 → name_of (rank_of_name name) ≡ name
name_rank name h = omega arith

rank_below : (name : ℕ) → name < 256 → rank_of_name name < 256
rank_below name h = omega arith

-- ---- what is found

-- the best of those from a rank on: the first one, or the lowest of those that are greater
record IsFound (votes : ℕ → Option Vote) (a k : ℕ) (best r : NamedVote) (rank : ℕ) : Type 0 where
  low : a ≤ rank
  high : rank < a + k
  by : r.by ≡ name_of rank
  shown : votes (name_of rank) ≡ Some r.vote
  greater : LowerVote best.vote r.vote
  first : (other : ℕ) (v : Vote) → a ≤ other → other < rank → votes (name_of other) ≡ Some v → LowerVote v r.vote

record Found (votes : ℕ → Option Vote) (a k : ℕ) (best r : NamedVote) : Type 0 where
  from : (r ≡ best) ⊎ ((rank : ℕ) × IsFound votes a k best r rank)
  above : (other : ℕ) (v : Vote) → a ≤ other → other < a + k → votes (name_of other) ≡ Some v → ¬ (LowerVote r.vote v)

abbrev shown_by : ℕ → Vote → NamedVote
shown_by name v = record { by = name; vote = v }

-- what one more name makes of the best
abbrev Looked : (ℕ → Option Vote) → ℕ → NamedVote → NamedVote → Type 0
Looked votes name best new = ((new ≡ best) × ((v : Vote) → votes name ≡ Some v → ¬ (LowerVote best.vote v)))
    ⊎ ((v : Vote) × (votes name ≡ Some v) × (new ≡ shown_by name v) × LowerVote best.vote v)

some_is : (v w : Vote) → Some v ≡ Some w → v ≡ w
some_is v w h = cc

looked_at : (votes : ℕ → Option Vote) (name : ℕ) (best : NamedVote) (o : Option Vote) → votes name ≡ o
    → ((v : Vote) → o ≡ Some v → (vote_is_less best.vote v ≡ false) → ¬ (LowerVote best.vote v)) → Looked votes name best (better_vote_of best name o)
looked_at votes name best None is h = inl (refl, λ v e. absurd (cc))
looked_at votes name best (Some v) is h = split_on_bool (vote_is_less best.vote v)
    (λ t. rw t (inr (v, is, refl, vote_lower best.vote v t)))
    (λ f. rw f (inl (refl, λ w e. (let z = some_is v w (sym is ∙ e) in subst (λ (x : Vote). ¬ (LowerVote best.vote x)) z (h v refl f)))))

-- the first of a range, or one of the rest
at_first : {G : Type 0} (a other : ℕ) → a ≤ other → (other ≡ a → G) → (a + 1 ≤ other → G) → G
at_first a other h f g = elim (cases_lt a other) [ inl up ↦ g (omega arith) | inr same ↦ f (omega arith) ]

-- one found after the first of a range is that of the whole range, where it is greater than the best before and than the first
found_after : (votes : ℕ → Option Vote) (a k : ℕ) (now best r : NamedVote) (rank : ℕ) → IsFound votes (a + 1) k now r rank → LowerVote best.vote r.vote
    → ((v : Vote) → votes (name_of a) ≡ Some v → LowerVote v r.vote) → IsFound votes a (suc k) best r rank
found_after votes a k now best r rank f greater than_first =
    record {
      low = omega arith;
      high = omega arith;
      by = f.by;
      shown = f.shown;
      greater = greater;
      first = λ other v l m e. at_first a other l (λ z. than_first v (ap (λ n. votes (name_of n)) (sym z) ∙ e)) (λ up. f.first other v up m e);
    }

-- it stayed the best
found_kept : (votes : ℕ → Option Vote) (a k : ℕ) (best r : NamedVote) → ((v : Vote) → votes (name_of a) ≡ Some v → ¬ (LowerVote best.vote v))
    → Found votes (a + 1) k best r → Found votes a (suc k) best r
found_kept votes a k best r under h = record {
  from = elim h.from [
    | inl same ↦ inl same
    | inr w ↦ (let f = w.1 in inr (w.0, found_after votes a k best best r w.0 f f.greater (λ v e. votes_under best.vote v r.vote (under v e) f.greater)))
  ];
  above = λ other v l m e. at_first a other l
      (λ z. let u = under v (ap (λ n. votes (name_of n)) (sym z) ∙ e) in elim h.from [
        | inl same ↦ (λ low. u (subst (λ (x : NamedVote). LowerVote x.vote v) same low))
        | inr w ↦ (λ low. u (votes_trans best.vote r.vote v w.1.greater low))
      ])
      (λ up. h.above other v up (omega arith) e);
}

-- this name's vote became the best
found_taken : (votes : ℕ → Option Vote) (a k : ℕ) (best r : NamedVote) (mine : Vote) → votes (name_of a) ≡ Some mine → LowerVote best.vote mine
    → Found votes (a + 1) k (shown_by (name_of a) mine) r → Found votes a (suc k) best r
found_taken votes a k best r mine is low h = record {
  from = elim h.from [
    | inl same ↦ inr (
      a,
      record {
        low = omega arith;
        high = omega arith;
        by = ap (λ (x : NamedVote). x.by) same;
        shown = is ∙ ap (λ (x : NamedVote). Some x.vote) (sym same);
        greater = subst (λ (x : NamedVote). LowerVote best.vote x.vote) (sym same) low;
        first = λ other v l m e. absurd (omega arith);
      },
    )
    | inr w ↦ (let f = w.1 in inr (
      w.0,
      found_after votes a k (shown_by (name_of a) mine) best r w.0 f (votes_trans best.vote mine r.vote low f.greater)
          (λ v e. subst (λ (x : Vote). LowerVote x r.vote) (some_is mine v (sym is ∙ e)) f.greater),
    ))
  ];
  above = λ other v l m e. at_first a other l
      (λ z. let same_vote = some_is mine v (sym is ∙ (ap (λ n. votes (name_of n)) (sym z) ∙ e)) in
      subst (λ (x : Vote). ¬ (LowerVote r.vote x)) same_vote (elim h.from [
        | inl same ↦ (λ u. lower_irrefl mine (subst (λ (x : NamedVote). LowerVote x.vote mine) same u))
        | inr w ↦ (λ u. lower_irrefl mine (votes_trans mine r.vote mine w.1.greater u))
      ]))
      (λ up. h.above other v up (omega arith) e);
}

abbrev Named : (ℕ → Option Vote) → Type 0
Named votes = (name : ℕ) (v : Vote) → votes name ≡ Some v → v.view.by < 256

looked : (votes : ℕ → Option Vote) (name : ℕ) (best : NamedVote) → Named votes → best.vote.view.by < 256 → Looked votes name best (better_vote_of best name (votes name))
looked votes name best named h = looked_at votes name best (votes name) refl (λ v e f low. let t = lower_vote best.vote v h (named name v e) low in absurd (cc))

named_after : (votes : ℕ → Option Vote) (name : ℕ) (best new : NamedVote) → Named votes → best.vote.view.by < 256 → Looked votes name best new
    → new.vote.view.by < 256
named_after votes name best new named h (inl k) = subst (λ (x : NamedVote). x.vote.view.by < 256) (sym k.0) h
named_after votes name best new named h (inr k) = subst (λ (x : NamedVote). x.vote.view.by < 256) (sym k.2) (named name k.0 k.1)

found_more : (votes : ℕ → Option Vote) (a k : ℕ) (best new r : NamedVote) → Looked votes (name_of a) best new → Found votes (a + 1) k new r
    → Found votes a (suc k) best r
found_more votes a k best new r (inl l) h = found_kept votes a k best r l.1 (subst (λ (x : NamedVote). Found votes (a + 1) k x r) l.0 h)
found_more votes a k best new r (inr l) h = found_taken votes a k best r l.0 l.1 l.3 (subst (λ (x : NamedVote). Found votes (a + 1) k x r) l.2 h)

found : (votes : ℕ → Option Vote) (a k : ℕ) (best : NamedVote) → Named votes → best.vote.view.by < 256
    → Found votes a k best (best_vote_from votes best (map (λ rank. name_of rank) (range_with_len a k)))
unfolding best_vote_from
found votes a zero best named h = record { from = inl refl; above = λ other v l m e. absurd (omega arith) }
found votes a (suc k) best named h =
    let new = better_vote_of best (name_of a) (votes (name_of a)) in
    let l = looked votes (name_of a) best named h in
    found_more votes a k best new (best_vote_from votes new (map (λ rank. name_of rank) (range_with_len (a + 1) k))) l
    (found votes (a + 1) k new named (named_after votes (name_of a) best new named h l))

-- ---- the best vote

above_each : (votes : ℕ → Option Vote) (own : ℕ) (vote : Vote) (r : NamedVote) → Found votes 0 256 (shown_by own vote) r → (name : ℕ) (v : Vote) → name < 256
    → votes name ≡ Some v → vote_is_less r.vote v ≡ false
above_each votes own vote r f name v l e = not_lower r.vote v (f.above (rank_of_name name) v (omega arith) (rank_below name l) (ap votes (name_rank name l) ∙ e))

below_rank : (name by rank : ℕ) → rank < 0 + 256 → by ≡ name_of rank → name_is_less name by ≡ true → rank_of_name name < rank
below_rank name by rank h e lt = let z = ltb-true (rank_of_name name) (rank_of_name by) lt in let y = rank_name rank h in let x = ap (λ n. rank_of_name n) e in omega arith

best_is : (votes : ℕ → Option Vote) (own : ℕ) (vote : Vote) (r : NamedVote) → vote.view.by < 256 → Named votes → Found votes 0 256 (shown_by own vote) r
    → IsBestVote votes own vote r
best_is votes own vote r h named f = elim f.from [
  | inl same ↦ record {
    shown = inl (ap (λ (x : NamedVote). x.by) same, ap (λ (x : NamedVote). x.vote) same);
    above_own = not_lower r.vote vote (λ u. lower_irrefl vote (subst (λ (x : NamedVote). LowerVote x.vote vote) same u));
    above_all = above_each votes own vote r f;
    own_first = λ other. absurd (other (ap (λ (x : NamedVote). x.by) same));
    lowest = λ other name v l lt e. absurd (other (ap (λ (x : NamedVote). x.by) same));
  }
  | inr w ↦ (let g = w.1 in record {
    shown = inr (ap votes g.by ∙ g.shown);
    above_own = not_lower r.vote vote (λ u. lower_irrefl vote (votes_trans vote r.vote vote g.greater u));
    above_all = above_each votes own vote r f;
    own_first = λ other. lower_vote vote r.vote h (named (name_of w.0) r.vote g.shown) g.greater;
    lowest = λ other name v l lt e. lower_vote v r.vote (named name v e) (named (name_of w.0) r.vote g.shown)
        (g.first (rank_of_name name) v (omega arith) (below_rank name r.by w.0 g.high g.by lt) (ap votes (name_rank name l) ∙ e));
  })
]

pub best_vote_is_greatest : BestVoteIsGreatest
best_vote_is_greatest votes own vote h named = best_is votes own vote (best_vote votes own vote) h named (found votes 0 256 (shown_by own vote) named h)
