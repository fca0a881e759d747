-- Passes are joined one by one.
use Rattle.am_shared_journal.proofs.Words.{◌≡◌, ℕ, zero, suc, ◌<◌, ◌≤◌, List, [], ◌∷◌, ◌++◌, length, get_or, refl, ap, arith, sum_by}
use Rattle.am_shared_journal.proofs.Words.{sum_by-append, sum_by-cons, All-append, SharerKey, times, GoesOn, Known, Joined}
use Rattle.am_shared_journal.proofs.Words.{Gathered, times_of_append, records_go_on_through_both}

-- a key of one of several is one of all
some_of_sum : (made : List Known) (key : SharerKey) (k : ℕ) (d : Known) → k < length made → times key (get_or made k d).keys ≤ sum_by (λ q. times key q.keys) made
some_of_sum [] key k d h = absurd (omega arith)
some_of_sum (p ∷ made) key zero d h = omega (arith, sum_by-cons (λ (q : Known). times key q.keys) p made)
some_of_sum (p ∷ made) key (suc k) d h = omega (arith, sum_by-cons (λ (q : Known). times key q.keys) p made, some_of_sum made key k d (omega arith))

pub gathered_passes_with_one_more : (made : List Known) (p q p' : Known) → Gathered made p → Joined p q p' → Gathered (made ++ q ∷ []) p'
gathered_passes_with_one_more made p q p' g j = record {
  keys = λ key.
      let a : times key p'.keys ≡ times key (q.keys ++ p.keys) = ap (times key) j.keys in
      let b = times_of_append key q.keys p.keys in
      let c = sum_by-append (λ (x : Known). times key x.keys) made (q ∷ []) in
      let e = sum_by-cons (λ (x : Known). times key x.keys) q [] in
      let z : sum_by (λ (x : Known). times key x.keys) [] ≡ 0 = refl in
      let o = g.keys key in
      omega arith;
  goes = All-append (λ (x : Known). GoesOn x.keys x.seen p'.seen) made (q ∷ [])
      (λ k d h. records_go_on_through_both (get_or made k d).keys p.keys (get_or made k d).seen p.seen p'.seen (λ key has. let s = some_of_sum made key k d h in
      let o = g.keys key in omega arith) (g.goes k d h) j.first)
      (λ k d h. second k d h);
}
  where
    second : (k : ℕ) (d : Known) → k < 1 → GoesOn (get_or (q ∷ []) k d).keys (get_or (q ∷ []) k d).seen p'.seen
    second zero d h = j.second
    second (suc k) d h = absurd (omega arith)
