-- What the order of votes tells of the lists that they were made of.
use Rattle.am_fetch_runs.proofs.Words.{◌≡◌, inl, inr, ◌<◌, true, nat_lt, List, length, ap, subst, arith, nat_tests, split_on_bool, both_of_and, Entry, Stamp, stamp_is_less, stamps_are_equal}
use Rattle.am_fetch_runs.proofs.Words.{IsGoodList, IsBeginningOf, key_of_stamp, stamp_of_list, shorter_beginning_begins_longer, name_of_view_is_byte, view_key_grows_along_list, key_is_less_for_lesser_stamp, stamp_eq_gives_equality}
use Rattle.std.specs.Prelude.{◌⊎◌}
use Rattle.std.proofs.lemmas.Bool.{cases_lt}
use Rattle.am_base.specs.declared.image.Vote.{Vote}
use Rattle.am_base.specs.Votes.{vote_is_less}

-- a lesser vote is of a lesser view, or of the same with a lesser top
order_of_votes : (a b : Vote) → a.view.by < 256 → b.view.by < 256 → vote_is_less a b ≡ true → (key_of_stamp a.view < key_of_stamp b.view) ⊎ ((a.view ≡ b.view) × (a.top < b.top))
order_of_votes a b small few less = split_on_bool (stamp_is_less a.view b.view)
    (λ t. inl (key_is_less_for_lesser_stamp a.view b.view small few t))
    (λ f. let both = both_of_and (stamps_are_equal a.view b.view) (nat_lt a.top b.top) (rw f at less) in
    inr (stamp_eq_gives_equality a.view b.view both.0, grind (arith, nat_tests)))

-- of two votes that tell of beginnings of one chain, the lesser is of the shorter list
pub lesser_vote_has_shorter_list : {chain : List Entry} (a b : List Entry) (x y : Vote) → IsGoodList a → IsBeginningOf a chain → IsBeginningOf b chain → y.view.by < 256
    → stamp_of_list a ≡ x.view → stamp_of_list b ≡ y.view → length a ≡ x.top → length b ≡ y.top → vote_is_less x y ≡ true → length a < length b
lesser_vote_has_shorter_list a b x y good begins_a begins_b few view_a view_b long_a long_b less =
    let small = subst (λ (u : Stamp). u.by < 256) view_a (name_of_view_is_byte a good) in
    elim (order_of_votes x y small few less) [
      | inl lesser ↦ elim (cases_lt (length a) (length b)) [
        | inl short ↦ short
        | inr long ↦ absurd (
            let grows = view_key_grows_along_list good (shorter_beginning_begins_longer begins_b begins_a long) in
            let p = ap key_of_stamp view_a in
            let q = ap key_of_stamp view_b in
            omega arith)
      ]
      | inr short ↦ (let z = short.1 in omega arith)
    ]
