-- The requests of a node's own sends that aren't settled are some number, the next one, and so on.
use Rattle.am_run_laws.proofs.UnballotedWords.{◌≡◌, ℕ, ◌+◌, ◌<◌, ◌≤◌, ◌==◌, ◌&&◌, ◌||◌, Bool, true, false, not, List, [], ◌∷◌, ◌++◌, map, filter, find, Option, Some}
use Rattle.am_run_laws.proofs.UnballotedWords.{None, is_some, is_none, refl, sym, ap, ◌∙◌, arith, list_any, nat_tests, OwnSend, split_on_bool}
use Rattle.am_node_defs.specs.Sends as own

-- those that aren't settled are the next requests up to the last, and those that are lie below a number
unfoldable pub UnsettledSendsAreInTurn : ℕ → ℕ → List OwnSend → ℕ → Type 0
UnsettledSendsAreInTurn low next [] last = next ≡ last + 1
UnsettledSendsAreInTurn low next (s ∷ q) last = (own.is_unsettled s ≡ true → (s.req ≡ next) × UnsettledSendsAreInTurn low (next + 1) q last)
    × (own.is_unsettled s ≡ false → (s.req < low) × UnsettledSendsAreInTurn low next q last)

-- the waiting send has the next request
pub waiting_send_has_next_request : (low next last : ℕ) (queue : List OwnSend) (s : OwnSend) → UnsettledSendsAreInTurn low next queue last → find own.is_unsettled queue ≡ Some s → s.req ≡ next
unfolding UnsettledSendsAreInTurn
waiting_send_has_next_request low next last [] s h is = absurd (cc)
waiting_send_has_next_request low next last (x ∷ q) s h is = split_on_bool (own.is_unsettled x)
    (λ t. let found = rw t at is in let same : x ≡ s = cc in ap (λ (y : OwnSend). y.req) (sym same) ∙ (h.0 t).0)
    (λ f. waiting_send_has_next_request low next last q s (h.1 f).1 (rw f at is))

pub turn_with_one_more_send : (low next last : ℕ) (queue : List OwnSend) (body : List ℕ) → UnsettledSendsAreInTurn low next queue last
    → UnsettledSendsAreInTurn low next (queue ++ record { req = last + 1; body = body; number = None } ∷ []) (last + 1)
unfolding UnsettledSendsAreInTurn
turn_with_one_more_send low next last [] body h = (λ t. (sym h, ap (λ n. n + 1) h), λ f. absurd (cc))
turn_with_one_more_send low next last (x ∷ q) body h = (
  λ t. ((h.0 t).0, turn_with_one_more_send low (next + 1) last q body (h.0 t).1),
  λ f. ((h.1 f).0, turn_with_one_more_send low next last q body (h.1 f).1),
)

-- a send below the next that is settled
settled_below : (low high next last r k : ℕ) (queue : List OwnSend) → low ≤ high → r < high → r < next → UnsettledSendsAreInTurn low next queue last
    → UnsettledSendsAreInTurn high next (map (own.settle_send r k) queue) last
unfolding UnsettledSendsAreInTurn
settled_below low high next last r k [] up a b h = h
settled_below low high next last r k (x ∷ q) up a b h = split_on_bool (x.req == r)
    (λ t. rw t (
      λ u. absurd (cc),
      λ f. split_on_bool (own.is_unsettled x)
          (λ u. let e = (h.0 u).0 in absurd (let z : ⊥ = grind (arith, nat_tests) in z))
          (λ g. (let e : x.req ≡ r = grind (arith, nat_tests) in omega arith, settled_below low high next last r k q up a b (h.1 g).1)),
    ))
    (λ n. rw n (
      λ u. ((h.0 u).0, settled_below low high (next + 1) last r k q up a (omega arith) (h.0 u).1),
      λ f. (let e = (h.1 f).0 in omega arith, settled_below low high next last r k q up a b (h.1 f).1),
    ))

-- the waiting send is settled
pub turn_after_settled_send : (low next last k : ℕ) (queue : List OwnSend) (s : OwnSend) → low ≤ next → find own.is_unsettled queue ≡ Some s → UnsettledSendsAreInTurn low next queue last
    → UnsettledSendsAreInTurn (next + 1) (next + 1) (map (own.settle_send next k) queue) last
unfolding UnsettledSendsAreInTurn
turn_after_settled_send low next last k [] s up is h = absurd (cc)
turn_after_settled_send low next last k (x ∷ q) s up is h = split_on_bool (own.is_unsettled x)
    (λ t.
    let e = (h.0 t).0 in
    let same : (x.req == next) ≡ true = grind (arith, nat_tests) in
    rw same (λ u. absurd (cc), λ f. (omega arith, settled_below low (next + 1) (next + 1) last next k q (omega arith) (omega arith) (omega arith) (h.0 t).1)))
    (λ f.
    let e = (h.1 f).0 in
    let other : (x.req == next) ≡ false = grind (arith, nat_tests) in
    rw other (λ u. absurd (cc), λ g. (omega arith, turn_after_settled_send low next last k q s up (rw f at is) (h.1 f).1)))

none_some : (o : Option ℕ) → is_none o ≡ true → is_some o ≡ false
none_some None t = refl
none_some (Some k) t = absurd (cc)

or_rest : (a b d : Bool) → b ≡ false → ((a && b) || d) ≡ true → d ≡ true
or_rest a b d f t = grind arith

-- one that is settled lies below
settled_low : (low next last r : ℕ) (queue : List OwnSend) → UnsettledSendsAreInTurn low next queue last → list_any (λ s. (s.req == r) && is_some s.number) queue ≡ true → r < low
unfolding UnsettledSendsAreInTurn
settled_low low next last r [] h t = absurd (cc)
settled_low low next last r (x ∷ q) h t = split_on_bool (own.is_unsettled x)
    (λ u. settled_low low (next + 1) last r q (h.0 u).1 (or_rest (x.req == r) (is_some x.number) _ (none_some x.number u) t))
    (λ u. let e = (h.1 u).0 in
    split_on_bool (x.req == r) (λ y. let same : x.req ≡ r = grind (arith, nat_tests) in omega arith)
    (λ n. settled_low low next last r q (h.1 u).1 (rw n at t)))

without : (low next last r : ℕ) (queue : List OwnSend) → r < low → low ≤ next → UnsettledSendsAreInTurn low next queue last
    → UnsettledSendsAreInTurn low next (filter (λ s. not (own.send_has_request r s)) queue) last
unfolding UnsettledSendsAreInTurn
without low next last r [] a b h = h
without low next last r (x ∷ q) a b h = split_on_bool (x.req == r)
    (λ t. split_on_bool (own.is_unsettled x)
    (λ u. let e = (h.0 u).0 in absurd (let z : ⊥ = grind (arith, nat_tests) in z))
    (λ f. rw t (without low next last r q a b (h.1 f).1)))
    (λ n. rw n (λ u. ((h.0 u).0, without low (next + 1) last r q a (omega arith) (h.0 u).1), λ f. ((h.1 f).0, without low next last r q a b (h.1 f).1)))

-- a settled send is collected
pub turn_after_collect : (low next last r : ℕ) (sends : own.Sends) → low ≤ next → UnsettledSendsAreInTurn low next sends.queue last → UnsettledSendsAreInTurn low next (own.collect r sends).queue last
turn_after_collect low next last r sends up h = split_on_bool (own.has_settled_send r sends)
    (λ t. rw t (without low next last r sends.queue (settled_low low next last r sends.queue h t) up h))
    (λ f. rw f h)
