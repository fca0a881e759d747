-- How often each place was told that a send of its own stands in the list, with one record more.
use Rattle.am_generator.proofs.Words.{and-false, and-true, ◌≡◌, ◌≢◌, ℕ, ◌+◌, ◌<◌, ◌==◌, Bool, true, false, ◌&&◌, List, [], ◌∷◌, ◌++◌, cond}
use Rattle.am_generator.proofs.Words.{sum_by, slice_set, slice_index, refl, sym, ap, ◌∙◌, arith, nat_tests, length-set, get_or-set_same}
use Rattle.am_generator.proofs.Words.{get_or-set_other, sum_by-append, bool_byte, is_outcome_sent, Record, World, AreSent, sent_by}

bit_of : (b : Bool) → 0 + cond b 1 0 ≡ bool_byte b
bit_of true = refl
bit_of false = refl

no_more : (n : ℕ) → n + bool_byte false ≡ n
no_more n = omega arith

sent_push : (w v : World) (r : Record) (place : ℕ) → v.records ≡ w.records ++ r ∷ []
    → sent_by v place ≡ sent_by w place + bool_byte (is_outcome_sent r.outcome && (r.event.node == place))
sent_push w v r place more =
    let counts : Record → ℕ = λ q. cond (is_outcome_sent q.outcome && (q.event.node == place)) 1 0 in
    ap (λ rs. sum_by counts rs) more ∙ sum_by-append counts w.records (r ∷ [])
    ∙ ap (λ k. sent_by w place + k) (bit_of (is_outcome_sent r.outcome && (r.event.node == place)))

-- a place's count goes up where its own record tells it
pub sends_counted_with_record : (sent : List ℕ) (w v : World) (r : Record) (place b : ℕ) → AreSent sent w → place < 4 → v.records ≡ w.records ++ r ∷ []
    → r.event.node ≡ place → b ≡ bool_byte (is_outcome_sent r.outcome) → AreSent (slice_set sent place (sent_by w place + b)) v
sends_counted_with_record sent w v r place b h within more node bit = record {
  count = length-set sent place (sent_by w place + b) ∙ h.count;
  each = λ k low. at k low bit (k == place) refl;
}
  where
    at : (k : ℕ) → k < 4 → b ≡ bool_byte (is_outcome_sent r.outcome) → (same : Bool) → (k == place) ≡ same
        → slice_index (slice_set sent place (sent_by w place + b)) k ≡ sent_by v k
    at k low bit true e =
        let here : k ≡ place = grind (arith, nat_tests) in
        let count = h.count in
        let hers : (r.event.node == place) ≡ true = grind (arith, nat_tests, node) in
        let grown = sent_push w v r place more ∙ ap (λ t. sent_by w place + bool_byte (is_outcome_sent r.outcome && t)) hers
        ∙ ap (λ t. sent_by w place + bool_byte t) (and-true (is_outcome_sent r.outcome)) in
        ap (slice_index (slice_set sent place (sent_by w place + b))) here ∙ get_or-set_same sent place (sent_by w place + b) 0 (omega arith)
        ∙ ap (λ t. sent_by w place + t) bit ∙ sym grown ∙ ap (sent_by v) (sym here)
    at k low bit false e =
        let other : k ≢ place = grind (arith, nat_tests) in
        let others : (r.event.node == k) ≡ false = grind (arith, nat_tests, node) in
        let grown = sent_push w v r k more ∙ ap (λ t. sent_by w k + bool_byte (is_outcome_sent r.outcome && t)) others
        ∙ ap (λ t. sent_by w k + bool_byte t) (and-false (is_outcome_sent r.outcome)) ∙ no_more (sent_by w k) in
        get_or-set_other sent place k (sent_by w place + b) 0 other ∙ h.each k low ∙ sym grown
