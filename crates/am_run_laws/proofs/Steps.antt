-- What a step of a name makes of what a world keeps.
use Rattle.am_run_laws.proofs.PromisedWords.{◌≡◌, ◌⊎◌, ⊎_elim, inl, inr, ℕ, ◌+◌, ◌-◌, ◌<◌, nat_le, List, [], ◌∷◌, ◌++◌, length, Some, None, slice_get, refl, sym}
use Rattle.am_run_laws.proofs.PromisedWords.{ap, ◌∙◌, subst, arith, All, nat_tests, All-nil, All-cons, Entry, Data, Outcome, Rules, Node, split_on_bool, Cause, item_of_index_has_property}
use Rattle.am_run_laws.proofs.PromisedWords.{nil_from_length}
use Rattle.am_base.specs.declared.outcome.Outcome.TheVariants as said
use Rattle.am_run_laws.proofs.UnballotedWords.{suc, ◌≤◌, append-nil, length-append, Log, log_entry_at, item_at, entry_taken_by_outcome, accepted_send_of_outcome, entry_at_is_slice_get, OutcomeTells, HasTakenEntry}
use Rattle.am_run_laws.proofs.UnballotedWords.{AnswersAsk, WasSettled, slice_get_after_push}
use Rattle.am_run_laws.proofs.Lists.{slice_get_is_item_at, item_at_of_appended, slice_get_within_whole}
use Rattle.am_run_laws.proofs.UnballotedKept.{AcceptedStandsAt, accepted_stands_in_longer_list, OwnSendIsSettledRight, SettledSendStands, UnballotedNodeKeeps}
use Rattle.am_run_laws.proofs.Chains.{front_of_given, taken_below_accepted_passes_low, GaveByAnswer, nothing, took, began}
use Rattle.am_run_laws.proofs.{Worlds.GivenAreListEntries, Worlds.AcceptedSendStandsAt}

-- ---- answers

pub outcome_takes_nothing_or_entry : (o : Outcome) → (entry_taken_by_outcome o ≡ []) ⊎ ((number : ℕ) × (e : Entry) × (o ≡ said.Took number e))
outcome_takes_nothing_or_entry (said.Took number e) = inr (number, e, refl)
outcome_takes_nothing_or_entry _ = inl refl

pub no_ballot_answers_no_ask : (m : Node) (c : Cause) (o : Outcome) → m.ballot ≡ None → AnswersAsk m c o → ⊥
no_ballot_answers_no_ask m c o none h = let z = h.last in absurd (cc)

pub answered_entry_was_taken : (m : Node) (c : Cause) (n : Node) (o : Outcome) (number : ℕ) (e : Entry) → m.ballot ≡ None → o ≡ said.Took number e → OutcomeTells m c n o
    → HasTakenEntry m c n number e
answered_entry_was_taken m c n o number e none is h = ⊎_elim (λ (x : HasTakenEntry m c n number e). x)
    (λ (x : AnswersAsk m c (said.Took number e)). absurd (no_ballot_answers_no_ask m c _ none x)) (subst (OutcomeTells m c n) is h)

-- ---- what was given

entry_low : (log : Log) (number : ℕ) (e : Entry) → log_entry_at log (number + 1) ≡ Some e → log.start ≤ number
entry_low log number e is = split_on_bool (nat_le log.start number) (λ t. grind (arith, nat_tests))
    (λ f. let z : number + 1 ≡ suc number = omega arith in
    let at : log_entry_at log (suc number) ≡ Some e = ap (log_entry_at log) (sym z) ∙ is in
    let none = rw f at at in absurd (cc))

pub node_entry_at_is_item : (rules : Rules) (list : List Entry) (acc i : ℕ) (m : Node) (number : ℕ) (e : Entry) → UnballotedNodeKeeps rules list acc i m
    → log_entry_at m.core.log (number + 1) ≡ Some e → item_at list (number + 1) ≡ Some e
node_entry_at_is_item rules list acc i m number e h is =
    let low = entry_low m.core.log number e is in
    let at = entry_at_is_slice_get m.core.log number e low is in
    let there = slice_get_within_whole list m.core.log.start m.core.log.entries (number - m.core.log.start) e h.log.within at in
    slice_get_is_item_at list (number + 1) (m.core.log.start + (number - m.core.log.start)) e (omega arith) there

-- one entry more is given
pub given_with_next_entry : (list : List Entry) (acc : ℕ) (m n : Node) (given : List (ℕ × Entry)) (k : ℕ) (e : Entry) → GivenAreListEntries list acc m given
    → n.core.start ≡ m.core.start → front_of_given m ≡ k → front_of_given n ≡ k + 1 → 0 < m.core.start → m.core.start - 1 ≤ k → AcceptedStandsAt list acc (k + 1) e
    → GivenAreListEntries list acc n (given ++ (k + 1, e) ∷ [])
given_with_next_entry list acc m n given k e h start a b some low at =
    let count = h.count in
    let long = length-append given ((k + 1, e) ∷ []) in
    record {
      count = omega arith;
      each = λ j number x is. ⊎_elim
          (λ (y : slice_get given j ≡ Some (number, x)). (let z = h.each j number x y in
          (z.0 ∙ ap (λ t. t + j) (sym start), subst (λ t. AcceptedStandsAt list acc (t + j) x) (sym start) z.1)))
          (λ (y : (j ≡ length given) × ((k + 1, e) ≡ (number, x))). (
          let n_ : k + 1 ≡ number = ap (λ (p : ℕ × Entry). p.0) y.1 in
          let e_ : e ≡ x = ap (λ (p : ℕ × Entry). p.1) y.1 in
          let sum : k + 1 ≡ n.core.start + j = omega arith in
          (sym n_ ∙ sum, subst (λ t. AcceptedStandsAt list acc t x) sum (subst (AcceptedStandsAt list acc (k + 1)) e_ at))))
          (slice_get_after_push given (k + 1, e) j (number, x) is);
    }

-- of the name that did the step
pub given_after_step : (rules : Rules) (list more : List Entry) (acc to i : ℕ) (m n : Node) (c : Cause) (o : Outcome) (given : List (ℕ × Entry))
    → UnballotedNodeKeeps rules list acc i m → UnballotedNodeKeeps rules (list ++ more) to i n → m.ballot ≡ None → OutcomeTells m c n o → GivenAreListEntries (list ++ more) to m given → GaveByAnswer c o m n
    → GivenAreListEntries (list ++ more) to n (given ++ entry_taken_by_outcome o)
given_after_step rules list more acc to i m n c o given hm hn none answer h (nothing f start log) = ⊎_elim
    (λ (x : entry_taken_by_outcome o ≡ []). subst (GivenAreListEntries (list ++ more) to n) (ap (λ l. given ++ l) (sym x))
    (subst (GivenAreListEntries (list ++ more) to n) (sym (append-nil given))
    (record {
      count = ap (λ t. length given + (t - 1)) start ∙ h.count ∙ sym f;
      each = λ k number e is. (let z = h.each k number e is in
          (z.0 ∙ ap (λ t. t + k) (sym start), subst (λ t. AcceptedStandsAt (list ++ more) to (t + k) e) (sym start) z.1));
    })))
    (λ (x : (number : ℕ) × (e : Entry) × (o ≡ said.Took number e)). (
    let t = answered_entry_was_taken m c n o x.0 x.1 none x.2 answer in
    let fm = hm.fronts in
    let less : m.core.taken < m.core.acc = grind (arith, nat_tests) in
    let p = taken_below_accepted_passes_low m.core.taken m.core.acc (m.core.start - 1) fm.passed less in
    absurd (omega arith)))
    (outcome_takes_nothing_or_entry o)
given_after_step rules list more acc to i m n c o given hm hn none answer h (took k e is a b start low ln lm) =
    let t = answered_entry_was_taken m c n o (k + 1) e none is answer in
    let item = node_entry_at_is_item rules list acc i m k e hm t.there in
    let at : AcceptedStandsAt (list ++ more) to (k + 1) e = record { low = omega arith; there = item_at_of_appended list more (k + 1) e item } in
    let some = (hm.status.begins lm).some in
    subst (GivenAreListEntries (list ++ more) to n) (ap (λ x. given ++ entry_taken_by_outcome x) (sym is)) (given_with_next_entry (list ++ more) to m n given k e h start a b some (omega arith) at)
given_after_step rules list more acc to i m n c o given hm hn none answer h (began s v base join image cause is lm ln start f up) =
    let b = hm.status.blank lm in
    let count = h.count in
    let empty : given ≡ [] = nil_from_length given (omega arith) in
    subst (λ g. GivenAreListEntries (list ++ more) to n (g ++ entry_taken_by_outcome o)) (sym empty)
    (subst (GivenAreListEntries (list ++ more) to n) (ap entry_taken_by_outcome (sym is)) (record { count = omega arith; each = λ k number e x. absurd (cc) }))

-- ---- sends that are answered

pub accepted_sends_of_step_stand : (rules : Rules) (list more : List Entry) (acc to i : ℕ) (m n : Node) (c : Cause) (o : Outcome) → UnballotedNodeKeeps rules list acc i m → acc ≤ to
    → m.ballot ≡ None → OutcomeTells m c n o → All (AcceptedSendStandsAt (list ++ more) to) (accepted_send_of_outcome i o)
accepted_sends_of_step_stand rules list more acc to i m n c (said.Sent req number) h up none answer = ⊎_elim
    (λ (x : WasSettled m c req number). (
    let ok = item_of_index_has_property (OwnSendIsSettledRight list acc i) m.sends.queue x.index x.send h.sends x.there in
    let stands : SettledSendStands list acc i x.send.req (Some number) = subst (SettledSendStands list acc i x.send.req) x.settled ok in
    let mine : (body : List ℕ) × AcceptedStandsAt list acc number (Data i req body) = subst (λ r. (body : List ℕ) × AcceptedStandsAt list acc number (Data i r body)) x.request stands in
    All-cons (AcceptedSendStandsAt (list ++ more) to) _ [] (mine.0, accepted_stands_in_longer_list list more acc to number (Data i req mine.0) up mine.1) (All-nil (AcceptedSendStandsAt (list ++ more) to))))
    (λ (x : AnswersAsk m c (said.Sent req number)). absurd (no_ballot_answers_no_ask m c _ none x))
    answer
accepted_sends_of_step_stand rules list more acc to i m n c _ h up none answer = All-nil (AcceptedSendStandsAt (list ++ more) to)
