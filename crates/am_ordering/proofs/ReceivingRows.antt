-- The rows of a member, by what their tests say.
use Rattle.am_ordering.proofs.ReceivingWords.{◌≡◌, ℕ, ◌+◌, ◌-◌, ◌<◌, ◌≤◌, List, [], Bool, true, false, not, ◌&&◌, ◌||◌, nat_lt, nat_le, if◌then◌else◌, Option, Some, refl}
use Rattle.am_ordering.proofs.ReceivingWords.{sym, ◌∙◌, ap, arith, nat_tests, Entry, Outcome, fits, Node, top, image_of_node, set_of_one_name, has_own_leave, number_is_within_bound}
use Rattle.am_ordering.proofs.ReceivingWords.{Plan, plan_without_letters, plan_with_letter, ack_packet_of, nack_packet_of, node_with_noted_fronts, accept_row, receive_entry, is_view, store_fitting_entry, store_numbered_entry}
use Rattle.am_ordering.proofs.ReceivingWords.{refresh_at_end, Letter, with_letter, ack_where, Replies, Ends, reply_with_answer, outcome_of_answer, reply_without_departure}
use Rattle.am_base.specs.declared.outcome.Outcome.TheVariants as said
use Rattle.am_model.specs.Emit.{with_letter_where}
use Rattle.am_node_parts.specs.Replies.{letters_before_end, letters_with_told, is_departure, MayEnd}
use Rattle.am_node_parts.specs.declared.reply.StepAnswer.{StepAnswer}
use Rattle.am_node_parts.specs.declared.reply.StepAnswer.TheVariants as answer

-- ---- an Accept

pub accept_row_with_gap : (m : Node) (from base acc high stored : ℕ) (poll : Bool) → stored ≡ top m → (nat_lt (top m) high && not (has_own_leave m)) ≡ true
    → accept_row m from base acc high poll ≡ plan_with_letter (node_with_noted_fronts m base acc) (said.Gap (stored + 1)) (set_of_one_name from) nack_packet_of
unfolding accept_row
accept_row_with_gap m from base acc high stored poll is short = rw short
    (ap (λ k. plan_with_letter (node_with_noted_fronts m base acc) (said.Gap (k + 1)) (set_of_one_name from) nack_packet_of) (sym is))

-- the end of a step that noted how far the list is accepted, and before which so much was
abbrev accepting : ℕ → Bool → ℕ → Node → Plan
accepting since poll to m =
    with_letter_where (λ n. poll) (record (plan_without_letters m said.Known) { outcome = λ n. if nat_lt since n.core.acc then said.Advanced n.core.acc else said.Known })
    (set_of_one_name to) ack_packet_of

pub accept_row_without_gap : (m : Node) (from base acc high : ℕ) (poll : Bool) → (nat_lt (top m) high && not (has_own_leave m)) ≡ false
    → accept_row m from base acc high poll ≡ accepting m.core.acc poll from (node_with_noted_fronts m base acc)
unfolding accept_row
accept_row_without_gap m from base acc high poll none = rw none refl

-- what an Ack is that is due, or isn't
pub letters_of_due_ack : (o : Outcome) (is_due : Bool) (to : ℕ) (n : Node) (letters : List Letter)
    → letters_with_told o (ack_where is_due to) n letters ≡ (if is_due then with_letter (set_of_one_name to) (ack_packet_of n) letters else letters)
letters_of_due_ack o true to n letters = refl
letters_of_due_ack o false to n letters = refl

pub ack_is_not_sent_early : (old : Node) (is_due : Bool) (to : ℕ) (n : Node) → letters_before_end old (ack_where is_due to) n ≡ []
ack_is_not_sent_early old true to n = refl
ack_is_not_sent_early old false to n = refl

pub ack_is_no_departure : (is_due : Bool) (to : ℕ) → is_departure (ack_where is_due to) ≡ false
ack_is_no_departure true to = refl
ack_is_no_departure false to = refl

-- it may always be told
pub ack_may_end_step : (a : StepAnswer) (is_due : Bool) (to : ℕ) (m : Node) → MayEnd (reply_with_answer a (ack_where is_due to)) m
ack_may_end_step a true to m = record { there = tt; first = λ n. tt; second = λ n. tt }
ack_may_end_step a false to m = record { there = tt; first = λ n. tt; second = λ n. tt }

pub accepting_replies_advanced : (since : ℕ) (poll : Bool) (to : ℕ) (m n : Node) → Ends m n
    → Replies (accepting since poll to m) (reply_with_answer (answer.Advanced since) (ack_where poll to)) n
accepting_replies_advanced since poll to m n end =
    let x = refresh_at_end m in
    let o = outcome_of_answer (answer.Advanced since) x in
    reply_without_departure (accepting since poll to m) _ n (ack_is_no_departure poll to) end refl (record {
      answer = refl;
      letters = sym (ap (letters_with_told o (ack_where poll to) x) (ack_is_not_sent_early n poll to x) ∙ letters_of_due_ack o poll to x []);
      polls = refl;
      numbers = refl;
      may = ack_may_end_step (answer.Advanced since) poll to n;
    })

-- ---- a numbered entry

pub receive_entry_of_stored_number : (m : Node) (from base number : ℕ) (e : Option Entry) (missing : Outcome) → number ≤ top m
    → receive_entry m from base number e missing ≡ plan_without_letters m said.Known
receive_entry_of_stored_number m from base number e missing low =
    let test : nat_le number (top m) ≡ true = grind (arith, nat_tests) in
    rw test refl

pub receive_entry_past_own_leave : (m : Node) (from base number : ℕ) (e : Option Entry) (missing : Outcome) → top m < number → has_own_leave m ≡ true
    → receive_entry m from base number e missing ≡ plan_without_letters m said.Behind
receive_entry_past_own_leave m from base number e missing high left =
    let test : nat_le number (top m) ≡ false = grind (arith, nat_tests) in
    rw (test, left) refl

pub receive_entry_above_gap : (m : Node) (from base number want : ℕ) (e : Option Entry) (missing : Outcome) → want ≡ top m → want + 1 < number → has_own_leave m ≡ false
    → receive_entry m from base number e missing ≡ plan_with_letter m (said.Gap (want + 1)) (set_of_one_name from) nack_packet_of
receive_entry_above_gap m from base number want e missing is high stays =
    let test : nat_le number (top m) ≡ false = grind (arith, nat_tests) in
    let far : nat_lt (top m + 1) number ≡ true = grind (arith, nat_tests) in
    rw (test, stays, far) (ap (λ k. plan_with_letter m (said.Gap (k + 1)) (set_of_one_name from) nack_packet_of) (sym is))

pub receive_entry_of_past_base : (m : Node) (from base number : ℕ) (e : Option Entry) (missing : Outcome) → number ≡ top m + 1 → has_own_leave m ≡ false
    → m.core.taken < base → receive_entry m from base number e missing ≡ plan_without_letters m said.Behind
receive_entry_of_past_base m from base number e missing next stays past =
    let test : nat_le number (top m) ≡ false = grind (arith, nat_tests) in
    let near : nat_lt (top m + 1) number ≡ false = grind (arith, nat_tests) in
    let low : nat_lt m.core.taken base ≡ true = grind (arith, nat_tests) in
    rw (test, stays, near, low) refl

pub receive_entry_of_next_number : (m : Node) (from base number : ℕ) (e : Option Entry) (missing : Outcome) → number ≡ top m + 1 → has_own_leave m ≡ false
    → base ≤ m.core.taken → receive_entry m from base number e missing ≡ store_numbered_entry m from number e missing
receive_entry_of_next_number m from base number e missing next stays low =
    let test : nat_le number (top m) ≡ false = grind (arith, nat_tests) in
    let near : nat_lt (top m + 1) number ≡ false = grind (arith, nat_tests) in
    let there : nat_lt m.core.taken base ≡ false = grind (arith, nat_tests) in
    rw (test, stays, near, there) refl

pub store_of_unfit_entry : (m : Node) (from number : ℕ) (e : Entry) (missing : Outcome)
    → (is_view e || (not (fits (image_of_node m) e) || not (number_is_within_bound m m.core.base number))) ≡ true → store_numbered_entry m from number (Some e) missing
    ≡ plan_without_letters m said.Unfit
store_of_unfit_entry m from number e missing unfit = rw unfit refl

pub store_of_fitting_entry : (m : Node) (from number : ℕ) (e : Entry) (missing : Outcome)
    → (is_view e || (not (fits (image_of_node m) e) || not (number_is_within_bound m m.core.base number))) ≡ false
    → store_numbered_entry m from number (Some e) missing ≡ store_fitting_entry m from number e
store_of_fitting_entry m from number e missing fit = rw fit refl

-- what an entry has that isn't unfit
pub record EntryIsFitToStore (m : Node) (number : ℕ) (e : Entry) : Type 0 where
  pub plain : is_view e ≡ false
  pub fits : fits (image_of_node m) e ≡ true
  pub bound : number - m.core.base ≤ m.core.rules.window + 15

bound_of : (number base most : ℕ) → not (nat_le (number - base) most) ≡ false → number - base ≤ most
bound_of number base most h = grind (arith, nat_tests)

fit_by : (v f b : Bool) → (v || (not f || not b)) ≡ false → (v ≡ false) × (f ≡ true) × (not b ≡ false)
fit_by true f b h = absurd (cc)
fit_by false false b h = absurd (cc)
fit_by false true true h = (refl, refl, refl)
fit_by false true false h = absurd (cc)

pub entry_is_fit_to_store : (m : Node) (number : ℕ) (e : Entry) → (is_view e || (not (fits (image_of_node m) e) || not (number_is_within_bound m m.core.base number))) ≡ false
    → EntryIsFitToStore m number e
entry_is_fit_to_store m number e h =
    let is = fit_by (is_view e) (fits (image_of_node m) e) (number_is_within_bound m m.core.base number) h in
    record { plain = is.0; fits = is.1; bound = bound_of number m.core.base (m.core.rules.window + 15) is.2 }
