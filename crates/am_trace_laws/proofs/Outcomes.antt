-- What the events that count are read as, by their acts and outcomes.
use Rattle.am_trace_laws.proofs.Words.{◌≡◌, ℕ, ◌<◌, ◌≤◌, ◌==◌, ◌&&◌, true, false, cond, List, [], ◌∷◌, ◌++◌, length, lit<, refl, sym, ap, ◌∙◌, arith, subst}
use Rattle.am_trace_laws.proofs.Words.{◌⊎◌, ⊎_elim, inl, inr, Result, Ok, Err, IsErr, Option, codes, decimal, slice_index, append-nil, nat_tests, greatest_number}
use Rattle.am_trace_laws.proofs.Words.{most_bytes_of_body, name_of_place_and_life, Rules, Entry, Outcome, IsBytes, Act, FieldFault, Form, same, and_then, number_up_to, number_in_text}
use Rattle.am_trace_laws.proofs.Words.{body_text, entry_text, outcome_word, numbers_text, outcome_numbers, outcome_parts, outcome_text, act_word, act_parts}
use Rattle.am_trace_laws.proofs.Words.{Outline, with_rest, two_of, expect, is_body, outline_of, told_number, send_of, answer_fields_of, take_of, return_of, Reading}
use Rattle.am_trace_laws.proofs.Words.{with_send, with_sent_answer, with_take, with_return, counted, number_up_to_decimal, TextIsWord, decimal_is_word, cut_of_word_at_blank, cut_of_whole_word}
use Rattle.am_trace_laws.proofs.Words.{bytes_of_body_text, queued_as, send_lines_in, sent_as, line_answers_in, took_as, take_in, returned_as, names_after, HasLife}
use Rattle.am_trace_laws.proofs.Chars.{outcome_is_word}
use Rattle.am_base.specs.declared.outcome.Outcome.TheVariants as said
use Rattle.am_group.specs.declared.event.Act.TheVariants as acts

-- ---- words and what stands after them

pub two_of_word_and_rest : (word rest : List ℕ) → TextIsWord word → two_of (word ++ 32 ∷ rest) ≡ Ok (word, rest)
two_of_word_and_rest word rest is = ap (λ (c : List ℕ × Option (List ℕ)). with_rest c.0 c.1) (cut_of_word_at_blank word rest is)

one_word : (word : List ℕ) → TextIsWord word → two_of word ≡ Err Form
one_word word is = ap (λ (c : List ℕ × Option (List ℕ)). with_rest c.0 c.1) (cut_of_whole_word word is)

pub same_text_as_itself : (text : List ℕ) → same text text ≡ true
same_text_as_itself [] = refl
same_text_as_itself (c ∷ cs) = let first : (c == c) ≡ true = grind (arith, nat_tests) in ap (λ b. b && same cs cs) first ∙ same_text_as_itself cs

-- ---- an outcome's word

numbers_begin : (numbers : List ℕ) → (numbers_text numbers ≡ []) ⊎ ((rest : List ℕ) × (numbers_text numbers ≡ 32 ∷ rest))
numbers_begin [] = inl refl
numbers_begin (n ∷ numbers) = inr (_, refl)

parts_begin : (rules : Rules) (outcome : Outcome) → (outcome_parts rules outcome ≡ []) ⊎ ((rest : List ℕ) × (outcome_parts rules outcome ≡ 32 ∷ rest))
unfolding outcome_parts
parts_begin rules (said.Took number entry) = inr (_, refl)
parts_begin rules (said.NoBody from req) = inr (_, refl)
parts_begin rules (said.Newer promise) = inr (_, refl)
parts_begin rules (said.Waiting names) = inr (_, refl)
parts_begin rules (said.Fetching from want) = inr (_, refl)
parts_begin rules (said.Overtaken by) = inr (_, refl)
parts_begin rules (said.NotIn best) = inr (_, refl)
parts_begin rules (said.Decided number members) = inr (_, refl)
parts_begin rules (said.Occupied name) = inr (_, refl)
parts_begin rules outcome = numbers_begin (outcome_numbers outcome)

-- it stands alone, or before a blank
outcome_words : (rules : Rules) (outcome : Outcome) → (two_of (outcome_text rules outcome) ≡ Err Form)
    ⊎ ((rest : List ℕ) × (two_of (outcome_text rules outcome) ≡ Ok (outcome_word outcome, rest)))
unfolding outcome_text
outcome_words rules outcome = ⊎_elim
    (λ none. inl (ap (λ ps. two_of (outcome_word outcome ++ ps)) none ∙ ap two_of (append-nil (outcome_word outcome))
    ∙ one_word (outcome_word outcome) (outcome_is_word outcome)))
    (λ some. inr (some.0, ap (λ ps. two_of (outcome_word outcome ++ ps)) some.1 ∙ two_of_word_and_rest (outcome_word outcome) some.0 (outcome_is_word outcome)))
    (parts_begin rules outcome)

-- ---- what fails

fails_then : {A B : Type 0} (r : Result A FieldFault) (next : A → Result B FieldFault) → ((x : A) → IsErr (next x)) → IsErr (and_then r next)
fails_then (Ok x) next h = h x
fails_then (Err fault) next h = refl

fails_first : {A B : Type 0} (r : Result A FieldFault) (next : A → Result B FieldFault) → IsErr r → IsErr (and_then r next)
fails_first (Ok x) next h = cc
fails_first (Err fault) next h = refl

-- another word fails
other_word : {B : Type 0} (word : List ℕ) (rules : Rules) (outcome : Outcome) (next : List ℕ → Result B FieldFault) → same (outcome_word outcome) word ≡ false
    → IsErr (and_then (two_of (outcome_text rules outcome)) (λ told. and_then (expect word told.0) (λ checked. next told.1)))
other_word {B} word rules outcome next other =
    let on : List ℕ × List ℕ → Result B FieldFault = λ told. and_then (expect word told.0) (λ checked. next told.1) in
    ⊎_elim
    (λ none. subst (λ r. IsErr (and_then r on)) (sym none) refl)
    (λ some. subst (λ r. IsErr (and_then r on)) (sym some.1)
    (subst (λ b. IsErr (and_then (cond b (Ok tt) (Err Form)) (λ checked. next some.0))) (sym other) refl))
    (outcome_words rules outcome)

-- another word after a place fails
other_behind : {B : Type 0} (word : List ℕ) (rules : Rules) (outcome : Outcome) (rest : List ℕ) (next : ℕ → List ℕ → Result B FieldFault)
    → same (outcome_word outcome) word ≡ false → IsErr (and_then (number_up_to 15 rest) (λ place.
    and_then (two_of (outcome_text rules outcome)) (λ told. and_then (expect word told.0) (λ checked. next place told.1))))
other_behind word rules outcome rest next other = fails_then (number_up_to 15 rest) _ (λ place. other_word word rules outcome (next place) other)

-- what fails doesn't count
nothing : {A : Type 0} (s : Reading) (count : Result A FieldFault → Reading) → ((fault : FieldFault) → count (Err fault) ≡ s) → (r : Result A FieldFault)
    → IsErr r → count r ≡ s
nothing s count none (Ok x) h = cc
nothing s count none (Err fault) h = none fault

-- ---- sends

send_none : (rules : Rules) (rest : List ℕ) (outcome : Outcome) → same (outcome_word outcome) (codes "queued") ≡ false
    → IsErr (send_of rest (outcome_text rules outcome))
unfolding send_of told_number
send_none rules rest outcome other =
    fails_then (two_of rest) _ (λ first. fails_then (number_up_to 15 first.0) _ (λ place. fails_then (is_body first.1) _ (λ checked.
    fails_first (told_number (codes "queued") (outcome_text rules outcome)) _ (other_word (codes "queued") rules outcome number_in_text other))))

send_read : (rules : Rules) (place : ℕ) (body : List ℕ) (req : ℕ) → place ≤ 15 → IsBytes body → length body ≤ most_bytes_of_body → req ≤ greatest_number
    → send_of (decimal place ++ 32 ∷ body_text body) (outcome_text rules (said.Queued req)) ≡ Ok (place, req, body_text body)
unfolding send_of told_number outcome_text outcome_parts outcome_word
send_read rules place body req low bytes few within =
    rw (
      two_of_word_and_rest (decimal place) (body_text body) (decimal_is_word place),
      number_up_to_decimal 15 place low (lit< tt),
      bytes_of_body_text most_bytes_of_body body bytes few,
      append-nil (decimal req),
      number_up_to_decimal greatest_number req within (lit< tt),
    ) refl

-- the request is a number
abbrev pub QueuedRequestIsNumber : Outcome → Type 0
QueuedRequestIsNumber (said.Queued req) = req ≤ greatest_number
QueuedRequestIsNumber _ = Unit {0}

send_counts : (rules : Rules) (s : Reading) (place : ℕ) (body : List ℕ) (outcome : Outcome) → place ≤ 15 → IsBytes body → length body ≤ most_bytes_of_body
    → QueuedRequestIsNumber outcome → with_send s (send_of (decimal place ++ 32 ∷ body_text body) (outcome_text rules outcome))
    ≡ record s { sends = s.sends ++ queued_as (slice_index s.names place) body outcome }
unfolding outcome_word
send_counts rules s place body (said.Queued req) low bytes few within = ap (with_send s) (send_read rules place body req low bytes few within)
send_counts rules s place body outcome low bytes few within =
    nothing s (with_send s) (λ fault. refl) _ (send_none rules (decimal place ++ 32 ∷ body_text body) outcome refl) ∙ (λ i. record s { sends = sym (append-nil s.sends) i })

-- ---- answers

answer_none : (rules : Rules) (rest : List ℕ) (outcome : Outcome) → same (outcome_word outcome) (codes "sent") ≡ false
    → IsErr (answer_fields_of rest (outcome_text rules outcome))
unfolding answer_fields_of
answer_none rules rest outcome other =
    fails_then (two_of rest) _ (λ first. fails_then (number_up_to 15 first.0) _ (λ place. fails_then (number_in_text first.1) _ (λ asked.
    other_word (codes "sent") rules outcome
    (λ behind. and_then (two_of behind) (λ last. and_then (expect first.1 last.0) (λ again. and_then (number_in_text last.1) (λ number. Ok (place, asked, number)))))
    other)))

answer_read : (rules : Rules) (place asked number : ℕ) → place ≤ 15 → asked ≤ greatest_number → number ≤ greatest_number
    → answer_fields_of (decimal place ++ 32 ∷ decimal asked) (outcome_text rules (said.Sent asked number)) ≡ Ok (place, asked, number)
unfolding answer_fields_of outcome_text outcome_parts outcome_word
answer_read rules place asked number low within high =
    rw (
      two_of_word_and_rest (decimal place) (decimal asked) (decimal_is_word place),
      number_up_to_decimal 15 place low (lit< tt),
      number_up_to_decimal greatest_number asked within (lit< tt),
      append-nil (decimal number),
      two_of_word_and_rest (decimal asked) (decimal number) (decimal_is_word asked),
      same_text_as_itself (decimal asked),
      number_up_to_decimal greatest_number number high (lit< tt),
    ) refl

-- it answers what was asked
abbrev pub OutcomeAnswersRequest : ℕ → Outcome → Type 0
OutcomeAnswersRequest asked (said.Sent req number) = (asked ≡ req) × (req ≤ greatest_number) × (number ≤ greatest_number)
OutcomeAnswersRequest asked _ = Unit {0}

answer_counts : (rules : Rules) (s : Reading) (place asked : ℕ) (outcome : Outcome) → place ≤ 15 → OutcomeAnswersRequest asked outcome
    → with_sent_answer s (answer_fields_of (decimal place ++ 32 ∷ decimal asked) (outcome_text rules outcome))
    ≡ record s { answers = s.answers ++ sent_as (slice_index s.names place) outcome }
unfolding outcome_word
answer_counts rules s place asked (said.Sent req number) low fits =
    ap (λ a. with_sent_answer s (answer_fields_of (decimal place ++ 32 ∷ decimal a) (outcome_text rules (said.Sent req number)))) fits.0
    ∙ ap (with_sent_answer s) (answer_read rules place req number low fits.1 fits.2)
answer_counts rules s place asked outcome low fits =
    nothing s (with_sent_answer s) (λ fault. refl) _ (answer_none rules (decimal place ++ 32 ∷ decimal asked) outcome refl) ∙ (λ i. record s { answers = sym (append-nil s.answers) i })

-- ---- takes

take_none : (rules : Rules) (rest : List ℕ) (outcome : Outcome) → same (outcome_word outcome) (codes "took") ≡ false
    → IsErr (take_of rest (outcome_text rules outcome))
unfolding take_of
take_none rules rest outcome other = other_behind (codes "took") rules outcome rest
    (λ place behind. and_then (two_of behind) (λ last. and_then (number_in_text last.0) (λ number. and_then (outline_of last.1) (λ entry. Ok (place, number, last.1)))))
    other

-- an entry that is read
abbrev pub EntryTextIsRead : Rules → Entry → Type 0
EntryTextIsRead rules entry = (outline : Outline) × (outline_of (entry_text rules entry) ≡ Ok outline)

take_read : (rules : Rules) (place number : ℕ) (entry : Entry) → place ≤ 15 → number ≤ greatest_number → EntryTextIsRead rules entry
    → take_of (decimal place) (outcome_text rules (said.Took number entry)) ≡ Ok (place, number, entry_text rules entry)
unfolding take_of outcome_text outcome_parts outcome_word
take_read rules place number entry low within read =
    rw (
      number_up_to_decimal 15 place low (lit< tt),
      two_of_word_and_rest (decimal number) (entry_text rules entry) (decimal_is_word number),
      number_up_to_decimal greatest_number number within (lit< tt),
      read.1,
    ) refl

abbrev pub TakenEntryIsRead : Rules → Outcome → Type 0
TakenEntryIsRead rules (said.Took number entry) = (number ≤ greatest_number) × EntryTextIsRead rules entry
TakenEntryIsRead rules _ = Unit {0}

take_counts : (rules : Rules) (s : Reading) (place : ℕ) (outcome : Outcome) → place ≤ 15 → TakenEntryIsRead rules outcome
    → with_take s (take_of (decimal place) (outcome_text rules outcome)) ≡ record s { takes = s.takes ++ took_as rules (slice_index s.names place) outcome }
unfolding outcome_word
take_counts rules s place (said.Took number entry) low fits = ap (with_take s) (take_read rules place number entry low fits.0 fits.1)
take_counts rules s place outcome low fits =
    nothing s (with_take s) (λ fault. refl) _ (take_none rules (decimal place) outcome refl) ∙ (λ i. record s { takes = sym (append-nil s.takes) i })

-- ---- returns

return_none : (rules : Rules) (rest : List ℕ) (outcome : Outcome) → same (outcome_word outcome) (codes "returned") ≡ false
    → IsErr (return_of rest (outcome_text rules outcome))
unfolding return_of
return_none rules rest outcome other = other_behind (codes "returned") rules outcome rest
    (λ place behind. and_then (number_up_to 16 behind) (λ life. cond (life == 0) (Err Form) (Ok (place, name_of_place_and_life place life)))) other

return_read : (rules : Rules) (place life : ℕ) → place ≤ 15 → 0 < life → life ≤ 16
    → return_of (decimal place) (outcome_text rules (said.Returned life)) ≡ Ok (place, name_of_place_and_life place life)
unfolding return_of outcome_text outcome_parts outcome_word
return_read rules place life low some most =
    let other : (life == 0) ≡ false = grind (arith, nat_tests) in
    rw (number_up_to_decimal 15 place low (lit< tt), append-nil (decimal life), number_up_to_decimal 16 life most (lit< tt), other) refl

return_counts : (rules : Rules) (s : Reading) (place : ℕ) (outcome : Outcome) → place ≤ 15 → HasLife outcome
    → with_return s (return_of (decimal place) (outcome_text rules outcome)) ≡ record s { names = returned_as s.names place outcome }
unfolding outcome_word
return_counts rules s place (said.Returned life) low fits = ap (with_return s) (return_read rules place life low fits.0 fits.1)
return_counts rules s place outcome low fits = nothing s (with_return s) (λ fault. refl) _ (return_none rules (decimal place) outcome refl)

-- ---- events

-- what an event leaves
abbrev pub reading_after_event : Rules → Reading → ℕ → Act → Outcome → Reading
reading_after_event rules s place act outcome = record s {
  names = names_after s.names place act outcome;
  sends = s.sends ++ send_lines_in (slice_index s.names place) act outcome;
  answers = s.answers ++ line_answers_in (slice_index s.names place) act outcome;
  takes = s.takes ++ take_in rules (slice_index s.names place) act outcome;
}

-- what counts is within its limits
abbrev pub CountedActIsWithinLimits : Rules → Act → Outcome → Type 0
CountedActIsWithinLimits rules (acts.Send body) outcome = IsBytes body × (length body ≤ most_bytes_of_body) × QueuedRequestIsNumber outcome
CountedActIsWithinLimits rules (acts.Done req) outcome = OutcomeAnswersRequest req outcome
CountedActIsWithinLimits rules acts.Take outcome = TakenEntryIsRead rules outcome
CountedActIsWithinLimits rules acts.Return outcome = HasLife outcome
CountedActIsWithinLimits rules _ outcome = Unit {0}

pub counted_event_gives_reading : (rules : Rules) (s : Reading) (place : ℕ) (act : Act) (outcome : Outcome) → place ≤ 15 → CountedActIsWithinLimits rules act outcome
    → counted s (Ok (act_word act, decimal place ++ act_parts rules act)) (outcome_text rules outcome) ≡ reading_after_event rules s place act outcome
unfolding counted act_word act_parts
counted_event_gives_reading rules s place (acts.Send body) outcome low fits =
    send_counts rules s place body outcome low fits.0 fits.1 fits.2
    ∙ (λ i. record s {
      sends = s.sends ++ queued_as (slice_index s.names place) body outcome;
      answers = sym (append-nil s.answers) i;
      takes = sym (append-nil s.takes) i;
    })
counted_event_gives_reading rules s place (acts.Done req) outcome low fits =
    answer_counts rules s place req outcome low fits
    ∙ (λ i. record s {
      sends = sym (append-nil s.sends) i;
      answers = s.answers ++ sent_as (slice_index s.names place) outcome;
      takes = sym (append-nil s.takes) i;
    })
counted_event_gives_reading rules s place acts.Take outcome low fits =
    ap (λ rest. with_take s (take_of rest (outcome_text rules outcome))) (append-nil (decimal place))
    ∙ take_counts rules s place outcome low fits
    ∙ (λ i. record s {
      sends = sym (append-nil s.sends) i;
      answers = sym (append-nil s.answers) i;
      takes = s.takes ++ took_as rules (slice_index s.names place) outcome;
    })
counted_event_gives_reading rules s place acts.Return outcome low fits =
    ap (λ rest. with_return s (return_of rest (outcome_text rules outcome))) (append-nil (decimal place))
    ∙ return_counts rules s place outcome low fits
    ∙ (λ i. record s {
      names = returned_as s.names place outcome;
      sends = sym (append-nil s.sends) i;
      answers = sym (append-nil s.answers) i;
      takes = sym (append-nil s.takes) i;
    })
counted_event_gives_reading rules s place _ outcome low fits =
    λ i. record s { sends = sym (append-nil s.sends) i; answers = sym (append-nil s.answers) i; takes = sym (append-nil s.takes) i }
