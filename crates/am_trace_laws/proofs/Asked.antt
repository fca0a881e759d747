-- Each send of the list was asked for, as it is read.
use Rattle.am_trace_laws.proofs.Words.{◌≡◌, ℕ, zero, suc, ◌+◌, ◌==◌, ◌&&◌, Bool, true, false, if◌then◌else◌, List, [], ◌∷◌, ◌++◌, length, refl, sym, ap, ◌∙◌}
use Rattle.am_trace_laws.proofs.Words.{arith, subst, Some, None, slice_get, All, option_map, range_with_len, slice_get-map, and_parts, and_from, nat_tests}
use Rattle.am_trace_laws.proofs.Words.{All-head, All-tail, Rules, Entry, split_on_bool, Record, acting_name_of_record, body_text, IsSend, Line, or_else, first_asked, body_at, is_text}
use Rattle.am_trace_laws.proofs.Words.{unsent_at, first_unsent, lines_of, IsSayable, send_lines_in, sends_of, entry_texts_of}
use Rattle.am_trace_laws.proofs.{Outcomes.same_text_as_itself, Entries.data_of_entry_as_read, Entries.data_in_entry_text, Sends.numbers_of_name_in_lines}
use Rattle.am_base.specs.declared.entry.Entry.TheVariants as entries
use Rattle.am_base.specs.declared.outcome.Outcome.TheVariants as said
use Rattle.am_group.specs.declared.event.Act.TheVariants as acts
use Rattle.am_audit_defs.specs.declared.verdict.Verdict.TheVariants as verdicts
use Rattle.am_group.proofs.Places.{slice_get_of_append_back}

-- a line is this send
pub record LineIsOfSend (line : Line) (from req : ℕ) : Type 0 where
  pub name : line.name ≡ from
  pub number : line.number ≡ req

abbrev asked_test : ℕ → ℕ → Line → Bool
asked_test from req line = (line.name == from) && (line.number == req)

passes : (from req : ℕ) (line : Line) → LineIsOfSend line from req → asked_test from req line ≡ true
passes from req line is =
    let a = is.name in
    let b = is.number in
    and_from (line.name == from) (line.number == req) (grind (arith, nat_tests)) (grind (arith, nat_tests))

passed : (from req : ℕ) (line : Line) → asked_test from req line ≡ true → LineIsOfSend line from req
passed from req line t =
    let parts = and_parts (line.name == from) (line.number == req) t in
    let a = parts.0 in
    let b = parts.1 in
    record { name = grind (arith, nat_tests); number = grind (arith, nat_tests) }

-- the first line of a send, where there is one
record Found (at from req : ℕ) (sends : List Line) : Type 0 where
  index : ℕ
  line : Line
  first : first_asked at from req sends ≡ Some (at + index)
  there : slice_get sends index ≡ Some line
  is : LineIsOfSend line from req

found_later : (at from req : ℕ) (x : Line) (xs : List Line) (j : ℕ) (line : Line)
    → ((i : ℕ) → slice_get xs i ≡ Some line → Found (at + 1) from req xs) → slice_get (x ∷ xs) j ≡ Some line → LineIsOfSend line from req
    → asked_test from req x ≡ false → Found at from req (x ∷ xs)
found_later at from req x xs zero line rest here is f = absurd (
    let same : x ≡ line = cc in
    let t : asked_test from req x ≡ true = passes from req x (subst (λ (l : Line). LineIsOfSend l from req) (sym same) is) in
    let no : true ≡ false = sym t ∙ f in cc)
found_later at from req x xs (suc j) line rest here is f =
    let found = rest j here in
    record {
      index = suc found.index;
      line = found.line;
      first = ap (λ b. if b then Some at else first_asked (at + 1) from req xs) f ∙ found.first ∙ ap (λ (n : ℕ). Some n) (omega arith);
      there = found.there;
      is = found.is;
    }

first_found : (at from req : ℕ) (sends : List Line) (k : ℕ) (line : Line) → slice_get sends k ≡ Some line → LineIsOfSend line from req → Found at from req sends
first_found at from req [] k line there is = absurd (cc)
first_found at from req (x ∷ xs) k line there is = split_on_bool (asked_test from req x)
    (λ t. record {
      index = 0;
      line = x;
      first = ap (λ b. if b then Some at else first_asked (at + 1) from req xs) t ∙ ap (λ (n : ℕ). Some n) (omega arith);
      there = refl;
      is = passed from req x t;
    })
    (λ f. found_later at from req x xs k line (λ i here. first_found (at + 1) from req xs i line here is) there is f)

-- ---- requests in turn

range_at : (a n i x : ℕ) → slice_get (range_with_len a n) i ≡ Some x → x ≡ a + i
range_at a zero i x is = absurd (cc)
range_at a (suc n) zero x is = let same : a ≡ x = cc in omega arith
range_at a (suc n) (suc i) x is = let rest = range_at (a + 1) n i x is in omega arith

filtered_at : (name : ℕ) (lines : List Line) (k : ℕ) (line : Line) → slice_get lines k ≡ Some line → line.name ≡ name
    → (i : ℕ) × (slice_get (lines_of name lines) i ≡ Some line)
filtered_at name [] k line there is = absurd (cc)
filtered_at name (x ∷ xs) zero line there is =
    let same : x ≡ line = cc in
    let named : x.name ≡ name = ap (λ (l : Line). l.name) same ∙ is in
    let test : (x.name == name) ≡ true = grind (arith, nat_tests) in
    (0, ap (λ b. slice_get (if b then x ∷ lines_of name xs else lines_of name xs) 0) test ∙ there)
filtered_at name (x ∷ xs) (suc k) line there is =
    let rest = filtered_at name xs k line there is in
    split_on_bool (x.name == name)
    (λ t. (suc rest.0, ap (λ b. slice_get (if b then x ∷ lines_of name xs else lines_of name xs) (suc rest.0)) t ∙ rest.1))
    (λ f. (rest.0, ap (λ b. slice_get (if b then x ∷ lines_of name xs else lines_of name xs) rest.0) f ∙ rest.1))

-- each name's requests are 1, 2, 3 and so on
abbrev pub LineRequestsInTurn : List Line → Type 0
LineRequestsInTurn lines = (name : ℕ) → numbers_of_name_in_lines name lines ≡ range_with_len 1 (length (numbers_of_name_in_lines name lines))

number_there : (name : ℕ) (lines : List Line) (i : ℕ) (line : Line) → LineRequestsInTurn lines → slice_get (lines_of name lines) i ≡ Some line → line.number ≡ 1 + i
number_there name lines i line turn is =
    let at : slice_get (numbers_of_name_in_lines name lines) i ≡ Some line.number =
    slice_get-map (λ (l : Line). l.number) (lines_of name lines) i ∙ ap (option_map (λ (l : Line). l.number)) is in
    range_at 1 (length (numbers_of_name_in_lines name lines)) i line.number (ap (λ ns. slice_get ns i) (sym (turn name)) ∙ at)

-- two lines of one send are one
one_line : (lines : List Line) (j k from req : ℕ) (x y : Line) → LineRequestsInTurn lines → slice_get lines j ≡ Some x → slice_get lines k ≡ Some y → LineIsOfSend x from req
    → LineIsOfSend y from req → x ≡ y
one_line lines j k from req x y turn a b h l =
    let p = filtered_at from lines j x a h.name in
    let q = filtered_at from lines k y b l.name in
    let m = number_there from lines p.0 x turn p.1 in
    let n = number_there from lines q.0 y turn q.1 in
    let c = h.number in
    let d = l.number in
    let same_index : p.0 ≡ q.0 = omega arith in
    let same_line : Some x ≡ Some y = sym p.1 ∙ ap (slice_get (lines_of from lines)) same_index ∙ q.1 in
    cc

-- ---- the list

-- a send was asked for with this body
pub record SendWasAskedInLines (sends : List Line) (from req : ℕ) (body : List ℕ) : Type 0 where
  pub index : ℕ
  pub line : Line
  pub there : slice_get sends index ≡ Some line
  pub is : LineIsOfSend line from req
  pub text : line.text ≡ body_text body

abbrev EntryAsked : List Line → Entry → Type 0
EntryAsked sends (entries.Data from req body) = SendWasAskedInLines sends from req body
EntryAsked sends _ = Unit {0}

asked_none : (sends : List Line) (e : Entry) → LineRequestsInTurn sends → EntryAsked sends e → unsent_at sends (data_of_entry_as_read e) ≡ None
asked_none sends (entries.Data from req body) turn asked =
    let found = first_found 0 from req sends asked.index asked.line asked.there asked.is in
    let same_line = one_line sends found.index asked.index from req found.line asked.line turn found.there asked.there found.is asked.is in
    let at : 0 + found.index ≡ found.index = omega arith in
    let text : body_at sends (first_asked 0 from req sends) ≡ Some (body_text body) =
    ap (body_at sends) (found.first ∙ ap (λ (n : ℕ). Some n) at) ∙ ap (option_map (λ (l : Line). l.text)) found.there
    ∙ ap (λ (l : Line). Some l.text) same_line ∙ ap (λ t. Some t) asked.text in
    ap (λ b. if b then None else Some (verdicts.Unsent from req)) (ap (λ o. is_text o (body_text body)) text ∙ same_text_as_itself (body_text body))
asked_none sends _ turn asked = refl

abbrev pub EntriesWereAskedInLines : List Line → List Entry → Type 0
EntriesWereAskedInLines sends [] = Unit {0}
EntriesWereAskedInLines sends (e ∷ es) = EntryAsked sends e × EntriesWereAskedInLines sends es

pub first_unsent_of_asked_entries : (rules : Rules) (sends : List Line) (es : List Entry) → LineRequestsInTurn sends → All IsSayable es → EntriesWereAskedInLines sends es
    → first_unsent sends (entry_texts_of rules es) ≡ None
first_unsent_of_asked_entries rules sends [] turn say asked = refl
first_unsent_of_asked_entries rules sends (e ∷ es) turn say asked =
    ap (λ o. or_else o (first_unsent sends (entry_texts_of rules es)))
    (ap (unsent_at sends) (data_in_entry_text rules e (All-head IsSayable e es say)) ∙ asked_none sends e turn asked.0)
    ∙ first_unsent_of_asked_entries rules sends es turn (All-tail IsSayable e es say) asked.1

-- ---- of a run

-- an item of a list is there when more stands before it
behind : (front sends : List Line) (from req : ℕ) (body : List ℕ) → SendWasAskedInLines sends from req body → SendWasAskedInLines (front ++ sends) from req body
behind front sends from req body h = record {
  index = length front + h.index;
  line = h.line;
  there = slice_get_of_append_back front sends h.index ∙ h.there;
  is = h.is;
  text = h.text;
}

sent_line : (r : Record) (from req : ℕ) (body : List ℕ) → IsSend r from req body → send_lines_in (acting_name_of_record r) r.event.act r.outcome
    ≡ record { name = from; number = req; text = body_text body } ∷ []
sent_line r from req body is =
    ap (λ a. send_lines_in (acting_name_of_record r) a r.outcome) is.asked ∙ ap (λ o. send_lines_in (acting_name_of_record r) (acts.Send body) o) is.answered
    ∙ ap (λ (n : ℕ). send_lines_in n (acts.Send body) (said.Queued req)) is.by

-- a send among the records is among the lines
pub recorded_send_was_asked : (records : List Record) (k : ℕ) (r : Record) (from req : ℕ) (body : List ℕ) → slice_get records k ≡ Some r → IsSend r from req body
    → SendWasAskedInLines (sends_of records) from req body
recorded_send_was_asked [] k r from req body there is = absurd (cc)
recorded_send_was_asked (x ∷ xs) zero r from req body there is =
    let same : x ≡ r = cc in
    let one = sent_line x from req body (subst (λ (y : Record). IsSend y from req body) (sym same) is) in
    subst (λ (l : List Line). SendWasAskedInLines (l ++ sends_of xs) from req body) (sym one) (record {
      index = 0;
      line = record { name = from; number = req; text = body_text body };
      there = refl;
      is = record { name = refl; number = refl };
      text = refl;
    })
recorded_send_was_asked (x ∷ xs) (suc k) r from req body there is =
    behind (send_lines_in (acting_name_of_record x) x.event.act x.outcome) (sends_of xs) from req body (recorded_send_was_asked xs k r from req body there is)

pub all_entries_were_asked : (sends : List Line) (es : List Entry)
    → ((k from req : ℕ) (body : List ℕ) → slice_get es k ≡ Some (entries.Data from req body) → SendWasAskedInLines sends from req body) → EntriesWereAskedInLines sends es
all_entries_were_asked sends [] each = tt
all_entries_were_asked sends (e ∷ es) each = (one e (λ from req body is. each 0 from req body is), all_entries_were_asked sends es (λ k from req body at. each (suc k) from req body at))
  where
    one : (x : Entry) → ((from req : ℕ) (body : List ℕ) → Some x ≡ Some (entries.Data from req body) → SendWasAskedInLines sends from req body) → EntryAsked sends x
    one (entries.Data from req body) h = h from req body refl
    one (entries.Join name) h = tt
    one (entries.Leave name) h = tt
    one (entries.View v) h = tt
