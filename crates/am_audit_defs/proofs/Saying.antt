-- Each verdict says what holds.
use Rattle.std.proofs.Common.{◌≡◌, ◌≢◌, ℕ, zero, suc, ◌+◌, ◌<◌, ◌≤◌, ◌==◌, ◌&&◌, nat_le, nat_lt, List, [], ◌∷◌, ◌++◌, length, take, map, Option, Some, None}
use Rattle.std.proofs.Common.{slice_get, Result, Ok, Err, Bool, true, false, cond, refl, sym, subst, ap, ◌∙◌, arith, ◌⊎◌, inl, inr, length-append}
use Rattle.std.proofs.lemmas.List.{length-map, map-append}
use Rattle.std.specs.Prelude.{unwrap_or, option_map}
use Rattle.std.proofs.lemmas.Bool.{eq-eqb, eqb-true}
use Rattle.std.proofs.lemmas.Bool.Decides.{nat_tests}
use Rattle.std.proofs.lemmas.Slice.Eq.{bytes_eq-Decides}
use Rattle.am_base.specs.Most.{greatest_number}
use Rattle.am_base.specs.Names.{has}
use Rattle.am_base.specs.Lists.{blank, after, fits, image_after_entries}
use Rattle.am_base.specs.declared.image.Image.{Image}
use Rattle.am_group.specs.Journals.{item_at}
use Rattle.am_text_defs.specs.declared.fault.FieldFault.{FieldFault}
use Rattle.am_text_defs.specs.Fields.{same}
use Rattle.am_audit_defs.specs.declared.verdict.Verdict.{Verdict}
use Rattle.am_audit_defs.specs.declared.verdict.Verdict.TheVariants as verdicts
use Rattle.am_audit_defs.specs.declared.outline.Outline.{Outline}
use Rattle.am_audit_defs.specs.declared.outline.Outline.TheVariants as outlines
use Rattle.am_audit_defs.specs.declared.line.AnsweredSend.{AnsweredSend}
use Rattle.am_audit_defs.specs.Fields.{outline_of, data_in, is_send}
use Rattle.am_audit_defs.specs.Lines.{Line, Reading}
use Rattle.am_audit_defs.specs.Verdicts.{or_else, last_of, first_with, first_sent, gap_at, differs_at, twice_by, twice_at, fault_at, first_fault, is_text}
use Rattle.am_audit_defs.specs.Verdicts.{astray_at, first_astray, once_more, stands, is_at, lost_at, first_lost, may_begin, early_at, first_early, bare_entry}
use Rattle.am_audit_defs.specs.Verdicts.{founds, fits_at, image_after, first_asked, body_at, unsent_at, first_unsent, first_misfit, skipped_at, first_skipped, is_line, unlogged_at, first_unlogged, untaken_at}
use Rattle.am_audit_defs.specs.Verdicts.{first_untaken, lines_of, count_of, wrong_lists, wrong_events, verdict_of}
use Rattle.am_audit_defs.specs.Agreement.{LogBegins, StandsAlone, IsSentAt, Lists}
use Rattle.am_audit_defs.specs.Meanings.{IsLast, HasNone, IsFirst, IsLine, LineHasSend, MayStand, VerdictSays}
use Rattle.am_base.proofs.Folds.{fold_append}
use Rattle.am_audit_defs.proofs.Segments.{LinesRunFromNumber}
use Rattle.am_audit_defs.proofs.Meaning.{both_conditions_of_and, is_send_finds_body, is_send_of_read_send, item_at_has_index, lists_not_wrong_list}
use Rattle.am_audit_defs.proofs.Deeds.{requests_run_in_turn, events_not_wrong_agree}
use Rattle.am_audit_defs.proofs.Founders.{founding_view_founds}
use Rattle.am_audit_defs.proofs.Prefixes.{not_equal_numbers_differ, LastBeforeIsFound, FirstBeforeIsFound, SentBeforeIsFound, LinesAreBeforePlace, line_at_place_is_next, no_line_is_before_first, line_is_before_next_place}

-- a verdict that is found by a test
abbrev Found : Reading → Option Verdict → Type 0
Found s None = Unit {0}
Found s (Some verdict) = VerdictSays s verdict

found_or : (s : Reading) (o p : Option Verdict) → Found s o → Found s p → Found s (or_else o p)
found_or s None p first second = second
found_or s (Some verdict) p first second = first

found_then : (s : Reading) (o p : Option Verdict) → Found s o → (o ≡ None → Found s p) → Found s (or_else o p)
found_then s None p first second = second refl
found_then s (Some verdict) p first second = first

found_if : (s : Reading) (b : Bool) (verdict : Verdict) → (b ≡ false → VerdictSays s verdict) → Found s (cond b None (Some verdict))
found_if s true verdict says = tt
found_if s false verdict says = says refl

is_line_at : (all : List Line) (place : ℕ) (line : Line) → slice_get all place ≡ Some line → IsLine all place line.name line.number line
is_line_at all place line there = record { there = there; named = refl; numbered = refl }

-- ---- faults

gap_found : (s : Reading) (place : ℕ) (line : Line) (o : Option ℕ) → slice_get s.logs place ≡ Some line → LastBeforeIsFound s.logs place line.name o → Found s (gap_at o line)
gap_found s place line None there last = tt
gap_found s place line (Some number) there last = found_if s (number + 1 == line.number) (verdicts.Gap line.name line.number)
    (λ is. (place, number, line, is_line_at s.logs place line there, last, not_equal_numbers_differ (number + 1) line.number is))

other_text : (found text : List ℕ) → same found text ≡ false → found ≢ text
other_text found text is equal = let yes = (bytes_eq-Decides found text).1 equal in cc

differs_found : (s : Reading) (place : ℕ) (line : Line) (o : Option Line) → slice_get s.logs place ≡ Some line
    → FirstBeforeIsFound s.logs place (λ other. other.number ≡ line.number) o → Found s (differs_at o line)
differs_found s place line None there first = tt
differs_found s place line (Some found) there first = found_if s (same found.text line.text) (verdicts.Differs found.name line.name line.number)
    (λ is. (place, line, found, is_line_at s.logs place line there, first, refl, other_text found.text line.text is))

by_found : (s : Reading) (place from req : ℕ) (line : Line) (o : Option ℕ) → slice_get s.logs place ≡ Some line → LineHasSend from req line
    → SentBeforeIsFound s.logs place from req o → Found s (twice_by o from req line.number)
by_found s place from req line None there has sent = tt
by_found s place from req line (Some number) there has sent = found_if s (number == line.number) (verdicts.Twice from req)
    (λ is. (place, line, sent.0, there, has, sent.1, λ equal. not_equal_numbers_differ number line.number is (sym sent.2 ∙ equal)))

twice_found : (s : Reading) (place : ℕ) (before : List Line) (line : Line) (sent : Result (ℕ × ℕ × List ℕ) FieldFault) → slice_get s.logs place ≡ Some line
    → data_in line.text ≡ sent → ((from req : ℕ) → SentBeforeIsFound s.logs place from req (first_sent from req before)) → Found s (twice_at before sent line.number)
twice_found s place before line (Err fault) there is sents = tt
twice_found s place before line (Ok sent) there is sents =
    by_found s place sent.0 sent.1 line (first_sent sent.0 sent.1 before) there (sent.2, is) (sents sent.0 sent.1)

fault_found : (s : Reading) (place : ℕ) (before lines : List Line) → LinesAreBeforePlace s.logs place before lines → Found s (first_fault before lines)
fault_found s place before [] at = tt
fault_found s place before (line ∷ lines) at =
    let there = line_at_place_is_next s.logs place before line lines at in
    found_or s (fault_at before line) (first_fault (line ∷ before) lines)
    (found_or s (gap_at (last_of line.name before) line) (or_else (differs_at (first_with line.number before) line) (twice_at before (data_in line.text) line.number))
    (gap_found s place line (last_of line.name before) there (at.lasts line.name))
    (found_or s (differs_at (first_with line.number before) line) (twice_at before (data_in line.text) line.number)
    (differs_found s place line (first_with line.number before) there (at.firsts line.number))
    (twice_found s place before line (data_in line.text) there refl at.sents)))
    (fault_found s (place + 1) (line ∷ before) lines (line_is_before_next_place s.logs place before line lines at))

-- ---- what the list hasn't

text_there : (o : Option (List ℕ)) (text : List ℕ) → is_text o text ≡ false → o ≢ Some text
text_there None text is equal = cc
text_there (Some found) text is equal = let alike : found ≡ text = cc in other_text found text is alike

astray_found : (s : Reading) (place : ℕ) (lines : List Line) → ((k : ℕ) → slice_get s.logs (place + k) ≡ slice_get lines k) → Found s (first_astray s.group lines)
astray_found s place [] at = tt
astray_found s place (line ∷ lines) at =
    let there : slice_get s.logs place ≡ Some line = let equal : place ≡ place + 0 = omega arith in ap (slice_get s.logs) equal ∙ at 0 in
    found_or s (astray_at s.group line) (first_astray s.group lines)
    (found_if s (is_text (item_at s.group line.number) line.text) (verdicts.Astray line.name line.number)
    (λ is. (place, line, is_line_at s.logs place line there, text_there (item_at s.group line.number) line.text is)))
    (astray_found s (place + 1) lines (λ k. let equal : place + 1 + k ≡ place + suc k = omega arith in ap (slice_get s.logs) equal ∙ at (suc k)))

-- ---- answered sends

-- a send is an item of texts
abbrev IsSent : ℕ → ℕ → List (List ℕ) → ℕ → Type 0
IsSent from req texts k = (text body : List ℕ) × (slice_get texts k ≡ Some text) × (data_in text ≡ Ok (from, req, body))

-- where a send stands in texts of numbers from one on: it isn't elsewhere, and where there are several, there are two
abbrev StandsBy : ℕ → ℕ → ℕ → List (List ℕ) → Option (Option ℕ) → Type 0
StandsBy number from req texts None = (k : ℕ) → IsSent from req texts k → ⊥
StandsBy number from req texts (Some None) = (j k : ℕ) × (j < k) × IsSent from req texts j × IsSent from req texts k
StandsBy number from req texts (Some (Some n)) = (k : ℕ) × (n ≡ number + k) × IsSent from req texts k

unsent_head : (from req : ℕ) (text : List ℕ) (texts : List (List ℕ)) → is_send from req (data_in text) ≡ false → ((k : ℕ) → IsSent from req texts k → ⊥)
    → (k : ℕ) → IsSent from req (text ∷ texts) k → ⊥
unsent_head from req text texts other none zero sent =
    let alike : sent.0 ≡ text = let is = sent.2 in cc in
    let yes = is_send_of_read_send from req sent.1 (data_in text) (ap data_in (sym alike) ∙ sent.3) in
    let no : true ≡ false = sym yes ∙ other in cc
unsent_head from req text texts other none (suc k) sent = none k (sent.0, sent.1, sent.2, sent.3)

stands_by : (number from req : ℕ) (text : List ℕ) (texts : List (List ℕ)) (b : Bool) (o : Option (Option ℕ)) → is_send from req (data_in text) ≡ b
    → StandsBy (number + 1) from req texts o → StandsBy number from req (text ∷ texts) (cond b (Some (once_more number o)) o)
stands_by number from req text texts true None is later =
    let found = is_send_finds_body from req (data_in text) is in (0, omega arith, (text, found.0, refl, found.1))
stands_by number from req text texts true (Some None) is later =
    let found = is_send_finds_body from req (data_in text) is in
    (0, suc later.0, omega arith, (text, found.0, refl, found.1), (later.3.0, later.3.1, later.3.2, later.3.3))
stands_by number from req text texts true (Some (Some n)) is later =
    let found = is_send_finds_body from req (data_in text) is in
    (0, suc later.0, omega arith, (text, found.0, refl, found.1), (later.2.0, later.2.1, later.2.2, later.2.3))
stands_by number from req text texts false None is later = unsent_head from req text texts is later
stands_by number from req text texts false (Some None) is later =
    (suc later.0, suc later.1, omega (arith, later.2), (later.3.0, later.3.1, later.3.2, later.3.3), (later.4.0, later.4.1, later.4.2, later.4.3))
stands_by number from req text texts false (Some (Some n)) is later = (suc later.0, omega (arith, later.1), (later.2.0, later.2.1, later.2.2, later.2.3))

standing : (number from req : ℕ) (texts : List (List ℕ)) → StandsBy number from req texts (stands number from req texts)
standing number from req [] = λ k sent. let is = sent.2 in cc
standing number from req (text ∷ texts) =
    stands_by number from req text texts (is_send from req (data_in text)) (stands (number + 1) from req texts) refl (standing (number + 1) from req texts)

-- what stands alone is found there
at_by : (group : List (List ℕ)) (from req number : ℕ) (o : Option (Option ℕ)) → StandsBy 1 from req group o → is_at number o ≡ false
    → StandsAlone group from req number → ⊥
at_by group from req number None by other alone =
    let item = item_at_has_index group number alone.there.0 alone.there.2 in by item.0 (alone.there.0, alone.there.1, item.2, alone.there.3)
at_by group from req number (Some None) by other alone =
    let one = alone.only (suc by.0) (by.3.0, by.3.1, by.3.2, by.3.3) in
    let two = alone.only (suc by.1) (by.4.0, by.4.1, by.4.2, by.4.3) in
    omega (arith, one, two, by.2)
at_by group from req number (Some (Some n)) by other alone =
    let one = alone.only (suc by.0) (by.2.0, by.2.1, by.2.2, by.2.3) in
    not_equal_numbers_differ n number other (omega (arith, one, by.1))

lost_found : (s : Reading) (place : ℕ) (answers : List AnsweredSend) → ((k : ℕ) → slice_get s.answers (place + k) ≡ slice_get answers k)
    → Found s (first_lost s.group answers)
lost_found s place [] at = tt
lost_found s place (answer ∷ answers) at =
    let there : slice_get s.answers place ≡ Some answer = let equal : place ≡ place + 0 = omega arith in ap (slice_get s.answers) equal ∙ at 0 in
    let by = standing 1 answer.name answer.req s.group in
    found_or s (lost_at s.group answer) (first_lost s.group answers)
    (found_if s (is_at answer.number (stands 1 answer.name answer.req s.group)) (verdicts.Lost answer.name answer.req)
    (λ is. (place, answer, there, refl, refl, at_by s.group answer.name answer.req answer.number (stands 1 answer.name answer.req s.group) by is)))
    (lost_found s (place + 1) answers (λ k. let equal : place + 1 + k ≡ place + suc k = omega arith in ap (slice_get s.answers) equal ∙ at (suc k)))

-- ---- how logs begin

may_begin_if : (line : Line) (outline : Outline) → LogBegins line.number line.name outline → may_begin line (Ok outline) ≡ true
may_begin_if line (outlines.Data from req) begins = absurd begins
may_begin_if line (outlines.Join name) begins = eq-eqb name line.name begins
may_begin_if line (outlines.Leave name) begins = absurd begins
may_begin_if line (outlines.View v) begins = ap (λ b. b && has v.members line.name) (eq-eqb line.number 1 begins.0) ∙ begins.1

begin_found : (s : Reading) (place : ℕ) (line : Line) (o : Option ℕ) → slice_get s.logs place ≡ Some line → LastBeforeIsFound s.logs place line.name o
    → Found s (early_at o line)
begin_found s place line (Some last) there by = tt
begin_found s place line None there by = found_if s (may_begin line (outline_of line.text)) (verdicts.Early line.name line.number)
    (λ is. (
      place,
      line,
      is_line_at s.logs place line there,
      by,
      λ outline read begins. let yes = ap (may_begin line) read ∙ may_begin_if line outline begins in let no : true ≡ false = sym yes ∙ is in cc,
    ))

early_found : (s : Reading) (place : ℕ) (before lines : List Line) → LinesAreBeforePlace s.logs place before lines → Found s (first_early before lines)
early_found s place before [] at = tt
early_found s place before (line ∷ lines) at =
    found_or s (early_at (last_of line.name before) line) (first_early (line ∷ before) lines)
    (begin_found s place line (last_of line.name before) (line_at_place_is_next s.logs place before line lines at) (at.lasts line.name))
    (early_found s (place + 1) (line ∷ before) lines (line_is_before_next_place s.logs place before line lines at))

-- ---- the list

take_next : (texts : List (List ℕ)) (n : ℕ) (text : List ℕ) → slice_get texts n ≡ Some text → take (suc n) texts ≡ take n texts ++ text ∷ []
take_next [] n text is = cc
take_next (first ∷ texts) zero text is = let equal : first ≡ text = cc in ap (λ (t : List ℕ). t ∷ []) equal
take_next (first ∷ texts) (suc n) text is = ap (λ (ts : List (List ℕ)). first ∷ ts) (take_next texts n text is)

both : (a b : Bool) → a ≡ true → b ≡ true → (a && b) ≡ true
both true b one two = two
both false b one two = cc

-- what may stand after others fits there
may_fit : (n : ℕ) (before : List Outline) (image : Image) (outline : Outline) → n ≡ length before → image_after_entries blank 1 (map bare_entry before) ≡ image
    → MayStand before outline → fits_at (n + 1) image (Ok outline) ≡ true
may_fit n [] image (outlines.Data from req) is told may = absurd may
may_fit n [] image (outlines.Join name) is told may = absurd may
may_fit n [] image (outlines.Leave name) is told may = absurd may
may_fit n [] image (outlines.View v) is told may =
    ap (λ (k : ℕ). fits_at (k + 1) image (Ok (outlines.View v))) is ∙ founding_view_founds v may
may_fit n (first ∷ others) image outline is told may =
    let some : 0 < n = omega (arith, is) in
    let below : n + 1 ≤ greatest_number = omega (arith, is, may.0) in
    let other : (n + 1 == 1) ≡ false = grind (arith, nat_tests) in
    let low : nat_le (n + 1) greatest_number ≡ true = grind (arith, nat_tests) in
    let here : fits image (bare_entry outline) ≡ true = ap (λ (i : Image). fits i (bare_entry outline)) (sym told) ∙ may.1 in
    ap (λ b. cond b (founds outline) (nat_le (n + 1) greatest_number && fits image (bare_entry outline))) other
    ∙ both (nat_le (n + 1) greatest_number) (fits image (bare_entry outline)) low here

read_by : (n : ℕ) (image : Image) (r : Result Outline FieldFault) → fits_at n image r ≡ true → (outline : Outline) × (r ≡ Ok outline)
read_by n image (Err fault) is = cc
read_by n image (Ok outline) is = (outline, refl)

true_if : {A : Type 0} (b : Bool) (x : A) → cond b None (Some x) ≡ None → b ≡ true
true_if true x none = refl
true_if false x none = cc

told_next : (n : ℕ) (before : List Outline) (image : Image) (outline : Outline) → n ≡ length before → image_after_entries blank 1 (map bare_entry before) ≡ image
    → image_after_entries blank 1 (map bare_entry (before ++ outline ∷ [])) ≡ after image (n + 1) (bare_entry outline)
unfolding image_after_entries
told_next n before image outline is told =
    let number : 1 + length (map bare_entry before) ≡ n + 1 = omega (arith, is, length-map before bare_entry) in
    ap (image_after_entries blank 1) (map-append bare_entry before (outline ∷ []))
    ∙ fold_append blank 1 (map bare_entry before) (bare_entry outline ∷ [])
    ∙ ap (λ (k : ℕ). after (image_after_entries blank 1 (map bare_entry before)) k (bare_entry outline)) number
    ∙ ap (λ (i : Image). after i (n + 1) (bare_entry outline)) told

misfit_found : (s : Reading) (n : ℕ) (before : List Outline) (image : Image) (texts : List (List ℕ)) → n ≡ length before
    → image_after_entries blank 1 (map bare_entry before) ≡ image → map outline_of (take n s.group) ≡ map Ok before
    → ((k : ℕ) → slice_get s.group (n + k) ≡ slice_get texts k) → Found s (first_misfit (n + 1) image texts)
misfit_found s n before image [] is told read at = tt
misfit_found s n before image (text ∷ texts) is told read at =
    let there : slice_get s.group n ≡ Some text = let equal : n ≡ n + 0 = omega arith in ap (slice_get s.group) equal ∙ at 0 in
    let test = fits_at (n + 1) image (outline_of text) in
    found_then s (cond test None (Some (verdicts.Misfit (n + 1)))) (first_misfit (n + 1 + 1) (image_after (n + 1) image (outline_of text)) texts)
    (found_if s test (verdicts.Misfit (n + 1)) (λ no. (
      before,
      text,
      ap (λ (k : ℕ). k + 1) is,
      ap (slice_get s.group) (sym is) ∙ there,
      ap (λ (k : ℕ). map outline_of (take k s.group)) (sym is) ∙ read,
      λ outline reads may.
          let yes = ap (fits_at (n + 1) image) reads ∙ may_fit n before image outline is told may in
          let wrong : true ≡ false = sym yes ∙ no in cc,
    )))
    (λ none.
    let found = read_by (n + 1) image (outline_of text) (true_if test (verdicts.Misfit (n + 1)) none) in
    let grown : n + 1 ≡ suc n = omega arith in
    let long : n + 1 ≡ length (before ++ found.0 ∷ []) = omega (arith, is, length-append before (found.0 ∷ [])) in
    subst (λ (r : Result Outline FieldFault). Found s (first_misfit (n + 1 + 1) (image_after (n + 1) image r) texts)) (sym found.1)
    (misfit_found s (n + 1) (before ++ found.0 ∷ []) (after image (n + 1) (bare_entry found.0)) texts long
    (told_next n before image found.0 is told)
    (ap (λ (k : ℕ). map outline_of (take k s.group)) grown ∙ ap (map outline_of) (take_next s.group n text there)
    ∙ map-append outline_of (take n s.group) (text ∷ []) ∙ ap (λ rs. rs ++ outline_of text ∷ []) read
    ∙ ap (λ (r : Result Outline FieldFault). map Ok before ++ r ∷ []) found.1 ∙ sym (map-append Ok before (found.0 ∷ [])))
    (λ k. let equal : n + 1 + k ≡ n + suc k = omega arith in ap (slice_get s.group) equal ∙ at (suc k))))

-- ---- sends in turn

turn_found : (s : Reading) (place : ℕ) (send : Line) (o : Option ℕ) → Lists s → slice_get s.sends place ≡ Some send → LastBeforeIsFound s.sends place send.name o
    → Found s (skipped_at o send)
turn_found s place send None lists there by = found_if s (send.number == 0 + 1) (verdicts.Skipped send.name send.number)
    (λ is. (lists, (place, send, is_line_at s.sends place send there, inr (by, not_equal_numbers_differ send.number (0 + 1) is))))
turn_found s place send (Some last) lists there by = found_if s (send.number == last + 1) (verdicts.Skipped send.name send.number)
    (λ is. (lists, (place, send, is_line_at s.sends place send there, inl (last, by, not_equal_numbers_differ send.number (last + 1) is))))

skipped_found : (s : Reading) (place : ℕ) (before sends : List Line) → Lists s → LinesAreBeforePlace s.sends place before sends → Found s (first_skipped before sends)
skipped_found s place before [] lists at = tt
skipped_found s place before (send ∷ sends) lists at =
    found_or s (skipped_at (last_of send.name before) send) (first_skipped (send ∷ before) sends)
    (turn_found s place send (last_of send.name before) lists (line_at_place_is_next s.sends place before send sends at) (at.lasts send.name))
    (skipped_found s (place + 1) (send ∷ before) sends lists (line_is_before_next_place s.sends place before send sends at))

-- ---- sends of the list

-- a name's numbers go up from a start on
abbrev RunsOn : ℕ → List Line → Type 0
RunsOn name sends = (start k : ℕ) (x : Line) → LinesRunFromNumber start (lines_of name sends) → slice_get sends k ≡ Some x → x.name ≡ name → start ≤ x.number

runs_by : (name : ℕ) (b : Bool) (send : Line) (sends : List Line) (start k : ℕ) (x : Line) → (send.name == name) ≡ b → RunsOn name sends
    → LinesRunFromNumber start (cond b (send ∷ lines_of name sends) (lines_of name sends)) → slice_get (send ∷ sends) k ≡ Some x → x.name ≡ name → start ≤ x.number
runs_by name true send sends start zero x is later run there named =
    let equal : send ≡ x = cc in omega (arith, run.0, ap (λ (l : Line). l.number) equal)
runs_by name true send sends start (suc k) x is later run there named = omega (arith, later (start + 1) k x run.1 there named)
runs_by name false send sends start zero x is later run there named =
    let equal : send ≡ x = cc in absurd (not_equal_numbers_differ send.name name is (ap (λ (l : Line). l.name) equal ∙ named))
runs_by name false send sends start (suc k) x is later run there named = later start k x run there named

runs_on : (name : ℕ) (sends : List Line) → RunsOn name sends
runs_on name [] start k x run there named = cc
runs_on name (send ∷ sends) start k x run there named = runs_by name (send.name == name) send sends start k x refl (runs_on name sends) run there named

-- so two of a name have two numbers
abbrev AreTwo : ℕ → List Line → Type 0
AreTwo name sends = (start j k : ℕ) (x y : Line) → LinesRunFromNumber start (lines_of name sends) → j < k → slice_get sends j ≡ Some x → slice_get sends k ≡ Some y
    → x.name ≡ name → y.name ≡ name → x.number ≢ y.number

two_by : (name : ℕ) (b : Bool) (send : Line) (sends : List Line) (start j k : ℕ) (x y : Line) → (send.name == name) ≡ b → AreTwo name sends
    → LinesRunFromNumber start (cond b (send ∷ lines_of name sends) (lines_of name sends)) → j < k → slice_get (send ∷ sends) j ≡ Some x
    → slice_get (send ∷ sends) k ≡ Some y → x.name ≡ name → y.name ≡ name → x.number ≢ y.number
two_by name b send sends start j zero x y is later run below one two first second equal = omega (arith, below)
two_by name true send sends start zero (suc k) x y is later run below one two first second equal =
    let alike : send ≡ x = cc in
    omega (arith, run.0, ap (λ (l : Line). l.number) alike, runs_on name sends (start + 1) k y run.1 two second, equal)
two_by name false send sends start zero (suc k) x y is later run below one two first second equal =
    let alike : send ≡ x = cc in not_equal_numbers_differ send.name name is (ap (λ (l : Line). l.name) alike ∙ first)
two_by name true send sends start (suc j) (suc k) x y is later run below one two first second equal =
    later (start + 1) j k x y run.1 (omega (arith, below)) one two first second equal
two_by name false send sends start (suc j) (suc k) x y is later run below one two first second equal =
    later start j k x y run (omega (arith, below)) one two first second equal

are_two : (name : ℕ) (sends : List Line) → AreTwo name sends
are_two name [] start j k x y run below one two first second equal = cc
are_two name (send ∷ sends) start j k x y run below one two first second equal =
    two_by name (send.name == name) send sends start j k x y refl (are_two name sends) run below one two first second equal

-- a send with a name and a number is asked for by the first such
record WasAsked (at from req : ℕ) (sends : List Line) (k : ℕ) : Type 0 where
  index : ℕ
  send : Line
  found : first_asked at from req sends ≡ Some (at + index)
  low : index ≤ k
  there : slice_get sends index ≡ Some send
  named : send.name ≡ from
  numbered : send.number ≡ req

asked_by : (at from req : ℕ) (b : Bool) (send : Line) (sends : List Line) (k : ℕ) (x : Line) → ((send.name == from) && (send.number == req)) ≡ b
    → slice_get (send ∷ sends) k ≡ Some x → x.name ≡ from → x.number ≡ req
    → ((j : ℕ) → slice_get sends j ≡ Some x → WasAsked (at + 1) from req sends j)
    → (index : ℕ) × (y : Line) × (cond b (Some at) (first_asked (at + 1) from req sends) ≡ Some (at + index)) × (index ≤ k)
    × (slice_get (send ∷ sends) index ≡ Some y) × (y.name ≡ from) × (y.number ≡ req)
asked_by at from req true send sends k x is there named numbered later =
    let parts = both_conditions_of_and (send.name == from) (send.number == req) is in
    (0, send, ap (λ (n : ℕ). Some n) (omega arith), omega arith, refl, eqb-true send.name from parts.0, eqb-true send.number req parts.1)
asked_by at from req false send sends zero x is there named numbered later =
    let alike : send ≡ x = cc in
    let yes = both (send.name == from) (send.number == req) (eq-eqb send.name from (ap (λ (l : Line). l.name) alike ∙ named))
    (eq-eqb send.number req (ap (λ (l : Line). l.number) alike ∙ numbered)) in
    let wrong : true ≡ false = sym yes ∙ is in cc
asked_by at from req false send sends (suc k) x is there named numbered later =
    let found = later k there in
    (suc found.index, found.send, found.found ∙ ap (λ (n : ℕ). Some n) (omega arith), omega (arith, found.low), found.there, found.named, found.numbered)

was_asked : (at from req : ℕ) (sends : List Line) (k : ℕ) (x : Line) → slice_get sends k ≡ Some x → x.name ≡ from → x.number ≡ req → WasAsked at from req sends k
was_asked at from req [] k x there named numbered = cc
was_asked at from req (send ∷ sends) k x there named numbered =
    let found = asked_by at from req ((send.name == from) && (send.number == req)) send sends k x refl there named numbered
    (λ j is. was_asked (at + 1) from req sends j x is named numbered) in
    record { index = found.0; send = found.1; found = found.2; low = found.3; there = found.4; named = found.5; numbered = found.6 }

-- where each name's sends are in turn, no send is one whose body isn't found
same_send : (sends : List Line) (from req k : ℕ) (send : Line) (body : List ℕ) → LinesRunFromNumber 1 (lines_of from sends) → IsLine sends k from req send
    → is_text (body_at sends (first_asked 0 from req sends)) body ≡ false → send.text ≢ body
same_send sends from req k send body run line other equal =
    let asked = was_asked 0 from req sends k send line.there line.named line.numbered in
    let index : 0 + asked.index ≡ asked.index = omega arith in
    let found : body_at sends (first_asked 0 from req sends) ≡ Some asked.send.text =
    ap (body_at sends) (asked.found ∙ ap (λ (n : ℕ). Some n) index) ∙ ap (option_map (λ (l : Line). l.text)) asked.there in
    let is : asked.index ≡ k = by_test (asked.index == k) asked.index k refl asked.low
    (λ below. are_two from sends 1 asked.index k asked.send send run below asked.there line.there asked.named line.named
    (asked.numbered ∙ sym line.numbered)) in
    let alike : asked.send ≡ send = let there : slice_get sends k ≡ Some asked.send = ap (slice_get sends) (sym is) ∙ asked.there in cc in
    let told : body_at sends (first_asked 0 from req sends) ≡ Some body = found ∙ ap (λ (l : Line). Some l.text) alike ∙ ap (λ (t : List ℕ). Some t) equal in
    text_there (body_at sends (first_asked 0 from req sends)) body other told
  where
    by_test : (b : Bool) (j k : ℕ) → (j == k) ≡ b → j ≤ k → (j < k → ⊥) → j ≡ k
    by_test true j k is low above = eqb-true j k is
    by_test false j k is low above = let other = not_equal_numbers_differ j k is in absurd (above (omega (arith, low, other)))

sent_found : (s : Reading) (place : ℕ) (text : List ℕ) (sent : Result (ℕ × ℕ × List ℕ) FieldFault) → Lists s → ((name : ℕ) → LinesRunFromNumber 1 (lines_of name s.sends))
    → slice_get s.group place ≡ Some text → data_in text ≡ sent → Found s (unsent_at s.sends sent)
sent_found s place text (Err fault) lists turn there is = tt
sent_found s place text (Ok sent) lists turn there is =
    found_if s (is_text (body_at s.sends (first_asked 0 sent.0 sent.1 s.sends)) sent.2) (verdicts.Unsent sent.0 sent.1)
    (λ other. (
      lists,
      (
        place,
        text,
        sent.2,
        there,
        is,
        λ k send line. same_send s.sends sent.0 sent.1 k send sent.2 (turn sent.0) line other,
      ),
    ))

unsent_found : (s : Reading) (place : ℕ) (texts : List (List ℕ)) → Lists s → ((name : ℕ) → LinesRunFromNumber 1 (lines_of name s.sends))
    → ((k : ℕ) → slice_get s.group (place + k) ≡ slice_get texts k) → Found s (first_unsent s.sends texts)
unsent_found s place [] lists turn at = tt
unsent_found s place (text ∷ texts) lists turn at =
    let there : slice_get s.group place ≡ Some text = let equal : place ≡ place + 0 = omega arith in ap (slice_get s.group) equal ∙ at 0 in
    found_or s (unsent_at s.sends (data_in text)) (first_unsent s.sends texts)
    (sent_found s place text (data_in text) lists turn there refl)
    (unsent_found s (place + 1) texts lists turn (λ k. let equal : place + 1 + k ≡ place + suc k = omega arith in ap (slice_get s.group) equal ∙ at (suc k)))

-- ---- takes

line_there : (o : Option Line) (taken line : Line) → o ≡ Some line → is_line o taken ≡ false → line.number ≡ taken.number → line.text ≢ taken.text
line_there None taken line there other number text = cc
line_there (Some found) taken line there other number text =
    let alike : line ≡ found = cc in
    let yes = both (found.number == taken.number) (same found.text taken.text)
    (eq-eqb found.number taken.number (ap (λ (l : Line). l.number) (sym alike) ∙ number))
    ((bytes_eq-Decides found.text taken.text).1 (ap (λ (l : Line). l.text) (sym alike) ∙ text)) in
    let wrong : true ≡ false = sym yes ∙ other in cc

unlogged_found : (s : Reading) (place : ℕ) (before takes : List Line) → Lists s → LinesAreBeforePlace s.takes place before takes → Found s (first_unlogged s.logs before takes)
unlogged_found s place before [] lists at = tt
unlogged_found s place before (taken ∷ takes) lists at =
    let there = line_at_place_is_next s.takes place before taken takes at in
    found_or s (unlogged_at s.logs before taken) (first_unlogged s.logs (taken ∷ before) takes)
    (found_if s (is_line (slice_get (lines_of taken.name s.logs) (count_of taken.name before)) taken) (verdicts.Unlogged taken.name taken.number)
    (λ other. (
      lists,
      (
        place,
        taken,
        is_line_at s.takes place taken there,
        λ line is. line_there (slice_get (lines_of taken.name s.logs) (count_of taken.name before)) taken line
            (ap (slice_get (lines_of taken.name s.logs)) (at.counts taken.name) ∙ is) other,
      ),
    )))
    (unlogged_found s (place + 1) (taken ∷ before) takes lists (line_is_before_next_place s.takes place before taken takes at))

untaken_found : (s : Reading) (place : ℕ) (before lines : List Line) → Lists s → LinesAreBeforePlace s.logs place before lines → Found s (first_untaken s.takes before lines)
untaken_found s place before [] lists at = tt
untaken_found s place before (line ∷ lines) lists at =
    let there = line_at_place_is_next s.logs place before line lines at in
    found_or s (untaken_at s.takes before line) (first_untaken s.takes (line ∷ before) lines)
    (found_if s (nat_lt (count_of line.name before) (count_of line.name s.takes)) (verdicts.Untaken line.name line.number)
    (λ other.
    let many : count_of line.name s.takes ≤ count_of line.name before = grind (arith, nat_tests) in
    (lists, (place, line, is_line_at s.logs place line there, omega (arith, many, at.counts line.name)))))
    (untaken_found s (place + 1) (line ∷ before) lines lists (line_is_before_next_place s.logs place before line lines at))

-- ---- the verdict

from_first : {A : Type 0} (xs : List A) (k : ℕ) → slice_get xs (0 + k) ≡ slice_get xs k
from_first xs k = let equal : 0 + k ≡ k = omega arith in ap (slice_get xs) equal

lists_found : (s : Reading) → Found s (wrong_lists s)
unfolding wrong_lists image_after_entries
lists_found s =
    found_or s (first_fault [] s.logs) _ (fault_found s 0 [] s.logs (no_line_is_before_first s.logs))
    (found_or s (first_astray s.group s.logs) _ (astray_found s 0 s.logs (from_first s.logs))
    (found_or s (first_lost s.group s.answers) _ (lost_found s 0 s.answers (from_first s.answers))
    (found_or s (first_early [] s.logs) _ (early_found s 0 [] s.logs (no_line_is_before_first s.logs))
    (misfit_found s 0 [] blank s.group refl refl refl (from_first s.group)))))

events_found : (s : Reading) → Lists s → Found s (wrong_events s)
unfolding wrong_events
events_found s lists =
    found_then s (first_skipped [] s.sends) _ (skipped_found s 0 [] s.sends lists (no_line_is_before_first s.sends))
    (λ none.
    found_or s (first_unsent s.sends s.group) _ (unsent_found s 0 s.group lists (λ name. requests_run_in_turn s.sends [] name none) (from_first s.group))
    (found_or s (first_unlogged s.logs [] s.takes) _ (unlogged_found s 0 [] s.takes lists (no_line_is_before_first s.takes))
    (untaken_found s 0 [] s.logs lists (no_line_is_before_first s.logs))))

said : (s : Reading) (o : Option Verdict) (other : Verdict) → Found s o → (o ≡ None → VerdictSays s other) → VerdictSays s (unwrap_or o other)
said s None other found else_says = else_says refl
said s (Some verdict) other found else_says = found

told_by : (s : Reading) (b : Bool) → (s.events == 0) ≡ b → Lists s → VerdictSays s (cond b verdicts.ListsAgree (unwrap_or (wrong_events s) verdicts.Agrees))
told_by s true is lists = (lists, eqb-true s.events 0 is)
told_by s false is lists = said s (wrong_events s) verdicts.Agrees (events_found s lists)
    (λ none. (events_not_wrong_agree s lists none, let other = not_equal_numbers_differ s.events 0 is in omega (arith, other)))

pub verdict_says_what_holds : (s : Reading) → VerdictSays s (verdict_of s)
unfolding verdict_of
verdict_says_what_holds s = said s (wrong_lists s) (cond (s.events == 0) verdicts.ListsAgree (unwrap_or (wrong_events s) verdicts.Agrees)) (lists_found s)
    (λ none. told_by s (s.events == 0) refl (lists_not_wrong_list s none))
