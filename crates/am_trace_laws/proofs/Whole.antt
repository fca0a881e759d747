-- The text of records, a list and logs is read as these.
use Rattle.am_trace_laws.proofs.Words.{◌≡◌, ℕ, ◌+◌, ◌≤◌, ◌==◌, true, false, cond, List, [], ◌∷◌, ◌++◌, length, refl, sym, ap, ◌∙◌, arith, Ok, Option}
use Rattle.am_trace_laws.proofs.Words.{append_assoc, zero-add, slice_index, digits, append-nil, greatest_number, place_of_name, Rules, Entry, Record, cut_of, split_text}
use Rattle.am_trace_laws.proofs.Words.{entry_text, record_line, records_text, group_line, group_from, group_text, logs_text, mark_line, play_text, Reading}
use Rattle.am_trace_laws.proofs.Words.{nothing_read, may_log, read_lines, read_behind, read_text, send_lines_in, line_answers_in, take_in, sends_of, record_answers, take_lines_of}
use Rattle.am_trace_laws.proofs.Words.{entry_texts_of, log_in, logs_in, names_told, AreTold, first_names}
use Rattle.am_trace_laws.proofs.Reading.{reading_after_record, reading_after_records, RecordsAreReadable, records_text_is_read, EntriesAreReadable, reading_with_entries, group_text_is_read, reading_with_deliveries, reading_after_logs}
use Rattle.am_trace_laws.proofs.Reading.{LogsAreReadable, logs_text_is_read, reading_at_end, BreakNumberIsWithinLimits, end_mark_is_read}
use Rattle.am_audit_defs.specs.declared.line.TextStage.TheVariants as stages

-- ---- events

-- what records leave
abbrev told_all : Rules → Reading → List Record → Reading
told_all rules s records = record s {
  names = names_told s.names records;
  events = s.events + length records;
  sends = s.sends ++ sends_of records;
  answers = s.answers ++ record_answers records;
  takes = s.takes ++ take_lines_of rules records;
}

records_are : (rules : Rules) (s : Reading) (records : List Record) → AreTold s.names records → reading_after_records rules s records ≡ told_all rules s records
records_are rules s [] told =
    let none : s.events ≡ s.events + 0 = omega arith in
    λ i. record s {
      events = none i;
      sends = sym (append-nil s.sends) i;
      answers = sym (append-nil s.answers) i;
      takes = sym (append-nil s.takes) i;
    }
records_are rules s (r ∷ rs) told =
    let name = slice_index s.names (place_of_name r.event.node) in
    let act = r.event.act in
    let o = r.outcome in
    let many : s.events + 1 + length rs ≡ s.events + length (r ∷ rs) = omega arith in
    let sends : (s.sends ++ send_lines_in name act o) ++ sends_of rs ≡ s.sends ++ sends_of (r ∷ rs) =
    append_assoc s.sends (send_lines_in name act o) (sends_of rs) ∙ ap (λ n. s.sends ++ (send_lines_in n act o ++ sends_of rs)) told.0 in
    let answers : (s.answers ++ line_answers_in name act o) ++ record_answers rs ≡ s.answers ++ record_answers (r ∷ rs) =
    append_assoc s.answers (line_answers_in name act o) (record_answers rs) ∙ ap (λ n. s.answers ++ (line_answers_in n act o ++ record_answers rs)) told.0 in
    let takes : (s.takes ++ take_in rules name act o) ++ take_lines_of rules rs ≡ s.takes ++ take_lines_of rules (r ∷ rs) =
    append_assoc s.takes (take_in rules name act o) (take_lines_of rules rs) ∙ ap (λ n. s.takes ++ (take_in rules n act o ++ take_lines_of rules rs)) told.0 in
    records_are rules (reading_after_record rules s r) rs told.1
    ∙ (λ i. record s {
      names = names_told s.names (r ∷ rs);
      events = many i;
      sends = sends i;
      answers = answers i;
      takes = takes i;
    })

-- ---- the list

entries_are : (rules : Rules) (s : Reading) (group : List Entry) → reading_with_entries rules (record s { stage = stages.List }) group
    ≡ record s { stage = stages.List; group = s.group ++ entry_texts_of rules group }
entries_are rules s [] = λ i. record s { stage = stages.List; group = sym (append-nil s.group) i }
entries_are rules s (e ∷ es) =
    let t = record s { group = s.group ++ entry_text rules e ∷ [] } in
    entries_are rules t es
    ∙ (λ i. record s { stage = stages.List; group = append_assoc s.group (entry_text rules e ∷ []) (entry_texts_of rules es) i })

-- ---- logs

logs_are : (rules : Rules) (s : Reading) (logs : List (ℕ × List (ℕ × Entry))) (broken : Option ℕ) → reading_at_end (reading_after_logs rules s logs) broken
    ≡ record s { stage = stages.End; logs = s.logs ++ logs_in rules logs; void_from = broken }
logs_are rules s [] broken = λ i. record s { stage = stages.End; logs = sym (append-nil s.logs) i; void_from = broken }
logs_are rules s (log ∷ logs) broken =
    logs_are rules (reading_with_deliveries rules s log) logs broken
    ∙ (λ i. record s {
      stage = stages.End;
      logs = append_assoc s.logs (log_in rules log.0 log.1) (logs_in rules logs) i;
      void_from = broken;
    })

logs_may : (rules : Rules) (s : Reading) (logs : List (ℕ × List (ℕ × Entry))) → may_log s.stage ≡ true → may_log (reading_after_logs rules s logs).stage ≡ true
logs_may rules s [] may = may
logs_may rules s (log ∷ logs) may = logs_may rules (reading_with_deliveries rules s log) logs refl

-- ---- the whole

-- all that is printed is within its limits
pub record WholePrintIsReadable (rules : Rules) (records : List Record) (first : Entry) (others : List Entry) (logs : List (ℕ × List (ℕ
    × Entry))) (broken : Option ℕ) : Type
    0 where
  pub told : AreTold (first_names) records
  pub shown : RecordsAreReadable rules records
  pub few : length records ≤ greatest_number
  pub listed : EntriesAreReadable rules (first ∷ others)
  pub short : length (first ∷ others) ≤ greatest_number
  pub given : LogsAreReadable rules logs
  pub mark : BreakNumberIsWithinLimits broken

abbrev pub whole_reading_of : Rules → List Record → List Entry → List (ℕ × List (ℕ × Entry)) → Option ℕ → Reading
whole_reading_of rules records group logs broken = record {
  stage = stages.End;
  names = names_told (first_names) records;
  events = length records;
  sends = sends_of records;
  answers = record_answers records;
  takes = take_lines_of rules records;
  group = entry_texts_of rules group;
  logs = logs_in rules logs;
  void_from = broken;
}

-- no text of a run begins with a brace
pub play_text_begins_without_brace : (rules : Rules) (records : List Record) (first : Entry) (others : List Entry) (logs : List (ℕ × List (ℕ × Entry))) (broken : Option ℕ)
    → (slice_index (play_text rules records (first ∷ others) logs broken) 0 == 123) ≡ false
unfolding play_text records_text record_line group_text group_line digits
play_text_begins_without_brace rules [] first others logs broken = refl
play_text_begins_without_brace rules (r ∷ rs) first others logs broken = refl

lines_are : (rules : Rules) (records : List Record) (first : Entry) (others : List Entry) (logs : List (ℕ × List (ℕ × Entry))) (broken : Option ℕ)
    → WholePrintIsReadable rules records first others logs broken → read_lines 1 nothing_read (split_text 10 (play_text rules records (first ∷ others) logs broken))
    ≡ Ok (whole_reading_of rules records (first ∷ others) logs broken)
unfolding play_text records_text group_text
lines_are rules records first others logs broken h =
    let group = first ∷ others in
    let tail = logs_text rules logs ++ mark_line broken in
    let s = reading_after_records rules nothing_read records in
    let told = told_all rules nothing_read records in
    let u = record told { group = entry_text rules first ∷ [] } in
    let listed = record told { stage = stages.List; group = entry_texts_of rules group } in
    let few = h.few in
    let short = h.short in
    let more = logs_text_is_read rules listed (1 + length records + length group) logs (mark_line broken) h.given refl in
    records_text_is_read rules nothing_read 1 0 records (group_from rules 1 group ++ tail) h.shown refl refl (omega arith)
    ∙ ap (λ (t : Reading). read_lines (1 + length records) t (split_text 10 (group_from rules 1 group ++ tail))) (records_are rules nothing_read records h.told)
    ∙ group_text_is_read rules told (1 + length records) 1 group tail h.listed refl refl (omega arith)
    ∙ ap (λ (t : Reading). read_lines (1 + length records + length group) t (split_text 10 tail)) (entries_are rules u others)
    ∙ more.1
    ∙ end_mark_is_read (reading_after_logs rules listed logs) more.0 broken h.mark (logs_may rules listed logs refl)
    ∙ ap (λ (t : Reading). Ok t) (logs_are rules listed logs broken)
    ∙ ap (λ (n : ℕ). Ok (record (whole_reading_of rules records group logs broken) { events = n })) (zero-add (length records))

pub whole_text_is_read : (rules : Rules) (records : List Record) (first : Entry) (others : List Entry) (logs : List (ℕ × List (ℕ × Entry))) (broken : Option ℕ)
    → WholePrintIsReadable rules records first others logs broken → read_text (play_text rules records (first ∷ others) logs broken)
    ≡ Ok (whole_reading_of rules records (first ∷ others) logs broken)
whole_text_is_read rules records first others logs broken h =
    let text = play_text rules records (first ∷ others) logs broken in
    ap (λ b. cond b (read_behind (cut_of 10 text).1) (read_lines 1 nothing_read (split_text 10 text))) (play_text_begins_without_brace rules records first others logs broken)
    ∙ lines_are rules records first others logs broken h
