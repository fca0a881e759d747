-- The text of records, a list and logs is read line by line.
use Rattle.am_trace_laws.proofs.Words.{◌≡◌, ℕ, ◌+◌, ◌<◌, ◌≤◌, ◌==◌, ◌&&◌, Bool, true, false, cond, List, [], ◌∷◌, ◌++◌, length, lit<, refl, sym, ap, ◌∙◌, arith}
use Rattle.am_trace_laws.proofs.Words.{Ok, Err, Option, Some, None, append_assoc, length-append, codes, decimal, flat_map, same_text, append-nil}
use Rattle.am_trace_laws.proofs.Words.{nat_tests, greatest_number, place_of_name, Rules, Entry, split_on_bool, Record, Form, same, and_then, number_up_to, number_in_text}
use Rattle.am_trace_laws.proofs.Words.{split_text, name_text, entry_text, outcome_text, act_word, act_parts, event_text, letters_text, record_line, lines_from}
use Rattle.am_trace_laws.proofs.Words.{group_line, group_from, log_line, empty_log_line, log_text, logs_text, mark_line, IsOfBytes, TextStage, two_of, Line}
use Rattle.am_trace_laws.proofs.Words.{Reading, may_event, may_list, may_log, counted, mark_cut, with_event, add_event, add_entry, logged, add_log, add_void}
use Rattle.am_trace_laws.proofs.Words.{add_line, read_lines, HasNoNewline, read_lines_takes_good_line, cut_of_line_at_newline, number_up_to_decimal, name_of_name_text, decimal_is_word, name_text_is_word, word_is_plain_text}
use Rattle.am_trace_laws.proofs.Words.{log_in}
use Rattle.am_trace_laws.proofs.Chars.{EntryBodyIsBytes, entry_text_is_plain, OutcomeEntryIsBytes, outcome_text_is_plain, act_is_word, event_text_is_plain, plain_text_is_line, appended_lines_are_line, letters_text_is_line}
use Rattle.am_trace_laws.proofs.Chars.{letters_text_begins_with_bar, mark_cut_at_first_colon, mark_cut_at_first_bar}
use Rattle.am_trace_laws.proofs.{Outcomes.two_of_word_and_rest, Outcomes.EntryTextIsRead, Outcomes.reading_after_event, Outcomes.CountedActIsWithinLimits, Outcomes.counted_event_gives_reading}
use Rattle.am_audit_defs.specs.declared.line.TextStage.TheVariants as stages

-- ---- one line

line_read : (number : ℕ) (s t : Reading) (line rest : List ℕ) → HasNoNewline line → add_line s line ≡ Ok t
    → read_lines number s (split_text 10 (line ++ 10 ∷ rest)) ≡ read_lines (number + 1) t (split_text 10 rest)
line_read number s t line rest whole taken = read_lines_takes_good_line number s t (line ++ 10 ∷ rest) line rest (cut_of_line_at_newline line rest whole) taken

-- texts that differ
other_text : (text other : List ℕ) → (text ≡ other → ⊥) → same text other ≡ false
other_text text other differ = split_on_bool (same text other) (λ t. absurd (differ (same_text text other (sym t)))) (λ f. f)

-- a number is no word of another line
other_number : (n : ℕ) (word : List ℕ) → n ≤ greatest_number → number_in_text word ≡ Err Form → same (decimal n) word ≡ false
other_number n word low none = other_text (decimal n) word (λ is.
    let read : Ok n ≡ number_in_text word = sym (number_up_to_decimal greatest_number n low (lit< tt)) ∙ ap number_in_text is in
    let no : Ok n ≡ Err Form = read ∙ none in cc)

-- a line of two words is no other of one
other_line : (line word rest one : List ℕ) → two_of line ≡ Ok (word, rest) → two_of one ≡ Err Form → same line one ≡ false
other_line line word rest one two none = other_text line one (λ is. let no : Ok (word, rest) ≡ Err Form = sym two ∙ ap two_of is ∙ none in cc)

-- ---- events

-- what a record counts for, within its limits, and of bytes
pub record RecordIsReadable (rules : Rules) (r : Record) : Type 0 where
  pub asks : IsOfBytes r.event.act
  pub gives : OutcomeEntryIsBytes r.outcome
  pub counts : CountedActIsWithinLimits rules r.event.act r.outcome

abbrev pub reading_after_record : Rules → Reading → Record → Reading
reading_after_record rules s r = reading_after_event rules (record s { events = s.events + 1 }) (place_of_name r.event.node) r.event.act r.outcome

-- a record's line without its end
abbrev line_of : Rules → ℕ → ℕ → Record → List ℕ
line_of rules number before r = decimal number ++ (codes " " ++ (event_text rules r.event ++ (codes " : " ++ (outcome_text rules r.outcome
    ++ letters_text (place_of_name r.event.node) (before + 1) r.packets))))

-- what stands after its number
abbrev behind_of : Rules → ℕ → Record → List ℕ
behind_of rules before r = event_text rules r.event ++ (codes " : " ++ (outcome_text rules r.outcome
    ++ letters_text (place_of_name r.event.node) (before + 1) r.packets))

event_words : (rules : Rules) (r : Record) → two_of (event_text rules r.event)
    ≡ Ok (act_word r.event.act, decimal (place_of_name r.event.node) ++ act_parts rules r.event.act)
unfolding event_text
event_words rules r = two_of_word_and_rest (act_word r.event.act) (decimal (place_of_name r.event.node) ++ act_parts rules r.event.act) (act_is_word r.event.act)

add_by : (s : Reading) (n number : ℕ) (rest : List ℕ) (b : Bool) → b ≡ true
    → cond b (with_event s (mark_cut 58 rest).0 (mark_cut 58 rest).1) (Err Form) ≡ with_event s (mark_cut 58 rest).0 (mark_cut 58 rest).1
add_by s n number rest b is = ap (λ c. cond c (with_event s (mark_cut 58 rest).0 (mark_cut 58 rest).1) (Err Form)) is

may_come : (s : Reading) (number : ℕ) → s.stage ≡ stages.Events → number ≡ s.events + 1 → (may_event s.stage && (number == s.events + 1)) ≡ true
may_come s number stage next =
    let same_number : (number == s.events + 1) ≡ true = grind (arith, nat_tests) in
    ap (λ st. may_event st && (number == s.events + 1)) stage ∙ same_number

event_added : (rules : Rules) (s : Reading) (number before : ℕ) (r : Record) → RecordIsReadable rules r → s.stage ≡ stages.Events → number ≡ s.events + 1
    → number ≤ greatest_number → add_event s (decimal number) (behind_of rules before r) ≡ Ok (reading_after_record rules s r)
unfolding add_event
event_added rules s number before r shown stage next low =
    let rest = behind_of rules before r in
    let letters = letters_text (place_of_name r.event.node) (before + 1) r.packets in
    let cut = mark_cut_at_first_colon (event_text rules r.event) (outcome_text rules r.outcome ++ letters) (event_text_is_plain rules r.event shown.asks) in
    let bar = mark_cut_at_first_bar (outcome_text rules r.outcome) letters (outcome_text_is_plain rules r.outcome shown.gives)
    (letters_text_begins_with_bar (place_of_name r.event.node) (before + 1) r.packets) in
    let more = record s { events = s.events + 1 } in
    let place : place_of_name r.event.node ≤ 15 = omega arith in
    ap (λ n. and_then n (λ n. cond (may_event s.stage && (n == s.events + 1)) (with_event s (mark_cut 58 rest).0 (mark_cut 58 rest).1) (Err Form)))
    (number_up_to_decimal greatest_number number low (lit< tt))
    ∙ add_by s number number rest (may_event s.stage && (number == s.events + 1)) (may_come s number stage next)
    ∙ ap (λ (c : List ℕ × Option (List ℕ)). with_event s c.0 c.1) cut
    ∙ ap (λ t. Ok (counted more (two_of (event_text rules r.event)) t)) bar
    ∙ ap (λ a. Ok (counted more a (outcome_text rules r.outcome))) (event_words rules r)
    ∙ ap (λ (t : Reading). Ok t) (counted_event_gives_reading rules more (place_of_name r.event.node) r.event.act r.outcome place shown.counts)

line_words : (rules : Rules) (number before : ℕ) (r : Record) → two_of (line_of rules number before r) ≡ Ok (decimal number, behind_of rules before r)
line_words rules number before r = two_of_word_and_rest (decimal number) (behind_of rules before r) (decimal_is_word number)

line_added : (rules : Rules) (s : Reading) (number before : ℕ) (r : Record) → RecordIsReadable rules r → s.stage ≡ stages.Events → number ≡ s.events + 1
    → number ≤ greatest_number → add_line s (line_of rules number before r) ≡ Ok (reading_after_record rules s r)
unfolding add_line number_up_to
line_added rules s number before r shown stage next low =
    rw (
      other_line (line_of rules number before r) (decimal number) (behind_of rules before r) (codes "lawful") (line_words rules number before r) refl,
      line_words rules number before r,
      other_number number (codes "group") low refl,
      other_number number (codes "log") low refl,
      other_number number (codes "void") low refl,
    ) (event_added rules s number before r shown stage next low)

record_whole : (rules : Rules) (number before : ℕ) (r : Record) → RecordIsReadable rules r → HasNoNewline (line_of rules number before r)
record_whole rules number before r shown =
    let letters = letters_text (place_of_name r.event.node) (before + 1) r.packets in
    appended_lines_are_line (decimal number) (codes " " ++ behind_of rules before r) (plain_text_is_line (decimal number) (word_is_plain_text (decimal number) (decimal_is_word number)))
    (appended_lines_are_line (event_text rules r.event) (codes " : " ++ (outcome_text rules r.outcome ++ letters))
    (plain_text_is_line (event_text rules r.event) (event_text_is_plain rules r.event shown.asks))
    (appended_lines_are_line (outcome_text rules r.outcome) letters (plain_text_is_line (outcome_text rules r.outcome) (outcome_text_is_plain rules r.outcome shown.gives))
    (letters_text_is_line (place_of_name r.event.node) (before + 1) r.packets)))

line_ends : (rules : Rules) (number before : ℕ) (r : Record) (rest : List ℕ)
    → record_line rules number before r ++ rest ≡ line_of rules number before r ++ 10 ∷ rest
unfolding record_line
line_ends rules number before r rest = simp append_assoc refl

abbrev pub reading_after_records : Rules → Reading → List Record → Reading
reading_after_records rules s [] = s
reading_after_records rules s (r ∷ rs) = reading_after_records rules (reading_after_record rules s r) rs

abbrev pub RecordsAreReadable : Rules → List Record → Type 0
RecordsAreReadable rules [] = Unit {0}
RecordsAreReadable rules (r ∷ rs) = RecordIsReadable rules r × RecordsAreReadable rules rs

pub records_text_is_read : (rules : Rules) (s : Reading) (number before : ℕ) (records : List Record) (rest : List ℕ) → RecordsAreReadable rules records
    → s.stage ≡ stages.Events → number ≡ s.events + 1 → s.events + length records ≤ greatest_number
    → read_lines number s (split_text 10 (lines_from rules number before records ++ rest))
    ≡ read_lines (number + length records) (reading_after_records rules s records) (split_text 10 rest)
records_text_is_read rules s number before [] rest shown stage next low = ap (λ n. read_lines n s (split_text 10 rest)) (omega arith)
records_text_is_read rules s number before (r ∷ rs) rest shown stage next low =
    let later = lines_from rules (number + 1) (before + length r.packets) rs in
    ap (λ t. read_lines number s (split_text 10 t)) (append_assoc (record_line rules number before r) later rest
    ∙ line_ends rules number before r (later ++ rest))
    ∙ line_read number s (reading_after_record rules s r) (line_of rules number before r) (later ++ rest) (record_whole rules number before r shown.0)
    (line_added rules s number before r shown.0 stage next (omega arith))
    ∙ records_text_is_read rules (reading_after_record rules s r) (number + 1) (before + length r.packets) rs rest shown.1 stage (omega arith) (omega arith)
    ∙ ap (λ n. read_lines n (reading_after_records rules s (r ∷ rs)) (split_text 10 rest)) (omega arith)

-- ---- the list

-- an entry is of bytes, and is read
pub record EntryIsReadable (rules : Rules) (entry : Entry) : Type 0 where
  pub bytes : EntryBodyIsBytes entry
  pub read : EntryTextIsRead rules entry

abbrev pub EntriesAreReadable : Rules → List Entry → Type 0
EntriesAreReadable rules [] = Unit {0}
EntriesAreReadable rules (e ∷ es) = EntryIsReadable rules e × EntriesAreReadable rules es

abbrev pub reading_with_entry : Reading → List ℕ → Reading
reading_with_entry s text = record s { stage = stages.List; group = s.group ++ text ∷ [] }

abbrev entry_line : Rules → ℕ → Entry → List ℕ
entry_line rules number entry = codes "group " ++ (decimal number ++ (codes " " ++ entry_text rules entry))

entry_added : (rules : Rules) (s : Reading) (number : ℕ) (entry : Entry) → EntryIsReadable rules entry → may_list s.stage ≡ true → number ≡ length s.group + 1
    → number ≤ greatest_number → add_line s (entry_line rules number entry) ≡ Ok (reading_with_entry s (entry_text rules entry))
unfolding add_line add_entry
entry_added rules s number entry listed may next low =
    let right : (may_list s.stage && (number == length s.group + 1)) ≡ true = grind (arith, nat_tests) in
    rw (two_of_word_and_rest (decimal number) (entry_text rules entry) (decimal_is_word number), number_up_to_decimal greatest_number number low (lit< tt), listed.read.1, right) refl

entry_whole : (rules : Rules) (number : ℕ) (entry : Entry) → EntryIsReadable rules entry → HasNoNewline (entry_line rules number entry)
entry_whole rules number entry listed =
    appended_lines_are_line (decimal number) (codes " " ++ entry_text rules entry) (plain_text_is_line (decimal number) (word_is_plain_text (decimal number) (decimal_is_word number)))
    (plain_text_is_line (entry_text rules entry) (entry_text_is_plain rules entry listed.bytes))

entry_ends : (rules : Rules) (number : ℕ) (entry : Entry) (rest : List ℕ) → group_line rules number entry ++ rest ≡ entry_line rules number entry ++ 10 ∷ rest
unfolding group_line
entry_ends rules number entry rest = simp append_assoc refl

abbrev pub reading_with_entries : Rules → Reading → List Entry → Reading
reading_with_entries rules s [] = s
reading_with_entries rules s (e ∷ es) = reading_with_entries rules (reading_with_entry s (entry_text rules e)) es

pub group_text_is_read : (rules : Rules) (s : Reading) (line number : ℕ) (group : List Entry) (rest : List ℕ) → EntriesAreReadable rules group → may_list s.stage ≡ true
    → number ≡ length s.group + 1 → length s.group + length group ≤ greatest_number
    → read_lines line s (split_text 10 (group_from rules number group ++ rest))
    ≡ read_lines (line + length group) (reading_with_entries rules s group) (split_text 10 rest)
group_text_is_read rules s line number [] rest listed may next low = ap (λ n. read_lines n s (split_text 10 rest)) (omega arith)
group_text_is_read rules s line number (e ∷ es) rest listed may next low =
    let later = group_from rules (number + 1) es in
    let long : length (s.group ++ entry_text rules e ∷ []) ≡ length s.group + 1 = simp length-append refl in
    ap (λ t. read_lines line s (split_text 10 t)) (append_assoc (group_line rules number e) later rest ∙ entry_ends rules number e (later ++ rest))
    ∙ line_read line s (reading_with_entry s (entry_text rules e)) (entry_line rules number e) (later ++ rest) (entry_whole rules number e listed.0)
    (entry_added rules s number e listed.0 may next (omega arith))
    ∙ group_text_is_read rules (reading_with_entry s (entry_text rules e)) (line + 1) (number + 1) es rest listed.1 refl (omega arith) (omega arith)
    ∙ ap (λ n. read_lines n (reading_with_entries rules s (e ∷ es)) (split_text 10 rest)) (omega arith)

-- ---- logs

-- a delivery's number is one, and its entry is read
pub record DeliveryIsReadable (rules : Rules) (given : ℕ × Entry) : Type 0 where
  pub number : given.0 ≤ greatest_number
  pub entry : EntryIsReadable rules given.1

abbrev pub DeliveriesAreReadable : Rules → List (ℕ × Entry) → Type 0
DeliveriesAreReadable rules [] = Unit {0}
DeliveriesAreReadable rules (given ∷ later) = DeliveryIsReadable rules given × DeliveriesAreReadable rules later

abbrev with_log : Reading → List Line → Reading
with_log s more = record s { stage = stages.Logs; logs = s.logs ++ more }

abbrev line_for : Rules → ℕ → ℕ × Entry → Line
line_for rules name given = record { name = name; number = given.0; text = entry_text rules given.1 }

abbrev given_line : Rules → ℕ → ℕ × Entry → List ℕ
given_line rules name given = codes "log " ++ (name_text name ++ (codes " " ++ (decimal given.0 ++ (codes " " ++ entry_text rules given.1))))

given_added : (rules : Rules) (s : Reading) (name : ℕ) (given : ℕ × Entry) → name < 256 → DeliveryIsReadable rules given → may_log s.stage ≡ true
    → add_line s (given_line rules name given) ≡ Ok (with_log s (line_for rules name given ∷ []))
unfolding add_line add_log logged
given_added rules s name given low is may =
    let rest = decimal given.0 ++ (32 ∷ entry_text rules given.1) in
    let words = two_of_word_and_rest (decimal given.0) (entry_text rules given.1) (decimal_is_word given.0) in
    rw (
      two_of_word_and_rest (name_text name) rest (name_text_is_word name),
      name_of_name_text name low,
      may,
      other_line rest (decimal given.0) (entry_text rules given.1) (codes "empty") words refl,
      words,
      number_up_to_decimal greatest_number given.0 is.number (lit< tt),
      is.entry.read.1,
    ) refl

given_whole : (rules : Rules) (name : ℕ) (given : ℕ × Entry) → DeliveryIsReadable rules given → HasNoNewline (given_line rules name given)
given_whole rules name given is =
    appended_lines_are_line (name_text name) (codes " " ++ (decimal given.0 ++ (codes " " ++ entry_text rules given.1))) (plain_text_is_line (name_text name) (word_is_plain_text (name_text name)
    (name_text_is_word name)))
    (appended_lines_are_line (decimal given.0) (codes " " ++ entry_text rules given.1) (plain_text_is_line (decimal given.0) (word_is_plain_text (decimal given.0) (decimal_is_word given.0)))
    (plain_text_is_line (entry_text rules given.1) (entry_text_is_plain rules given.1 is.entry.bytes)))

given_ends : (rules : Rules) (name : ℕ) (given : ℕ × Entry) (rest : List ℕ) → log_line rules name given.0 given.1 ++ rest
    ≡ given_line rules name given ++ 10 ∷ rest
unfolding log_line
given_ends rules name given rest = simp append_assoc refl

abbrev empty_line : ℕ → List ℕ
empty_line name = codes "log " ++ (name_text name ++ codes " empty")

empty_added : (s : Reading) (name : ℕ) → name < 256 → may_log s.stage ≡ true → add_line s (empty_line name) ≡ Ok (record s { stage = stages.Logs })
unfolding add_line add_log logged
empty_added s name low may = rw (two_of_word_and_rest (name_text name) (codes "empty") (name_text_is_word name), name_of_name_text name low, may) refl

empty_whole : (name : ℕ) → HasNoNewline (empty_line name)
empty_whole name = appended_lines_are_line (name_text name) (codes " empty") (plain_text_is_line (name_text name) (word_is_plain_text (name_text name) (name_text_is_word name))) refl

empty_ends : (name : ℕ) (rest : List ℕ) → empty_log_line name ++ rest ≡ empty_line name ++ 10 ∷ rest
unfolding empty_log_line
empty_ends name rest = simp append_assoc refl

-- a log's text, line by line
abbrev more_text : Rules → ℕ → List (ℕ × Entry) → List ℕ
more_text rules name given = flat_map (λ one. log_line rules name one.0 one.1) given

more_read : (rules : Rules) (s : Reading) (line name : ℕ) (given : List (ℕ × Entry)) (rest : List ℕ) → name < 256 → DeliveriesAreReadable rules given
    → s.stage ≡ stages.Logs
    → read_lines line s (split_text 10 (more_text rules name given ++ rest))
    ≡ read_lines (line + length given) (record s { logs = s.logs ++ log_in rules name given }) (split_text 10 rest)
more_read rules s line name [] rest low is stage =
    ap (λ n. read_lines n s (split_text 10 rest)) (omega arith)
    ∙ ap (λ (logs : List Line). read_lines (line + 0) (record s { logs = logs }) (split_text 10 rest)) (sym (append-nil s.logs))
more_read rules s line name (given ∷ later) rest low is stage =
    let behind = more_text rules name later in
    let one = line_for rules name given in
    let t = with_log s (one ∷ []) in
    ap (λ t. read_lines line s (split_text 10 t)) (append_assoc (log_line rules name given.0 given.1) behind rest
    ∙ given_ends rules name given (behind ++ rest))
    ∙ line_read line s t (given_line rules name given) (behind ++ rest) (given_whole rules name given is.0)
    (given_added rules s name given low is.0 (ap may_log stage))
    ∙ more_read rules t (line + 1) name later rest low is.1 refl
    ∙ ap (λ n. read_lines n (record t { logs = t.logs ++ log_in rules name later }) (split_text 10 rest)) (omega arith)
    ∙ ap (λ (logs : List Line). read_lines (line + length (given ∷ later)) (record s { stage = stages.Logs; logs = logs }) (split_text 10 rest))
    (append_assoc s.logs (one ∷ []) (log_in rules name later))
    ∙ ap (λ (st : TextStage). read_lines (line + length (given ∷ later)) (record s { stage = st; logs = s.logs ++ log_in rules name (given ∷ later) }) (split_text
    10 rest)) (sym stage)

abbrev pub reading_with_deliveries : Rules → Reading → ℕ × List (ℕ × Entry) → Reading
reading_with_deliveries rules s log = record s { stage = stages.Logs; logs = s.logs ++ log_in rules log.0 log.1 }

-- lines are read up to where a rest begins
abbrev pub LinesReadUpToRest : ℕ → Reading → List ℕ → Reading → List ℕ → Type 0
LinesReadUpToRest line s text t rest = (next : ℕ) × (read_lines line s (split_text 10 text) ≡ read_lines next t (split_text 10 rest))

log_read : (rules : Rules) (s : Reading) (line name : ℕ) (given : List (ℕ × Entry)) (rest : List ℕ) → name < 256 → DeliveriesAreReadable rules given
    → may_log s.stage ≡ true → LinesReadUpToRest line s (log_text rules name given ++ rest) (reading_with_deliveries rules s (name, given)) rest
unfolding log_text
log_read rules s line name [] rest low is may = (
  line + 1,
  ap (λ t. read_lines line s (split_text 10 t)) (empty_ends name rest)
      ∙ line_read line s (record s { stage = stages.Logs }) (empty_line name) rest (empty_whole name) (empty_added s name low may)
      ∙ ap (λ (logs : List Line). read_lines (line + 1) (record s { stage = stages.Logs; logs = logs }) (split_text 10 rest)) (sym (append-nil s.logs)),
)
log_read rules s line name (given ∷ later) rest low is may =
    let behind = more_text rules name later in
    let one = line_for rules name given in
    let t = with_log s (one ∷ []) in (
      line + 1 + length later,
      ap (λ t. read_lines line s (split_text 10 t)) (append_assoc (log_line rules name given.0 given.1) behind rest
          ∙ given_ends rules name given (behind ++ rest))
          ∙ line_read line s t (given_line rules name given) (behind ++ rest) (given_whole rules name given is.0) (given_added rules s name given low is.0 may)
          ∙ more_read rules t (line + 1) name later rest low is.1 refl
          ∙ ap (λ (logs : List Line). read_lines (line + 1 + length later) (record s { stage = stages.Logs; logs = logs }) (split_text 10 rest))
          (append_assoc s.logs (one ∷ []) (log_in rules name later)),
    )

abbrev pub reading_after_logs : Rules → Reading → List (ℕ × List (ℕ × Entry)) → Reading
reading_after_logs rules s [] = s
reading_after_logs rules s (log ∷ logs) = reading_after_logs rules (reading_with_deliveries rules s log) logs

-- each log is of a name, and its deliveries are read
abbrev pub LogsAreReadable : Rules → List (ℕ × List (ℕ × Entry)) → Type 0
LogsAreReadable rules [] = Unit {0}
LogsAreReadable rules (log ∷ logs) = (log.0 < 256) × DeliveriesAreReadable rules log.1 × LogsAreReadable rules logs

pub logs_text_is_read : (rules : Rules) (s : Reading) (line : ℕ) (logs : List (ℕ × List (ℕ × Entry))) (rest : List ℕ) → LogsAreReadable rules logs → may_log s.stage ≡ true
    → LinesReadUpToRest line s (logs_text rules logs ++ rest) (reading_after_logs rules s logs) rest
unfolding logs_text
logs_text_is_read rules s line [] rest is may = (line, refl)
logs_text_is_read rules s line (log ∷ logs) rest is may =
    let behind = flat_map (λ (l : ℕ × List (ℕ × Entry)). log_text rules l.0 l.1) logs in
    let one = log_read rules s line log.0 log.1 (behind ++ rest) is.0 is.1 may in
    let later = logs_text_is_read rules (reading_with_deliveries rules s log) one.0 logs rest is.2 refl in
    (later.0, ap (λ t. read_lines line s (split_text 10 t)) (append_assoc (log_text rules log.0 log.1) behind rest) ∙ one.1 ∙ later.1)

-- ---- the last line

abbrev pub reading_at_end : Reading → Option ℕ → Reading
reading_at_end s broken = record s { stage = stages.End; void_from = broken }

-- where a run broke is a number
abbrev pub BreakNumberIsWithinLimits : Option ℕ → Type 0
BreakNumberIsWithinLimits None = Unit {0}
BreakNumberIsWithinLimits (Some number) = number ≤ greatest_number

lawful_added : (s : Reading) → may_log s.stage ≡ true → add_line s (codes "lawful") ≡ Ok (reading_at_end s None)
unfolding add_line
lawful_added s may = rw may refl

void_line : ℕ → List ℕ
void_line number = codes "void from " ++ decimal number

void_added : (s : Reading) (number : ℕ) → may_log s.stage ≡ true → number ≤ greatest_number → add_line s (void_line number) ≡ Ok (reading_at_end s (Some number))
unfolding add_line add_void void_line
void_added s number may low = rw (number_up_to_decimal greatest_number number low (lit< tt), may) refl

void_whole : (number : ℕ) → HasNoNewline (void_line number)
unfolding void_line
void_whole number = appended_lines_are_line (codes "void from ") (decimal number) refl (plain_text_is_line (decimal number) (word_is_plain_text (decimal number) (decimal_is_word number)))

void_ends : (number : ℕ) → mark_line (Some number) ≡ void_line number ++ 10 ∷ []
unfolding mark_line void_line
void_ends number = refl

lawful_ends : mark_line None ≡ codes "lawful" ++ 10 ∷ []
unfolding mark_line
lawful_ends = refl

pub end_mark_is_read : (s : Reading) (line : ℕ) (broken : Option ℕ) → BreakNumberIsWithinLimits broken → may_log s.stage ≡ true
    → read_lines line s (split_text 10 (mark_line broken)) ≡ Ok (reading_at_end s broken)
end_mark_is_read s line None is may =
    ap (λ t. read_lines line s (split_text 10 t)) lawful_ends
    ∙ line_read line s (reading_at_end s None) (codes "lawful") [] refl (lawful_added s may)
end_mark_is_read s line (Some number) is may =
    ap (λ t. read_lines line s (split_text 10 t)) (void_ends number)
    ∙ line_read line s (reading_at_end s (Some number)) (void_line number) [] (void_whole number) (void_added s number may is)
