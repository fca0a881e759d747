-- What a text is read as, line by line.
use Rattle.std.specs.Prelude.{ℕ, ◌+◌, ◌==◌, ◌&&◌, Bool, true, false, List, [], ◌∷◌, ◌++◌, length}
use Rattle.std.specs.Prelude.{drop, slice_index, slice_set, Option, Some, None, Result, Ok, Err}
use Rattle.std.specs.Prelude.{if◌then◌else◌, codes}
use Rattle.std.specs.List.{range_with_len}
use Rattle.am_text_defs.specs.declared.fault.FieldFault.{FieldFault}
use Rattle.am_text_defs.specs.declared.fault.FieldFault.TheVariants.{Form}
use Rattle.am_text_defs.specs.Fields.{cut_of, split_text, onto_cut, same, and_then, number_in_text, name_in_text}
use Rattle.am_audit_defs.specs.Fields.{two_of, expect, outline_of, send_of, answer_fields_of, take_of, return_of}
use Rattle.am_audit_defs.specs.declared.line.AnsweredSend.{AnsweredSend}
use Rattle.am_audit_defs.specs.declared.line.TextStage.{TextStage}
use Rattle.am_audit_defs.specs.declared.line.TextStage.TheVariants as stages

-- a name's number with a text: a send's request and body; an entry's number and the entry, in a log or as it was taken
pub record Line : Type 0 where
  pub name : ℕ
  pub number : ℕ
  pub text : List ℕ

-- what was read so far: which lines may come, the name at each place, how many events there were, and what counts
pub record Reading : Type 0 where
  pub stage : TextStage
  pub names : List ℕ
  pub events : ℕ
  pub sends : List Line
  pub answers : List AnsweredSend
  pub takes : List Line
  pub group : List (List ℕ)
  pub logs : List Line
  pub void_from : Option ℕ

abbrev pub nothing_read : Reading
nothing_read = record {
  stage = stages.Events;
  names = range_with_len 0 16;
  events = 0;
  sends = [];
  answers = [];
  takes = [];
  group = [];
  logs = [];
  void_from = None;
}

abbrev pub may_event : TextStage → Bool
may_event stages.Events = true
may_event _ = false

abbrev pub may_list : TextStage → Bool
may_list stages.Events = true
may_list stages.List = true
may_list _ = false

abbrev pub may_log : TextStage → Bool
may_log stages.List = true
may_log stages.Logs = true
may_log _ = false

abbrev pub is_text_end : TextStage → Bool
is_text_end stages.End = true
is_text_end _ = false

-- ---- events

-- whether a text begins with a mark between blanks
abbrev pub begins_mark : ℕ → List ℕ → Bool
begins_mark mark text = (slice_index text 0 == 32) && ((slice_index text 1 == mark) && (slice_index text 2 == 32))

-- what stands before the first mark between blanks, and what after it
abbrev pub mark_cut : ℕ → List ℕ → (List ℕ × Option (List ℕ))
mark_cut mark [] = ([], None)
mark_cut mark (c ∷ cs) = if begins_mark mark (c ∷ cs) then ([], Some (drop 2 cs)) else onto_cut c (mark_cut mark cs)

abbrev pub with_send : Reading → Result (ℕ × ℕ × List ℕ) FieldFault → Reading
with_send s (Ok found) = record s { sends = s.sends ++ record { name = slice_index s.names found.0; number = found.1; text = found.2 } ∷ [] }
with_send s (Err fault) = s

abbrev pub with_sent_answer : Reading → Result (ℕ × ℕ × ℕ) FieldFault → Reading
with_sent_answer s (Ok found) = record s { answers = s.answers ++ record { name = slice_index s.names found.0; req = found.1; number = found.2 } ∷ [] }
with_sent_answer s (Err fault) = s

abbrev pub with_take : Reading → Result (ℕ × ℕ × List ℕ) FieldFault → Reading
with_take s (Ok found) = record s { takes = s.takes ++ record { name = slice_index s.names found.0; number = found.1; text = found.2 } ∷ [] }
with_take s (Err fault) = s

abbrev pub with_return : Reading → Result (ℕ × ℕ) FieldFault → Reading
with_return s (Ok found) = record s { names = slice_set s.names found.0 found.1 }
with_return s (Err fault) = s

-- with an event, where it is of a kind that counts: its act's word, what stands after it, and its outcome
unfoldable pub counted : Reading → Result (List ℕ × List ℕ) FieldFault → List ℕ → Reading
counted s (Err fault) outcome = s
counted s (Ok act) outcome =
    if same act.0 (codes "send") then with_send s (send_of act.1 outcome)
    else if same act.0 (codes "done") then with_sent_answer s (answer_fields_of act.1 outcome)
    else if same act.0 (codes "take") then with_take s (take_of act.1 outcome)
    else if same act.0 (codes "return") then with_return s (return_of act.1 outcome)
    else s

-- with an event's line after its number: its act, and what stands after the first mark
abbrev pub with_event : Reading → List ℕ → Option (List ℕ) → Result Reading FieldFault
with_event s act None = Err Form
with_event s act (Some behind) = Ok (counted (record s { events = s.events + 1 }) (two_of act) (mark_cut 124 behind).0)

unfoldable pub add_event : Reading → List ℕ → List ℕ → Result Reading FieldFault
add_event s number rest = and_then (number_in_text number) (λ n. if may_event s.stage && (n == s.events + 1)
    then with_event s (mark_cut 58 rest).0 (mark_cut 58 rest).1 else Err Form)

-- ---- the other lines

unfoldable pub add_entry : Reading → List ℕ → Result Reading FieldFault
add_entry s rest = and_then (two_of rest) (λ first. and_then (number_in_text first.0) (λ n. if may_list s.stage && (n == length s.group + 1)
    then and_then (outline_of first.1) (λ entry. Ok (record s { stage = stages.List; group = s.group ++ first.1 ∷ [] })) else Err Form))

-- a log's entry, after its name
unfoldable pub logged : Reading → ℕ → List ℕ → Result Reading FieldFault
logged s name rest = if same rest (codes "empty") then Ok (record s { stage = stages.Logs })
    else and_then (two_of rest) (λ first. and_then (number_in_text first.0) (λ n. and_then (outline_of first.1) (λ entry.
    Ok (record s { stage = stages.Logs; logs = s.logs ++ record { name = name; number = n; text = first.1 } ∷ [] }))))

unfoldable pub add_log : Reading → List ℕ → Result Reading FieldFault
add_log s rest = and_then (two_of rest) (λ first. and_then (name_in_text first.0) (λ name. if may_log s.stage then logged s name first.1 else Err Form))

abbrev pub add_end : Reading → Option ℕ → Result Reading FieldFault
add_end s void_from = if may_log s.stage then Ok (record s { stage = stages.End; void_from = void_from }) else Err Form

-- the last line of a text that is void
unfoldable pub add_void : Reading → List ℕ → Result Reading FieldFault
add_void s rest = and_then (two_of rest) (λ first. and_then (expect (codes "from") first.0) (λ checked. and_then (number_in_text first.1) (λ n. add_end s (Some n))))

-- with one line more, where it may come
unfoldable pub add_line : Reading → List ℕ → Result Reading FieldFault
add_line s line = if same line (codes "lawful") then add_end s None else and_then (two_of line) (λ first.
    if same first.0 (codes "group") then add_entry s first.1
    else if same first.0 (codes "log") then add_log s first.1
    else if same first.0 (codes "void") then add_void s first.1
    else add_event s first.0 first.1)

-- ---- a text

-- after the last newline nothing may stand
abbrev pub finish_text : ℕ → Reading → List ℕ → Result Reading ℕ
finish_text number s rest = if (length rest == 0) && is_text_end s.stage then Ok s else Err number

-- what is done with a line's reading, or the number of the bad line
abbrev pub read_on : ℕ → Result Reading FieldFault → (Reading → Result Reading ℕ) → Result Reading ℕ
read_on number (Ok s) next = next s
read_on number (Err fault) next = Err number

-- lines from this number on, the last of which is what stands after the last newline; or the number of the first bad line
abbrev pub read_lines : ℕ → Reading → List (List ℕ) → Result Reading ℕ
read_lines number s [] = Err number
read_lines number s (rest ∷ []) = finish_text number s rest
read_lines number s (line ∷ next ∷ lines) = read_on number (add_line s line) (λ t. read_lines (number + 1) t (next ∷ lines))

-- a text after its first line
abbrev pub read_behind : Option (List ℕ) → Result Reading ℕ
read_behind None = Err 1
read_behind (Some text) = read_lines 2 nothing_read (split_text 10 text)

-- what a text is read as, or its first bad line; a first line that begins with a brace is passed over
abbrev pub read_text : List ℕ → Result Reading ℕ
read_text text = if slice_index text 0 == 123 then read_behind (cut_of 10 text).1 else read_lines 1 nothing_read (split_text 10 text)
