-- What a line says to a node.
use Rattle.std.specs.Prelude.{ℕ, List, drop, length, codes, Option, Some, None, Result, Ok, Err, Bool, ◌==◌, nat_lt, if◌then◌else◌, slice_index}
use Rattle.am_base.specs.Founding.{Rules}
use Rattle.am_base.specs.Most.{most_bytes_of_body, most_bytes_of_packet}
use Rattle.am_base.specs.declared.event.NodeEvent.TheVariants as does
use Rattle.am_text_defs.specs.declared.fault.FieldFault.{FieldFault}
use Rattle.am_text_defs.specs.declared.fault.FieldFault.TheVariants as faults
use Rattle.am_text_defs.specs.Fields.{cut_of, same, and_then, number_up_to, number_in_text, name_in_text, names_in_text, bytes_of}
use Rattle.am_node_lines.specs.declared.line.BadLine.{BadLine}
use Rattle.am_node_lines.specs.declared.line.BadLine.TheVariants.{NoSuchWord, Form, Limit, TooLong}
use Rattle.am_node_lines.specs.declared.line.Line.{Line}
use Rattle.am_node_lines.specs.declared.line.Line.TheVariants as line
use Rattle.am_node_lines.specs.declared.line.Word.{Word}
use Rattle.am_node_lines.specs.declared.line.Word.TheVariants as word

-- of bytes in a line
abbrev pub most_line : ℕ
most_line = 4096

-- ---- bad lines

-- the number of a cause
abbrev pub bad_line_number : BadLine → ℕ
bad_line_number NoSuchWord = 1
bad_line_number Form = 2
bad_line_number Limit = 3
bad_line_number TooLong = 4

abbrev pub bad_for : FieldFault → BadLine
bad_for faults.Form = Form
bad_for faults.Limit = Limit

-- the line of a word that was read, or a bad one
abbrev pub line_from : {A : Type 0} → Result A FieldFault → (A → Line) → Line
line_from (Ok x) next = next x
line_from (Err fault) next = line.Bad (bad_for fault)

-- ---- words

abbrev pub word_of : List ℕ → Option Word
word_of text =
    if same text (codes "hear") then Some word.Hear
    else if same text (codes "tick") then Some word.Tick
    else if same text (codes "take") then Some word.Take
    else if same text (codes "send") then Some word.Send
    else if same text (codes "done") then Some word.Done
    else if same text (codes "join") then Some word.Join
    else if same text (codes "state") then Some word.State
    else if same text (codes "leave") then Some word.Leave
    else if same text (codes "reset") then Some word.Reset
    else if same text (codes "ask") then Some word.Ask
    else if same text (codes "giveup") then Some word.GiveUp
    else if same text (codes "info") then Some word.Info
    else None

-- the line of a word alone
abbrev pub only_word : Word → Line
only_word word.Take = line.Does does.Take
only_word word.Join = line.Does does.Join
only_word word.State = line.Does does.State
only_word word.Leave = line.Does does.Leave
only_word word.Tick = line.Does does.Tick
only_word word.Info = line.Info
only_word _ = line.Bad Form

-- ---- what stands after a word

-- the number of a request or a round: 1 to 2,000,000,000
abbrev pub request_number_of : List ℕ → Result ℕ FieldFault
request_number_of text = and_then (number_in_text text) (λ n. if n == 0 then Err faults.Limit else Ok n)

-- how many members a view is to have at least: 1 to 16
abbrev pub reset_least_of : List ℕ → Result ℕ FieldFault
reset_least_of text = and_then (number_up_to 16 text) (λ n. if n == 0 then Err faults.Limit else Ok n)

-- a resilience after its letter, or the founding's where none is said
abbrev pub line_resilience : Rules → Option (List ℕ) → Result ℕ FieldFault
line_resilience rules None = Ok rules.resilience
line_resilience rules (Some text) = if slice_index text 0 == 114 then number_up_to 15 (drop 1 text) else Err faults.Form

abbrev pub reset_line : Rules → List ℕ → Line
reset_line rules rest = line_from (reset_least_of (cut_of 32 rest).0)
    (λ least. line_from (line_resilience rules (cut_of 32 rest).1) (λ resilience. line.Does (does.Reset least resilience)))

-- whether a letter is for any life of its places
abbrev pub is_for_any : List ℕ → Bool
is_for_any text = slice_index text 0 == 42

-- the names that a letter is for
abbrev pub addressees_of : List ℕ → Result (List ℕ) FieldFault
addressees_of text = names_in_text (if is_for_any text then drop 1 text else text)

-- a letter's bytes
abbrev pub letter_line : Bool → List ℕ → Option (List ℕ) → Line
letter_line any to None = line.Bad Form
letter_line any to (Some text) = line_from (bytes_of most_bytes_of_packet text) (λ bytes. line.Hears any to bytes)

abbrev pub hear_line : List ℕ → Line
hear_line rest = line_from (addressees_of (cut_of 32 rest).0) (λ to. letter_line (is_for_any (cut_of 32 rest).0) to (cut_of 32 rest).1)

-- ---- lines

-- a word with something after it
abbrev pub more_line : Rules → Word → List ℕ → Line
more_line rules word.Send rest = line_from (bytes_of most_bytes_of_body rest) (λ body. line.Does (does.Send body))
more_line rules word.Done rest = line_from (request_number_of rest) (λ req. line.Does (does.Done req))
more_line rules word.Reset rest = reset_line rules rest
more_line rules word.Ask rest = line_from (request_number_of rest) (λ round. line.Does (does.Ask round))
more_line rules word.GiveUp rest = line_from (name_in_text rest) (λ name. line.Does (does.GiveUp name))
more_line rules word.Hear rest = hear_line rest
more_line rules _ rest = line.Bad Form

abbrev pub line_by : Rules → Option Word → Option (List ℕ) → Line
line_by rules None rest = line.Bad NoSuchWord
line_by rules (Some w) None = only_word w
line_by rules (Some w) (Some rest) = more_line rules w rest

-- what a line says
unfoldable pub node_line_of : Rules → List ℕ → Line
node_line_of rules text =
    if nat_lt most_line (length text) then line.Bad TooLong
    else line_by rules (word_of (cut_of 32 text).0) (cut_of 32 text).1
