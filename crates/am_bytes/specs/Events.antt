-- What bytes ask of a node: events. A number of so many bytes has its most significant byte first.
use Rattle.std.specs.Prelude.{ℕ, List, [], ◌∷◌, ◌++◌, drop, length, Option, Some, None, Result, Ok, Err, Bool, ◌==◌, ◌&&◌, nat_lt, nat_le, if◌then◌else◌, slice_index}
use Rattle.byteorder.specs.Endian.{big_number, big_bytes}
use Rattle.am_base.specs.Most.{greatest_number, most_bytes_of_body, most_bytes_of_packet}
use Rattle.am_base.specs.declared.event.NodeEvent.TheVariants as does
use Rattle.am_packet.specs.Spelling.{flag_byte, set_bytes}
use Rattle.am_packet.specs.Reading.{Read, flag_at, read_set_at}
use Rattle.am_text_defs.specs.declared.fault.FieldFault.{FieldFault}
use Rattle.am_text_defs.specs.declared.fault.FieldFault.TheVariants as faults
use Rattle.am_node_lines.specs.declared.line.BadLine.TheVariants.{NoSuchWord, Form, Limit, TooLong}
use Rattle.am_node_lines.specs.declared.line.Line.{Line}
use Rattle.am_node_lines.specs.declared.line.Line.TheVariants as line
use Rattle.am_node_lines.specs.declared.line.Word.{Word}
use Rattle.am_node_lines.specs.declared.line.Word.TheVariants as word
use Rattle.am_node_lines.specs.Lines.{most_line, line_from, only_word}

-- ---- kinds

-- the word that an event of this kind stands for
unfoldable pub word_at : ℕ → Option Word
word_at kind =
    if kind == 1 then Some word.Tick
    else if kind == 2 then Some word.Take
    else if kind == 3 then Some word.Join
    else if kind == 4 then Some word.Leave
    else if kind == 5 then Some word.State
    else if kind == 6 then Some word.Info
    else if kind == 16 then Some word.Send
    else if kind == 17 then Some word.Done
    else if kind == 18 then Some word.Ask
    else if kind == 19 then Some word.GiveUp
    else if kind == 20 then Some word.Reset
    else if kind == 21 then Some word.Hear
    else None

-- ---- fields

-- what stands in a packet's form
abbrev pub field_of : {A : Type 0} → Read A → Result A FieldFault
field_of (Ok x) = Ok x
field_of (Err refusal) = Err faults.Form

-- the number of a request or a round, 1 to 2,000,000,000
unfoldable pub count_in : List ℕ → Result ℕ FieldFault
count_in fields =
    if length fields == 4
    then (if nat_lt 0 (big_number 4 fields) && nat_le (big_number 4 fields) greatest_number then Ok (big_number 4 fields) else Err faults.Limit)
    else Err faults.Form

-- a name alone
unfoldable pub name_in : List ℕ → Result ℕ FieldFault
name_in fields = if length fields == 1 then Ok (slice_index fields 0) else Err faults.Form

-- a body alone
unfoldable pub body_in : List ℕ → Result (List ℕ) FieldFault
body_in fields = if nat_le (length fields) most_bytes_of_body then Ok fields else Err faults.Limit

-- a packet's bytes
unfoldable pub packet_bytes_in : List ℕ → Result (List ℕ) FieldFault
packet_bytes_in fields = if nat_le (length fields) most_bytes_of_packet then Ok fields else Err faults.Limit

-- a least size of 1 to 16 and a resilience of at most 15
abbrev pub are_sizes : ℕ → ℕ → Bool
are_sizes least resilience = nat_lt 0 least && (nat_le least 16 && nat_le resilience 15)

abbrev pub sized : ℕ → ℕ → Line
sized least resilience = if are_sizes least resilience then line.Does (does.Reset least resilience) else line.Bad Limit

unfoldable pub reset_in_bytes : List ℕ → Line
reset_in_bytes fields = if length fields == 2 then sized (slice_index fields 0) (slice_index fields 1) else line.Bad Form

-- a letter for the names of a set, or with the flag for any life of their places
unfoldable pub hear_in : List ℕ → Line
hear_in fields =
    if nat_lt (length fields) 11 then line.Bad Form
    else line_from (field_of (flag_at fields 0)) (λ any. line_from (field_of (read_set_at fields 1))
    (λ to. line_from (packet_bytes_in (drop 11 fields)) (λ bytes. line.Hears any to bytes)))

-- ---- events

-- the event of a word that stands alone
abbrev pub alone : Word → List ℕ → Line
alone w fields = if length fields == 0 then only_word w else line.Bad Form

-- the event of a word with these fields
unfoldable pub event_by : Option Word → List ℕ → Line
event_by None fields = line.Bad NoSuchWord
event_by (Some word.Send) fields = line_from (body_in fields) (λ body. line.Does (does.Send body))
event_by (Some word.Done) fields = line_from (count_in fields) (λ req. line.Does (does.Done req))
event_by (Some word.Ask) fields = line_from (count_in fields) (λ round. line.Does (does.Ask round))
event_by (Some word.GiveUp) fields = line_from (name_in fields) (λ name. line.Does (does.GiveUp name))
event_by (Some word.Reset) fields = reset_in_bytes fields
event_by (Some word.Hear) fields = hear_in fields
event_by (Some word.Take) fields = alone word.Take fields
event_by (Some word.Join) fields = alone word.Join fields
event_by (Some word.State) fields = alone word.State fields
event_by (Some word.Leave) fields = alone word.Leave fields
event_by (Some word.Tick) fields = alone word.Tick fields
event_by (Some word.Info) fields = alone word.Info fields

-- what bytes ask: a byte of kind, and the kind's fields
unfoldable pub event_of : List ℕ → Line
event_of bytes =
    if nat_lt most_line (length bytes) then line.Bad TooLong
    else event_by (word_at (slice_index bytes 0)) (drop 1 bytes)

-- ---- their bytes

-- the bytes of an event; what is none, or spells what comes from elsewhere, has none
unfoldable pub event_bytes : Line → List ℕ
event_bytes (line.Does does.Tick) = 1 ∷ []
event_bytes (line.Does does.Take) = 2 ∷ []
event_bytes (line.Does does.Join) = 3 ∷ []
event_bytes (line.Does does.Leave) = 4 ∷ []
event_bytes (line.Does does.State) = 5 ∷ []
event_bytes line.Info = 6 ∷ []
event_bytes (line.Does (does.Send body)) = 16 ∷ body
event_bytes (line.Does (does.Done req)) = 17 ∷ big_bytes 4 req
event_bytes (line.Does (does.Ask round)) = 18 ∷ big_bytes 4 round
event_bytes (line.Does (does.GiveUp name)) = 19 ∷ name ∷ []
event_bytes (line.Does (does.Reset least resilience)) = 20 ∷ least ∷ resilience ∷ []
event_bytes (line.Does (does.Hear bytes)) = []
event_bytes (line.Hears any to bytes) = 21 ∷ flag_byte any ∷ [] ++ set_bytes to ++ bytes
event_bytes (line.Bad cause) = []
