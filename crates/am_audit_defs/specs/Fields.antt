-- What the words of a text's lines tell: entries, and events that count.
use Rattle.std.specs.Prelude.{ℕ, List, length, drop, slice_index, Option, Some, None, Result, Ok, Err, Bool, false, not, ◌||◌, ◌&&◌, ◌==◌, if◌then◌else◌}
use Rattle.std.specs.Prelude.{codes}
use Rattle.am_base.specs.Most.{most_bytes_of_body}
use Rattle.am_base.specs.Names.{name_of_place_and_life}
use Rattle.am_text_defs.specs.declared.fault.FieldFault.{FieldFault}
use Rattle.am_text_defs.specs.declared.fault.FieldFault.TheVariants.{Form}
use Rattle.am_text_defs.specs.Fields.{cut_of, same, and_then, number_up_to, number_in_text, name_in_text, stamp_in_text, names_in_text, bytes_of}
use Rattle.am_audit_defs.specs.declared.outline.Outline.{Outline}
use Rattle.am_audit_defs.specs.declared.outline.Outline.TheVariants as outlines

-- ---- words

abbrev pub with_rest : List ℕ → Option (List ℕ) → Result (List ℕ × List ℕ) FieldFault
with_rest first None = Err Form
with_rest first (Some rest) = Ok (first, rest)

-- what stands before the first blank, and what after it
abbrev pub two_of : List ℕ → Result (List ℕ × List ℕ) FieldFault
two_of text = with_rest (cut_of 32 text).0 (cut_of 32 text).1

-- what a word must be
abbrev pub expect : List ℕ → List ℕ → Result (Unit {0}) FieldFault
expect word text = if same text word then Ok tt else Err Form

-- a body within its limit
abbrev pub is_body : List ℕ → Result (Unit {0}) FieldFault
is_body word = and_then (bytes_of most_bytes_of_body word) (λ bytes. Ok tt)

-- ---- entries

-- the sender, the request and the body of what stands after the word data
unfoldable pub data_parts : List ℕ → Result (ℕ × ℕ × List ℕ) FieldFault
data_parts text = and_then (two_of text) (λ first. and_then (name_in_text first.0) (λ from.
    and_then (two_of first.1) (λ second. and_then (number_in_text second.0) (λ req. Ok (from, req, second.1)))))

unfoldable pub data_of : List ℕ → Result Outline FieldFault
data_of text = and_then (data_parts text) (λ parts. and_then (is_body parts.2) (λ checked. Ok (outlines.Data parts.0 parts.1)))

-- a resilience after its letter, which isn't 0
unfoldable pub resilience_in_text : List ℕ → Result ℕ FieldFault
resilience_in_text word = if (length word == 0) || not (slice_index word 0 == 114) then Err Form
    else and_then (number_up_to 15 (drop 1 word)) (λ resilience. if resilience == 0 then Err Form else Ok resilience)

abbrev pub resilience_in : Option (List ℕ) → Result ℕ FieldFault
resilience_in None = Ok 0
resilience_in (Some word) = resilience_in_text word

unfoldable pub view_in_text : List ℕ → Result Outline FieldFault
view_in_text text = and_then (two_of text) (λ first. and_then (stamp_in_text first.0) (λ stamp.
    and_then (names_in_text (cut_of 32 first.1).0) (λ members. and_then (resilience_in (cut_of 32 first.1).1) (λ resilience.
    Ok (outlines.View (record { stamp = stamp; members = members; resilience = resilience }))))))

-- an entry without its body
unfoldable pub outline_of : List ℕ → Result Outline FieldFault
outline_of text = and_then (two_of text) (λ first.
    if same first.0 (codes "data") then data_of first.1
    else if same first.0 (codes "join") then and_then (name_in_text first.1) (λ name. Ok (outlines.Join name))
    else if same first.0 (codes "leave") then and_then (name_in_text first.1) (λ name. Ok (outlines.Leave name))
    else if same first.0 (codes "view") then view_in_text first.1
    else Err Form)

-- the sender, the request and the body of an entry that is data
unfoldable pub data_in : List ℕ → Result (ℕ × ℕ × List ℕ) FieldFault
data_in text = and_then (two_of text) (λ first. and_then (expect (codes "data") first.0) (λ checked. data_parts first.1))

-- ---- events that count

-- a number of an outcome with this word
unfoldable pub told_number : List ℕ → List ℕ → Result ℕ FieldFault
told_number word outcome = and_then (two_of outcome) (λ first. and_then (expect word first.0) (λ checked. number_in_text first.1))

-- a send: its place, its request, and its body
unfoldable pub send_of : List ℕ → List ℕ → Result (ℕ × ℕ × List ℕ) FieldFault
send_of rest outcome = and_then (two_of rest) (λ first. and_then (number_up_to 15 first.0) (λ place. and_then (is_body first.1) (λ checked.
    and_then (told_number (codes "queued") outcome) (λ req. Ok (place, req, first.1)))))

-- an answer: its place, its request, and the number of the send
unfoldable pub answer_fields_of : List ℕ → List ℕ → Result (ℕ × ℕ × ℕ) FieldFault
answer_fields_of rest outcome = and_then (two_of rest) (λ first. and_then (number_up_to 15 first.0) (λ place. and_then (number_in_text first.1) (λ asked.
    and_then (two_of outcome) (λ told. and_then (expect (codes "sent") told.0) (λ checked. and_then (two_of told.1) (λ last.
    and_then (expect first.1 last.0) (λ again. and_then (number_in_text last.1) (λ number. Ok (place, asked, number)))))))))

-- a take: its place, its number, and its entry
unfoldable pub take_of : List ℕ → List ℕ → Result (ℕ × ℕ × List ℕ) FieldFault
take_of rest outcome = and_then (number_up_to 15 rest) (λ place. and_then (two_of outcome) (λ told. and_then (expect (codes "took") told.0) (λ checked.
    and_then (two_of told.1) (λ last. and_then (number_in_text last.0) (λ number. and_then (outline_of last.1) (λ entry. Ok (place, number, last.1)))))))

-- a return: its place, and the name of its life, 1 to 16
unfoldable pub return_of : List ℕ → List ℕ → Result (ℕ × ℕ) FieldFault
return_of rest outcome = and_then (number_up_to 15 rest) (λ place. and_then (two_of outcome) (λ told. and_then (expect (codes "returned") told.0) (λ checked.
    and_then (number_up_to 16 told.1) (λ life. if life == 0 then Err Form else Ok (place, name_of_place_and_life place life)))))

-- whether data is this send
abbrev pub is_send : ℕ → ℕ → Result (ℕ × ℕ × List ℕ) FieldFault → Bool
is_send from req (Ok parts) = (parts.0 == from) && (parts.1 == req)
is_send from req (Err fault) = false
