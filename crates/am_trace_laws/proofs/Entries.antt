-- An entry that is printed is read.
use Rattle.am_trace_laws.proofs.Words.{◌≡◌, ℕ, ◌<◌, ◌≤◌, ◌==◌, ◌&&◌, zero, suc, Bool, true, false, List, [], ◌∷◌, ◌++◌, length, lit<, refl, ap, ◌∙◌, arith, Result}
use Rattle.am_trace_laws.proofs.Words.{Ok, Err, Option, Some, None, if◌then◌else◌, codes, decimal, append-nil, nat_tests, greatest_number, most_bytes_of_body, IsSetOfNames, Rules}
use Rattle.am_trace_laws.proofs.Words.{GroupView, Entry, FieldFault, Form, cut_of, name_text, stamp_text, names_text, body_text, resilience_text, entry_text}
use Rattle.am_trace_laws.proofs.Words.{Outline, data_parts, data_of, resilience_in_text, resilience_in, view_in_text, outline_of, data_in, number_up_to_decimal, name_of_name_text}
use Rattle.am_trace_laws.proofs.Words.{names_of_names_text, decimal_is_word, name_text_is_word, stamp_text_is_word, names_text_is_word, cut_of_word_at_blank, cut_of_whole_word, stamp_of_stamp_text, bytes_of_body_text, IsSayable}
use Rattle.am_trace_laws.proofs.Words.{IsRaised}
use Rattle.am_trace_laws.proofs.{Chars.EntryBodyIsBytes, Outcomes.two_of_word_and_rest, Outcomes.EntryTextIsRead}
use Rattle.am_base.specs.declared.entry.Entry.TheVariants as entries
use Rattle.am_audit_defs.specs.declared.outline.Outline.TheVariants as outlines

-- a resilience as it is read, where the founding's is read as 0
abbrev pub resilience_as_read : Rules → ℕ → ℕ
resilience_as_read rules resilience = if resilience == rules.resilience then 0 else resilience

-- what an entry's text is read as
abbrev pub outline_of_entry_as_read : Rules → Entry → Outline
outline_of_entry_as_read rules (entries.Data from req body) = outlines.Data from req
outline_of_entry_as_read rules (entries.Join name) = outlines.Join name
outline_of_entry_as_read rules (entries.Leave name) = outlines.Leave name
outline_of_entry_as_read rules (entries.View v) = outlines.View (record v { resilience = resilience_as_read rules v.resilience })

pub sayable_entry_body_is_bytes : (entry : Entry) → IsSayable entry → EntryBodyIsBytes entry
sayable_entry_body_is_bytes (entries.Data from req body) say = say.2
sayable_entry_body_is_bytes _ say = tt

-- ---- views

-- a resilience's word, or none
abbrev word_by : Bool → ℕ → Option (List ℕ)
word_by true resilience = None
word_by false resilience = Some (114 ∷ decimal resilience)

text_by : Bool → ℕ → List ℕ
text_by b resilience = if b then [] else codes " r" ++ decimal resilience

cut_by : (b : Bool) (members : List ℕ) (resilience : ℕ) → cut_of 32 (names_text members ++ text_by b resilience) ≡ (names_text members, word_by b resilience)
unfolding text_by
cut_by true members resilience = ap (cut_of 32) (append-nil (names_text members)) ∙ cut_of_whole_word (names_text members) (names_text_is_word members)
cut_by false members resilience = cut_of_word_at_blank (names_text members) (114 ∷ decimal resilience) (names_text_is_word members)

resilience_read : (b : Bool) (resilience : ℕ) → resilience ≤ 15 → (b ≡ false → 0 < resilience) → resilience_in (word_by b resilience)
    ≡ Ok (if b then 0 else resilience)
unfolding resilience_in_text
resilience_read true resilience low some = refl
resilience_read false resilience low some =
    let above = some refl in
    let other : (resilience == 0) ≡ false = grind (arith, nat_tests) in
    let filled : (length (114 ∷ decimal resilience) == 0) ≡ false = grind (arith, nat_tests) in
    rw (number_up_to_decimal 15 resilience low (lit< tt), other, filled) refl

view_read : (b : Bool) (v : GroupView) → v.stamp.round ≤ greatest_number → v.stamp.by < 256 → IsSetOfNames v.members → v.resilience ≤ 15
    → (b ≡ false → 0 < v.resilience) → view_in_text (stamp_text v.stamp ++ 32 ∷ (names_text v.members ++ text_by b v.resilience))
    ≡ Ok (outlines.View (record v { resilience = if b then 0 else v.resilience }))
unfolding view_in_text
view_read b v round by set low some =
    rw (
      two_of_word_and_rest (stamp_text v.stamp) (names_text v.members ++ text_by b v.resilience) (stamp_text_is_word v.stamp),
      stamp_of_stamp_text v.stamp round by,
      cut_by b v.members v.resilience,
      names_of_names_text v.members set,
      resilience_read b v.resilience low some,
    ) refl

-- ---- entries

data_read : (from req : ℕ) (body : List ℕ) → from < 256 → req ≤ greatest_number
    → data_parts (name_text from ++ 32 ∷ (decimal req ++ 32 ∷ body_text body)) ≡ Ok (from, req, body_text body)
unfolding data_parts
data_read from req body low within =
    rw (
      two_of_word_and_rest (name_text from) (decimal req ++ 32 ∷ body_text body) (name_text_is_word from),
      name_of_name_text from low,
      two_of_word_and_rest (decimal req) (body_text body) (decimal_is_word req),
      number_up_to_decimal greatest_number req within (lit< tt),
    ) refl

pub outline_of_entry_text : (rules : Rules) (entry : Entry) → IsSayable entry → IsRaised rules entry → outline_of (entry_text rules entry) ≡ Ok (outline_of_entry_as_read rules entry)
unfolding outline_of entry_text data_of resilience_text text_by
outline_of_entry_text rules (entries.Data from req body) say raised =
    rw (data_read from req body say.0 say.1, bytes_of_body_text most_bytes_of_body body say.2 say.3) refl
outline_of_entry_text rules (entries.Join name) say raised = rw (name_of_name_text name say) refl
outline_of_entry_text rules (entries.Leave name) say raised = rw (name_of_name_text name say) refl
outline_of_entry_text rules (entries.View v) say raised =
    view_read (v.resilience == rules.resilience) v say.1 say.0 say.2 say.3 (λ other. above (rules.resilience) v.resilience other raised)
  where
    above : (least given : ℕ) → (given == least) ≡ false → least ≤ given → 0 < given
    above least zero other raised = absurd (grind (arith, nat_tests))
    above least (suc before) other raised = omega arith

pub printed_entry_is_read : (rules : Rules) (entry : Entry) → IsSayable entry → IsRaised rules entry → EntryTextIsRead rules entry
printed_entry_is_read rules entry say raised = (outline_of_entry_as_read rules entry, outline_of_entry_text rules entry say raised)

-- ---- sends

-- the entry is this send, whatever its body
abbrev pub entry_is_send_of : ℕ → ℕ → Entry → Bool
entry_is_send_of from req (entries.Data f r body) = (f == from) && (r == req)
entry_is_send_of from req _ = false

abbrev pub data_of_entry_as_read : Entry → Result (ℕ × ℕ × List ℕ) FieldFault
data_of_entry_as_read (entries.Data from req body) = Ok (from, req, body_text body)
data_of_entry_as_read _ = Err Form

pub data_in_entry_text : (rules : Rules) (entry : Entry) → IsSayable entry → data_in (entry_text rules entry) ≡ data_of_entry_as_read entry
unfolding data_in entry_text
data_in_entry_text rules (entries.Data from req body) say = data_read from req body say.0 say.1
data_in_entry_text rules _ say = refl
