-- What the code keeps of the lines that it went through, of which the last stands first.
use Rattle.std.specs.Prelude.{◌≡◌, ℕ, ◌+◌, ◌*◌, ◌<◌, ◌==◌, ◌&&◌, Bool, false, Result, Ok, Err, nat_lt}
use Rattle.std.specs.Prelude.{if◌then◌else◌, List, [], ◌∷◌, length, slice_index, slice_get, slice_index_or, Option, Some, None}
use Rattle.std.specs.Ordering.{nat_cmp}
use Rattle.std.specs.BTreeMap.{BTreeMap, get}
use Rattle.am_group.specs.Journals.{item_at}
use Rattle.am_text_defs.specs.declared.fault.FieldFault.{FieldFault}
use Rattle.am_audit_defs.specs.declared.verdict.Verdict.{Verdict}
use Rattle.am_audit_defs.specs.Fields.{data_in}
use Rattle.am_audit_defs.specs.Lines.{Line}
use Rattle.am_audit_defs.specs.Verdicts.{last_of, first_with, or_else, twice_by, once_more, count_of, is_text}

-- an index is that of the line that was found
abbrev pub IsIndexOfFound : List Line → Option ℕ → Option Line → Type 0
IsIndexOfFound logs None found = found ≡ None
IsIndexOfFound logs (Some at) found = (found ≡ slice_get logs at) × (at < length logs)

-- ---- sends by one number

-- a send's name and request as one number
abbrev pub send_key : ℕ → ℕ → ℕ
send_key from req = from * 4294967296 + req

abbrev pub has_send_key : ℕ → Result (ℕ × ℕ × List ℕ) FieldFault → Bool
has_send_key key (Ok parts) = send_key parts.0 parts.1 == key
has_send_key key (Err fault) = false

abbrev pub first_by_key : ℕ → List Line → Option ℕ
first_by_key key [] = None
first_by_key key (line ∷ before) = or_else (first_by_key key before) (if has_send_key key (data_in line.text) then Some line.number else None)

abbrev pub twice_by_key : List Line → Result (ℕ × ℕ × List ℕ) FieldFault → ℕ → Option Verdict
twice_by_key before (Err fault) number = None
twice_by_key before (Ok sent) number = twice_by (first_by_key (send_key sent.0 sent.1) before) sent.0 sent.1 number

abbrev pub stands_by_key : ℕ → ℕ → List (List ℕ) → Option (Option ℕ)
stands_by_key number key [] = None
stands_by_key number key (text ∷ texts) = if has_send_key key (data_in text) then Some (once_more number (stands_by_key (number + 1) key texts))
    else stands_by_key (number + 1) key texts

-- each send's first number
abbrev pub AreFirstNumbers : BTreeMap ℕ ℕ → List Line → Type 0
AreFirstNumbers sent before = (key : ℕ) → get nat_cmp sent key ≡ first_by_key key before

-- the last number of each name
abbrev pub AreLastNumbers : List (Option ℕ) → List Line → Type 0
AreLastNumbers last before = (name : ℕ) → name < 256 → slice_index_or last name None ≡ last_of name before

-- a pass through lines kept the last number of each name, and what it finds in the rest is what it finds in all of them
pub record IsPassing (first : List Line → List Line → Option Verdict) (last : List (Option ℕ)) (rest lines : List Line) : Type 0 where
  pub before : List Line
  pub size : length last ≡ 256
  pub numbers : AreLastNumbers last before
  pub finds : first before rest ≡ first [] lines

-- the number of each name's last line, the index of the first with each number, and the number of the first with each send
pub record IsKept (logs : List Line) (last : List (Option ℕ)) (first sent : BTreeMap ℕ ℕ) (before : List Line) : Type 0 where
  pub numbers : AreLastNumbers last before
  pub lines : (number : ℕ) → IsIndexOfFound logs (get nat_cmp first number) (first_with number before)
  pub sends : AreFirstNumbers sent before

-- how many lines each name has
pub record CountsEachName (counts : List ℕ) (lines : List Line) : Type 0 where
  pub size : length counts ≡ 256
  pub counted : (name : ℕ) → name < 256 → slice_index counts name ≡ count_of name lines

-- the number of a name's first line, 0 where it has none
abbrev pub first_number : ℕ → List Line → ℕ
first_number name [] = 0
first_number name (line ∷ lines) = if line.name == name then line.number else first_number name lines

-- a take is the entry after so many of a log, which has this first number and length, where the list has it at its number
abbrev pub is_next : List (List ℕ) → ℕ → ℕ → ℕ → Line → Bool
is_next group first count before taken = nat_lt before count && ((taken.number == first + before) && is_text (item_at group taken.number) taken.text)
