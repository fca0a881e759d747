-- The verdicts on what a text was read as.
use Rattle.std.specs.Prelude.{ℕ, ◌+◌, ◌==◌, ◌&&◌, Bool, true, false, List, [], ◌∷◌, ◌++◌, filter, slice_get, option_map, unwrap_or, Option, Some, None, Result}
use Rattle.std.specs.Prelude.{Ok, Err, if◌then◌else◌, nat_le, nat_lt, codes, decimal}
use Rattle.std.specs.List.{list_all}
use Rattle.am_base.specs.Most.{greatest_number}
use Rattle.am_base.specs.Names.{has, lowest_name_of}
use Rattle.am_base.specs.Lists.{blank, after, fits}
use Rattle.am_base.specs.declared.image.Image.{Image}
use Rattle.am_base.specs.declared.entry.Entry.{Entry}
use Rattle.am_base.specs.declared.entry.Entry.TheVariants as entries
use Rattle.am_group.specs.Journals.{item_at}
use Rattle.am_group_defs.specs.Text.{name_text, newline}
use Rattle.am_text_defs.specs.declared.fault.FieldFault.{FieldFault}
use Rattle.am_text_defs.specs.Fields.{same}
use Rattle.am_audit_defs.specs.declared.outline.Outline.{Outline}
use Rattle.am_audit_defs.specs.declared.outline.Outline.TheVariants as outlines
use Rattle.am_audit_defs.specs.declared.line.AnsweredSend.{AnsweredSend}
use Rattle.am_audit_defs.specs.declared.verdict.Verdict.{Verdict}
use Rattle.am_audit_defs.specs.declared.verdict.Verdict.TheVariants as verdicts
use Rattle.am_audit_defs.specs.Fields.{outline_of, data_in, is_send}
use Rattle.am_audit_defs.specs.Lines.{Line, Reading}

-- the first of two, where there is one, and else the second
abbrev pub or_else : {A : Type 0} → Option A → Option A → Option A
or_else (Some first) second = Some first
or_else None second = second

-- ---- log lines that fault by those before them, of which the last stands first

-- the number of the last line of a name
abbrev pub last_of : ℕ → List Line → Option ℕ
last_of name [] = None
last_of name (line ∷ before) = if line.name == name then Some line.number else last_of name before

-- what is found first in lines, after those before, at each by the number of its name's last one
abbrev pub first_found : (Option ℕ → Line → Option Verdict) → List Line → List Line → Option Verdict
first_found found before [] = None
first_found found before (line ∷ lines) = or_else (found (last_of line.name before) line) (first_found found (line ∷ before) lines)

-- the first line with a number
abbrev pub first_with : ℕ → List Line → Option Line
first_with number [] = None
first_with number (line ∷ before) = or_else (first_with number before) (if line.number == number then Some line else None)

-- the number of the first line that has a send
abbrev pub first_sent : ℕ → ℕ → List Line → Option ℕ
first_sent from req [] = None
first_sent from req (line ∷ before) = or_else (first_sent from req before) (if is_send from req (data_in line.text) then Some line.number else None)

abbrev pub gap_at : Option ℕ → Line → Option Verdict
gap_at None line = None
gap_at (Some last) line = if last + 1 == line.number then None else Some (verdicts.Gap line.name line.number)

abbrev pub differs_at : Option Line → Line → Option Verdict
differs_at None line = None
differs_at (Some first) line = if same first.text line.text then None else Some (verdicts.Differs first.name line.name line.number)

abbrev pub twice_by : Option ℕ → ℕ → ℕ → ℕ → Option Verdict
twice_by None from req number = None
twice_by (Some first) from req number = if first == number then None else Some (verdicts.Twice from req)

abbrev pub twice_at : List Line → Result (ℕ × ℕ × List ℕ) FieldFault → ℕ → Option Verdict
twice_at before (Err fault) number = None
twice_at before (Ok sent) number = twice_by (first_sent sent.0 sent.1 before) sent.0 sent.1 number

abbrev pub fault_at : List Line → Line → Option Verdict
fault_at before line = or_else (gap_at (last_of line.name before) line)
    (or_else (differs_at (first_with line.number before) line) (twice_at before (data_in line.text) line.number))

abbrev pub first_fault : List Line → List Line → Option Verdict
first_fault before [] = None
first_fault before (line ∷ lines) = or_else (fault_at before line) (first_fault (line ∷ before) lines)

-- ---- log lines, answers and the list

abbrev pub is_text : Option (List ℕ) → List ℕ → Bool
is_text None text = false
is_text (Some found) text = same found text

abbrev pub astray_at : List (List ℕ) → Line → Option Verdict
astray_at group line = if is_text (item_at group line.number) line.text then None else Some (verdicts.Astray line.name line.number)

abbrev pub first_astray : List (List ℕ) → List Line → Option Verdict
first_astray group [] = None
first_astray group (line ∷ lines) = or_else (astray_at group line) (first_astray group lines)

-- a number where there was none before
abbrev pub once_more : ℕ → Option (Option ℕ) → Option ℕ
once_more number None = Some number
once_more number (Some before) = None

-- where a send stands in entries, the first of which has this number: nowhere, at one number, or at several
abbrev pub stands : ℕ → ℕ → ℕ → List (List ℕ) → Option (Option ℕ)
stands number from req [] = None
stands number from req (text ∷ texts) = if is_send from req (data_in text) then Some (once_more number (stands (number + 1) from req texts))
    else stands (number + 1) from req texts

abbrev pub is_at : ℕ → Option (Option ℕ) → Bool
is_at number (Some (Some found)) = found == number
is_at number (Some None) = false
is_at number None = false

abbrev pub lost_at : List (List ℕ) → AnsweredSend → Option Verdict
lost_at group answer = if is_at answer.number (stands 1 answer.name answer.req group) then None
    else Some (verdicts.Lost answer.name answer.req)

abbrev pub first_lost : List (List ℕ) → List AnsweredSend → Option Verdict
first_lost group [] = None
first_lost group (answer ∷ answers) = or_else (lost_at group answer) (first_lost group answers)

-- whether a log may begin so: with entry 1, a view that has its name, or with the name's Join
abbrev pub may_begin : Line → Result Outline FieldFault → Bool
may_begin line (Err fault) = false
may_begin line (Ok (outlines.Data from req)) = false
may_begin line (Ok (outlines.Join name)) = name == line.name
may_begin line (Ok (outlines.Leave name)) = false
may_begin line (Ok (outlines.View v)) = (line.number == 1) && has v.members line.name

abbrev pub early_at : Option ℕ → Line → Option Verdict
early_at (Some last) line = None
early_at None line = if may_begin line (outline_of line.text) then None else Some (verdicts.Early line.name line.number)

abbrev pub first_early : List Line → List Line → Option Verdict
first_early before lines = first_found early_at before lines

-- the entry, with nothing as a body
abbrev pub bare_entry : Outline → Entry
bare_entry (outlines.Data from req) = entries.Data from req []
bare_entry (outlines.Join name) = entries.Join name
bare_entry (outlines.Leave name) = entries.Leave name
bare_entry (outlines.View v) = entries.View v

abbrev pub is_lowest : Option ℕ → ℕ → Bool
is_lowest None name = false
is_lowest (Some lowest) name = lowest == name

-- a founders' view: round 1, the lowest of its names, each of life 1, no resilience
abbrev pub founds : Outline → Bool
founds (outlines.View v) = ((v.stamp.round == 1) && is_lowest (lowest_name_of v.members) v.stamp.by)
    && (list_all (λ life. nat_le life 1) v.members && (v.resilience == 0))
founds _ = false

abbrev pub fits_at : ℕ → Image → Result Outline FieldFault → Bool
fits_at number image (Err fault) = false
fits_at number image (Ok outline) = if number == 1 then founds outline else nat_le number greatest_number && fits image (bare_entry outline)

abbrev pub image_after : ℕ → Image → Result Outline FieldFault → Image
image_after number image (Err fault) = image
image_after number image (Ok outline) = after image number (bare_entry outline)

-- the first entry from a number on that doesn't fit what stands before it
abbrev pub first_misfit : ℕ → Image → List (List ℕ) → Option Verdict
first_misfit number image [] = None
first_misfit number image (text ∷ texts) = or_else (if fits_at number image (outline_of text) then None else Some (verdicts.Misfit number))
    (first_misfit (number + 1) (image_after number image (outline_of text)) texts)

-- ---- events

abbrev pub skipped_at : Option ℕ → Line → Option Verdict
skipped_at last send = if send.number == unwrap_or last 0 + 1 then None else Some (verdicts.Skipped send.name send.number)

abbrev pub first_skipped : List Line → List Line → Option Verdict
first_skipped before sends = first_found skipped_at before sends

-- the index of the first send with this name and request, where the first of these has this index
abbrev pub first_asked : ℕ → ℕ → ℕ → List Line → Option ℕ
first_asked at from req [] = None
first_asked at from req (send ∷ sends) = if (send.name == from) && (send.number == req) then Some at else first_asked (at + 1) from req sends

-- the body of the send at an index
abbrev pub body_at : List Line → Option ℕ → Option (List ℕ)
body_at sends None = None
body_at sends (Some at) = option_map (λ send. send.text) (slice_get sends at)

abbrev pub unsent_at : List Line → Result (ℕ × ℕ × List ℕ) FieldFault → Option Verdict
unsent_at sends (Err fault) = None
unsent_at sends (Ok sent) = if is_text (body_at sends (first_asked 0 sent.0 sent.1 sends)) sent.2 then None
    else Some (verdicts.Unsent sent.0 sent.1)

abbrev pub first_unsent : List Line → List (List ℕ) → Option Verdict
first_unsent sends [] = None
first_unsent sends (text ∷ texts) = or_else (unsent_at sends (data_in text)) (first_unsent sends texts)

abbrev pub lines_of : ℕ → List Line → List Line
lines_of name lines = filter (λ line. line.name == name) lines

abbrev pub count_of : ℕ → List Line → ℕ
count_of name [] = 0
count_of name (line ∷ lines) = if line.name == name then count_of name lines + 1 else count_of name lines

abbrev pub is_line : Option Line → Line → Bool
is_line None line = false
is_line (Some found) line = (found.number == line.number) && same found.text line.text

abbrev pub unlogged_at : List Line → List Line → Line → Option Verdict
unlogged_at logs before taken = if is_line (slice_get (lines_of taken.name logs) (count_of taken.name before)) taken then None
    else Some (verdicts.Unlogged taken.name taken.number)

abbrev pub first_unlogged : List Line → List Line → List Line → Option Verdict
first_unlogged logs before [] = None
first_unlogged logs before (taken ∷ takes) = or_else (unlogged_at logs before taken) (first_unlogged logs (taken ∷ before) takes)

abbrev pub untaken_at : List Line → List Line → Line → Option Verdict
untaken_at takes before line = if nat_lt (count_of line.name before) (count_of line.name takes) then None
    else Some (verdicts.Untaken line.name line.number)

abbrev pub first_untaken : List Line → List Line → List Line → Option Verdict
first_untaken takes before [] = None
first_untaken takes before (line ∷ lines) = or_else (untaken_at takes before line) (first_untaken takes (line ∷ before) lines)

-- ---- the verdict

-- what is wrong with the list and the logs
unfoldable pub wrong_lists : Reading → Option Verdict
wrong_lists s = or_else (first_fault [] s.logs) (or_else (first_astray s.group s.logs) (or_else (first_lost s.group s.answers)
    (or_else (first_early [] s.logs) (first_misfit 1 blank s.group))))

-- what is wrong with the events
unfoldable pub wrong_events : Reading → Option Verdict
wrong_events s = or_else (first_skipped [] s.sends) (or_else (first_unsent s.sends s.group)
    (or_else (first_unlogged s.logs [] s.takes) (first_untaken s.takes [] s.logs)))

unfoldable pub verdict_of : Reading → Verdict
verdict_of s = unwrap_or (wrong_lists s) (if s.events == 0 then verdicts.ListsAgree else unwrap_or (wrong_events s) verdicts.Agrees)

-- a verdict that agrees
abbrev pub is_right : Verdict → Bool
is_right verdicts.Agrees = true
is_right verdicts.ListsAgree = true
is_right _ = false

-- ---- how it is written

abbrev pub named : List ℕ → ℕ → ℕ → List ℕ
named word name number = word ++ (codes " " ++ (name_text name ++ (codes " " ++ decimal number)))

unfoldable pub verdict_text : Verdict → List ℕ
verdict_text (verdicts.Gap node number) = named (codes "gap") node number
verdict_text (verdicts.Differs node_a node_b number) = codes "differs " ++ (name_text node_a ++ (codes " " ++ (name_text node_b ++
    (codes " " ++ decimal number))))
verdict_text (verdicts.Twice from req) = named (codes "twice") from req
verdict_text (verdicts.Astray node number) = named (codes "astray") node number
verdict_text (verdicts.Lost node req) = named (codes "lost") node req
verdict_text (verdicts.Early node number) = named (codes "early") node number
verdict_text (verdicts.Misfit number) = codes "misfit " ++ decimal number
verdict_text verdicts.ListsAgree = codes "lists-agree"
verdict_text (verdicts.Skipped node req) = named (codes "skipped") node req
verdict_text (verdicts.Unsent from req) = named (codes "unsent") from req
verdict_text (verdicts.Unlogged node number) = named (codes "unlogged") node number
verdict_text (verdicts.Untaken node number) = named (codes "untaken") node number
verdict_text verdicts.Agrees = codes "agrees"

abbrev pub void_text : Option ℕ → List ℕ
void_text None = []
void_text (Some number) = codes " void from " ++ decimal number

-- the line that is written
unfoldable pub verdict_line : Verdict → Option ℕ → List ℕ
verdict_line verdict void_from = verdict_text verdict ++ (void_text void_from ++ newline)
