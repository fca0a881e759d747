-- What is claimed of a text whose verdict agrees.
use Rattle.std.specs.Prelude.{◌≡◌, ◌≢◌, ℕ, ◌+◌, ◌<◌, ◌≤◌, ◌==◌, not, List, [], ◌∷◌, ◌++◌, length, map, slice_get, slice_index, Some, Ok, Err, true}
use Rattle.std.specs.List.{list_all}
use Rattle.am_base.specs.Names.{has}
use Rattle.am_base.specs.Lists.{blank, after, AllEntriesFit}
use Rattle.am_base.specs.declared.entry.GroupView.{GroupView}
use Rattle.am_group.specs.Journals.{item_at}
use Rattle.am_audit_defs.specs.declared.outline.Outline.{Outline}
use Rattle.am_audit_defs.specs.declared.outline.Outline.TheVariants as outlines
use Rattle.am_audit_defs.specs.declared.line.AnsweredSend.{AnsweredSend}
use Rattle.am_audit_defs.specs.Fields.{outline_of, data_in}
use Rattle.am_audit_defs.specs.Lines.{Line, Reading, read_text}
use Rattle.am_audit_defs.specs.declared.verdict.Verdict.TheVariants as verdicts
use Rattle.am_audit_defs.specs.Verdicts.{bare_entry, lines_of, verdict_of}

-- a log's lines are the list's entries from a number on, without a gap
pub record IsPiece (group : List (List ℕ)) (log : List Line) (start : ℕ) : Type 0 where
  pub each : (k : ℕ) (line : Line) → slice_get log k ≡ Some line → (line.number ≡ start + k) × (item_at group line.number ≡ Some line.text)

-- a log may begin with an entry: with the view of the founders, where it has the name, or with the name's Join
abbrev pub LogBegins : ℕ → ℕ → Outline → Type 0
LogBegins start name (outlines.Data from req) = ⊥
LogBegins start name (outlines.Join joiner) = joiner ≡ name
LogBegins start name (outlines.Leave leaver) = ⊥
LogBegins start name (outlines.View v) = (start ≡ 1) × (has v.members name ≡ true)

abbrev pub LogBeginsAt : List (List ℕ) → ℕ → ℕ → Type 0
LogBeginsAt group name start = (text : List ℕ) × (outline : Outline) × (item_at group start ≡ Some text) × (outline_of text ≡ Ok outline)
    × LogBegins start name outline

-- a send stands at a number of the list
abbrev pub IsSentAt : List (List ℕ) → ℕ → ℕ → ℕ → Type 0
IsSentAt group number from req = (text body : List ℕ) × (item_at group number ≡ Some text) × (data_in text ≡ Ok (from, req, body))

-- it stands there, and nowhere else
pub record StandsAlone (group : List (List ℕ)) (from req number : ℕ) : Type 0 where
  pub there : IsSentAt group number from req
  pub only : (k : ℕ) → IsSentAt group k from req → k ≡ number

-- a founders' view: of round 1, by the lowest of its names, which are all of life 1, without resilience. A name of life 1 is its place
pub record IsFounding (v : GroupView) : Type 0 where
  pub round : v.stamp.round ≡ 1
  pub founder : slice_index v.members v.stamp.by ≡ 1
  pub lowest : (place : ℕ) → place < v.stamp.by → slice_index v.members place ≡ 0
  pub lives : (place : ℕ) → slice_index v.members place ≤ 1
  pub resilience : v.resilience ≡ 0

-- entry 1 is a founders' view
abbrev pub IsFounded : List (List ℕ) → Type 0
IsFounded group = (text : List ℕ) → item_at group 1 ≡ Some text → (view : GroupView) × (outline_of text ≡ Ok (outlines.View view)) × IsFounding view

-- each entry after the first fits those before it
abbrev pub FitBehind : List Outline → Type 0
FitBehind [] = Unit {0}
FitBehind (first ∷ others) = AllEntriesFit (after blank 1 (bare_entry first)) 2 (map bare_entry others)

abbrev pub AreFitting : List (List ℕ) → Type 0
AreFitting group = (list : List Outline) × (map outline_of group ≡ map Ok list) × FitBehind list

-- the list is one that a group can have, each log is a piece of it, and each answered send stands where it was answered
pub record Lists (s : Reading) : Type 0 where
  pub segment : (name : ℕ) → lines_of name s.logs ≢ [] → (start : ℕ) × LogBeginsAt s.group name start × IsPiece s.group (lines_of name s.logs) start
  pub once : (k : ℕ) (answer : AnsweredSend) → slice_get s.answers k ≡ Some answer → StandsAlone s.group answer.name answer.req answer.number
  pub founded : IsFounded s.group
  pub fits : AreFitting s.group

-- besides, each name's sends have the requests 1, 2, 3 and so on, each send of the list was asked for, and each log is what was taken
pub record Agreed (s : Reading) : Type 0 where
  pub lists : Lists s
  pub turn : (name k : ℕ) (send : Line) → slice_get (lines_of name s.sends) k ≡ Some send → send.number ≡ k + 1
  pub asked : (k from req : ℕ) (text body : List ℕ) → item_at s.group k ≡ Some text → data_in text ≡ Ok (from, req, body)
      → (j : ℕ) × (send : Line) × (slice_get s.sends j ≡ Some send) × (send.name ≡ from) × (send.number ≡ req) × (send.text ≡ body)
  pub taken : (name : ℕ) → lines_of name s.takes ≡ lines_of name s.logs

-- what the verdicts that agree mean, of whatever was read
abbrev pub AgreesMeans : Type 0
AgreesMeans = (s : Reading) → verdict_of s ≡ verdicts.Agrees → Agreed s

abbrev pub ListsAgreeMeans : Type 0
ListsAgreeMeans = (s : Reading) → verdict_of s ≡ verdicts.ListsAgree → Lists s

-- ---- bad lines

-- whole lines, each after the one before, and what stands after them
abbrev pub lines_before_rest : List (List ℕ) → List ℕ → List ℕ
lines_before_rest [] more = more
lines_before_rest (line ∷ lines) more = line ++ 10 ∷ lines_before_rest lines more

-- nothing of a line is a newline
abbrev pub HasNoNewline : List ℕ → Type 0
HasNoNewline line = list_all (λ c. not (c == 10)) line ≡ true

abbrev pub AreLines : List (List ℕ) → Type 0
AreLines [] = Unit {0}
AreLines (line ∷ lines) = HasNoNewline line × AreLines lines

-- no text begins with lines of which one is bad
abbrev pub BadLinesStay : Type 0
BadLinesStay = (lines : List (List ℕ)) (more : List ℕ) (line : ℕ) → AreLines lines → line ≤ length lines
    → read_text (lines_before_rest lines []) ≡ Err line → read_text (lines_before_rest lines more) ≡ Err line

-- and lines of which none is bad go on to a text
abbrev pub GoodLinesGoOn : Type 0
GoodLinesGoOn = (lines : List (List ℕ)) → AreLines lines → ((line : ℕ) → read_text (lines_before_rest lines []) ≡ Err line → length lines < line)
    → (more : List ℕ) × (s : Reading) × (read_text (lines_before_rest lines more) ≡ Ok s)
