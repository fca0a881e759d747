-- What each verdict says of what was read, in the words of docs/AUDIT.md.
use Rattle.std.specs.Prelude.{◌≡◌, ◌≢◌, ◌⊎◌, ℕ, ◌+◌, ◌<◌, ◌≤◌, List, [], ◌∷◌, length, take, map, slice_get, Some, Ok, true}
use Rattle.am_base.specs.Most.{greatest_number}
use Rattle.am_base.specs.Lists.{blank, fits, image_after_entries}
use Rattle.am_group.specs.Journals.{item_at}
use Rattle.am_audit_defs.specs.declared.outline.Outline.{Outline}
use Rattle.am_audit_defs.specs.declared.outline.Outline.TheVariants as outlines
use Rattle.am_audit_defs.specs.declared.line.AnsweredSend.{AnsweredSend}
use Rattle.am_audit_defs.specs.declared.verdict.Verdict.{Verdict}
use Rattle.am_audit_defs.specs.declared.verdict.Verdict.TheVariants as verdicts
use Rattle.am_audit_defs.specs.Fields.{outline_of, data_in}
use Rattle.am_audit_defs.specs.Lines.{Line, Reading}
use Rattle.am_audit_defs.specs.Verdicts.{bare_entry, lines_of, count_of, verdict_of, is_right}
use Rattle.am_audit_defs.specs.Agreement.{IsFounding, LogBegins, IsSentAt, StandsAlone, Lists, Agreed}

-- ---- lines before a place

-- of a name's lines before a place, the last has this number
pub record IsLast (lines : List Line) (place name number : ℕ) : Type 0 where
  pub at : ℕ
  pub line : Line
  pub before : at < place
  pub there : slice_get lines at ≡ Some line
  pub named : line.name ≡ name
  pub numbered : line.number ≡ number
  pub last : (k : ℕ) (other : Line) → at < k → k < place → slice_get lines k ≡ Some other → other.name ≢ name

-- a name has no line before a place
abbrev pub HasNone : List Line → ℕ → ℕ → Type 0
HasNone lines place name = (k : ℕ) (other : Line) → k < place → slice_get lines k ≡ Some other → other.name ≢ name

-- of the lines before a place of which this holds, it is the first
pub record IsFirst (lines : List Line) (place : ℕ) (holds : Line → Type 0) (line : Line) : Type 0 where
  pub at : ℕ
  pub before : at < place
  pub there : slice_get lines at ≡ Some line
  pub held : holds line
  pub first : (k : ℕ) (other : Line) → k < at → slice_get lines k ≡ Some other → holds other → ⊥

-- a line at a place has this name and this number
pub record IsLine (lines : List Line) (place name number : ℕ) (line : Line) : Type 0 where
  pub there : slice_get lines place ≡ Some line
  pub named : line.name ≡ name
  pub numbered : line.number ≡ number

-- a line has a send as its entry
abbrev pub LineHasSend : ℕ → ℕ → Line → Type 0
LineHasSend from req line = (body : List ℕ) × (data_in line.text ≡ Ok (from, req, body))

-- ---- entries

-- an entry may stand after these in a list
abbrev pub MayStand : List Outline → Outline → Type 0
MayStand [] (outlines.View v) = IsFounding v
MayStand [] _ = ⊥
MayStand (first ∷ others) outline = (length (first ∷ others) < greatest_number)
    × (fits (image_after_entries blank 1 (map bare_entry (first ∷ others))) (bare_entry outline) ≡ true)

-- ---- verdicts

abbrev pub VerdictSays : Reading → Verdict → Type 0
VerdictSays s (verdicts.Gap node number) = (place last : ℕ) × (line : Line) × IsLine s.logs place node number line × IsLast s.logs place node last
    × (last + 1 ≢ number)
VerdictSays s (verdicts.Differs node_a node_b number) = (place : ℕ) × (line first : Line) × IsLine s.logs place node_b number line
    × IsFirst s.logs place (λ other. other.number ≡ number) first × (first.name ≡ node_a) × (first.text ≢ line.text)
VerdictSays s (verdicts.Twice from req) = (place : ℕ) × (line first : Line) × (slice_get s.logs place ≡ Some line) × LineHasSend from req line
    × IsFirst s.logs place (LineHasSend from req) first × (first.number ≢ line.number)
VerdictSays s (verdicts.Astray node number) = (place : ℕ) × (line : Line) × IsLine s.logs place node number line × (item_at s.group number ≢ Some line.text)
VerdictSays s (verdicts.Lost node req) = (place : ℕ) × (answer : AnsweredSend) × (slice_get s.answers place ≡ Some answer) × (answer.name ≡ node) × (answer.req ≡ req)
    × (StandsAlone s.group node req answer.number → ⊥)
VerdictSays s (verdicts.Early node number) = (place : ℕ) × (line : Line) × IsLine s.logs place node number line × HasNone s.logs place node
    × ((outline : Outline) → outline_of line.text ≡ Ok outline → LogBegins number node outline → ⊥)
VerdictSays s (verdicts.Misfit number) = (before : List Outline) × (text : List ℕ) × (number ≡ length before + 1) × (slice_get s.group (length before) ≡ Some text)
    × (map outline_of (take (length before) s.group) ≡ map Ok before) × ((outline : Outline) → outline_of text ≡ Ok outline → MayStand before outline → ⊥)
VerdictSays s verdicts.ListsAgree = Lists s × (s.events ≡ 0)
VerdictSays s (verdicts.Skipped node req) = Lists s × ((place : ℕ) × (send : Line) × IsLine s.sends place node req send
    × (((last : ℕ) × IsLast s.sends place node last × (req ≢ last + 1)) ⊎ (HasNone s.sends place node × (req ≢ 1))))
VerdictSays s (verdicts.Unsent from req) = Lists s × ((place : ℕ) × (text body : List ℕ) × (slice_get s.group place ≡ Some text) × (data_in text ≡ Ok (from, req, body))
    × ((k : ℕ) (send : Line) → IsLine s.sends k from req send → send.text ≢ body))
VerdictSays s (verdicts.Unlogged node number) = Lists s × ((place : ℕ) × (taken : Line) × IsLine s.takes place node number taken
    × ((line : Line) → slice_get (lines_of node s.logs) (count_of node (take place s.takes)) ≡ Some line → line.number ≡ number → line.text ≢ taken.text))
VerdictSays s (verdicts.Untaken node number) = Lists s × ((place : ℕ) × (line : Line) × IsLine s.logs place node number line
    × (count_of node s.takes ≤ count_of node (take place s.logs)))
VerdictSays s verdicts.Agrees = Agreed s × (0 < s.events)

-- each verdict says what holds
abbrev pub VerdictsSay : Type 0
VerdictsSay = (s : Reading) → VerdictSays s (verdict_of s)

-- no send stands at two numbers of a list
abbrev pub StandOnce : List (List ℕ) → Type 0
StandOnce group = (from req j k : ℕ) → IsSentAt group j from req → IsSentAt group k from req → j ≡ k

-- where a list of at most 2,000,000,000 entries has no send twice, what a verdict that agrees means is told by one that agrees
abbrev pub AgreedAgrees : Type 0
AgreedAgrees = (s : Reading) → length s.group ≤ greatest_number → StandOnce s.group → Agreed s → is_right (verdict_of s) ≡ true
