-- The statuses that a call ends with: their numbers, and what holds of the source and the sink at each.
use Rattle.std.specs.Prelude.{◌≡◌, ℕ, List, take, Option, Bool, true, false}
use Rattle.std.specs.Io.KnownBytes.{Appends}
use Rattle.am_io.specs.Outside.{next, GaveMore, GaveAtMost}
use Rattle.am_script_defs.specs.declared.refusal.ScriptRefusal.{ScriptRefusal}
use Rattle.am_player.specs.declared.status.ExitStatus.{ExitStatus}
use Rattle.am_player.specs.declared.status.ExitStatus.TheVariants.{Done, Usage, BadScript, TooLong, ReadFault, WriteFault, NoMemory, Spent, BadText, Disagrees}

-- the most bytes of an input
abbrev pub most_input : ℕ
most_input = 16777216

-- the numbers of the statuses
abbrev pub status_number : ExitStatus → ℕ
status_number Done = 0
status_number Usage = 1
status_number (BadScript cause) = 2
status_number TooLong = 3
status_number ReadFault = 4
status_number WriteFault = 5
status_number NoMemory = 6
status_number Spent = 7
status_number (BadText line) = 8
status_number Disagrees = 9

-- the statuses that come with writing
abbrev pub Writes : ExitStatus → Type 0
Writes Done = Unit {0}
Writes WriteFault = Unit {0}
Writes Disagrees = Unit {0}
Writes _ = ⊥

-- the statuses that come of an audit alone
abbrev pub IsOfAudit : ExitStatus → Type 0
IsOfAudit (BadText line) = Unit {0}
IsOfAudit Disagrees = Unit {0}
IsOfAudit _ = ⊥

-- what holds where all was done and written
abbrev pub OnDone : ExitStatus → Type 0 → Type 0
OnDone Done claim = claim
OnDone Disagrees claim = claim
OnDone _ claim = Unit {0}

-- what holds where a write failed
abbrev pub OnWriteFault : ExitStatus → Type 0 → Type 0
OnWriteFault WriteFault claim = claim
OnWriteFault _ claim = Unit {0}

-- what holds of the cause where the input is no script
abbrev pub IfBadScript : ExitStatus → (ScriptRefusal → Type 0) → Type 0
IfBadScript (BadScript cause) claim = claim cause
IfBadScript _ claim = Unit {0}

-- a beginning of the text was appended
abbrev pub WroteTextPart : Option (List ℕ) → Option (List ℕ) → List ℕ → Type 0
WroteTextPart before after text = (count : ℕ) × Appends before after (take count text)

-- all of the text was appended, or a beginning of it
abbrev pub WroteUpTo : Bool → Option (List ℕ) → Option (List ℕ) → List ℕ → Type 0
WroteUpTo true before after text = Appends before after text
WroteUpTo false before after text = WroteTextPart before after text

-- how a call counts the faults of its source
abbrev pub source_reads_after : ExitStatus → ℕ → ℕ
source_reads_after ReadFault before = next before
source_reads_after _ before = before

-- the statuses that come of a read
abbrev pub IsOfRead : ExitStatus → Type 0
IsOfRead TooLong = Unit {0}
IsOfRead ReadFault = Unit {0}
IsOfRead _ = ⊥

-- what a call took of its source: at most so many bytes, or more at TooLong; and it counted a fault at ReadFault alone
abbrev pub Took : {S : Type 0} → (S → Option (List ℕ)) → (S → ℕ) → ℕ → ExitStatus → S → S → Type 0
Took left count limit TooLong before after = GaveMore limit (left before) (left after) × (count after ≡ count before)
Took left count limit ReadFault before after = GaveAtMost limit (left before) (left after) × (count after ≡ next (count before))
Took left count limit _ before after = GaveAtMost limit (left before) (left after) × (count after ≡ count before)

-- how a call counts the faults of its sink
abbrev pub sink_writes_after : ExitStatus → ℕ → ℕ
sink_writes_after WriteFault before = next before
sink_writes_after _ before = before

-- what a call wrote to its sink: a whole text that is such, where all was done; a beginning of one where a write failed, which is counted; else nothing
abbrev pub Wrote : {K : Type 0} → (K → Option (List ℕ)) → (K → ℕ) → (List ℕ → Type 0) → ExitStatus → K → K → Type 0
Wrote contents count Is Done before after =
    (text : List ℕ) × Is text × Appends (contents before) (contents after) text × (count after ≡ count before)
Wrote contents count Is Disagrees before after =
    (text : List ℕ) × Is text × Appends (contents before) (contents after) text × (count after ≡ count before)
Wrote contents count Is WriteFault before after =
    (text : List ℕ) × Is text × WroteTextPart (contents before) (contents after) text × (count after ≡ next (count before))
Wrote contents count Is _ before after = after ≡ before
