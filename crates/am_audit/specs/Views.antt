-- What the code keeps of a text, as it was read.
use Rattle.std.specs.Prelude.{◌≡◌, ℕ, List, map, Result, Ok, Err, IsErr}
use Rattle.am_text_defs.specs.declared.fault.FieldFault.{FieldFault}
use Rattle.am_audit_defs.specs.declared.verdict.Audit.{Audit}
use Rattle.am_audit_defs.specs.Lines.{Line, Reading}
use Rattle.am_audit_defs.specs.Verdicts.{verdict_of}
use Rattle.am_audit.specs.declared.fault.LineFault.{LineFault}
use Rattle.am_audit.specs.declared.fault.LineFault.TheVariants as faults
use Rattle.am_audit.specs.declared.fault.TextRefusal.{TextRefusal}
use Rattle.am_audit.specs.declared.fault.TextRefusal.TheVariants as refusals
use Rattle.am_audit.specs.declared.line.TextLine.{TextLine}
use Rattle.am_audit.specs.declared.line.Piece.{Piece}
use Rattle.am_audit.specs.declared.reading.Lines.{Lines}

-- what a function returned, seen by view, is what is read; or its fault is
abbrev pub GivesWhatIsRead : {X Y : Type 0} → (X → Y) → Result X FieldFault → Result Y FieldFault → Type 0
GivesWhatIsRead view (Ok x) read = read ≡ Ok (view x)
GivesWhatIsRead view (Err fault) read = read ≡ Err fault

abbrev pub line_seen : TextLine → Line
line_seen line = record { name = line.name; number = line.number; text = line.text.now }

abbrev pub lines_in : List TextLine → List Line
lines_in lines = map line_seen lines

abbrev pub texts_in : List Piece → List (List ℕ)
texts_in pieces = map (λ piece. piece.text.now) pieces

abbrev pub reading_told : Lines → Reading
reading_told s = record {
  stage = s.stage;
  names = s.names;
  events = s.events;
  sends = lines_in s.sends.items;
  answers = s.answers.items;
  takes = lines_in s.takes.items;
  group = texts_in s.group.items;
  logs = lines_in s.logs.items;
  void_from = s.void_from;
}

abbrev pub Fails : LineFault → Result Reading FieldFault → Type 0
Fails faults.Memory read = Unit {0}
Fails (faults.Field fault) read = read ≡ Err fault

-- a line was taken, and this is what was read since, or it wasn't, and why, unless there was no memory
abbrev pub Takes : Result (Unit {0}) LineFault → Reading → Result Reading FieldFault → Type 0
Takes (Ok done) new read = read ≡ Ok new
Takes (Err fault) new read = Fails fault read

-- the same of a line with a number
abbrev pub TakesAt : ℕ → Result (Unit {0}) TextRefusal → Reading → Result Reading FieldFault → Type 0
TakesAt number (Ok done) new read = read ≡ Ok new
TakesAt number (Err refusals.NoMemory) new read = Unit {0}
TakesAt number (Err (refusals.BadLine line)) new read = (line ≡ number) × IsErr read

-- what a text was read as, or its first bad line, unless there was no memory
abbrev pub IsReadingOf : Result Lines TextRefusal → Result Reading ℕ → Type 0
IsReadingOf (Ok s) read = read ≡ Ok (reading_told s)
IsReadingOf (Err refusals.NoMemory) read = Unit {0}
IsReadingOf (Err (refusals.BadLine line)) read = read ≡ Err line

-- an audit tells the verdict of what the text was read as, or its first bad line, unless there was no memory
abbrev pub Audits : Result Audit TextRefusal → Result Reading ℕ → Type 0
Audits (Ok audit) read = (s : Reading) × (read ≡ Ok s) × (audit.verdict ≡ verdict_of s) × (audit.void_from ≡ s.void_from)
Audits (Err refusals.NoMemory) read = Unit {0}
Audits (Err (refusals.BadLine line)) read = read ≡ Err line
