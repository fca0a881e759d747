-- What a call of the program did.
use Rattle.std.specs.Prelude.{◌≡◌, ◌≢◌, ℕ, ◌≤◌, true, false, List, [], ◌++◌, length, map, Option, Some, Ok, Err, Bool}
use Rattle.std.specs.Borrow.{Bor}
use Rattle.am_base.specs.Most.{most_events_of_run}
use Rattle.am_base.specs.Founding.{Rules}
use Rattle.am_group.specs.declared.event.Event.{Event}
use Rattle.am_group.specs.declared.event.Record.{Record}
use Rattle.am_group.specs.declared.plan.RacePlan.{RacePlan}
use Rattle.am_group.specs.Deliveries.{deliveries}
use Rattle.am_model.specs.Node.{has_log_by_status}
use Rattle.am_group_defs.specs.Play.{summary_text_of}
use Rattle.am_group_defs.specs.Text.{newline}
use Rattle.am_script_defs.specs.Scripts.{script_of, script_reading}
use Rattle.am_script_defs.specs.declared.refusal.ScriptRefusal.{ScriptRefusal}
use Rattle.am_script_defs.specs.Races.{race_reading}
use Rattle.am_player.specs.Runs.{done_of, run_watch}
use Rattle.am_player.specs.Plays.{KeepsRun, Repaired, SendsAreAnswered}
use Rattle.am_player.specs.Statuses.{most_input}
use Rattle.am_sim.specs.Playing.{shown_text}
use Rattle.am_sim.specs.Racing.{events_of, race_text, IsRaced}
use Rattle.am_io.specs.Outside.{ReadToEnd}
use Rattle.am_generator.specs.Generating.{generated_rules, events_of_seed}
use Rattle.am_audit.specs.declared.fault.TextRefusal.{TextRefusal}
use Rattle.am_audit.specs.declared.fault.TextRefusal.TheVariants as texts
use Rattle.am_audit_defs.specs.declared.verdict.Verdict.TheVariants as verdicts
use Rattle.am_audit_defs.specs.Agreement.{Lists, Agreed}
use Rattle.am_audit_defs.specs.Lines.{Reading, read_text}
use Rattle.am_audit_defs.specs.Verdicts.{verdict_of, verdict_line, is_right}
use Rattle.am_service_laws.specs.AssembledClaims.{world_at_front, Delivered}
use Rattle.am_service_laws.specs.Claims.{ReplicaHolds}
use Rattle.am_trace_laws.specs.Claims.{ReadsAs, AgreesAs, IsOfOneList}
use Rattle.am_node_lines.specs.Speaking.{spoken}
use Rattle.am_cli_words.specs.Forms.{form_of}
use Rattle.am_cli_words.specs.declared.form.Form.{Form}
use Rattle.am_cli_words.specs.declared.form.Form.TheVariants as form
use Rattle.am_cli_words.specs.declared.form.SeedAndCount.{SeedAndCount}
use Rattle.am_cli_words.specs.declared.form.RunText.{RunText}
use Rattle.am_cli_words.specs.declared.form.RunText.TheVariants as shown
use Rattle.am_service_defs.specs.Parts.{most_bytes_of_message}
use Rattle.am_services.specs.Texts.{parts_text}
use Rattle.am_script_defs.specs.Schedules.{script_text}
use Rattle.am_player.specs.declared.status.ExitStatus.{ExitStatus}
use Rattle.am_player.specs.declared.status.ExitStatus.TheVariants.{Done, WriteFault, NoMemory, BadText, Disagrees}

-- the most that is read for a form
abbrev pub most_bytes_of : Option Form → ℕ
most_bytes_of (Some form.Parts) = most_bytes_of_message
most_bytes_of _ = most_input

-- the form of words
abbrev pub form_of_words : List (Bor (List ℕ)) → Option Form
form_of_words words = form_of (map (λ word. word.now) words)

-- What is claimed of every run: what is claimed of the run of each script that is played; and, up to its lawful front, that a message that ends in what
-- a name was given ends in the group's list, and that each name's replica of a directory has the contents of that list, or waits for a snapshot, or got a
-- wrong one.
pub record SimulatedRunKeeps (rules : Rules) (events : List Event) : Type 0 where
  pub run : KeepsRun rules events
  pub messages : (name : ℕ) → deliveries (world_at_front rules events).records name ≢ [] → (start : ℕ) × Delivered rules (world_at_front rules events) name start
  pub replicas : (name : ℕ) → has_log_by_status ((world_at_front rules events).nodes name).status ≡ true → ReplicaHolds rules (world_at_front rules events) name

-- what was read is a script, what was written is shown of its run, which has at most 100,000 events, and that run keeps what is claimed; where it is
-- settled, it is repaired, and what stands is answered. Where the run's text was written, an audit reads it as that run; and where the run is lawful, or
-- nobody began a ballot, its verdict agrees
pub record Played (what : RunText) (bytes text : List ℕ) : Type 0 where
  pub founding : Rules
  pub events : List Event
  pub settles : Bool
  pub script : script_reading bytes ≡ Ok (script_of founding events settles)
  pub written : text ≡ shown_text what founding (run_watch founding events settles)
  pub few : length (done_of founding events settles) ≤ most_events_of_run
  pub keeps : SimulatedRunKeeps founding (done_of founding events settles)
  pub repaired : settles ≡ true → Repaired founding events
  pub answered : settles ≡ true → SendsAreAnswered founding events
  pub reads : what ≡ shown.Text → ReadsAs founding (done_of founding events settles) text
  pub agrees : what ≡ shown.Text → IsOfOneList founding (done_of founding events settles) → AgreesAs founding (done_of founding events settles) text

-- what was written is this of the run of two numbers, and that run keeps what is claimed
pub record GeneratedAs (what : Rules → List Event → List ℕ) (numbers : SeedAndCount) (text : List ℕ) : Type 0 where
  pub written : text ≡ what generated_rules (events_of_seed numbers.seed numbers.count)
  pub count : length (events_of_seed numbers.seed numbers.count) ≡ numbers.count
  pub keeps : SimulatedRunKeeps generated_rules (events_of_seed numbers.seed numbers.count)

-- the summary of that run
abbrev pub Generated : SeedAndCount → List ℕ → Type 0
Generated numbers text = GeneratedAs summary_text_of numbers text

-- the script of that run, in one line
abbrev pub GeneratedScript : SeedAndCount → List ℕ → Type 0
GeneratedScript numbers text = GeneratedAs (λ rules events. script_text rules events ++ newline) numbers text

-- a text is shown of the script that was read to the end of what was left
abbrev pub IsPlayed : RunText → Option (List ℕ) → Option (List ℕ) → List ℕ → Type 0
IsPlayed what before after text = (bytes : List ℕ) × ReadToEnd before after bytes × Played what bytes text

-- a text is the summary that words of gen ask for, or the script
abbrev pub IsSummary : Option Form → List ℕ → Type 0
IsSummary (Some (form.Gen numbers)) text = Generated numbers text
IsSummary (Some (form.Script numbers)) text = GeneratedScript numbers text
IsSummary _ text = ⊥

-- what was read is a message, and what was written are its parts, a line each
pub record Parted (bytes text : List ℕ) : Type 0 where
  pub few : length bytes ≤ most_bytes_of_message
  pub written : text ≡ parts_text bytes

-- a text has the parts of the message that was read to the end of what was left
abbrev pub IsParted : Option (List ℕ) → Option (List ℕ) → List ℕ → Type 0
IsParted before after text = (bytes : List ℕ) × ReadToEnd before after bytes × Parted bytes text

-- what was read is a text, and what was written is the line of its verdict; where that agrees, the text keeps what that means
pub record Audited (bytes text : List ℕ) : Type 0 where
  pub reading : Reading
  pub read : read_text bytes ≡ Ok reading
  pub written : text ≡ verdict_line (verdict_of reading) reading.void_from
  pub agrees : verdict_of reading ≡ verdicts.Agrees → Agreed reading
  pub lists_agree : verdict_of reading ≡ verdicts.ListsAgree → Lists reading

-- a line is the verdict on the text that was read to the end of what was left
abbrev pub IsAudited : Option (List ℕ) → Option (List ℕ) → List ℕ → Type 0
IsAudited before after text = (bytes : List ℕ) × ReadToEnd before after bytes × Audited bytes text

-- the verdict on bytes is one that agrees, or isn't
abbrev pub HasVerdict : Bool → List ℕ → Type 0
HasVerdict right bytes = (reading : Reading) × (read_text bytes ≡ Ok reading) × (is_right (verdict_of reading) ≡ right)

abbrev pub GaveVerdict : Option (List ℕ) → Option (List ℕ) → Bool → Type 0
GaveVerdict before after right = (bytes : List ℕ) × ReadToEnd before after bytes × HasVerdict right bytes

-- why bytes have no verdict
abbrev pub IsUnaudited : List ℕ → TextRefusal → Type 0
IsUnaudited bytes texts.NoMemory = Unit {0}
IsUnaudited bytes (texts.BadLine line) = read_text bytes ≡ Err line

-- at Done the verdict agrees, and at Disagrees it doesn't
abbrev pub Judges : ExitStatus → Option (List ℕ) → Option (List ℕ) → Type 0
Judges Done before after = GaveVerdict before after true
Judges Disagrees before after = GaveVerdict before after false
Judges _ before after = Unit {0}

abbrev pub IfAudit : Option Form → Type 0 → Type 0
IfAudit (Some form.Audit) claim = claim
IfAudit _ claim = Unit {0}

-- a text is what words of a form ask for that waits for nobody
abbrev pub IsAnswerAlone : Option Form → Option (List ℕ) → Option (List ℕ) → List ℕ → Type 0
IsAnswerAlone (Some (form.Play what)) before after text = IsPlayed what before after text
IsAnswerAlone (Some form.Audit) before after text = IsAudited before after text
IsAnswerAlone (Some form.Parts) before after text = IsParted before after text
IsAnswerAlone other before after text = IsSummary other text

-- the forms that read
abbrev pub FormReads : Option Form → Type 0
FormReads (Some (form.Play what)) = Unit {0}
FormReads (Some form.Race) = Unit {0}
FormReads (Some form.Audit) = Unit {0}
FormReads (Some form.Parts) = Unit {0}
FormReads (Some (form.Node node)) = Unit {0}
FormReads _ = ⊥

-- the forms that may wait
abbrev pub Waits : Option Form → Type 0
Waits (Some form.Race) = Unit {0}
Waits (Some (form.Node node)) = Unit {0}
Waits _ = ⊥

-- the forms that play a script
abbrev pub Plays : Option Form → Type 0
Plays (Some (form.Play what)) = Unit {0}
Plays _ = ⊥

-- the forms that read a script, of a play or of a race
abbrev pub ReadsScript : Option Form → Type 0
ReadsScript (Some (form.Play what)) = Unit {0}
ReadsScript (Some form.Race) = Unit {0}
ReadsScript _ = ⊥

-- by this first cause the bytes are no play, or no race, where the form reads one; the other forms refuse no script
abbrev pub InputIsRefused : Option Form → List ℕ → ScriptRefusal → Type 0
InputIsRefused (Some (form.Play what)) bytes cause = script_reading bytes ≡ Err cause
InputIsRefused (Some form.Race) bytes cause = race_reading bytes ≡ Err cause
InputIsRefused _ bytes cause = ⊥

-- how gen ends
abbrev pub EndsGen : ExitStatus → Type 0
EndsGen Done = Unit {0}
EndsGen WriteFault = Unit {0}
EndsGen NoMemory = Unit {0}
EndsGen _ = ⊥

-- what holds of the first bad line where the input is no text
abbrev pub IfBadText : ExitStatus → (ℕ → Type 0) → Type 0
IfBadText (BadText line) claim = claim line
IfBadText _ claim = Unit {0}

-- what was read is a race, what was written is what was done in it as a script, in one line, and the text of the run of that;
-- that line is read as this script; and that run keeps what is claimed; an audit tells of the whole text what it tells of a play's
pub record Raced (bytes text : List ℕ) : Type 0 where
  pub plan : RacePlan
  pub script : race_reading bytes ≡ Ok plan
  pub journal : List Record
  pub raced : IsRaced plan journal
  pub written : text ≡ race_text plan.founding (events_of journal)
  pub again : script_reading (script_text plan.founding (events_of journal)) ≡ Ok (script_of plan.founding (events_of journal) false)
  pub keeps : SimulatedRunKeeps plan.founding (events_of journal)
  pub reads : ReadsAs plan.founding (events_of journal) text
  pub agrees : IsOfOneList plan.founding (events_of journal) → AgreesAs plan.founding (events_of journal) text

-- a text is that of a race that was read to the end of what was left
abbrev pub IsRacedText : Option (List ℕ) → Option (List ℕ) → List ℕ → Type 0
IsRacedText before after text = (bytes : List ℕ) × ReadToEnd before after bytes × Raced bytes text

-- a text is what words of a form ask for
abbrev pub IsTextOfForm : Option Form → Option (List ℕ) → Option (List ℕ) → List ℕ → Type 0
IsTextOfForm (Some (form.Play what)) before after text = IsPlayed what before after text
IsTextOfForm (Some form.Race) before after text = IsRacedText before after text
IsTextOfForm (Some form.Audit) before after text = IsAudited before after text
IsTextOfForm (Some form.Parts) before after text = IsParted before after text
IsTextOfForm (Some (form.Node node)) before after text = (bytes : List ℕ) × ReadToEnd before after bytes × (text ≡ spoken node.founding node.name bytes)
IsTextOfForm other before after text = IsSummary other text
