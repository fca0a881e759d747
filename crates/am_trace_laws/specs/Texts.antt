-- What the text of a run is read as.
use Rattle.std.specs.Prelude.{ℕ, List, [], ◌∷◌, length, map}
use Rattle.std.specs.List.{flat_map}
use Rattle.am_base.specs.Founding.{Rules}
use Rattle.am_base.specs.declared.entry.Entry.{Entry}
use Rattle.am_base.specs.declared.outcome.Outcome.{Outcome}
use Rattle.am_base.specs.declared.outcome.Outcome.TheVariants as said
use Rattle.am_group.specs.declared.event.Act.{Act}
use Rattle.am_group.specs.declared.event.Act.TheVariants as acts
use Rattle.am_group.specs.declared.event.Record.{Record}
use Rattle.am_group.specs.Deliveries.{acting_name_of_record}
use Rattle.am_group_defs.specs.Text.{body_text, entry_text}
use Rattle.am_group_defs.specs.Group.{logs}
use Rattle.am_group_defs.specs.Lawful.{Watch}
use Rattle.am_audit_defs.specs.declared.line.AnsweredSend.{AnsweredSend}
use Rattle.am_audit_defs.specs.declared.line.TextStage.TheVariants as stages
use Rattle.am_audit_defs.specs.Lines.{Line, Reading}
use Rattle.am_safety.specs.Records.{names_in}

-- ---- what an event counts for, by the name that did it

abbrev pub queued_as : ℕ → List ℕ → Outcome → List Line
queued_as name body (said.Queued req) = record { name = name; number = req; text = body_text body } ∷ []
queued_as name body outcome = []

abbrev pub send_lines_in : ℕ → Act → Outcome → List Line
send_lines_in name (acts.Send body) outcome = queued_as name body outcome
send_lines_in name act outcome = []

abbrev pub sent_as : ℕ → Outcome → List AnsweredSend
sent_as name (said.Sent req number) = record { name = name; req = req; number = number } ∷ []
sent_as name outcome = []

abbrev pub line_answers_in : ℕ → Act → Outcome → List AnsweredSend
line_answers_in name (acts.Done req) outcome = sent_as name outcome
line_answers_in name act outcome = []

abbrev pub took_as : Rules → ℕ → Outcome → List Line
took_as rules name (said.Took number entry) = record { name = name; number = number; text = entry_text rules entry } ∷ []
took_as rules name outcome = []

abbrev pub take_in : Rules → ℕ → Act → Outcome → List Line
take_in rules name acts.Take outcome = took_as rules name outcome
take_in rules name act outcome = []

abbrev pub sends_of : List Record → List Line
sends_of records = flat_map (λ r. send_lines_in (acting_name_of_record r) r.event.act r.outcome) records

abbrev pub record_answers : List Record → List AnsweredSend
record_answers records = flat_map (λ r. line_answers_in (acting_name_of_record r) r.event.act r.outcome) records

abbrev pub take_lines_of : Rules → List Record → List Line
take_lines_of rules records = flat_map (λ r. take_in rules (acting_name_of_record r) r.event.act r.outcome) records

-- ---- the list and the logs

abbrev pub entry_texts_of : Rules → List Entry → List (List ℕ)
entry_texts_of rules group = map (entry_text rules) group

abbrev pub log_in : Rules → ℕ → List (ℕ × Entry) → List Line
log_in rules name given = map (λ one. record { name = name; number = one.0; text = entry_text rules one.1 }) given

abbrev pub logs_in : Rules → List (ℕ × List (ℕ × Entry)) → List Line
logs_in rules logs = flat_map (λ log. log_in rules log.0 log.1) logs

-- ---- a run

-- its records, its group list, what was given to each name that has or had a list, and where it broke
abbrev pub reading_of : Rules → Watch → Reading
reading_of rules s = record {
  stage = stages.End;
  names = names_in s.world;
  events = length s.world.records;
  sends = sends_of s.world.records;
  answers = record_answers s.world.records;
  takes = take_lines_of rules s.world.records;
  group = entry_texts_of rules s.world.group;
  logs = logs_in rules (logs s.world);
  void_from = s.broken;
}
