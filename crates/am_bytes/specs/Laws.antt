-- What holds of events and answers as bytes.
use Rattle.std.specs.Prelude.{◌≡◌, ℕ, ◌<◌, ◌≤◌, ◌^◌, List, ◌++◌, length, All}
use Rattle.am_base.specs.Founding.{Rules}
use Rattle.am_base.specs.Limits.{NumberIsInRange}
use Rattle.am_base.specs.Most.{most_bytes_of_body, most_bytes_of_packet}
use Rattle.am_base.specs.Names.{IsSetOfNames}
use Rattle.am_base.specs.declared.name.Stamp.{Stamp}
use Rattle.am_base.specs.declared.entry.Entry.{Entry}
use Rattle.am_base.specs.declared.entry.Entry.TheVariants as entries
use Rattle.am_base.specs.declared.event.NodeEvent.TheVariants as does
use Rattle.am_base.specs.declared.outcome.Outcome.{Outcome}
use Rattle.am_base.specs.declared.outcome.Outcome.TheVariants as said
use Rattle.am_packet.specs.Boxes.{Letter}
use Rattle.am_packet.specs.Limits.{IsPacket}
use Rattle.am_model.specs.Node.{Node}
use Rattle.am_node_lines.specs.declared.line.Line.{Line}
use Rattle.am_node_lines.specs.declared.line.Line.TheVariants as line
use Rattle.am_node_lines.specs.declared.reply.LineReply.{LineReply}
use Rattle.am_node_lines.specs.declared.reply.LineReply.TheVariants as replies
use Rattle.am_node_lines.specs.Lines.{node_line_of}
use Rattle.am_node_lines.specs.Answers.{Answer, LineReplied, reply_to, reply_text, line_answer}
use Rattle.am_bytes.specs.declared.standing.NodeStanding.{NodeStanding}
use Rattle.am_bytes.specs.Events.{event_of, event_bytes}
use Rattle.am_bytes.specs.Answers.{answer_bytes, in_bytes, event_answer}
use Rattle.am_bytes.specs.Reading.{found, answer_from}

-- ---- events

-- what a node may be asked by bytes
abbrev pub IsEvent : Line → Type 0
IsEvent (line.Does (does.Send body)) = length body ≤ most_bytes_of_body
IsEvent (line.Does (does.Done req)) = (0 < req) × NumberIsInRange req
IsEvent (line.Does does.Take) = Unit {0}
IsEvent (line.Does does.Join) = Unit {0}
IsEvent (line.Does does.State) = Unit {0}
IsEvent (line.Does does.Leave) = Unit {0}
IsEvent (line.Does (does.Reset least resilience)) = (0 < least) × (least ≤ 16) × (resilience ≤ 15)
IsEvent (line.Does (does.Ask round)) = (0 < round) × NumberIsInRange round
IsEvent (line.Does (does.GiveUp name)) = Unit {0}
IsEvent (line.Does does.Tick) = Unit {0}
IsEvent (line.Does (does.Hear bytes)) = ⊥
IsEvent (line.Hears any to bytes) = IsSetOfNames to × (length bytes ≤ most_bytes_of_packet)
IsEvent line.Info = Unit {0}
IsEvent (line.Bad cause) = ⊥

-- what an event spells is read as that event
abbrev pub EventsAreRead : Type 0
EventsAreRead = (event : Line) → IsEvent event → event_of (event_bytes event) ≡ event

-- ---- answers

-- a number of four bytes
abbrev pub IsWord : ℕ → Type 0
IsWord n = n < 256 ^ 4

abbrev pub HasWords : Stamp → Type 0
HasWords stamp = IsWord stamp.round

-- what the types of an entry's fields keep
abbrev pub FitsEntry : Entry → Type 0
FitsEntry (entries.Data from req body) = IsWord req × (length body ≤ most_bytes_of_body)
FitsEntry (entries.Join name) = Unit {0}
FitsEntry (entries.Leave name) = Unit {0}
FitsEntry (entries.View v) = HasWords v.stamp × IsSetOfNames v.members

-- what the types of an outcome's fields keep
abbrev pub FitsOutcome : Outcome → Type 0
FitsOutcome (said.Queued req) = IsWord req
FitsOutcome (said.Busy queued) = IsWord queued
FitsOutcome (said.Pending req) = IsWord req
FitsOutcome (said.Sent req number) = IsWord req × IsWord number
FitsOutcome (said.Took number entry) = IsWord number × FitsEntry entry
FitsOutcome (said.Joined number) = IsWord number
FitsOutcome (said.PutOff req base top) = IsWord req × IsWord base × IsWord top
FitsOutcome (said.Numbered number) = IsWord number
FitsOutcome (said.Early last) = IsWord last
FitsOutcome (said.Held base top) = IsWord base × IsWord top
FitsOutcome (said.Stored number) = IsWord number
FitsOutcome (said.Gap want) = IsWord want
FitsOutcome (said.NoBody from req) = IsWord req
FitsOutcome (said.Advanced acc) = IsWord acc
FitsOutcome (said.Accepted acc) = IsWord acc
FitsOutcome (said.Served count) = IsWord count
FitsOutcome (said.Welcomed number) = IsWord number
FitsOutcome (said.LetGo number) = IsWord number
FitsOutcome (said.Refused cause) = IsWord cause
FitsOutcome (said.Newer promise) = HasWords promise
FitsOutcome (said.Catching want) = IsWord want
FitsOutcome (said.Waiting names) = IsSetOfNames names
FitsOutcome (said.Fetching from want) = IsWord want
FitsOutcome (said.TooFew got least) = IsWord got × IsWord least
FitsOutcome (said.Crowded base top) = IsWord base × IsWord top
FitsOutcome (said.Overtaken by) = HasWords by
FitsOutcome (said.NotIn best) = HasWords best
FitsOutcome (said.Decided number members) = IsWord number × IsSetOfNames members
FitsOutcome (said.Running life) = IsWord life
FitsOutcome (said.Returned life) = IsWord life
FitsOutcome _ = Unit {0}

-- a letter of a packet that has a spelling
abbrev pub FitsLetter : Letter → Type 0
FitsLetter letter = IsSetOfNames letter.to × IsPacket letter.packet

abbrev pub FitsReply : LineReply → Type 0
FitsReply (replies.Did outcome letters) = FitsOutcome outcome × All FitsLetter letters
FitsReply _ = Unit {0}

-- what the types of its fields keep
pub record FitsStanding (s : NodeStanding) : Type 0 where
  pub view : HasWords s.view
  pub view_number : IsWord s.view_number
  pub members : IsSetOfNames s.members
  pub base : IsWord s.base
  pub taken : IsWord s.taken
  pub accepted : IsWord s.accepted
  pub top : IsWord s.top
  pub waits_for : IsSetOfNames s.waits_for

-- what an answer spells is read as that answer, whatever stands after it
abbrev pub AnswersAreRead : Type 0
AnswersAreRead = (standing : NodeStanding) (told : LineReply) (more : List ℕ) → FitsStanding standing → FitsReply told
    → answer_from (answer_bytes standing told ++ more) ≡ found (standing, told) more

-- ---- events and lines

-- what came of it in words, and the node after it
abbrev pub in_words : Rules → LineReplied → Answer
in_words rules r = record { node = r.node; text = reply_text rules r.node r.reply }

-- where bytes ask what a line says, both are answered by what comes of the same
abbrev pub EventsAreLines : Type 0
EventsAreLines = (rules : Rules) (m : Node) (text bytes : List ℕ) → node_line_of rules text ≡ event_of bytes
    → (line_answer rules m text ≡ in_words rules (reply_to m (event_of bytes))) × (event_answer m bytes ≡ in_bytes (reply_to m (event_of bytes)))
