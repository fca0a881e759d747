-- What an act asks of its name's node, or how it is answered without one.
use Rattle.std.specs.Prelude.{◌≡◌, ℕ, ◌+◌, List, take, Option, Some, None, Bool, false, ◌==◌, ◌||◌, if◌then◌else◌, slice_index_or}
use Rattle.am_base.specs.declared.outcome.Outcome.{Outcome}
use Rattle.am_base.specs.declared.outcome.Outcome.TheVariants as said
use Rattle.am_base.specs.declared.event.NodeEvent.{NodeEvent}
use Rattle.am_base.specs.declared.event.NodeEvent.TheVariants as does
use Rattle.am_base.specs.Names.{life_of_name}
use Rattle.am_packet.specs.Boxes.{Letter}
use Rattle.am_packet.specs.Limits.{IsPacket}
use Rattle.am_packet.specs.Spelling.{spelling}
use Rattle.am_group.specs.declared.event.Act.{Act}
use Rattle.am_group.specs.declared.event.Act.TheVariants as act
use Rattle.am_group.specs.Journals.{letter_at}
use Rattle.am_group.specs.Addressed.{is_for}
use Rattle.am_journal.specs.declared.asked.Asked.{Asked}
use Rattle.am_journal.specs.declared.asked.Asked.TheVariants.{Step, Answer}
use Rattle.am_journal.specs.declared.asked.Heard.{Heard}

-- what holds where a node is to do a step
abbrev pub OnStep : Asked → Type 0 → Type 0
OnStep (Step what) claim = claim
OnStep (Answer outcome) claim = Unit {0}

-- what holds of an answer without a node
abbrev pub IfAnswer : Asked → (Outcome → Type 0) → Type 0
IfAnswer (Step what) claim = Unit {0}
IfAnswer (Answer outcome) claim = claim outcome

-- whether a name has stopped, by the flags of all names
abbrev pub flag_of : List Bool → ℕ → Bool
flag_of flags name = slice_index_or flags name false

-- a stopped name does nothing
abbrev pub if_running : Bool → NodeEvent → Asked
if_running stopped what = if stopped then Answer said.IsStopped else Step what

-- all of a packet, or only so many first bytes
abbrev pub first_bytes : Option ℕ → List ℕ → List ℕ
first_bytes None bytes = bytes
first_bytes (Some keep) bytes = take keep bytes

abbrev pub hears : Option ℕ → ℕ → Bool → Option Letter → Asked
hears keep name stopped None = Answer said.NoPacket
hears keep name stopped (Some letter) = if is_for letter name then if_running stopped
    (does.Hear (first_bytes keep (spelling letter.packet))) else Answer said.NotAddressed

abbrev pub give_up_or_answer : Bool → Bool → ℕ → Asked
give_up_or_answer stopped other_stopped other = if stopped then Answer said.IsStopped else if other_stopped then Step (does.GiveUp other) else Answer said.NotStopped

abbrev pub stops_node : Bool → Outcome
stops_node stopped = if stopped then said.IsStopped else said.Stopped

-- a place returns where its name has gone or stopped, sixteen lives at most
abbrev pub returns : Bool → ℕ → Outcome
returns gone life = if gone then (if life == 16 then said.NoLife else said.Returned (life + 1)) else said.Running life

-- what an act asks of a name, where these letters were sent
abbrev pub event_or_answer : List Letter → List Bool → Bool → ℕ → Act → Asked
event_or_answer letters flags departed name (act.Send body) = if_running (flag_of flags name) (does.Send body)
event_or_answer letters flags departed name (act.Done req) = if_running (flag_of flags name) (does.Done req)
event_or_answer letters flags departed name act.Take = if_running (flag_of flags name) does.Take
event_or_answer letters flags departed name act.Join = if_running (flag_of flags name) does.Join
event_or_answer letters flags departed name act.State = if_running (flag_of flags name) does.State
event_or_answer letters flags departed name act.Leave = if_running (flag_of flags name) does.Leave
event_or_answer letters flags departed name (act.Reset least resilience) = if_running (flag_of flags name) (does.Reset least resilience)
event_or_answer letters flags departed name (act.Ask round) = if_running (flag_of flags name) (does.Ask round)
event_or_answer letters flags departed name (act.GiveUp other) = give_up_or_answer (flag_of flags name) (flag_of flags other) other
event_or_answer letters flags departed name act.Stop = Answer (stops_node (flag_of flags name))
event_or_answer letters flags departed name act.Tick = if_running (flag_of flags name) does.Tick
event_or_answer letters flags departed name (act.Hear number) = hears None name (flag_of flags name) (letter_at letters number)
event_or_answer letters flags departed name (act.Cut number keep) = hears (Some keep) name (flag_of flags name) (letter_at letters number)
event_or_answer letters flags departed name act.Return = Answer (returns (flag_of flags name || departed) (life_of_name name))

-- the packet that an act hears, and how many of its first bytes
abbrev pub heard_of : Act → Option Heard
heard_of (act.Hear number) = Some (record { packet = number; keep = None })
heard_of (act.Cut number keep) = Some (record { packet = number; keep = Some keep })
heard_of _ = None

-- what an act hears is a packet's spelling
abbrev pub SpellsPacket : List Letter → Act → Type 0
SpellsPacket letters a = (h : Heard) (letter : Letter) → heard_of a ≡ Some h → letter_at letters h.packet ≡ Some letter → IsPacket letter.packet
