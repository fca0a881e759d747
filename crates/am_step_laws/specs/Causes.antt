-- What makes a node do a step, and what the packets among it tell.
use Rattle.std.specs.Prelude.{ℕ, List, Bool, Ok, Err}
use Rattle.am_base.specs.declared.name.Stamp.{Stamp}
use Rattle.am_base.specs.declared.image.Report.{Report}
use Rattle.am_base.specs.declared.entry.Entry.{Entry}
use Rattle.am_base.specs.declared.event.NodeEvent.{NodeEvent}
use Rattle.am_base.specs.declared.event.NodeEvent.TheVariants as does
use Rattle.am_packet.specs.declared.packet.Packet.{Packet}
use Rattle.am_packet.specs.declared.packet.Packet.TheVariants.{Request, Spread, Bcast, Order, Accept, Ack, Nack, LeaveAsk}
use Rattle.am_packet.specs.Reading.{Read, reading}

-- a call or the tick, a packet that is heard, or bytes that are no packet
pub data Cause : Type 0 where
  calls : NodeEvent → Cause
  hears : Packet → Cause
  refuses : Cause

-- bytes are heard as what they spell
abbrev pub cause_of_read : Read Packet → Cause
cause_of_read (Ok packet) = hears packet
cause_of_read (Err refusal) = refuses

abbrev pub cause_of : NodeEvent → Cause
cause_of (does.Hear bytes) = cause_of_read (reading bytes)
cause_of event = calls event

-- ---- what packets bring, with their sender and stamp

-- a send of its sender
pub data CauseHasSend : Cause → ℕ → Stamp → Report → ℕ → List ℕ → Type 0 where
  by_request : (s : ℕ) (v : Stamp) (report : Report) (req : ℕ) (body : List ℕ) → CauseHasSend (hears (Request s v report req body)) s v report req body
  by_spread : (s : ℕ) (v : Stamp) (report : Report) (req : ℕ) (body : List ℕ) → CauseHasSend (hears (Spread s v report req body)) s v report req body

-- a report
pub data CauseHasReport : Cause → ℕ → Stamp → Report → Type 0 where
  with_send : {c : Cause} (s : ℕ) (v : Stamp) (report : Report) (req : ℕ) (body : List ℕ) → CauseHasSend c s v report req body → CauseHasReport c s v report
  by_ack : (s : ℕ) (v : Stamp) (report : Report) → CauseHasReport (hears (Ack s v report)) s v report
  by_nack : (s : ℕ) (v : Stamp) (report : Report) → CauseHasReport (hears (Nack s v report)) s v report
  by_leave_ask : (s : ℕ) (v : Stamp) (report : Report) → CauseHasReport (hears (LeaveAsk s v report)) s v report

-- how far the sequencer trimmed and accepted
pub data CauseHasFronts : Cause → ℕ → Stamp → ℕ → ℕ → Type 0 where
  with_entry : (s : ℕ) (v : Stamp) (base acc number : ℕ) (e : Entry) → CauseHasFronts (hears (Bcast s v base acc number e)) s v base acc
  with_number : (s : ℕ) (v : Stamp) (base acc number from req : ℕ) → CauseHasFronts (hears (Order s v base acc number from req)) s v base acc
  alone : (s : ℕ) (v : Stamp) (base acc high : ℕ) (poll : Bool) → CauseHasFronts (hears (Accept s v base acc high poll)) s v base acc
