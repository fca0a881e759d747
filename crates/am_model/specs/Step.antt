-- One step of a node: the row of an event, and the end of the step. Bytes come in here: what they spell is heard, and what
-- spells no packet is refused.
use Rattle.std.specs.Prelude.{ℕ, Ok, Err}
use Rattle.am_base.specs.declared.outcome.Outcome.TheVariants as said
use Rattle.am_base.specs.declared.event.NodeEvent.{NodeEvent}
use Rattle.am_base.specs.declared.event.NodeEvent.TheVariants.{Send, Done, Take, Join, State, Leave, Reset, Ask, GiveUp, Tick, Hear}
use Rattle.am_packet.specs.declared.packet.Packet.{Packet}
use Rattle.am_packet.specs.Reading.{Read, reading, refusal_number}
use Rattle.am_model.specs.Node.{Node}
use Rattle.am_model.specs.Emit.{Plan, StepResult, plan_without_letters, finish}
use Rattle.am_model.specs.Calls.{send_row, done_row, take_row, join_row, state_row, leave_row, reset_row, ask_row, give_up_row}
use Rattle.am_model.specs.Ticks.{tick_row}
use Rattle.am_model.specs.Hearing.{hear_row}

-- bytes that are no packet, by the number of this cause
abbrev pub refuse_bytes : Node → ℕ → Plan
refuse_bytes m cause = plan_without_letters m (said.Refused cause)

-- the row of bytes, by what was read of them
abbrev pub row_of_read_bytes : Node → Read Packet → Plan
row_of_read_bytes m (Ok packet) = hear_row m packet
row_of_read_bytes m (Err refusal) = refuse_bytes m (refusal_number refusal)

-- the row of an event
unfoldable pub row : Node → NodeEvent → Plan
row m (Send body) = send_row m body
row m (Done req) = done_row m req
row m Take = take_row m
row m Join = join_row m
row m State = state_row m
row m Leave = leave_row m
row m (Reset least resilience) = reset_row m least resilience
row m (Ask round) = ask_row m round
row m (GiveUp name) = give_up_row m name
row m Tick = tick_row m
row m (Hear bytes) = row_of_read_bytes m (reading bytes)

-- what a node makes of an event
unfoldable pub step : Node → NodeEvent → StepResult
step m event = finish m (row m event)

-- what it makes of a packet
unfoldable pub hear_packet : Node → Packet → StepResult
hear_packet m packet = finish m (hear_row m packet)

-- what it makes of bytes that are no packet
unfoldable pub hear_refused_bytes : Node → ℕ → StepResult
hear_refused_bytes m cause = finish m (refuse_bytes m cause)
