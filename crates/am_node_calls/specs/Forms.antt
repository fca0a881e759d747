-- How the rows of calls and ticks are put together.
use Rattle.std.specs.Prelude.{◌==◌, ℕ, List, Option, Some, None, Bool, true, false, if◌then◌else◌}
use Rattle.am_base.specs.declared.outcome.Outcome.{Outcome}
use Rattle.am_base.specs.declared.outcome.Outcome.TheVariants as said
use Rattle.am_packet.specs.declared.packet.Packet.{Packet}
use Rattle.am_node_defs.specs.declared.sender.OwnSend.{OwnSend}
use Rattle.am_model.specs.Node.{Node, Ballot, set_of_one_name, lowest_name_or_zero}
use Rattle.am_model.specs.Emit.{Plan, plan_with_letter, with_one_more_letter, hand_over_packet_of}
use Rattle.am_model.specs.Ticks.{with_result_told_again}
use Rattle.am_node_parts.specs.declared.reply.Note.TheVariants as note
use Rattle.am_node_parts.specs.declared.reply.Telling.{Telling}
use Rattle.am_node_parts.specs.declared.reply.Telling.TheVariants as tell

-- one letter, which tells a numbered entry or doesn't
abbrev pub noting : Bool → Node → Outcome → List ℕ → (Node → Packet) → Plan
noting numbers m outcome to packet = record (plan_with_letter m outcome to packet) { numbers = numbers }

-- a send that isn't settled
abbrev pub own_send : ℕ → List ℕ → OwnSend
own_send req body = record { req = req; body = body; number = None }

-- this request waits
abbrev pub waits_for : Option OwnSend → ℕ → Bool
waits_for None req = false
waits_for (Some send) req = send.req == req

-- ---- leaving

-- the sequencer hands over to the lowest of some names
abbrev pub handing : Plan → List ℕ → Plan
handing p names = with_one_more_letter p (set_of_one_name (lowest_name_or_zero names)) hand_over_packet_of

-- and so its letter
abbrev pub hands_over : List ℕ → Telling
hands_over names = tell.Note (set_of_one_name (lowest_name_or_zero names)) note.HandOver

-- ---- ticks

-- a plan that polls, and tells the last View again
abbrev pub and_poll : Plan → Plan
and_poll p = with_result_told_again (record p { polls = true })

-- what a ballot asks for again that came to this
abbrev pub again_of : Outcome → Telling
again_of (said.Waiting names) = tell.Note names note.Invite
again_of (said.Fetching from want) = tell.Note (set_of_one_name from) note.Fetch
again_of _ = tell.Nothing

-- the same of an unfinished ballot
abbrev pub again_of_ballot : Option Ballot → Option Telling
again_of_ballot None = None
again_of_ballot (Some b) = if b.is_over then None else Some (again_of b.answer)
