-- Where a blocking call is ready: its end would tell its answer, so that it makes no turn.
use Rattle.std.specs.Prelude.{ℕ, List, [], ◌∷◌, Option, Some, None, is_some, Bool, false, ◌&&◌, nat_lt}
use Rattle.am_base.specs.declared.outcome.Outcome.{Outcome}
use Rattle.am_base.specs.declared.outcome.Outcome.TheVariants as said
use Rattle.am_packet.specs.declared.packet.Packet.{Packet}
use Rattle.am_packet.specs.declared.packet.Packet.TheVariants as packets
use Rattle.am_packet.specs.Boxes.{Letter}
use Rattle.am_node_defs.specs.Sends.{has_settled_send}
use Rattle.am_group.specs.declared.event.Act.{Act}
use Rattle.am_group.specs.declared.event.Act.TheVariants as act
use Rattle.am_group.specs.declared.event.Record.{Record}
use Rattle.am_model.specs.Node.{Node, is_member, has_departed, has_log_by_status}
use Rattle.am_model.specs.declared.info.BallotEnd.{BallotEnd}
use Rattle.am_model.specs.declared.info.BallotEnd.TheVariants.{Going, Ended}
use Rattle.am_model.specs.Info.{end_of_ballot_of_round}
use Rattle.am_race_laws.specs.Answers.{ballot_answer}

-- the round of an Invite
abbrev pub invite_round : Packet → Option ℕ
invite_round (packets.Invite sender stamp) = Some stamp.round
invite_round _ = None

abbrev pub or_else_round : Option ℕ → ℕ → ℕ
or_else_round None other = other
or_else_round (Some round) other = round

-- the round of the ballot whose Invite went out
abbrev pub round_in : List Letter → ℕ
round_in [] = 0
round_in (letter ∷ letters) = or_else_round (invite_round letter.packet) (round_in letters)

-- a ballot that is over has an answer
abbrev pub is_ended : Option BallotEnd → Bool
is_ended None = false
is_ended (Some (Going outcome)) = false
is_ended (Some (Ended outcome)) = is_some (ballot_answer outcome)

-- a queued send is settled
abbrev pub send_is_settled : Node → Outcome → Bool
send_is_settled m (said.Queued req) = has_settled_send req m.sends
send_is_settled m _ = false

-- after its own act, of which this came, with a ballot of this round
abbrev pub is_ready_after : Node → Act → Outcome → ℕ → Bool
is_ready_after m (act.Send body) outcome round = send_is_settled m outcome
is_ready_after m act.Join outcome round = has_log_by_status m.status
is_ready_after m act.Leave outcome round = has_departed m.status
is_ready_after m (act.Reset least resilience) outcome round = is_ended (end_of_ballot_of_round round m.ballot)
is_ready_after m _ outcome round = false

-- a receive makes its act at its end
abbrev pub may_take : Node → Bool
may_take m = is_member m.status && nat_lt m.core.taken m.core.acc

-- a receive, which makes its act at its end, is ready where something is accepted that a member hasn't taken
unfoldable pub is_ready : Node → Option Record → Bool
is_ready m None = may_take m
is_ready m (Some own) = is_ready_after m own.event.act own.outcome (round_in own.packets)
