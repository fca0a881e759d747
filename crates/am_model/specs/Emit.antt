-- What a row says, and the end of a step: the refresh, and then what is answered and sent, with the values that stand then.
use Rattle.std.specs.Prelude.{ℕ, ◌+◌, List, [], ◌∷◌, take, Bool, true, false, not, ◌&&◌, ◌||◌, nat_lt, if◌then◌else◌}
use Rattle.am_base.specs.declared.entry.Entry.{Entry}
use Rattle.am_base.specs.declared.outcome.Outcome.{Outcome}
use Rattle.am_base.specs.Lists.{log_image_at, row_of_name}
use Rattle.am_packet.specs.declared.packet.Packet.{Packet}
use Rattle.am_packet.specs.declared.packet.Packet.TheVariants as packet
use Rattle.am_packet.specs.Boxes.{Letter, with_letter}
use Rattle.am_model.specs.declared.status.Status.TheVariants.{Departed}
use Rattle.am_model.specs.Node.{Node, top, image_of_node, other_members, is_sequencer, push_entry, own_report_of, entries_above}
use Rattle.am_model.specs.Refresh.{refresh_at_end}

-- what a row says: the node before the refresh at the end; the answer and the letters, of the node after it; whether
-- the members are polled, whether a Data, Join or Leave was numbered, and whether the node departs
pub record Plan : Type 0 where
  pub node : Node
  pub outcome : Node → Outcome
  pub letters : Node → List Letter
  pub polls : Bool
  pub numbers : Bool
  pub departs : Bool

-- what a step gives
pub record StepResult : Type 0 where
  pub node : Node
  pub outcome : Outcome
  pub letters : List Letter

-- ---- packets with the values of their sender after the step

abbrev pub request_packet_of : Node → ℕ → List ℕ → Packet
request_packet_of n req body = packet.Request n.core.who n.core.promise (own_report_of n) req body

abbrev pub spread_packet_of : Node → ℕ → List ℕ → Packet
spread_packet_of n req body = packet.Spread n.core.who n.core.promise (own_report_of n) req body

abbrev pub bcast_packet_of : Node → ℕ → Entry → Packet
bcast_packet_of n number e = packet.Bcast n.core.who n.core.promise n.core.base n.core.acc number e

abbrev pub order_packet_of : Node → ℕ → ℕ → ℕ → Packet
order_packet_of n number from req = packet.Order n.core.who n.core.promise n.core.base n.core.acc number from req

abbrev pub accept_packet_of : Node → Bool → Packet
accept_packet_of n poll = packet.Accept n.core.who n.core.promise n.core.base n.core.acc (top n) poll

abbrev pub ack_packet_of : Node → Packet
ack_packet_of n = packet.Ack n.core.who n.core.promise (own_report_of n)

abbrev pub nack_packet_of : Node → Packet
nack_packet_of n = packet.Nack n.core.who n.core.promise (own_report_of n)

abbrev pub hold_packet_of : Node → ℕ → Packet
hold_packet_of n req = packet.Hold n.core.who n.core.promise n.core.base (top n) req

abbrev pub join_ask_packet_of : Node → Packet
join_ask_packet_of n = packet.JoinAsk n.core.who n.core.promise

-- a Welcome tells where the list begins for the joiner, its number, and what stands up to the base
abbrev pub welcome_packet_of : Node → ℕ → Packet
welcome_packet_of n name = packet.Welcome n.core.who n.core.promise n.core.base (row_of_name (image_of_node n) name).joined (log_image_at n.core.log n.core.base)

abbrev pub leave_ask_packet_of : Node → Packet
leave_ask_packet_of n = packet.LeaveAsk n.core.who n.core.promise (own_report_of n)

abbrev pub gone_packet_of : Node → ℕ → Packet
gone_packet_of n number = packet.Gone n.core.who n.core.promise number

abbrev pub invite_packet_of : Node → Packet
invite_packet_of n = packet.Invite n.core.who n.core.promise

abbrev pub fetch_packet_of : Node → Packet
fetch_packet_of n = packet.Fetch n.core.who n.core.promise (top n)

abbrev pub piece_packet_of : Node → ℕ → Entry → Packet
piece_packet_of n number e = packet.Piece n.core.who n.core.promise n.core.base number e

abbrev pub result_packet_of : Node → ℕ → List ℕ → ℕ → Packet
result_packet_of n number names resilience = packet.Result n.core.who n.core.base number
    (record { stamp = n.core.promise; members = names; resilience = resilience })

abbrev pub hand_over_packet_of : Node → Packet
hand_over_packet_of n = packet.HandOver n.core.who n.core.promise

-- ---- plans

-- an answer and no letter
abbrev pub plan_without_letters : Node → Outcome → Plan
plan_without_letters m outcome = record { node = m; outcome = λ n. outcome; letters = λ n. []; polls = false; numbers = false; departs = false }

-- one letter
abbrev pub plan_with_letter : Node → Outcome → List ℕ → (Node → Packet) → Plan
plan_with_letter m outcome to packet = record (plan_without_letters m outcome) { letters = λ n. with_letter to (packet n) [] }

-- an answer, and the members are polled
abbrev pub plan_with_poll : Node → Outcome → Plan
plan_with_poll m outcome = record (plan_without_letters m outcome) { polls = true }

-- with one letter more
abbrev pub with_one_more_letter : Plan → List ℕ → (Node → Packet) → Plan
with_one_more_letter p to packet = record p { letters = λ n. with_letter to (packet n) (p.letters n) }

-- with one letter more where a test of the node after the step says so
abbrev pub with_letter_where : (Node → Bool) → Plan → List ℕ → (Node → Packet) → Plan
with_letter_where test p to packet = record p { letters = λ n. if test n then with_letter to (packet n) (p.letters n) else p.letters n }

-- the sequencer numbers an entry, and tells those who were members before it
abbrev pub plan_numbering_entry : Node → Entry → Outcome → (Node → Packet) → Plan
plan_numbering_entry m e outcome packet = record (plan_with_letter (push_entry m e) outcome (other_members m) packet) { numbers = true }

-- ---- entries sent again

-- the entries above a number, eight at most
abbrev pub entries_to_serve : Node → ℕ → List Entry
entries_to_serve m stored = take 8 (entries_above m stored)

-- a letter for each entry, from this number on
unfoldable pub letters_of_entries : (ℕ → Entry → Packet) → List ℕ → ℕ → List Entry → List Letter → List Letter
letters_of_entries packet to number [] letters = letters
letters_of_entries packet to number (e ∷ es) letters = letters_of_entries packet to (number + 1) es (with_letter to (packet number e) letters)

-- ---- the end of a step

-- the sequencer tells the members what is accepted where it polls them, or where that rose and no entry that it numbered tells it
abbrev pub sends_accept : Node → Plan → Node → Bool
sends_accept m p n = is_sequencer n && (p.polls || (nat_lt m.core.acc n.core.acc && not p.numbers))

abbrev pub letters_with_accept : Node → Plan → Node → List Letter → List Letter
letters_with_accept m p n letters = if sends_accept m p n then with_letter (other_members n) (accept_packet_of n p.polls) letters else letters

-- the plan of a row, done by a node
unfoldable pub finish : Node → Plan → StepResult
finish m p =
    let n = refresh_at_end p.node in
    record {
      node = if p.departs then record n { status = Departed } else n;
      outcome = p.outcome n;
      letters = letters_with_accept m p n (p.letters n);
    }
