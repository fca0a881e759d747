-- What a row says, as data: what it comes to once the step has ended, and which plan it is.
use Rattle.std.specs.Prelude.{◌≡◌, ◌≤◌, ◌+◌, ℕ, List, [], Bool, true, false, nat_lt, nat_le, if◌then◌else◌, Option, Some, None}
use Rattle.am_base.specs.declared.entry.Entry.{Entry}
use Rattle.am_base.specs.declared.entry.Entry.TheVariants.{Data, Leave}
use Rattle.am_base.specs.Lists.{log_entry_at}
use Rattle.am_base.specs.Names.{size}
use Rattle.am_node_defs.specs.Sends.{request_and_body_of_waiting_send}
use Rattle.am_base.specs.declared.outcome.Outcome.{Outcome}
use Rattle.am_base.specs.declared.outcome.Outcome.TheVariants as said
use Rattle.am_base.specs.Limits.{NumberIsInRange, EntryIsInRange}
use Rattle.am_base.specs.Stamps.{stamps_are_equal}
use Rattle.am_packet.specs.declared.packet.Packet.{Packet}
use Rattle.am_packet.specs.Boxes.{Letter, with_letter}
use Rattle.am_model.specs.Node.{Node, top, view, set_of_one_name, image_of_node, other_members, is_sequencer, waiting_send_of, push_entry}
use Rattle.am_model.specs.Refresh.{refresh_at_end}
use Rattle.am_model.specs.Emit.{Plan, plan_without_letters, bcast_packet_of, order_packet_of, ack_packet_of, nack_packet_of, hold_packet_of, join_ask_packet_of, welcome_packet_of, leave_ask_packet_of, invite_packet_of, fetch_packet_of, hand_over_packet_of}
use Rattle.am_model.specs.Sequencing.{row_of_name_in_list}
use Rattle.am_model.specs.Joining.{leaver_may_go}
use Rattle.am_model.specs.Emit.{piece_packet_of, gone_packet_of, request_packet_of, spread_packet_of, result_packet_of, entries_to_serve, letters_of_entries, finish}
use Rattle.am_model.specs.Ballots.{vote_packet_of, letters_with_result, letters_with_fetch}
use Rattle.am_model.specs.Ends.{IsEndOf, ChangesAllAlike, StepsAlike}
use Rattle.am_model.specs.declared.status.Status.TheVariants.{Departed}
use Rattle.am_model.specs.Ticks.{members_behind_view, members_of_view_entry}
use Rattle.am_node_parts.specs.Keeps.{HasRoomLeft}
use Rattle.am_node_parts.specs.Verdicts.{IsTold}
use Rattle.am_node_parts.specs.declared.reply.Note.{Note}
use Rattle.am_node_parts.specs.declared.reply.Note.TheVariants as note
use Rattle.am_node_parts.specs.declared.reply.OwnLetter.{OwnLetter}
use Rattle.am_node_parts.specs.declared.reply.OwnLetter.TheVariants as own_letter
use Rattle.am_node_parts.specs.declared.reply.Telling.{Telling}
use Rattle.am_node_parts.specs.declared.reply.Telling.TheVariants as tell
use Rattle.am_node_parts.specs.declared.reply.StepAnswer.{StepAnswer}
use Rattle.am_node_parts.specs.declared.reply.StepAnswer.TheVariants as answer
use Rattle.am_node_parts.specs.declared.reply.Reply.{Reply}

-- ---- what goes out

-- the packet that a node makes of a note
abbrev pub packet_of : Note → Node → Packet
packet_of (note.Bcast number entry) n = bcast_packet_of n number entry
packet_of (note.Order number from req) n = order_packet_of n number from req
packet_of note.Ack n = ack_packet_of n
packet_of note.Nack n = nack_packet_of n
packet_of (note.Hold req) n = hold_packet_of n req
packet_of note.JoinAsk n = join_ask_packet_of n
packet_of (note.Welcome name) n = welcome_packet_of n name
packet_of note.LeaveAsk n = leave_ask_packet_of n
packet_of note.Invite n = invite_packet_of n
packet_of note.Vote n = vote_packet_of n
packet_of note.Fetch n = fetch_packet_of n
packet_of note.HandOver n = hand_over_packet_of n

-- a numbered entry, in a Piece or a Bcast
abbrev pub packet_of_entry : Bool → Node → ℕ → Entry → Packet
packet_of_entry pieces n number e = if pieces then piece_packet_of n number e else bcast_packet_of n number e

-- the packet of a send of the node's own
abbrev pub own_packet : OwnLetter → ℕ × List ℕ → Node → Packet
own_packet own_letter.Request send n = request_packet_of n send.0 send.1
own_packet own_letter.Spread send n = spread_packet_of n send.0 send.1
own_packet (own_letter.Bcast number) send n = bcast_packet_of n number (Data n.core.who send.0 send.1)

-- the letter of the send that waits
abbrev pub own_letters : List ℕ → OwnLetter → Option (ℕ × List ℕ) → Node → List Letter
own_letters to letter None n = []
own_letters to letter (Some send) n = with_letter to (own_packet letter send n) []

-- the letters with the last View, for those that haven't stored it
abbrev pub letters_with_view : List Letter → Node → List Letter
letters_with_view letters n = with_letter (members_behind_view n) (result_packet_of n (image_of_node n).view_number (members_of_view_entry (log_entry_at n.core.log (image_of_node n).view_number))
    (image_of_node n).resilience) letters

-- the letters of what stood before the end of the step, with the values after it
abbrev pub letters_before_end : Node → Telling → Node → List Letter
letters_before_end old (tell.Entries to stored pieces) n = letters_of_entries (packet_of_entry pieces n) (set_of_one_name to) (stored + 1) (entries_to_serve old stored) []
letters_before_end old (tell.Own to letter) n = own_letters to letter (request_and_body_of_waiting_send old.sends) n
letters_before_end old _ n = []

-- the letters with what else goes out beside an answer, with those values
abbrev pub letters_with_told : Outcome → Telling → Node → List Letter → List Letter
letters_with_told outcome tell.Nothing n letters = letters
letters_with_told outcome (tell.Note to what) n letters = with_letter to (packet_of what n) letters
letters_with_told outcome (tell.AckIn v to) n letters = if stamps_are_equal (view n) v then with_letter (set_of_one_name to) (ack_packet_of n) letters else letters
letters_with_told outcome (tell.Entries to stored pieces) n letters = letters
letters_with_told outcome (tell.Own to letter) n letters = letters
letters_with_told outcome tell.Departs n letters = letters
letters_with_told outcome tell.View n letters = letters_with_view letters n
letters_with_told outcome (tell.Welcome number to) n letters = if nat_le number n.core.acc then with_letter (set_of_one_name to) (welcome_packet_of n to) letters else letters
letters_with_told outcome (tell.Gone to) n letters = if leaver_may_go n to then with_letter (set_of_one_name to) (gone_packet_of n (row_of_name_in_list n to).left) letters else letters
letters_with_told outcome (tell.Ballot fetches) n letters = letters_with_result outcome n (if fetches then letters_with_fetch outcome n letters else letters)

-- the answer, with those values
abbrev pub outcome_of_answer : StepAnswer → Node → Outcome
outcome_of_answer (answer.Is outcome) n = outcome
outcome_of_answer (answer.Advanced since) n = if nat_lt since n.core.acc then said.Advanced n.core.acc else said.Known
outcome_of_answer (answer.Accepted since) n = if nat_lt since n.core.acc then said.Accepted n.core.acc else said.Noted
outcome_of_answer (answer.LetGo to number) n = if leaver_may_go n to then said.LetGo number else said.Again

-- all letters, from the node before the end of the step to that after it
abbrev pub reply_letters : Reply → Node → Node → List Letter
reply_letters r old n = letters_with_told (outcome_of_answer r.answer n) r.second n (letters_with_told (outcome_of_answer r.answer n) r.first n (letters_before_end old r.first n))

-- ---- what may go out

-- its numbers are within the limits of packets
abbrev pub IsNoteWithin : Note → Type 0
IsNoteWithin (note.Bcast number entry) = NumberIsInRange number × EntryIsInRange entry
IsNoteWithin (note.Order number from req) = NumberIsInRange number × NumberIsInRange req
IsNoteWithin (note.Hold req) = NumberIsInRange req
IsNoteWithin _ = Unit {0}

-- the node has what stands above a number
pub record HasEntriesAbove (stored : ℕ) (m : Node) : Type 0 where
  pub low : m.core.base ≤ stored
  pub high : stored ≤ top m

-- a node may depart as the last member
pub record LastMayDepart (m : Node) : Type 0 where
  pub leads : is_sequencer m ≡ true
  pub alone : size (other_members m) ≡ 0
  pub idle : waiting_send_of m ≡ None
  pub room : HasRoomLeft m

-- a number that is told with a send is one
abbrev pub IsOwnWithin : OwnLetter → Type 0
IsOwnWithin own_letter.Request = Unit {0}
IsOwnWithin own_letter.Spread = Unit {0}
IsOwnWithin (own_letter.Bcast number) = NumberIsInRange number

-- it stands there before the end of the step
abbrev pub StandsAtEnd : Telling → Node → Type 0
StandsAtEnd (tell.Entries to stored pieces) m = HasEntriesAbove stored m
StandsAtEnd (tell.Own to letter) m = IsOwnWithin letter
StandsAtEnd tell.Departs m = LastMayDepart m
StandsAtEnd _ m = Unit {0}

-- it may be told beside this answer
abbrev pub MayBeTold : Outcome → Telling → Type 0
MayBeTold outcome (tell.Note to what) = IsNoteWithin what
MayBeTold outcome (tell.Ballot fetches) = IsTold outcome
MayBeTold outcome _ = Unit {0}

-- a node may end its step with this reply
pub record MayEnd (r : Reply) (m : Node) : Type 0 where
  pub there : StandsAtEnd r.first m
  pub first : (n : Node) → MayBeTold (outcome_of_answer r.answer n) r.first
  pub second : (n : Node) → MayBeTold (outcome_of_answer r.answer n) r.second

-- ---- replies

abbrev pub reply_with_answer : StepAnswer → Telling → Reply
reply_with_answer a first = record { answer = a; first = first; second = tell.Nothing; polls = false; numbers = false }

abbrev pub reply_without_letters : Outcome → Reply
reply_without_letters outcome = reply_with_answer (answer.Is outcome) tell.Nothing

abbrev pub reply_with_poll : Outcome → Reply
reply_with_poll outcome = record (reply_without_letters outcome) { polls = true }

abbrev pub reply_with_telling : Outcome → Telling → Reply
reply_with_telling outcome first = reply_with_answer (answer.Is outcome) first

abbrev pub reply_of_numbered_entry : ℕ → List ℕ → Entry → Reply
reply_of_numbered_entry number to entry = record (reply_with_telling (said.Numbered number) (tell.Note to (note.Bcast number entry))) { numbers = true }

abbrev pub reply_asking_names : Outcome → List ℕ → Bool → Reply
reply_asking_names outcome invited fetches = record (reply_with_answer (answer.Is outcome) (tell.Note invited note.Invite)) { second = tell.Ballot fetches }

-- the members are polled, and the last View is told again
abbrev pub reply_polling_with_view : Outcome → Reply
reply_polling_with_view outcome = record (reply_with_telling outcome tell.View) { polls = true }

-- a node ends another's list, as long as it keeps no more than from its base on
abbrev pub Ends : Node → Node → Type 0
Ends all m = m.core.base ≡ m.core.log.start → IsEndOf all m

-- whether the last member departs
abbrev pub is_departure : Telling → Bool
is_departure tell.Departs = true
is_departure _ = false

-- what a plan answers and sends, done up to the end of the step
pub record Replied (p : Plan) (r : Reply) (new : Node) : Type 0 where
  pub answer : p.outcome (refresh_at_end p.node) ≡ outcome_of_answer r.answer (refresh_at_end p.node)
  pub letters : p.letters (refresh_at_end p.node) ≡ reply_letters r new (refresh_at_end p.node)
  pub polls : p.polls ≡ r.polls
  pub numbers : p.numbers ≡ r.numbers
  pub may : MayEnd r new

-- what the last member may tell that departs
abbrev pub MayBeLastTold : Telling → Type 0
MayBeLastTold tell.Nothing = Unit {0}
MayBeLastTold tell.View = Unit {0}
MayBeLastTold _ = ⊥

-- the node that departs is the last member, with its Leave
pub record LastMemberLeaves (p : Plan) (r : Reply) (new : Node) : Type 0 where
  pub node : p.node ≡ push_entry new (Leave new.core.who)
  pub departs : p.departs ≡ true
  pub last : MayBeLastTold r.second

-- to which node it comes, where that stays, and where it departs
abbrev pub PlanReaches : Bool → Plan → Reply → Node → Type 0
PlanReaches false p r new = Ends p.node new × (p.departs ≡ false)
PlanReaches true p r new = LastMemberLeaves p r new

pub record PlanSays (p : Plan) (r : Reply) (new : Node) : Type 0 where
  pub node : PlanReaches (is_departure r.first) p r new
  pub tells : Replied p r new

-- what a row says is this reply: that of a plan which comes to the same
pub record Replies (p : Plan) (r : Reply) (new : Node) : Type 0 where
  pub plan : Plan
  pub same : (m : Node) → StepsAlike (finish m p) (finish m plan)
  pub says : PlanSays plan r new

-- ---- the end of a step

-- the last member has departed
abbrev pub departed_node : Node → Node
departed_node m = record m { status = Departed }

-- the end of the step of a node that stays, and of one that departs
abbrev pub EndsOrDeparts : Bool → Node → Node → Type 0
EndsOrDeparts false old new = ChangesAllAlike refresh_at_end old new
EndsOrDeparts true old new = IsEndOf (departed_node (refresh_at_end (push_entry old (Leave old.core.who)))) new
    × (size (other_members (refresh_at_end (push_entry old (Leave old.core.who)))) ≡ 0)

-- a refusal, or else the plan
abbrev pub refusal_or_plan : Option Outcome → Node → Plan → Plan
refusal_or_plan None m plan = plan
refusal_or_plan (Some outcome) m plan = plan_without_letters m outcome
