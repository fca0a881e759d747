-- What a node answers to an event, as bytes: how it stands then, what came of the event, and its letters.
use Rattle.std.specs.Prelude.{ℕ, ◌+◌, ◌*◌, List, [], ◌∷◌, ◌++◌, length, Bool, ◌==◌, nat_lt, not, if◌then◌else◌}
use Rattle.std.specs.List.{flat_map}
use Rattle.byteorder.specs.Endian.{big_bytes}
use Rattle.am_base.specs.declared.entry.Entry.{Entry}
use Rattle.am_base.specs.declared.entry.Entry.TheVariants as entries
use Rattle.am_base.specs.declared.outcome.Outcome.{Outcome}
use Rattle.am_base.specs.declared.outcome.Outcome.TheVariants as said
use Rattle.am_packet.specs.Boxes.{Letter}
use Rattle.am_packet.specs.Spelling.{stamp_bytes, set_bytes, flag_byte, spelling}
use Rattle.am_model.specs.Node.{Node, top, view, members, image_of_node, node_unsettled_count}
use Rattle.am_model.specs.Info.{role_of_node, names_waited_for}
use Rattle.am_model.specs.declared.info.Role.{Role}
use Rattle.am_model.specs.declared.info.Role.TheVariants as role
use Rattle.am_node_lines.specs.declared.reply.LineReply.{LineReply}
use Rattle.am_node_lines.specs.declared.reply.LineReply.TheVariants as replies
use Rattle.am_node_lines.specs.Lines.{bad_line_number}
use Rattle.am_node_lines.specs.Answers.{Answer, LineReplied, reply_to}
use Rattle.am_bytes.specs.declared.standing.NodeStanding.{NodeStanding}
use Rattle.am_bytes.specs.Events.{event_of}

-- ---- how a node stands

abbrev pub node_standing : Node → NodeStanding
node_standing m = record {
  role = role_of_node m;
  has_next = not (m.core.taken == m.core.acc);
  is_sending = nat_lt 0 (node_unsettled_count m);
  is_leaving = m.leaving;
  view = view m;
  view_number = (image_of_node m).view_number;
  members = members m;
  resilience = (image_of_node m).resilience;
  base = m.core.base;
  taken = m.core.taken;
  accepted = m.core.acc;
  top = top m;
  waits_for = names_waited_for m.ballot;
}

abbrev pub role_number : Role → ℕ
role_number role.Stranger = 0
role_number role.Asking = 1
role_number role.Member = 2
role_number role.Sequencer = 3
role_number role.Coordinator = 4
role_number role.Departed = 5

-- three flags, added up
abbrev pub flags_of : Bool → Bool → Bool → ℕ
flags_of first second third = flag_byte first + 2 * flag_byte second + 4 * flag_byte third

-- where its list stands: base, taken, accepted, top
unfoldable pub fronts_bytes : NodeStanding → List ℕ
fronts_bytes s = big_bytes 4 s.base ++ big_bytes 4 s.taken ++ big_bytes 4 s.accepted ++ big_bytes 4 s.top

-- its view: the stamp, the number, the members and the resilience
unfoldable pub view_bytes : NodeStanding → List ℕ
view_bytes s = stamp_bytes s.view ++ big_bytes 4 s.view_number ++ set_bytes s.members ++ s.resilience ∷ []

-- what it is: its role, and flags
unfoldable pub role_bytes : NodeStanding → List ℕ
role_bytes s = role_number s.role ∷ flags_of s.has_next s.is_sending s.is_leaving ∷ []

-- 48 bytes
unfoldable pub standing_bytes : NodeStanding → List ℕ
standing_bytes s = role_bytes s ++ view_bytes s ++ (fronts_bytes s ++ set_bytes s.waits_for)

-- ---- outcomes

-- their kinds, in the order of their declaration
unfoldable pub outcome_kind : Outcome → ℕ
outcome_kind (said.Queued req) = 1
outcome_kind (said.Busy queued) = 2
outcome_kind (said.Pending req) = 3
outcome_kind (said.Sent req number) = 4
outcome_kind said.Unknown = 5
outcome_kind (said.Took number entry) = 6
outcome_kind said.Empty = 7
outcome_kind said.Asked = 8
outcome_kind (said.Joined number) = 9
outcome_kind said.Leaving = 10
outcome_kind said.Departed = 11
outcome_kind said.Stranger = 12
outcome_kind said.NotMember = 13
outcome_kind said.Ticked = 14
outcome_kind said.Idle = 15
outcome_kind (said.PutOff req base top) = 16
outcome_kind (said.Numbered number) = 17
outcome_kind said.Again = 18
outcome_kind (said.Early last) = 19
outcome_kind (said.Held base top) = 20
outcome_kind said.Kept = 21
outcome_kind said.Known = 22
outcome_kind (said.Stored number) = 23
outcome_kind (said.Gap want) = 24
outcome_kind (said.NoBody from req) = 25
outcome_kind said.Behind = 26
outcome_kind said.Unfit = 27
outcome_kind (said.Advanced acc) = 28
outcome_kind said.Noted = 29
outcome_kind (said.Accepted acc) = 30
outcome_kind (said.Served count) = 31
outcome_kind (said.Welcomed number) = 32
outcome_kind (said.LetGo number) = 33
outcome_kind said.Elsewhere = 34
outcome_kind (said.Refused cause) = 35
outcome_kind said.Voted = 36
outcome_kind (said.Newer promise) = 37
outcome_kind (said.Catching want) = 38
outcome_kind (said.Waiting names) = 39
outcome_kind (said.Fetching from want) = 40
outcome_kind (said.TooFew got least) = 41
outcome_kind (said.Crowded base top) = 42
outcome_kind (said.Overtaken by) = 43
outcome_kind (said.NotIn best) = 44
outcome_kind (said.Decided number members) = 45
outcome_kind said.NotCoordinator = 46
outcome_kind said.Stopped = 47
outcome_kind said.NoPacket = 48
outcome_kind said.NotAddressed = 49
outcome_kind said.IsStopped = 50
outcome_kind said.NotStopped = 51
outcome_kind (said.Occupied name) = 52
outcome_kind (said.Running life) = 53
outcome_kind said.NoLife = 54
outcome_kind (said.Returned life) = 55

-- an entry: its kind, and the kind's fields
unfoldable pub entry_answer_bytes : Entry → List ℕ
entry_answer_bytes (entries.Data from req body) = 1 ∷ from ∷ [] ++ big_bytes 4 req ++ big_bytes 2 (length body) ++ body
entry_answer_bytes (entries.Join name) = 2 ∷ name ∷ []
entry_answer_bytes (entries.Leave name) = 3 ∷ name ∷ []
entry_answer_bytes (entries.View v) = 4 ∷ [] ++ stamp_bytes v.stamp ++ set_bytes v.members ++ v.resilience ∷ []

-- what stands after an outcome's kind
unfoldable pub outcome_fields : Outcome → List ℕ
outcome_fields (said.Queued req) = big_bytes 4 req
outcome_fields (said.Busy queued) = big_bytes 4 queued
outcome_fields (said.Pending req) = big_bytes 4 req
outcome_fields (said.Sent req number) = big_bytes 4 req ++ big_bytes 4 number
outcome_fields (said.Took number entry) = big_bytes 4 number ++ entry_answer_bytes entry
outcome_fields (said.Joined number) = big_bytes 4 number
outcome_fields (said.PutOff req base top) = big_bytes 4 req ++ big_bytes 4 base ++ big_bytes 4 top
outcome_fields (said.Numbered number) = big_bytes 4 number
outcome_fields (said.Early last) = big_bytes 4 last
outcome_fields (said.Held base top) = big_bytes 4 base ++ big_bytes 4 top
outcome_fields (said.Stored number) = big_bytes 4 number
outcome_fields (said.Gap want) = big_bytes 4 want
outcome_fields (said.NoBody from req) = from ∷ [] ++ big_bytes 4 req
outcome_fields (said.Advanced acc) = big_bytes 4 acc
outcome_fields (said.Accepted acc) = big_bytes 4 acc
outcome_fields (said.Served count) = big_bytes 4 count
outcome_fields (said.Welcomed number) = big_bytes 4 number
outcome_fields (said.LetGo number) = big_bytes 4 number
outcome_fields (said.Refused cause) = big_bytes 4 cause
outcome_fields (said.Newer promise) = stamp_bytes promise
outcome_fields (said.Catching want) = big_bytes 4 want
outcome_fields (said.Waiting names) = set_bytes names
outcome_fields (said.Fetching from want) = from ∷ [] ++ big_bytes 4 want
outcome_fields (said.TooFew got least) = big_bytes 4 got ++ big_bytes 4 least
outcome_fields (said.Crowded base top) = big_bytes 4 base ++ big_bytes 4 top
outcome_fields (said.Overtaken by) = stamp_bytes by
outcome_fields (said.NotIn best) = stamp_bytes best
outcome_fields (said.Decided number members) = big_bytes 4 number ++ set_bytes members
outcome_fields (said.Occupied name) = name ∷ []
outcome_fields (said.Running life) = big_bytes 4 life
outcome_fields (said.Returned life) = big_bytes 4 life
outcome_fields _ = []

-- ---- letters

-- for whom a letter is
unfoldable pub to_bytes : Bool → List ℕ → List ℕ
to_bytes any to = flag_byte any ∷ [] ++ set_bytes to

-- bytes with their number before them
unfoldable pub counted_bytes : List ℕ → List ℕ
counted_bytes bytes = big_bytes 2 (length bytes) ++ bytes

-- a letter: for whom it is, and its bytes with their number before them
unfoldable pub letter_bytes : Letter → List ℕ
letter_bytes letter = to_bytes letter.any letter.to ++ counted_bytes (spelling letter.packet)

-- letters in order, with their number before them
unfoldable pub letters_bytes : List Letter → List ℕ
letters_bytes letters = length letters ∷ flat_map letter_bytes letters

-- ---- answers

-- what came of an event
unfoldable pub reply_bytes : LineReply → List ℕ
reply_bytes (replies.Did outcome letters) = outcome_kind outcome ∷ [] ++ outcome_fields outcome ++ letters_bytes letters
reply_bytes replies.Info = 0 ∷ 0 ∷ []
reply_bytes (replies.Spent) = 254 ∷ 0 ∷ []
reply_bytes (replies.Bad cause) = 255 ∷ bad_line_number cause ∷ 0 ∷ []

-- how a node stands, and what came of an event
unfoldable pub answer_bytes : NodeStanding → LineReply → List ℕ
answer_bytes standing told = standing_bytes standing ++ reply_bytes told

-- what came of an event in bytes, and the node after it
abbrev pub in_bytes : LineReplied → Answer
in_bytes r = record { node = r.node; text = answer_bytes (node_standing r.node) r.reply }

-- what a node makes of an event's bytes: the node after it, and the bytes of its answer
unfoldable pub event_answer : Node → List ℕ → Answer
event_answer m bytes = in_bytes (reply_to m (event_of bytes))
