-- What answers say, read from their bytes.
use Rattle.std.specs.Prelude.{ℕ, zero, suc, ◌/◌, ◌%◌, List, [], ◌∷◌, get_or, Option, Some, None, Bool, true, false, Ok, Err, Result, ◌==◌, if◌then◌else◌}
use Rattle.byteorder.specs.Endian.{big_number}
use Rattle.am_base.specs.Names.{names_of_mask_and_lives, are_mask_and_lives}
use Rattle.am_base.specs.declared.name.Stamp.{Stamp}
use Rattle.am_base.specs.declared.entry.Entry.{Entry}
use Rattle.am_base.specs.declared.entry.Entry.TheVariants as entries
use Rattle.am_base.specs.declared.outcome.Outcome.{Outcome}
use Rattle.am_base.specs.declared.outcome.Outcome.TheVariants as said
use Rattle.am_packet.specs.Boxes.{Letter}
use Rattle.am_packet.specs.declared.packet.Packet.{Packet}
use Rattle.am_packet.specs.declared.refusal.PacketRefusal.{PacketRefusal}
use Rattle.am_packet.specs.Reading.{reading}
use Rattle.am_model.specs.declared.info.Role.{Role}
use Rattle.am_model.specs.declared.info.Role.TheVariants as role
use Rattle.am_node_lines.specs.declared.line.BadLine.{BadLine}
use Rattle.am_node_lines.specs.declared.line.BadLine.TheVariants.{NoSuchWord, Form, Limit, TooLong}
use Rattle.am_node_lines.specs.declared.reply.LineReply.{LineReply}
use Rattle.am_node_lines.specs.declared.reply.LineReply.TheVariants as replies
use Rattle.am_bytes.specs.declared.standing.NodeStanding.{NodeStanding}

-- something that stands at the front of bytes, and the bytes after it
abbrev pub ReadFront : Type 0 → Type 0
ReadFront A = Option (A × List ℕ)

-- what is read after it
abbrev pub read_then : {A B : Type 0} → ReadFront A → (A → List ℕ → ReadFront B) → ReadFront B
read_then None next = None
read_then (Some read) next = next read.0 read.1

abbrev pub found : {A : Type 0} → A → List ℕ → ReadFront A
found x rest = Some (x, rest)

-- one that there is
abbrev pub chosen : {A : Type 0} → Option A → List ℕ → ReadFront A
chosen None rest = None
chosen (Some x) rest = found x rest

-- ---- fields

unfoldable pub byte_from : List ℕ → ReadFront ℕ
byte_from [] = None
byte_from (byte ∷ rest) = found byte rest

-- so many bytes
unfoldable pub bytes_from : ℕ → List ℕ → ReadFront (List ℕ)
bytes_from zero bytes = found [] bytes
bytes_from (suc n) [] = None
bytes_from (suc n) (byte ∷ rest) = read_then (bytes_from n rest) (λ later behind. found (byte ∷ later) behind)

-- a number of so many bytes
unfoldable pub number_from : ℕ → List ℕ → ReadFront ℕ
number_from n bytes = read_then (bytes_from n bytes) (λ digits rest. found (big_number n digits) rest)

abbrev pub flag_by : ℕ → List ℕ → ReadFront Bool
flag_by byte rest = if byte == 0 then found false rest else if byte == 1 then found true rest else None

unfoldable pub flag_from : List ℕ → ReadFront Bool
flag_from bytes = read_then (byte_from bytes) flag_by

unfoldable pub stamp_from : List ℕ → ReadFront Stamp
stamp_from bytes = read_then (number_from 4 bytes) (λ round a. read_then (byte_from a) (λ by rest. found (record { round = round; by = by }) rest))

abbrev pub set_by : ℕ → ℕ → List ℕ → ReadFront (List ℕ)
set_by mask lives rest = if are_mask_and_lives mask lives then found (names_of_mask_and_lives mask lives) rest else None

unfoldable pub set_from : List ℕ → ReadFront (List ℕ)
set_from bytes = read_then (number_from 2 bytes) (λ mask a. read_then (number_from 8 a) (set_by mask))

-- ---- entries

unfoldable pub data_from : List ℕ → ReadFront Entry
data_from bytes =
    read_then (byte_from bytes) (λ from a. read_then (number_from 4 a) (λ req b. read_then (number_from 2 b) (λ n c. read_then (bytes_from n c)
    (λ body rest. found (entries.Data from req body) rest))))

unfoldable pub view_from : List ℕ → ReadFront Entry
view_from bytes =
    read_then (stamp_from bytes) (λ stamp a. read_then (set_from a) (λ members b. read_then (byte_from b)
    (λ resilience rest. found (entries.View (record { stamp = stamp; members = members; resilience = resilience })) rest)))

abbrev pub entry_by : ℕ → List ℕ → ReadFront Entry
entry_by kind bytes =
    if kind == 1 then data_from bytes
    else if kind == 2 then read_then (byte_from bytes) (λ name rest. found (entries.Join name) rest)
    else if kind == 3 then read_then (byte_from bytes) (λ name rest. found (entries.Leave name) rest)
    else if kind == 4 then view_from bytes
    else None

unfoldable pub entry_from : List ℕ → ReadFront Entry
entry_from bytes = read_then (byte_from bytes) entry_by

-- ---- outcomes

-- which fields an outcome has, and the outcome that they make
pub data Shape : Type 0 where
  Missing : Shape
  Plain : Outcome → Shape
  Number : (ℕ → Outcome) → Shape
  Two : (ℕ → ℕ → Outcome) → Shape
  Three : (ℕ → ℕ → ℕ → Outcome) → Shape
  WithEntry : (ℕ → Entry → Outcome) → Shape
  NameNumber : (ℕ → ℕ → Outcome) → Shape
  OfStamp : (Stamp → Outcome) → Shape
  OfSet : (List ℕ → Outcome) → Shape
  NumberSet : (ℕ → List ℕ → Outcome) → Shape
  OfName : (ℕ → Outcome) → Shape

-- the shapes of all kinds, from 0 on
abbrev pub shapes : List Shape
shapes =
    Missing
    ∷ Number said.Queued
    ∷ Number said.Busy
    ∷ Number said.Pending
    ∷ Two said.Sent
    ∷ Plain said.Unknown
    ∷ WithEntry said.Took
    ∷ Plain said.Empty
    ∷ Plain said.Asked
    ∷ Number said.Joined
    ∷ Plain said.Leaving
    ∷ Plain said.Departed
    ∷ Plain said.Stranger
    ∷ Plain said.NotMember
    ∷ Plain said.Ticked
    ∷ Plain said.Idle
    ∷ Three said.PutOff
    ∷ Number said.Numbered
    ∷ Plain said.Again
    ∷ Number said.Early
    ∷ Two said.Held
    ∷ Plain said.Kept
    ∷ Plain said.Known
    ∷ Number said.Stored
    ∷ Number said.Gap
    ∷ NameNumber said.NoBody
    ∷ Plain said.Behind
    ∷ Plain said.Unfit
    ∷ Number said.Advanced
    ∷ Plain said.Noted
    ∷ Number said.Accepted
    ∷ Number said.Served
    ∷ Number said.Welcomed
    ∷ Number said.LetGo
    ∷ Plain said.Elsewhere
    ∷ Number said.Refused
    ∷ Plain said.Voted
    ∷ OfStamp said.Newer
    ∷ Number said.Catching
    ∷ OfSet said.Waiting
    ∷ NameNumber said.Fetching
    ∷ Two said.TooFew
    ∷ Two said.Crowded
    ∷ OfStamp said.Overtaken
    ∷ OfStamp said.NotIn
    ∷ NumberSet said.Decided
    ∷ Plain said.NotCoordinator
    ∷ Plain said.Stopped
    ∷ Plain said.NoPacket
    ∷ Plain said.NotAddressed
    ∷ Plain said.IsStopped
    ∷ Plain said.NotStopped
    ∷ OfName said.Occupied
    ∷ Number said.Running
    ∷ Plain said.NoLife
    ∷ Number said.Returned
    ∷ []

abbrev pub shape_at : ℕ → Shape
shape_at kind = get_or shapes kind Missing

unfoldable pub made_from : Shape → List ℕ → ReadFront Outcome
made_from Missing bytes = None
made_from (Plain made) bytes = found made bytes
made_from (Number made) bytes = read_then (number_from 4 bytes) (λ n rest. found (made n) rest)
made_from (Two made) bytes = read_then (number_from 4 bytes) (λ n a. read_then (number_from 4 a) (λ k rest. found (made n k) rest))
made_from (Three made) bytes =
    read_then (number_from 4 bytes) (λ n a. read_then (number_from 4 a) (λ k b. read_then (number_from 4 b) (λ j rest. found (made n k j) rest)))
made_from (WithEntry made) bytes = read_then (number_from 4 bytes) (λ n a. read_then (entry_from a) (λ entry rest. found (made n entry) rest))
made_from (NameNumber made) bytes = read_then (byte_from bytes) (λ name a. read_then (number_from 4 a) (λ n rest. found (made name n) rest))
made_from (OfStamp made) bytes = read_then (stamp_from bytes) (λ stamp rest. found (made stamp) rest)
made_from (OfSet made) bytes = read_then (set_from bytes) (λ set rest. found (made set) rest)
made_from (NumberSet made) bytes = read_then (number_from 4 bytes) (λ n a. read_then (set_from a) (λ set rest. found (made n set) rest))
made_from (OfName made) bytes = read_then (byte_from bytes) (λ name rest. found (made name) rest)

-- ---- letters

-- a letter of bytes that spell a packet
abbrev pub letter_by : Bool → List ℕ → Result Packet PacketRefusal → List ℕ → ReadFront Letter
letter_by any to (Err refusal) rest = None
letter_by any to (Ok packet) rest = found (record { to = to; any = any; packet = packet }) rest

unfoldable pub letter_from : List ℕ → ReadFront Letter
letter_from bytes =
    read_then (flag_from bytes) (λ any a. read_then (set_from a) (λ to b. read_then (number_from 2 b) (λ n c. read_then (bytes_from n c)
    (λ spelled rest. letter_by any to (reading spelled) rest))))

-- so many letters
unfoldable pub letters_from : ℕ → List ℕ → ReadFront (List Letter)
letters_from zero bytes = found [] bytes
letters_from (suc more) bytes =
    read_then (letter_from bytes) (λ letter a. read_then (letters_from more a) (λ letters rest. found (letter ∷ letters) rest))

-- ---- what came of an event

abbrev pub cause_at : ℕ → Option BadLine
cause_at number =
    if number == 1 then Some NoSuchWord
    else if number == 2 then Some Form
    else if number == 3 then Some Limit
    else if number == 4 then Some TooLong
    else None

-- no letters stand after it
abbrev pub without_letters : LineReply → List ℕ → ReadFront LineReply
without_letters told bytes = read_then (byte_from bytes) (λ count rest. if count == 0 then found told rest else None)

unfoldable pub bad_from : List ℕ → ReadFront LineReply
bad_from bytes = read_then (byte_from bytes) (λ number a. read_then (chosen (cause_at number) a) (λ cause rest. without_letters (replies.Bad cause) rest))

unfoldable pub did_from : Shape → List ℕ → ReadFront LineReply
did_from shape bytes =
    read_then (made_from shape bytes) (λ outcome a. read_then (byte_from a) (λ count b. read_then (letters_from count b)
    (λ letters rest. found (replies.Did outcome letters) rest)))

abbrev pub reply_in_bytes : ℕ → List ℕ → ReadFront LineReply
reply_in_bytes kind bytes =
    if kind == 0 then without_letters replies.Info bytes
    else if kind == 254 then without_letters replies.Spent bytes
    else if kind == 255 then bad_from bytes
    else did_from (shape_at kind) bytes

unfoldable pub reply_from : List ℕ → ReadFront LineReply
reply_from bytes = read_then (byte_from bytes) reply_in_bytes

-- ---- how a node stands

abbrev pub role_at : ℕ → Option Role
role_at number =
    if number == 0 then Some role.Stranger
    else if number == 1 then Some role.Asking
    else if number == 2 then Some role.Member
    else if number == 3 then Some role.Sequencer
    else if number == 4 then Some role.Coordinator
    else if number == 5 then Some role.Departed
    else None

-- the flag that counts so much
abbrev pub flag_in : ℕ → ℕ → Bool
flag_in flags worth = flags / worth % 2 == 1

unfoldable pub standing_from : List ℕ → ReadFront NodeStanding
standing_from bytes =
    read_then (byte_from bytes) (λ number a. read_then (chosen (role_at number) a) (λ role b. read_then (byte_from b)
    (λ flags c. read_then (stamp_from c) (λ view d. read_then (number_from 4 d) (λ view_number e. read_then (set_from e)
    (λ members f. read_then (byte_from f) (λ resilience g. read_then (number_from 4 g) (λ base h. read_then (number_from 4 h)
    (λ taken i. read_then (number_from 4 i) (λ accepted j. read_then (number_from 4 j) (λ top k. read_then (set_from k)
    (λ waits_for rest. found (record {
      role = role;
      has_next = flag_in flags 1;
      is_sending = flag_in flags 2;
      is_leaving = flag_in flags 4;
      view = view;
      view_number = view_number;
      members = members;
      resilience = resilience;
      base = base;
      taken = taken;
      accepted = accepted;
      top = top;
      waits_for = waits_for;
    }) rest))))))))))))

-- how a node stands, and what came of an event
unfoldable pub answer_from : List ℕ → ReadFront (NodeStanding × LineReply)
answer_from bytes = read_then (standing_from bytes) (λ standing a. read_then (reply_from a) (λ told rest. found (standing, told) rest))
