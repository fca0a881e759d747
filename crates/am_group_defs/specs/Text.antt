-- What is printed of a run: events, letters, the group's list, deliveries and the closing mark, as lists of bytes.
use Rattle.std.specs.Prelude.{ℕ, ◌+◌, ◌/◌, ◌%◌, ◌==◌, ◌&&◌, ◌||◌, nat_le, Bool, false, if◌then◌else◌, List, [], ◌∷◌, ◌++◌, length, Option, Some, None, codes}
use Rattle.std.specs.Prelude.{decimal, slice_index}
use Rattle.std.specs.List.{flat_map, list_all}
use Rattle.std.specs.Fmt.{digit_glyph}
use Rattle.am_base.specs.Founding.{Rules}
use Rattle.am_base.specs.Names.{place_of_name, life_of_name, names_of, size}
use Rattle.am_base.specs.declared.name.Stamp.{Stamp}
use Rattle.am_base.specs.declared.entry.Entry.{Entry}
use Rattle.am_base.specs.declared.entry.Entry.TheVariants as entries
use Rattle.am_base.specs.declared.outcome.Outcome.{Outcome}
use Rattle.am_base.specs.declared.outcome.Outcome.TheVariants as said
use Rattle.am_packet.specs.Boxes.{Letter}
use Rattle.am_packet.specs.declared.packet.Packet.{Packet}
use Rattle.am_packet.specs.Kinds.{table, head_of}
use Rattle.am_group.specs.declared.event.Act.{Act}
use Rattle.am_group.specs.declared.event.Act.TheVariants as acts
use Rattle.am_group.specs.declared.event.Event.{Event}
use Rattle.am_group.specs.declared.event.Record.{Record}

-- the byte that ends a line
abbrev pub newline : List ℕ
newline = 10 ∷ []

-- a name: its place, and a life other than the first after a slash
unfoldable pub name_text : ℕ → List ℕ
name_text name = if life_of_name name == 1 then decimal (place_of_name name) else decimal (place_of_name name) ++ (codes "/" ++ decimal (life_of_name name))

-- a stamp: its round and its name, with a dot between them
unfoldable pub stamp_text : Stamp → List ℕ
stamp_text stamp = decimal stamp.round ++ (codes "." ++ name_text stamp.by)

-- names with commas between them, or a dash
abbrev pub list_text : List ℕ → List ℕ
list_text [] = codes "-"
list_text (first ∷ others) = name_text first ++ flat_map (λ name. codes "," ++ name_text name) others

-- a set of names, ascending
unfoldable pub names_text : List ℕ → List ℕ
names_text set = list_text (names_of set)

-- two lower-case hexadecimal digits
abbrev pub hex_byte : ℕ → List ℕ
hex_byte byte = digit_glyph false (byte / 16) ∷ digit_glyph false (byte % 16) ∷ []

-- a body: each byte in turn, or a dash
unfoldable pub body_text : List ℕ → List ℕ
body_text [] = codes "-"
body_text (first ∷ others) = flat_map hex_byte (first ∷ others)

-- a resilience, where it isn't the founding's
unfoldable pub resilience_text : Rules → ℕ → List ℕ
resilience_text rules resilience = if resilience == rules.resilience then [] else codes " r" ++ decimal resilience

unfoldable pub entry_text : Rules → Entry → List ℕ
entry_text rules (entries.Data from req body) = codes "data " ++ (name_text from ++ (codes " " ++ (decimal req ++ (codes " " ++ body_text body))))
entry_text rules (entries.Join name) = codes "join " ++ name_text name
entry_text rules (entries.Leave name) = codes "leave " ++ name_text name
entry_text rules (entries.View v) = codes "view "
    ++ (stamp_text v.stamp ++ (codes " " ++ (names_text v.members ++ resilience_text rules v.resilience)))

-- an outcome's word
unfoldable pub outcome_word : Outcome → List ℕ
outcome_word (said.Queued req) = codes "queued"
outcome_word (said.Busy queued) = codes "busy"
outcome_word (said.Pending req) = codes "pending"
outcome_word (said.Sent req number) = codes "sent"
outcome_word said.Unknown = codes "unknown"
outcome_word (said.Took number entry) = codes "took"
outcome_word said.Empty = codes "empty"
outcome_word said.Asked = codes "asked"
outcome_word (said.Joined number) = codes "joined"
outcome_word said.Leaving = codes "leaving"
outcome_word said.Departed = codes "departed"
outcome_word said.Stranger = codes "stranger"
outcome_word said.NotMember = codes "not-member"
outcome_word said.Ticked = codes "ticked"
outcome_word said.Idle = codes "idle"
outcome_word (said.PutOff req base top) = codes "put-off"
outcome_word (said.Numbered number) = codes "numbered"
outcome_word said.Again = codes "again"
outcome_word (said.Early last) = codes "early"
outcome_word (said.Held base top) = codes "held"
outcome_word said.Kept = codes "kept"
outcome_word said.Known = codes "known"
outcome_word (said.Stored number) = codes "stored"
outcome_word (said.Gap want) = codes "gap"
outcome_word (said.NoBody from req) = codes "no-body"
outcome_word said.Behind = codes "behind"
outcome_word said.Unfit = codes "unfit"
outcome_word (said.Advanced acc) = codes "advanced"
outcome_word said.Noted = codes "noted"
outcome_word (said.Accepted acc) = codes "accepted"
outcome_word (said.Served count) = codes "served"
outcome_word (said.Welcomed number) = codes "welcomed"
outcome_word (said.LetGo number) = codes "let-go"
outcome_word said.Elsewhere = codes "elsewhere"
outcome_word (said.Refused cause) = codes "refused"
outcome_word said.Voted = codes "voted"
outcome_word (said.Newer promise) = codes "newer"
outcome_word (said.Catching want) = codes "catching"
outcome_word (said.Waiting names) = codes "waiting"
outcome_word (said.Fetching from want) = codes "fetching"
outcome_word (said.TooFew got least) = codes "too-few"
outcome_word (said.Crowded base top) = codes "crowded"
outcome_word (said.Overtaken by) = codes "overtaken"
outcome_word (said.NotIn best) = codes "not-in"
outcome_word (said.Decided number members) = codes "decided"
outcome_word said.NotCoordinator = codes "not-coordinator"
outcome_word said.Stopped = codes "stopped"
outcome_word said.NoPacket = codes "no-packet"
outcome_word said.NotAddressed = codes "not-addressed"
outcome_word said.IsStopped = codes "is-stopped"
outcome_word said.NotStopped = codes "not-stopped"
outcome_word (said.Occupied name) = codes "occupied"
outcome_word (said.Running life) = codes "running"
outcome_word said.NoLife = codes "no-life"
outcome_word (said.Returned life) = codes "returned"

-- numbers with a blank before each
abbrev pub numbers_text : List ℕ → List ℕ
numbers_text numbers = flat_map (λ number. codes " " ++ decimal number) numbers

-- the numbers of an outcome that has nothing but numbers
abbrev pub outcome_numbers : Outcome → List ℕ
outcome_numbers (said.Queued req) = req ∷ []
outcome_numbers (said.Busy queued) = queued ∷ []
outcome_numbers (said.Pending req) = req ∷ []
outcome_numbers (said.Sent req number) = req ∷ number ∷ []
outcome_numbers (said.Joined number) = number ∷ []
outcome_numbers (said.PutOff req base top) = req ∷ base ∷ top ∷ []
outcome_numbers (said.Numbered number) = number ∷ []
outcome_numbers (said.Early last) = last ∷ []
outcome_numbers (said.Held base top) = base ∷ top ∷ []
outcome_numbers (said.Stored number) = number ∷ []
outcome_numbers (said.Gap want) = want ∷ []
outcome_numbers (said.Advanced acc) = acc ∷ []
outcome_numbers (said.Accepted acc) = acc ∷ []
outcome_numbers (said.Served count) = count ∷ []
outcome_numbers (said.Welcomed number) = number ∷ []
outcome_numbers (said.LetGo number) = number ∷ []
outcome_numbers (said.Refused cause) = cause ∷ []
outcome_numbers (said.Catching want) = want ∷ []
outcome_numbers (said.TooFew got least) = got ∷ least ∷ []
outcome_numbers (said.Crowded base top) = base ∷ top ∷ []
outcome_numbers (said.Running life) = life ∷ []
outcome_numbers (said.Returned life) = life ∷ []
outcome_numbers _ = []

-- what stands after an outcome's word, with a blank before each part
unfoldable pub outcome_parts : Rules → Outcome → List ℕ
outcome_parts rules (said.Took number entry) = codes " " ++ (decimal number ++ (codes " " ++ entry_text rules entry))
outcome_parts rules (said.NoBody from req) = codes " " ++ (name_text from ++ (codes " " ++ decimal req))
outcome_parts rules (said.Newer promise) = codes " " ++ stamp_text promise
outcome_parts rules (said.Waiting names) = codes " " ++ names_text names
outcome_parts rules (said.Fetching from want) = codes " " ++ (name_text from ++ (codes " " ++ decimal want))
outcome_parts rules (said.Overtaken by) = codes " " ++ stamp_text by
outcome_parts rules (said.NotIn best) = codes " " ++ stamp_text best
outcome_parts rules (said.Decided number members) = codes " " ++ (decimal number ++ (codes " " ++ names_text members))
outcome_parts rules (said.Occupied name) = codes " " ++ name_text name
outcome_parts rules outcome = numbers_text (outcome_numbers outcome)

unfoldable pub outcome_text : Rules → Outcome → List ℕ
outcome_text rules outcome = outcome_word outcome ++ outcome_parts rules outcome

-- an act's word
unfoldable pub act_word : Act → List ℕ
act_word (acts.Send body) = codes "send"
act_word (acts.Done req) = codes "done"
act_word acts.Take = codes "take"
act_word acts.Join = codes "join"
act_word acts.State = codes "state"
act_word acts.Leave = codes "leave"
act_word (acts.Reset least resilience) = codes "reset"
act_word (acts.Ask round) = codes "ask"
act_word (acts.GiveUp name) = codes "giveup"
act_word acts.Stop = codes "stop"
act_word acts.Tick = codes "tick"
act_word (acts.Hear packet) = codes "hear"
act_word (acts.Cut packet keep) = codes "cut"
act_word acts.Return = codes "return"

-- what stands after an act's node, with a blank before each part
unfoldable pub act_parts : Rules → Act → List ℕ
act_parts rules (acts.Send body) = codes " " ++ body_text body
act_parts rules (acts.Done req) = codes " " ++ decimal req
act_parts rules acts.Take = []
act_parts rules acts.Join = []
act_parts rules acts.State = []
act_parts rules acts.Leave = []
act_parts rules (acts.Reset least resilience) = codes " " ++ (decimal least ++ resilience_text rules resilience)
act_parts rules (acts.Ask round) = codes " " ++ decimal round
act_parts rules (acts.GiveUp name) = codes " " ++ name_text name
act_parts rules acts.Stop = []
act_parts rules acts.Tick = []
act_parts rules (acts.Hear packet) = codes " " ++ decimal packet
act_parts rules (acts.Cut packet keep) = codes " " ++ (decimal packet ++ (codes " " ++ decimal keep))
act_parts rules acts.Return = []

-- an event: its act's word, the place of its node, and the rest
unfoldable pub event_text : Rules → Event → List ℕ
event_text rules event = act_word event.act ++ (codes " " ++ (decimal (place_of_name event.node) ++ act_parts rules event.act))

-- the name of a packet's kind
unfoldable pub kind_word : Packet → List ℕ
kind_word packet = (table (head_of packet).kind).word

-- exactly the fifteen other places' names of life 1: fifteen names, none of a later life, none of this place
abbrev pub is_everybody_else : ℕ → List ℕ → Bool
is_everybody_else place set = (size set == 15) && (list_all (λ life. nat_le life 1) set && (slice_index set place == 0))

-- for whom a letter of a node at this place is
unfoldable pub addressees_text : ℕ → Letter → List ℕ
addressees_text place letter = if letter.any || is_everybody_else place letter.to then codes "all" else names_text letter.to

-- a letter after its event: its number, its kind and for whom it is
unfoldable pub letter_text : ℕ → ℕ → Letter → List ℕ
letter_text place number letter = codes " | " ++ (decimal number ++ (codes " " ++ (kind_word letter.packet ++ (codes " to " ++ addressees_text place letter))))

-- letters, the first of which has this number
abbrev pub letters_text : ℕ → ℕ → List Letter → List ℕ
letters_text place number [] = []
letters_text place number (letter ∷ letters) = letter_text place number letter ++ letters_text place (number + 1) letters

-- the line of an event of this number, before which so many letters were sent
unfoldable pub record_line : Rules → ℕ → ℕ → Record → List ℕ
record_line rules number before happened = decimal number ++ (codes " "
    ++ (event_text rules happened.event ++ (codes " : " ++ (outcome_text rules happened.outcome
    ++ (letters_text (place_of_name happened.event.node) (before + 1) happened.packets ++ newline)))))

-- the lines of events, the first of which has this number
abbrev pub lines_from : Rules → ℕ → ℕ → List Record → List ℕ
lines_from rules number before [] = []
lines_from rules number before (happened ∷ later) = record_line rules number before happened
    ++ lines_from rules (number + 1) (before + length happened.packets) later

-- the lines of a run's events, which are counted from 1, as its letters are
unfoldable pub records_text : Rules → List Record → List ℕ
records_text rules records = lines_from rules 1 0 records

-- the line of an entry of the group's list
unfoldable pub group_line : Rules → ℕ → Entry → List ℕ
group_line rules number entry = codes "group " ++ (decimal number ++ (codes " " ++ (entry_text rules entry ++ newline)))

-- the lines of entries, the first of which has this number
abbrev pub group_from : Rules → ℕ → List Entry → List ℕ
group_from rules number [] = []
group_from rules number (entry ∷ later) = group_line rules number entry ++ group_from rules (number + 1) later

-- the lines of a group's list
unfoldable pub group_text : Rules → List Entry → List ℕ
group_text rules group = group_from rules 1 group

-- the line of an entry that was given to a name's application
unfoldable pub log_line : Rules → ℕ → ℕ → Entry → List ℕ
log_line rules name number entry = codes "log " ++ (name_text name ++ (codes " " ++ (decimal number ++ (codes " " ++ (entry_text rules entry ++ newline)))))

-- the line of a name that was given nothing
unfoldable pub empty_log_line : ℕ → List ℕ
empty_log_line name = codes "log " ++ (name_text name ++ (codes " empty" ++ newline))

-- the lines of what was given to a name's application: numbers with their entries
unfoldable pub log_text : Rules → ℕ → List (ℕ × Entry) → List ℕ
log_text rules name [] = empty_log_line name
log_text rules name (first ∷ later) = flat_map (λ given. log_line rules name given.0 given.1) (first ∷ later)

-- the lines of all names that have or had a list
unfoldable pub logs_text : Rules → List (ℕ × List (ℕ × Entry)) → List ℕ
logs_text rules logs = flat_map (λ log. log_text rules log.0 log.1) logs

-- the last line: whether the run is lawful, or else which event broke it
unfoldable pub mark_line : Option ℕ → List ℕ
mark_line None = codes "lawful" ++ newline
mark_line (Some number) = codes "void from " ++ (decimal number ++ newline)

-- all that is printed of a run: its events, the group's list, each name's deliveries by ascending name, the mark
unfoldable pub play_text : Rules → List Record → List Entry → List (ℕ × List (ℕ × Entry)) → Option ℕ → List ℕ
play_text rules records group logs broken = records_text rules records ++ (group_text rules group ++ (logs_text rules logs ++ mark_line broken))
