-- What a node answers to a line.
use Rattle.std.specs.Prelude.{ℕ, ◌+◌, List, [], ◌++◌, codes, decimal, Bool, true, false, ◌&&◌, nat_lt, if◌then◌else◌, slice_index}
use Rattle.std.specs.List.{flat_map}
use Rattle.am_base.specs.Founding.{Rules}
use Rattle.am_base.specs.Most.{greatest_number}
use Rattle.am_base.specs.Names.{place_of_name, has}
use Rattle.am_base.specs.declared.event.NodeEvent.TheVariants as does
use Rattle.am_base.specs.declared.outcome.Outcome.TheVariants as said
use Rattle.am_packet.specs.Boxes.{Letter}
use Rattle.am_packet.specs.Spelling.{spelling}
use Rattle.am_model.specs.Node.{Node, top, view, members, image_of_node}
use Rattle.am_model.specs.Emit.{StepResult}
use Rattle.am_model.specs.Step.{step}
use Rattle.am_model.specs.Info.{role_of_node, names_waited_for}
use Rattle.am_model.specs.declared.info.Role.{Role}
use Rattle.am_model.specs.declared.info.Role.TheVariants as role
use Rattle.am_group_defs.specs.Text.{stamp_text, names_text, hex_byte, outcome_text}
use Rattle.am_node_lines.specs.declared.line.Line.{Line}
use Rattle.am_node_lines.specs.declared.line.Line.TheVariants as line
use Rattle.am_node_lines.specs.declared.reply.LineReply.{LineReply}
use Rattle.am_node_lines.specs.declared.reply.LineReply.TheVariants as replies
use Rattle.am_node_lines.specs.Lines.{node_line_of, bad_line_number}

-- ---- letters

-- a letter's addressees, exactly: its names, with a star before them where it is for any life of their places
unfoldable pub to_text : Letter → List ℕ
to_text letter = if letter.any then codes "*" ++ names_text letter.to else names_text letter.to

-- a letter after an answer: its addressees and its bytes
unfoldable pub answer_letter_text : Letter → List ℕ
answer_letter_text letter = codes " | " ++ (to_text letter ++ (codes " " ++ flat_map hex_byte (spelling letter.packet)))

-- a name is addressed: it is in the set, or any life of its place is
abbrev pub is_addressed : Bool → List ℕ → ℕ → Bool
is_addressed any to name = if any then nat_lt 0 (slice_index to (place_of_name name)) else has to name

-- ---- what a node tells of itself

abbrev pub role_word : Role → List ℕ
role_word role.Stranger = codes "stranger"
role_word role.Asking = codes "asking"
role_word role.Member = codes "member"
role_word role.Sequencer = codes "sequencer"
role_word role.Coordinator = codes "coordinator"
role_word role.Departed = codes "departed"

-- its resilience and the numbers of its list, with a blank around each: base, taken, accepted, top
unfoldable pub list_numbers_text : Node → List ℕ
list_numbers_text m =
    codes " " ++ (decimal (image_of_node m).resilience
    ++ (codes " " ++ (decimal m.core.base
    ++ (codes " " ++ (decimal m.core.taken
    ++ (codes " " ++ (decimal m.core.acc
    ++ (codes " " ++ (decimal (top m) ++ codes " ")))))))))

-- its role; its view, and the number of that; the members; its numbers; the names that its ballot waits for
unfoldable pub info_text : Node → List ℕ
info_text m =
    role_word (role_of_node m)
    ++ (codes " " ++ (stamp_text (view m)
    ++ (codes " " ++ (decimal (image_of_node m).view_number
    ++ (codes " " ++ (names_text (members m)
    ++ (list_numbers_text m ++ names_text (names_waited_for m.ballot))))))))

-- ---- what comes of a line

-- what comes of a line, and the node after it
pub record LineReplied : Type 0 where
  pub node : Node
  pub reply : LineReply

-- what comes of a line that changes nothing
abbrev pub unchanged : Node → LineReply → LineReplied
unchanged m told = record { node = m; reply = told }

-- what comes of a step: its outcome, and its letters in order
abbrev pub stepped : StepResult → LineReplied
stepped s = record { node = s.node; reply = replies.Did s.outcome s.letters }

-- what comes of a line where no number is used up
abbrev pub reply_by : Node → Line → LineReplied
reply_by m (line.Does event) = stepped (step m event)
reply_by m (line.Hears any to bytes) =
    if is_addressed any to m.core.who then stepped (step m (does.Hear bytes)) else unchanged m (replies.Did said.NotAddressed [])
reply_by m line.Info = unchanged m replies.Info
reply_by m (line.Bad cause) = unchanged m (replies.Bad cause)

-- none of a node's numbers is at its end
abbrev pub has_numbers_left : Node → Bool
has_numbers_left m = nat_lt (top m + 1) greatest_number && (nat_lt m.core.promise.round greatest_number && nat_lt m.sends.last greatest_number)

-- the line asks what the node knows
abbrev pub is_info : Line → Bool
is_info (line.Does event) = false
is_info (line.Hears any to bytes) = false
is_info line.Info = true
is_info (line.Bad cause) = false

-- where one is, the same comes of every line but info
abbrev pub reply_to : Node → Line → LineReplied
reply_to m asked =
    if is_info asked then unchanged m replies.Info
    else if has_numbers_left m then reply_by m asked
    else unchanged m replies.Spent

-- ---- answers

-- what a node makes of a line: the node after it, and what it answers, without the newline
pub record Answer : Type 0 where
  pub node : Node
  pub text : List ℕ

-- the text of what came of a line, of the node after it
abbrev pub reply_text : Rules → Node → LineReply → List ℕ
reply_text rules m (replies.Did outcome letters) = outcome_text rules outcome ++ flat_map answer_letter_text letters
reply_text rules m replies.Info = info_text m
reply_text rules m (replies.Bad cause) = codes "bad line " ++ decimal (bad_line_number cause)
reply_text rules m replies.Spent = codes "no numbers left"

abbrev pub answer_to : Rules → Node → Line → Answer
answer_to rules m asked = record { node = (reply_to m asked).node; text = reply_text rules (reply_to m asked).node (reply_to m asked).reply }

-- the answer to a line's bytes
unfoldable pub line_answer : Rules → Node → List ℕ → Answer
line_answer rules m text = answer_to rules m (node_line_of rules text)
