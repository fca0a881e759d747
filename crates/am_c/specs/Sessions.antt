-- What a session stands for: a node after the lines and events that have their answers.
use Rattle.std.specs.Prelude.{◌≡◌, ◌≢◌, ◌<◌, ◌≤◌, ℕ, List, ◌++◌, ◌∷◌, [], take, drop, length, Option, Some, None, codes, string_bytes}
use Rattle.am_base.specs.Founding.{Rules}
use Rattle.am_model.specs.Node.{Node}
use Rattle.am_model.specs.Ends.{IsEndOf}
use Rattle.am_group_defs.specs.World.{first_node}
use Rattle.am_text_defs.specs.Fields.{split_text}
use Rattle.am_cli_words.specs.declared.form.Form.{Form}
use Rattle.am_cli_words.specs.declared.form.Form.TheVariants as words
use Rattle.am_node_lines.specs.Answers.{Answer, line_answer}
use Rattle.am_node_lines.specs.Speakers.{speaking}
use Rattle.am_bytes.specs.Answers.{event_answer}
use Rattle.am_c.specs.declared.session.AskForm.{AskForm}
use Rattle.am_c.specs.declared.session.AskForm.TheVariants.{Line, Event}
use Rattle.am_c.specs.declared.session.Session.{Session}
use Rattle.am_c.specs.declared.session.SessionStage.TheVariants.{Ready, Waits}

-- ---- options

-- the words of the program that has these options, with one blank between them
abbrev pub option_words : List ℕ → List (List ℕ)
option_words options = split_text 32 (codes "node " ++ options)

-- a form asks for a node
abbrev pub IsNode : Option Form → Type 0
IsNode (Some (words.Node node)) = Unit {0}
IsNode _ = ⊥

-- ---- what is asked

-- what a call asks of a node: a line, or an event as bytes
pub record AskedOfNode : Type 0 where
  pub form : AskForm
  pub bytes : List ℕ

abbrev pub a_line : List ℕ → AskedOfNode
a_line bytes = record { form = Line; bytes = bytes }

abbrev pub an_event : List ℕ → AskedOfNode
an_event bytes = record { form = Event; bytes = bytes }

-- the answer in this form to these bytes
abbrev pub session_answer : AskForm → Rules → Node → List ℕ → Answer
session_answer Line rules m bytes = line_answer rules m bytes
session_answer Event rules m bytes = event_answer m bytes

abbrev pub answer_for : Rules → Node → AskedOfNode → Answer
answer_for rules m asked = session_answer asked.form rules m asked.bytes

-- the node after what was asked
unfoldable pub node_behind : Rules → Node → List AskedOfNode → Node
node_behind rules m [] = m
node_behind rules m (first ∷ later) = node_behind rules (answer_for rules m first).node later

-- ---- sessions

-- what is kept of a line or an event: all of it, or so much that it is longer than one may be
abbrev pub kept : List ℕ → List ℕ
kept bytes = take 4097 bytes

-- the answer to what is asked, of a name's node after what was asked before it
abbrev pub answer_behind : Rules → ℕ → List AskedOfNode → AskedOfNode → Answer
answer_behind rules name before asked = answer_for rules (node_behind rules (first_node rules name) before) asked

-- of a text and bytes, those of the form
abbrev pub made_in : AskForm → List ℕ → List ℕ → List ℕ
made_in Line text bytes = text
made_in Event text bytes = bytes

-- the answer that was made last
abbrev pub made_of : Session → List ℕ
made_of s = made_in s.form (string_bytes s.text) s.bytes.items

-- this answer was made, by a node that comes to this one
pub record MadeBy (made : List ℕ) (node : Node) (answer : Answer) : Type 0 where
  pub text : made ≡ answer.text
  pub end : IsEndOf answer.node node

-- all that was asked has its answer: the node is a name's after it
pub record SessionIsReady (s : Session) (rules : Rules) (name : ℕ) (before : List AskedOfNode) : Type 0 where
  pub stage : s.stage ≡ Ready
  pub founded : (speaking s.speaker).rules ≡ rules
  pub node : IsEndOf (node_behind rules (first_node rules name) before) (speaking s.speaker).node

-- after that one thing more was asked, and its answer waits for room
pub record IsWaiting (s : Session) (rules : Rules) (name : ℕ) (before : List AskedOfNode) (asked : AskedOfNode) : Type 0 where
  pub stage : s.stage ≡ Waits
  pub form : s.form ≡ asked.form
  pub waits : s.asked.items ≡ kept asked.bytes
  pub answer : made_of s ≡ (answer_behind rules name before asked).text
  pub founded : (speaking s.speaker).rules ≡ rules
  pub node : IsEndOf (answer_behind rules name before asked).node (speaking s.speaker).node

-- a session of a name's node: what has its answers, and that whose answer waits for room
abbrev pub IsBehind : Session → Rules → ℕ → List AskedOfNode → Option AskedOfNode → Type 0
IsBehind s rules name before None = SessionIsReady s rules name before
IsBehind s rules name before (Some asked) = IsWaiting s rules name before asked

-- ---- a step

-- the answer stands at the head of the room, and its length was written
pub record IsWritten (text room room' : List ℕ) (said : ℕ) : Type 0 where
  pub answer : room' ≡ text ++ drop (length text) room
  pub long : said ≡ length text
  pub fits : length text ≤ length room

-- what was asked has its answer, and the node is after it
abbrev pub Told : Session → AskedOfNode → Session → List ℕ → List ℕ → ℕ → Type 0
Told old asked new room room' said = (rules : Rules) (name : ℕ) (before : List AskedOfNode) (waiting : Option AskedOfNode) → IsBehind old rules name before waiting
    → IsBehind new rules name (before ++ asked ∷ []) None × IsWritten (answer_behind rules name before asked).text room room' said

-- the room was too short: nothing has its answer that had none, and how long the answer is was written
abbrev pub FoundNoRoom : Session → AskedOfNode → Session → List ℕ → ℕ → Type 0
FoundNoRoom old asked new room said = (rules : Rules) (name : ℕ) (before : List AskedOfNode) (waiting : Option AskedOfNode) → IsBehind old rules name before waiting
    → IsBehind new rules name before (Some asked) × (said ≡ length (answer_behind rules name before asked).text) × (length room < said)

-- the answer to something else waits for room
abbrev pub WaitsForOther : Session → AskedOfNode → Type 0
WaitsForOther s asked = (s.stage ≡ Waits) × (s.form ≡ asked.form → s.asked.items ≢ kept asked.bytes)
