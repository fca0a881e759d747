-- What a speaking node is to contracts.
use Rattle.std.specs.Prelude.{◌≡◌, ℕ, ◌≤◌, ◌++◌, Bool, List, length}
use Rattle.am_base.specs.Founding.{Rules}
use Rattle.am_model.specs.Node.{Node}
use Rattle.am_model.specs.Ends.{IsEndOf}
use Rattle.am_node.specs.Stands.{state_of}
use Rattle.am_node_lines.specs.declared.speaker.Speaker.{Speaker}
use Rattle.am_node_lines.specs.declared.reply.LineReply.{LineReply}
use Rattle.am_node_lines.specs.declared.reply.LineReply.TheVariants as replies
use Rattle.am_node_lines.specs.Answers.{Answer, LineReplied}

-- its group's founding, its node, of which it keeps the end of the list, and whether there was no memory for an answer
pub record SpeakerState : Type 0 where
  pub rules : Rules
  pub node : Node
  pub failed : Bool

abbrev pub speaking : Speaker → SpeakerState
speaking s = record { rules = s.founding; node = state_of s.node.value; failed = s.failed }

-- what came of a line, and the node that is kept then, are those that the protocol gives, whatever node this one is the end of
abbrev pub RepliesBy : (Node → LineReplied) → Node → LineReply → Node → Type 0
RepliesBy replied old told new = (all : Node) → IsEndOf all old → (told ≡ (replied all).reply) × IsEndOf (replied all).node new

-- so few letters are they
abbrev pub HasFewLetters : LineReply → Type 0
HasFewLetters (replies.Did outcome letters) = length letters ≤ 9
HasFewLetters _ = Unit {0}

-- what was added to a text, and the node that is kept then, are those of an answer, whatever node this one is the end of
abbrev pub AnswersBy : (Node → Answer) → Node → List ℕ → Node → List ℕ → Type 0
AnswersBy answer old before new after = (all : Node) → IsEndOf all old → (after ≡ before ++ (answer all).text) × IsEndOf (answer all).node new
