-- Lines one after another.
use Rattle.std.specs.Prelude.{◌≡◌, ℕ, List, [], ◌∷◌, ◌++◌, take, Option, Result, Ok, Err, ◌==◌, if◌then◌else◌, false}
use Rattle.std.specs.Io.KnownBytes.{Appends, Consumes}
use Rattle.am_base.specs.Founding.{Rules}
use Rattle.am_io.specs.Outside.{next, ReadToEnd}
use Rattle.am_model.specs.Node.{Node}
use Rattle.am_model.specs.Ends.{IsEndOf}
use Rattle.am_group_defs.specs.World.{first_node}
use Rattle.am_group_defs.specs.Text.{newline}
use Rattle.am_node_lines.specs.Answers.{line_answer}
use Rattle.am_node_lines.specs.Speakers.{SpeakerState}
use Rattle.am_node_lines.specs.declared.ending.TalkFault.{TalkFault}
use Rattle.am_node_lines.specs.declared.ending.TalkFault.TheVariants as faults
use Rattle.am_node_lines.specs.declared.ending.SpokenEnd.{SpokenEnd}
use Rattle.am_node_lines.specs.declared.ending.SpokenEnd.TheVariants.{Done, ReadFault, WriteFault, NoMemory}

-- ---- lines of bytes

-- an empty line is none
abbrev pub with_spoken_line : List ℕ → List (List ℕ) → List (List ℕ)
with_spoken_line [] lines = lines
with_spoken_line (byte ∷ bytes) lines = (byte ∷ bytes) ∷ lines

-- the lines of bytes after those with which a line has begun: a newline ends one, and so does the end
unfoldable pub spoken_lines_from : List ℕ → List ℕ → List (List ℕ)
spoken_lines_from begun [] = with_spoken_line begun []
spoken_lines_from begun (byte ∷ bytes) = if byte == 10 then with_spoken_line begun (spoken_lines_from [] bytes) else spoken_lines_from (begun ++ byte ∷ []) bytes

abbrev pub spoken_lines : List ℕ → List (List ℕ)
spoken_lines bytes = spoken_lines_from [] bytes

-- those that a newline ends
unfoldable pub whole_from : List ℕ → List ℕ → List (List ℕ)
whole_from begun [] = []
whole_from begun (byte ∷ bytes) = if byte == 10 then with_spoken_line begun (whole_from [] bytes) else whole_from (begun ++ byte ∷ []) bytes

abbrev pub whole_lines : List ℕ → List (List ℕ)
whole_lines bytes = whole_from [] bytes

-- what stands after them
unfoldable pub rest_from : List ℕ → List ℕ → List ℕ
rest_from begun [] = begun
rest_from begun (byte ∷ bytes) = if byte == 10 then rest_from [] bytes else rest_from (begun ++ byte ∷ []) bytes

-- ---- answers

-- the answers to lines in turn, each with a newline
unfoldable pub answers_of : Rules → Node → List (List ℕ) → List ℕ
answers_of rules m [] = []
answers_of rules m (line ∷ lines) = ((line_answer rules m line).text ++ newline) ++ answers_of rules (line_answer rules m line).node lines

-- the node after them
unfoldable pub node_after : Rules → Node → List (List ℕ) → Node
node_after rules m [] = m
node_after rules m (line ∷ lines) = node_after rules (line_answer rules m line).node lines

-- what a name's node answers to the lines of bytes
abbrev pub spoken : Rules → ℕ → List ℕ → List ℕ
spoken rules name bytes = answers_of rules (first_node rules name) (spoken_lines bytes)

-- and to those that a newline ends
abbrev pub spoken_whole : Rules → ℕ → List ℕ → List ℕ
spoken_whole rules name bytes = answers_of rules (first_node rules name) (whole_lines bytes)

-- ---- what a loop over a source's bytes did

-- how it counts the faults of its source and of its sink
abbrev pub reads_after : SpokenEnd → ℕ → ℕ
reads_after ReadFault before = next before
reads_after _ before = before

abbrev pub writes_after : SpokenEnd → ℕ → ℕ
writes_after WriteFault before = next before
writes_after _ before = before

-- a beginning of a text was appended
abbrev pub WrotePart : Option (List ℕ) → Option (List ℕ) → List ℕ → Type 0
WrotePart before after text = (count : ℕ) × Appends before after (take count text)

-- what was taken of a source (before and after) and appended to a sink: at the end of the input the answers to all lines of all that was read; where a
-- read failed those to the whole lines of what was taken before it; else a beginning of the answers to the lines of what was taken
abbrev pub Spoke : Rules → ℕ → SpokenEnd → Option (List ℕ) → Option (List ℕ) → Option (List ℕ) → Option (List ℕ) → Type 0
Spoke rules name Done source left old new = (bytes : List ℕ) × ReadToEnd source left bytes × Appends old new (spoken rules name bytes)
Spoke rules name ReadFault source left old new = (bytes : List ℕ) × Consumes source left bytes × Appends old new (spoken_whole rules name bytes)
Spoke rules name WriteFault source left old new = (bytes : List ℕ) × Consumes source left bytes × WrotePart old new (spoken rules name bytes)
Spoke rules name NoMemory source left old new = (bytes : List ℕ) × Consumes source left bytes × WrotePart old new (spoken rules name bytes)

-- ---- within the loop

-- a node that speaks has the line that was begun, up to one byte above its limit, has answered all whole lines of the bytes given so far, and these answers are
-- appended to what stood in the sink
pub record IsTalking (rules : Rules) (first : Node) (start : Option (List ℕ)) (given : List ℕ) (speaker : SpeakerState) (line : List ℕ) (held : Option (List ℕ)) : Type 0 where
  pub same : speaker.rules ≡ rules
  pub ready : speaker.failed ≡ false
  pub node : IsEndOf (node_after rules first (whole_lines given)) speaker.node
  pub begun : line ≡ take 4097 (rest_from [] given)
  pub written : Appends start held (answers_of rules first (whole_lines given))

-- a line was answered, with a newline: text and node are those of the answer, whatever node this one is the end of
abbrev pub LineIsAnswered : SpeakerState → List ℕ → SpeakerState → List ℕ → Type 0
LineIsAnswered old line new text = (all : Node) → IsEndOf all old.node → (text ≡ (line_answer old.rules all line).text ++ newline) × IsEndOf (line_answer old.rules all line).node new.node

-- how bytes were taken: all, or a beginning of the answers to the whole lines of these was appended
abbrev pub Talks : Rules → Node → Option (List ℕ) → List ℕ → Result (Unit {0}) TalkFault → SpeakerState → List ℕ → Option (List ℕ) → Type 0
Talks rules first start given (Ok done) speaker line held = IsTalking rules first start given speaker line held
Talks rules first start given (Err fault) speaker line held = WrotePart start held (answers_of rules first (whole_lines given))

-- how that counts the faults of the sink
abbrev pub refused_after : Result (Unit {0}) TalkFault → ℕ → ℕ
refused_after (Ok done) before = before
refused_after (Err faults.Write) before = next before
refused_after (Err faults.NoMemory) before = before

abbrev pub end_by : TalkFault → SpokenEnd
end_by faults.Write = WriteFault
end_by faults.NoMemory = NoMemory
