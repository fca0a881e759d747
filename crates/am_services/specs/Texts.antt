-- What is printed of messages and of directories, by what the nodes were given.
use Rattle.std.specs.Prelude.{ℕ, List, [], ◌∷◌, ◌++◌, length, codes, decimal, ◌==◌, if◌then◌else◌, Option, Some, None}
use Rattle.std.specs.List.{flat_map, fold}
use Rattle.am_base.specs.Founding.{Rules}
use Rattle.am_base.specs.Names.{has}
use Rattle.am_base.specs.declared.entry.Entry.{Entry}
use Rattle.am_base.specs.declared.entry.Entry.TheVariants as entries
use Rattle.am_group_defs.specs.Text.{newline, name_text, body_text, mark_line}
use Rattle.am_service_defs.specs.Parts.{parts_of}
use Rattle.am_service_defs.specs.Messages.{entries_of, message_at}
use Rattle.am_service_defs.specs.declared.setting.Setting.{Setting}
use Rattle.am_service_defs.specs.Contents.{Contents}
use Rattle.am_service_defs.specs.Snapshots.{snapshot_of}
use Rattle.am_service_defs.specs.Replicas.{replica_contents}

-- ---- parts

-- the parts of a message, a line each
unfoldable pub parts_text : List ℕ → List ℕ
parts_text message = flat_map (λ part. body_text part ++ newline) (parts_of message)

-- ---- messages

-- the line of a message that ended at a node with an entry of this number: whose it is, and its bytes
unfoldable pub message_line : ℕ → ℕ → ℕ → List ℕ → List ℕ
message_line name number from message = codes "message "
    ++ (name_text name ++ (codes " " ++ (decimal number ++ (codes " " ++ (name_text from ++ (codes " " ++ (body_text message ++ newline)))))))

abbrev pub ended_line : ℕ → ℕ → Option (ℕ × List ℕ) → List ℕ
ended_line name number None = []
ended_line name number (Some message) = message_line name number message.0 message.1

-- the lines of these entries, each by all that was given up to it, after what was given before
abbrev pub lines_behind : (List (ℕ × Entry) → ℕ × Entry → List ℕ) → List (ℕ × Entry) → List (ℕ × Entry) → List ℕ
lines_behind line before [] = []
lines_behind line before (pair ∷ rest) = line (before ++ pair ∷ []) pair ++ lines_behind line (before ++ pair ∷ []) rest

-- the line of the message that ends with the last of what was given
abbrev pub message_upto : ℕ → List (ℕ × Entry) → ℕ × Entry → List ℕ
message_upto name upto pair = ended_line name pair.0 (message_at (entries_of upto))

-- of a name and what it was given
unfoldable pub messages_of : ℕ × List (ℕ × Entry) → List ℕ
messages_of log = lines_behind (message_upto log.0) [] log.1

-- the messages that ended in what each name was given, and the closing mark
unfoldable pub messages_text : List (ℕ × List (ℕ × Entry)) → Option ℕ → List ℕ
messages_text logs broken = flat_map messages_of logs ++ mark_line broken

-- ---- directories

-- the number from which a name's list begins: that of the first entry that it was given; before it was given any, a founder's is 1, and a
-- joiner's is another
unfoldable pub start_of : Rules → ℕ × List (ℕ × Entry) → ℕ
start_of rules (name, []) = if has rules.founders name then 1 else 2
start_of rules (name, first ∷ rest) = first.0

-- the number of the last entry that was given, or 0
abbrev pub last_given_number : List (ℕ × Entry) → ℕ
last_given_number given = fold (λ front pair. pair.0) 0 given

-- the line of a node's directory, with the number of the last entry that the node was given, and how many keys there are
unfoldable pub directory_line : ℕ → ℕ → List ℕ → List ℕ
directory_line name front what = codes "directory " ++ (name_text name ++ (codes " " ++ (decimal front ++ (codes " " ++ (what ++ newline)))))

-- the line of a key, with its value, and the number of the entry that set it last
unfoldable pub setting_line : ℕ → List ℕ × Setting → List ℕ
setting_line name entry = codes "name "
    ++ (name_text name ++ (codes " " ++ (body_text entry.0 ++ (codes " " ++ (body_text entry.1.value
    ++ (codes " " ++ (decimal entry.1.number ++ newline)))))))

-- the lines of a node's directory, which has these contents, or waits for a snapshot
unfoldable pub directory_lines : ℕ → ℕ → Option Contents → List ℕ
directory_lines name front None = directory_line name front (codes "waiting")
directory_lines name front (Some contents) = directory_line name front (decimal (length contents)) ++ flat_map (setting_line name) contents

-- of a name and what it was given
unfoldable pub directory_of : Rules → ℕ × List (ℕ × Entry) → List ℕ
directory_of rules log = directory_lines log.0 (last_given_number log.1) (replica_contents (start_of rules log) log.1)

-- each node's directory, and the closing mark
unfoldable pub directories_text : Rules → List (ℕ × List (ℕ × Entry)) → Option ℕ → List ℕ
directories_text rules logs broken = flat_map (directory_of rules) logs ++ mark_line broken

-- ---- snapshots

-- the line of a part of a node's snapshot for the Join of this number
unfoldable pub snapshot_line : ℕ → ℕ → List ℕ → List ℕ
snapshot_line name join part = codes "snapshot " ++ (name_text name ++ (codes " " ++ (decimal join ++ (codes " " ++ (body_text part ++ newline)))))

-- the parts of a node's snapshot of these contents
abbrev pub snapshot_lines : ℕ → ℕ → Contents → List ℕ
snapshot_lines name join contents = flat_map (snapshot_line name join) (parts_of (snapshot_of contents join))

-- what an entry that a node was given asks of it, where it has contents: its snapshot, at another name's Join
unfoldable pub snapshot_at : ℕ → ℕ → Entry → Option Contents → List ℕ
snapshot_at name number (entries.Join joiner) (Some contents) = if joiner == name then [] else snapshot_lines name number contents
snapshot_at name number entry contents = []

-- what the last of what was given asks
abbrev pub snapshot_upto : ℕ → ℕ → List (ℕ × Entry) → ℕ × Entry → List ℕ
snapshot_upto name start upto pair = snapshot_at name pair.0 pair.1 (replica_contents start upto)

-- of a name and what it was given
unfoldable pub snapshots_of : Rules → ℕ × List (ℕ × Entry) → List ℕ
snapshots_of rules log = lines_behind (snapshot_upto log.0 (start_of rules log)) [] log.1

-- the snapshots that each node could send, and the closing mark
unfoldable pub snapshots_text : Rules → List (ℕ × List (ℕ × Entry)) → Option ℕ → List ℕ
snapshots_text rules logs broken = flat_map (snapshots_of rules) logs ++ mark_line broken
