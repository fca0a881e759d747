-- The same, entry by entry.
use Rattle.std.specs.Prelude.{ℕ, List, [], ◌∷◌, ◌++◌}
use Rattle.std.specs.List.{fold}
use Rattle.am_base.specs.declared.entry.Entry.{Entry}
use Rattle.am_service_defs.specs.Assembling.{Assembly, after_entry}
use Rattle.am_service_defs.specs.Replicas.{ReplicaState, fed, shown}
use Rattle.am_services.specs.Texts.{ended_line, snapshot_at}

-- the lines of entries, each by what came of it
abbrev pub told : {S : Type 0} → (S → ℕ × Entry → S) → (ℕ × Entry → S → List ℕ) → S → List (ℕ × Entry) → List ℕ
told next line s [] = []
told next line s (pair ∷ rest) = line pair (next s pair) ++ told next line (next s pair) rest

-- what had begun, after an entry more, and the line of the message that it ended
abbrev pub assembled_then : Assembly → ℕ × Entry → Assembly
assembled_then a pair = after_entry a pair.1

abbrev pub message_told : ℕ → ℕ × Entry → Assembly → List ℕ
message_told name pair a = ended_line name pair.0 a.ended

-- a replica, after an entry more, and what that asks of it
abbrev pub replayed_then : ReplicaState → ℕ × Entry → ReplicaState
replayed_then s pair = fed s pair.0 pair.1

abbrev pub snapshot_told : ℕ → ℕ × Entry → ReplicaState → List ℕ
snapshot_told name pair s = snapshot_at name pair.0 pair.1 (shown s)

abbrev pub messages_told : ℕ → Assembly → List (ℕ × Entry) → List ℕ
messages_told name a pairs = told assembled_then (message_told name) a pairs

-- after all of these entries
abbrev pub replayed_with : ReplicaState → List (ℕ × Entry) → ReplicaState
replayed_with s pairs = fold replayed_then s pairs

abbrev pub snapshots_told : ℕ → ReplicaState → List (ℕ × Entry) → List ℕ
snapshots_told name s pairs = told replayed_then (snapshot_told name) s pairs
