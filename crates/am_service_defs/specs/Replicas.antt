-- What a name makes of the entries that it was given: the contents from the list's beginning on, or from a snapshot on.
use Rattle.std.specs.Prelude.{◌≡◌, ℕ, List, [], ◌∷◌, ◌++◌, ◌==◌, is_some, is_none, if◌then◌else◌, Option, Some, None}
use Rattle.std.specs.Option.{option_map}
use Rattle.std.specs.List.{fold}
use Rattle.am_base.specs.declared.entry.Entry.{Entry}
use Rattle.am_base.specs.declared.entry.Entry.TheVariants as entries
use Rattle.am_service_defs.specs.Messages.{entries_of, message_at}
use Rattle.am_service_defs.specs.Assembling.{Assembly, no_parts, after_entry}
use Rattle.am_service_defs.specs.declared.step.ReplicaStep.{ReplicaStep}
use Rattle.am_service_defs.specs.declared.step.ReplicaStep.TheVariants as steps
use Rattle.am_service_defs.specs.Commands.{command_of}
use Rattle.am_service_defs.specs.Contents.{Contents, applied, body_answer, contents_with, contents_from}
use Rattle.am_service_defs.specs.Snapshots.{snapshot_in}

-- the first of two, or else the second
abbrev pub or_else : {A : Type 0} → Option A → Option A → Option A
or_else None other = other
or_else (Some value) other = Some value

-- the contents of a snapshot, where it is for this Join
abbrev pub for_join : ℕ → Option (ℕ × Contents) → Option Contents
for_join start None = None
for_join start (Some snapshot) = if snapshot.0 == start then Some snapshot.1 else None

-- the contents of a message, where it is a snapshot for this Join
abbrev pub for_message : ℕ → List ℕ → Option Contents
for_message start message = for_join start (snapshot_in message)

abbrev pub snapshot_for : ℕ → Option (ℕ × List ℕ) → Option Contents
snapshot_for start None = None
snapshot_for start (Some message) = for_message start message.1

-- the contents of the first message that ends in a list, after so much of it, and is a snapshot for this Join
abbrev pub first_snapshot_after : ℕ → List Entry → List Entry → Option Contents
first_snapshot_after start before [] = None
first_snapshot_after start before (entry ∷ rest) =
    or_else (snapshot_for start (message_at (before ++ entry ∷ []))) (first_snapshot_after start (before ++ entry ∷ []) rest)

unfoldable pub first_snapshot : ℕ → List (ℕ × Entry) → Option Contents
first_snapshot start pairs = first_snapshot_after start [] (entries_of pairs)

-- the contents that a name has after these entries, each with its number, of which the first has the start's; None where it waits
-- for a snapshot of its start. Who was given the list from 1 on needs none. All entries count, also those before the snapshot
unfoldable pub replica_contents : ℕ → List (ℕ × Entry) → Option Contents
replica_contents start pairs =
    if start == 1 then Some (contents_from [] pairs)
    else option_map (λ contents. contents_from contents pairs) (first_snapshot start pairs)

-- ---- the same, entry by entry

-- what is kept until a snapshot comes: the commands so far, with their numbers, and what of messages had begun
pub record Waiting : Type 0 where
  pub held : List (ℕ × List ℕ)
  pub assembly : Assembly

-- what a replica is: it waits, or it has contents; it has none while it waits
pub record ReplicaState : Type 0 where
  pub start : ℕ
  pub waiting : Option Waiting
  pub contents : Contents

abbrev pub begin_waiting : Waiting
begin_waiting = record { held = []; assembly = no_parts }

-- before any entry
abbrev pub fresh_replica : ℕ → ReplicaState
fresh_replica start = record { start = start; waiting = if start == 1 then None else Some begin_waiting; contents = [] }

-- its contents, where it is ready
abbrev pub shown : ReplicaState → Option Contents
shown s = if is_none s.waiting then Some s.contents else None

-- with the body of an entry of this number, where it is a command
abbrev pub held_with : List (ℕ × List ℕ) → ℕ → Entry → List (ℕ × List ℕ)
held_with held number (entries.Data from req body) = if is_some (command_of body) then held ++ (number, body) ∷ [] else held
held_with held number (entries.Join name) = held
held_with held number (entries.Leave name) = held
held_with held number (entries.View v) = held

-- all of these applied
abbrev pub apply_held : Contents → List (ℕ × List ℕ) → Contents
apply_held contents held = fold (λ sofar command. applied sofar command.0 command.1) contents held

abbrev pub waiting_with : Waiting → ℕ → Entry → Waiting
waiting_with w number entry = record { held = held_with w.held number entry; assembly = after_entry w.assembly entry }

-- a snapshot's contents with all that was held
abbrev pub with_held : List (ℕ × List ℕ) → Option Contents → Option Contents
with_held held contents = option_map (λ c. apply_held c held) contents

-- who waits goes on so, or is ready where a snapshot for the start has come
abbrev pub arrived : ReplicaState → Waiting → Option Contents → ReplicaState
arrived s w None = record s { waiting = Some w }
arrived s w (Some contents) = record { start = s.start; waiting = None; contents = apply_held contents w.held }

abbrev pub fed_waiting : ReplicaState → Option Waiting → ℕ → Entry → ReplicaState
fed_waiting s None number entry = record s { contents = contents_with s.contents (number, entry) }
fed_waiting s (Some w) number entry = arrived s (waiting_with w number entry) (snapshot_for s.start (after_entry w.assembly entry).ended)

-- after an entry of this number
unfoldable pub fed : ReplicaState → ℕ → Entry → ReplicaState
fed s number entry = fed_waiting s s.waiting number entry

-- what an entry comes to at who is ready, and at who waits
abbrev pub step_ready : Contents → Entry → ReplicaStep
step_ready contents (entries.Data from req body) = steps.Applied (body_answer contents body)
step_ready contents (entries.Join name) = steps.Noted
step_ready contents (entries.Leave name) = steps.Noted
step_ready contents (entries.View v) = steps.Noted

abbrev pub step_held : Entry → ReplicaStep
step_held (entries.Data from req body) = if is_some (command_of body) then steps.Held else steps.Noted
step_held (entries.Join name) = steps.Noted
step_held (entries.Leave name) = steps.Noted
step_held (entries.View v) = steps.Noted

abbrev pub step_arrived : Entry → Option Contents → ReplicaStep
step_arrived entry None = step_held entry
step_arrived entry (Some contents) = steps.Restored

abbrev pub step_waiting : ReplicaState → Option Waiting → Entry → ReplicaStep
step_waiting s None entry = step_ready s.contents entry
step_waiting s (Some w) entry = step_arrived entry (snapshot_for s.start (after_entry w.assembly entry).ended)

unfoldable pub step_of : ReplicaState → Entry → ReplicaStep
step_of s entry = step_waiting s s.waiting entry

-- after all of these entries
abbrev pub replayed : ℕ → List (ℕ × Entry) → ReplicaState
replayed start pairs = fold (λ s pair. fed s pair.0 pair.1) (fresh_replica start) pairs

-- ---- what is claimed of it

-- entry by entry comes to the contents of the definition
abbrev pub ReplicasShow : Type 0
ReplicasShow = (start : ℕ) (pairs : List (ℕ × Entry)) → shown (replayed start pairs) ≡ replica_contents start pairs
