-- What a replica keeps, as contracts see it.
use Rattle.std.specs.Prelude.{ℕ, List, map}
use Rattle.std.specs.Option.{option_map}
use Rattle.am_directory.specs.declared.backlog.HeldCommand.{HeldCommand}
use Rattle.am_directory.specs.declared.backlog.Backlog.{Backlog}
use Rattle.am_directory.specs.declared.replica.Replica.TheInside.{Inside}
use Rattle.am_service_defs.specs.Replicas.{Waiting, ReplicaState}

abbrev pub held_in : List HeldCommand → List (ℕ × List ℕ)
held_in held = map (λ command. (command.number, command.body)) held

abbrev pub waiting_in : Backlog → Waiting
waiting_in backlog = record { held = held_in backlog.held.items; assembly = backlog.assembler }

abbrev pub replica_state_of : Inside → ReplicaState
replica_state_of r = record { start = r.start; waiting = option_map waiting_in r.backlog; contents = r.directory }
