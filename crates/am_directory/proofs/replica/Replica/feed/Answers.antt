use Rattle.std.proofs.Common.{◌≡◌, Option, Some, None, IfOk, sym, ap}
use Rattle.std.proofs.Common.{◌∙◌, subst}
use Rattle.am_service_defs.specs.Assembling.{after_entry}
use Rattle.am_directory.specs.declared.backlog.Backlog.{Backlog}
use Rattle.am_service_defs.specs.declared.step.ReplicaStep.{ReplicaStep}
use Rattle.am_service_defs.specs.Contents.{Contents}
use Rattle.am_service_defs.specs.Replicas.{ReplicaState, Waiting, apply_held, held_with, snapshot_for, fed, step_of, step_held, step_ready}
use Rattle.am_directory.specs.Holding.{waiting_in, replica_state_of}
use Rattle.am_service_defs.proofs.Limits.{mapped_option_is_some}
use Rattle.am_directory.proofs.Feeding.{on_ok_with_weaker_claim, fed_of_ready_replica, step_of_ready_replica, fed_of_waiting_replica, step_of_waiting_replica, with_held_is_none}
use Rattle.std.specs.Option.{option_map}
use Rattle.am_directory.proofs.replica.Replica.feed.Goals.{After-take}
use Rattle.am_directory.proofs.replica.Replica.feed.Goals as goal

pub returns-in_default-clause-step : goal.returns-in_default-clause-step
returns-in_default-clause-step c =
    let none : (replica_state_of c.self.inside).waiting ≡ None = ap (λ (b : Option Backlog). option_map waiting_in b) c.in_default.is in
    let e : step_ready c.self.inside.directory c.args.entry.now ≡ step_of c.args.self.now c.args.entry.now
    = sym (step_of_ready_replica (replica_state_of c.self.inside) c.args.entry.now none) ∙ ap (λ (s : ReplicaState). step_of s c.args.entry.now) c.self.view_is in
    subst (λ (x : ReplicaStep). IfOk c.apply_entry.result (λ step. step ≡ x)) e c.apply_entry.ensures.step

pub returns-in_default-clause-fed : goal.returns-in_default-clause-fed
returns-in_default-clause-fed c =
    let none : (replica_state_of c.self.inside).waiting ≡ None = ap (λ (b : Option Backlog). option_map waiting_in b) c.in_default.is in
    on_ok_with_weaker_claim c.apply_entry.result (λ is. ap (λ (d : Contents). record {
      start = c.self.inside.start;
      waiting = option_map waiting_in c.self.inside.backlog;
      contents = d;
    }) is
    ∙ sym (fed_of_ready_replica (replica_state_of c.self.inside) c.args.number c.args.entry.now none)
    ∙ ap (λ (s : ReplicaState). fed s c.args.number c.args.entry.now) c.self.view_is) c.apply_entry.ensures.applied

-- where no snapshot comes with the entry, the replica waits on
waits : (c : After-take) → (replica_state_of c.self.inside).waiting ≡ Some (waiting_in c.in-Some.backlog)
waits c = ap (λ (b : Option Backlog). option_map waiting_in b) c.in-Some.is

none : (c : After-take) → snapshot_for c.self.inside.start (after_entry (waiting_in c.in-Some.backlog).assembly c.args.entry.now).ended ≡ None
none c = with_held_is_none (held_with (waiting_in c.in-Some.backlog).held c.args.number c.args.entry.now) (snapshot_for c.self.inside.start (after_entry
    (waiting_in c.in-Some.backlog).assembly c.args.entry.now).ended) (sym c.in_ok-restored.ensures ∙ c.in-None.is)

pub returns-in-None-clause-step : goal.returns-in-None-clause-step
returns-in-None-clause-step c =
    let e : step_held c.args.entry.now ≡ step_of c.args.self.now c.args.entry.now
    = sym (step_of_waiting_replica (replica_state_of c.self.inside) c.args.entry.now (waiting_in c.in-Some.backlog) None (waits c) (none c)) ∙ ap (λ (s : ReplicaState). step_of s c.args.entry.now) c.self.view_is in
    subst (λ (x : ReplicaStep). IfOk c.take.result (λ step. step ≡ x)) e c.take.ensures.step

pub returns-in-None-clause-fed : goal.returns-in-None-clause-fed
returns-in-None-clause-fed c =
    on_ok_with_weaker_claim c.take.result (λ is. ap (λ (x : Waiting). record { start = c.self.inside.start; waiting = Some x; contents = c.self.inside.directory }) is
    ∙ sym (fed_of_waiting_replica (replica_state_of c.self.inside) c.args.number c.args.entry.now (waiting_in c.in-Some.backlog) None (waits c) (none c))
    ∙ ap (λ (s : ReplicaState). fed s c.args.number c.args.entry.now) c.self.view_is) c.take.ensures.taken

pub returns-in-Some-2-clause-step : goal.returns-in-Some-2-clause-step
returns-in-Some-2-clause-step c =
    let w : Waiting = waiting_in c.in-Some.backlog in
    let waits : (replica_state_of c.self.inside).waiting ≡ Some w = ap (λ (b : Option Backlog). option_map waiting_in b) c.in-Some.is in
    let m = mapped_option_is_some (snapshot_for c.self.inside.start (after_entry w.assembly c.args.entry.now).ended) (λ d. apply_held d (held_with w.held c.args.number
    c.args.entry.now)) c.in-Some-2.directory
    (sym c.in_ok-restored.ensures ∙ c.in-Some-2.is) in
    sym (step_of_waiting_replica (replica_state_of c.self.inside) c.args.entry.now w (Some m.0) waits m.1) ∙ ap (λ (s : ReplicaState). step_of s c.args.entry.now) c.self.view_is

pub returns-in-Some-2-clause-fed : goal.returns-in-Some-2-clause-fed
returns-in-Some-2-clause-fed c =
    let waits : (replica_state_of c.self.inside).waiting ≡ Some (waiting_in c.in-Some.backlog) = ap (λ (b : Option Backlog). option_map waiting_in b) c.in-Some.is in
    let m = mapped_option_is_some (snapshot_for c.self.inside.start (after_entry (waiting_in c.in-Some.backlog).assembly c.args.entry.now).ended) (λ d. apply_held d (held_with (waiting_in c.in-Some.backlog).held c.args.number
    c.args.entry.now)) c.in-Some-2.directory
    (sym c.in_ok-restored.ensures ∙ c.in-Some-2.is) in
    ap (λ (d : Contents). record { start = c.self.inside.start; waiting = None; contents = d }) (sym m.2)
    ∙ sym (fed_of_waiting_replica (replica_state_of c.self.inside) c.args.number c.args.entry.now (waiting_in c.in-Some.backlog) (Some m.0) waits m.1)
    ∙ ap (λ (s : ReplicaState). fed s c.args.number c.args.entry.now) c.self.view_is
