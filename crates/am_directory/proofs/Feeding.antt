-- What feeding an entry comes to, by whether the replica waits.
use Rattle.std.proofs.Common.{◌≡◌, ℕ, List, Option, Some, None, Result, Ok, Err, OnOk, refl, ap, ◌∙◌}
use Rattle.am_base.specs.declared.entry.Entry.{Entry}
use Rattle.am_service_defs.specs.Assembling.{after_entry}
use Rattle.am_service_defs.specs.Contents.{Contents, contents_with}
use Rattle.am_service_defs.specs.Replicas.{ReplicaState, Waiting, snapshot_for, waiting_with, with_held, arrived, fed_waiting, fed, step_ready, step_arrived}
use Rattle.am_service_defs.specs.Replicas.{step_waiting, step_of}

pub on_ok_with_weaker_claim : {X E P Q : Type 0} (r : Result X E) → (P → Q) → OnOk r P → OnOk r Q
on_ok_with_weaker_claim (Ok x) f h = f h
on_ok_with_weaker_claim (Err e) f h = h

pub fed_of_ready_replica : (s : ReplicaState) (number : ℕ) (entry : Entry) → s.waiting ≡ None
    → fed s number entry ≡ record s { contents = contents_with s.contents (number, entry) }
unfolding fed
fed_of_ready_replica s number entry h = ap (λ (w : Option Waiting). fed_waiting s w number entry) h

pub step_of_ready_replica : (s : ReplicaState) (entry : Entry) → s.waiting ≡ None → step_of s entry ≡ step_ready s.contents entry
unfolding step_of
step_of_ready_replica s entry h = ap (λ (w : Option Waiting). step_waiting s w entry) h

pub fed_of_waiting_replica : (s : ReplicaState) (number : ℕ) (entry : Entry) (w : Waiting) (o : Option Contents) → s.waiting ≡ Some w
    → snapshot_for s.start (after_entry w.assembly entry).ended ≡ o → fed s number entry ≡ arrived s (waiting_with w number entry) o
unfolding fed
fed_of_waiting_replica s number entry w o h e =
    ap (λ (x : Option Waiting). fed_waiting s x number entry) h ∙ ap (λ (x : Option Contents). arrived s (waiting_with w number entry) x) e

pub step_of_waiting_replica : (s : ReplicaState) (entry : Entry) (w : Waiting) (o : Option Contents) → s.waiting ≡ Some w
    → snapshot_for s.start (after_entry w.assembly entry).ended ≡ o → step_of s entry ≡ step_arrived entry o
unfolding step_of
step_of_waiting_replica s entry w o h e = ap (λ (x : Option Waiting). step_waiting s x entry) h ∙ ap (λ (x : Option Contents). step_arrived entry x) e

pub with_held_is_none : (held : List (ℕ × List ℕ)) (o : Option Contents) → with_held held o ≡ None → o ≡ None
with_held_is_none held None h = refl
with_held_is_none held (Some contents) h = cc
