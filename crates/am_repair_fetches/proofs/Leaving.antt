-- By events whose act isn't a Leave nobody comes to leave.
use Rattle.am_repair.proofs.RepairWords.{◌≡◌, ℕ, ◌==◌, false, List, [], ◌∷◌, ap, ◌∙◌, subst, All, All-head, All-tail, split_on_bool, eqb-true}
use Rattle.am_repair.proofs.RepairWords.{Outcome, Event, Act, Node, World, happens, world_after_events, world_with_step, world_with_record}
use Rattle.am_repair.proofs.RepairWords.{Cause, calls, IsCause, Change, Changes, no_change, changed, refreshes, settles, asks_to_leave, acting_name, events_have_effects}
use Rattle.am_repair.proofs.RepairWords.{refresh_rests_with_list, settle_changes_only_sends, Ballot, BallotVerdict, LooksAtBallot, looks, closes}
use Rattle.std.proofs.lemmas.List.Elements.{All-weaker}
use Rattle.am_step_laws.proofs.Words.{EventHappens, steps}
use Rattle.am_step_laws.specs.Events as act
use Rattle.am_step_laws.specs.Events.{IsCall}
use Rattle.am_step_laws.specs.Looks.{finds_itself_out}
use Rattle.am_base.specs.declared.event.NodeEvent.{NodeEvent}
use Rattle.am_base.specs.declared.event.NodeEvent.TheVariants as does
use Rattle.am_fetch_runs.specs.Gathering.{IsTickOrHearing}
use Rattle.am_fetch_runs.specs.Gathering as gathering

abbrev Stays : Node → Type 0
Stays m = m.leaving ≡ false

-- a step that isn't a Leave
abbrev IsNoLeave : Cause → Type 0
IsNoLeave (calls does.Leave) = ⊥
IsNoLeave _ = Unit {0}

stays_by_look : (m : Node) (b : Ballot) (v : BallotVerdict) → LooksAtBallot m b v → Stays m → Stays v.node
stays_by_look m b v (finds_itself_out w) h = h
stays_by_look m b v _ h = h

stays_by_change : (c : Cause) (o : Outcome) (m n : Node) → IsNoLeave c → Change c o m n → Stays m → Stays n
stays_by_change c o m n plain refreshes h = (refresh_rests_with_list m).rests.leaving ∙ h
stays_by_change c o m n plain settles h = ap (λ (x : Node). x.leaving) (settle_changes_only_sends m) ∙ h
stays_by_change c o m n plain (asks_to_leave is was stays done) h = absurd (subst IsNoLeave is plain)
stays_by_change c o m n plain (looks b verdict over why look is) h = stays_by_look m b verdict look h
stays_by_change c o m n plain (closes leads leaves alone room) h = absurd (cc)
stays_by_change c o m n plain _ h = h

stays_by_changes : (c : Cause) {o : Outcome} (m n : Node) → IsNoLeave c → Changes c o m n → Stays m → Stays n
stays_by_changes c m n plain no_change h = h
stays_by_changes c m n plain (changed {n = x} one more) h = stays_by_changes c x n plain more (stays_by_change c _ m x plain one h)

-- ---- events

-- an act that isn't a Leave
abbrev pub IsNoLeaveAct : Act → Type 0
IsNoLeaveAct Act.Leave = ⊥
IsNoLeaveAct _ = Unit {0}

abbrev pub HasNoLeaveAct : Event → Type 0
HasNoLeaveAct e = IsNoLeaveAct e.act

no_leave_call : (w : World) (a : Act) (event : NodeEvent) → IsNoLeaveAct a → IsCall w a event → IsNoLeave (calls event)
no_leave_call w a event plain act.leave = absurd plain
no_leave_call w a event plain _ = tt

no_leave_cause : (w : World) (i : ℕ) (a : Act) (c : Cause) → IsNoLeaveAct a → IsCause w i a c → IsNoLeave c
no_leave_cause w i a (calls event) plain is = no_leave_call w a event plain is
no_leave_cause w i a _ plain is = tt

stays_by_event : (w : World) (e : Event) (v : World) (name : ℕ) → HasNoLeaveAct e → EventHappens w e v → Stays (w.nodes name) → Stays (v.nodes name)
unfolding world_with_record world_with_step
stays_by_event w e v name plain (steps c s runs cause effect) h = split_on_bool (name == acting_name w e)
    (λ t. rw t (stays_by_changes c (w.nodes (acting_name w e)) s.node (no_leave_cause w (acting_name w e) e.act c plain cause) effect.changes
    (subst (λ j. Stays (w.nodes j)) (eqb-true name (acting_name w e) t) h)))
    (λ f. rw f h)
stays_by_event w e v name plain _ h = h

pub nobody_leaves_by_other_events : (es : List Event) (w : World) (name : ℕ) → All HasNoLeaveAct es → (w.nodes name).leaving ≡ false → ((world_after_events w es).nodes name).leaving ≡ false
unfolding world_after_events
nobody_leaves_by_other_events [] w name plain h = h
nobody_leaves_by_other_events (e ∷ es) w name plain h =
    nobody_leaves_by_other_events es (happens w e) name (All-tail HasNoLeaveAct e es plain)
    (stays_by_event w e (happens w e) name (All-head HasNoLeaveAct e es plain) (events_have_effects w e) h)

-- so by ticks and hearings
pub nobody_leaves_by_events : (es : List Event) (w : World) (name : ℕ) → All IsTickOrHearing es → (w.nodes name).leaving ≡ false → ((world_after_events w es).nodes name).leaving ≡ false
nobody_leaves_by_events es w name such h = nobody_leaves_by_other_events es w name (All-weaker IsTickOrHearing HasNoLeaveAct one es such) h
  where
    one : (e : Event) → IsTickOrHearing e → HasNoLeaveAct e
    one e (gathering.ticks place) = tt
    one e (gathering.hears place number) = tt
