-- A member that has come to its Join stays so.
use Rattle.am_reset_runs.proofs.Words.{◌≡◌, ℕ, ◌≤◌, ◌==◌, true, List, [], ◌∷◌, sym, subst, arith, split_on_bool, eqb-true, Event, Node, Ballot, BallotVerdict, LooksAtBallot, is_member, World, world_after_events}
use Rattle.am_repair.proofs.RepairWords.{Cause, Outcome, Change, Changes, changed, refreshes, settles, begins_list, looks, closes, push_entry, Leave, refresh_rests_with_list, end_refresh_rests_with_list, settle_changes_only_sends}
use Rattle.am_repair.proofs.RepairWords.{has_log_by_status, EventHappens, steps, events_have_effects, acting_name, happens, world_with_step, world_with_record}
unfoldable use Rattle.am_group_defs.specs.World.{world_after_events as world_after}
use Rattle.am_step_laws.proofs.Words.{unchanged, member_status_has_log}
use Rattle.am_step_laws.proofs.ViewChanges.{welcomed_node_has_no_log}
use Rattle.am_step_laws.specs.Looks.{finds_itself_out}
use Rattle.am_repair_takes.proofs.Starts.{changes_before}
use Rattle.am_trim_laws.specs.Trims.{HasComeToJoin}

-- what a node's application has taken rises
taken_by_look : (m : Node) (b : Ballot) (v : BallotVerdict) → LooksAtBallot m b v → m.core.taken ≤ v.node.core.taken
taken_by_look m b v (finds_itself_out w) = omega arith
taken_by_look m b v _ = omega arith

taken_by_change : (c : Cause) (o : Outcome) (m n : Node) → has_log_by_status m.status ≡ true → Change c o m n → m.core.taken ≤ n.core.taken
taken_by_change c o m n log refreshes = (refresh_rests_with_list m).rests.taken
taken_by_change c o m n log settles = subst (λ (x : Node). m.core.taken ≤ x.core.taken) (sym (settle_changes_only_sends m)) (omega arith)
taken_by_change c o m n log (begins_list s v base join image is says may) = absurd (let none = welcomed_node_has_no_log m s v base join image may in cc)
taken_by_change c o m n log (looks b verdict over why look is) = taken_by_look m b verdict look
taken_by_change c o m n log (closes leads leaves alone room) = (end_refresh_rests_with_list (push_entry m (Leave m.core.who))).rests.taken
taken_by_change c o m n log _ = omega arith

taken_by_changes : {c : Cause} {o : Outcome} (m n : Node) → has_log_by_status m.status ≡ true → Changes c o m n → m.core.taken ≤ n.core.taken
taken_by_changes m n log unchanged = omega arith
taken_by_changes {c = c} {o = o} m n log (changed {n = x} one more) =
    let first = taken_by_change c o m x log one in
    let rest = taken_by_changes x n (changes_before m x log (changed one unchanged)).log more in
    omega arith

-- ---- events

-- it has a list, and has come to its Join
record HasCome (m : Node) : Type 0 where
  log : has_log_by_status m.status ≡ true
  come : HasComeToJoin m

come_by : (w : World) (e : Event) (v : World) (name : ℕ) → EventHappens w e v → HasCome (w.nodes name) → HasCome (v.nodes name)
unfolding world_with_record world_with_step
come_by w e v name (steps c s runs cause effect) h = split_on_bool (name == acting_name w e)
    (λ t.
    let same = eqb-true name (acting_name w e) t in
    let k : HasCome (w.nodes (acting_name w e)) = subst (λ j. HasCome (w.nodes j)) same h in
    let before = changes_before (w.nodes (acting_name w e)) s.node k.log effect.changes in
    let up = taken_by_changes (w.nodes (acting_name w e)) s.node k.log effect.changes in
    let come = k.come in
    let start = before.start in
    rw t (record { log = before.log; come = omega arith }))
    (λ f. rw f h)
come_by w e v name _ h = h

come_by_events : (es : List Event) (w : World) (name : ℕ) → HasCome (w.nodes name) → HasCome ((world_after_events w es).nodes name)
unfolding world_after
come_by_events [] w name h = h
come_by_events (e ∷ es) w name h = come_by_events es (happens w e) name (come_by w e (happens w e) name (events_have_effects w e) h)

-- so it is of a Member, whatever happens
pub come_stays : (es : List Event) (w : World) (name : ℕ) → is_member (w.nodes name).status ≡ true → HasComeToJoin (w.nodes name) → HasComeToJoin ((world_after_events w es).nodes name)
come_stays es w name member come = (come_by_events es w name (record { log = member_status_has_log (w.nodes name).status member; come = come })).come
