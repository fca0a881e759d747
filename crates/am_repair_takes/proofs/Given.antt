-- All that a member has accepted is given by its takes.
use Rattle.am_repair_takes.proofs.Words.{◌≡◌, ℕ, zero, suc, ◌+◌, ◌-◌, ◌<◌, ◌≤◌, ◌==◌, true, false, List, [], ◌∷◌, Some, refl, sym, ap, ◌∙◌, subst, arith}
use Rattle.am_repair_takes.proofs.Words.{split_on_bool, eqb-true, nat_tests, Rules, place_of_name, has, Entry, Log, top_of_log, log_entry_at, Node, is_member, Plan, step, row, finish, plan_without_letters}
use Rattle.am_repair_takes.proofs.Words.{take_row, refresh_at_end, World, current, world_with_step, happens, world_after_events, runs_go_on, world_after_node_event, event_at, running_places, Act, NodeTrimFronts}
use Rattle.am_repair_takes.proofs.Words.{Repair, WorldKeepsLawsAndCalm, takes_of, takes, so_many, takes_at, entry_at_number_of_log, slice_get-get_or, get_or, Join}
use Rattle.am_repair_takes.proofs.Words.{NameRunsNow, member_of_repair_runs_now, member_of_repair_is_small, node_after_step_of_event, running_name_is_in_running, acting_member_promised_its_view, sequencer_acts_by_own_view, IsInListOfPlaces}
use Rattle.am_base.specs.declared.event.NodeEvent.TheVariants as does
use Rattle.am_base.specs.declared.outcome.Outcome.TheVariants as said
use Rattle.am_repair_takes.proofs.Rows.{taken_on, alike_end}
use Rattle.am_repair_takes.proofs.Calm.{take_goes, take_fine}

-- ---- what all takes keep

so_keep : (P : World → Type 0) (place : ℕ) → ((u : World) → P u → P (happens u (event_at place Act.Take))) → (left : ℕ) (u : World) → P u
    → P (world_after_events u (so_many left (event_at place Act.Take)))
unfolding so_many world_after_events
so_keep P place keep zero u h = h
so_keep P place keep (suc left) u h = so_keep P place keep left (happens u (event_at place Act.Take)) (keep u h)

at_keep : (P : World → Type 0) → ((p : ℕ) (u : World) → P u → P (happens u (event_at p Act.Take))) → (w : World) (places : List ℕ) (u : World) → P u
    → P (world_after_events u (takes_at w places))
unfolding takes_at world_after_events
at_keep P keep w [] u h = h
at_keep P keep w (p ∷ ps) u h = subst P (sym (runs_go_on u (takes_of w p) (takes_at w ps)))
    (at_keep P keep w ps (world_after_events u (takes_of w p)) (so_keep P p (keep p) _ u h))

pub takes_keep : (P : World → Type 0) → ((p : ℕ) (u : World) → P u → P (happens u (event_at p Act.Take))) → (w : World) → P w → P (world_after_events w (takes w))
takes_keep P keep w h = at_keep P keep w (running_places w) w h

-- ---- one Take

pub entry_there : (log : Log) (number : ℕ) → log.start < number → number ≤ top_of_log log → (e : Entry) × (log_entry_at log number ≡ Some e)
entry_there log number low high =
    let k = number - log.start - 1 in
    (get_or log.entries k (Join 0), entry_at_number_of_log log number k (omega arith) ∙ slice_get-get_or log.entries k (Join 0) (omega arith))

-- a Member that hasn't taken all has one entry more
took_next : (m : Node) (e : Entry) → is_member m.status ≡ true → (m.core.taken == m.core.acc) ≡ false → log_entry_at m.core.log (m.core.taken + 1) ≡ Some e
    → take_row m ≡ plan_without_letters (taken_on m) (said.Took (m.core.taken + 1) e)
unfolding take_row
took_next m e member some there = rw (member, some, there) refl

take_up : (m : Node) → is_member m.status ≡ true → NodeTrimFronts m → (m.core.taken == m.core.acc) ≡ false → m.core.taken + 1 ≤ (step m does.Take).node.core.taken
unfolding step row finish
take_up m member f some =
    let kept = f.kept in let base = f.base in let given = f.given in let accepted = f.accepted in
    let low : m.core.taken + 1 ≤ m.core.acc = grind (arith, nat_tests) in
    let e = entry_there m.core.log (m.core.taken + 1) (omega arith) (omega arith) in
    let is = took_next m e.0 member some e.1 in
    let node : (step m does.Take).node ≡ refresh_at_end (taken_on m) = ap (λ (p : Plan). (finish m p).node) is in
    let up = (alike_end (taken_on m)).taken in
    let same = ap (λ (n : Node). n.core.taken) node in
    omega arith

take_event : (w : World) (name : ℕ) → NameRunsNow w name
    → (let e = event_at (place_of_name name) Act.Take in happens w e ≡ world_with_step w e name (step (w.nodes name) does.Take))
unfolding happens
take_event w name h =
    let e = event_at (place_of_name name) Act.Take in
    let same : place_of_name (place_of_name name) ≡ place_of_name name = omega arith in
    ap (λ x. world_after_node_event w e x does.Take) (ap (current w) same ∙ h.current_) ∙ rw (h.runs) refl

pub member_status : (r : Repair) (rules : Rules) (w : World) (i : ℕ) → WorldKeepsLawsAndCalm rules r w → has r.members i ≡ true → is_member (w.nodes i).status ≡ true
member_status r rules w i h there = split_on_bool (i == r.by)
    (λ t. let same = eqb-true i r.by t in
    let q = (acting_member_promised_its_view (w.nodes r.by) (sequencer_acts_by_own_view (w.nodes r.by) h.calm.leads.leads).0).0 in
    subst (λ k. is_member (w.nodes k).status ≡ true) (sym same) q)
    (λ f. (acting_member_promised_its_view (w.nodes i) (h.calm.follows i there f).acts_).0)

-- ---- so many of them

-- a member has accepted so much, and lacks so many takes of it at most
record Lacks (rules : Rules) (r : Repair) (i goal left : ℕ) (w : World) : Type 0 where
  fine : WorldKeepsLawsAndCalm rules r w
  accepted : goal ≤ (w.nodes i).core.acc
  near : goal ≤ (w.nodes i).core.taken + left

module _ (rules : Rules) (r : Repair) (i goal : ℕ) (there : has r.members i ≡ true) where
  any_lacks : (left p : ℕ) (u : World) → Lacks rules r i goal left u → Lacks rules r i goal left (happens u (event_at p Act.Take))
  any_lacks left p u h =
      let g = (take_goes rules r u p h.fine).1 in
      let taken = g.taken i there in let acc = g.acc i there in
      let accepted = h.accepted in let near = h.near in
      record { fine = take_fine rules r u p h.fine; accepted = omega arith; near = omega arith }

  own_lacks : (left : ℕ) (u : World) → Lacks rules r i goal (suc left) u → Lacks rules r i goal left (happens u (event_at (place_of_name i) Act.Take))
  own_lacks left u h =
      let e = event_at (place_of_name i) Act.Take in
      let m = u.nodes i in
      let g = (take_goes rules r u (place_of_name i) h.fine).1 in
      let taken = g.taken i there in let acc = g.acc i there in
      let accepted = h.accepted in let near = h.near in
      let at = member_of_repair_runs_now rules r u i h.fine there in
      let same = ap (λ (n : Node). n.core.taken) (node_after_step_of_event u e i (step m does.Take) (take_event u i at)) in
      let fronts = (h.fine.laws.each i (member_of_repair_is_small rules r u i h.fine there)).fronts in
      record {
        fine = take_fine rules r u (place_of_name i) h.fine;
        accepted = omega arith;
        near = split_on_bool (m.core.taken == m.core.acc)
            (λ t. let all = eqb-true m.core.taken m.core.acc t in omega arith)
            (λ f. let up = take_up m (member_status r rules u i h.fine there) fronts f in omega arith);
      }

  so_lacks : (left : ℕ) (u : World) → Lacks rules r i goal left u → Lacks rules r i goal 0 (world_after_events u (so_many left (event_at (place_of_name i) Act.Take)))
  unfolding so_many world_after_events
  so_lacks zero u h = h
  so_lacks (suc left) u h = so_lacks left (happens u (event_at (place_of_name i) Act.Take)) (own_lacks left u h)

  at_lacks : (w : World) (left : ℕ) → current w (place_of_name i) ≡ i → left ≡ (w.nodes i).core.acc - (w.nodes i).core.taken → (places : List ℕ) (u : World)
      → IsInListOfPlaces (place_of_name i) places → Lacks rules r i goal left u → Lacks rules r i goal 0 (world_after_events u (takes_at w places))
  unfolding takes_at world_after_events
  at_lacks w left at count [] u among h = absurd (cc)
  at_lacks w left at count (p ∷ ps) u among h = split_on_bool (p == place_of_name i)
      (λ t. let same = eqb-true p (place_of_name i) t in
      let is : takes_of w p ≡ so_many left (event_at (place_of_name i) Act.Take) = ap (takes_of w) same
      ∙ ap (λ k. so_many ((w.nodes k).core.acc - (w.nodes k).core.taken) (event_at (place_of_name i) Act.Take)) at
      ∙ ap (λ n. so_many n (event_at (place_of_name i) Act.Take)) (sym count) in
      let first = subst (λ es. Lacks rules r i goal 0 (world_after_events u es)) (sym is) (so_lacks left u h) in
      subst (Lacks rules r i goal 0) (sym (runs_go_on u (takes_of w p) (takes_at w ps)))
      (at_keep (Lacks rules r i goal 0) (any_lacks 0) w ps (world_after_events u (takes_of w p)) first))
      (λ f. subst (Lacks rules r i goal 0) (sym (runs_go_on u (takes_of w p) (takes_at w ps)))
      (at_lacks w left at count ps (world_after_events u (takes_of w p)) (rw f at among) (so_keep (Lacks rules r i goal left) p (any_lacks left p) _ u h)))

-- a member has taken what it had accepted
pub takes_give : (rules : Rules) (r : Repair) (i : ℕ) (w : World) → WorldKeepsLawsAndCalm rules r w → has r.members i ≡ true
    → (w.nodes i).core.acc ≤ ((world_after_events w (takes w)).nodes i).core.taken
takes_give rules r i w h there =
    let m = w.nodes i in
    let at = member_of_repair_runs_now rules r w i h there in
    let fronts = (h.laws.each i (member_of_repair_is_small rules r w i h there)).fronts in
    let given = fronts.given in
    let z = at_lacks rules r i m.core.acc there w (m.core.acc - m.core.taken) at.current_ refl (running_places w) w (running_name_is_in_running w i at)
    (record { fine = h; accepted = omega arith; near = omega arith }) in
    let near = z.near in
    omega arith
