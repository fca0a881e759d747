-- Worlds along a schedule: laws of every run, and calm. What an event of the schedule does there.
use Rattle.am_repair.proofs.RepairWords.{◌≡◌, ℕ, zero, suc, ◌+◌, ◌<◌, ◌≤◌, ◌==◌, true, false, List, ◌++◌, length, Some, slice_get, refl, ap, ◌∙◌, arith, Act}
use Rattle.am_repair.proofs.RepairWords.{length-append, Contains, nat_tests, slice_get-get_or, Rules, place_of_name, has, Letter, Event, is_for, letter_at, slice_get_of_append_back}
use Rattle.am_repair.proofs.RepairWords.{StepResult, step, hear_packet, event_at, World, current, is_stopped, world_with_step, world_after_node_event, world_after_hearing, happens, world_begins_after_event}
use Rattle.am_repair.proofs.RepairWords.{slice_get_of_front, events_have_effects, WorldTrimsOnlyTaken, events_trim_only_taken, Repair, Calm, IsOurs}
use Rattle.am_base.specs.declared.event.NodeEvent.TheVariants as does
use Rattle.am_repair.proofs.Saying.{RepairWorldGrows}
use Rattle.am_repair.proofs.Steps.{calm_stays_by_scheduled_event, repair_world_grows_by_event}

pub record WorldKeepsLawsAndCalm (rules : Rules) (r : Repair) (w : World) : Type 0 where
  pub laws : WorldTrimsOnlyTaken rules w
  pub calm : Calm r w

pub laws_and_calm_stay : (rules : Rules) (r : Repair) (w : World) (e : Event) → IsOurs r e → WorldKeepsLawsAndCalm rules r w → WorldKeepsLawsAndCalm rules r (happens w e)
laws_and_calm_stay rules r w e is h = record {
  laws = events_trim_only_taken rules w e (happens w e) (events_have_effects w e) h.laws;
  calm = calm_stays_by_scheduled_event rules r w e is h.laws h.calm;
}

pub world_grows_by_own_event : (rules : Rules) (r : Repair) (w : World) (e : Event) → IsOurs r e → WorldKeepsLawsAndCalm rules r w → RepairWorldGrows r w (happens w e)
world_grows_by_own_event rules r w e is h = repair_world_grows_by_event rules r w e is h.laws h.calm

-- a member is one of the 256 names
pub member_of_repair_is_small : (rules : Rules) (r : Repair) (w : World) (i : ℕ) → WorldKeepsLawsAndCalm rules r w → has r.members i ≡ true → i < 256
member_of_repair_is_small rules r w i h there =
    let at = h.calm.current_ i there in
    omega arith

-- ---- letters only go on

pub letter_stays_after_event : (w : World) (e : Event) (k : ℕ) (l : Letter) → letter_at w.letters k ≡ Some l → letter_at (happens w e).letters k ≡ Some l
letter_stays_after_event w e zero l there = absurd (cc)
letter_stays_after_event w e (suc before) l there =
    let more = (world_begins_after_event w e).letters in
    ap (λ ls. slice_get ls before) more.1 ∙ slice_get_of_front w.letters more.0 before l there

pub letters_grow_by_event : (w : World) (e : Event) → length w.letters ≤ length (happens w e).letters
letters_grow_by_event w e =
    let more = (world_begins_after_event w e).letters in
    let long = ap length more.1 ∙ length-append w.letters more.0 in
    omega arith

-- ---- an event of a name that is there

pub record NameRunsNow (w : World) (name : ℕ) : Type 0 where
  pub current_ : current w (place_of_name name) ≡ name
  pub runs : is_stopped w name ≡ false

pub member_of_repair_runs_now : (rules : Rules) (r : Repair) (w : World) (name : ℕ) → WorldKeepsLawsAndCalm rules r w → has r.members name ≡ true → NameRunsNow w name
member_of_repair_runs_now rules r w name h there = record { current_ = h.calm.current_ name there; runs = h.calm.runs name there }

acts_now : (w : World) (name : ℕ) → NameRunsNow w name → current w (place_of_name (place_of_name name)) ≡ name
acts_now w name h = let same : place_of_name (place_of_name name) ≡ place_of_name name = omega arith in ap (current w) same ∙ h.current_

pub tick_of_running_name_steps : (w : World) (name : ℕ) → NameRunsNow w name
    → (let e = event_at (place_of_name name) Act.Tick in happens w e ≡ world_with_step w e name (step (w.nodes name) does.Tick))
unfolding happens
tick_of_running_name_steps w name h =
    let e = event_at (place_of_name name) Act.Tick in
    ap (λ x. world_after_node_event w e x does.Tick) (acts_now w name h) ∙ rw (h.runs) refl

pub hearing_of_running_name_steps : (w : World) (name k : ℕ) (l : Letter) → NameRunsNow w name → letter_at w.letters k ≡ Some l → is_for l name ≡ true
    → (let e = event_at (place_of_name name) (Act.Hear k) in happens w e ≡ world_with_step w e name (hear_packet (w.nodes name) l.packet))
unfolding happens
hearing_of_running_name_steps w name k l h there meant =
    let e = event_at (place_of_name name) (Act.Hear k) in
    ap (λ x. world_after_hearing w e x (hear_packet (w.nodes x)) (letter_at w.letters k)) (acts_now w name h)
    ∙ ap (world_after_hearing w e name (hear_packet (w.nodes name))) there ∙ rw (meant, h.runs) refl

-- ---- what a step sends is there

append_at : (xs ys : List Letter) (j : ℕ) (l : Letter) → slice_get ys j ≡ Some l → letter_at (xs ++ ys) (length xs + 1 + j) ≡ Some l
append_at xs ys j l there =
    let at : length xs + 1 + j ≡ suc (length xs + j) = omega arith in
    ap (letter_at (xs ++ ys)) at ∙ slice_get_of_append_back xs ys j ∙ there

-- by its number in the world after it
pub letter_sent_at_number : (w : World) (e : Event) (name : ℕ) (s : StepResult) (j : ℕ) (l : Letter) → slice_get s.letters j ≡ Some l
    → letter_at (world_with_step w e name s).letters (length w.letters + 1 + j) ≡ Some l
unfolding world_with_step
letter_sent_at_number w e name s j l there = append_at w.letters s.letters j l there

pub contained_letter_has_index : (ls : List Letter) (l : Letter) → Contains ls l → (j : ℕ) × (slice_get ls j ≡ Some l)
contained_letter_has_index ls l h = (h.0, slice_get-get_or ls h.0 l h.1 ∙ ap Some h.2)

pub node_after_own_step : (w : World) (e : Event) (name : ℕ) (s : StepResult) → (world_with_step w e name s).nodes name ≡ s.node
unfolding world_with_step
node_after_own_step w e name s = let t : (name == name) ≡ true = grind (arith, nat_tests) in rw t refl
