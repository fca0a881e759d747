-- A calm world stays calm while a schedule runs.
use Rattle.am_repair.proofs.RepairWords.{not-false, ◌≡◌, ◌⊎◌, inl, inr, ℕ, ◌<◌, ◌==◌, not, Bool, true, false, if◌then◌else◌, Option, Some, None, refl, sym}
use Rattle.am_repair.proofs.RepairWords.{ap, ◌∙◌, Outcome, Rules, Letter, Event, is_for, letter_at, Node, is_member, has_departed, StepResult, step, hear_packet, Status}
use Rattle.am_repair.proofs.RepairWords.{event_at, World, is_stopped, world_with_record, world_with_step, happens, world_after_hearing, Cause, calls, hears, Changes, Act}
use Rattle.am_repair.proofs.RepairWords.{no_change, changed, Effect, acting_name, IsCause, tick, steps_have_effects, hearing_has_effects, HeardStampsHaveNames, HeardWelcomeImageIsUsed}
use Rattle.am_repair.proofs.RepairWords.{TrimsOnlyTakenAlongStep, changes_trim_only_taken, IsOurs, hears_, Repair, Calm}
use Rattle.am_repair.specs.Rounds.{ticks}
use Rattle.am_base.specs.declared.outcome.Outcome.TheVariants as said
use Rattle.am_base.specs.declared.event.NodeEvent.TheVariants as does
use Rattle.am_repair.proofs.Nodes.{CalmCause}
use Rattle.am_repair.proofs.RepairLeading.{SequencerGoesOn, sequencer_goes_on_by_change, CauseTellsTaken}
use Rattle.am_repair.proofs.Following.{MemberFollowsOn, member_follows_on_by_change}
use Rattle.am_repair.proofs.Leaving.{LeaverStaysLeft, leaver_stays_left_by_change}
use Rattle.am_repair.proofs.Apart.{StaysApartFromRepair, node_stays_apart_by_change}
use Rattle.am_repair.proofs.Departed.{StepIsStill, departed_node_ticks_still, departed_node_hears_still}
use Rattle.am_refinement.proofs.Changes.{member_has_not_departed}

-- ---- the events of a schedule

-- a step of a schedule, with its cause
pub record StepOfSchedule (r : Repair) (w : World) (e : Event) (s : StepResult) : Type 0 where
  pub cause : Cause
  pub calm : CalmCause r w cause
  pub is : IsCause w (acting_name w e) e.act cause
  pub effect : Effect (w.nodes (acting_name w e)) cause s
  pub runs : is_stopped w (acting_name w e) ≡ false
  pub still : has_departed (w.nodes (acting_name w e)).status ≡ true → StepIsStill (w.nodes (acting_name w e)) s

pub data WorldAfterScheduledEvent (r : Repair) (w : World) (e : Event) : World → Type 0 where
  idles : (o : Outcome) → WorldAfterScheduledEvent r w e (world_with_record w e o)
  steps : (s : StepResult) → StepOfSchedule r w e s → WorldAfterScheduledEvent r w e (world_with_step w e (acting_name w e) s)

ours_if : (r : Repair) (w : World) (e : Event) (b : Bool) (u v : World) → WorldAfterScheduledEvent r w e u → (b ≡ false → WorldAfterScheduledEvent r w e v) → WorldAfterScheduledEvent r w e (if b then u else v)
ours_if r w e true u v f g = f
ours_if r w e false u v f g = g refl

our_tick : (r : Repair) (w : World) (place : ℕ) → WorldAfterScheduledEvent r w (event_at place Act.Tick) (happens w (event_at place Act.Tick))
unfolding happens
our_tick r w place =
    let e = event_at place Act.Tick in
    let m = w.nodes (acting_name w e) in
    ours_if r w e (is_stopped w (acting_name w e)) _ _ (idles said.IsStopped)
    (λ f. steps (step m does.Tick) (record {
      cause = calls does.Tick;
      calm = tt;
      is = tick;
      effect = steps_have_effects m does.Tick;
      runs = f;
      still = departed_node_ticks_still m;
    }))

our_letter : (r : Repair) (w : World) (place number : ℕ) (l : Option Letter) → letter_at w.letters number ≡ l → r.sent < number → Calm r w
    → (let e = event_at place (Act.Hear number) in WorldAfterScheduledEvent r w e (world_after_hearing w e (acting_name w e) (hear_packet (w.nodes (acting_name w e))) l))
our_letter r w place number None is late h = idles said.NoPacket
our_letter r w place number (Some l) is late h =
    let e = event_at place (Act.Hear number) in
    let m = w.nodes (acting_name w e) in
    ours_if r w e (not (is_for l (acting_name w e))) _ _ (idles said.NotAddressed)
    (λ f. ours_if r w e (is_stopped w (acting_name w e)) _ _ (idles said.IsStopped)
    (λ g. steps (hear_packet m l.packet) (record {
      cause = hears l.packet;
      calm = h.letters number l late is;
      is = record { letter = l; there = is; addressed = not-false _ f; is = refl };
      effect = hearing_has_effects m l.packet;
      runs = g;
      still = departed_node_hears_still m l.packet;
    })))

pub scheduled_event_steps_or_idles : (r : Repair) (w : World) (e : Event) → IsOurs r e → Calm r w → WorldAfterScheduledEvent r w e (happens w e)
unfolding happens
scheduled_event_steps_or_idles r w e (ticks place) h = our_tick r w place
scheduled_event_steps_or_idles r w e (hears_ place number late) h = our_letter r w place number (letter_at w.letters number) refl late h

-- ---- changes in turn

pub sequencer_goes_on_by_changes : (rules : Rules) (r : Repair) (taken : ℕ → ℕ) (w : World) (q : Node) {c : Cause} {o : Outcome} (m n : Node) → r.view.by ≡ r.by
    → CalmCause r w c → CauseTellsTaken r taken c → HeardStampsHaveNames c → HeardWelcomeImageIsUsed c → Changes c o m n → TrimsOnlyTakenAlongStep rules m → SequencerGoesOn r taken q m → SequencerGoesOn r taken q n
sequencer_goes_on_by_changes rules r taken w q m n by calm tells names used no_change a h = h
sequencer_goes_on_by_changes rules r taken w q m n by calm tells names used (changed {n = x} one more) a h =
    sequencer_goes_on_by_changes rules r taken w q x n by calm tells names used more (changes_trim_only_taken rules m x names used (changed one no_change) a)
    (sequencer_goes_on_by_change r taken w q _ _ m x by calm tells a.owned.fronts one h)

pub member_follows_on_by_changes : (r : Repair) (w : World) {c : Cause} {o : Outcome} (m x y : Node) → r.view.by ≡ r.by → (m.core.who == r.by) ≡ false
    → CalmCause r w c → Changes c o x y → MemberFollowsOn r c (w.nodes r.by) m x → MemberFollowsOn r c (w.nodes r.by) m y
member_follows_on_by_changes r w m x y by other calm no_change h = h
member_follows_on_by_changes r w m x y by other calm (changed {n = z} one more) h = member_follows_on_by_changes r w m z y by other calm more
    (member_follows_on_by_change r w _ _ m x z by other calm one h)

pub node_stays_apart_by_changes : (r : Repair) (w : World) {c : Cause} {o : Outcome} (m x y : Node) → r.view.by ≡ r.by → (m.core.who == r.by) ≡ false → CalmCause r w c
    → Changes c o x y → StaysApartFromRepair r m x → StaysApartFromRepair r m y
node_stays_apart_by_changes r w m x y by other calm no_change h = h
node_stays_apart_by_changes r w m x y by other calm (changed {n = z} one more) h = node_stays_apart_by_changes r w m z y by other calm more
    (node_stays_apart_by_change r w _ _ m x z by other calm one h)

pub leaver_stays_left_by_changes : (r : Repair) (w : World) {c : Cause} {o : Outcome} (m x y : Node) → CalmCause r w c → Changes c o x y → LeaverStaysLeft r m x → LeaverStaysLeft r m y
leaver_stays_left_by_changes r w m x y calm no_change h = h
leaver_stays_left_by_changes r w m x y calm (changed {n = z} one more) h = leaver_stays_left_by_changes r w m z y calm more (leaver_stays_left_by_change r w _ _ m x z calm one h)

-- ---- who sends is the node after the step

pub sender_with_same_status : (n sender : Node) → n ≡ record sender { status = n.status } → (n.status ≡ sender.status) ⊎ (n.status ≡ Status.Departed)
    → has_departed n.status ≡ false → sender ≡ n
sender_with_same_status n sender is (inl same) there = sym (is ∙ ap (λ st. record sender { status = st }) same)
sender_with_same_status n sender is (inr gone) there = absurd (let g = ap has_departed gone in cc)

pub member_status_has_not_departed : (m : Node) → is_member m.status ≡ true → has_departed m.status ≡ false
member_status_has_not_departed m h = member_has_not_departed m.status h
