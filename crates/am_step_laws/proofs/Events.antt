-- Each event has its effect on a world.
use Rattle.am_step_laws.proofs.EffectWords.{not-false, ◌≡◌, ℕ, nat_lt, nat_le, ◌==◌, ◌||◌, Bool, true, false, not, if◌then◌else◌, Option, Some, None, refl, sym, ap}
use Rattle.am_step_laws.proofs.EffectWords.{subst, NodeEvent, place_of_name, Packet, Letter, Act, Event, is_for, letter_at, Node, has_departed, StepResult, step, hear_packet}
use Rattle.am_step_laws.proofs.EffectWords.{hear_refused_bytes, packet_length, World, current, is_stopped, world_after_node_event, world_after_give_up, world_after_hearing, hear_cut, world_after_return}
use Rattle.am_step_laws.proofs.EffectWords.{world_after_act, happens, packet_heard_by_act, Cause, calls, hears, refuses, Effect, acting_name, WasSentTo, IsCall, send, done, take, join, state}
use Rattle.am_step_laws.proofs.EffectWords.{leave, reset, ask, tick, IsCause, EventHappens, idles, stops, returns, steps, EventsHaveEffects}
use Rattle.am_step_laws.specs.Events.{give_up}
use Rattle.am_base.specs.declared.outcome.Outcome.TheVariants as said
use Rattle.am_base.specs.declared.event.NodeEvent.TheVariants as does
use Rattle.am_group.specs.declared.event.Act.TheVariants as act
use Rattle.am_step_laws.proofs.Hearing.{steps_have_effects, hearing_has_effects, refusing_has_effects}

happens_if : (w : World) (e : Event) (b : Bool) (u v : World) → (b ≡ true → EventHappens w e u) → (b ≡ false → EventHappens w e v) → EventHappens w e (if b then u else v)
happens_if w e true u v f g = f refl
happens_if w e false u v f g = g refl

-- a name's own event
event_happens : (w : World) (e : Event) (event : NodeEvent) → IsCall w e.act event
    → Effect (w.nodes (acting_name w e)) (calls event) (step (w.nodes (acting_name w e)) event) → EventHappens w e (world_after_node_event w e (acting_name w e) event)
event_happens w e event is effect = happens_if w e (is_stopped w (acting_name w e)) _ _ (λ t. idles said.IsStopped tt) (λ f. steps (calls event) _ f is effect)

give_up_happens : (w : World) (e : Event) (other : ℕ) → e.act ≡ act.GiveUp other → EventHappens w e (world_after_give_up w e (acting_name w e) other)
give_up_happens w e other is =
    happens_if w e (is_stopped w (acting_name w e)) _ _ (λ t. idles said.IsStopped tt)
    (λ f. happens_if w e (is_stopped w other) _ _
    (λ t. steps (calls (does.GiveUp other)) _ f (subst (λ a. IsCall w a (does.GiveUp other)) (sym is) (give_up other t))
    (steps_have_effects (w.nodes (acting_name w e)) (does.GiveUp other)))
    (λ g. idles said.NotStopped tt))

-- what is heard of a packet
abbrev Hears : World → Event → (Packet → StepResult) → Type 0
Hears w e hearing = (p : Packet) → WasSentTo w (acting_name w e) e.act p → (c : Cause) × IsCause w (acting_name w e) e.act c × Effect (w.nodes (acting_name w e)) c (hearing p)

letter_happens : (w : World) (e : Event) (hearing : Packet → StepResult) (l : Option Letter) → letter_at w.letters (packet_heard_by_act e.act) ≡ l → Hears w e hearing
    → EventHappens w e (world_after_hearing w e (acting_name w e) hearing l)
letter_happens w e hearing None is h = idles said.NoPacket tt
letter_happens w e hearing (Some l) is h =
    happens_if w e (not (is_for l (acting_name w e))) _ _ (λ t. idles said.NotAddressed tt)
    (λ f. happens_if w e (is_stopped w (acting_name w e)) _ _ (λ t. idles said.IsStopped tt)
    (λ g. let k = h l.packet (record { letter = l; there = is; addressed = not-false _ f; is = refl }) in steps k.0 (hearing l.packet) g k.1 k.2))

hears_whole : (w : World) (e : Event) → Hears w e (hear_packet (w.nodes (acting_name w e)))
hears_whole w e p sent = (hears p, sent, hearing_has_effects (w.nodes (acting_name w e)) p)

hears_cut : (w : World) (e : Event) (keep : ℕ) → Hears w e (hear_cut (w.nodes (acting_name w e)) keep)
hears_cut w e keep p sent = one (nat_le (packet_length p) keep) (nat_lt keep 12)
  where
    m : Node
    m = w.nodes (acting_name w e)

    one : (whole none : Bool) → (c : Cause) × IsCause w (acting_name w e) e.act c
        × Effect m c (if whole then hear_packet m p else if none then hear_refused_bytes m 1 else hear_refused_bytes m 5)
    one true none = (hears p, sent, hearing_has_effects m p)
    one false true = (refuses, tt, refusing_has_effects m 1)
    one false false = (refuses, tt, refusing_has_effects m 5)

return_happens : (w : World) (e : Event) (place : ℕ) → place ≡ place_of_name (acting_name w e) → EventHappens w e (world_after_return w e place)
return_happens w e place is =
    happens_if w e (not (is_stopped w (current w place) || has_departed (w.nodes (current w place)).status)) _ _ (λ t. idles _ tt)
    (λ f. happens_if w e (w.lives place == 16) _ _ (λ t. idles said.NoLife tt) (λ g. returns place is (not-false _ f) g))

act_happens : (w : World) (e : Event) (a : Act) → e.act ≡ a → EventHappens w e (world_after_act w e (acting_name w e) a)
act_happens w e a is = by_act a is
  where
    m : Node
    m = w.nodes (acting_name w e)

    called : (a : Act) (event : NodeEvent) → e.act ≡ a → IsCall w a event → Effect m (calls event) (step m event)
        → EventHappens w e (world_after_node_event w e (acting_name w e) event)
    called a event is call effect = event_happens w e event (subst (λ x. IsCall w x event) (sym is) call) effect

    by_letter : (hearing : Packet → StepResult) (number : ℕ) → packet_heard_by_act e.act ≡ number → Hears w e hearing
        → EventHappens w e (world_after_hearing w e (acting_name w e) hearing (letter_at w.letters number))
    by_letter hearing number is h = letter_happens w e hearing (letter_at w.letters number) (ap (letter_at w.letters) is) h

    by_act : (a : Act) → e.act ≡ a → EventHappens w e (world_after_act w e (acting_name w e) a)
    by_act (act.Send body) is = called _ _ is (send body) (steps_have_effects m (does.Send body))
    by_act (act.Done req) is = called _ _ is (done req) (steps_have_effects m (does.Done req))
    by_act act.Take is = called _ _ is take (steps_have_effects m does.Take)
    by_act act.Join is = called _ _ is join (steps_have_effects m does.Join)
    by_act act.State is = called _ _ is state (steps_have_effects m does.State)
    by_act act.Leave is = called _ _ is leave (steps_have_effects m does.Leave)
    by_act (act.Reset least resilience) is = called _ _ is (reset least resilience) (steps_have_effects m (does.Reset least resilience))
    by_act (act.Ask round) is = called _ _ is (ask round) (steps_have_effects m (does.Ask round))
    by_act (act.GiveUp other) is = give_up_happens w e other is
    by_act act.Stop is = happens_if w e (is_stopped w (acting_name w e)) _ _ (λ t. idles said.IsStopped tt) (λ f. stops f)
    by_act act.Tick is = called _ _ is tick (steps_have_effects m does.Tick)
    by_act (act.Hear number) is = by_letter (hear_packet m) number (ap packet_heard_by_act is) (hears_whole w e)
    by_act (act.Cut number keep) is = by_letter (hear_cut m keep) number (ap packet_heard_by_act is) (hears_cut w e keep)
    by_act act.Return is = return_happens w e (place_of_name (acting_name w e)) refl

pub events_have_effects : EventsHaveEffects
unfolding happens
events_have_effects w e = act_happens w e e.act refl
