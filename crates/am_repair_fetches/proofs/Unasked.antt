-- Through ticks, hearings, resets and givings up nobody comes to ask, nobody sends, and a list goes on to begin where it began.
use Rattle.am_repair.proofs.RepairWords.{◌≡◌, ℕ, ◌==◌, true, List, [], ◌∷◌, refl, sym, ◌∙◌, subst, All, All-head, All-tail, split_on_bool, eqb-true, Event, Act, Node, World, happens, world_after_events}
use Rattle.am_repair.proofs.RepairWords.{world_with_step, world_with_record, Cause, calls, IsCause, acting_name, has_log_by_status, events_have_effects}
use Rattle.am_step_laws.proofs.Words.{EventHappens, steps}
use Rattle.am_base.specs.declared.event.NodeEvent.{NodeEvent}
use Rattle.am_step_laws.specs.Events as act
use Rattle.am_step_laws.specs.Events.{IsCall}
use Rattle.am_fetch_runs.specs.Gathering.{IsTickOrHearing}
use Rattle.am_fetch_runs.specs.Gathering as gathering
use Rattle.am_repair_takes.proofs.Quiet.{IsMild, IsSame, same_changes}
use Rattle.am_repair_takes.proofs.Starts.{BeginsAsBefore, changes_before}
use Rattle.std.proofs.lemmas.List.Elements.{All-weaker}

-- ---- a node

-- it comes not to ask, sends nothing, and its list begins as before
pub record IsQuieter (m n : Node) : Type 0 where
  pub same : IsSame m n
  pub begins : has_log_by_status m.status ≡ true → BeginsAsBefore m n

quieter_itself : (m : Node) → IsQuieter m m
quieter_itself m = record { same = record { asks = λ f. f; last = refl }; begins = λ t. record { start = refl; log = t } }

quieter_in_turn : {a b c : Node} → IsQuieter a b → IsQuieter b c → IsQuieter a c
quieter_in_turn h k = record {
  same = record { asks = λ f. k.same.asks (h.same.asks f); last = k.same.last ∙ h.same.last };
  begins = λ t. (let x = h.begins t in let y = k.begins x.log in record { start = y.start ∙ x.start; log = y.log });
}

-- ---- events

-- a tick, a hearing, a reset, or a giving up
abbrev pub IsMildAct : Act → Type 0
IsMildAct Act.Tick = Unit {0}
IsMildAct (Act.Hear number) = Unit {0}
IsMildAct (Act.Reset least resilience) = Unit {0}
IsMildAct (Act.GiveUp name) = Unit {0}
IsMildAct _ = ⊥

abbrev pub HasMildAct : Event → Type 0
HasMildAct e = IsMildAct e.act

pub tick_or_hearing_is_mild : (e : Event) → IsTickOrHearing e → HasMildAct e
tick_or_hearing_is_mild e (gathering.ticks place) = tt
tick_or_hearing_is_mild e (gathering.hears place number) = tt

mild_call : (w : World) (a : Act) (event : NodeEvent) → IsMildAct a → IsCall w a event → IsMild (calls event)
mild_call w a event such act.tick = tt
mild_call w a event such (act.reset least resilience) = tt
mild_call w a event such (act.give_up other stopped) = tt
mild_call w a event such _ = absurd such

mild_cause : (w : World) (i : ℕ) (a : Act) (c : Cause) → IsMildAct a → IsCause w i a c → IsMild c
mild_cause w i a (calls event) such is = mild_call w a event such is
mild_cause w i a _ such is = tt

quieter_by : (w : World) (e : Event) (v : World) (name : ℕ) → HasMildAct e → EventHappens w e v → IsQuieter (w.nodes name) (v.nodes name)
unfolding world_with_record world_with_step
quieter_by w e v name such (steps c s runs cause effect) = split_on_bool (name == acting_name w e)
    (λ t.
    let here : IsQuieter (w.nodes (acting_name w e)) s.node = record {
      same = same_changes (w.nodes (acting_name w e)) s.node (mild_cause w (acting_name w e) e.act c such cause) effect.changes;
      begins = λ log. changes_before (w.nodes (acting_name w e)) s.node log effect.changes;
    } in
    rw t (subst (λ j. IsQuieter (w.nodes j) s.node) (sym (eqb-true name (acting_name w e) t)) here))
    (λ f. rw f (quieter_itself (w.nodes name)))
quieter_by w e v name such _ = quieter_itself (w.nodes name)

pub quieter_by_mild_events : (es : List Event) (w : World) (name : ℕ) → All HasMildAct es → IsQuieter (w.nodes name) ((world_after_events w es).nodes name)
unfolding world_after_events
quieter_by_mild_events [] w name such = quieter_itself (w.nodes name)
quieter_by_mild_events (e ∷ es) w name such = quieter_in_turn (quieter_by w e (happens w e) name (All-head HasMildAct e es such) (events_have_effects w e))
    (quieter_by_mild_events es (happens w e) name (All-tail HasMildAct e es such))

pub quieter_by_events : (es : List Event) (w : World) (name : ℕ) → All IsTickOrHearing es → IsQuieter (w.nodes name) ((world_after_events w es).nodes name)
quieter_by_events es w name such = quieter_by_mild_events es w name (All-weaker IsTickOrHearing HasMildAct tick_or_hearing_is_mild es such)
