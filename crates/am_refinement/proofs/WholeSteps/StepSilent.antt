-- A step of who had departed before it sends nothing.
use Rattle.am_refinement.proofs.WholeSteps.StepWords.{◌≡◌, ℕ, ◌==◌, ◌||◌, nat_lt, nat_le, not, Bool, true, false, if◌then◌else◌, [], ◌++◌, length, Option, Some, None, refl, sym}
use Rattle.am_refinement.proofs.WholeSteps.StepWords.{ap, ◌∙◌, arith, append-nil, length-append, NodeEvent, place_of_name, Packet, Letter, Act, Event, is_for, letter_at, Node}
use Rattle.am_refinement.proofs.WholeSteps.StepWords.{has_departed, StepResult, step, hear_packet, hear_refused_bytes, packet_length, World, current, is_stopped, world_with_record, world_with_step, world_after_node_event}
use Rattle.am_refinement.proofs.WholeSteps.StepWords.{world_after_give_up, world_after_hearing, hear_cut, world_after_return, world_after_act, happens, acting_name, nil_from_length, SendsNothing}
use Rattle.am_base.specs.declared.outcome.Outcome.TheVariants as said
use Rattle.am_base.specs.declared.event.NodeEvent.TheVariants as does

abbrev Same : World → World → Type 0
Same w v = v.letters ≡ w.letters

same_if : (w : World) (b : Bool) (u v : World) → Same w u → Same w v → Same w (if b then u else v)
same_if w true u v h k = h
same_if w false u v h k = k

quiet_step : (w : World) (e : Event) (name : ℕ) (s : StepResult) → s.letters ≡ [] → Same w (world_with_step w e name s)
unfolding world_with_step
quiet_step w e name s none = ap (λ l. w.letters ++ l) none ∙ append-nil w.letters

same_unchanged : (w : World) (e : Event) (o : _) → Same w (world_with_record w e o)
unfolding world_with_record
same_unchanged w e o = refl

module _ (w : World) (e : Event) (name : ℕ) (h : SendsNothing (w.nodes name)) where
  m : Node
  m = w.nodes name

  called : (event : NodeEvent) → Same w (world_after_node_event w e name event)
  called event = same_if w (is_stopped w name) _ _ (same_unchanged w e said.IsStopped) (quiet_step w e name (step (w.nodes name) event) (h.calls_ event))

  given_up : (other : ℕ) → Same w (world_after_give_up w e name other)
  given_up other = same_if w (is_stopped w name) _ _ (same_unchanged w e said.IsStopped)
      (same_if w (is_stopped w other) _ _ (quiet_step w e name (step (w.nodes name) (does.GiveUp other)) (h.calls_ (does.GiveUp other)))
      (same_unchanged w e said.NotStopped))

  heard_so : (hearing : Packet → StepResult) (l : Option Letter) → ((p : Packet) → (hearing p).letters ≡ []) → Same w (world_after_hearing w e name hearing l)
  heard_so hearing None quiet = same_unchanged w e said.NoPacket
  heard_so hearing (Some l) quiet = same_if w (not (is_for l name)) _ _ (same_unchanged w e said.NotAddressed)
      (same_if w (is_stopped w name) _ _ (same_unchanged w e said.IsStopped) (quiet_step w e name (hearing l.packet) (quiet l.packet)))

  cut : (keep : ℕ) (p : Packet) → (hear_cut (w.nodes name) keep p).letters ≡ []
  cut keep p = by_test (nat_le (packet_length p) keep) (nat_lt keep 12)
    where
      by_test : (whole none : Bool)
          → (if whole then hear_packet (w.nodes name) p else if none then hear_refused_bytes (w.nodes name) 1 else hear_refused_bytes (w.nodes name) 5).letters ≡ []
      by_test true none = h.hears_ p
      by_test false true = h.refuses_ 1
      by_test false false = h.refuses_ 5

  gone_back : (place : ℕ) → Same w (world_after_return w e place)
  unfolding world_with_record
  gone_back place = same_if w (not (is_stopped w (current w place) || has_departed (w.nodes (current w place)).status)) _ _ refl
      (same_if w (w.lives place == 16) _ _ refl refl)

  acts : (a : Act) → Same w (world_after_act w e name a)
  unfolding world_with_record
  acts (Act.GiveUp other) = given_up other
  acts Act.Stop = same_if w (is_stopped w name) _ _ refl refl
  acts (Act.Hear number) = heard_so (hear_packet (w.nodes name)) (letter_at w.letters number) h.hears_
  acts (Act.Cut number keep) = heard_so (hear_cut (w.nodes name) keep) (letter_at w.letters number) (cut keep)
  acts Act.Return = gone_back (place_of_name name)
  acts _ = called _

pub departed_step_sends_no_letters : (w : World) (e : Event) (s : StepResult) → SendsNothing (w.nodes (acting_name w e)) → happens w e ≡ world_with_step w e (acting_name w e) s → s.letters ≡ []
unfolding happens world_with_step
departed_step_sends_no_letters w e s h is =
    let same : (happens w e).letters ≡ w.letters = acts w e (acting_name w e) h e.act in
    let all : w.letters ++ s.letters ≡ w.letters = sym (ap (λ (v : World). v.letters) is) ∙ same in
    let long = length-append w.letters s.letters in
    let size = ap length all in
    nil_from_length s.letters (omega arith)
