-- How high the numbers of the acting name's node are after an event.
use Rattle.am_step_laws.proofs.Words.{number_equals_itself, ◌≡◌, ℕ, not, nat_lt, nat_le, Bool, true, false, if◌then◌else◌, List, Option, Some, None, refl, Outcome}
use Rattle.am_step_laws.proofs.Words.{NodeEvent, Packet, Letter, Act, Event, is_for, letter_at, Node, StepResult, step, hear_packet, hear_refused_bytes, packet_length, World}
use Rattle.am_step_laws.proofs.Words.{is_stopped, world_with_record, world_with_step, world_after_hearing, hear_cut, world_with_next_life, world_after_act, happens, packet_heard_by_act, acting_name, Bounds, bounds_one_higher, PacketIsWithinBounds}
use Rattle.am_base.specs.declared.outcome.Outcome.TheVariants as said
use Rattle.am_group.specs.declared.event.Act.TheVariants as act
use Rattle.am_step_laws.proofs.Numbers.HearingCounts.{IsNoHearing, step_keeps_numbers_low, hear_keeps_numbers_low, refusal_keeps_numbers_low}
use Rattle.am_step_laws.proofs.Numbers.Counts.{NumbersAreLow, AcceptedIsWithinGroup, higher_bounds_keep_numbers_low}

-- a name's node in a world has one more at most
record OneMore (b : Bounds) (g name : ℕ) (v : World) : Type 0 where
  node : NumbersAreLow (bounds_one_higher b) g (v.nodes name)

more_if : (b : Bounds) (g name : ℕ) (t : Bool) (v w : World) → OneMore b g name v → OneMore b g name w → OneMore b g name (if t then v else w)
more_if b g name true v w f h = f
more_if b g name false v w f h = h

more_unchanged : (b : Bounds) (g name : ℕ) (w : World) (e : Event) (o : Outcome) → NumbersAreLow b g (w.nodes name) → OneMore b g name (world_with_record w e o)
unfolding world_with_record
more_unchanged b g name w e o h = record { node = higher_bounds_keep_numbers_low b g (w.nodes name) h }

more_stops : (b : Bounds) (g name : ℕ) (w : World) (e : Event) (o : Outcome) (stopped : List ℕ) → NumbersAreLow b g (w.nodes name)
    → OneMore b g name (world_with_record (record w { stopped = stopped }) e o)
unfolding world_with_record
more_stops b g name w e o stopped h = record { node = higher_bounds_keep_numbers_low b g (w.nodes name) h }

more_lives : (b : Bounds) (g name : ℕ) (w : World) (e : Event) (o : Outcome) (place : ℕ) → NumbersAreLow b g (w.nodes name)
    → OneMore b g name (world_with_next_life (world_with_record w e o) place)
unfolding world_with_record
more_lives b g name w e o place h = record { node = higher_bounds_keep_numbers_low b g (w.nodes name) h }

more_stepped : (b : Bounds) (g name : ℕ) (w : World) (e : Event) (s : StepResult) → NumbersAreLow (bounds_one_higher b) g s.node → OneMore b g name (world_with_step w e name s)
unfolding world_with_step
more_stepped b g name w e s h = record { node = rw (number_equals_itself name) h }

ruleset mores = (more_if, more_unchanged, more_stops, more_lives)

more_event : (b : Bounds) (g name : ℕ) (w : World) (e : Event) (event : NodeEvent) → IsNoHearing event → AcceptedIsWithinGroup g (w.nodes name) → NumbersAreLow b g (w.nodes name)
    → OneMore b g name (world_with_step w e name (step (w.nodes name) event))
more_event b g name w e event d k h = more_stepped b g name w e (step (w.nodes name) event) (step_keeps_numbers_low b g (w.nodes name) event d k h)

low_cut : (b : Bounds) (g : ℕ) (m : Node) (keep : ℕ) (p : Packet) → PacketIsWithinBounds b g p → AcceptedIsWithinGroup g m → NumbersAreLow b g m → NumbersAreLow (bounds_one_higher b) g (hear_cut m keep p).node
low_cut b g m keep p u k h = one (nat_le (packet_length p) keep) (nat_lt keep 12)
  where
    one : (whole none : Bool) → NumbersAreLow (bounds_one_higher b) g (if whole then hear_packet m p else if none then hear_refused_bytes m 1 else hear_refused_bytes m 5).node
    one true none = hear_keeps_numbers_low b g m p u k h
    one false true = refusal_keeps_numbers_low b g m 1 h
    one false false = refusal_keeps_numbers_low b g m 5 h

more_heard : (b : Bounds) (g name : ℕ) (w : World) (e : Event) (hearing : Packet → StepResult) (l : Option Letter) → NumbersAreLow b g (w.nodes name)
    → ((letter : Letter) → l ≡ Some letter → NumbersAreLow (bounds_one_higher b) g (hearing letter.packet).node) → OneMore b g name (world_after_hearing w e name hearing l)
more_heard b g name w e hearing None h k = search mores
more_heard b g name w e hearing (Some l) h k =
    more_if b g name (not (is_for l name)) _ _ (more_unchanged b g name w e said.NotAddressed h)
    (more_if b g name (is_stopped w name) _ _ (more_unchanged b g name w e said.IsStopped h) (more_stepped b g name w e (hearing l.packet) (k l refl)))

more_acts : (b : Bounds) (g name : ℕ) (w : World) (e : Event) (a : Act)
    → ((letter : Letter) → letter_at w.letters (packet_heard_by_act a) ≡ Some letter → PacketIsWithinBounds b g letter.packet) → AcceptedIsWithinGroup g (w.nodes name) → NumbersAreLow b g (w.nodes name)
    → OneMore b g name (world_after_act w e name a)
more_acts b g name w e act.Stop u k h = search mores
more_acts b g name w e (act.Hear number) u k h =
    more_heard b g name w e (hear_packet (w.nodes name)) (letter_at w.letters number) h (λ letter is. hear_keeps_numbers_low b g (w.nodes name) letter.packet (u letter is) k h)
more_acts b g name w e (act.Cut number keep) u k h =
    more_heard b g name w e (hear_cut (w.nodes name) keep) (letter_at w.letters number) h
    (λ letter is. low_cut b g (w.nodes name) keep letter.packet (u letter is) k h)
more_acts b g name w e act.Return u k h = search mores
more_acts b g name w e _ u k h = search (mores, more_event, tt)

-- whatever the bounds are that the node and the letter that it hears are within
pub event_keeps_actor_numbers_low : (b : Bounds) (g : ℕ) (w : World) (e : Event) → ((letter : Letter) → letter_at w.letters (packet_heard_by_act e.act) ≡ Some letter → PacketIsWithinBounds b g letter.packet)
    → AcceptedIsWithinGroup g (w.nodes (acting_name w e)) → NumbersAreLow b g (w.nodes (acting_name w e)) → NumbersAreLow (bounds_one_higher b) g ((happens w e).nodes (acting_name w e))
unfolding happens
event_keeps_actor_numbers_low b g w e u k h = (more_acts b g (acting_name w e) w e e.act u k h).node
