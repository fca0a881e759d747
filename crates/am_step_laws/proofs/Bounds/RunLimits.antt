-- Each letter of a run is a packet within its limits, so the run of packets is the run of bytes.
use Rattle.am_step_laws.proofs.Words.{heard_packet_has_property, number_equals_itself, ◌≡◌, ℕ, ◌<◌, ◌≤◌, not, if◌then◌else◌, List, [], ◌∷◌, length, Option, Some, None, refl, ap, ◌∙◌, subst}
use Rattle.am_step_laws.proofs.Words.{arith, All, All-nil, All-cons, All-head, All-tail, All-append, All-weaker, most_bytes_of_body, Rules, MayFound, top_of_log, Packet}
use Rattle.am_step_laws.proofs.Words.{Letter, IsPacket, reading_of_spelling, Act, Event, is_for, letter_at, Node, founder, stranger_node, founders_entry, StepResult, World, start}
use Rattle.am_step_laws.proofs.Words.{is_stopped, world_with_record, world_with_step, world_after_hearing, world_after_act, happens, world_after_events, run, spelled_packet_is_heard, cut_packet_whole_or_refused}
use Rattle.am_step_laws.proofs.Words.{Cause, LetterSays, Effect, acting_name, IsCall, IsCause, EventHappens, steps, all_gives_item_at, events_have_effects, sender_of, Bounds, bounds_one_higher}
use Rattle.am_step_laws.proofs.Words.{PacketIsWithinBounds, BodyIsWithinLimit, IsRunWithinScriptLimits, LettersArePackets, LettersAreRead, acts_by_bytes, happen_by_bytes, RunsAreOfBytes}
use Rattle.am_base.specs.declared.outcome.Outcome.TheVariants as said
use Rattle.am_base.specs.declared.event.NodeEvent.TheVariants as does
use Rattle.am_group.specs.declared.event.Act.TheVariants as act
use Rattle.am_step_laws.specs.Events as event
use Rattle.am_step_laws.proofs.Numbers.RunCounts.{WorldNumbersAreLow, event_keeps_world_numbers_low, start_has_low_numbers, sender_keeps_first_image_low, set_node_keeps_property, bounds_after_events, events_keep_with_higher_bounds, founder_or_stranger_has}
use Rattle.am_step_laws.proofs.Bounds.NodeLimits.{SendIsWithinLimits, KeptBodyIsWithinLimits, NodeIsWithinLimits, PacketIsWithinLimits, CauseIsWithinLimits, higher_bounds_keep_node, higher_bounds_keep_packet, changes_keep_node_within_limits}
use Rattle.am_step_laws.proofs.Bounds.Limits.{EntryIsWithinLimits, BoundsAreNumbers, blank_image_is_within_limits}
use Rattle.am_step_laws.proofs.Numbers.ListImages.{WelcomeImageUpToBase, FirstImageUpToStart}
use Rattle.am_step_laws.proofs.Bounds.LetterLimits.{said_packet_is_within_limits}
use Rattle.am_step_laws.proofs.Bounds.LetterLimits.{limited_packet_is_packet}
use Rattle.am_step_laws.proofs.Named.{NodesHaveTheirNames, events_keep_names, start_has_names}

-- ---- a world

pub record WorldIsWithinLimits (b : Bounds) (w : World) : Type 0 where
  pub each : (name : ℕ) → NodeIsWithinLimits b (w.nodes name)
  pub letters : All (λ (l : Letter). PacketIsWithinLimits b l.packet) w.letters

pub record WorldIsLimited (rules : Rules) (b : Bounds) (w : World) : Type 0 where
  pub low : WorldNumbersAreLow b w
  pub named : NodesHaveTheirNames rules w
  pub within : WorldIsWithinLimits b w

within_same : (b : Bounds) (w v : World) → v.nodes ≡ w.nodes → v.letters ≡ w.letters → WorldIsWithinLimits b w → WorldIsWithinLimits (bounds_one_higher b) v
within_same b w v nodes letters h = record {
  each = rw nodes (λ name. higher_bounds_keep_node b (w.nodes name) (h.each name));
  letters = rw letters (All-weaker (λ (l : Letter). PacketIsWithinLimits b l.packet) (λ (l : Letter). PacketIsWithinLimits (bounds_one_higher b) l.packet)
      (λ l x. higher_bounds_keep_packet b l.packet x) w.letters h.letters);
}

-- ---- a step

called_within : (w : World) (a : Act) (body : List ℕ) → BodyIsWithinLimit a → IsCall w a (does.Send body) → length body ≤ most_bytes_of_body
called_within w a body h (event.send x) = h

cause_within : (rules : Rules) (b : Bounds) (w : World) (e : Event) (c : Cause) → BodyIsWithinLimit e.act → WorldIsLimited rules b w → IsCause w (acting_name w e) e.act c
    → CauseIsWithinLimits (bounds_one_higher b) c
cause_within rules b w e c body h cause = record {
  heard = λ p is. higher_bounds_keep_packet b p (heard_packet_has_property (PacketIsWithinLimits b) w e c p cause is h.within.letters);
  senders = λ p is. heard_packet_has_property (λ (x : Packet). sender_of x < 256) w e c p cause is h.named.senders;
  called = λ bytes is. called_within w e.act bytes body (subst (IsCause w (acting_name w e) e.act) is cause);
}

-- its sender is the node after the step, but for its status
sender_within : (b : Bounds) (n sender : Node) → n ≡ record sender { status = n.status } → NodeIsWithinLimits b n → NodeIsWithinLimits b sender
sender_within b n sender is h = let k : NodeIsWithinLimits b (record sender { status = n.status }) = subst (NodeIsWithinLimits b) is h in
    record { image = k.image; entries = k.entries; sends = k.sends; bodies = k.bodies; ballot = k.ballot }

-- the numbers of the node after it are those of the run
within_stepped : (rules : Rules) (b : Bounds) (w : World) (e : Event) (c : Cause) (s : StepResult) → BodyIsWithinLimit e.act → IsCause w (acting_name w e) e.act c
    → Effect (w.nodes (acting_name w e)) c s → WorldNumbersAreLow (bounds_one_higher b) (world_with_step w e (acting_name w e) s) → WorldIsLimited rules b w → WorldIsWithinLimits (bounds_one_higher b) (world_with_step w e (acting_name w e) s)
unfolding world_with_step
within_stepped rules b w e c s body cause effect low h =
    let name = acting_name w e in
    let m = w.nodes name in
    let n = s.node in
    let from = cause_within rules b w e c body h cause in
    let numbers = rw (number_equals_itself name) at (low.each name) in
    let list : FirstImageUpToStart n = rw (number_equals_itself name) at (low.images name) in
    let node : NodeIsWithinLimits (bounds_one_higher b) n = changes_keep_node_within_limits (bounds_one_higher b) m n from numbers.rounds numbers.sends effect.changes (higher_bounds_keep_node b m (h.within.each name)) in
    let sender = effect.sender in
    let high = ap (λ (x : Node). top_of_log x.core.log) effect.is in
    record {
      each = set_node_keeps_property (NodeIsWithinLimits (bounds_one_higher b)) w.nodes name n (λ other. higher_bounds_keep_node b (w.nodes other) (h.within.each other)) node;
      letters = All-append (λ (l : Letter). PacketIsWithinLimits (bounds_one_higher b) l.packet) w.letters s.letters
          (All-weaker (λ (l : Letter). PacketIsWithinLimits b l.packet) (λ (l : Letter). PacketIsWithinLimits (bounds_one_higher b) l.packet)
          (λ l x. higher_bounds_keep_packet b l.packet x) w.letters h.within.letters)
          (All-weaker (LetterSays m c sender) (λ (l : Letter). PacketIsWithinLimits (bounds_one_higher b) l.packet)
          (λ l x. said_packet_is_within_limits (bounds_one_higher b) m sender c l.to l.packet (sender_within (bounds_one_higher b) n sender effect.is node) (sender_keeps_first_image_low n sender effect.is list)
          (omega arith) from.heard x.says) s.letters effect.letters);
    }

-- ---- each event

within_event : (rules : Rules) (b : Bounds) (w : World) (e : Event) (v : World) → BodyIsWithinLimit e.act → EventHappens w e v → WorldNumbersAreLow (bounds_one_higher b) v → WorldIsLimited rules b w
    → WorldIsWithinLimits (bounds_one_higher b) v
unfolding world_with_record
within_event rules b w e v body (steps c s runs cause effect) low h = within_stepped rules b w e c s body cause effect low h
within_event rules b w e v body _ low h = within_same b w v refl refl h.within

pub event_keeps_world_within_limits : (rules : Rules) (b : Bounds) (w : World) (e : Event) → BodyIsWithinLimit e.act → WorldIsLimited rules b w → WorldIsLimited rules (bounds_one_higher b) (happens w e)
event_keeps_world_within_limits rules b w e body h =
    let low = event_keeps_world_numbers_low b w e h.low in
    record {
      low = low;
      named = events_keep_names rules w e (happens w e) (events_have_effects w e) h.named;
      within = within_event rules b w e (happens w e) body (events_have_effects w e) low h;
    }

-- ---- a heard packet and its bytes

by_letter : (w : World) (e : Event) (name : ℕ) (f g : Packet → StepResult) (found : Option Letter)
    → ((letter : Letter) → found ≡ Some letter → f letter.packet ≡ g letter.packet) → world_after_hearing w e name f found ≡ world_after_hearing w e name g found
by_letter w e name f g None h = refl
by_letter w e name f g (Some letter) h = ap (λ s. if not (is_for letter name) then world_with_record w e said.NotAddressed else if is_stopped w name then world_with_record
    w e said.IsStopped else world_with_step w e name s) (h letter refl)

abbrev HoldsPackets : World → Type 0
HoldsPackets w = (number : ℕ) (letter : Letter) → letter_at w.letters number ≡ Some letter → IsPacket letter.packet

acts_same : (w : World) (e : Event) (name : ℕ) (a : Act) → HoldsPackets w → acts_by_bytes w e name a ≡ world_after_act w e name a
acts_same w e name (act.Hear number) h = by_letter w e name _ _ (letter_at w.letters number)
    (λ letter is. spelled_packet_is_heard (w.nodes name) letter.packet (h number letter is))
acts_same w e name (act.Cut number keep) h = by_letter w e name _ _ (letter_at w.letters number)
    (λ letter is. cut_packet_whole_or_refused (w.nodes name) letter.packet keep (h number letter is))
acts_same w e name _ h = refl

limited_packets : (rules : Rules) (b : Bounds) (w : World) → BoundsAreNumbers b → WorldIsLimited rules b w → HoldsPackets w
limited_packets rules b w small h number letter at = limited_packet_is_packet b (length w.group) letter.packet small (record {
  up_to = all_gives_item_at (λ (l : Letter). PacketIsWithinBounds b (length w.group) l.packet) w.letters number letter h.low.letters at;
  within = all_gives_item_at (λ (l : Letter). PacketIsWithinLimits b l.packet) w.letters number letter h.within.letters at;
  welcome = all_gives_item_at (λ (l : Letter). WelcomeImageUpToBase l.packet) w.letters number letter h.low.welcomes at;
})

-- ---- runs

-- more of each is still a number
fewer : (b : Bounds) (many : ℕ) → BoundsAreNumbers (bounds_after_events many b) → BoundsAreNumbers b
fewer b many h = let l = h.lists in let r = h.rounds in let q = h.requests in record { lists = omega arith; rounds = omega arith; requests = omega arith }

limited_happen : (rules : Rules) (b : Bounds) (w : World) (events : List Event) → All (λ (e : Event). BodyIsWithinLimit e.act) events → WorldIsLimited rules b w
    → WorldIsLimited rules (bounds_after_events (length events) b) (world_after_events w events)
limited_happen rules = events_keep_with_higher_bounds (WorldIsLimited rules) (λ e. BodyIsWithinLimit e.act) (event_keeps_world_within_limits rules)

same_happen : (rules : Rules) (b : Bounds) (w : World) (events : List Event) → BoundsAreNumbers (bounds_after_events (length events) b)
    → All (λ (e : Event). BodyIsWithinLimit e.act) events → WorldIsLimited rules b w → happen_by_bytes w events ≡ world_after_events w events
unfolding world_after_events happens happen_by_bytes
same_happen rules b w [] small bodies h = refl
same_happen rules b w (e ∷ es) small bodies h =
    let lists = small.lists in let rounds = small.rounds in let requests = small.requests in
    let left : BoundsAreNumbers (bounds_after_events (length es) (bounds_one_higher b)) = record { lists = omega arith; rounds = omega arith; requests = omega arith } in
    let one = acts_same w e (acting_name w e) e.act (limited_packets rules b w (fewer b (length (e ∷ es)) small) h) in
    ap (λ x. happen_by_bytes x es) one
    ∙ same_happen rules (bounds_one_higher b) (happens w e) es left (All-tail (λ (x : Event). BodyIsWithinLimit x.act) e es bodies)
    (event_keeps_world_within_limits rules b w e (All-head (λ (x : Event). BodyIsWithinLimit x.act) e es bodies) h)

-- ---- the start

pub first_bounds : Bounds
first_bounds = record { lists = 1; rounds = 1; requests = 0 }

founder_within : (rules : Rules) (name : ℕ) → MayFound rules → NodeIsWithinLimits first_bounds (founder rules name)
unfolding first_bounds
founder_within rules name may = record {
  image = blank_image_is_within_limits first_bounds;
  entries = All-cons (EntryIsWithinLimits first_bounds) (founders_entry rules) [] (omega arith, may.names, may.resilience_within) (All-nil (EntryIsWithinLimits first_bounds));
  sends = All-nil (SendIsWithinLimits first_bounds);
  bodies = All-nil KeptBodyIsWithinLimits;
  ballot = tt;
}

stranger_within : (rules : Rules) (name : ℕ) → NodeIsWithinLimits first_bounds (stranger_node rules name)
stranger_within rules name = record {
  image = blank_image_is_within_limits first_bounds;
  entries = All-nil (EntryIsWithinLimits first_bounds);
  sends = All-nil (SendIsWithinLimits first_bounds);
  bodies = All-nil KeptBodyIsWithinLimits;
  ballot = tt;
}

limited_start : (rules : Rules) → MayFound rules → WorldIsLimited rules first_bounds (start rules)
unfolding first_bounds
limited_start rules may = record {
  low = start_has_low_numbers rules;
  named = start_has_names rules may;
  within = record {
    each = λ name. founder_or_stranger_has (NodeIsWithinLimits first_bounds) rules name (founder_within rules name may) (stranger_within rules name);
    letters = All-nil (λ (l : Letter). PacketIsWithinLimits first_bounds l.packet);
  };
}

-- ---- what is claimed

-- the bounds of a short run are numbers
small_run : (rules : Rules) (events : List Event) → IsRunWithinScriptLimits rules events → BoundsAreNumbers (bounds_after_events (length events) first_bounds)
unfolding first_bounds
small_run rules events short = let few = short.few in record { lists = omega arith; rounds = omega arith; requests = omega arith }

pub letters_are_packets : LettersArePackets
letters_are_packets rules events short = limited_packets rules (bounds_after_events (length events) first_bounds) (run rules events) (small_run rules events short)
    (limited_happen rules first_bounds (start rules) events short.bodies (limited_start rules short.founds))

pub sent_letters_are_read : LettersAreRead
sent_letters_are_read rules events short number letter at = reading_of_spelling letter.packet (letters_are_packets rules events short number letter at)

pub runs_are_same_over_bytes : RunsAreOfBytes
runs_are_same_over_bytes rules events short = same_happen rules first_bounds (start rules) events (small_run rules events short) short.bodies
    (limited_start rules short.founds)
