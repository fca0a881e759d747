-- Where nodes have numbers left each letter is a packet within its limits, so the run of packets is that of bytes; and short runs are such runs.
use Rattle.am_lawful_runs.proofs.Words.{append_assoc, runs_go_on, number_bounds_hold_in_runs}
use Rattle.am_step_laws.proofs.Words.{◌≡◌, ℕ, ◌+◌, ◌≤◌, not, if◌then◌else◌, List, [], ◌∷◌, ◌++◌, length, Option, Some, None, refl, sym, ap, ◌∙◌, subst, arith}
use Rattle.am_step_laws.proofs.Words.{length-append, All, All-head, All-tail, Rules, Packet, Letter, IsPacket, reading_of_spelling, Act, Event, is_for, letter_at, StepResult}
use Rattle.am_step_laws.proofs.Words.{World, start, is_stopped, world_with_record, world_with_step, world_after_hearing, world_after_act, happens, world_after_events, run, spelled_packet_is_heard}
use Rattle.am_step_laws.proofs.Words.{cut_packet_whole_or_refused, all_gives_item_at, acting_name, PacketIsWithinBounds, BodyIsWithinLimit, acts_by_bytes, happen_by_bytes}
use Rattle.am_base.specs.Most.{most_events_of_run}
use Rattle.am_base.specs.declared.outcome.Outcome.TheVariants as said
use Rattle.am_group.specs.declared.event.Act.TheVariants as act
use Rattle.am_step_laws.proofs.Numbers.ListImages.{WelcomeImageUpToBase}
use Rattle.am_step_laws.proofs.Bounds.NodeLimits.{PacketIsWithinLimits}
use Rattle.am_step_laws.proofs.Bounds.LetterLimits.{limited_packet_is_packet}
use Rattle.am_step_laws.proofs.Bounds.RunLimits.{WorldIsLimited}
use Rattle.am_safety.specs.Parts.{HasNumbersAt, HaveNumbers, ShortRunsStayInRange, LettersStayPackets, LettersStayRead, RunsStayOfBytes}
use Rattle.am_safety.proofs.Ranges.{bounds_of_all_numbers, all_bounds_are_numbers, event_stays_within_numbers, start_is_within_numbers, run_stays_within_numbers}

-- ---- letters

-- all letters hold packets
abbrev pub LettersHoldPackets : World → Type 0
LettersHoldPackets w = (number : ℕ) (letter : Letter) → letter_at w.letters number ≡ Some letter → IsPacket letter.packet

pub limited_world_holds_packets : (rules : Rules) (w : World) → WorldIsLimited rules bounds_of_all_numbers w → LettersHoldPackets w
limited_world_holds_packets rules w h number letter at = limited_packet_is_packet bounds_of_all_numbers (length w.group) letter.packet all_bounds_are_numbers (record {
  up_to = all_gives_item_at (λ (l : Letter). PacketIsWithinBounds bounds_of_all_numbers (length w.group) l.packet) w.letters number letter h.low.letters at;
  within = all_gives_item_at (λ (l : Letter). PacketIsWithinLimits bounds_of_all_numbers l.packet) w.letters number letter h.within.letters at;
  welcome = all_gives_item_at (λ (l : Letter). WelcomeImageUpToBase l.packet) w.letters number letter h.low.welcomes at;
})

pub letters_stay_packets : LettersStayPackets
letters_stay_packets rules events range = limited_world_holds_packets rules (run rules events) (run_stays_within_numbers rules events range)

pub letters_stay_read : LettersStayRead
letters_stay_read rules events range number letter at = reading_of_spelling letter.packet (letters_stay_packets rules events range number letter at)

-- ---- bytes

-- a letter that is heard in one way and in another
heard_either : (w : World) (e : Event) (name : ℕ) (f g : Packet → StepResult) (letter : Option Letter)
    → ((l : Letter) → letter ≡ Some l → f l.packet ≡ g l.packet) → world_after_hearing w e name f letter ≡ world_after_hearing w e name g letter
heard_either w e name f g None h = refl
heard_either w e name f g (Some letter) h = ap (λ s. if not (is_for letter name) then world_with_record w e said.NotAddressed
    else if is_stopped w name then world_with_record w e said.IsStopped else world_with_step w e name s) (h letter refl)

bytes_act : (w : World) (e : Event) (name : ℕ) (a : Act) → LettersHoldPackets w → acts_by_bytes w e name a ≡ world_after_act w e name a
bytes_act w e name (act.Hear number) h =
    heard_either w e name _ _ (letter_at w.letters number) (λ l is. spelled_packet_is_heard (w.nodes name) l.packet (h number l is))
bytes_act w e name (act.Cut number keep) h =
    heard_either w e name _ _ (letter_at w.letters number) (λ l is. cut_packet_whole_or_refused (w.nodes name) l.packet keep (h number l is))
bytes_act w e name _ h = refl

bytes_happen : (rules : Rules) (w : World) (events : List Event) → All (λ (e : Event). BodyIsWithinLimit e.act) events → HaveNumbers w events
    → WorldIsLimited rules bounds_of_all_numbers w → happen_by_bytes w events ≡ world_after_events w events
unfolding world_after_events happens happen_by_bytes HaveNumbers
bytes_happen rules w [] bodies numbers h = refl
bytes_happen rules w (e ∷ es) bodies numbers h =
    ap (λ v. happen_by_bytes v es) (bytes_act w e (acting_name w e) e.act (limited_world_holds_packets rules w h))
    ∙ bytes_happen rules (happens w e) es (All-tail (λ (x : Event). BodyIsWithinLimit x.act) e es bodies) numbers.1
    (event_stays_within_numbers rules w e (All-head (λ (x : Event). BodyIsWithinLimit x.act) e es bodies) numbers.0 h)

pub runs_stay_of_bytes : RunsStayOfBytes
runs_stay_of_bytes rules events range = bytes_happen rules (start rules) events range.bodies range.numbers (start_is_within_numbers rules range.founds)

-- ---- short runs

-- each node has many left after less than 100,000 events
few_numbers : (rules : Rules) (before : List Event) (e : Event) → length before + 1 ≤ most_events_of_run → HasNumbersAt (run rules before) e
few_numbers rules before e few what is =
    let n = (number_bounds_hold_in_runs rules before).each (acting_name (run rules before) e) in
    let entries = n.entries in
    let round = n.round in
    let requests = n.requests in
    record { entries = omega arith; rounds = omega arith; requests = omega arith }

short_numbers : (rules : Rules) (before es : List Event) → length (before ++ es) ≤ most_events_of_run → HaveNumbers (run rules before) es
unfolding world_after_events HaveNumbers
short_numbers rules before [] few = tt
short_numbers rules before (e ∷ es) few =
    let long = length-append before (e ∷ es) in
    let next : run rules (before ++ e ∷ []) ≡ happens (run rules before) e = runs_go_on (start rules) before (e ∷ []) in
    let rest = short_numbers rules (before ++ e ∷ []) es (subst (λ (xs : List Event). length xs ≤ most_events_of_run) (sym (append_assoc before (e ∷ []) es)) few) in
    (few_numbers rules before e (omega arith), subst (λ (v : World). HaveNumbers v es) next rest)

pub short_runs_stay_in_range : ShortRunsStayInRange
unfolding world_after_events
short_runs_stay_in_range rules events short = record { founds = short.founds; bodies = short.bodies; numbers = short_numbers rules [] events short.few }
