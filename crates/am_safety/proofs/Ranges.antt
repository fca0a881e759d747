-- Runs in which nodes have numbers left: no number of theirs passes its end.
use Rattle.am_step_laws.proofs.Words.{number_equals_itself, ◌≡◌, ℕ, ◌+◌, ◌<◌, ◌≤◌, not, nat_lt, nat_le, Bool, true, false, if◌then◌else◌, List, [], ◌∷◌, length, take}
use Rattle.am_step_laws.proofs.Words.{Option, Some, None, refl, subst, arith, length-append, length-drop, length-take, All, All-nil, All-cons}
use Rattle.am_step_laws.proofs.Words.{All-head, All-tail}
use Rattle.am_step_laws.proofs.Words.{All-append, All-weaker, greatest_number, Entry, Outcome, NodeEvent, Rules, MayFound, Packet, Letter, Act, Event, is_for, letter_at}
use Rattle.am_step_laws.proofs.Words.{Node, top, founder, stranger_node, founders_entry, StepResult, step, hear_packet, hear_refused_bytes, packet_length, World, start, first_node}
use Rattle.am_step_laws.proofs.Words.{is_stopped}
use Rattle.am_step_laws.proofs.Words.{world_with_record, world_with_step, world_after_hearing, hear_cut, world_with_next_life, world_after_act, happens, world_after_events, run, list_with_accepted, list_after_step, packet_heard_by_act}
use Rattle.am_step_laws.proofs.Words.{Cause, MayWelcome, LetterSays, Effect, acting_name, IsCause, EventHappens, steps, all_gives_item_at, events_have_effects, heard_packet_has_property}
use Rattle.am_step_laws.proofs.Words.{IsCall, Bounds, bounds_one_higher, PacketIsWithinBounds, sender_of, BodyIsWithinLimit, row_of_name, image_of_node}
use Rattle.am_base.specs.declared.outcome.Outcome.TheVariants as said
use Rattle.am_base.specs.declared.event.NodeEvent.TheVariants as does
use Rattle.am_packet.specs.Spelling.{spelling}
use Rattle.am_group.specs.declared.event.Act.TheVariants as act
use Rattle.am_model.specs.Nodes.{HasNumbersLeft}
use Rattle.am_step_laws.specs.Events as event
use Rattle.am_step_laws.proofs.Numbers.Counts.{CountsAreWithin, NumbersAreLow, AcceptedIsWithinGroup}
use Rattle.am_step_laws.proofs.Numbers.HearingCounts.{IsNoHearing, step_keeps_numbers_low, refusal_keeps_numbers_low}
use Rattle.am_step_laws.proofs.Numbers.LetterCounts.{SenderNumbersAreLow, said_packet_numbers_are_low, welcomed_join_le_accepted}
use Rattle.am_step_laws.proofs.Numbers.RunCounts.{WorldNumbersAreLow, start_has_low_numbers, sender_keeps_first_image_low, set_node_keeps_property, founder_or_stranger_has}
use Rattle.am_step_laws.proofs.Bounds.NodeLimits.{SendIsWithinLimits, KeptBodyIsWithinLimits, NodeIsWithinLimits, PacketIsWithinLimits, CauseIsWithinLimits, changes_keep_node_within_limits}
use Rattle.am_step_laws.proofs.Bounds.Limits.{EntryIsWithinLimits, BoundsAreNumbers, blank_image_is_within_limits}
use Rattle.am_step_laws.proofs.Numbers.ListImages.{FirstImageUpToStart}
use Rattle.am_step_laws.proofs.Bounds.LetterLimits.{said_packet_is_within_limits}
use Rattle.am_step_laws.proofs.Named.{start_has_names}
use Rattle.am_step_laws.proofs.Bounds.RunLimits.{WorldIsWithinLimits, WorldIsLimited, event_keeps_world_within_limits}
use Rattle.am_safety.specs.Parts.{own_event, hearing_of, HasNumbersAt, HaveNumbers, StaysInRange}
use Rattle.am_safety.proofs.RangeRows.{NumbersHaveRoom, numbers_have_room_after_hearing}

-- ---- a node

abbrev Counted : Bounds → Node → Type 0
Counted b m = CountsAreWithin b (top m) m.core.promise.round m.sends.last

-- it has some left
record HasSome (b : Bounds) (m : Node) : Type 0 where
  pub entries : top m + 2 ≤ b.lists
  pub rounds : m.core.promise.round + 1 ≤ b.rounds
  pub sends : m.sends.last + 1 ≤ b.requests

-- of a name's node that has such numbers
tighten : (b c : Bounds) (g : ℕ) (m : Node) → NumbersAreLow c g m → Counted b m → NumbersAreLow b g m
tighten b c g m h k = record { counts = k; order = h.order; within = h.within; quits = h.quits; tells = h.tells }

-- the node's own numbers
abbrev own : Node → Bounds
own m = record { lists = top m; rounds = m.core.promise.round; requests = m.sends.last }

counted_own : (m : Node) → Counted (own m) m
counted_own m = record { entries = omega arith; rounds = omega arith; sends = omega arith }

-- one more of each
counted_more : (b : Bounds) (g : ℕ) (m n : Node) → HasSome b m → NumbersAreLow (bounds_one_higher (own m)) g n → Counted b n
counted_more b g m n some h =
    let e = h.entries in let r = h.rounds in let s = h.sends in
    record { entries = omega arith; rounds = omega arith; sends = omega arith }

counted_step : (b : Bounds) (g : ℕ) (m : Node) (what : NodeEvent) → IsNoHearing what → AcceptedIsWithinGroup g m → NumbersAreLow b g m → HasSome b m → Counted b (step m what).node
counted_step b g m what done k h some =
    counted_more b g m (step m what).node some (step_keeps_numbers_low (own m) g m what done k (tighten (own m) b g m h (counted_own m)))

counted_refused : (b : Bounds) (g : ℕ) (m : Node) (cause : ℕ) → NumbersAreLow b g m → HasSome b m → Counted b (hear_refused_bytes m cause).node
counted_refused b g m cause h some =
    counted_more b g m (hear_refused_bytes m cause).node some (refusal_keeps_numbers_low (own m) g m cause (tighten (own m) b g m h (counted_own m)))

counted_hear : (b : Bounds) (g : ℕ) (m : Node) (p : Packet) → PacketIsWithinBounds b g p → HasSome b m → Counted b (hear_packet m p).node
counted_hear b g m p u some =
    let last = some.sends in
    let k : NumbersHaveRoom b 2 m = record { entries = some.entries; rounds = omega arith; sends = omega arith } in
    let n = numbers_have_room_after_hearing b g m p some.rounds u k in
    record { entries = omega arith; rounds = n.rounds; sends = n.sends }

counted_cut : (b : Bounds) (g : ℕ) (m : Node) (keep : ℕ) (p : Packet) → PacketIsWithinBounds b g p → NumbersAreLow b g m → HasSome b m → Counted b (hear_cut m keep p).node
counted_cut b g m keep p u h some = one (nat_le (packet_length p) keep) (nat_lt keep 12)
  where
    one : (whole none : Bool) → Counted b (if whole then hear_packet m p else if none then hear_refused_bytes m 1 else hear_refused_bytes m 5).node
    one true none = counted_hear b g m p u some
    one false true = counted_refused b g m 1 h some
    one false false = counted_refused b g m 5 h some

-- ---- the acting name's node after an event

record Goes (b : Bounds) (name : ℕ) (v : World) : Type 0 where
  node : Counted b (v.nodes name)

goes_if : (b : Bounds) (name : ℕ) (t : Bool) (v w : World) → Goes b name v → Goes b name w → Goes b name (if t then v else w)
goes_if b name true v w f h = f
goes_if b name false v w f h = h

goes_unchanged : (b : Bounds) (name : ℕ) (w : World) (e : Event) (o : Outcome) → Counted b (w.nodes name) → Goes b name (world_with_record w e o)
unfolding world_with_record
goes_unchanged b name w e o h = record { node = h }

goes_stops : (b : Bounds) (name : ℕ) (w : World) (e : Event) (o : Outcome) (stopped : List ℕ) → Counted b (w.nodes name)
    → Goes b name (world_with_record (record w { stopped = stopped }) e o)
unfolding world_with_record
goes_stops b name w e o stopped h = record { node = h }

goes_lives : (b : Bounds) (name : ℕ) (w : World) (e : Event) (o : Outcome) (place : ℕ) → Counted b (w.nodes name)
    → Goes b name (world_with_next_life (world_with_record w e o) place)
unfolding world_with_record
goes_lives b name w e o place h = record { node = h }

goes_stepped : (b : Bounds) (name : ℕ) (w : World) (e : Event) (s : StepResult) → Counted b s.node → Goes b name (world_with_step w e name s)
unfolding world_with_step
goes_stepped b name w e s h = record { node = rw (number_equals_itself name) h }

ruleset goes = (goes_if, goes_unchanged, goes_stops, goes_lives)

-- a node that does something has some left
abbrev Leaves : Bounds → Node → Option NodeEvent → Type 0
Leaves b m does = (what : NodeEvent) → does ≡ Some what → HasSome b m

goes_does : (t : Bool) (b : Bounds) (g name : ℕ) (w : World) (e : Event) (what : NodeEvent) → IsNoHearing what → AcceptedIsWithinGroup g (w.nodes name) → NumbersAreLow b g (w.nodes name)
    → Leaves b (w.nodes name) (if t then None else Some what)
    → Goes b name (if t then world_with_record w e said.IsStopped else world_with_step w e name (step (w.nodes name) what))
goes_does true b g name w e what done k h left = goes_unchanged b name w e said.IsStopped h.counts
goes_does false b g name w e what done k h left =
    goes_stepped b name w e (step (w.nodes name) what) (counted_step b g (w.nodes name) what done k h (left what refl))

goes_gives : (s t : Bool) (b : Bounds) (g name : ℕ) (w : World) (e : Event) (what : NodeEvent) → IsNoHearing what → AcceptedIsWithinGroup g (w.nodes name) → NumbersAreLow b g (w.nodes name)
    → Leaves b (w.nodes name) (if s then None else if t then Some what else None)
    → Goes b name (if s then world_with_record w e said.IsStopped else if t then world_with_step w e name (step (w.nodes name) what) else world_with_record w e said.NotStopped)
goes_gives true t b g name w e what done k h left = goes_unchanged b name w e said.IsStopped h.counts
goes_gives false true b g name w e what done k h left =
    goes_stepped b name w e (step (w.nodes name) what) (counted_step b g (w.nodes name) what done k h (left what refl))
goes_gives false false b g name w e what done k h left = goes_unchanged b name w e said.NotStopped h.counts

goes_by : (s t : Bool) (b : Bounds) (name : ℕ) (w : World) (e : Event) (what : NodeEvent) (x : StepResult) → Counted b (w.nodes name)
    → Leaves b (w.nodes name) (if s then None else if t then None else Some what) → (HasSome b (w.nodes name) → Counted b x.node)
    → Goes b name (if s then world_with_record w e said.NotAddressed else if t then world_with_record w e said.IsStopped else world_with_step w e name x)
goes_by true t b name w e what x h left go = goes_unchanged b name w e said.NotAddressed h
goes_by false true b name w e what x h left go = goes_unchanged b name w e said.IsStopped h
goes_by false false b name w e what x h left go = goes_stepped b name w e x (go (left what refl))

goes_heard : (b : Bounds) (name : ℕ) (w : World) (e : Event) (hearing : Packet → StepResult) (some : List ℕ → List ℕ) (letter : Option Letter)
    → Counted b (w.nodes name) → Leaves b (w.nodes name) (hearing_of w name some letter)
    → ((l : Letter) → letter ≡ Some l → HasSome b (w.nodes name) → Counted b (hearing l.packet).node)
    → Goes b name (world_after_hearing w e name hearing letter)
goes_heard b name w e hearing some None h left go = goes_unchanged b name w e said.NoPacket h
goes_heard b name w e hearing some (Some l) h left go =
    goes_by (not (is_for l name)) (is_stopped w name) b name w e (does.Hear (some (spelling l.packet))) (hearing l.packet) h left (go l refl)

goes_acts : (b : Bounds) (g name : ℕ) (w : World) (e : Event) (a : Act)
    → ((letter : Letter) → letter_at w.letters (packet_heard_by_act a) ≡ Some letter → PacketIsWithinBounds b g letter.packet) → AcceptedIsWithinGroup g (w.nodes name) → NumbersAreLow b g (w.nodes name)
    → Leaves b (w.nodes name) (own_event w name a) → Goes b name (world_after_act w e name a)
goes_acts b g name w e act.Stop u k h left = let c = h.counts in search goes
goes_acts b g name w e act.Return u k h left = let c = h.counts in search goes
goes_acts b g name w e (act.GiveUp other) u k h left =
    goes_gives (is_stopped w name) (is_stopped w other) b g name w e (does.GiveUp other) tt k h left
goes_acts b g name w e (act.Hear number) u k h left =
    goes_heard b name w e (hear_packet (w.nodes name)) (λ bytes. bytes) (letter_at w.letters number) h.counts left
    (λ l is some. counted_hear b g (w.nodes name) l.packet (u l is) some)
goes_acts b g name w e (act.Cut number keep) u k h left =
    goes_heard b name w e (hear_cut (w.nodes name) keep) (take keep) (letter_at w.letters number) h.counts left
    (λ l is some. counted_cut b g (w.nodes name) keep l.packet (u l is) h some)
goes_acts b g name w e _ u k h left = goes_does (is_stopped w name) b g name w e _ tt k h left

actor_counted : (b : Bounds) (g : ℕ) (w : World) (e : Event)
    → ((letter : Letter) → letter_at w.letters (packet_heard_by_act e.act) ≡ Some letter → PacketIsWithinBounds b g letter.packet)
    → AcceptedIsWithinGroup g (w.nodes (acting_name w e)) → NumbersAreLow b g (w.nodes (acting_name w e)) → Leaves b (w.nodes (acting_name w e)) (own_event w (acting_name w e) e.act)
    → Counted b ((happens w e).nodes (acting_name w e))
unfolding happens
actor_counted b g w e u k h left = (goes_acts b g (acting_name w e) w e e.act u k h left).node

-- ---- a world after an event

-- each node that another name has is as it was
all_counted : (b : Bounds) (w : World) (e : Event) (v : World) → EventHappens w e v → ((name : ℕ) → Counted b (w.nodes name)) → Counted b (v.nodes (acting_name w e))
    → (name : ℕ) → Counted b (v.nodes name)
unfolding world_with_record world_with_step
all_counted b w e v (steps c s runs cause effect) h now =
    set_node_keeps_property (Counted b) w.nodes (acting_name w e) s.node h (rw (number_equals_itself (acting_name w e)) at now)
all_counted b w e v _ h now = h

-- the group list has more, and no more than what a node has accepted
record Grown (most : ℕ) (group longer : List Entry) : Type 0 where
  more : length group ≤ length longer
  few : length longer ≤ most

grown : (most : ℕ) (group : List Entry) (m : Node) → length group ≤ most → m.core.acc ≤ most → Grown most group (list_after_step group m)
grown most group m low acc = by _
  where
    by : (leads : Bool) → Grown most group (if leads then list_with_accepted group m.core else group)
    by true = record {
      more = simp length-append (omega arith);
      few = simp (length-append, length-take, length-drop) (omega arith);
    }
    by false = record { more = omega arith; few = low }

all_grown : (b : Bounds) (w : World) (e : Event) (v : World) → EventHappens w e v → length w.group ≤ b.lists
    → ((name : ℕ) → (v.nodes name).core.acc ≤ b.lists) → Grown b.lists w.group v.group
unfolding world_with_record world_with_step
all_grown b w e v (steps c s runs cause effect) low acc =
    grown b.lists w.group s.node low (rw (number_equals_itself (acting_name w e)) at (acc (acting_name w e)))
all_grown b w e v _ low acc = record { more = omega arith; few = low }

-- a letter's numbers are as before, and the group may have accepted more
told_wider : (b : Bounds) (g k : ℕ) (p : Packet) → g ≤ k → PacketIsWithinBounds b g p → PacketIsWithinBounds b k p
told_wider b g k p low h = record {
  round = h.round;
  numbers = h.numbers;
  accepted = All-weaker (λ n. n ≤ g) (λ n. n ≤ k) (λ n le. omega arith) _ h.accepted;
}

-- a step's letters tell of the node after it, but for its status
told_low : (b : Bounds) (w : World) (e : Event) (c : Cause) (s : StepResult) (k : ℕ) → Effect (w.nodes (acting_name w e)) c s → k ≤ b.lists
    → (w.nodes (acting_name w e)).core.acc ≤ k → NumbersAreLow b k s.node → AcceptedIsWithinGroup k s.node → FirstImageUpToStart s.node → All (λ (l : Letter). PacketIsWithinBounds b k l.packet) s.letters
told_low b w e c s k effect few acc low behind list =
    let m = w.nodes (acting_name w e) in
    let n = s.node in
    let sender = effect.sender in
    let now : NumbersAreLow b k (record sender { status = n.status }) = subst (NumbersAreLow b k) effect.is low in
    let same : AcceptedIsWithinGroup k (record sender { status = n.status }) = subst (AcceptedIsWithinGroup k) effect.is behind in
    let know : AcceptedIsWithinGroup k sender = record { told = same.told; acc = same.acc } in
    let up_ = sender_keeps_first_image_low n sender effect.is list in
    let next : (j : ℕ) → MayWelcome m sender j → (row_of_name (image_of_node sender) j).joined ≤ k = λ j may. welcomed_join_le_accepted k m sender j acc know.acc up_ may in
    let sends : SenderNumbersAreLow b k c m sender = record { low = now; behind = know; group = few; next = next; image = up_ } in
    All-weaker (LetterSays m c sender) (λ (l : Letter). PacketIsWithinBounds b k l.packet) (λ l x. said_packet_numbers_are_low b k m sender c l.to l.packet sends x.says) s.letters effect.letters

low_letters : (b : Bounds) (w : World) (e : Event) (v : World) → EventHappens w e v → WorldNumbersAreLow b w → Grown b.lists w.group v.group
    → ((name : ℕ) → NumbersAreLow b (length v.group) (v.nodes name)) → ((name : ℕ) → AcceptedIsWithinGroup (length v.group) (v.nodes name)) → ((name : ℕ) → FirstImageUpToStart (v.nodes name))
    → All (λ (l : Letter). PacketIsWithinBounds b (length v.group) l.packet) v.letters
unfolding world_with_record world_with_step
low_letters b w e v (steps c s runs cause effect) h long low behind list =
    let name = acting_name w e in
    let g = length w.group in
    let k = length (list_after_step w.group s.node) in
    let more = long.more in
    let acc = (h.behind name).acc in
    All-append (λ (l : Letter). PacketIsWithinBounds b k l.packet) w.letters s.letters
    (All-weaker (λ (l : Letter). PacketIsWithinBounds b g l.packet) (λ (l : Letter). PacketIsWithinBounds b k l.packet) (λ l x. told_wider b g k l.packet more x) w.letters h.letters)
    (told_low b w e c s k effect long.few (omega arith) (rw (number_equals_itself name) at (low name)) (rw (number_equals_itself name) at (behind name))
    (rw (number_equals_itself name) at (list name)))
low_letters b w e v _ h long low behind list = h.letters

-- ---- what it has

called_within : (w : World) (a : Act) (body : List ℕ) → BodyIsWithinLimit a → IsCall w a (does.Send body) → length body ≤ 1024
called_within w a body h (event.send x) = h

within_after : (rules : Rules) (b : Bounds) (w : World) (e : Event) (v : World) → EventHappens w e v → BodyIsWithinLimit e.act → WorldIsLimited rules b w
    → ((name : ℕ) → Counted b (v.nodes name)) → ((name : ℕ) → FirstImageUpToStart (v.nodes name)) → WorldIsWithinLimits b v
unfolding world_with_record world_with_step
within_after rules b w e v (steps c s runs cause effect) body h counted lists =
    let name = acting_name w e in
    let m = w.nodes name in
    let n = s.node in
    let from : CauseIsWithinLimits b c = record {
      heard = λ p is. heard_packet_has_property (PacketIsWithinLimits b) w e c p cause is h.within.letters;
      senders = λ p is. heard_packet_has_property (λ (x : Packet). sender_of x < 256) w e c p cause is h.named.senders;
      called = λ bytes is. called_within w e.act bytes body (subst (IsCause w name e.act) is cause);
    } in
    let now : Counted b n = rw (number_equals_itself name) at (counted name) in
    let list : FirstImageUpToStart n = rw (number_equals_itself name) at (lists name) in
    let node : NodeIsWithinLimits b n = changes_keep_node_within_limits b m n from now.rounds now.sends effect.changes (h.within.each name) in
    let sender = effect.sender in
    let same : NodeIsWithinLimits b (record sender { status = n.status }) = subst (NodeIsWithinLimits b) effect.is node in
    let told : NodeIsWithinLimits b sender = record { image = same.image; entries = same.entries; sends = same.sends; bodies = same.bodies; ballot = same.ballot } in
    let high : Counted b (record sender { status = n.status }) = subst (Counted b) effect.is now in
    record {
      each = set_node_keeps_property (NodeIsWithinLimits b) w.nodes name n h.within.each node;
      letters = All-append (λ (l : Letter). PacketIsWithinLimits b l.packet) w.letters s.letters h.within.letters
          (All-weaker (LetterSays m c sender) (λ (l : Letter). PacketIsWithinLimits b l.packet)
          (λ l x. said_packet_is_within_limits b m sender c l.to l.packet told (sender_keeps_first_image_low n sender effect.is list) high.entries from.heard x.says) s.letters effect.letters);
    }
within_after rules b w e v _ body h counted lists = record { each = h.within.each; letters = h.within.letters }

-- the world after an event that a node with some left does
ranged_happens : (rules : Rules) (b : Bounds) (w : World) (e : Event) → BodyIsWithinLimit e.act → Leaves b (w.nodes (acting_name w e)) (own_event w (acting_name w e) e.act)
    → WorldIsLimited rules b w → WorldIsLimited rules b (happens w e)
ranged_happens rules b w e body left h =
    let v = happens w e in
    let by = events_have_effects w e in
    let loose = event_keeps_world_within_limits rules b w e body h in
    let heard : (letter : Letter) → letter_at w.letters (packet_heard_by_act e.act) ≡ Some letter → PacketIsWithinBounds b (length w.group) letter.packet =
    λ letter at. all_gives_item_at (λ (l : Letter). PacketIsWithinBounds b (length w.group) l.packet) w.letters (packet_heard_by_act e.act) letter h.low.letters at in
    let counted = all_counted b w e v by (λ name. (h.low.each name).counts)
    (actor_counted b (length w.group) w e heard (h.low.behind (acting_name w e)) (h.low.each (acting_name w e)) left) in
    let low : (name : ℕ) → NumbersAreLow b (length v.group) (v.nodes name) =
    λ name. tighten b (bounds_one_higher b) (length v.group) (v.nodes name) (loose.low.each name) (counted name) in
    let long = all_grown b w e v by h.low.group (λ name. (let a = (low name).accepted in let t = (low name).entries in omega arith)) in
    record {
      low = record {
        each = low;
        behind = loose.low.behind;
        images = loose.low.images;
        letters = low_letters b w e v by h.low long low loose.low.behind loose.low.images;
        welcomes = loose.low.welcomes;
        group = long.few;
      };
      named = loose.named;
      within = within_after rules b w e v by body h counted loose.low.images;
    }

-- ---- numbers of a packet

unfoldable pub bounds_of_all_numbers : Bounds
bounds_of_all_numbers = record { lists = greatest_number; rounds = greatest_number; requests = greatest_number }

pub all_bounds_are_numbers : BoundsAreNumbers bounds_of_all_numbers
unfolding bounds_of_all_numbers
all_bounds_are_numbers = record { lists = omega arith; rounds = omega arith; requests = omega arith }

some_left : (m : Node) → HasNumbersLeft m → HasSome bounds_of_all_numbers m
unfolding bounds_of_all_numbers
some_left m h = let e = h.entries in let r = h.rounds in let q = h.requests in record { entries = omega arith; rounds = omega arith; sends = omega arith }

-- ---- runs

pub founder_is_within_numbers : (rules : Rules) (name : ℕ) → MayFound rules → NodeIsWithinLimits bounds_of_all_numbers (founder rules name)
unfolding bounds_of_all_numbers
founder_is_within_numbers rules name may = record {
  image = blank_image_is_within_limits bounds_of_all_numbers;
  entries = All-cons (EntryIsWithinLimits bounds_of_all_numbers) (founders_entry rules) [] (omega arith, may.names, may.resilience_within) (All-nil (EntryIsWithinLimits bounds_of_all_numbers));
  sends = All-nil (SendIsWithinLimits bounds_of_all_numbers);
  bodies = All-nil KeptBodyIsWithinLimits;
  ballot = tt;
}

stranger_ranged : (rules : Rules) (name : ℕ) → NodeIsWithinLimits bounds_of_all_numbers (stranger_node rules name)
stranger_ranged rules name = record {
  image = blank_image_is_within_limits bounds_of_all_numbers;
  entries = All-nil (EntryIsWithinLimits bounds_of_all_numbers);
  sends = All-nil (SendIsWithinLimits bounds_of_all_numbers);
  bodies = All-nil KeptBodyIsWithinLimits;
  ballot = tt;
}

pub start_is_within_numbers : (rules : Rules) → MayFound rules → WorldIsLimited rules bounds_of_all_numbers (start rules)
unfolding bounds_of_all_numbers
start_is_within_numbers rules may =
    let first = start_has_low_numbers rules in
    let b : Bounds = record { lists = 1; rounds = 1; requests = 0 } in
    record {
      low = record {
        each = λ name. (
            let h = first.each name in
            let e = h.entries in
            let r = h.rounds in
            let q = h.sends in
            tighten bounds_of_all_numbers b 1 (first_node rules name) h (record { entries = omega arith; rounds = omega arith; sends = omega arith }));
        behind = first.behind;
        images = first.images;
        letters = All-nil _;
        welcomes = All-nil _;
        group = omega arith;
      };
      named = start_has_names rules may;
      within = record {
        each = λ name. founder_or_stranger_has (NodeIsWithinLimits bounds_of_all_numbers) rules name (founder_is_within_numbers rules name may) (stranger_ranged rules name);
        letters = All-nil _;
      };
    }

pub event_stays_within_numbers : (rules : Rules) (w : World) (e : Event) → BodyIsWithinLimit e.act → HasNumbersAt w e → WorldIsLimited rules bounds_of_all_numbers w
    → WorldIsLimited rules bounds_of_all_numbers (happens w e)
event_stays_within_numbers rules w e body numbers h = ranged_happens rules bounds_of_all_numbers w e body (λ what is. some_left _ (numbers what is)) h

ranged_happen : (rules : Rules) (w : World) (events : List Event) → All (λ (e : Event). BodyIsWithinLimit e.act) events → HaveNumbers w events
    → WorldIsLimited rules bounds_of_all_numbers w → WorldIsLimited rules bounds_of_all_numbers (world_after_events w events)
unfolding world_after_events HaveNumbers
ranged_happen rules w [] bodies numbers h = h
ranged_happen rules w (e ∷ es) bodies numbers h =
    ranged_happen rules (happens w e) es (All-tail (λ (x : Event). BodyIsWithinLimit x.act) e es bodies) numbers.1
    (event_stays_within_numbers rules w e (All-head (λ (x : Event). BodyIsWithinLimit x.act) e es bodies) numbers.0 h)

pub run_stays_within_numbers : (rules : Rules) (events : List Event) → StaysInRange rules events → WorldIsLimited rules bounds_of_all_numbers (run rules events)
run_stays_within_numbers rules events range = ranged_happen rules (start rules) events range.bodies range.numbers (start_is_within_numbers rules range.founds)
