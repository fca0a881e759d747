-- Each event of a run is a part of one node, or of none.
use Rattle.am_lawful_runs.proofs.Words.{◌≡◌, ℕ, List, [], ◌∷◌, ◌++◌, take, Option, Some, None, Bool, true, false, not, ◌||◌, ◌==◌, ◌+◌, if◌then◌else◌}
use Rattle.am_lawful_runs.proofs.Words.{refl, sym, ap, ◌∙◌, subst, append_assoc, append-nil, All, eqb-true, Rules, place_of_name, Outcome, Letter}
use Rattle.am_lawful_runs.proofs.Words.{Packet, Act, Event, Record, letter_at, is_for, Node, has_departed, StepResult, hear_packet, World, start, first_node, current}
use Rattle.am_lawful_runs.proofs.Words.{is_stopped, record_of, world_with_record, world_with_step, world_after_hearing, hear_cut, world_with_next_life, world_after_act, happens, world_after_events, run}
use Rattle.am_step_laws.proofs.Words.{All-head, All-tail}
use Rattle.am_base.specs.declared.outcome.Outcome.TheVariants as said
use Rattle.am_base.specs.declared.event.NodeEvent.{NodeEvent}
use Rattle.am_base.specs.declared.event.NodeEvent.TheVariants as does
use Rattle.am_packet.specs.Spelling.{spelling}
use Rattle.am_model.specs.Step.{step}
use Rattle.am_model_laws.proofs.Bytes.{spelled_packet_is_heard, cut_packet_whole_or_refused}
use Rattle.am_group_defs.specs.World.{world_after_node_event}
use Rattle.am_step_laws.specs.Bytes.{BodyIsWithinLimit}
use Rattle.am_step_laws.proofs.Bounds.RunLimits.{WorldIsLimited}
use Rattle.am_safety.specs.Parts.{NodeStep, unless_stopped, hearing_of, own_event, step_of_record, part_at, steps_of_records, node_after_steps, EachIsAnswered, IsMade, HaveNumbers}
use Rattle.am_safety.specs.Parts.{RunsAreMadeOfNodes}
use Rattle.am_safety.proofs.Ranges.{bounds_of_all_numbers, event_stays_within_numbers, start_is_within_numbers}
use Rattle.am_safety.proofs.RangeBytes.{LettersHoldPackets, limited_world_holds_packets}

-- ---- parts one after another

node_more : (m : Node) (xs ys : List NodeStep) → node_after_steps m (xs ++ ys) ≡ node_after_steps (node_after_steps m xs) ys
unfolding node_after_steps
node_more m [] ys = refl
node_more m (x ∷ xs) ys = node_more (step m x.event).node xs ys

answers_more : (m : Node) (xs ys : List NodeStep) → EachIsAnswered m xs → EachIsAnswered (node_after_steps m xs) ys → EachIsAnswered m (xs ++ ys)
unfolding node_after_steps EachIsAnswered
answers_more m [] ys h k = k
answers_more m (x ∷ xs) ys h k = (h.0, h.1, answers_more (step m x.event).node xs ys h.2 k)

made_more : (m k n : Node) (xs ys : List NodeStep) → IsMade m xs k → IsMade k ys n → IsMade m (xs ++ ys) n
made_more m k n xs ys h i = record {
  node = i.node ∙ ap (λ (x : Node). node_after_steps x ys) h.node ∙ sym (node_more m xs ys);
  answers = answers_more m xs ys h.answers (subst (λ (x : Node). EachIsAnswered x ys) h.node i.answers);
}

made_none : (m : Node) → IsMade m [] m
unfolding node_after_steps EachIsAnswered
made_none m = record { node = refl; answers = tt }

-- ---- an event

-- a record came, and the name's node came to another by what it did
abbrev Made : World → ℕ → ℕ → Option NodeEvent → World → Type 0
Made w n name own v = (happened : Record) × (v.records ≡ w.records ++ happened ∷ []) × IsMade (w.nodes name) (if name == n then step_of_record happened own else []) (v.nodes name)

none_by : (b : Bool) (m : Node) (happened : Record) → IsMade m (if b then step_of_record happened None else []) m
none_by true m happened = made_none m
none_by false m happened = made_none m

-- no node did anything
quiet_made : (w u : World) (e : Event) (n name : ℕ) (o : Outcome) → u.records ≡ w.records → u.nodes ≡ w.nodes → Made w n name None (world_with_record u e o)
unfolding world_with_record
quiet_made w u e n name o same nodes = (
  record_of u e o [],
  ap (λ (rs : List Record). rs ++ record_of u e o [] ∷ []) same,
  subst (λ (m : Node). IsMade (w.nodes name) (if name == n then step_of_record (record_of u e o []) None else []) m) (ap (λ (f : ℕ → Node). f name) (sym nodes))
      (none_by (name == n) (w.nodes name) (record_of u e o [])),
)

one_part : (m : Node) (x : NodeEvent) (happened : Record) (s : StepResult) → s ≡ step m x → happened.outcome ≡ s.outcome → happened.packets ≡ s.letters
    → IsMade m (step_of_record happened (Some x)) s.node
unfolding node_after_steps EachIsAnswered
one_part m x happened s is answer sent =
    record { node = ap (λ (t : StepResult). t.node) is; answers = (answer ∙ ap (λ (t : StepResult). t.outcome) is, sent ∙ ap (λ (t : StepResult). t.letters) is, tt) }

step_by : (b : Bool) (w : World) (n name : ℕ) (x : NodeEvent) (happened : Record) (s : StepResult) → (b ≡ true → name ≡ n) → s ≡ step (w.nodes n) x → happened.outcome ≡ s.outcome
    → happened.packets ≡ s.letters → IsMade (w.nodes name) (if b then step_of_record happened (Some x) else []) (if b then s.node else w.nodes name)
step_by true w n name x happened s same is answer sent =
    let eq = same refl in
    one_part (w.nodes name) x happened s (is ∙ ap (λ (k : ℕ). step (w.nodes k) x) (sym eq)) answer sent
step_by false w n name x happened s same is answer sent = made_none (w.nodes name)

-- the name's node did a step
step_made : (w : World) (e : Event) (n name : ℕ) (x : NodeEvent) (s : StepResult) → s ≡ step (w.nodes n) x → Made w n name (Some x) (world_with_step w e n s)
unfolding world_with_step
step_made w e n name x s is =
    (record_of w e s.outcome s.letters, refl, step_by (name == n) w n name x (record_of w e s.outcome s.letters) s (λ h. eqb-true name n h) is refl refl)

does_by : (b : Bool) (w : World) (e : Event) (n name : ℕ) (x : NodeEvent)
    → Made w n name (if b then None else Some x) (if b then world_with_record w e said.IsStopped else world_with_step w e n (step (w.nodes n) x))
does_by true w e n name x = quiet_made w w e n name said.IsStopped refl refl
does_by false w e n name x = step_made w e n name x (step (w.nodes n) x) refl

does_made : (w : World) (e : Event) (n name : ℕ) (x : NodeEvent) → Made w n name (unless_stopped w n x) (world_after_node_event w e n x)
does_made w e n name x = does_by (is_stopped w n) w e n name x

gives_by : (a b : Bool) (w : World) (e : Event) (n name other : ℕ)
    → Made w n name (if a then None else if b then Some (does.GiveUp other) else None)
    (if a then world_with_record w e said.IsStopped else if b then world_with_step w e n (step (w.nodes n) (does.GiveUp other)) else world_with_record w e said.NotStopped)
gives_by true b w e n name other = quiet_made w w e n name said.IsStopped refl refl
gives_by false true w e n name other = step_made w e n name (does.GiveUp other) (step (w.nodes n) (does.GiveUp other)) refl
gives_by false false w e n name other = quiet_made w w e n name said.NotStopped refl refl

stops_by : (b : Bool) (w : World) (e : Event) (n name : ℕ) (stopped : List ℕ)
    → Made w n name None (if b then world_with_record w e said.IsStopped else world_with_record (record w { stopped = stopped }) e said.Stopped)
stops_by true w e n name stopped = quiet_made w w e n name said.IsStopped refl refl
stops_by false w e n name stopped = quiet_made w (record w { stopped = stopped }) e n name said.Stopped refl refl

hears_by : (a b : Bool) (w : World) (e : Event) (n name : ℕ) (hearing : Packet → StepResult) (some : List ℕ → List ℕ) (letter : Letter)
    → hearing letter.packet ≡ step (w.nodes n) (does.Hear (some (spelling letter.packet)))
    → Made w n name (if a then None else if b then None else Some (does.Hear (some (spelling letter.packet))))
    (if a then world_with_record w e said.NotAddressed else if b then world_with_record w e said.IsStopped else world_with_step w e n (hearing letter.packet))
hears_by true b w e n name hearing some letter is = quiet_made w w e n name said.NotAddressed refl refl
hears_by false true w e n name hearing some letter is = quiet_made w w e n name said.IsStopped refl refl
hears_by false false w e n name hearing some letter is = step_made w e n name (does.Hear (some (spelling letter.packet))) (hearing letter.packet) is

hears_made : (w : World) (e : Event) (n name : ℕ) (hearing : Packet → StepResult) (some : List ℕ → List ℕ) (letter : Option Letter)
    → ((l : Letter) → letter ≡ Some l → hearing l.packet ≡ step (w.nodes n) (does.Hear (some (spelling l.packet))))
    → Made w n name (hearing_of w n some letter) (world_after_hearing w e n hearing letter)
hears_made w e n name hearing some None is = quiet_made w w e n name said.NoPacket refl refl
hears_made w e n name hearing some (Some letter) is = hears_by (not (is_for letter n)) (is_stopped w n) w e n name hearing some letter (is letter refl)

lives_made : (w : World) (e : Event) (n name : ℕ) (o : Outcome) (place : ℕ) → Made w n name None (world_with_next_life (world_with_record w e o) place)
unfolding world_with_record
lives_made w e n name o place = (record_of w e o [], refl, none_by (name == n) (w.nodes name) (record_of w e o []))

returns_by : (a b : Bool) (w : World) (e : Event) (n name place : ℕ)
    → Made w n name None (if a then world_with_record w e (said.Running (w.lives place)) else if b then world_with_record w e said.NoLife
    else world_with_next_life (world_with_record w e (said.Returned (w.lives place + 1))) place)
returns_by true b w e n name place = quiet_made w w e n name (said.Running (w.lives place)) refl refl
returns_by false true w e n name place = quiet_made w w e n name said.NoLife refl refl
returns_by false false w e n name place = lives_made w e n name (said.Returned (w.lives place + 1)) place

acts_made : (w : World) (e : Event) (n name : ℕ) (a : Act) → LettersHoldPackets w → Made w n name (own_event w n a) (world_after_act w e n a)
acts_made w e n name (Act.GiveUp other) holds = gives_by (is_stopped w n) (is_stopped w other) w e n name other
acts_made w e n name Act.Stop holds = stops_by (is_stopped w n) w e n name (w.stopped ++ n ∷ [])
acts_made w e n name (Act.Hear number) holds =
    hears_made w e n name (hear_packet (w.nodes n)) (λ bytes. bytes) (letter_at w.letters number) (λ l is. sym (spelled_packet_is_heard (w.nodes n) l.packet (holds number l is)))
acts_made w e n name (Act.Cut number keep) holds =
    hears_made w e n name (hear_cut (w.nodes n) keep) (take keep) (letter_at w.letters number) (λ l is. sym (cut_packet_whole_or_refused (w.nodes n) l.packet keep (holds number l is)))
acts_made w e n name Act.Return holds =
    returns_by (not (is_stopped w (current w (place_of_name n)) || has_departed (w.nodes (current w (place_of_name n))).status)) (w.lives (place_of_name n) == 16) w e n name (place_of_name n)
acts_made w e n name _ holds = does_made w e n name _

event_made : (w : World) (e : Event) (name : ℕ) → LettersHoldPackets w → Made w (current w (place_of_name e.node)) name (own_event w (current w (place_of_name e.node)) e.act) (happens w e)
unfolding happens
event_made w e name holds = acts_made w e (current w (place_of_name e.node)) name e.act holds

-- ---- a run

-- the records of the events to come, and by these the name's node comes to where it is at the end
along : (rules : Rules) (w : World) (es : List Event) (name : ℕ) → All (λ (e : Event). BodyIsWithinLimit e.act) es → HaveNumbers w es → WorldIsLimited rules bounds_of_all_numbers w
    → (records : List Record) × ((world_after_events w es).records ≡ w.records ++ records)
    × IsMade (w.nodes name) (steps_of_records name w es records) ((world_after_events w es).nodes name)
unfolding world_after_events steps_of_records HaveNumbers
along rules w [] name bodies numbers h = ([], sym (append-nil w.records), made_none (w.nodes name))
along rules w (e ∷ es) name bodies numbers h =
    let one = event_made w e name (limited_world_holds_packets rules w h) in
    let next = event_stays_within_numbers rules w e (All-head (λ (x : Event). BodyIsWithinLimit x.act) e es bodies) numbers.0 h in
    let rest = along rules (happens w e) es name (All-tail (λ (x : Event). BodyIsWithinLimit x.act) e es bodies) numbers.1 next in (
      one.0 ∷ rest.0,
      rest.1 ∙ ap (λ (rs : List Record). rs ++ rest.0) one.1 ∙ append_assoc w.records (one.0 ∷ []) rest.0,
      made_more (w.nodes name) ((happens w e).nodes name) ((world_after_events (happens w e) es).nodes name) (part_at name w e one.0) (steps_of_records name (happens w e) es rest.0) one.2 rest.2,
    )

pub events_are_parts_of_nodes : RunsAreMadeOfNodes
events_are_parts_of_nodes rules events range name =
    let all = along rules (start rules) events name range.bodies range.numbers (start_is_within_numbers rules range.founds) in
    subst (λ (rs : List Record). IsMade (first_node rules name) (steps_of_records name (start rules) events rs) ((run rules events).nodes name)) (sym all.1) all.2
