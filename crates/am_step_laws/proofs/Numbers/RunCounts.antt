-- How high all numbers of a run are, event by event.
use Rattle.am_step_laws.proofs.Words.{heard_packet_has_property, number_equals_itself, Report, OwnSend, false, ◌≡◌, inl, inr, ⊎_elim, ℕ, ◌+◌, ◌-◌, ◌≤◌, ◌==◌, max, min, Bool, true, if◌then◌else◌, List, [], ◌∷◌, length}
use Rattle.am_step_laws.proofs.Words.{take, drop, Option, Some, None, refl, ap, ◌∙◌, subst, arith, length-append, length-drop, All, length-take, All-nil, All-head, All-tail}
use Rattle.am_step_laws.proofs.Words.{All-append, All-weaker, Entry, Rules, has, row_of_name, Packet, Letter, Event, letter_at, Node, Ballot, top, image_of_node, map_with_value}
use Rattle.am_step_laws.proofs.Words.{founder, stranger_node, StepResult, World, start, first_node, list_with_accepted, list_after_step, world_with_record, world_with_step, happens, world_after_events, run}
use Rattle.am_step_laws.proofs.Words.{packet_heard_by_act, split_on_bool, Cause, hears, MayWelcome, Says, welcome, LetterSays, Effect, acting_name, WasSentTo, IsCause, EventHappens, steps}
use Rattle.am_step_laws.proofs.Words.{all_gives_item_at, events_have_effects, Bounds, bounds_one_higher, PacketIsWithinBounds, NumbersAreBounded}
use Rattle.am_step_laws.proofs.Numbers.Counts.{FrontsAreKnownToGroup, VotesAreWithinAccepted, has_view_of_its_own, NumbersOfPartsAreLow, NumbersAreLow, AcceptedIsWithinGroup, higher_bounds_keep_numbers_low}
use Rattle.am_step_laws.proofs.Numbers.Images.{blank_image_up_to_number, image_at_up_to_number}
use Rattle.am_step_laws.proofs.Numbers.ListImages.{WelcomeImageUpToBase, FirstImageUpToStart, changes_keep_first_image_low}
use Rattle.am_step_laws.proofs.Numbers.LetterCounts.{SenderNumbersAreLow, said_packet_numbers_are_low}
use Rattle.am_step_laws.proofs.Numbers.LetterCounts.{welcomed_join_le_accepted}
use Rattle.am_step_laws.proofs.Numbers.EventCounts.{event_keeps_actor_numbers_low}

-- ---- a group that accepts more

votes_wider : (g k : ℕ) (ballot : Option Ballot) → g ≤ k → VotesAreWithinAccepted g ballot → VotesAreWithinAccepted k ballot
votes_wider g k None low h = tt
votes_wider g k (Some b) low h = λ name vote is. let v = h name vote is in omega arith

low_wider : (b : Bounds) (g k : ℕ) (m : Node) → g ≤ k → NumbersAreLow b g m → NumbersAreLow b k m
low_wider b g k m low h =
    let known : FrontsAreKnownToGroup k m.core.told m.core.acc (has_view_of_its_own m) = ⊎_elim
    (λ (x : (m.core.told ≤ g) × (m.core.acc ≤ g)). let t = x.0 in let u = x.1 in inl (omega arith, omega arith))
    (λ (x : (has_view_of_its_own m ≡ true) × (m.core.told ≤ max g m.core.acc)). let t = x.1 in inr (x.0, omega arith))
    h.known in
    record {
      counts = h.counts;
      order = h.order;
      within = record { listed = omega arith; began = omega arith; took = omega arith; trims = omega arith };
      quits = h.quits;
      tells = record { reported = λ name. let r = h.reported name in omega arith; votes = votes_wider g k m.ballot low h.votes; known = known };
    }

behind_wider : (g k : ℕ) (m : Node) → g ≤ k → AcceptedIsWithinGroup g m → AcceptedIsWithinGroup k m
behind_wider g k m low h = let t = h.told in let a = h.acc in record { told = omega arith; acc = omega arith }

all_wider : (g k : ℕ) (xs : List ℕ) → g ≤ k → All (λ n. n ≤ g) xs → All (λ n. n ≤ k) xs
all_wider g k xs low h = All-weaker (λ n. n ≤ g) (λ n. n ≤ k) (λ n le. omega arith) xs h

up_wider : (b : Bounds) (g k : ℕ) (p : Packet) → g ≤ k → PacketIsWithinBounds b g p → PacketIsWithinBounds (bounds_one_higher b) k p
up_wider b g k p low h = let r = h.round in record {
  round = omega arith;
  numbers = all_wider b.lists (b.lists + 1) _ (omega arith) h.numbers;
  accepted = all_wider g k _ low h.accepted;
}

-- ---- the group's list after a step

record Grew (b : Bounds) (group : List Entry) (m : Node) : Type 0 where
  more : length group ≤ length (list_after_step group m)
  few : length (list_after_step group m) ≤ b.lists + 1
  behind : AcceptedIsWithinGroup (length (list_after_step group m)) m

-- it reaches what a leader has accepted
grown_long : (g acc start many : ℕ) → start ≤ g → acc ≤ start + many → g + min (acc - g) (many - (g - start)) ≡ max g acc
grown_long g acc start many h k = omega arith

long_grown : (group : List Entry) (m : Node) → m.core.log.start ≤ length group → m.core.acc ≤ top m
    → length (list_with_accepted group m.core) ≡ max (length group) m.core.acc
long_grown group m h k =
    let rest = drop (length group - m.core.log.start) m.core.log.entries in
    let a = length-append group (take (m.core.acc - length group) rest) in
    let c = length-take (m.core.acc - length group) rest in
    let d = length-drop (length group - m.core.log.start) m.core.log.entries in
    a ∙ ap (λ x. length group + x) (c ∙ ap (min (m.core.acc - length group)) d)
    ∙ grown_long (length group) m.core.acc m.core.log.start (length m.core.log.entries) h k

grew : (b : Bounds) (group : List Entry) (m : Node) → length group ≤ b.lists → NumbersAreLow (bounds_one_higher b) (length group) m → Grew b group m
grew b group m few h = split_on_bool (has_view_of_its_own m)
    (λ t.
    let long : length (list_after_step group m) ≡ max (length group) m.core.acc = ap (λ (x : Bool). length (if x then list_with_accepted group m.core else group)) t
    ∙ long_grown group m h.listed h.accepted in
    let a = h.accepted in
    let told : m.core.told ≤ max (length group) m.core.acc = ⊎_elim
    (λ (x : (m.core.told ≤ length group) × (m.core.acc ≤ length group)). let y = x.0 in omega arith)
    (λ (x : (has_view_of_its_own m ≡ true) × (m.core.told ≤ max (length group) m.core.acc)). x.1)
    h.known in
    record { more = omega arith; few = omega arith; behind = record { told = omega arith; acc = omega arith } })
    (λ f.
    let long : length (list_after_step group m) ≡ length group = ap (λ (x : Bool). length (if x then list_with_accepted group m.core else group)) f in
    let known : (m.core.told ≤ length group) × (m.core.acc ≤ length group) = ⊎_elim
    (λ (x : (m.core.told ≤ length group) × (m.core.acc ≤ length group)). x)
    (λ (x : (has_view_of_its_own m ≡ true) × (m.core.told ≤ max (length group) m.core.acc)). let y = x.0 in absurd (cc))
    h.known in
    record { more = omega arith; few = omega arith; behind = record { told = omega arith; acc = omega arith } })

-- ---- a world

pub record WorldNumbersAreLow (b : Bounds) (w : World) : Type 0 where
  pub each : (name : ℕ) → NumbersAreLow b (length w.group) (w.nodes name)
  pub behind : (name : ℕ) → AcceptedIsWithinGroup (length w.group) (w.nodes name)
  pub images : (name : ℕ) → FirstImageUpToStart (w.nodes name)
  pub letters : All (λ (l : Letter). PacketIsWithinBounds b (length w.group) l.packet) w.letters
  pub welcomes : All (λ (l : Letter). WelcomeImageUpToBase l.packet) w.letters
  pub group : length w.group ≤ b.lists

-- what is so of worlds that have the nodes, the letters and the group list of another
low_same : (b : Bounds) (w v : World) → v.nodes ≡ w.nodes → v.letters ≡ w.letters → v.group ≡ w.group → WorldNumbersAreLow b w → WorldNumbersAreLow (bounds_one_higher b) v
low_same b w v nodes letters group h =
    record {
      each = rw (nodes, group) (λ name. higher_bounds_keep_numbers_low b (length w.group) (w.nodes name) (h.each name));
      behind = rw (nodes, group) h.behind;
      images = rw nodes h.images;
      letters = rw (letters, group) (All-weaker (λ (l : Letter). PacketIsWithinBounds b (length w.group) l.packet) (λ (l : Letter). PacketIsWithinBounds (bounds_one_higher b) (length w.group) l.packet)
          (λ l x. up_wider b (length w.group) (length w.group) l.packet (omega arith) x) w.letters h.letters);
      welcomes = rw letters h.welcomes;
      group = rw group (omega arith);
    }

-- ---- the letters of a step

welcomes_up : (m n : Node) (c : Cause) (to : List ℕ) (p : Packet) → n.core.log.start ≤ n.core.base → FirstImageUpToStart n → Says m c n to p → WelcomeImageUpToBase p
welcomes_up m n c to p from h (welcome s l may) = image_at_up_to_number n.core.log n.core.base from h
welcomes_up m n c to p from h _ = tt

-- ---- a step

pub set_node_keeps_property : (P : Node → Type 0) (nodes : ℕ → Node) (name : ℕ) (n : Node) → ((other : ℕ) → P (nodes other)) → P n → (other : ℕ)
    → P (map_with_value nodes name n other)
set_node_keeps_property P nodes name n h k other = split_on_bool (other == name) (λ t. rw t k) (λ f. rw f (h other))

-- the node of the acting name after the event, by any bounds that hold before it
abbrev RaisedBy : World → World → ℕ → ℕ → Type 0
RaisedBy w v name number = (b : Bounds) → ((letter : Letter) → letter_at w.letters number ≡ Some letter → PacketIsWithinBounds b (length w.group) letter.packet)
    → NumbersAreLow b (length w.group) (w.nodes name) → NumbersAreLow (bounds_one_higher b) (length w.group) (v.nodes name)

-- its sender is the node after the step, but for its status
sender_low : (b : Bounds) (g : ℕ) (n sender : Node) → n ≡ record sender { status = n.status } → NumbersAreLow b g n → NumbersAreLow b g sender
sender_low b g n sender is h = let k : NumbersAreLow b g (record sender { status = n.status }) = subst (NumbersAreLow b g) is h in k

sender_behind : (g : ℕ) (n sender : Node) → n ≡ record sender { status = n.status } → AcceptedIsWithinGroup g n → AcceptedIsWithinGroup g sender
sender_behind g n sender is h = let k : AcceptedIsWithinGroup g (record sender { status = n.status }) = subst (AcceptedIsWithinGroup g) is h in record { told = k.told; acc = k.acc }

pub sender_keeps_first_image_low : (n sender : Node) → n ≡ record sender { status = n.status } → FirstImageUpToStart n → FirstImageUpToStart sender
sender_keeps_first_image_low n sender is h = let k : FirstImageUpToStart (record sender { status = n.status }) = subst FirstImageUpToStart is h in k

-- the packet that was heard
pub heard_packet_was_sent : (w : World) (e : Event) (c : Cause) (p : Packet) → c ≡ hears p → IsCause w (acting_name w e) e.act c → WasSentTo w (acting_name w e) e.act p
heard_packet_was_sent w e c p is cause = subst (IsCause w (acting_name w e) e.act) is cause

heard_up : (b : Bounds) (w : World) (e : Event) (c : Cause) → WorldNumbersAreLow b w → IsCause w (acting_name w e) e.act c → (p : Packet) → c ≡ hears p → WelcomeImageUpToBase p
heard_up b w e c h cause p is = heard_packet_has_property WelcomeImageUpToBase w e c p cause is h.welcomes

low_stepped : (b : Bounds) (w : World) (e : Event) (c : Cause) (s : StepResult) → IsCause w (acting_name w e) e.act c → Effect (w.nodes (acting_name w e)) c s
    → RaisedBy w (world_with_step w e (acting_name w e) s) (acting_name w e) (packet_heard_by_act e.act) → WorldNumbersAreLow b w → WorldNumbersAreLow (bounds_one_higher b) (world_with_step w e (acting_name w e) s)
unfolding world_with_step
low_stepped b w e c s cause effect raised h =
    let name = acting_name w e in
    let m = w.nodes name in
    let n = s.node in
    let g = length w.group in
    let k = length (list_after_step w.group n) in
    let letters : (letter : Letter) → letter_at w.letters (packet_heard_by_act e.act) ≡ Some letter → PacketIsWithinBounds b g letter.packet =
    λ letter at. all_gives_item_at (λ (l : Letter). PacketIsWithinBounds b g l.packet) w.letters (packet_heard_by_act e.act) letter h.letters at in
    let low : NumbersAreLow (bounds_one_higher b) g n = rw (number_equals_itself name) at (raised b letters (h.each name)) in
    let grown : Grew b w.group n = grew b w.group n h.group low in
    let list : FirstImageUpToStart n = changes_keep_first_image_low m n (heard_up b w e c h cause) effect.changes (h.images name) in
    let more = grown.more in
    let wide : NumbersAreLow (bounds_one_higher b) k n = low_wider (bounds_one_higher b) g k n more low in
    let sender = effect.sender in
    let accepted = (h.behind name).acc in
    let next : (j : ℕ) → MayWelcome m sender j → (row_of_name (image_of_node sender) j).joined ≤ k =
    λ j may. welcomed_join_le_accepted k m sender j (omega arith) (sender_behind k n sender effect.is grown.behind).acc (sender_keeps_first_image_low n sender effect.is list) may in
    let sends : SenderNumbersAreLow (bounds_one_higher b) k c m sender = record {
      low = sender_low (bounds_one_higher b) k n sender effect.is wide;
      behind = sender_behind k n sender effect.is grown.behind;
      group = grown.few;
      next = next;
      image = sender_keeps_first_image_low n sender effect.is list;
    } in
    record {
      each = set_node_keeps_property (NumbersAreLow (bounds_one_higher b) k) w.nodes name n (λ other. low_wider (bounds_one_higher b) g k (w.nodes other) more (higher_bounds_keep_numbers_low b g (w.nodes other) (h.each other))) wide;
      behind = set_node_keeps_property (AcceptedIsWithinGroup k) w.nodes name n (λ other. behind_wider g k (w.nodes other) more (h.behind other)) grown.behind;
      images = set_node_keeps_property FirstImageUpToStart w.nodes name n h.images list;
      letters = All-append (λ (l : Letter). PacketIsWithinBounds (bounds_one_higher b) k l.packet) w.letters s.letters
          (All-weaker (λ (l : Letter). PacketIsWithinBounds b g l.packet) (λ (l : Letter). PacketIsWithinBounds (bounds_one_higher b) k l.packet) (λ l x. up_wider b g k l.packet more x) w.letters h.letters)
          (All-weaker (LetterSays m c sender) (λ (l : Letter). PacketIsWithinBounds (bounds_one_higher b) k l.packet)
          (λ l x. said_packet_numbers_are_low (bounds_one_higher b) k m sender c l.to l.packet sends x.says) s.letters effect.letters);
      welcomes = All-append (λ (l : Letter). WelcomeImageUpToBase l.packet) w.letters s.letters h.welcomes
          (All-weaker (LetterSays m c sender) (λ (l : Letter). WelcomeImageUpToBase l.packet)
          (λ l x. welcomes_up m sender c l.to l.packet sends.low.kept sends.image x.says) s.letters effect.letters);
      group = grown.few;
    }

-- ---- each event

low_event : (b : Bounds) (w : World) (e : Event) (v : World) → EventHappens w e v → RaisedBy w v (acting_name w e) (packet_heard_by_act e.act) → WorldNumbersAreLow b w → WorldNumbersAreLow (bounds_one_higher b) v
unfolding world_with_record
low_event b w e v (steps c s runs cause effect) raised h = low_stepped b w e c s cause effect raised h
low_event b w e v _ raised h = low_same b w v refl refl refl h

pub event_keeps_world_numbers_low : (b : Bounds) (w : World) (e : Event) → WorldNumbersAreLow b w → WorldNumbersAreLow (bounds_one_higher b) (happens w e)
event_keeps_world_numbers_low b w e h = low_event b w e (happens w e) (events_have_effects w e)
    (λ c letters low. event_keeps_actor_numbers_low c (length w.group) w e letters (h.behind (acting_name w e)) low) h

-- ---- runs

-- the bounds after so many events
abbrev pub bounds_after_events : ℕ → Bounds → Bounds
bounds_after_events many b = record { lists = b.lists + many; rounds = b.rounds + many; requests = b.requests + many }

-- what each event keeps, by bounds that are one higher after it
pub events_keep_with_higher_bounds : (P : Bounds → World → Type 0) (Q : Event → Type 0) → ((b : Bounds) (w : World) (e : Event) → Q e → P b w → P (bounds_one_higher b) (happens w e))
    → (b : Bounds) (w : World) (events : List Event) → All Q events → P b w → P (bounds_after_events (length events) b) (world_after_events w events)
unfolding world_after_events
events_keep_with_higher_bounds P Q keeps b w [] each h =
    let z : (n : ℕ) → n ≡ n + 0 = λ n. omega arith in
    subst (λ x. P x w) (λ i. record { lists = z b.lists i; rounds = z b.rounds i; requests = z b.requests i }) h
events_keep_with_higher_bounds P Q keeps b w (e ∷ es) each h =
    let z : (n : ℕ) → n + 1 + length es ≡ n + length (e ∷ es) = λ n. omega arith in
    subst (λ x. P x (world_after_events (happens w e) es)) (λ i. record { lists = z b.lists i; rounds = z b.rounds i; requests = z b.requests i })
    (events_keep_with_higher_bounds P Q keeps (bounds_one_higher b) (happens w e) es (All-tail Q e es each) (keeps b w e (All-head Q e es each) h))

-- ---- the start

-- a node whose numbers are all alike, and at most 1
low_begun : (n : ℕ) (next : Option OwnSend) (reports : ℕ → Report) (leads : Bool) → n ≤ 1 → ((name : ℕ) → (reports name).taken ≤ 1)
    → NumbersOfPartsAreLow (record { lists = 1; rounds = 1; requests = 0 }) 1 0 n n 0 n n 0 0 n false next reports None leads
low_begun n next reports leads low told = record {
  counts = record { entries = omega arith; rounds = omega arith; sends = omega arith };
  order = record { given = omega arith; accepted = omega arith; kept = omega arith };
  within = record { listed = omega arith; began = omega arith; took = omega arith; trims = omega arith };
  quits = λ t. absurd (cc);
  tells = record { reported = told; votes = tt; known = inl (omega arith, omega arith) };
}

low_founder : (rules : Rules) (name : ℕ) → NumbersAreLow (record { lists = 1; rounds = 1; requests = 0 }) 1 (founder rules name)
low_founder rules name = low_begun 1 _ _ _ (omega arith) (λ other. split_on_bool (has rules.founders other) (λ t. rw t (omega arith)) (λ f. rw f (omega arith)))

low_stranger : (rules : Rules) (name : ℕ) → NumbersAreLow (record { lists = 1; rounds = 1; requests = 0 }) 1 (stranger_node rules name)
low_stranger rules name = low_begun 0 _ _ _ (omega arith) (λ other. omega arith)

pub founder_or_stranger_has : (P : Node → Type 0) (rules : Rules) (name : ℕ) → P (founder rules name) → P (stranger_node rules name) → P (first_node rules name)
founder_or_stranger_has P rules name f g = split_on_bool (has rules.founders name) (λ t. rw t f) (λ u. rw u g)

pub start_has_low_numbers : (rules : Rules) → WorldNumbersAreLow (record { lists = 1; rounds = 1; requests = 0 }) (start rules)
start_has_low_numbers rules = record {
  each = λ name. founder_or_stranger_has (NumbersAreLow (record { lists = 1; rounds = 1; requests = 0 }) 1) rules name (low_founder rules name) (low_stranger rules name);
  behind = λ name. founder_or_stranger_has (AcceptedIsWithinGroup 1) rules name (record { told = omega arith; acc = omega arith }) (record { told = omega arith; acc = omega arith });
  images = λ name. founder_or_stranger_has FirstImageUpToStart rules name (blank_image_up_to_number 0) (blank_image_up_to_number 0);
  letters = All-nil _;
  welcomes = All-nil _;
  group = omega arith;
}

pub run_has_low_numbers : (rules : Rules) (events : List Event) → WorldNumbersAreLow (bounds_after_events (length events) (record { lists = 1; rounds = 1; requests = 0 })) (run rules events)
run_has_low_numbers rules events = events_keep_with_higher_bounds WorldNumbersAreLow (λ _. Unit {0}) (λ b w e _ h. event_keeps_world_numbers_low b w e h) (record { lists = 1; rounds = 1; requests = 0 }) (start rules)
    events (λ k e at. tt) (start_has_low_numbers rules)

pub number_bounds_hold_in_runs : NumbersAreBounded
number_bounds_hold_in_runs rules events =
    let w = run rules events in
    let h = run_has_low_numbers rules events in
    let first : Bounds = record { lists = 1; rounds = 1; requests = 0 } in
    record {
      each = λ name. (
          let x = h.each name in
          let t = x.entries in
          let r = x.rounds in
          let q = x.sends in
          let entries : top (w.nodes name) ≤ length events + 1 = omega arith in
          let round : (w.nodes name).core.promise.round ≤ length events + 1 = omega arith in
          let requests : (w.nodes name).sends.last ≤ length events = omega arith in
          assumption (entries, round, requests, x, h.behind name));
      group = let g = h.group in omega arith;
      letters = λ number letter at. (let x : PacketIsWithinBounds (bounds_after_events (length events) first) (length w.group) letter.packet =
          all_gives_item_at (λ (l : Letter). PacketIsWithinBounds (bounds_after_events (length events) first) (length w.group) l.packet) w.letters number letter h.letters at in
          record {
            round = omega arith;
            numbers = All-weaker (λ n. n ≤ 1 + length events) (λ n. n ≤ length events + 1) (λ n le. omega arith) _ x.numbers;
            accepted = x.accepted;
          });
    }
