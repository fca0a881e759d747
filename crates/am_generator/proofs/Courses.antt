-- A run of which no records are kept goes on as its run.
use Rattle.am_world.proofs.Words.{◌≡◌, ℕ, ◌+◌, ◌<◌, ◌≤◌, Bool, true, false, if◌then◌else◌, List, [], ◌∷◌, ◌++◌, length, Option, Some, None}
use Rattle.am_world.proofs.Words.{max, refl, append-nil, sym, ap, ◌∙◌, subst, arith, length-append, Asked, OnStep, most_events_of_run, Outcome, NodeEvent, Rules, MayFound, place_of_name}
use Rattle.am_world.proofs.Words.{name_of_place_and_life, Letter, Act, Event, Record, letter_at, letters_of_pushed_record, is_for, happens, current, world_with_record, record_of}
use Rattle.am_world.proofs.Words.{Node, watching_of, Play, replay, play_after, IsRun, play_of, EventIsAnswered, comes, flag_of, if_running, event_or_answer, SpellsPacket}
use Rattle.am_world.proofs.Words.{after_answer, IsWatched, IsReadyAt, watching_at_start, pass_event, idle_event_is_watched, world_after_events}
use Rattle.std.proofs.Common.{sum_by, cond}
use Rattle.std.proofs.lemmas.List.Sums.{sum_by-append, count_by-le-length}
use Rattle.am_base.specs.Outcomes.{is_outcome_took, is_outcome_sent, is_outcome_without_room}
use Rattle.am_base.specs.declared.outcome.Outcome.TheVariants as said
use Rattle.am_journal.specs.declared.asked.Asked.TheVariants as asked
use Rattle.am_group.specs.declared.event.Act.TheVariants as act
use Rattle.am_group_defs.specs.World as model
use Rattle.am_group_defs.specs.Play.{count_outcomes}
use Rattle.am_group_defs.proofs.Runs.{one_record_each}
use Rattle.am_journal.specs.Asked.{hears}
use Rattle.am_generator.specs.declared.course.Counts.{Counts}
use Rattle.am_generator.specs.declared.places.Places.{Places}
use Rattle.am_lawful_watch.specs.declared.watcher.Watcher.{Watcher}
use Rattle.am_generator.specs.Places.{ArePlacesAtStart, PlaceMoves}
use Rattle.am_generator.specs.Courses.{first_lives, no_flags, CourseStands, Counted, counts_after, bit, CountsAreBelow, IsCalmAct}
use Rattle.am_world.proofs.{Begins.first_world_shows_run, Begins.first_life_at_place, Begins.no_flag_set_at_first, Comes.has_actor_gone_now, Comes.event_comes_to_asked, Goes.play_of_one_record_more, Goes.answer_carries_play_on, Acts.act_carries_play_on, Acts.node_is_ready_at_place}
use Rattle.am_step_laws.proofs.Watching.Fresh.{place_of_name_at}
use Rattle.am_journal.specs.declared.asked.Heard.{Heard}
use Rattle.am_world.proofs.Words.{IsPacket, same_Some}
use Rattle.am_world.proofs.Heard.{found_letter_is_packet}
use Rattle.am_world.proofs.Words.{drop, slice_get, Entry, IsEndOf, state_of, shown_node_of, watching_after_told_step}
use Rattle.am_world.proofs.Kept.{begin_is_watched, act_is_watched}

-- ---- before anything happened

pub course_stands_at_first : (rules : Rules) (places : Places) (watcher : Watcher) → MayFound rules → ArePlacesAtStart rules places → watching_of watcher ≡ watching_at_start rules
    → CourseStands (record { rules = rules; events = [] }) places watcher
unfolding world_after_events
course_stands_at_first rules places watcher may begins watched = record {
  own = refl;
  runs = subst (λ g. IsRun (record { rules = rules; events = [] }) places.nodes.items first_lives no_flags [] g) (sym begins.group) (first_world_shows_run rules places.nodes.items may begins.nodes);
  sent = begins.letters;
  few = let none = ap length begins.letters in omega arith;
  watched = begin_is_watched (record { rules = rules; events = [] }) rules (watching_of watcher) may refl watched;
}

pub counts_at_first_are_zero : (rules : Rules) → Counted (record { rules = rules; events = [] }) (record { events = 0; took = 0; sent = 0; held = 0 })
unfolding world_after_events
counts_at_first_are_zero rules = record { events = refl; took = refl; sent = refl; held = refl }

-- ---- what is there

run_at : (p : Play) (places : Places) (watcher : Watcher) → CourseStands p places watcher
    → IsRun (play_of p.rules (replay p).records) places.nodes.items first_lives no_flags (replay p).records places.group.items
run_at p places watcher s = subst (λ q. IsRun q places.nodes.items first_lives no_flags (replay p).records places.group.items) (sym s.own) s.runs

-- each name is the first of its place
first_name : (p : Play) (places : Places) (watcher : Watcher) (place : ℕ) → CourseStands p places watcher → place < 16 → place ≡ current (replay p) place
first_name p places watcher place s within =
    let life : (replay p).lives place ≡ 1 = sym (s.runs.shows.living.each place within) ∙ first_life_at_place 16 place within in
    let now : place ≡ name_of_place_and_life place 1 = omega arith in
    now ∙ ap (name_of_place_and_life place) (sym life)

-- its node is ready for a step
pub places_are_ready_for_event : (p : Play) (e : Event) (places : Places) (watcher : Watcher) (name events : ℕ) (what : NodeEvent) → CourseStands p places watcher
    → length p.events < most_events_of_run → name ≡ current (replay p) (place_of_name e.node) → happens (replay p) e ≡ comes (replay p) e (asked.Step what) → events ≡ length p.events
    → IsReadyAt places.nodes.items (place_of_name name) what (length places.group.items) (max (events + 2) (length places.group.items))
places_are_ready_for_event p e places watcher name events what s few here is many =
    node_is_ready_at_place p p.rules places.nodes.items first_lives no_flags (replay p).records places.group.items e what name (length places.group.items)
    (max (events + 2) (length places.group.items)) s.own (run_at p places watcher s) few here is refl (omega arith)

-- ---- one event more, of which a record is made by the run alone

-- what the run is then
pub record CourseGoneByEvent (p : Play) (e : Event) (outcome : Outcome) (letters : List Letter) (new : Places) : Type 0 where
  pub own : play_of p.rules (replay (play_after p e)).records ≡ play_after p e
  pub runs : IsRun (play_after p e) new.nodes.items first_lives no_flags (replay (play_after p e)).records new.group.items
  pub sent : (replay (play_after p e)).letters ≡ (replay p).letters ++ letters
  pub answers : EventIsAnswered p e outcome

gone : (p : Play) (e : Event) (outcome : Outcome) (letters : List Letter) (places new : Places) (watcher : Watcher) → CourseStands p places watcher
    → IsRun (play_of p.rules ((replay p).records ++ record_of (replay p) e outcome letters ∷ [])) new.nodes.items first_lives no_flags
    ((replay p).records ++ record_of (replay p) e outcome letters ∷ []) new.group.items
    → EventIsAnswered p e outcome → CourseGoneByEvent p e outcome letters new
gone p e outcome letters places new watcher s runs answers =
    let old = (replay p).records in
    let r = record_of (replay p) e outcome letters in
    let same : play_of p.rules (old ++ r ∷ []) ≡ play_after p e = play_of_one_record_more p.rules old r ∙ ap (λ q. play_after q e) s.own in
    let recorded : old ++ r ∷ [] ≡ (replay (play_after p e)).records = runs.shows.recorded ∙ ap (λ q. (replay q).records) same in
    record {
      own = ap (play_of p.rules) (sym recorded) ∙ same;
      runs = subst (λ rs. IsRun (play_after p e) new.nodes.items first_lives no_flags rs new.group.items) recorded
          (subst (λ q. IsRun q new.nodes.items first_lives no_flags (old ++ r ∷ []) new.group.items) same runs);
      sent = sym (ap (λ q. (replay q).letters) same) ∙ sym runs.shows.sent ∙ letters_of_pushed_record old r ∙ ap (λ ls. ls ++ letters) s.runs.shows.sent;
      answers = answers;
    }

-- a name's node did a step
pub course_gone_by_step : (p : Play) (e : Event) (places new : Places) (watcher : Watcher) (name : ℕ) (what : NodeEvent) (outcome : Outcome) → CourseStands p places watcher
    → length p.events < most_events_of_run → name ≡ current (replay p) (place_of_name e.node) → happens (replay p) e ≡ comes (replay p) e (asked.Step what)
    → (moves : PlaceMoves places new (place_of_name name) what outcome) → CourseGoneByEvent p e outcome moves.sent new
course_gone_by_step p e places new watcher name what outcome s few here is moves =
    let old = (replay p).records in
    let r = record_of (replay p) e outcome moves.sent in
    let done = act_carries_play_on p p.rules p.rules places.nodes.items new.nodes.items first_lives no_flags old (old ++ r ∷ []) places.group.items new.group.items
    e what outcome moves.sent name s.own (run_at p places watcher s) few here moves.steps (record { founding_ = refl; pushed_ = refl }) is in
    gone p e outcome moves.sent places new watcher s done.0 done.1

-- an event was answered without a step
pass_gone : (p : Play) (e : Event) (places : Places) (watcher : Watcher) (outcome : Outcome) → CourseStands p places watcher → length p.events < most_events_of_run
    → happens (replay p) e ≡ world_with_record (replay p) e outcome → CourseGoneByEvent p e outcome [] places
pass_gone p e places watcher outcome s few is =
    let old = (replay p).records in
    let r = record_of (replay p) e outcome [] in
    let done = answer_carries_play_on p p.rules p.rules places.nodes.items first_lives no_flags old (old ++ r ∷ []) places.group.items e outcome s.own
    (run_at p places watcher s) few (record { founding_ = refl; pushed_ = refl }) is in
    gone p e outcome [] places places watcher s done.0 done.1

pub course_stands_after_step : (p : Play) (e : Event) (outcome : Outcome) (letters : List Letter) (places new : Places) (watcher next : Watcher) → CourseStands p places watcher
    → CourseGoneByEvent p e outcome letters new → length letters ≤ 9 → new.letters.items ≡ places.letters.items ++ letters → IsWatched (play_after p e) (watching_of next)
    → CourseStands (play_after p e) new next
course_stands_after_step p e outcome letters places new watcher next s g most more watched =
    let all = s.few in
    let long = ap length more in
    let parts = length-append places.letters.items letters in
    let one = length-append p.events (e ∷ []) in
    record {
      own = g.own;
      runs = g.runs;
      sent = more ∙ ap (λ ls. ls ++ letters) s.sent ∙ sym g.sent;
      few = omega arith;
      watched = watched;
    }

stands_pass : (p : Play) (e : Event) (places : Places) (watcher next : Watcher) (outcome : Outcome) → CourseStands p places watcher → length p.events < most_events_of_run
    → happens (replay p) e ≡ world_with_record (replay p) e outcome → watching_of next ≡ pass_event (watching_of watcher) → CourseStands (play_after p e) places next × EventIsAnswered p e outcome
stands_pass p e places watcher next outcome s few is passed =
    let g = pass_gone p e places watcher outcome s few is in
    let watched = subst (IsWatched (play_after p e)) (sym passed) (idle_event_is_watched p.rules p.events e outcome (watching_of watcher) is s.watched) in
    (course_stands_after_step p e outcome [] places places watcher next s g (omega arith) (sym (append-nil places.letters.items)) watched, g.answers)

-- ---- what an event asks

-- a calm act asks the same of a name that has departed
calm_asks : (letters : List Letter) (flags : List Bool) (gone : Bool) (name : ℕ) (a : Act) → IsCalmAct a
    → event_or_answer letters flags false name a ≡ event_or_answer letters flags gone name a
calm_asks letters flags gone name (act.Send body) calm = refl
calm_asks letters flags gone name (act.Done req) calm = refl
calm_asks letters flags gone name act.Take calm = refl
calm_asks letters flags gone name act.Tick calm = refl
calm_asks letters flags gone name (act.Hear number) calm = refl
calm_asks letters flags gone name _ calm = absurd calm

calm_comes : (p : Play) (e : Event) (places : Places) (watcher : Watcher) (name : ℕ) (r : Asked) → CourseStands p places watcher
    → name ≡ current (replay p) (place_of_name e.node) → IsCalmAct e.act → r ≡ event_or_answer places.letters.items no_flags false name e.act
    → OnStep r (SpellsPacket places.letters.items e.act) → happens (replay p) e ≡ comes (replay p) e r
calm_comes p e places watcher name r s here calm is spells =
    let w = replay p in
    let place = place_of_name e.node in
    let within : place < 16 = omega arith in
    let was = s.runs.shows in
    let now : r ≡ event_or_answer w.letters no_flags (has_actor_gone_now w e) (current w place) e.act =
    is ∙ (λ i. event_or_answer (s.sent i) no_flags false (here i) e.act) ∙ calm_asks w.letters no_flags (has_actor_gone_now w e) (current w place) e.act calm in
    let packets : OnStep r (SpellsPacket w.letters e.act) = subst (λ ls. OnStep r (SpellsPacket ls e.act)) s.sent spells in
    event_comes_to_asked w e no_flags was.stopped.each within (was.living.within place within).0 (subst (λ q. OnStep q (SpellsPacket w.letters e.act)) now packets)
    ∙ ap (comes w e) (sym now)

-- an answer that stops nobody
abbrev Passes : Asked → Type 0
Passes (asked.Step what) = Unit {0}
Passes (asked.Answer outcome) = (w : model.World) (e : Event) → after_answer w e outcome ≡ world_with_record w e outcome

run_passes : (stopped : Bool) (what : NodeEvent) → Passes (if_running stopped what)
run_passes true what = λ w e. refl
run_passes false what = tt

addressed_passes : (addressed stopped : Bool) (what : NodeEvent) → Passes (if addressed then if_running stopped what else asked.Answer said.NotAddressed)
addressed_passes true stopped what = run_passes stopped what
addressed_passes false stopped what = λ w e. refl

hears_passes : (name : ℕ) (stopped : Bool) (found : Option Letter) → Passes (hears None name stopped found)
hears_passes name stopped None = λ w e. refl
hears_passes name stopped (Some letter) = addressed_passes (is_for letter name) stopped _

calm_passes : (letters : List Letter) (flags : List Bool) (gone : Bool) (name : ℕ) (a : Act) → IsCalmAct a → Passes (event_or_answer letters flags gone name a)
calm_passes letters flags gone name (act.Send body) calm = run_passes (flag_of flags name) _
calm_passes letters flags gone name (act.Done req) calm = run_passes (flag_of flags name) _
calm_passes letters flags gone name act.Take calm = run_passes (flag_of flags name) _
calm_passes letters flags gone name act.Tick calm = run_passes (flag_of flags name) _
calm_passes letters flags gone name (act.Hear number) calm = hears_passes name (flag_of flags name) (letter_at letters number)
calm_passes letters flags gone name _ calm = absurd calm

calm_answer : (w : model.World) (e : Event) (letters : List Letter) (name : ℕ) (outcome : Outcome) → IsCalmAct e.act
    → asked.Answer outcome ≡ event_or_answer letters no_flags false name e.act → after_answer w e outcome ≡ world_with_record w e outcome
calm_answer w e letters name outcome calm is = subst Passes (sym is) (calm_passes letters no_flags false name e.act calm) w e

-- ---- counts

bit_of : (b : Bool) → 0 + cond b 1 0 ≡ bit b
bit_of true = refl
bit_of false = refl

one_more : (P : Outcome → Bool) (p : Play) (e : Event) (outcome : Outcome) → EventIsAnswered p e outcome
    → count_outcomes (replay (play_after p e)) P ≡ count_outcomes (replay p) P + bit (P outcome)
one_more P p e outcome answers =
    let counts : Record → ℕ = λ r. cond (P r.outcome) 1 0 in
    let r = record_of (replay p) e outcome answers.0 in
    ap (λ rs. sum_by counts rs) answers.1 ∙ sum_by-append counts (replay p).records (r ∷ []) ∙ ap (λ k. count_outcomes (replay p) P + k) (bit_of (P outcome))

pub counts_after_answer : (p : Play) (e : Event) (k : Counts) (outcome : Outcome) → Counted p k → EventIsAnswered p e outcome → Counted (play_after p e) (counts_after k outcome)
counts_after_answer p e k outcome c answers = record {
  events = let many = c.events in let one = length-append p.events (e ∷ []) in omega arith;
  took = ap (λ n. n + bit (is_outcome_took outcome)) c.took ∙ sym (one_more is_outcome_took p e outcome answers);
  sent = ap (λ n. n + bit (is_outcome_sent outcome)) c.sent ∙ sym (one_more is_outcome_sent p e outcome answers);
  held = ap (λ n. n + bit (is_outcome_without_room outcome)) c.held ∙ sym (one_more is_outcome_without_room p e outcome answers);
}

few_of : (P : Outcome → Bool) (p : Play) → count_outcomes (replay p) P ≤ length p.events
few_of P p =
    let low = count_by-le-length (λ (r : Record). P r.outcome) (replay p).records in
    let many = one_record_each p.rules p.events in
    omega arith

-- no count is above that of the events
pub events_below_most_counts : (p : Play) (k : Counts) (most : ℕ) → Counted p k → k.events < most → CountsAreBelow most k
events_below_most_counts p k most c low =
    let events = c.events in
    let took = c.took in
    let sent = c.sent in
    let held = c.held in
    let a = few_of is_outcome_took p in
    let b = few_of is_outcome_sent p in
    let d = few_of is_outcome_without_room p in
    record { events = low; took = omega arith; sent = omega arith; held = omega arith }

-- no name has stopped
pub no_name_is_flagged : (name : ℕ) → flag_of no_flags name ≡ false
no_name_is_flagged name = no_flag_set_at_first 256 name

-- what is heard of a letter is a packet's spelling
pub heard_letter_spells_packet : (letters : List Letter) (number : ℕ) (letter : Letter) → letter_at letters number ≡ Some letter → IsPacket letter.packet
    → SpellsPacket letters (act.Hear number)
heard_letter_spells_packet letters number letter there is = λ h other heard at.
    found_letter_is_packet (letter_at letters number) letter other there is
    (ap (λ (x : Heard). letter_at letters x.packet) (same_Some (record { packet = number; keep = None }) h heard) ∙ at)

-- ---- what a node shows after its step

pub group_length_le_events : (p : Play) (e : Event) (outcome : Outcome) (letters : List Letter) (new : Places) → CourseGoneByEvent p e outcome letters new
    → length new.group.items ≤ 2 + length p.events
group_length_le_events p e outcome letters new g =
    let short = g.runs.short in
    let one = length-append p.events (e ∷ []) in
    omega arith

shown_end : (p : Play) (e : Event) (outcome : Outcome) (letters : List Letter) (new : Places) (name : ℕ) (n : Node) → CourseGoneByEvent p e outcome letters new
    → place_of_name name ≡ place_of_name e.node → slice_get new.nodes.items (place_of_name name) ≡ Some n
    → IsEndOf ((replay (play_after p e)).nodes (current (replay (play_after p e)) (place_of_name e.node))) (state_of n)
shown_end p e outcome letters new name n g here at =
    subst (λ k. IsEndOf ((replay (play_after p e)).nodes (current (replay (play_after p e)) k)) (state_of n)) here (g.runs.shows.standing.each (place_of_name name) n at).0

placed_at : (p : Play) (e : Event) (places : Places) (watcher : Watcher) (name : ℕ) → CourseStands p places watcher → name ≡ current (replay p) (place_of_name e.node)
    → place_of_name name ≡ place_of_name e.node
placed_at p e places watcher name s here =
    let place = place_of_name e.node in
    let within : place < 16 = omega arith in
    ap place_of_name here ∙ place_of_name_at place ((replay p).lives place) within

pub step_of_course_is_watched : (p : Play) (e : Event) (outcome : Outcome) (letters : List Letter) (places new : Places) (watcher reserved next : Watcher) (name : ℕ)
    (what : NodeEvent) (n : Node) (known : ℕ) (group : List Entry) → CourseStands p places watcher → CourseGoneByEvent p e outcome letters new
    → name ≡ current (replay p) (place_of_name e.node) → happens (replay p) e ≡ comes (replay p) e (asked.Step what)
    → watching_of reserved ≡ watching_of watcher → known ≡ length places.group.items → group ≡ new.group.items
    → slice_get new.nodes.items (place_of_name name) ≡ Some n
    → watching_of next ≡ watching_after_told_step (watching_of reserved) name (shown_node_of (state_of n)) what (known + 1) (drop known group) → IsWatched (play_after p e) (watching_of next)
step_of_course_is_watched p e outcome letters places new watcher reserved next name what n known group s g here is same long grown at told =
    let end = shown_end p e outcome letters new name n g (placed_at p e places watcher name s here) at in
    subst (IsWatched (play_after p e)) (sym told)
    (act_is_watched p (watching_of reserved) e name what (state_of n) known group s.runs.founded (subst (IsWatched p) (sym same) s.watched) here is end
    (long ∙ ap length s.runs.shows.agreed) (grown ∙ g.runs.shows.agreed))

-- ---- what was asked of a name

pub asked_call_comes_in_replay : (p : Play) (e : Event) (places : Places) (watcher : Watcher) (name placed : ℕ) (letters : List Letter) (r : Asked)
    → CourseStands p places watcher → name ≡ placed → placed ≡ place_of_name e.node → IsCalmAct e.act → letters ≡ places.letters.items
    → r ≡ event_or_answer letters no_flags false name e.act → OnStep r (SpellsPacket letters e.act)
    → (name ≡ current (replay p) (place_of_name e.node)) × (happens (replay p) e ≡ comes (replay p) e r)
asked_call_comes_in_replay p e places watcher name placed letters r s at here calm same is spells =
    let within : place_of_name e.node < 16 = omega arith in
    let named : name ≡ current (replay p) (place_of_name e.node) = at ∙ here ∙ first_name p places watcher (place_of_name e.node) s within in (
      named,
      calm_comes p e places watcher name r s named calm (is ∙ ap (λ ls. event_or_answer ls no_flags false name e.act) same)
          (subst (λ ls. OnStep r (SpellsPacket ls e.act)) same spells),
    )

-- an answer without a step stops nobody
pub course_passed_by_answer : (p : Play) (e : Event) (places : Places) (watcher next : Watcher) (name : ℕ) (letters : List Letter) (r : Asked)
    (outcome : Outcome) → CourseStands p places watcher → length p.events < most_events_of_run → IsCalmAct e.act
    → r ≡ event_or_answer letters no_flags false name e.act → r ≡ asked.Answer outcome → happens (replay p) e ≡ comes (replay p) e r
    → watching_of next ≡ pass_event (watching_of watcher) → CourseStands (play_after p e) places next × EventIsAnswered p e outcome
course_passed_by_answer p e places watcher next name letters r outcome s few calm is err comes_ passed =
    stands_pass p e places watcher next outcome s few
    (comes_ ∙ ap (comes (replay p) e) err ∙ calm_answer (replay p) e letters name outcome calm (sym err ∙ is)) passed
