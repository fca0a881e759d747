-- Runs that are lawful until the last stop: a group follows each of them, even if an old view becomes complete later, so that the run is void.
use Rattle.am_lawful_runs.proofs.Words.{number_equals_itself, ◌≡◌, ℕ, ◌+◌, ◌==◌, not, Bool, true, false, if◌then◌else◌, List, [], ◌∷◌, ◌++◌, length, Option}
use Rattle.am_lawful_runs.proofs.Words.{Some, None, refl, sym, ap, ◌∙◌, subst, arith, append-nil, append_assoc, length-append, All, All-nil, All-append, Rules, MayFound, Event, Act}
use Rattle.am_lawful_runs.proofs.Words.{Outcome, Packet, Letter, letter_at, is_for, Group, StepResult, World, start, is_stopped, happens, world_with_record, world_with_step, world_after_act}
use Rattle.am_lawful_runs.proofs.Words.{world_after_hearing, hear_cut, hear_packet, run, broken_at, lawful_front, front_is_lawful, acting_name, EventHappens, idles, returns, steps, events_have_effects}
use Rattle.am_lawful_runs.proofs.Words.{steps_are_group_moves, Following, StepsMove, world_after_events}
use Rattle.std.proofs.lemmas.List.Elements.{All-head, All-tail}
use Rattle.am_group.specs.declared.event.Act.TheVariants as act
use Rattle.am_base.specs.declared.event.NodeEvent.{NodeEvent}
use Rattle.am_base.specs.declared.event.NodeEvent.TheVariants as does
use Rattle.am_base.specs.declared.outcome.Outcome.TheVariants as said
use Rattle.am_model.specs.Step.{step}
use Rattle.am_group_defs.specs.World.{world_after_node_event}
use Rattle.am_step_laws.specs.Events as event
use Rattle.am_lawful_runs.proofs.OneStep.{run_of_pushed_event}
use Rattle.am_lawful_runs.proofs.Fold.{PropertyIsKeptByRuns, IsFollowed, AfterSpared, after_idle_event, after_step}
use Rattle.am_lawful_runs.proofs.Begun.{group_follows_unbroken_run}

-- ---- events by which nobody stops

-- an act that is neither a Stop nor a Return: by a Return the name before it stops, too
abbrev pub act_stops_nobody : Act → Bool
act_stops_nobody act.Stop = false
act_stops_nobody act.Return = false
act_stops_nobody _ = true

-- an event with such an act
abbrev pub StopsNobody : Event → Type 0
StopsNobody e = act_stops_nobody e.act ≡ true

-- ---- who has stopped, and how many lives places have, is as before

pub record StopsAndLivesStay (w v : World) : Type 0 where
  pub stopped : v.stopped ≡ w.stopped
  pub lives : v.lives ≡ w.lives

stay_by_record : (w : World) (e : Event) (o : Outcome) → StopsAndLivesStay w (world_with_record w e o)
unfolding world_with_record
stay_by_record w e o = record { stopped = refl; lives = refl }

stay_by_step : (w : World) (e : Event) (name : ℕ) (s : StepResult) → StopsAndLivesStay w (world_with_step w e name s)
unfolding world_with_step
stay_by_step w e name s = record { stopped = refl; lives = refl }

stay_if : (w : World) (b : Bool) (u v : World) → StopsAndLivesStay w u → StopsAndLivesStay w v → StopsAndLivesStay w (if b then u else v)
stay_if w true u v f g = f
stay_if w false u v f g = g

stay_by_node_event : (w : World) (e : Event) (name : ℕ) (x : NodeEvent) → StopsAndLivesStay w (world_after_node_event w e name x)
stay_by_node_event w e name x = stay_if w (is_stopped w name) _ _ (stay_by_record w e said.IsStopped) (stay_by_step w e name (step (w.nodes name) x))

stay_by_letter : (w : World) (e : Event) (name : ℕ) (hearing : Packet → StepResult) (l : Option Letter) → StopsAndLivesStay w (world_after_hearing w e name hearing l)
stay_by_letter w e name hearing None = stay_by_record w e said.NoPacket
stay_by_letter w e name hearing (Some l) = stay_if w (not (is_for l name)) _ _ (stay_by_record w e said.NotAddressed)
    (stay_if w (is_stopped w name) _ _ (stay_by_record w e said.IsStopped) (stay_by_step w e name (hearing l.packet)))

stay_by_act : (w : World) (e : Event) (name : ℕ) (a : Act) → act_stops_nobody a ≡ true → StopsAndLivesStay w (world_after_act w e name a)
stay_by_act w e name act.Stop spares = absurd (cc)
stay_by_act w e name act.Return spares = absurd (cc)
stay_by_act w e name (act.Hear number) spares = stay_by_letter w e name (hear_packet (w.nodes name)) (letter_at w.letters number)
stay_by_act w e name (act.Cut number keep) spares = stay_by_letter w e name (hear_cut (w.nodes name) keep) (letter_at w.letters number)
stay_by_act w e name (act.GiveUp other) spares = stay_if w (is_stopped w name) _ _ (stay_by_record w e said.IsStopped)
    (stay_if w (is_stopped w other) _ _ (stay_by_step w e name (step (w.nodes name) (does.GiveUp other))) (stay_by_record w e said.NotStopped))
stay_by_act w e name (act.Send body) spares = stay_by_node_event w e name (does.Send body)
stay_by_act w e name (act.Done req) spares = stay_by_node_event w e name (does.Done req)
stay_by_act w e name act.Take spares = stay_by_node_event w e name does.Take
stay_by_act w e name act.Join spares = stay_by_node_event w e name does.Join
stay_by_act w e name act.State spares = stay_by_node_event w e name does.State
stay_by_act w e name act.Leave spares = stay_by_node_event w e name does.Leave
stay_by_act w e name (act.Reset least resilience) spares = stay_by_node_event w e name (does.Reset least resilience)
stay_by_act w e name (act.Ask round) spares = stay_by_node_event w e name (does.Ask round)
stay_by_act w e name act.Tick spares = stay_by_node_event w e name does.Tick

stay_by_event : (w : World) (e : Event) → StopsNobody e → StopsAndLivesStay w (happens w e)
unfolding happens
stay_by_event w e spares = stay_by_act w e (acting_name w e) e.act spares

-- by events that stop nobody
pub stops_and_lives_stay : (events : List Event) (w : World) → All StopsNobody events → StopsAndLivesStay w (world_after_events w events)
unfolding world_after_events
stops_and_lives_stay [] w spare = record { stopped = refl; lives = refl }
stops_and_lives_stay (e ∷ events) w spare =
    let first = stay_by_event w e (All-head StopsNobody e events spare) in
    let more = stops_and_lives_stay events (happens w e) (All-tail StopsNobody e events spare) in
    record { stopped = more.stopped ∙ first.stopped; lives = more.lives ∙ first.lives }

-- ---- runs that are lawful until the last stop

-- a lawful run, and then events by which nobody stops
pub record LawfulUntilLastStop (rules : Rules) (events : List Event) : Type 0 where
  pub before : List Event
  pub after : List Event
  pub is : events ≡ before ++ after
  pub lawful : lawful_front rules before ≡ before
  pub spared : All StopsNobody after

-- each lawful run is one
pub lawful_is_until_last_stop : (rules : Rules) (events : List Event) → lawful_front rules events ≡ events → LawfulUntilLastStop rules events
lawful_is_until_last_stop rules events lawful =
    record { before = events; after = []; is = sym (append-nil events); lawful = lawful; spared = All-nil StopsNobody }

-- it stays one while nobody stops
pub goes_on_without_stops : (rules : Rules) (events more : List Event) → LawfulUntilLastStop rules events → All StopsNobody more → LawfulUntilLastStop rules (events ++ more)
goes_on_without_stops rules events more h spares = record {
  before = h.before;
  after = h.after ++ more;
  is = ap (λ l. l ++ more) h.is ∙ append_assoc h.before h.after more;
  lawful = h.lawful;
  spared = All-append StopsNobody h.after more h.spared spares;
}

-- the watch breaks no lawful run
pub lawful_run_is_unbroken : (rules : Rules) (events : List Event) → lawful_front rules events ≡ events → broken_at rules events ≡ None
lawful_run_is_unbroken rules events lawful = subst (λ es. broken_at rules es ≡ None) lawful (front_is_lawful rules events)

-- ---- a group follows them

one_longer : (names : List ℕ) (name : ℕ) → names ++ name ∷ [] ≡ names → ⊥
one_longer names name same = (let long = length-append names (name ∷ []) in let z = ap length same in omega arith)

module _ (P : World → Group → Type 0) (rules : Rules) (keeps : PropertyIsKeptByRuns P rules) (moving : StepsMove) (may : MayFound rules) where
  after_spared_event : (events : List Event) (e : Event) (v : World) → EventHappens (run rules events) e v → v ≡ happens (run rules events) e → StopsNobody e
      → (h : IsFollowed P rules (run rules events)) → AfterSpared P rules (run rules events) v h.to
  unfolding world_with_record
  after_spared_event events e v (idles o idle) is spares h = after_idle_event P rules keeps moving may events e o idle h
  after_spared_event events e v (steps c step runs cause effect) is spares h = after_step P rules keeps moving may events e c step runs cause effect is h
  after_spared_event events e v (event.stops runs) is spares h =
      let w = run rules events in
      absurd (one_longer w.stopped (acting_name w e) (ap (λ (x : World). x.stopped) is ∙ (stay_by_event w e spares).stopped))
  after_spared_event events e v (returns place at gone more) is spares h =
      let w = run rules events in
      let once : (if place == place then w.lives place + 1 else w.lives place) ≡ w.lives place = ap (λ (x : World). x.lives place) is ∙ ap (λ f. f place) (stay_by_event w e spares).lives in
      absurd (let own = number_equals_itself place in let z = rw own at once in omega arith)

  followed_after_event : (events : List Event) (e : Event) → StopsNobody e → IsFollowed P rules (run rules events) → IsFollowed P rules (run rules (events ++ e ∷ []))
  followed_after_event events e spares h =
      let w = run rules events in
      subst (IsFollowed P rules) (sym (run_of_pushed_event rules events e)) (after_spared_event events e (happens w e) (events_have_effects w e) refl spares h).followed

  followed_after : (before after : List Event) → All StopsNobody after → IsFollowed P rules (run rules before) → IsFollowed P rules (run rules (before ++ after))
  followed_after before [] spare h = subst (λ l. IsFollowed P rules (run rules l)) (sym (append-nil before)) h
  followed_after before (e ∷ after) spare h =
      let one = followed_after_event before e (All-head StopsNobody e after spare) h in
      subst (λ l. IsFollowed P rules (run rules l)) (append_assoc before (e ∷ []) after) (followed_after (before ++ e ∷ []) after (All-tail StopsNobody e after spare) one)

  module _ (begins : (t : Group) → Following rules (start rules) t → P (start rules) t) where
    -- and what the group keeps by steps and by what changes no node, it keeps to the end
    pub group_follows_until_last_stop : (events : List Event) → LawfulUntilLastStop rules events → IsFollowed P rules (run rules events)
    group_follows_until_last_stop events h =
        let first = group_follows_unbroken_run P rules keeps moving may begins h.before (lawful_run_is_unbroken rules h.before h.lawful) in
        subst (λ l. IsFollowed P rules (run rules l)) (sym h.is) (followed_after h.before h.after h.spared first.followed)

nothing_kept : (rules : Rules) → PropertyIsKeptByRuns (λ w s. Unit {0}) rules
nothing_kept rules = assumption

-- if nothing else is asked of the group
pub some_group_follows_until_last_stop : (rules : Rules) (events : List Event) → MayFound rules → LawfulUntilLastStop rules events → (s : Group) × Following rules (run rules events) s
some_group_follows_until_last_stop rules events may h =
    let f = group_follows_until_last_stop (λ w s. Unit {0}) rules (nothing_kept rules) steps_are_group_moves may (λ t g. tt) events h in
    (f.to, f.follows)
