-- What is kept goes on with the watched run of one event more.
use Rattle.am_step_laws.proofs.Watching.WatchedWords.{◌≡◌, ℕ, ◌+◌, ◌<◌, ◌≤◌, true, List, [], ◌∷◌, ◌++◌, length, refl, sym, ap, ◌∙◌, subst, list_any, list_any-append, Entry}
use Rattle.am_step_laws.proofs.Watching.WatchedWords.{Rules, Event, Node, view, World, run, happens, world_with_record, world_with_next_life, current, is_stopped, Watch, watch_start, watch_event}
use Rattle.am_step_laws.proofs.Watching.WatchedWords.{watch_events, watch_run, is_view_of, split_on_bool, watched_is_run, acting_name, Watching, watch_step, note_stop, pass_event, watch_accepts, Watches}
use Rattle.am_step_laws.proofs.Watching.WatchedWords.{standing_of, last_view_of_node, entries_added_to_group, StampIsNew, NameSteps, SteppedTo, SameButWhoStopped, beginning_is_watched, steps_are_watched}
use Rattle.am_step_laws.proofs.Watching.WatchedWords.{stops_are_watched, others_are_watched, watch_is_after_event, world_same_by_answer, world_same_but_stopped, world_same_but_lives, world_stepped_to_node, stored_since}
use Rattle.am_step_laws.proofs.Watching.WatchedWords.{BeginningIsKept, BreakIsKept, watching_after_name_step, StepIsWatched, StopIsWatched, ReturnIsWatched, PassIsWatched}
use Rattle.am_lawful_defs.specs.Watches.{watch_after}
use Rattle.am_group_defs.specs.World as runs
use Rattle.am_step_laws.proofs.Watching.Lists.{lists_only_grow_in_runs}
use Rattle.am_step_laws.proofs.Watching.New.{decided_views_of_runs_are_new}

-- one event more
pub watch_all_with_one_more : (s : Watch) (events : List Event) (e : Event) → watch_events s (events ++ e ∷ []) ≡ watch_event (watch_events s events) e
unfolding watch_events
watch_all_with_one_more s [] e = refl
watch_all_with_one_more s (x ∷ xs) e = watch_all_with_one_more (watch_event s x) xs e

-- the watched run after an event that makes this of the run's world
next_watched : (rules : Rules) (events : List Event) (e : Event) (v : World) → happens (run rules events) e ≡ v
    → watch_after (watch_run rules events) v ≡ watch_run rules (events ++ e ∷ [])
next_watched rules events e v is =
    let s = watch_run rules events in
    sym (watch_all_with_one_more (watch_start rules) events e ∙ watch_is_after_event s e ∙ ap (λ (w : World). watch_after s (happens w e)) (watched_is_run rules events)
    ∙ ap (watch_after s) is)

to_next : (rules : Rules) (events : List Event) (e : Event) (v : World) (k : Watching) → happens (run rules events) e ≡ v
    → Watches k (watch_after (watch_run rules events) v) → Watches k (watch_run rules (events ++ e ∷ []))
to_next rules events e v k is h = subst (Watches k) (next_watched rules events e v is) h

-- a step as a watcher is told it
steps_of : (w : World) (name : ℕ) (n : Node) (entries : List Entry) → name < 256 → n.core.who ≡ name
    → n.core.log.entries ≡ (w.nodes name).core.log.entries ++ entries → n.core.log.start ≤ length w.group
    → (runs.step_decides_view (w.nodes name) n ≡ true → StampIsNew w (view n)) → NameSteps w name n entries
steps_of w name n entries within own adds begins new = record {
  within = within;
  own = own;
  views = λ v. ap (list_any (is_view_of v)) adds ∙ list_any-append (is_view_of v) (w.nodes name).core.log.entries entries;
  begins = begins;
  new = new;
}

pub step_is_watched : StepIsWatched
step_is_watched rules events e c s k may running cause effect is kept =
    let w = run rules events in
    let name = acting_name w e in
    let n = s.node in
    let same : w ≡ (watch_run rules events).world = sym (watched_is_run rules events) in
    let adds = lists_only_grow_in_runs rules events e c s may running cause effect in
    let steps : NameSteps w name n (stored_since (w.nodes name) n) =
    steps_of w name n (stored_since (w.nodes name) n) adds.within adds.own adds.adds adds.begins
    (decided_views_of_runs_are_new rules events e c s may running cause effect) in
    let to : SteppedTo w (runs.world_with_step w e name s) name n (entries_added_to_group w.group n) = world_stepped_to_node w e name s in
    let P : World → Type 0 = λ x. Watches (watch_accepts (watch_step k name (standing_of n) (last_view_of_node n) (stored_since (w.nodes name) n)) (length x.group + 1)
    (entries_added_to_group w.group n)) (watch_after (watch_run rules events) (runs.world_with_step w e name s)) in
    let now = steps_are_watched k (watch_run rules events) (runs.world_with_step w e name s) name n (stored_since (w.nodes name) n) (entries_added_to_group w.group n) kept
    (subst (λ x. NameSteps x name n (stored_since (w.nodes name) n)) same steps)
    (subst (λ x. SteppedTo x (runs.world_with_step w e name s) name n (entries_added_to_group w.group n)) same to) in
    to_next rules events e (runs.world_with_step w e name s) (watching_after_name_step k w name n) is (subst P (sym same) now)

pub stop_is_watched : StopIsWatched
stop_is_watched rules events e o name k is kept =
    let w = run rules events in
    let v = world_with_record (record w { stopped = w.stopped ++ name ∷ [] }) e o in
    let same : w ≡ (watch_run rules events).world = sym (watched_is_run rules events) in
    to_next rules events e v (note_stop k name) is (stops_are_watched k (watch_run rules events) v name kept
    (subst (λ (x : World). SameButWhoStopped x v (x.stopped ++ name ∷ [])) same (world_same_but_stopped w e o (w.stopped ++ name ∷ []))))

pub idle_event_is_watched : PassIsWatched
idle_event_is_watched rules events e o k is kept =
    let w = run rules events in
    let v = world_with_record w e o in
    let same : w ≡ (watch_run rules events).world = sym (watched_is_run rules events) in
    to_next rules events e v (pass_event k) is (others_are_watched k (watch_run rules events) v kept
    (subst (λ (x : World). SameButWhoStopped x v x.stopped) same (world_same_by_answer w e o)))

pub return_is_watched : ReturnIsWatched
return_is_watched rules events e o place k is kept =
    let w = run rules events in
    let v = world_with_next_life (world_with_record w e o) place in
    let same : w ≡ (watch_run rules events).world = sym (watched_is_run rules events) in
    let but = world_same_but_lives w e o place in
    split_on_bool (is_stopped w (current w place))
    (λ t.
    let here : SameButWhoStopped w v w.stopped = rw t at but in
    let now = others_are_watched k (watch_run rules events) v kept (subst (λ (x : World). SameButWhoStopped x v x.stopped) same here) in
    rw t (to_next rules events e v (pass_event k) is now))
    (λ f.
    let here : SameButWhoStopped w v (w.stopped ++ current w place ∷ []) = rw f at but in
    let now = stops_are_watched k (watch_run rules events) v (current w place) kept
    (subst (λ (x : World). SameButWhoStopped x v (x.stopped ++ current w place ∷ [])) same here) in
    rw f (to_next rules events e v (note_stop k (current w place)) is now))

pub first_watching_is_kept : BeginningIsKept
unfolding watch_events
first_watching_is_kept rules may = beginning_is_watched rules may

pub watching_tells_the_break : BreakIsKept
watching_tells_the_break rules events k kept = kept.broken
