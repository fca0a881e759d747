-- Up to its lawful front each run has a group that follows it, whose marks are the views that became complete.
use Rattle.am_lawful_runs.proofs.Words.{watch_all_with_one_more, ◌≡◌, ◌⊎◌, either, inl, inr, ℕ, ◌≤◌, ◌==◌, ◌&&◌, ◌||◌, Bool, true, List, [], ◌∷◌, ◌++◌, length}
use Rattle.am_lawful_runs.proofs.Words.{Some, None, slice_get, refl, sym, ap, ◌∙◌, subst, arith, length-append, Contains, not, list_any, nat_tests, le_or_gt}
use Rattle.am_lawful_runs.proofs.Words.{take-append-le, take_all, list_any-append, slice_get-get_or, Rules, MayFound, Event, Record, Outcome, key_of_stamp, Group}
use Rattle.am_lawful_runs.proofs.Words.{count_of_passing_names, Move, ViewCompletes, counts_for, Node, lowest_name_or_zero, StepResult, Decided, World, start, current, is_stopped}
use Rattle.am_lawful_runs.proofs.Words.{views_after, world_with_record, world_with_step, world_with_next_life, happens, run, is_complete, is_lawful, Watch, watch_start, watch_run}
use Rattle.am_lawful_runs.proofs.Words.{greatest_complete, broken_at, BecameComplete, split_on_bool, both_of_and, watched_is_run, Cause, Effect, IsCause, acting_name, IsIdle, EventHappens, idles}
use Rattle.am_lawful_runs.proofs.Words.{returns, steps, events_have_effects, item_of_index_has_property, slice_get_of_front, runs_keep_what_events_keep, NotedViewStandsInLog, WorldNotesViewsOnce, events_note_views_once, start_notes_views_once, Moves}
use Rattle.am_lawful_runs.proofs.Words.{none, moves, Grows, EventStands, no_move, stop, record_keeps_group_standing, stop_keeps_group_standing, return_keeps_group_standing, Following, StepsMove, Stands, false, group_grows_to_itself}
use Rattle.am_abstract_group.specs.Moves.{numbers}
use Rattle.am_group_defs.specs.World as worlds
use Rattle.am_step_laws.specs.Events as event
use Rattle.am_lawful_runs.proofs.Ready.{group_with_complete_marks, group_with_entry_given, group_with_name_stopped, ViewsMayBeMarked, GroupMayFollowWorld, NodesStayInWorld, nodes_stay_in_same_world, group_grows_by_marks, group_grows_by_stopped_name, group_is_shaped_after_marks, marked_group_follows_world}
use Rattle.am_lawful_runs.proofs.Ready.{group_may_follow_after_given, group_may_follow_after_stop, group_follows_world_that_stays, group_grows_by_given_entry}
use Rattle.am_lawful_runs.proofs.Greatest.{SomeItemPasses, list_any_finds_passing_item, list_any_of_passing_item, DecidedStampsAreSmall, IsGreatestComplete, greatest_complete_is_greatest, watch_unbroken_before_event, complete_after_watched_event}
use Rattle.am_lawful_runs.proofs.Shapes.{ListsAreShaped, lists_are_shaped_after_moves}
use Rattle.am_lawful_runs.proofs.OneStep.{OneStepWithGroup, run_of_pushed_event}
use Rattle.am_lawful_runs.proofs.Marks.{GroupStandsForWorld, complete_view_completes_in_group}
use Rattle.am_lawful_runs.proofs.Lawful.{either_of_true_or}
use Rattle.am_lawful_runs.proofs.Lawful.{lawful_world_has_lawful_group}
use Rattle.std.proofs.lemmas.Bool.{or_right}

-- ---- the marks

-- the greatest complete view of the watched run is the greatest that is marked
pub record WatchIsTiedToGroup (watch : Watch) (s : Group) : Type 0 where
  pub index : ℕ
  pub noted : slice_get watch.world.views index ≡ Some watch.complete
  pub marked_ : s.views.complete (key_of_stamp watch.complete.stamp) ≡ true
  pub most : (x : ℕ) → s.views.complete x ≡ true → x ≤ key_of_stamp watch.complete.stamp

-- those that were, and those that are complete now
abbrev marks_now : World → Group → ℕ → Bool
marks_now v t x = t.views.complete x || list_any (λ d. (key_of_stamp d.stamp == x) && is_complete v d) v.views

record MarkedNow (watch : Watch) (v : World) (t : Group) : Type 0 where
  pub may : ViewsMayBeMarked t (marks_now v t)
  pub tied : WatchIsTiedToGroup watch (group_with_complete_marks t (marks_now v t))
  pub all : (k : ℕ) (d : Decided) → slice_get v.views k ≡ Some d → is_complete v d ≡ true → marks_now v t (key_of_stamp d.stamp) ≡ true

known : (rules : Rules) (v : World) (t : Group) → GroupMayFollowWorld rules v t → GroupStandsForWorld v t
known rules v t h = record { stands = h.stands; shaped = h.shaped; opens = h.opens }

mark : (rules : Rules) (old new : Watch) (s t : Group) → GroupMayFollowWorld rules new.world t → t.views.complete ≡ s.views.complete → WatchIsTiedToGroup old s → DecidedStampsAreSmall new.world.views
    → ((k : ℕ) (d : Decided) → slice_get old.world.views k ≡ Some d → slice_get new.world.views k ≡ Some d)
    → new.complete ≡ greatest_complete new.world old.complete new.world.views → is_lawful new.world new.complete ≡ true → MarkedNow new new.world t
mark rules old new s t ready same tied small stay best lawful = record {
  may = record {
    stay = λ view done. rw done refl;
    marks = λ view done. either (either_of_true_or _ _ done)
        (λ a. inl a)
        (λ a. inr
        (of_passing view (list_any_finds_passing_item (λ d. (key_of_stamp d.stamp == view) && is_complete v d) v.views a)));
    lawful = λ view done most. (let is : view ≡ key_of_stamp new.complete.stamp = (let a = high view done in let b = most (key_of_stamp new.complete.stamp) here in omega
        arith) in
        subst (λ x. count_of_passing_names (λ name. counts_for t x name && ((t.node name).stopped && not (t.node name).departed)) ≤ (t.views.chosen x).resilience) (sym is)
        (lawful_world_has_lawful_group v t new.complete ready.stands (ready.stands.views.noted at.0 new.complete at.1) lawful));
  };
  tied = record { index = at.0; noted = at.1; marked_ = here; most = high };
  all = passing;
}
  where
    v : World
    v = new.world

    greatest : IsGreatestComplete v old.complete v.views new.complete
    greatest = subst (IsGreatestComplete v old.complete v.views) (sym best)
        (greatest_complete_is_greatest v old.complete v.views (small tied.index old.complete (stay tied.index old.complete tied.noted)) small)

    at : (k : ℕ) × (slice_get v.views k ≡ Some new.complete)
    at = either greatest.is
        (λ a. (tied.index, stay tied.index old.complete tied.noted ∙ ap Some (sym a)))
        (λ a. (a.0, a.1))

    passing : (k : ℕ) (d : Decided) → slice_get v.views k ≡ Some d → is_complete v d ≡ true → marks_now v t (key_of_stamp d.stamp) ≡ true
    passing k d there done =
        let own : (key_of_stamp d.stamp == key_of_stamp d.stamp) ≡ true = grind (arith, nat_tests) in
        let some = list_any_of_passing_item (λ x. (key_of_stamp x.stamp == key_of_stamp d.stamp) && is_complete v x) v.views k d there (rw (own, done) refl) in
        or_right (t.views.complete (key_of_stamp d.stamp)) _ some

    here : marks_now v t (key_of_stamp new.complete.stamp) ≡ true
    here = either greatest.is
        (λ a. (
        let was : t.views.complete (key_of_stamp new.complete.stamp) ≡ true = ap (λ f. f (key_of_stamp new.complete.stamp)) same ∙ ap
        (λ (d : Decided). s.views.complete (key_of_stamp d.stamp)) a ∙ tied.marked_ in
        rw was refl))
        (λ a. passing a.0 new.complete a.1 a.2)

    of_test : (view : ℕ) → (d : Decided) → ((key_of_stamp d.stamp == view) && is_complete v d) ≡ true → (key_of_stamp d.stamp ≡ view) × (is_complete v d ≡ true)
    of_test view d t_ = let b = both_of_and (key_of_stamp d.stamp == view) (is_complete v d) t_ in let z = b.0 in (grind (arith, nat_tests), b.1)

    of_passing : (view : ℕ) → SomeItemPasses (λ d. (key_of_stamp d.stamp == view) && is_complete v d) v.views → ViewCompletes t view
    of_passing view p =
        let b = of_test view p.item p.passes in
        subst (ViewCompletes t) b.0 (complete_view_completes_in_group v t p.index p.item (known rules v t ready) p.there (small p.index p.item p.there) b.1)

    high : (x : ℕ) → marks_now v t x ≡ true → x ≤ key_of_stamp new.complete.stamp
    high x done = either (either_of_true_or _ _ done)
        (λ a. (let low = tied.most x (ap (λ f. f x) (sym same) ∙ a) in let up = greatest.up in omega arith))
        (λ a. (let p = list_any_finds_passing_item (λ d. (key_of_stamp d.stamp == x) && is_complete v d) v.views a in
        let b = of_test x p.item p.passes in
        let above = greatest.above p.index p.item p.there b.1 in
        omega arith))

-- ---- moves mark nothing

move_marks : {s t : Group} → Move s t → t.views.complete ≡ s.views.complete
move_marks (numbers i e leads fit may) = refl
move_marks _ = refl

pub complete_marks_stay_by_moves : {s t : Group} → Moves s t → t.views.complete ≡ s.views.complete
complete_marks_stay_by_moves none = refl
complete_marks_stay_by_moves (moves move ok rest) = complete_marks_stay_by_moves rest ∙ move_marks move

-- ---- an event that changes no node, or a mark

pub record WorldStaysQuiet (w v : World) (s t : Group) : Type 0 where
  pub stays : NodesStayInWorld w v
  pub grows : Grows s t
  pub current : t.views.current ≡ s.views.current
  pub chosen : t.views.chosen ≡ s.views.chosen
  pub idle : (v.records ≡ w.records) ⊎ ((r : Record) × IsIdle r.outcome × (v.records ≡ w.records ++ r ∷ []))

-- ---- what is so of a world and the group that follows it, besides: kept by steps, and by what changes no node

pub record PropertyIsKeptByRuns (P : World → Group → Type 0) (rules : Rules) : Type 0 where
  pub by_step : {events : List Event} {e : Event} {c : Cause} {step : StepResult} {s t : Group} → OneStepWithGroup rules events e c step s t
      → P (run rules events) s → P (world_with_step (run rules events) e (acting_name (run rules events) e) step) t
  pub by_quiet : (w v : World) (s t : Group) → WorldStaysQuiet w v s t → P w s → P v t

-- it is marked, and noted
pub record ViewBecameCompleteInGroup (w : World) (s : Group) (d : Decided) : Type 0 where
  pub marked_ : s.views.complete (key_of_stamp d.stamp) ≡ true
  pub index : ℕ
  pub there : slice_get w.views index ≡ Some d

-- a group that follows a world, of which this is so
pub record IsFollowed (P : World → Group → Type 0) (rules : Rules) (w : World) : Type 0 where
  pub to : Group
  pub follows : Following rules w to
  pub shaped : ListsAreShaped to
  pub is : P w to

-- up to the lawful front, its marks are the views that became complete
pub record HeldUpToFront (P : World → Group → Type 0) (rules : Rules) (events : List Event) : Type 0 where
  pub followed : IsFollowed P rules (run rules events)
  pub open followed use *
  pub tied : WatchIsTiedToGroup (watch_run rules events) to
  pub became : (d : Decided) → BecameComplete rules events d → ViewBecameCompleteInGroup (run rules events) to d

-- what an event comes to by which nobody stops
pub record AfterSpared (P : World → Group → Type 0) (rules : Rules) (w v : World) (s : Group) : Type 0 where
  pub followed : IsFollowed P rules v
  pub same : followed.to.views.complete ≡ s.views.complete
  pub noted : (k : ℕ) (d : Decided) → slice_get w.views k ≡ Some d → slice_get v.views k ≡ Some d

-- what an event comes to, before views are marked
record After (P : World → Group → Type 0) (rules : Rules) (w v : World) (s : Group) : Type 0 where
  to : Group
  ready : GroupMayFollowWorld rules v to
  same : to.views.complete ≡ s.views.complete
  noted : (k : ℕ) (d : Decided) → slice_get w.views k ≡ Some d → slice_get v.views k ≡ Some d
  is : P v to

-- ---- each event

-- one that is no move of the group
after_event_without_move : (P : World → Group → Type 0) (rules : Rules) → PropertyIsKeptByRuns P rules → (w v : World) (r : Record) (h : IsFollowed P rules w) → NodesStayInWorld w v
    → v.views ≡ w.views → IsIdle r.outcome → v.records ≡ w.records ++ r ∷ [] → Stands v h.to → AfterSpared P rules w v h.to
after_event_without_move P rules keeps w v r h same views idle records stands =
    let s = h.to in
    record {
      followed = record {
        to = s;
        follows = group_follows_world_that_stays rules w v s h.follows same stands;
        shaped = h.shaped;
        is = keeps.by_quiet w v s s (record { stays = same; grows = group_grows_to_itself s; current = refl; chosen = refl; idle = inr (r, idle, records) }) h.is;
      };
      same = refl;
      noted = λ k d at. ap (λ (l : List Decided). slice_get l k) views ∙ at;
    }

-- views may be marked then
ready_for_marks : (P : World → Group → Type 0) (rules : Rules) → PropertyIsKeptByRuns P rules → (w v : World) (s : Group) → AfterSpared P rules w v s → After P rules w v s
ready_for_marks P rules keeps w v s a =
    let t = a.followed.to in
    record {
      to = group_with_entry_given t;
      ready = group_may_follow_after_given rules v t a.followed.follows a.followed.shaped;
      same = a.same;
      noted = a.noted;
      is = keeps.by_quiet v v t (group_with_entry_given t) (record { stays = nodes_stay_in_same_world v; grows = group_grows_by_given_entry t; current = refl; chosen = refl; idle = inl refl })
          a.followed.is;
    }

-- one that no node does
quiet_after : (P : World → Group → Type 0) (rules : Rules) → PropertyIsKeptByRuns P rules → (w v : World) (r : Record) (h : IsFollowed P rules w) → NodesStayInWorld w v → v.views ≡ w.views
    → IsIdle r.outcome → v.records ≡ w.records ++ r ∷ [] → EventStands v h.to → After P rules w v h.to
quiet_after P rules keeps w v r h same views idle records (no_move stands) =
    ready_for_marks P rules keeps w v h.to (after_event_without_move P rules keeps w v r h same views idle records stands)
quiet_after P rules keeps w v r h same views idle records (stop i stands) =
    let s = h.to in
    record {
      to = group_with_name_stopped s i;
      ready = group_may_follow_after_stop rules w v s i h.follows h.shaped same stands;
      same = refl;
      noted = λ k d at. ap (λ (l : List Decided). slice_get l k) views ∙ at;
      is = keeps.by_quiet w v s (group_with_name_stopped s i) (record { stays = same; grows = group_grows_by_stopped_name s i; current = refl; chosen = refl; idle = inr (r, idle, records) }) h.is;
    }

with_more : (xs ys : List ℕ) (name : ℕ) → list_any (λ x. x == name) xs ≡ true → list_any (λ x. x == name) (xs ++ ys) ≡ true
with_more xs ys name there = list_any-append (λ x. x == name) xs ys ∙ rw there refl

-- an event that changes at most who has stopped, and how many lives places have
stays_but : (w : World) (e : Event) (o : Outcome) (stopped : List ℕ) (lives : ℕ → ℕ)
    → ((name : ℕ) → is_stopped w name ≡ true → list_any (λ x. x == name) stopped ≡ true)
    → NodesStayInWorld w (record (world_with_record w e o) { stopped = stopped; lives = lives })
unfolding world_with_record
stays_but w e o stopped lives up =
    record { nodes = refl; letters = refl; group = refl; more = (worlds.record_of w e o [] ∷ [], refl); stopped = up }

stays_idle : (w : World) (e : Event) (o : Outcome) → NodesStayInWorld w (world_with_record w e o)
unfolding world_with_record
stays_idle w e o = stays_but w e o w.stopped w.lives (λ j z. z)

stays_stop : (w : World) (e : Event) (o : Outcome) (name : ℕ) → NodesStayInWorld w (world_with_record (record w { stopped = w.stopped ++ name ∷ [] }) e o)
unfolding world_with_record
stays_stop w e o name = stays_but w e o (w.stopped ++ name ∷ []) w.lives (with_more w.stopped (name ∷ []))

stays_return : (w : World) (e : Event) (o : Outcome) (place : ℕ) → NodesStayInWorld w (world_with_next_life (world_with_record w e o) place)
unfolding world_with_record
stays_return w e o place = stays_but w e o (world_with_next_life (world_with_record w e o) place).stopped (world_with_next_life (world_with_record w e o) place).lives
    (λ j z. split_on_bool (is_stopped w (current w place)) (λ t. rw t z) (λ f. rw f (with_more w.stopped (current w place ∷ []) j z)))

views_stay : (views : List Decided) (m n : Node) (k : ℕ) (d : Decided) → slice_get views k ≡ Some d → slice_get (views_after views m n) k ≡ Some d
views_stay views m n k d at = split_on_bool (worlds.step_decides_view m n) (λ t. rw t (slice_get_of_front views (worlds.last_view_of n ∷ []) k d at)) (λ f. rw f at)

module _ (P : World → Group → Type 0) (rules : Rules) (keeps : PropertyIsKeptByRuns P rules) (moving : StepsMove) (may : MayFound rules) where
  -- one that changes no node
  pub after_idle_event : (events : List Event) (e : Event) (o : Outcome) → IsIdle o → (h : IsFollowed P rules (run rules events))
      → AfterSpared P rules (run rules events) (world_with_record (run rules events) e o) h.to
  unfolding world_with_record
  after_idle_event events e o idle h =
      let w = run rules events in
      after_event_without_move P rules keeps w (world_with_record w e o) (worlds.record_of w e o []) h (stays_idle w e o) refl idle refl (record_keeps_group_standing w e o h.to h.follows.stands)

  -- a step of a name
  pub after_step : (events : List Event) (e : Event) (c : Cause) (step : StepResult) → (let w = run rules events in let i = acting_name w e in is_stopped w i ≡ false → IsCause w i e.act c
      → Effect (w.nodes i) c step → world_with_step w e i step ≡ happens w e → (h : IsFollowed P rules w) → AfterSpared P rules w (world_with_step w e i step) h.to)
  unfolding world_with_step
  after_step events e c step runs cause effect is h =
      let w = run rules events in
      let s = h.to in
      let f = moving rules events e c step s may runs cause effect (sym is) h.follows in
      let shaped = lists_are_shaped_after_moves rules.founders (lowest_name_or_zero rules.founders) rules.resilience s f.to h.follows.group f.path h.shaped in
      record {
        followed = record {
          to = f.to;
          follows = f.is;
          shaped = shaped;
          is = keeps.by_step (record {
            step_ = record { may = may; runs = runs; cause = cause; effect = effect; is = is };
            old = h.follows;
            path = f.path;
            grows = f.grows;
            shaped = shaped;
            new = f.is;
          }) h.is;
        };
        same = complete_marks_stay_by_moves f.path;
        noted = λ k d at. views_stay w.views (w.nodes (acting_name w e)) step.node k d at;
      }

  after_event : (events : List Event) (e : Event) (v : World) → EventHappens (run rules events) e v → v ≡ happens (run rules events) e → (h : IsFollowed P rules (run rules events))
      → After P rules (run rules events) v h.to
  unfolding world_with_record
  after_event events e v (idles o idle) is h = ready_for_marks P rules keeps (run rules events) v h.to (after_idle_event events e o idle h)
  after_event events e v (event.stops runs) is h =
      let w = run rules events in
      quiet_after P rules keeps w v _ h (stays_stop w e _ (acting_name w e)) refl tt refl (stop_keeps_group_standing w e _ (acting_name w e) h.to h.follows.stands)
  after_event events e v (returns place at gone more) is h =
      let w = run rules events in
      quiet_after P rules keeps w v _ h (stays_return w e _ place) refl tt refl (return_keeps_group_standing w e _ place h.to h.follows.stands)
  after_event events e v (steps c step runs cause effect) is h = ready_for_marks P rules keeps (run rules events) v h.to (after_step events e c step runs cause effect is h)

  -- one event more
  pub held_after_next_event : (events : List Event) (e : Event) → HeldUpToFront P rules events → broken_at rules (events ++ e ∷ []) ≡ None → HeldUpToFront P rules (events ++ e ∷ [])
  held_after_next_event events e h whole =
      let w = run rules events in
      let all = events ++ e ∷ [] in
      let old = watch_run rules events in
      let new = watch_run rules all in
      let pushed = watch_all_with_one_more (watch_start rules) events e in
      let here : run rules all ≡ happens w e = run_of_pushed_event rules events e in
      let there : new.world ≡ run rules all = watched_is_run rules all in
      let was_world : old.world ≡ w = watched_is_run rules events in
      let a = after_event events e (happens w e) (events_have_effects w e) refl h.followed in
      let b : After P rules old.world new.world h.to = subst (λ x. After P rules x new.world h.to) (sym was_world)
      (subst (λ x. After P rules w x h.to) (sym (there ∙ here)) a) in
      let ok = watch_unbroken_before_event old e (ap (λ (x : Watch). x.broken) (sym pushed) ∙ whole) in
      let lawful : is_lawful new.world new.complete ≡ true = subst (λ (x : Watch). is_lawful x.world x.complete ≡ true) (sym pushed) ok.now in
      let best : new.complete ≡ greatest_complete new.world old.complete new.world.views = subst (λ (x : Watch).
      x.complete ≡ greatest_complete x.world old.complete x.world.views) (sym pushed) (complete_after_watched_event old e) in
      let small : DecidedStampsAreSmall new.world.views = subst (λ (x : World). DecidedStampsAreSmall x.views) (sym there) (small_run rules all may) in
      let m = mark rules old new h.to b.to b.ready b.same h.tied small b.noted best lawful in
      let marks = marks_now new.world b.to in
      record {
        followed = record {
          to = group_with_complete_marks b.to marks;
          follows = subst (λ x. Following rules x (group_with_complete_marks b.to marks)) there (marked_group_follows_world rules new.world b.to marks b.ready m.may);
          shaped = group_is_shaped_after_marks b.to marks b.ready.shaped;
          is = subst (λ x. P x (group_with_complete_marks b.to marks)) there (keeps.by_quiet new.world new.world b.to (group_with_complete_marks b.to marks)
              (record { stays = nodes_stay_in_same_world new.world; grows = group_grows_by_marks b.to marks; current = refl; chosen = refl; idle = inl refl }) b.is);
        };
        tied = m.tied;
        became = λ d c. became_now rules events e d marks
            (λ was. record {
              marked_ = m.may.stay (key_of_stamp d.stamp) (ap (λ f. f (key_of_stamp d.stamp)) b.same ∙ was.marked_);
              index = was.index;
              there = ap (λ (x : World). slice_get x.views was.index) (sym there) ∙ b.noted was.index d
                  (ap (λ (x : World). slice_get x.views was.index) was_world ∙ was.there);
            })
            (λ k at done. record {
              marked_ = m.all k d (ap (λ (x : World). slice_get x.views k) there ∙ at) (ap (λ x. is_complete x d) there ∙ done);
              index = k;
              there = at;
            })
            (h.became d) c;
      }
    where
      small_run : (rules : Rules) (events : List Event) → MayFound rules → DecidedStampsAreSmall (run rules events).views
      small_run rules events may k d at =
          let h = runs_keep_what_events_keep (WorldNotesViewsOnce rules) (events_note_views_once rules) (start rules) events (start_notes_views_once rules may) in
          (item_of_index_has_property (NotedViewStandsInLog (run rules events).nodes) (run rules events).views k d h.noted at).by

      get_of : (xs : List Decided) (d : Decided) → Contains xs d → (k : ℕ) × (slice_get xs k ≡ Some d)
      get_of xs d c = (c.0, slice_get-get_or xs c.0 d c.1 ∙ ap Some c.2)

      became_now : (rules : Rules) (events : List Event) (e : Event) (d : Decided) (marks : ℕ → Bool) {R : Type 0} → (ViewBecameCompleteInGroup (run rules events) h.to d → R)
          → ((k : ℕ) → slice_get (run rules (events ++ e ∷ [])).views k ≡ Some d → is_complete (run rules (events ++ e ∷ [])) d ≡ true → R)
          → (BecameComplete rules events d → ViewBecameCompleteInGroup (run rules events) h.to d) → BecameComplete rules (events ++ e ∷ []) d → R
      became_now rules events e d marks stay all before (k, among, done) = either (le_or_gt k (length events))
          (λ low. (let same = take-append-le k events (e ∷ []) low in
          stay (before (k, subst (λ l. Contains (run rules l).views d) same among, subst (λ l. is_complete (run rules l) d ≡ true) same done))))
          (λ high. (let long = length-append events (e ∷ []) in
          let same = take_all k (events ++ e ∷ []) (omega arith) in
          let at = get_of (run rules (events ++ e ∷ [])).views d (subst (λ l. Contains (run rules l).views d) same among) in
          all at.0 at.1 (subst (λ l. is_complete (run rules l) d ≡ true) same done)))
