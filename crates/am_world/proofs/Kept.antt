-- A world's watcher keeps what is watched of its run.
use Rattle.am_world.proofs.Words.{watch_all_with_one_more, number_equals_itself, ◌≡◌, ℕ, ◌+◌, ◌<◌, ◌≤◌, not, Bool, true, false, if◌then◌else◌, List, [], ◌∷◌, ◌++◌, length, drop}
use Rattle.am_world.proofs.Words.{refl, sym, ap, ◌∙◌, subst, arith, length-append, Entry, Image, Outcome, NodeEvent, Rules, MayFound, place_of_name, Event}
use Rattle.am_world.proofs.Words.{members_of_image, end_has_image_of_whole_log, view, map_with_value, step, run, happens, world_with_step, current, is_stopped, Watch, watch_start, watch_event, watch_events}
use Rattle.am_world.proofs.Words.{watch_run, IsEndOf, watched_is_run, NameStanding, Watching, watching_at_start, standing, watched_step, note_stop, pass_event, watch_accepts, Watches}
use Rattle.am_world.proofs.Words.{NameSteps, SteppedTo, standing_of, last_view_of_node, entries_added_to_group, StampIsNew, watch_is_after_event, world_stepped_to_node, steps_are_watched, stop_is_watched}
use Rattle.am_world.proofs.Words.{idle_event_is_watched, return_is_watched, first_watching_is_kept, Play, replay, after_answer, comes, list_begins_in_step, standing_after, shown_node_of}
use Rattle.am_world.proofs.Words.{views_stored_in_step, watching_after_told_step, stops_by_outcome, IsWatched, acting_name, actor_is_below_256, run_has_names}
use Rattle.am_group_defs.specs.World.{step_decides_view}
use Rattle.am_lawful_defs.specs.Watches.{watch_after}
use Rattle.am_base.specs.declared.outcome.Outcome.TheVariants as said
use Rattle.am_model.specs.Node as protocol
use Rattle.am_group_defs.specs.World as model
use Rattle.am_world.specs.Runs as runs
use Rattle.am_step_laws.proofs.Watching.Stored.{each_step_keeps_own_facts, log_start_after_step, stored_views_after_step}
use Rattle.am_world.proofs.{Goes.replay_with_next_event, Acts.base_of_node_end}
use Rattle.am_journal.specs.declared.asked.Asked.TheVariants as asked

-- ---- how many events there were

count_all : (s : Watch) (es : List Event) → (watch_events s es).count ≡ s.count + length es
unfolding watch_events watch_event
count_all s [] = omega arith
count_all s (e ∷ es) = count_all (watch_event s e) es ∙ omega arith

pub watched_count_is_events : (p : Play) (k : Watching) → IsWatched p k → k.count ≡ length p.events
watched_count_is_events p k h = h.count ∙ count_all (watch_start p.rules) p.events ∙ omega arith

-- ---- an event more

next_watched : (rules : Rules) (events : List Event) (e : Event) (v : model.World) → happens (run rules events) e ≡ v
    → watch_after (watch_run rules events) v ≡ watch_run rules (events ++ e ∷ [])
next_watched rules events e v is =
    let s = watch_run rules events in
    sym (watch_all_with_one_more (watch_start rules) events e ∙ watch_is_after_event s e ∙ ap (λ (w : model.World). watch_after s (happens w e)) (watched_is_run rules events)
    ∙ ap (watch_after s) is)

-- ---- what a node's end shows

end_view_of : (all m : protocol.Node) → IsEndOf all m → last_view_of_node m ≡ last_view_of_node all
end_view_of all m is =
    ap (λ (i : Image). record { number = i.view_number; view = record { stamp = i.view; members = members_of_image i; resilience = i.resilience } })
    (end_has_image_of_whole_log all.core.log m.core.log is.stands.kept)

end_standing : (before : NameStanding) (all m : protocol.Node) → IsEndOf all m
    → all.core.log.start ≡ (if list_begins_in_step before all.status then all.core.base else before.from) → standing_after before (shown_node_of m) ≡ standing_of all
end_standing before all m is from =
    let status = ap (λ (n : protocol.Node). n.status) is.same in
    let start = ap (λ (n : protocol.Node). n.core.start) is.same in
    let views = ap (λ (i : Image). i.view) (end_has_image_of_whole_log all.core.log m.core.log is.stands.kept) in
    let place : (if list_begins_in_step before m.status then m.core.base else before.from) ≡ all.core.log.start =
    ap (λ s. if list_begins_in_step before s then m.core.base else before.from) status
    ∙ ap (λ b. if list_begins_in_step before all.status then b else before.from) (base_of_node_end all m is) ∙ sym from in
    λ i. record { status = status i; view = views i; start = start i; from = place i }

drop_known : (group more : List Entry) → drop (length group) (group ++ more) ≡ more
drop_known [] more = refl
drop_known (x ∷ group) more = drop_known group more

-- ---- a name's step

told_as : (k : Watching) (name : ℕ) (what : NodeEvent) (m n : protocol.Node) (number count : ℕ) (group more : List Entry) (before : NameStanding)
    → standing k name ≡ before → standing_after before (shown_node_of m) ≡ standing_of n → last_view_of_node m ≡ last_view_of_node n → number ≡ count → group ≡ more
    → watching_after_told_step k name (shown_node_of m) what number group ≡ watch_accepts (watched_step k name (standing_of n) (last_view_of_node n) (views_stored_in_step name before (standing_of n) (last_view_of_node n) what))
    count more
unfolding watching_after_told_step
told_as k name what m n number count group more before was stands ends counted grown =
    ap (λ b. watch_accepts (watched_step k name (standing_after b (shown_node_of m)) (last_view_of_node m) (views_stored_in_step name b (standing_after b (shown_node_of m)) (last_view_of_node m) what)) number group) was
    ∙ ap (λ a. watch_accepts (watched_step k name a (last_view_of_node m) (views_stored_in_step name before a (last_view_of_node m) what)) number group) stands
    ∙ ap (λ v. watch_accepts (watched_step k name (standing_of n) v (views_stored_in_step name before (standing_of n) v what)) number group) ends
    ∙ ap (λ c. watch_accepts (watched_step k name (standing_of n) (last_view_of_node n) (views_stored_in_step name before (standing_of n) (last_view_of_node n) what)) c group) counted
    ∙ ap (λ g. watch_accepts (watched_step k name (standing_of n) (last_view_of_node n) (views_stored_in_step name before (standing_of n) (last_view_of_node n) what)) count g) grown

lives_stay : (w : model.World) (e : Event) (what : NodeEvent) → current (comes w e (asked.Step what)) (place_of_name e.node) ≡ current w (place_of_name e.node)
unfolding world_with_step
lives_stay w e what = refl

act_at : (p : Play) (k : Watching) (e : Event) (what : NodeEvent) (m : protocol.Node) (known : ℕ) (group : List Entry)
    → MayFound p.rules → IsWatched p k → acting_name (replay p) e < 256 → happens (replay p) e ≡ comes (replay p) e (asked.Step what)
    → IsEndOf ((replay (runs.play_after p e)).nodes (acting_name (replay p) e)) m → known ≡ length (replay p).group → group ≡ (replay (runs.play_after p e)).group
    → IsWatched (runs.play_after p e) (watching_after_told_step k (acting_name (replay p) e) (shown_node_of m) what (known + 1) (drop known group))
act_at p k e what m known group may kept within is end known_is group_is =
    let w = replay p in
    let s = watch_run p.rules p.events in
    let name = acting_name w e in
    let old = w.nodes name in
    let st = step old what in
    let n = st.node in
    let v = world_with_step w e name st in
    let to = world_stepped_to_node w e name st in
    let same : w ≡ s.world = sym (watched_is_run p.rules p.events) in
    let itself : map_with_value w.nodes name n name ≡ n = rw (number_equals_itself name) refl in
    let node_is : v.nodes name ≡ n = ap (λ (ns : ℕ → protocol.Node). ns name) to.nodes ∙ itself in
    let now : replay (runs.play_after p e) ≡ v = replay_with_next_event p e ∙ is in
    let ends : IsEndOf n m = subst (λ x. IsEndOf x m) (ap (λ (x : model.World). x.nodes name) now ∙ node_is) end in
    let before : standing k name ≡ standing_of old = kept.sees.names name ∙ ap (λ (x : model.World). standing_of (x.nodes name)) (sym same) in
    let more : drop known group ≡ entries_added_to_group w.group n = ap (drop known) (group_is ∙ ap (λ (x : model.World). x.group) now ∙ to.group)
    ∙ ap (λ c. drop c (w.group ++ entries_added_to_group w.group n)) known_is ∙ drop_known w.group (entries_added_to_group w.group n) in
    let told_is = told_as k name what m n (known + 1) (length w.group + 1) (drop known group) (entries_added_to_group w.group n) (standing_of old) before
    (end_standing (standing_of old) n m ends (log_start_after_step p.rules p.events e what may is)) (end_view_of n m ends) (ap (λ c. c + 1) known_is) more in
    let entries = views_stored_in_step name (standing_of old) (standing_of n) (last_view_of_node n) what in
    let facts = each_step_keeps_own_facts p.rules p.events e v may is in
    let done : NameSteps w name n entries = record {
      within = within;
      own = ap (λ (x : protocol.Node). x.core.who) (sym node_is) ∙ facts.own;
      views = stored_views_after_step p.rules p.events e what may is;
      begins = subst (λ (x : protocol.Node). x.core.log.start ≤ length w.group) node_is facts.begins_;
      new = subst (λ (x : protocol.Node). step_decides_view old x ≡ true → StampIsNew w (view x)) node_is facts.new;
    } in
    let P : model.World → Type 0 = λ x. Watches (watch_accepts (watched_step k name (standing_of n) (last_view_of_node n) entries) (length x.group + 1) (entries_added_to_group w.group n))
    (watch_after s v) in
    let watches = steps_are_watched k s v name n entries (entries_added_to_group w.group n) kept (subst (λ x. NameSteps x name n entries) same done)
    (subst (λ x. SteppedTo x v name n (entries_added_to_group w.group n)) same to) in
    subst (λ q. Watches q (watch_run p.rules (p.events ++ e ∷ []))) (sym told_is)
    (subst (Watches (watch_accepts (watched_step k name (standing_of n) (last_view_of_node n) entries) (length w.group + 1) (entries_added_to_group w.group n)))
    (next_watched p.rules p.events e v is) (subst P (sym same) watches))

pub act_is_watched : (p : Play) (k : Watching) (e : Event) (name : ℕ) (what : NodeEvent) (m : protocol.Node) (known : ℕ) (group : List Entry)
    → MayFound p.rules → IsWatched p k → name ≡ current (replay p) (place_of_name e.node) → happens (replay p) e ≡ comes (replay p) e (asked.Step what)
    → IsEndOf ((replay (runs.play_after p e)).nodes (current (replay (runs.play_after p e)) (place_of_name e.node))) m → known ≡ length (replay p).group
    → group ≡ (replay (runs.play_after p e)).group → IsWatched (runs.play_after p e) (watching_after_told_step k name (shown_node_of m) what (known + 1) (drop known group))
act_is_watched p k e name what m known group may kept here is end known_is group_is =
    let w = replay p in
    let now : replay (runs.play_after p e) ≡ comes w e (asked.Step what) = replay_with_next_event p e ∙ is in
    let stays : current (replay (runs.play_after p e)) (place_of_name e.node) ≡ acting_name w e = ap (λ (x : model.World). current x (place_of_name e.node)) now
    ∙ lives_stay w e what in
    let end_at : IsEndOf ((replay (runs.play_after p e)).nodes (acting_name w e)) m = subst (λ j. IsEndOf ((replay (runs.play_after p e)).nodes j) m) stays end in
    subst (λ j. IsWatched (runs.play_after p e) (watching_after_told_step k j (shown_node_of m) what (known + 1) (drop known group))) (sym here)
    (act_at p k e what m known group may kept (actor_is_below_256 p.rules w e (run_has_names p.rules p.events may)) is end_at known_is group_is)

-- ---- an event that is no step

flip : (b : Bool) (k j : Watching) → (if b then k else j) ≡ (if not b then j else k)
flip true k j = refl
flip false k j = refl

answer_at : (p : Play) (k : Watching) (e : Event) (outcome : Outcome) → IsWatched p k → happens (replay p) e ≡ after_answer (replay p) e outcome
    → IsWatched (runs.play_after p e) (if stops_by_outcome (is_stopped (replay p) (current (replay p) (place_of_name e.node))) outcome then note_stop k
    (current (replay p) (place_of_name e.node)) else pass_event k)
answer_at p k e said.Stopped kept is = stop_is_watched p.rules p.events e said.Stopped (current (replay p) (place_of_name e.node)) k is kept
answer_at p k e (said.Returned life) kept is =
    let name = current (replay p) (place_of_name e.node) in
    subst (IsWatched (runs.play_after p e)) (flip (is_stopped (replay p) name) (pass_event k) (note_stop k name))
    (return_is_watched p.rules p.events e (said.Returned life) (place_of_name e.node) k is kept)
answer_at p k e outcome kept is = idle_event_is_watched p.rules p.events e outcome k is kept

pub answer_is_watched : (p : Play) (k : Watching) (e : Event) (name : ℕ) (outcome : Outcome) (stops : Bool) → IsWatched p k
    → name ≡ current (replay p) (place_of_name e.node) → happens (replay p) e ≡ after_answer (replay p) e outcome → stops
    ≡ stops_by_outcome (is_stopped (replay p) name) outcome → IsWatched (runs.play_after p e) (if stops then note_stop k name else pass_event k)
answer_is_watched p k e name outcome stops kept here is which =
    let now = answer_at p k e outcome kept is in
    rw which (subst (λ j. IsWatched (runs.play_after p e) (if stops_by_outcome (is_stopped (replay p) j) outcome then note_stop k j else pass_event k)) (sym here) now)

pub group_grows_by_event : (p : Play) (e : Event) (what : NodeEvent) → happens (replay p) e ≡ comes (replay p) e (asked.Step what)
    → length (replay p).group ≤ length (replay (runs.play_after p e)).group
group_grows_by_event p e what is =
    let w = replay p in
    let n = (step (w.nodes (acting_name w e)) what).node in
    let to = world_stepped_to_node w e (acting_name w e) (step (w.nodes (acting_name w e)) what) in
    let now : (replay (runs.play_after p e)).group ≡ w.group ++ entries_added_to_group w.group n = ap (λ (x : model.World). x.group) (replay_with_next_event p e ∙ is) ∙ to.group in
    let long = ap length now in
    let l = length-append w.group (entries_added_to_group w.group n) in
    omega arith

pub begin_is_watched : (p : Play) (rules : Rules) (k : Watching) → MayFound rules → p ≡ record { rules = rules; events = [] } → k ≡ watching_at_start rules
    → IsWatched p k
begin_is_watched p rules k may is from = subst (λ q. IsWatched q k) (sym is)
    (subst (λ j. IsWatched (record { rules = rules; events = [] }) j) (sym from) (first_watching_is_kept rules may))
