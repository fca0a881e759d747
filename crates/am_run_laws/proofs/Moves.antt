-- Each event of a run in which nobody began a ballot moves the group by its record alone.
use Rattle.am_run_laws.proofs.UnballotedWords.{◌≡◌, ◌≢◌, ⊎_elim, ℕ, ◌+◌, ◌-◌, ◌<◌, ◌≤◌, ◌==◌, true, if◌then◌else◌, List, [], ◌∷◌, ◌++◌, length, map, Option}
use Rattle.am_run_laws.proofs.UnballotedWords.{Some, None, slice_get, slice_set, slice_index_or, refl, sym, ap, ◌∙◌, subst, append-nil, arith, range_with_len}
use Rattle.am_run_laws.proofs.UnballotedWords.{nat_tests, get_or_from_slice_get, length-take-le, Entry, Join, Outcome, Rules, place_of_name, Event, item_at, entry_above_front}
use Rattle.am_run_laws.proofs.UnballotedWords.{numbered_entry, fronts_with_admitted, entry_taken_by_outcome, Node, view, map_with_value, has_log_by_status, World, start, record_of, list_after_step}
use Rattle.am_run_laws.proofs.UnballotedWords.{world_with_record, world_with_step, happens, run, FrontsGroup, next_entry_of, admit, FrontsGrow, none, GivesOut, node_front, group_of, NoBallot}
use Rattle.am_run_laws.proofs.UnballotedWords.{MovesOn, UnballotedMoves, split_on_bool, Cause, OutcomeTells, acting_name, EventHappens, idles, stops, returns, steps, events_have_effects}
use Rattle.am_run_laws.proofs.UnballotedWords.{EventsKeep, runs_keep_what_events_keep}
use Rattle.am_base.specs.declared.outcome.Outcome.TheVariants as said
use Rattle.am_run_laws.proofs.Chains.{front_of_given, taken_below_accepted_passes_low, no_ballot_after_none_before, GaveByAnswer, nothing, took, began}
use Rattle.am_run_laws.proofs.{Lists.item_at_is_slice_get, Lists.item_at_of_take, UnballotedKept.first_founder_of, UnballotedKept.AcceptedStandsAt, UnballotedKept.UnballotedNodeKeeps, Others.logless_node_is_no_founder, Worlds.WorldKeepsWholeList, Worlds.UnballotedWorldHolds}
use Rattle.am_run_laws.proofs.{Records.idle_outcome_takes_nothing, Steps.outcome_takes_nothing_or_entry, Steps.answered_entry_was_taken, Steps.node_entry_at_is_item, Actors.step_gives_what_it_answers, UnballotedRuns.UnballotedWorldKeeps, UnballotedRuns.unballoted_runs_keep_world}
use Rattle.am_run_laws.proofs.{UnballotedRuns.events_keep_unballoted_worlds, UnballotedRuns.acting_name_had_no_ballot, UnballotedRuns.no_name_had_a_ballot, Fronts.map_of_equal_functions, Fronts.slice_get_of_mapped_range, Fronts.slice_set_of_mapped_range, Fronts.appended_entries_grow_group}
use Rattle.am_run_laws.proofs.{Fronts.group_growth_then_move}

-- ---- names are few

record LivesOk (w : World) : Type 0 where
  each : (place : ℕ) → (0 < w.lives place) × (w.lives place ≤ 16)

lives_keep : EventsKeep LivesOk
unfolding world_with_record world_with_step
lives_keep w e v (returns place is gone more) h = record {
  each = λ p. split_on_bool (p == place)
      (λ t. let low = (h.each place).1 in let other : w.lives place ≢ 16 = (λ z. let y : ⊥ = grind (arith, nat_tests) in y) in rw t (omega arith, omega arith))
      (λ f. rw f (h.each p));
}
lives_keep w e v _ h = record { each = h.each }

lives_run : (rules : Rules) (events : List Event) → LivesOk (run rules events)
lives_run rules events = runs_keep_what_events_keep LivesOk lives_keep (start rules) events (record { each = λ place. (omega arith, omega arith) })

actor_low : (w : World) (e : Event) → LivesOk w → acting_name w e < 256
actor_low w e h =
    let place : place_of_name e.node < 16 = omega arith in
    let life = (h.each (place_of_name e.node)).1 in
    omega arith

-- ---- fronts

group_long : (group : List Entry) (n : Node) → (es : List Entry) × (list_after_step group n ≡ group ++ es)
group_long group n = split_on_bool ((view n).by == n.core.who) (λ t. rw t (_, refl)) (λ f. rw f ([], sym (append-nil group)))

fronts_of : (ℕ → Node) → List (Option ℕ)
fronts_of nodes = map (λ name. node_front (nodes name)) (range_with_len 0 256)

-- one name's front set
fronts_set : (nodes : ℕ → Node) (i : ℕ) (n : Node) → i < 256 → fronts_of (map_with_value nodes i n) ≡ slice_set (fronts_of nodes) i (node_front n)
unfolding fronts_of
fronts_set nodes i n low =
    let z : 0 + i ≡ i = omega arith in
    map_of_equal_functions (λ name. node_front (map_with_value nodes i n name)) (map_with_value (λ name. node_front (nodes name)) i (node_front n)) 0 256
    (λ j up. split_on_bool (j == i) (λ t. rw t refl) (λ f. rw f refl))
    ∙ sym (slice_set_of_mapped_range (λ name. node_front (nodes name)) (node_front n) 0 256 i low
    ∙ ap (λ y. map (map_with_value (λ name. node_front (nodes name)) y (node_front n)) (range_with_len 0 256)) z)

-- as it was
fronts_same : (nodes : ℕ → Node) (i : ℕ) (n : Node) → node_front n ≡ node_front (nodes i) → fronts_of (map_with_value nodes i n) ≡ fronts_of nodes
unfolding fronts_of
fronts_same nodes i n same = map_of_equal_functions (λ name. node_front (map_with_value nodes i n name)) (λ name. node_front (nodes name)) 0 256
    (λ j up. split_on_bool (j == i) (λ t. let e : i ≡ j = grind (arith, nat_tests) in rw t (same ∙ ap (λ x. node_front (nodes x)) e)) (λ f. rw f refl))

front_get : (nodes : ℕ → Node) (i : ℕ) → i < 256 → slice_get (fronts_of nodes) i ≡ Some (node_front (nodes i))
unfolding fronts_of
front_get nodes i low = let z : 0 + i ≡ i = omega arith in slice_get_of_mapped_range (λ name. node_front (nodes name)) 0 256 i low ∙ ap (λ y. Some (node_front (nodes y))) z

group_is : (entries : List Entry) (nodes : ℕ → Node) → FrontsGroup
group_is entries nodes = record { entries = entries; fronts = fronts_of nodes }

-- ---- a step

-- what a step of the acting name does to the group
record Does (w : World) (i : ℕ) (n : Node) (o : Outcome) : Type 0 where
  between : FrontsGroup
  takes : GivesOut i (entry_taken_by_outcome o) (group_is w.group w.nodes) between
  grows : FrontsGrow between (group_is (list_after_step w.group n) (map_with_value w.nodes i n))

log_front : (m : Node) → has_log_by_status m.status ≡ true → node_front m ≡ Some (front_of_given m)
log_front m t = rw t refl

grows_to : (group : List Entry) (fronts other : List (Option ℕ)) (n : Node) → fronts ≡ other
    → FrontsGrow (record { entries = group; fronts = fronts }) (record { entries = list_after_step group n; fronts = other })
grows_to group fronts other n same =
    let long = group_long group n in
    let g : FrontsGroup = record { entries = group; fronts = fronts } in
    let end : FrontsGroup = record { entries = list_after_step group n; fronts = other } in
    let is : record g { entries = group ++ long.0 } ≡ end = (λ j. record { entries = sym long.1 j; fronts = same j }) in
    subst (FrontsGrow g) is (appended_entries_grow_group g long.0)

moves_step : (rules : Rules) (list next : List Entry) (acc to : ℕ) (w v : World) (i : ℕ) (n : Node) (c : Cause) (o : Outcome) → i < 256 → WorldKeepsWholeList rules list acc w
    → acc ≤ length list → WorldKeepsWholeList rules next to v → to ≤ length next → v.nodes i ≡ n → v.group ≡ list_after_step w.group n → (w.nodes i).ballot ≡ None
    → OutcomeTells (w.nodes i) c n o → GaveByAnswer c o (w.nodes i) n → Does w i n o
unfolding group_is
moves_step rules list next acc to w v i n c o small h low k high is grew none_ answer (nothing f start log) = ⊎_elim
    (λ (x : entry_taken_by_outcome o ≡ []). record {
      between = group_is w.group w.nodes;
      takes = subst (λ l. GivesOut i l (group_is w.group w.nodes) (group_is w.group w.nodes)) (sym x) refl;
      grows = grows_to w.group (fronts_of w.nodes) (fronts_of (map_with_value w.nodes i n)) n (sym (fronts_same w.nodes i n (λ j. if log j then Some (f j) else None)));
    })
    (λ (x : (number : ℕ) × (e : Entry) × (o ≡ said.Took number e)). (
    let m = w.nodes i in
    let t = answered_entry_was_taken m c n o x.0 x.1 none_ x.2 answer in
    let fm = (h.each i).fronts in
    let less : m.core.taken < m.core.acc = grind (arith, nat_tests) in
    let p = taken_below_accepted_passes_low m.core.taken m.core.acc (m.core.start - 1) fm.passed less in
    absurd (omega arith)))
    (outcome_takes_nothing_or_entry o)
moves_step rules list next acc to w v i n c o small h low k_ high is grew none_ answer (took k e says a b start lo ln lm) =
    let m = w.nodes i in
    let t = answered_entry_was_taken m c n o (k + 1) e none_ says answer in
    let fm = (h.each i).fronts in
    let less : m.core.taken < m.core.acc = grind (arith, nat_tests) in
    let item = node_entry_at_is_item rules list acc i m k e (h.each i) t.there in
    let there : item_at w.group (k + 1) ≡ Some e = ap (λ l. item_at l (k + 1)) h.group ∙ item_at_of_take acc list (k + 1) e (omega arith) item in
    let got : slice_get w.group k ≡ Some e = item_at_is_slice_get w.group (k + 1) k e refl there in
    let at : slice_index_or (fronts_of w.nodes) i None ≡ Some k = get_or_from_slice_get (fronts_of w.nodes) i (node_front m) None (front_get w.nodes i small)
    ∙ log_front m lm ∙ ap Some a in
    let next_ : next_entry_of (group_is w.group w.nodes) i ≡ Some (k + 1, e) = ap (entry_above_front w.group) at ∙ ap (λ x. numbered_entry (k + 1) x) got in
    let new : node_front n ≡ Some (k + 1) = log_front n ln ∙ ap Some b in
    let fronts : slice_set (fronts_of w.nodes) i (Some (k + 1)) ≡ fronts_of (map_with_value w.nodes i n) = ap (slice_set (fronts_of w.nodes) i) (sym new)
    ∙ sym (fronts_set w.nodes i n small) in
    record {
      between = record { entries = w.group; fronts = slice_set (fronts_of w.nodes) i (Some (k + 1)) };
      takes = subst (λ x. GivesOut i (entry_taken_by_outcome x) (group_is w.group w.nodes)
          (record { entries = w.group; fronts = slice_set (fronts_of w.nodes) i (Some (k + 1)) })) (sym says) (next_, refl);
      grows = grows_to w.group (slice_set (fronts_of w.nodes) i (Some (k + 1))) (fronts_of (map_with_value w.nodes i n)) n fronts;
    }
moves_step rules list next acc to w v i n c o small h low k high is grew none_ answer (began s stamp base join image heard says lm ln start f up) =
    let m = w.nodes i in
    let no = logless_node_is_no_founder rules list acc i m (h.each i) lm in
    let joined : AcceptedStandsAt next to n.core.start (Join i) =
    ((subst (UnballotedNodeKeeps rules next to i) is (k.each i)).status.begins ln).joiner no in
    let long : length (list_after_step w.group n) ≡ to = ap length (sym grew ∙ k.group) ∙ length-take-le to next high in
    let g : FrontsGroup = record { entries = w.group; fronts = fronts_of w.nodes } in
    let mid : FrontsGroup = record { entries = list_after_step w.group n; fronts = fronts_of w.nodes } in
    let blank : slice_get mid.fronts i ≡ Some None = front_get w.nodes i small ∙ ap Some (rw lm refl) in
    let new : Some (join - 1) ≡ node_front n = sym (log_front n ln ∙ ap Some f) in
    let fronts : fronts_with_admitted mid.fronts i join ≡ fronts_of (map_with_value w.nodes i n) = ap (slice_set (fronts_of w.nodes) i) new
    ∙ sym (fronts_set w.nodes i n small) in
    let grown_ : FrontsGrow g mid = grows_to w.group (fronts_of w.nodes) (fronts_of w.nodes) n refl in
    let welcomed : FrontsGrow g (record mid { fronts = fronts_with_admitted mid.fronts i join }) = group_growth_then_move grown_ (admit {g = mid} i join blank up (omega arith)) in
    record {
      between = g;
      takes = subst (λ x. GivesOut i (entry_taken_by_outcome x) g g) (sym says) refl;
      grows = subst (λ fs. FrontsGrow g (record { entries = list_after_step w.group n; fronts = fs })) fronts welcomed;
    }

-- ---- each event

accepted_low : (rules : Rules) (w : World) → UnballotedWorldHolds rules w → (w.nodes (first_founder_of rules)).core.acc ≤ length (w.nodes (first_founder_of rules)).core.log.entries
accepted_low rules w h = let f = h.first.base.node.fronts.within in let s = h.first.base.start in omega arith

idle_moves : (w v : World) (e : Event) (o : Outcome) → v.records ≡ w.records ++ record_of w e o [] ∷ [] → group_of v ≡ group_of w → entry_taken_by_outcome o ≡ []
    → MovesOn w v
idle_moves w v e o records group takes = record {
  done = record_of w e o [];
  records = records;
  moves = record {
    between = group_of w;
    takes = subst (λ l. GivesOut (acting_name w e) l (group_of w) (group_of w)) (sym takes) refl;
    grows = subst (FrontsGrow (group_of w)) (sym group) none;
  };
}

moves_by : (rules : Rules) (w : World) (e : Event) (v : World) → UnballotedWorldKeeps rules w → LivesOk w → EventHappens w e v → NoBallot v → MovesOn w v
unfolding world_with_record world_with_step group_is fronts_of
moves_by rules w e v u lives (idles o idle) free = idle_moves w v e o refl refl (idle_outcome_takes_nothing o idle)
moves_by rules w e v u lives (stops runs) free = idle_moves w v e said.Stopped refl refl refl
moves_by rules w e v u lives (returns place is gone more) free = idle_moves w v e _ refl refl refl
moves_by rules w e v u lives (steps c s runs cause effect) free =
    let i = acting_name w e in
    let own = acting_name_had_no_ballot w.nodes i s.node free in
    let before : NoBallot w = no_name_had_a_ballot w.nodes i s.node free (no_ballot_after_none_before effect.changes own) in
    let a = u.ok before in
    let b = (events_keep_unballoted_worlds rules w e v (steps c s runs cause effect) u).ok free in
    let self : (i == i) ≡ true = grind (arith, nat_tests) in
    let mine : map_with_value w.nodes i s.node i ≡ s.node = rw self refl in
    let d = moves_step rules _ _ _ _ w v i s.node c s.outcome (actor_low w e lives) a.kept (accepted_low rules w a) b.kept (accepted_low rules v b) mine refl
    (before i) effect.answer (step_gives_what_it_answers rules w e c s a u.sent cause effect own) in
    record { done = record_of w e s.outcome s.letters; records = refl; moves = record { between = d.between; takes = d.takes; grows = d.grows } }

pub unballoted_events_move_by_record : UnballotedMoves
unballoted_events_move_by_record rules events e may free = moves_by rules (run rules events) e (happens (run rules events) e) (unballoted_runs_keep_world rules events may)
    (lives_run rules events) (events_have_effects (run rules events) e) free
