-- A name's step only adds entries to its list.
use Rattle.am_step_laws.proofs.Watching.WatchedWords.{EachNodeHas, events_keep_each_node, first_node_has_property, number_equals_itself, ◌≡◌, ℕ, ◌<◌, ◌≤◌, Bool, false, if◌then◌else◌, List, [], ◌++◌, length}
use Rattle.am_step_laws.proofs.Watching.WatchedWords.{drop, refl, sym, ap, ◌∙◌, subst, arith, All, append-nil, drop-append_seam, Rules, MayFound, Packet, Event, Node, has_log_by_status}
use Rattle.am_step_laws.proofs.Watching.WatchedWords.{StepResult, World, start, first_node, world_with_step, run, packet_heard_by_act, Cause, Effect, acting_name, WasSentTo, IsCause, steps, changes_keep_property}
use Rattle.am_step_laws.proofs.Watching.WatchedWords.{EventsKeep, runs_keep_what_events_keep, accepted_of, NodeNumbers, NodesHaveTheirNames, actor_is_below_256, events_keep_names, number_bounds_hold_in_runs, WorldNotesViewsOnce, heard_stamps_have_names}
use Rattle.am_step_laws.proofs.Watching.WatchedWords.{events_note_views_once, start_notes_views_once, ListsGoOn}
use Rattle.am_packet.specs.declared.packet.Packet.TheVariants as packet
use Rattle.am_step_laws.proofs.Watching.Chains.{HasLongerEntries, changes_lengthen_entries, WelcomeBaseIsWithin, change_keeps_start_within, changes_keep_log_start}

-- without a list there are no entries
abbrev pub HasNoEntriesWithoutLog : Node → Type 0
HasNoEntriesWithoutLog m = has_log_by_status m.status ≡ false → m.core.log.entries ≡ []

abbrev pub ListlessNodesHaveNoEntries : Rules → World → Type 0
ListlessNodesHaveNoEntries rules = EachNodeHas (WorldNotesViewsOnce rules) (λ name n. name < 256 → HasNoEntriesWithoutLog n)

-- what a step adds
step_longer : (rules : Rules) (w : World) (e : Event) (c : Cause) (s : StepResult) → IsCause w (acting_name w e) e.act c → Effect (w.nodes (acting_name w e)) c s
    → WorldNotesViewsOnce rules w → (acting_name w e < 256 → HasNoEntriesWithoutLog (w.nodes (acting_name w e))) → HasLongerEntries (w.nodes (acting_name w e)) s.node
step_longer rules w e c s cause effect views bare =
    let m = w.nodes (acting_name w e) in
    let few = actor_is_below_256 rules w e views.named in
    let kept = views.each (acting_name w e) few in
    changes_lengthen_entries m m s.node (heard_stamps_have_names rules w e c views cause) effect.changes kept.names kept.balloted
    (record { bare = bare few; more = []; is = sym (append-nil m.core.log.entries) })

pub events_keep_listless_nodes_bare : (rules : Rules) → EventsKeep (ListlessNodesHaveNoEntries rules)
events_keep_listless_nodes_bare rules = events_keep_each_node (WorldNotesViewsOnce rules) _ (events_note_views_once rules)
    (λ w e c s cause effect views bare few. (step_longer rules w e c s cause effect views bare).bare)

bare_first : (rules : Rules) (name : ℕ) → HasNoEntriesWithoutLog (first_node rules name)
bare_first rules name = first_node_has_property rules HasNoEntriesWithoutLog name (λ f. absurd (cc)) (λ f. refl)

pub start_has_bare_listless_nodes : (rules : Rules) → MayFound rules → ListlessNodesHaveNoEntries rules (start rules)
start_has_bare_listless_nodes rules may = record { base = start_notes_views_once rules may; each = λ name few. bare_first rules name }

pub run_has_bare_listless_nodes : (rules : Rules) (events : List Event) → MayFound rules → ListlessNodesHaveNoEntries rules (run rules events)
run_has_bare_listless_nodes rules events may = runs_keep_what_events_keep (ListlessNodesHaveNoEntries rules) (events_keep_listless_nodes_bare rules) (start rules) events (start_has_bare_listless_nodes rules may)

-- a Welcome tells of what the group has accepted
heard_low : (rules : Rules) (events : List Event) (e : Event) (c : Cause) → IsCause (run rules events) (acting_name (run rules events) e) e.act c
    → WelcomeBaseIsWithin c (length (run rules events).group)
heard_low rules events e c cause = record {
  welcome = λ s v base join image is.
      (let w = run rules events in
      let p = packet.Welcome s v base join image in
      let was : WasSentTo w (acting_name w e) e.act p = subst (IsCause w (acting_name w e) e.act) is cause in
      let low = ((number_bounds_hold_in_runs rules events).letters (packet_heard_by_act e.act) was.letter was.there).accepted in
      let here : All (λ n. n ≤ length w.group) (accepted_of p) = subst (λ (x : Packet). All (λ n. n ≤ length w.group) (accepted_of x)) was.is low in
      here 0 0 (omega arith));
}

pub lists_only_grow_in_runs : ListsGoOn
unfolding world_with_step
lists_only_grow_in_runs rules events e c s may runs cause effect =
    let w = run rules events in
    let name = acting_name w e in
    let m = w.nodes name in
    let n = s.node in
    let h = run_has_bare_listless_nodes rules events may in
    let longer = step_longer rules w e c s cause effect h.base (h.each name) in
    let named : NodesHaveTheirNames rules (world_with_step w e name s) = events_keep_names rules w e (world_with_step w e name s) (steps c s runs cause effect) h.base.named in
    let low : NodeNumbers (length events) (length w.group) m = (number_bounds_hold_in_runs rules events).each name in
    let first : m.core.log.start ≤ length w.group = let a = low.kept in let b = low.base in omega arith in
    record {
      within = actor_is_below_256 rules w e h.base.named;
      own = ap (λ (b : Bool). (if b then n else m).core.who) (sym (number_equals_itself name)) ∙ named.who name;
      adds = longer.is ∙ ap (λ more. m.core.log.entries ++ more)
          (sym (ap (drop (length m.core.log.entries)) longer.is ∙ drop-append_seam m.core.log.entries longer.more));
      begins = changes_keep_property (λ (x : Node). x.core.log.start ≤ length w.group) (change_keeps_start_within (length w.group) (heard_low rules events e c cause)) effect.changes first;
      stays = λ t. (let kept = h.base.each name (actor_is_below_256 rules w e h.base.named) in
          changes_keep_log_start m n (heard_stamps_have_names rules w e c h.base cause) effect.changes kept.names kept.balloted t);
    }
