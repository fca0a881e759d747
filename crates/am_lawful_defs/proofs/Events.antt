-- What each kind of event makes of a world, in the words of what is kept.
use Rattle.am_lawful_defs.proofs.Words.{◌≡◌, ℕ, ◌==◌, if◌then◌else◌, List, [], ◌∷◌, ◌++◌, refl, sym, append-nil, Entry, Outcome, Event, Node, view, StepResult, World}
use Rattle.am_lawful_defs.proofs.Words.{world_with_record, world_with_next_life, current, is_stopped, list_after_step, happens, Watch, watch_event, split_on_bool, watch_after, entries_added_to_group, SameButWhoStopped}
use Rattle.am_lawful_defs.proofs.Words.{SteppedTo}
use Rattle.am_group_defs.specs.World as run

-- the watched run after an event
pub watch_is_after_event : (s : Watch) (e : Event) → watch_event s e ≡ watch_after s (happens s.world e)
unfolding watch_event
watch_is_after_event s e = refl

-- an event that changes no node
pub world_same_by_answer : (w : World) (e : Event) (o : Outcome) → SameButWhoStopped w (world_with_record w e o) w.stopped
unfolding world_with_record
world_same_by_answer w e o = record { nodes = refl; stopped = refl; views = refl; group = refl }

-- a stop
pub world_same_but_stopped : (w : World) (e : Event) (o : Outcome) (gone : List ℕ) → SameButWhoStopped w (world_with_record (record w { stopped = gone }) e o) gone
unfolding world_with_record
world_same_but_stopped w e o gone = record { nodes = refl; stopped = refl; views = refl; group = refl }

-- a return: the name before counts as stopped, if it didn't before
pub world_same_but_lives : (w : World) (e : Event) (o : Outcome) (place : ℕ)
    → SameButWhoStopped w (world_with_next_life (world_with_record w e o) place) (if is_stopped w (current w place) then w.stopped else w.stopped ++ current w place ∷ [])
unfolding world_with_record
world_same_but_lives w e o place = record { nodes = refl; stopped = refl; views = refl; group = refl }

-- what a node adds to the group list
group_grows : (group : List Entry) (n : Node) → list_after_step group n ≡ group ++ entries_added_to_group group n
group_grows group n = split_on_bool ((view n).by == n.core.who) (λ t. rw t refl) (λ t. rw t (sym (append-nil group)))

-- a name's step
pub world_stepped_to_node : (w : World) (e : Event) (name : ℕ) (s : StepResult) → SteppedTo w (run.world_with_step w e name s) name s.node (entries_added_to_group w.group s.node)
unfolding run.world_with_step
world_stepped_to_node w e name s = record { nodes = refl; stopped = refl; views = refl; group = group_grows w.group s.node }
