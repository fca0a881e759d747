-- What is kept by each event is kept by each run.
use Rattle.am_step_laws.proofs.EffectWords.{◌≡◌, List, [], ◌∷◌, refl, Outcome, Event, Node, StepResult, World, world_with_record, world_with_step, happens, world_after_events, Cause, Change}
use Rattle.am_step_laws.proofs.EffectWords.{Changes, no_change, changed, Effect, acting_name, IsCause, EventHappens, steps}
use Rattle.am_step_laws.proofs.Events.{events_have_effects}

-- what each change keeps, some in turn keep
pub changes_keep_property : {c : Cause} {o : Outcome} {m n : Node} (P : Node → Type 0) → ((x y : Node) → Change c o x y → P x → P y) → Changes c o m n → P m → P n
changes_keep_property P f no_change h = h
changes_keep_property P f (changed {m = x} {n = y} z zs) h = changes_keep_property P f zs (f x y z h)

-- what each event keeps
abbrev pub EventsKeep : (World → Type 0) → Type 0
EventsKeep P = (w : World) (e : Event) (v : World) → EventHappens w e v → P w → P v

pub runs_keep_what_events_keep : (P : World → Type 0) → EventsKeep P → (w : World) (events : List Event) → P w → P (world_after_events w events)
unfolding world_after_events
runs_keep_what_events_keep P f w [] h = h
runs_keep_what_events_keep P f w (e ∷ es) h = runs_keep_what_events_keep P f (happens w e) es (f w e (happens w e) (events_have_effects w e) h)

-- ---- a law that stands on another

-- what each step keeps of it
abbrev pub StepsKeepLaw : (World → Type 0) → (World → Type 0) → Type 0
StepsKeepLaw Base Law = (w : World) (e : Event) (c : Cause) (s : StepResult) → IsCause w (acting_name w e) e.act c → Effect (w.nodes (acting_name w e)) c s
    → Base (world_with_step w e (acting_name w e) s) → Law w → Law (world_with_step w e (acting_name w e) s)

-- what stays in an event that is no step
pub record HasSameWorldParts (w v : World) : Type 0 where
  pub nodes : v.nodes ≡ w.nodes
  pub letters : v.letters ≡ w.letters
  pub group : v.group ≡ w.group
  pub views : v.views ≡ w.views

law_after : (Base Law : World → Type 0) → StepsKeepLaw Base Law → ((w v : World) → HasSameWorldParts w v → Base v → Law w → Law v)
    → (w : World) (e : Event) (v : World) → EventHappens w e v → Base v → Law w → Law v
unfolding world_with_record
law_after Base Law step same w e v (steps c s runs cause effect) base h = step w e c s cause effect base h
law_after Base Law step same w e v _ base h = same w v (record { nodes = refl; letters = refl; group = refl; views = refl }) base h

pub events_keep_by_steps : (Base Law : World → Type 0) → EventsKeep Base → ((w : World) → Law w → Base w) → StepsKeepLaw Base Law
    → ((w v : World) → HasSameWorldParts w v → Base v → Law w → Law v) → EventsKeep Law
events_keep_by_steps Base Law keeps stands step same w e v happens h = law_after Base Law step same w e v happens (keeps w e v happens (stands w h)) h
