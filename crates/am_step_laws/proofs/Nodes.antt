-- What each node keeps in every run, beside a law of worlds that it may stand on.
use Rattle.am_step_laws.proofs.EffectWords.{◌≡◌, ℕ, ◌==◌, List, subst, arith, nat_tests, split_on_bool, Outcome, Rules, has, Event, Node, founder, stranger_node, StepResult, World}
use Rattle.am_step_laws.proofs.EffectWords.{start, run, first_node, world_with_record, world_with_step, Cause, Change, Effect, acting_name, IsCause, steps}
use Rattle.am_step_laws.proofs.EffectWords.{All, Packet, Letter, hears, packet_heard_by_act, WasSentTo}
use Rattle.am_step_laws.proofs.EffectRuns.{changes_keep_property, EventsKeep, runs_keep_what_events_keep}
use Rattle.am_step_laws.proofs.Items.{all_gives_item_at}

-- what is so of each name's node, and a law of the world beside it
pub record EachNodeHas (Base : World → Type 0) (P : ℕ → Node → Type 0) (w : World) : Type 0 where
  pub base : Base w
  pub each : (name : ℕ) → P name (w.nodes name)

-- what each step keeps for the name that acts
abbrev pub StepsKeepOfActor : (World → Type 0) → (ℕ → Node → Type 0) → Type 0
StepsKeepOfActor Base P = (w : World) (e : Event) (c : Cause) (s : StepResult) → IsCause w (acting_name w e) e.act c → Effect (w.nodes (acting_name w e)) c s → Base w
    → P (acting_name w e) (w.nodes (acting_name w e)) → P (acting_name w e) s.node

pub events_keep_each_node : (Base : World → Type 0) (P : ℕ → Node → Type 0) → EventsKeep Base → StepsKeepOfActor Base P → EventsKeep (EachNodeHas Base P)
unfolding world_with_record world_with_step
events_keep_each_node Base P keeps own w e v (steps c s runs cause effect) h = record {
  base = keeps w e v (steps c s runs cause effect) h.base;
  each = λ name. split_on_bool (name == acting_name w e)
      (λ t. let same : acting_name w e ≡ name = grind (arith, nat_tests) in
      rw t (subst (λ k. P k s.node) same (own w e c s cause effect h.base (h.each (acting_name w e)))))
      (λ f. rw f (h.each name));
}
events_keep_each_node Base P keeps own w e v other h = record { base = keeps w e v other h.base; each = h.each }

-- a founder and a stranger begin so
pub first_node_has_property : (rules : Rules) (P : Node → Type 0) (name : ℕ) → P (founder rules name) → P (stranger_node rules name) → P (first_node rules name)
first_node_has_property rules P name founding strange = split_on_bool (has rules.founders name) (λ t. rw t founding) (λ f. rw f strange)

-- what a founder and a stranger have and each change keeps is so of each node of every run
pub record IsKeptFromTheFirst (rules : Rules) (P : Node → Type 0) : Type 0 where
  pub founder_has : (name : ℕ) → P (founder rules name)
  pub stranger_has : (name : ℕ) → P (stranger_node rules name)
  pub change_keeps : {c : Cause} {o : Outcome} (m n : Node) → Change c o m n → P m → P n

pub nodes_of_runs_keep : (rules : Rules) (P : Node → Type 0) → IsKeptFromTheFirst rules P → (events : List Event) (name : ℕ) → P ((run rules events).nodes name)
nodes_of_runs_keep rules P own events =
    (runs_keep_what_events_keep (EachNodeHas (λ w. Unit {0}) (λ name. P)) (events_keep_each_node _ (λ name. P) (λ w e v happens h. tt)
    (λ w e c s cause effect base h. changes_keep_property P (λ m n. own.change_keeps m n) effect.changes h)) (start rules) events
    (record { base = tt; each = λ name. first_node_has_property rules P name (own.founder_has name) (own.stranger_has name) })).each

-- what is so of each letter's packet is so of the one that is heard
pub heard_packet_has_property : (P : Packet → Type 0) (w : World) (e : Event) (c : Cause) (p : Packet) → IsCause w (acting_name w e) e.act c → c ≡ hears p
    → All (λ (l : Letter). P l.packet) w.letters → P p
heard_packet_has_property P w e c p cause is all =
    let was : WasSentTo w (acting_name w e) e.act p = subst (IsCause w (acting_name w e) e.act) is cause in
    subst P was.is (all_gives_item_at (λ (l : Letter). P l.packet) w.letters (packet_heard_by_act e.act) was.letter all was.there)
