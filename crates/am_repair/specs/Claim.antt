-- What a lossless schedule repairs.
use Rattle.std.specs.Prelude.{◌≡◌, ℕ, ◌<◌, ◌≤◌, List, true, false}
use Rattle.am_base.specs.Names.{has}
use Rattle.am_base.specs.Lists.{log_members_at}
use Rattle.am_base.specs.Founding.{Rules, MayFound}
use Rattle.am_group.specs.declared.event.Event.{Event}
use Rattle.am_model.specs.Node.{Node, top, view, image_of_node, members, acts_in_its_view, is_sequencer, has_departed}
use Rattle.am_group_defs.specs.Settle.{settle_events}
use Rattle.am_group_defs.specs.World.{World, current, is_stopped, world_after_events, run}
use Rattle.am_group_defs.specs.Lawful.{lawful_front}

-- a name has departed, or is no member by the sequencer's list, from what that has accepted on, and from its last View on
abbrev pub IsOut : World → Node → ℕ → Type 0
IsOut w q name = has_departed (w.nodes name).status ≡ false → (number : ℕ) → q.core.acc ≤ number → (image_of_node q).view_number ≤ number → number ≤ top q
    → has (log_members_at q.core.log number) name ≡ false

-- a sequencer whose members all act in its view, while its list from there on is without those who stopped and those who leave
pub record MayRepair (w : World) (place : ℕ) : Type 0 where
  pub leads : is_sequencer (w.nodes (current w place)) ≡ true
  pub nobody_stopped : (name : ℕ) → is_stopped w name ≡ true → IsOut w (w.nodes (current w place)) name
  pub nobody_leaves : (name : ℕ) → (w.nodes name).leaving ≡ true → IsOut w (w.nodes (current w place)) name
  pub all_act : (name : ℕ) → has (members (w.nodes (current w place))) name ≡ true → (acts_in_its_view (w.nodes name) ≡ true)
      × (view (w.nodes name) ≡ view (w.nodes (current w place)))

-- a member has stored and accepted all up to a number
pub record HasCaughtUp (m : Node) (number : ℕ) : Type 0 where
  pub stored : number ≤ top m
  pub accepted : number ≤ m.core.acc

-- of every lawful run
abbrev pub Repairs : Type 0
Repairs = (rules : Rules) (events : List Event) (place : ℕ) → MayFound rules → place < 16 → lawful_front rules events ≡ events
    → MayRepair (run rules events) place
    → (name : ℕ) → has (members ((run rules events).nodes (current (run rules events) place))) name ≡ true
    → HasCaughtUp ((world_after_events (run rules events) (settle_events rules (run rules events))).nodes name)
    (top ((run rules events).nodes (current (run rules events) place)))
