-- The events of exchanges: how a member that lags behind comes to its sequencer's view in a run.
use Rattle.std.specs.Prelude.{Bool, true, false, ◌&&◌, ◌==◌, count_by, ◌≡◌, ℕ, zero, suc, ◌+◌, ◌-◌, ◌*◌, ◌≤◌, List, [], ◌∷◌, ◌++◌, length}
use Rattle.am_base.specs.Founding.{Rules, MayFound}
use Rattle.am_base.specs.Names.{place_of_name}
use Rattle.am_group.specs.declared.event.Act.{Act}
use Rattle.am_group.specs.declared.event.Act.TheVariants as act
use Rattle.am_group.specs.declared.event.Event.{Event}
use Rattle.am_model.specs.Node.{top, image_of_node}
use Rattle.am_group_defs.specs.Lawful.{lawful_front}
use Rattle.am_group_defs.specs.Settle.{event_at}
use Rattle.am_group_defs.specs.World.{World, current, world_after_events, run}
use Rattle.am_fetch_laws.specs.Exchanges.{ActsInViewOf}
use Rattle.am_fetch_runs.specs.Behind.{LagsBehind}

-- a place hears so many letters, from a number on
unfoldable pub hears_from : ℕ → ℕ → ℕ → List Event
hears_from place number zero = []
hears_from place number (suc left) = event_at place (act.Hear number) ∷ hears_from place (number + 1) left

-- all that were sent above a number
abbrev pub hears_new : World → ℕ → ℕ → List Event
hears_new w place after = hears_from place (after + 1) (length w.letters - after)

-- a member ticks, its sequencer hears what comes of that, and the member hears what comes of that
abbrev pub tick_of : ℕ → List Event
tick_of name = event_at (place_of_name name) act.Tick ∷ []

abbrev pub asked : World → ℕ → World
asked w name = world_after_events w (tick_of name)

abbrev pub served : World → ℕ → ℕ → World
served w q name = world_after_events (asked w name) (hears_new (asked w name) (place_of_name q) (length w.letters))

abbrev pub exchange_events : World → ℕ → ℕ → List Event
exchange_events w q name = tick_of name ++ (hears_new (asked w name) (place_of_name q) (length w.letters)
    ++ hears_new (served w q name) (place_of_name name) (length (asked w name).letters))

unfoldable pub events_of_exchanges : ℕ → World → ℕ → ℕ → List Event
events_of_exchanges zero w q name = []
events_of_exchanges (suc left) w q name = exchange_events w q name ++ events_of_exchanges left (world_after_events w (exchange_events w q name)) q name

-- So in every lawful run that ends where a current name lags behind a current sequencer's View, the events of enough exchanges bring it there.
abbrev pub LaggersReachViewInRuns : Type 0
LaggersReachViewInRuns = (rules : Rules) (events : List Event) (q name many : ℕ) → MayFound rules → lawful_front rules events ≡ events → LagsBehind (run rules events) q name
    → current (run rules events) (place_of_name q) ≡ q → current (run rules events) (place_of_name name) ≡ name
    → (image_of_node ((run rules events).nodes q)).view_number ≤ top ((run rules events).nodes name) + 8 * many
    → (n : ℕ) × (n ≤ many) × ActsInViewOf ((run rules events).nodes q)
    ((run rules (events ++ events_of_exchanges n (run rules events) q name)).nodes name)

-- how often a place ticks
abbrev pub is_tick : Act → Bool
is_tick act.Tick = true
is_tick _ = false

abbrev pub ticks_at : ℕ → List Event → ℕ
ticks_at place events = count_by (λ e. (e.node == place) && is_tick e.act) events
