-- What every script keeps to.
use Rattle.std.specs.Prelude.{ℕ, ◌<◌, ◌≤◌, List, length, All}
use Rattle.am_base.specs.Most.{greatest_number, most_bytes_of_body, most_bytes_of_packet}
use Rattle.am_base.specs.Founding.{Rules, MayFound}
use Rattle.am_group.specs.declared.event.Act.{Act}
use Rattle.am_group.specs.declared.event.Act.TheVariants as act
use Rattle.am_group.specs.declared.event.Event.{Event}
use Rattle.am_script_defs.specs.declared.script.Script.{Script}

-- the number of a request, a round or a packet
abbrev pub IsCount : ℕ → Type 0
IsCount n = (0 < n) × (n ≤ greatest_number)

abbrev pub ActWithin : Act → Type 0
ActWithin (act.Send body) = length body ≤ most_bytes_of_body
ActWithin (act.Done req) = IsCount req
ActWithin (act.Reset least resilience) = (0 < least) × (least ≤ 16) × (resilience ≤ 15)
ActWithin (act.Ask round) = IsCount round
ActWithin (act.GiveUp name) = name < 256
ActWithin (act.Hear packet) = IsCount packet
ActWithin (act.Cut packet keep) = IsCount packet × (keep ≤ most_bytes_of_packet)
ActWithin other = Unit {0}

-- the node of an event is its place's name of life 1
abbrev pub EventWithin : Event → Type 0
EventWithin event = (event.node < 16) × ActWithin event.act

-- what holds of the founding and the events of every script
pub record ScriptIsWithin (founding : Rules) (events : List Event) : Type 0 where
  pub may_found : MayFound founding
  pub each : All EventWithin events

abbrev pub ScriptWithin : Script → Type 0
ScriptWithin script = ScriptIsWithin script.founding script.events
