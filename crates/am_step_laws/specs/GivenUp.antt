-- Whom ballots give up.
use Rattle.std.specs.Prelude.{◌≡◌, ℕ, List, Some, true}
use Rattle.am_base.specs.Founding.{Rules}
use Rattle.am_group.specs.declared.event.Event.{Event}
use Rattle.am_model.specs.Node.{Ballot}
use Rattle.am_group_defs.specs.World.{is_stopped, run}

-- who is given up has stopped
abbrev pub OnlyStoppedGivenUp : Type 0
OnlyStoppedGivenUp = (rules : Rules) (events : List Event) (name other : ℕ) (b : Ballot) → ((run rules events).nodes name).ballot ≡ Some b
    → b.given_up other ≡ true → is_stopped (run rules events) other ≡ true
