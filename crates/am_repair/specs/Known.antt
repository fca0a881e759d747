-- That a sequencer trims no more than it knows each member of its list to have taken, and what of that was taken.
use Rattle.std.specs.Prelude.{◌≡◌, ℕ, ◌<◌, ◌≤◌, max, List, true}
use Rattle.am_base.specs.Founding.{Rules, MayFound}
use Rattle.am_base.specs.Names.{has}
use Rattle.am_group.specs.declared.event.Event.{Event}
use Rattle.am_model.specs.Node.{Node, members, is_sequencer}
use Rattle.am_group_defs.specs.World.{run}

abbrev pub TrimsKnown : Node → Type 0
TrimsKnown m = is_sequencer m ≡ true → (i : ℕ) → i < 256 → has (members m) i ≡ true → m.core.base ≤ (m.reports i).taken

-- in each run of every founding
abbrev pub SequencersTrimKnown : Type 0
SequencersTrimKnown = (rules : Rules) (events : List Event) (name : ℕ) → MayFound rules → name < 256 → TrimsKnown ((run rules events).nodes name)

-- in each run: what anybody knows a name to have taken that name has taken, or it is no more than where the knowing one itself has trimmed
abbrev pub KnownIsTaken : Type 0
KnownIsTaken = (rules : Rules) (events : List Event) (q name : ℕ) → MayFound rules → q < 256 → name < 256
    → (((run rules events).nodes q).reports name).taken ≤ max ((run rules events).nodes q).core.base ((run rules events).nodes name).core.taken
