-- What the records of a journal tell of its group: each event is done to the world before it, in which the letters are those of the records.
use Rattle.std.specs.Prelude.{◌≡◌, List, [], ◌∷◌, ◌++◌, fold}
use Rattle.am_base.specs.Founding.{Rules}
use Rattle.am_group.specs.declared.event.Record.{Record}
use Rattle.am_group_defs.specs.World.{World, start, happens, no_caller}
use Rattle.am_group_defs.specs.Group.{with_tag}

-- the world after a record
abbrev pub tells : World → Record → World
tells w r = record (happens w r.event) { letters = w.letters ++ r.packets }

-- the world after all records
unfoldable pub world_after : Rules → List Record → World
world_after rules records = fold tells (start rules) records

-- a record's life, outcome and letters are what its event gives after these records
abbrev pub IsNext : Rules → List Record → Record → Type 0
IsNext rules before r = (happens (world_after rules before) r.event).records ≡ (world_after rules before).records ++ with_tag no_caller r ∷ []
