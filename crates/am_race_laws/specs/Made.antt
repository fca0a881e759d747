-- The calls that a caller has made, as their type has them: each after those before it.
use Rattle.std.specs.Prelude.{List, [], ◌∷◌, ◌++◌}
use Rattle.am_group.specs.declared.event.Act.{Act}
use Rattle.am_group.specs.declared.event.Act.TheVariants as act
use Rattle.am_race_laws.specs.declared.calls.Link.{Link}
use Rattle.am_race_laws.specs.declared.calls.Link.TheVariants as link

abbrev pub calls_up_to : Link → List Act
calls_up_to link.Nothing = []
calls_up_to (link.Call before a) = before.value ++ a.value ∷ []
calls_up_to (link.Send before body) = before.value ++ act.Send body.value ∷ []
