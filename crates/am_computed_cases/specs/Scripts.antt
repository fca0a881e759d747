-- Short forms for scripts and texts.
use Rattle.std.specs.Prelude.{ℕ, List, [], ◌∷◌, ◌++◌}
use Rattle.std.specs.List.{flat_map}
use Rattle.am_base.specs.Names.{empty_set_of_names, with_name}
use Rattle.am_base.specs.Founding.{Rules}
use Rattle.am_group.specs.declared.event.Act.{Act}
use Rattle.am_group.specs.declared.event.Event.{Event}

unfoldable pub set_of : List ℕ → List ℕ
set_of [] = empty_set_of_names
set_of (name ∷ names) = with_name (set_of names) name

-- a founding by its founders, resilience, window and greatest short body
abbrev pub rules_with : List ℕ → ℕ → ℕ → ℕ → Rules
rules_with founders resilience window pb_up_to = record { founders = set_of founders; resilience = resilience; window = window; pb_up_to = pb_up_to }

-- an act of a place
abbrev pub on : ℕ → Act → Event
on place act = record { node = place; act = act }

-- lines, each with a newline byte after it
abbrev pub lines : List (List ℕ) → List ℕ
lines texts = flat_map (λ text. text ++ 10 ∷ []) texts
