-- Sets of names, printed place by place.
use Rattle.std.specs.Prelude.{ℕ, zero, suc, Bool, true, false, List, [], ◌++◌, codes}
use Rattle.std.specs.List.{flat_map}
use Rattle.am_base.specs.Names.{name_of_place_and_life}
use Rattle.am_group_defs.specs.Text.{name_text, list_text}

-- what is still to be printed for names: with a dash for nobody where none was printed, else with a comma before each
abbrev pub rest_text : Bool → List ℕ → List ℕ
rest_text true names = list_text names
rest_text false names = flat_map (λ name. codes "," ++ name_text name) names

-- a name, after a comma where it isn't the first
abbrev pub listed_text : Bool → ℕ → List ℕ
listed_text true name = name_text name
listed_text false name = codes "," ++ name_text name

-- what is printed for the life at a place, where nobody was printed before it or somebody was
abbrev pub place_text : Bool → ℕ → ℕ → List ℕ
place_text first place zero = []
place_text true place (suc before) = name_text (name_of_place_and_life place (suc before))
place_text false place (suc before) = codes "," ++ name_text (name_of_place_and_life place (suc before))

-- whether the next is the first after that
abbrev pub is_next_first : Bool → ℕ → Bool
is_next_first first zero = first
is_next_first first (suc before) = false
