-- What was done as a script: one object of JSON without blanks, whose keys stand in alphabetical order.
use Rattle.std.specs.Prelude.{ℕ, ◌==◌, if◌then◌else◌, List, [], ◌∷◌, ◌++◌, codes, decimal, All}
use Rattle.std.specs.List.{flat_map}
use Rattle.hex.specs.Hex.{IsBytes}
use Rattle.am_base.specs.Founding.{Rules}
use Rattle.am_base.specs.Names.{place_of_name, life_of_name}
use Rattle.am_group.specs.declared.event.Act.{Act}
use Rattle.am_group.specs.declared.event.Act.TheVariants as acts
use Rattle.am_group.specs.declared.event.Event.{Event}
use Rattle.am_group_defs.specs.Text.{names_text, hex_byte, act_word}

-- a life other than the first
unfoldable pub life_json : ℕ → List ℕ
life_json name = if life_of_name name == 1 then [] else codes ",\"life\":" ++ decimal (life_of_name name)

-- a resilience, where it isn't the founding's
unfoldable pub resilience_json : Rules → ℕ → List ℕ
resilience_json rules resilience = if resilience == rules.resilience then [] else codes ",\"resilience\":" ++ decimal resilience

-- the body of a send, which stands before its word
unfoldable pub body_json : Act → List ℕ
body_json (acts.Send body) = codes "\"body\":\"" ++ (flat_map hex_byte body ++ codes "\",")
body_json act = []

-- an act's keys between its word and the node
unfoldable pub keys_before : Act → List ℕ
keys_before (acts.Reset least resilience) = codes ",\"least\":" ++ decimal least
keys_before (acts.GiveUp name) = life_json name ++ (codes ",\"name\":" ++ decimal (place_of_name name))
keys_before (acts.Cut packet keep) = codes ",\"keep\":" ++ decimal keep
keys_before act = []

-- an act's keys after the node
unfoldable pub keys_behind : Rules → Act → List ℕ
keys_behind rules (acts.Done req) = codes ",\"req\":" ++ decimal req
keys_behind rules (acts.Reset least resilience) = resilience_json rules resilience
keys_behind rules (acts.Ask round) = codes ",\"round\":" ++ decimal round
keys_behind rules (acts.Hear packet) = codes ",\"packet\":" ++ decimal packet
keys_behind rules (acts.Cut packet keep) = codes ",\"packet\":" ++ decimal packet
keys_behind rules act = []

-- an act's word, and what stands between it and the node
unfoldable pub word_json : Act → List ℕ
word_json act = codes "\"do\":\"" ++ (act_word act ++ (codes "\"" ++ keys_before act))

unfoldable pub event_json : Rules → Event → List ℕ
event_json rules event =
    codes "{" ++ (body_json event.act ++ (word_json event.act
    ++ (codes ",\"node\":" ++ (decimal (place_of_name event.node) ++ (keys_behind rules event.act ++ codes "}")))))

-- events with a comma before each
abbrev pub others_json : Rules → List Event → List ℕ
others_json rules events = flat_map (λ event. codes "," ++ event_json rules event) events

-- events with commas between them
unfoldable pub list_json : Rules → List Event → List ℕ
list_json rules [] = []
list_json rules (first ∷ others) = event_json rules first ++ others_json rules others

unfoldable pub events_json : Rules → List Event → List ℕ
events_json rules events = codes "\"events\":[" ++ (list_json rules events ++ codes "]")

-- founders have life 1, so that their names are their places
unfoldable pub founders_json : Rules → List ℕ
founders_json rules = codes "\"founders\":[" ++ (names_text rules.founders ++ codes "]")

unfoldable pub numbers_json : Rules → List ℕ
numbers_json rules =
    codes "\"pb_up_to\":" ++ (decimal rules.pb_up_to
    ++ (codes ",\"resilience\":" ++ (decimal rules.resilience
    ++ (codes ",\"window\":" ++ decimal rules.window))))

-- how a group began, and what was done then
unfoldable pub script_text : Rules → List Event → List ℕ
script_text rules events =
    codes "{\"play\":{" ++ (events_json rules events ++ (codes "," ++ (founders_json rules ++ (codes "," ++ (numbers_json rules ++ codes "}}")))))

-- the bodies of sends are bytes
abbrev pub IsOfBytes : Act → Type 0
IsOfBytes (acts.Send body) = IsBytes body
IsOfBytes act = Unit {0}

abbrev pub AreOfBytes : List Event → Type 0
AreOfBytes events = All (λ event. IsOfBytes event.act) events
