-- Events of a script.
use Rattle.std.specs.Prelude.{ℕ, List, [], ◌∷◌, if◌then◌else◌, Option, Some, None, Ok, Err, codes, bytes_eq}
use Rattle.std.specs.Option.{ok_or}
use Rattle.am_base.specs.Most.{greatest_number, most_bytes_of_packet}
use Rattle.serde_json.specs.Data.{Data}
use Rattle.serde_json.specs.Find.{as_array}
use Rattle.am_base.specs.Names.{name_of_place_and_life}
use Rattle.am_group.specs.declared.event.Act.{Act}
use Rattle.am_group.specs.declared.event.Act.TheVariants as act
use Rattle.am_group.specs.declared.event.Event.{Event}
use Rattle.am_script_defs.specs.declared.key.ScriptKey.{ScriptKey}
use Rattle.am_script_defs.specs.declared.key.ScriptKey.TheVariants as key
use Rattle.am_script_defs.specs.declared.kind.EventKind.{EventKind}
use Rattle.am_script_defs.specs.declared.kind.EventKind.TheVariants.{Send, Done, Take, Join, State, Leave, Reset, Ask, GiveUp, Stop, Tick, Hear, Cut, Return}
use Rattle.am_script_defs.specs.declared.refusal.ScriptRefusal.TheVariants.{Unknown, BadValue}
use Rattle.am_script_defs.specs.Keys.{has_only}
use Rattle.am_script_defs.specs.Refusals.{ReadOrRefused, ◌>>=◌}
use Rattle.am_script_defs.specs.Values.{of_object, items_read_from, text_in, number_at_key, number_or, body_from}

-- the first kind that has this word
abbrev pub kind_named : List ℕ → List (List ℕ × EventKind) → Option EventKind
kind_named word [] = None
kind_named word (one ∷ others) = if bytes_eq word one.0 then Some one.1 else kind_named word others

-- the kind of an event by its word
unfoldable pub kind_of_word : List ℕ → Option EventKind
kind_of_word word =
    kind_named word ((codes "send", Send) ∷ (codes "done", Done) ∷ (codes "take", Take) ∷ (codes "join", Join) ∷ (codes "state", State) ∷ (codes "leave", Leave)
    ∷ (codes "reset", Reset) ∷ (codes "ask", Ask) ∷ (codes "giveup", GiveUp) ∷ (codes "stop", Stop) ∷ (codes "tick", Tick) ∷ (codes "hear", Hear)
    ∷ (codes "cut", Cut) ∷ (codes "return", Return) ∷ [])

-- the keys of an event of a kind
abbrev pub keys_of : EventKind → List ScriptKey
keys_of Send = key.Do ∷ key.Node ∷ key.Body ∷ []
keys_of Done = key.Do ∷ key.Node ∷ key.Req ∷ []
keys_of Take = key.Do ∷ key.Node ∷ []
keys_of Join = key.Do ∷ key.Node ∷ []
keys_of State = key.Do ∷ key.Node ∷ []
keys_of Leave = key.Do ∷ key.Node ∷ []
keys_of Reset = key.Do ∷ key.Node ∷ key.Least ∷ key.Resilience ∷ []
keys_of Ask = key.Do ∷ key.Node ∷ key.Round ∷ []
keys_of GiveUp = key.Do ∷ key.Node ∷ key.Name ∷ key.Life ∷ []
keys_of Stop = key.Do ∷ key.Node ∷ []
keys_of Tick = key.Do ∷ key.Node ∷ []
keys_of Hear = key.Do ∷ key.Node ∷ key.Packet ∷ []
keys_of Cut = key.Do ∷ key.Node ∷ key.Packet ∷ key.Keep ∷ []
keys_of Return = key.Do ∷ key.Node ∷ []

-- the kind of an event, which is read before all else
unfoldable pub event_kind_in : ℕ → Data → ReadOrRefused EventKind
event_kind_in place d = text_in key.Do place d >>= λ word. ok_or (kind_of_word word) (BadValue key.Do place)

-- the acts that have arguments
unfoldable pub send_in : ℕ → Data → ReadOrRefused Act
send_in place d = do
  text ← text_in key.Body place d
  body ← body_from place text
  Ok (act.Send body)

-- a reset keeps the resilience that is said, or else the founding's
unfoldable pub reset_in : ℕ → ℕ → Data → ReadOrRefused Act
reset_in founding place d = do
  least ← number_at_key key.Least place 1 16 d
  resilience ← number_or founding key.Resilience place 0 15 d
  Ok (act.Reset least resilience)

-- the life of the name that is given up is 1 where it isn't said
unfoldable pub give_up_in : ℕ → Data → ReadOrRefused Act
give_up_in place d = do
  seat ← number_at_key key.Name place 0 15 d
  life ← number_or 1 key.Life place 1 16 d
  Ok (act.GiveUp (name_of_place_and_life seat life))

unfoldable pub cut_in : ℕ → Data → ReadOrRefused Act
cut_in place d = do
  packet ← number_at_key key.Packet place 1 greatest_number d
  keep ← number_at_key key.Keep place 0 most_bytes_of_packet d
  Ok (act.Cut packet keep)

-- the act of an event of a kind, of a founding of this resilience
unfoldable pub act_in : EventKind → ℕ → ℕ → Data → ReadOrRefused Act
act_in Send founding place d = send_in place d
act_in Done founding place d = number_at_key key.Req place 1 greatest_number d >>= λ req. Ok (act.Done req)
act_in Take founding place d = Ok act.Take
act_in Join founding place d = Ok act.Join
act_in State founding place d = Ok act.State
act_in Leave founding place d = Ok act.Leave
act_in Reset founding place d = reset_in founding place d
act_in Ask founding place d = number_at_key key.Round place 1 greatest_number d >>= λ round. Ok (act.Ask round)
act_in GiveUp founding place d = give_up_in place d
act_in Stop founding place d = Ok act.Stop
act_in Tick founding place d = Ok act.Tick
act_in Hear founding place d = number_at_key key.Packet place 1 greatest_number d >>= λ packet. Ok (act.Hear packet)
act_in Cut founding place d = cut_in place d
act_in Return founding place d = Ok act.Return

-- an event of a kind: first another key, then the place that acts, then the act
unfoldable pub event_as : EventKind → ℕ → ℕ → Data → ReadOrRefused Event
event_as kind founding place d =
    if has_only (keys_of kind) d
    then (number_at_key key.Node place 0 15 d >>= λ node. act_in kind founding place d >>= λ done. Ok (record { node = node; act = done }))
    else Err (Unknown place)

-- an event
unfoldable pub event_from : ℕ → ℕ → Data → ReadOrRefused Event
event_from founding place d = of_object key.Events place d (event_kind_in place d >>= λ kind. event_as kind founding place d)

-- an array of any number of events, which are counted from 1
unfoldable pub events_from : ℕ → Data → ReadOrRefused (List Event)
events_from founding d = ok_or (as_array d) (BadValue key.Events 0) >>= items_read_from (event_from founding) 1
