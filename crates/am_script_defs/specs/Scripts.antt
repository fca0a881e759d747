-- What a script is: JSON that says how a group begins and what happens then.
use Rattle.std.specs.Prelude.{List, [], ◌∷◌, ℕ, Bool, false, if◌then◌else◌, Option, None, Ok, Err}
use Rattle.std.specs.Option.{option_map_or}
use Rattle.std.specs.Str.{is_utf8}
use Rattle.serde_json.specs.Data.{Data}
use Rattle.serde_json.specs.Read.{read}
use Rattle.am_base.specs.Founding.{Rules}
use Rattle.am_group.specs.declared.event.Event.{Event}
use Rattle.am_script_defs.specs.declared.key.ScriptKey.{ScriptKey}
use Rattle.am_script_defs.specs.declared.key.ScriptKey.TheVariants as key
use Rattle.am_script_defs.specs.declared.script.Script.{Script}
use Rattle.am_script_defs.specs.declared.refusal.ScriptRefusal.TheVariants.{NotJson, Unknown}
use Rattle.am_script_defs.specs.Keys.{has_only}
use Rattle.am_script_defs.specs.Refusals.{ReadOrRefused, ◌>>=◌}
use Rattle.am_script_defs.specs.Values.{of_object, object_with, value_in, flag_or}
use Rattle.am_script_defs.specs.Founders.{founding_in}
use Rattle.am_script_defs.specs.Events.{events_from}

abbrev pub play_keys : List ScriptKey
play_keys = key.Founders ∷ key.Resilience ∷ key.Window ∷ key.PbUpTo ∷ key.Settle ∷ key.Events ∷ []

-- the script of a founding and events, settled after them or not
abbrev pub script_of : Rules → List Event → Bool → Script
script_of founding events settle = record { founding = founding; events = events; settle = settle }

-- a play's parts, in the order of its keys
unfoldable pub parts_of_play : Data → ReadOrRefused Script
parts_of_play d = do
  founding ← founding_in d
  settle ← flag_or false key.Settle 0 d
  v ← value_in key.Events 0 d
  events ← events_from founding.resilience v
  Ok (script_of founding events settle)

-- a play: an object, with no other key
unfoldable pub play_from : Data → ReadOrRefused Script
play_from d = object_with play_keys key.Play d (parts_of_play d)

-- the value of the key that is asked for, which is a document's one key
unfoldable pub behind : ScriptKey → Data → ReadOrRefused Data
behind asked d = of_object key.Top 0 d (value_in asked 0 d >>= λ v. if has_only (asked ∷ []) d then Ok v else Err (Unknown 0))

-- the script of a document
unfoldable pub document_from : Data → ReadOrRefused Script
document_from d = behind key.Play d >>= play_from

-- the document that bytes are JSON of
unfoldable pub document_in : List ℕ → Option Data
document_in bytes = if is_utf8 bytes then read bytes else None

-- the script that bytes are, or the first cause that they are none
unfoldable pub script_reading : List ℕ → ReadOrRefused Script
script_reading bytes = option_map_or document_from (document_in bytes) (Err NotJson)
