-- How a group begins: who may found it, and what a script says of it.
use Rattle.std.specs.Prelude.{ℕ, ◌<◌, ◌≤◌, ◌&&◌, nat_le, List, slice_index, EachIndex, if◌then◌else◌, Ok, Err}
use Rattle.std.specs.Option.{ok_or}
use Rattle.am_base.specs.Most.{greatest_window, most_bytes_of_body}
use Rattle.serde_json.specs.Data.{Data, Items, no_items, item}
use Rattle.serde_json.specs.Events.{items_len}
use Rattle.serde_json.specs.Find.{as_array}
use Rattle.am_base.specs.Names.{IsSetOfNames, size, empty_set_of_names, has, with_name}
use Rattle.am_base.specs.Founding.{Rules}
use Rattle.am_script_defs.specs.declared.key.ScriptKey.TheVariants as key
use Rattle.am_script_defs.specs.declared.refusal.ScriptRefusal.TheVariants.{BadValue, OutOfRange}
use Rattle.am_script_defs.specs.Refusals.{ReadOrRefused, ◌>>=◌}
use Rattle.am_script_defs.specs.Values.{value_in, number_within, number_or}

-- somebody, each with life 1
pub record AreFounders (names : List ℕ) : Type 0 where
  pub set : IsSetOfNames names
  pub somebody : 0 < size names
  pub first_lives : EachIndex names (λ place. slice_index names place ≤ 1)

-- the set with the names of these places too, each of which is new
abbrev pub each_founder : List ℕ → Items → ReadOrRefused (List ℕ)
each_founder set no_items = Ok set
each_founder set (item d ds) =
    number_within key.Founders 0 0 15 d >>= λ place.
    if has set place then Err (BadValue key.Founders 0) else each_founder (with_name set place) ds

-- 1 to 16 places: first their number, then each in order
unfoldable pub founders_from : Data → ReadOrRefused (List ℕ)
founders_from d =
    ok_or (as_array d) (BadValue key.Founders 0) >>= λ ds.
    if nat_le 1 (items_len ds) && nat_le (items_len ds) 16 then each_founder empty_set_of_names ds
    else Err (OutOfRange key.Founders 0 (items_len ds) 1 16)

-- how a group begins, by the keys that a play and a race both have
unfoldable pub founding_in : Data → ReadOrRefused Rules
founding_in d = do
  v ← value_in key.Founders 0 d
  founders ← founders_from v
  resilience ← number_or 0 key.Resilience 0 0 15 d
  window ← number_or 64 key.Window 0 1 greatest_window d
  pb_up_to ← number_or 256 key.PbUpTo 0 0 most_bytes_of_body d
  Ok (record { founders = founders; resilience = resilience; window = window; pb_up_to = pb_up_to })
