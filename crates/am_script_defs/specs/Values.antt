-- Values at keys of an object, each of its kind and within its limits. A place is the number of an event or a call, or 0.
use Rattle.std.specs.Prelude.{ℕ, ◌+◌, ◌/◌, ◌%◌, ◌==◌, ◌&&◌, ◌||◌, nat_le, List, [], ◌∷◌, length, Bool, if◌then◌else◌, is_some, Result, Ok, Err}
use Rattle.std.specs.Prelude.{option_and_then}
use Rattle.std.specs.List.{list_all}
use Rattle.std.specs.Option.{option_map_or, ok_or}
use Rattle.am_base.specs.Most.{most_bytes_of_body}
use Rattle.hex.specs.Hex.{decode_of}
use Rattle.serde_json.specs.Data.{Data, Items, no_items, item}
use Rattle.serde_json.specs.Find.{as_bool, as_str, as_number, as_u64, as_object}
use Rattle.am_script_defs.specs.declared.key.ScriptKey.{ScriptKey}
use Rattle.am_script_defs.specs.declared.key.ScriptKey.TheVariants.{Body}
use Rattle.am_script_defs.specs.declared.refusal.ScriptRefusal.TheVariants.{Missing, Unknown, BadValue, OutOfRange}
use Rattle.am_script_defs.specs.Keys.{has_only, value_at}
use Rattle.am_script_defs.specs.Refusals.{ReadOrRefused, ◌>>=◌}

-- what an object tells
abbrev pub of_object : {A : Type 0} → ScriptKey → ℕ → Data → ReadOrRefused A → ReadOrRefused A
of_object key place d inner = if is_some (as_object d) then inner else Err (BadValue key place)

-- what an object tells that has no other keys than these
abbrev pub object_with : {A : Type 0} → List ScriptKey → ScriptKey → Data → ReadOrRefused A → ReadOrRefused A
object_with keys key d inner = of_object key 0 d (if has_only keys d then inner else Err (Unknown 0))

-- the items of an array, each as one is read, by their numbers from this one on
abbrev pub items_read_from : {A : Type 0} → (ℕ → Data → ReadOrRefused A) → ℕ → Items → ReadOrRefused (List A)
items_read_from one place no_items = Ok []
items_read_from one place (item d ds) = one place d >>= λ x. items_read_from one (place + 1) ds >>= λ xs. Ok (x ∷ xs)

-- the value at a key that must be there
abbrev pub value_in : ScriptKey → ℕ → Data → ReadOrRefused Data
value_in key place d = ok_or (value_at key d) (Missing key place)

-- the text at a key
abbrev pub text_in : ScriptKey → ℕ → Data → ReadOrRefused (List ℕ)
text_in key place d = value_in key place d >>= λ v. ok_or (as_str v) (BadValue key place)

-- a whole number within its limits
unfoldable pub number_within : ScriptKey → ℕ → ℕ → ℕ → Data → ReadOrRefused ℕ
number_within key place least most d =
    ok_or (option_and_then as_u64 (as_number d)) (BadValue key place) >>= λ n.
    if nat_le least n && nat_le n most then Ok n else Err (OutOfRange key place n least most)

-- the number at a key that must be there
abbrev pub number_at_key : ScriptKey → ℕ → ℕ → ℕ → Data → ReadOrRefused ℕ
number_at_key key place least most d = value_in key place d >>= number_within key place least most

-- the number at a key, or else another
abbrev pub number_or : ℕ → ScriptKey → ℕ → ℕ → ℕ → Data → ReadOrRefused ℕ
number_or otherwise key place least most d = option_map_or (number_within key place least most) (value_at key d) (Ok otherwise)

-- whether there is true at a key; where the key isn't there, it is as is said
abbrev pub flag_or : Bool → ScriptKey → ℕ → Data → ReadOrRefused Bool
flag_or otherwise key place d = option_map_or (λ v. ok_or (as_bool v) (BadValue key place)) (value_at key d) (Ok otherwise)

-- a digit 0 to 9 or a to f
abbrev pub is_digit : ℕ → Bool
is_digit c = (nat_le 48 c && nat_le c 57) || (nat_le 97 c && nat_le c 102)

-- the text is pairs of such digits
abbrev pub are_hex_pairs : List ℕ → Bool
are_hex_pairs text = (length text % 2 == 0) && list_all is_digit text

-- the bytes that such pairs are
abbrev pub bytes_of_hex : {E : Type 0} → ℕ → Result (List ℕ) E → ReadOrRefused (List ℕ)
bytes_of_hex place (Ok bytes) = Ok bytes
bytes_of_hex place (Err e) = Err (BadValue Body place)

-- the bytes of a text of pairs of digits, at most 1,024 pairs
unfoldable pub body_from : ℕ → List ℕ → ReadOrRefused (List ℕ)
body_from place text =
    if are_hex_pairs text
    then (if nat_le (length text / 2) most_bytes_of_body then bytes_of_hex place (decode_of text) else Err (OutOfRange Body place (length text / 2) 0 most_bytes_of_body))
    else Err (BadValue Body place)
