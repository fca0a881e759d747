-- The data that a tree of JSON stands for: a number out of range stands for null, and a document that has one is none.
use Rattle.std.specs.Prelude.{ℕ, ◌^◌, ◌&&◌, nat_lt, nat_le, Bool, true, false, List, Option, is_some, option_and_then}
use Rattle.std.specs.Option.{option_map_or}
use Rattle.json.specs.Json as json
use Rattle.json.specs.Token as token
use Rattle.json.specs.Value.{value_view, items_view}
use Rattle.json.specs.declared.value.Value.{Value}
use Rattle.serde_json.specs.Data.{Data, null, boolean, number, string, array, object, Items, no_items, item, Members, no_members, put}
use Rattle.serde_json.specs.Find.{as_u64}
use Rattle.serde_json.specs.Read.{is_integer, number_of}
use Rattle.fast_float.specs.Text.{Parts, digits_of}

-- a member goes in after those before it, so the last value of a key stays
abbrev mutual
  pub data_of : json.Json → Data
  data_of json.null = null
  data_of (json.boolean b) = boolean b
  data_of (json.number s) = option_map_or number (number_of s) null
  data_of (json.string s) = string s
  data_of (json.array js) = array (items_of js)
  data_of (json.object ms) = object (members_of ms no_members)

  pub items_of : json.Items → Items
  items_of json.no_items = no_items
  items_of (json.item j js) = item (data_of j) (items_of js)

  pub members_of : json.Members → Members → Members
  members_of json.no_members found = found
  members_of (json.member k j ms) found = members_of ms (put k (data_of j) found)

-- the same of a tree, and of trees
abbrev pub seen : {A : Type 0} → Value A → Data
seen tree = data_of (value_view tree)

abbrev pub items_seen : {A : Type 0} → List (Value A) → Items
items_seen trees = items_of (items_view trees)

-- the whole number that a text writes, where it fits
abbrev pub whole_of : List ℕ → Option ℕ
whole_of s = option_and_then as_u64 (number_of s)

-- a token that is no number out of range
abbrev pub is_in_range : token.Token → Bool
is_in_range (token.number s) = is_some (number_of s)
is_in_range _ = true

-- a whole number of 64 bits, above or below zero
abbrev pub is_whole : Bool → Parts → Bool
is_whole false p = is_integer p && nat_lt (digits_of p) (2 ^ 64)
is_whole true p = is_integer p && nat_lt 0 (digits_of p) && nat_le (digits_of p) (2 ^ 63)

-- how deep arrays and objects may nest
abbrev pub most_depth : ℕ
most_depth = 127
