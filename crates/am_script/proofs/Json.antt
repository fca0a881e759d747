-- Trees beside their data.
use Rattle.std.proofs.Common.{◌≡◌, suc, List, [], ◌∷◌, length, refl, ap}
use Rattle.serde_json.specs.Events.{items_len}
use Rattle.json.specs.declared.value.Value.{Value}
use Rattle.am_script.specs.Seen.{items_seen}

pub items_len_of_items_seen : {A : Type 0} (values : List (Value A)) → items_len (items_seen values) ≡ length values
items_len_of_items_seen [] = refl
items_len_of_items_seen (v ∷ vs) = ap suc (items_len_of_items_seen vs)
