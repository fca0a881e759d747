-- What every directory keeps, through each change.
use Rattle.std.proofs.Common.{◌≡◌, ℕ, ◌≤◌, ◌<◌, List, [], true, length, arith, ◌⊎◌, inl, inr}
use Rattle.std.specs.List.{All}
use Rattle.std.specs.List.Sorted.{IsStrictlySortedBy}
use Rattle.std.specs.Map.{keys_of}
use Rattle.std.specs.BTreeMap.{is_at}
use Rattle.std.specs.Cmp.Lexicographic.{nat_list_cmp_total}
use Rattle.std.proofs.lemmas.Bool.Decides.{nat_tests}
use Rattle.std.proofs.lemmas.Map.Views.{All-keys-insert_entry, All-values-insert_entry, All-map-remove_entry}
use Rattle.am_service_defs.specs.declared.setting.Setting.{Setting}
use Rattle.am_service_defs.specs.Values.{IsKey, IsValue}
use Rattle.am_service_defs.specs.Contents.{most_keys, Contents, key_cmp, IsDirectory, has_key, contents_has_room, with_setting, without_key}
use Rattle.am_service_defs.proofs.Ordered.{sorted-insert, sorted-remove, length-insert, length-insert_found, length-remove}

none_has : {X : Type 0} (P : X → Type 0) → All P []
none_has P k d below = absurd (omega arith)

pub empty_contents_are_directory : IsDirectory []
unfolding IsStrictlySortedBy
empty_contents_are_directory = record { few = omega arith; ordered = tt; keys = none_has IsKey; values = none_has (λ (s : Setting). IsValue s.value) }

few_after : (contents : Contents) (key : List ℕ) (setting : Setting) → IsStrictlySortedBy key_cmp (keys_of contents) → length contents ≤ most_keys
    → (has_key contents key ≡ true) ⊎ (contents_has_room contents ≡ true) → length (with_setting contents key setting) ≤ most_keys
few_after contents key setting ordered few (inl there) = omega (arith, length-insert_found nat_list_cmp_total key setting contents ordered there)
few_after contents key setting ordered few (inr room) =
    let below : length contents < 256 = grind (arith, nat_tests) in
    omega (arith, length-insert key_cmp key setting contents)

pub directory_with_setting : (contents : Contents) (key : List ℕ) (setting : Setting) → IsDirectory contents → IsKey key → IsValue setting.value
    → (has_key contents key ≡ true) ⊎ (contents_has_room contents ≡ true) → IsDirectory (with_setting contents key setting)
directory_with_setting contents key setting d is_key is_value room = record {
  few = few_after contents key setting d.ordered d.few room;
  ordered = sorted-insert nat_list_cmp_total key setting contents d.ordered;
  keys = All-keys-insert_entry key_cmp key setting IsKey contents d.keys is_key;
  values = All-values-insert_entry key_cmp key setting (λ s. IsValue s.value) contents d.values is_value;
}

pub directory_without_key : (contents : Contents) (key : List ℕ) → IsDirectory contents → IsDirectory (without_key contents key)
directory_without_key contents key d = record {
  few = omega (arith, d.few, length-remove (is_at (key_cmp key)) contents);
  ordered = sorted-remove (is_at (key_cmp key)) key_cmp contents d.ordered;
  keys = All-map-remove_entry (is_at (key_cmp key)) (λ e. e.0) IsKey contents d.keys;
  values = All-map-remove_entry (is_at (key_cmp key)) (λ e. e.1) (λ s. IsValue s.value) contents d.values;
}
