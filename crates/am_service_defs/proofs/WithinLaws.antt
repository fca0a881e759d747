-- Contents that a snapshot can have stay such, whatever is applied.
use Rattle.std.proofs.Common.{◌≡◌, ℕ, List, Bool, true, false, cond, not, ◌&&◌, ◌||◌, Option, Some, None, refl, ◌⊎◌, inl, inr}
use Rattle.std.specs.BTreeMap.{is_at}
use Rattle.std.proofs.lemmas.Map.Views.{All-values-insert_entry, All-map-remove_entry}
use Rattle.am_base.specs.Limits.{NumberIsInRange}
use Rattle.am_service_defs.specs.declared.setting.Setting.{Setting}
use Rattle.am_service_defs.specs.Values.{IsKey, IsValue}
use Rattle.am_service_defs.specs.Commands.{Command, Put, Delete, Claim, IsCommand, command_of}
use Rattle.am_service_defs.specs.Contents.{Contents, key_cmp, has_key, contents_has_room, with_setting, without_key, after_command, after_read}
use Rattle.am_service_defs.specs.Snapshots.{IsContents, ContentsStayWithin}
use Rattle.am_service_defs.proofs.Keeping.{directory_with_setting, directory_without_key}
use Rattle.am_service_defs.proofs.Limits.{command_read_is_command}

stay_set : (contents : Contents) (number : ℕ) (key value : List ℕ) → IsContents contents → NumberIsInRange number → IsKey key → IsValue value
    → (has_key contents key ≡ true) ⊎ (contents_has_room contents ≡ true) → IsContents (with_setting contents key (record { number = number; value = value }))
stay_set contents number key value c n is_key is_value room =
    let setting : Setting = record { number = number; value = value } in
    record {
      directory = directory_with_setting contents key setting c.directory is_key is_value room;
      numbers = All-values-insert_entry key_cmp key setting (λ s. NumberIsInRange s.number) contents c.numbers n;
    }

stay_removed : (contents : Contents) (key : List ℕ) → IsContents contents → IsContents (without_key contents key)
stay_removed contents key c = record {
  directory = directory_without_key contents key c.directory;
  numbers = All-map-remove_entry (is_at (key_cmp key)) (λ e. e.1) (λ s. NumberIsInRange s.number) contents c.numbers;
}

either : (a b : Bool) → (a || b) ≡ true → (a ≡ true) ⊎ (b ≡ true)
either true b h = inl refl
either false b h = inr h

second : (a b : Bool) → (a && b) ≡ true → b ≡ true
second true b h = h
second false b h = cc

stay_command : (contents : Contents) (number : ℕ) (command : Command) → IsContents contents → NumberIsInRange number → IsCommand command
    → IsContents (after_command contents number command)
stay_command contents number (Put key value) c n k = by (has_key contents key || contents_has_room contents) refl
  where
    by : (b : Bool) → (has_key contents key || contents_has_room contents) ≡ b
        → IsContents (cond b (with_setting contents key (record { number = number; value = value })) contents)
    by true h = stay_set contents number key value c n k.0 k.1 (either (has_key contents key) (contents_has_room contents) h)
    by false h = c
stay_command contents number (Delete key) c n k = stay_removed contents key c
stay_command contents number (Claim key value) c n k = by (not (has_key contents key) && contents_has_room contents) refl
  where
    by : (b : Bool) → (not (has_key contents key) && contents_has_room contents) ≡ b
        → IsContents (cond b (with_setting contents key (record { number = number; value = value })) contents)
    by true h = stay_set contents number key value c n k.0 k.1 (inr (second (not (has_key contents key)) (contents_has_room contents) h))
    by false h = c

pub contents_stay_within_limits : ContentsStayWithin
contents_stay_within_limits contents number body c n = by (command_of body) refl
  where
    by : (o : Option Command) → command_of body ≡ o → IsContents (after_read contents number o)
    by None h = c
    by (Some command) h = stay_command contents number command c n (command_read_is_command body command h)
