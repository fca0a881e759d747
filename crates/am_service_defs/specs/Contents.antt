-- What a directory has: its keys in the order of their bytes, each with its value and the number of the entry that set it last.
use Rattle.std.specs.Prelude.{ℕ, ◌≤◌, List, [], length, take, Bool, not, ◌&&◌, ◌||◌, nat_lt, is_some, if◌then◌else◌, Option, Some, None}
use Rattle.std.specs.List.{All, fold, enumerate_from}
use Rattle.std.specs.List.Sorted.{IsStrictlySortedBy}
use Rattle.std.specs.declared.cmp.Ordering.{Ordering}
use Rattle.std.specs.Ordering.{nat_cmp}
use Rattle.std.specs.Cmp.Lexicographic.{slice_cmp}
use Rattle.std.specs.Map.{keys_of, values_of, lookup, remove_entry}
use Rattle.std.specs.BTreeMap.{insert_entry, is_at}
use Rattle.am_base.specs.declared.entry.Entry.{Entry}
use Rattle.am_base.specs.declared.entry.Entry.TheVariants as entries
use Rattle.am_service_defs.specs.declared.applied.Applied.{Applied}
use Rattle.am_service_defs.specs.declared.applied.Applied.TheVariants as answers
use Rattle.am_service_defs.specs.declared.setting.Setting.{Setting}
use Rattle.am_service_defs.specs.Values.{IsKey, IsValue}
use Rattle.am_service_defs.specs.Commands.{Command, Put, Delete, Claim, command_of}

-- of keys in a directory
abbrev pub most_keys : ℕ
most_keys = 256

abbrev pub Contents : Type 0
Contents = List (List ℕ × Setting)

-- keys are ordered as their bytes
abbrev pub key_cmp : List ℕ → List ℕ → Ordering
key_cmp = slice_cmp nat_cmp

-- what every directory keeps: few keys, in order, and all within their limits
pub record IsDirectory (contents : Contents) : Type 0 where
  pub few : length contents ≤ most_keys
  pub ordered : IsStrictlySortedBy key_cmp (keys_of contents)
  pub keys : All IsKey (keys_of contents)
  pub values : All (λ setting. IsValue setting.value) (values_of contents)

-- what a key has
abbrev pub setting_of : Contents → List ℕ → Option Setting
setting_of contents key = lookup (is_at (key_cmp key)) contents

abbrev pub has_key : Contents → List ℕ → Bool
has_key contents key = is_some (setting_of contents key)

abbrev pub contents_has_room : Contents → Bool
contents_has_room contents = nat_lt (length contents) most_keys

-- a key gets this
abbrev pub with_setting : Contents → List ℕ → Setting → Contents
with_setting contents key setting = insert_entry key_cmp contents key setting

abbrev pub without_key : Contents → List ℕ → Contents
without_key contents key = remove_entry (is_at (key_cmp key)) contents

-- what a command makes of the contents, by the entry of a number, and what it is answered. A key too many changes nothing
abbrev pub after_command : Contents → ℕ → Command → Contents
after_command contents number (Put key value) =
    if has_key contents key || contents_has_room contents then with_setting contents key (record { number = number; value = value })
    else contents
after_command contents number (Delete key) = without_key contents key
after_command contents number (Claim key value) =
    if not (has_key contents key) && contents_has_room contents then with_setting contents key (record { number = number; value = value })
    else contents

abbrev pub command_answer : Contents → Command → Applied
command_answer contents (Put key value) =
    if has_key contents key then answers.Replaced
    else if contents_has_room contents then answers.Put
    else answers.Full
command_answer contents (Delete key) = if has_key contents key then answers.Deleted else answers.Absent
command_answer contents (Claim key value) =
    if has_key contents key then answers.Kept
    else if contents_has_room contents then answers.Claimed
    else answers.Full

-- the same of a body; one that is no command changes nothing
abbrev pub after_read : Contents → ℕ → Option Command → Contents
after_read contents number None = contents
after_read contents number (Some command) = after_command contents number command

abbrev pub applied : Contents → ℕ → List ℕ → Contents
applied contents number body = after_read contents number (command_of body)

abbrev pub answer_read : Contents → Option Command → Applied
answer_read contents None = answers.NoCommand
answer_read contents (Some command) = command_answer contents command

abbrev pub body_answer : Contents → List ℕ → Applied
body_answer contents body = answer_read contents (command_of body)

-- the contents after an entry with its number, of which the body counts where it is data
abbrev pub contents_with : Contents → ℕ × Entry → Contents
contents_with contents (number, entries.Data from req body) = applied contents number body
contents_with contents (number, entries.Join name) = contents
contents_with contents (number, entries.Leave name) = contents
contents_with contents (number, entries.View v) = contents

abbrev pub contents_from : Contents → List (ℕ × Entry) → Contents
contents_from contents pairs = fold contents_with contents pairs

-- the contents after the first entries of a list, which are numbered from 1
abbrev pub contents_after : List Entry → ℕ → Contents
contents_after list number = contents_from [] (enumerate_from 1 (take number list))
