-- What a directory keeps in a map.
use Rattle.std.specs.Prelude.{◌≡◌, ℕ, List, map, Vec, Result, Ok, Err}
use Rattle.am_service_defs.specs.declared.setting.Setting.{Setting}
use Rattle.am_service_defs.specs.declared.applied.Applied.{Applied}
use Rattle.am_service_defs.specs.Commands.{Command}
use Rattle.am_service_defs.specs.Contents.{Contents, after_command, command_answer}

-- the contents that a map's entries are
abbrev pub contents_in : {Y : Type 0} → List (Vec ℕ Y × Setting) → Contents
contents_in entries = map (λ entry. (entry.0.items, entry.1)) entries

-- what a command of a number came to: its answer and the contents after it; or nothing, where there was no memory
abbrev pub Obeys : {E : Type 0} → Contents → ℕ → Command → Result Applied E → Contents → Type 0
Obeys before number command (Ok answer) after = (answer ≡ command_answer before command) × (after ≡ after_command before number command)
Obeys before number command (Err e) after = after ≡ before
