-- How far letters were looked through.
use Rattle.std.specs.Prelude.{◌≡◌, List, length, All}
use Rattle.am_packet.specs.Boxes.{Letter}
use Rattle.am_group.specs.Addressed.{IsSeen}
use Rattle.am_shared_journal.specs.declared.sheet.LetterLook.{LetterLook}

-- none of the letters that a look went through is for its name
abbrev pub IsLook : List Letter → LetterLook → Type 0
IsLook letters look = IsSeen letters look.name look.after look.seen

pub record AreLooks (letters : List Letter) (looks : List LetterLook) : Type 0 where
  pub count : length looks ≡ 16
  pub each : All (IsLook letters) looks
