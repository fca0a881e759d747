-- What is seen of a journal: how it begins, how it goes on, and by which law its records come.
use Rattle.std.specs.Prelude.{◌≡◌, ◌<◌, List, ◌∷◌, ◌++◌, length, take, nat_lt, if◌then◌else◌}
use Rattle.am_group.specs.declared.event.Record.{Record}
use Rattle.am_shared_journal_defs.specs.declared.terms.SharerKey.{SharerKey}
use Rattle.am_shared_journal_defs.specs.Keys.{of_key, times}

-- the longer of two lists
abbrev pub longer_list : List Record → List Record → List Record
longer_list xs ys = if nat_lt (length xs) (length ys) then ys else xs

-- a journal begins with some records
abbrev pub StartsWith : List Record → List Record → Type 0
StartsWith log seen = take (length seen) log ≡ seen

-- a journal goes on from what was seen, with no record more of these keys
pub record GoesOn (keys : List SharerKey) (seen log : List Record) : Type 0 where
  pub begins : StartsWith log seen
  pub own : (key : SharerKey) → 0 < times key keys → of_key key log ≡ of_key key seen

-- each record comes next after those before it
abbrev pub EachComesNext : (List Record → Record → Type 0) → List Record → Type 0
EachComesNext next log = (before rest : List Record) (r : Record) → log ≡ before ++ r ∷ rest → next before r
