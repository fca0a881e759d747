-- Whether a leaver may go, by what is read of a node.
use Rattle.std.specs.Prelude.{ℕ, List, Bool, true, ◌&&◌, nat_lt, nat_le, Option, Some, None}
use Rattle.am_base.specs.declared.image.Report.{Report}
use Rattle.am_node_defs.specs.Reports.{least_stored_of_names}

-- a number isn't above the least of some, where there is one
abbrev pub all_hold : Option ℕ → ℕ → Bool
all_hold least number = elim least [ None ↦ true | Some stored ↦ nat_le number stored ]

-- there is a Leave of this number that is accepted, and that all of these have stored
abbrev pub is_stored : (ℕ → Report) → ℕ → ℕ → List ℕ → Bool
is_stored reports accepted left names = nat_lt 0 left && (nat_le left accepted && all_hold (least_stored_of_names reports names) left)
