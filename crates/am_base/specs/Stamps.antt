-- Stamps in order.
use Rattle.std.specs.Prelude.{Bool, ◌==◌, ◌||◌, ◌&&◌, nat_lt}
use Rattle.am_base.specs.declared.name.Stamp.{Stamp}
use Rattle.am_base.specs.Names.{name_is_less}

-- by round, then by name
abbrev pub stamp_is_less : Stamp → Stamp → Bool
stamp_is_less a b = nat_lt a.round b.round || ((a.round == b.round) && name_is_less a.by b.by)

abbrev pub stamps_are_equal : Stamp → Stamp → Bool
stamps_are_equal a b = (a.round == b.round) && (a.by == b.by)

-- round 0 and name 0, which no view and no ballot has
abbrev pub no_stamp : Stamp
no_stamp = record { round = 0; by = 0 }
