-- Pieces of the rows of joining and leaving.
use Rattle.std.specs.Prelude.{ℕ, ◌+◌, Bool, not, ◌&&◌, ◌||◌, ◌==◌, nat_lt, nat_le, if◌then◌else◌, Option, Some, None}
use Rattle.am_base.specs.declared.image.Row.{Row}
use Rattle.am_base.specs.declared.image.Image.{Image}
use Rattle.am_base.specs.declared.name.Stamp.{Stamp}
use Rattle.am_base.specs.declared.outcome.Outcome.{Outcome}
use Rattle.am_base.specs.declared.outcome.Outcome.TheVariants as said
use Rattle.am_base.specs.Names.{place_of_name, life_of_name, name_of_place_and_life}
use Rattle.am_base.specs.Stamps.{stamp_is_less}
use Rattle.am_base.specs.Lists.{row_of_name}
use Rattle.am_base.specs.declared.entry.Entry.TheVariants.{Leave}
use Rattle.am_model.specs.Node.{Node, top, set_of_one_name, number_is_within_bound}
use Rattle.am_model.specs.Emit.{Plan, plan_without_letters, plan_with_letter, plan_numbering_entry, bcast_packet_of, welcome_packet_of}
use Rattle.am_model.specs.Joining.{outcome_of_letting_go, with_gone_where_it_may_go}

-- why a name may not join, where the row of its place is this and so much is accepted
abbrev pub refusal_of : ℕ → ℕ → Row → Option Outcome
refusal_of accepted name row =
    if nat_lt (life_of_name name) row.life then Some said.Stranger
    else if (row.life == life_of_name name) && nat_lt 0 row.left then Some said.Stranger
    else if nat_lt row.life (life_of_name name) && (nat_lt 0 row.life && ((row.left == 0) || nat_lt accepted row.left)) then Some
    (said.Occupied (name_of_place_and_life (place_of_name name) row.life))
    else None

-- a name whose Join has a number has begun already, or its Join isn't accepted
abbrev pub needs_none : Node → ℕ → ℕ → Bool
needs_none m name joined = nat_le joined (m.reports name).stored || nat_lt m.core.acc joined

-- a name whose Join has this number is welcomed again
abbrev pub welcome_again : Node → ℕ → ℕ → Plan
welcome_again m name joined =
    if needs_none m name joined then plan_without_letters m said.Again
    else plan_with_letter m (said.Welcomed joined) (set_of_one_name name) (λ n. welcome_packet_of n name)

-- the Leave of a name is numbered, or stands in the list already
abbrev pub number_leave : Node → ℕ → Plan
number_leave m name = with_gone_where_it_may_go (plan_numbering_entry m (Leave name) (said.Numbered (top m + 1)) (λ n. bcast_packet_of n (top m + 1) (Leave name))) name

abbrev pub leave_again : Node → ℕ → Plan
leave_again m name = with_gone_where_it_may_go (record (plan_without_letters m said.Again) { outcome = outcome_of_letting_go m name }) name

-- a Welcome that can't be this node's
abbrev pub is_unfit : Node → Stamp → ℕ → ℕ → Image → Bool
is_unfit m v base join image = nat_le join base || (not (number_is_within_bound m base join) || (stamp_is_less v image.view || nat_lt 0 (row_of_name image m.core.who).joined))
