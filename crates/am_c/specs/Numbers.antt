-- The numbers that calls give.
use Rattle.std.specs.Prelude.{ℤ, pos, Option, Some, None}
use Rattle.am_c.specs.declared.session.Session.{Session}
use Rattle.am_c.specs.declared.session.StepEnd.{StepEnd}
use Rattle.am_c.specs.declared.session.StepEnd.TheVariants.{Told, NoMemory, NoRoom, Other}
use Rattle.am_c.specs.declared.options.OptionsFault.{OptionsFault}
use Rattle.am_c.specs.declared.options.OptionsFault.TheVariants as faults

-- all was done
abbrev pub done : ℤ
done = pos 0

-- there was no memory, now or before
abbrev pub no_memory : ℤ
no_memory = pos 1

-- the room is too short for the answer
abbrev pub no_room : ℤ
no_room = pos 2

-- the handle is closed
abbrev pub closed : ℤ
closed = pos 3

-- the handle is open
abbrev pub open_now : ℤ
open_now = pos 4

-- the options are none
abbrev pub bad_options : ℤ
bad_options = pos 5

-- the answer to another line or event waits for room
abbrev pub other_waits : ℤ
other_waits = pos 6

-- ---- which a call gives

abbrev pub number_for : OptionsFault → ℤ
number_for faults.Form = bad_options
number_for faults.NoMemory = no_memory

-- what closing gives
abbrev pub number_closing : Option Session → ℤ
number_closing None = closed
number_closing (Some session) = done

-- what a step gives
abbrev pub step_number : StepEnd → ℤ
step_number Told = done
step_number NoMemory = no_memory
step_number NoRoom = no_room
step_number Other = other_waits
