-- How far a list is accepted, by what its members report.
use Rattle.std.specs.Prelude.{ℕ, zero, suc, ◌+◌, ◌-◌, min, List, Option, Some, None, Bool, ◌&&◌, nat_le, if◌then◌else◌, count_by}
use Rattle.std.specs.List.{list_all, range_with_len}
use Rattle.am_base.specs.declared.image.Report.{Report}
use Rattle.am_base.specs.declared.entry.Entry.{Entry}
use Rattle.am_base.specs.declared.entry.Entry.TheVariants.{Data, Join, Leave, View}
use Rattle.am_base.specs.Names.{size, names_of}
use Rattle.am_base.specs.Lists.{Log, top_of_log, log_entry_at, log_image_at, log_members_at, image_of_log}

-- whose storage of an entry counts: a View's own members, else the members before it
abbrev pub counting_names_of_entry : Option Entry → List ℕ → List ℕ
counting_names_of_entry None before = before
counting_names_of_entry (Some (Data from req body)) before = before
counting_names_of_entry (Some (Join name)) before = before
counting_names_of_entry (Some (Leave name)) before = before
counting_names_of_entry (Some (View v)) before = v.members

abbrev pub counting_names_at : Log → ℕ → List ℕ
counting_names_at log number = counting_names_of_entry (log_entry_at log number) (log_members_at log (number - 1))

-- how many of them must have stored it: one more than the resilience there, or all
abbrev pub needed_count_at : Log → ℕ → ℕ
needed_count_at log number = min ((log_image_at log number).resilience + 1) (size (counting_names_at log number))

-- how many of them have reported it
abbrev pub holder_count_at : (ℕ → Report) → Log → ℕ → ℕ
holder_count_at reports log number = count_by (λ name. nat_le number (reports name).stored) (names_of (counting_names_at log number))

abbrev pub is_held : (ℕ → Report) → Log → ℕ → Bool
is_held reports log number = nat_le (needed_count_at log number) (holder_count_at reports log number)

-- an entry of the last View or above it is satisfied where it is held; one below, where that View is held and reached
abbrev pub is_satisfied : (ℕ → Report) → Log → ℕ → ℕ → Bool
is_satisfied reports log front number =
    if nat_le (image_of_log log).view_number number then is_held reports log number
    else nat_le (image_of_log log).view_number front && is_held reports log (image_of_log log).view_number

-- everything above what is accepted is satisfied up to this front
abbrev pub is_acceptable_front : (ℕ → Report) → Log → ℕ → ℕ → Bool
is_acceptable_front reports log acc front = list_all (is_satisfied reports log front) (range_with_len (acc + 1) (front - acc))

-- the greatest number that passes, from one on, of so many above it
unfoldable pub greatest_passing_number : (ℕ → Bool) → ℕ → ℕ → ℕ
greatest_passing_number passes from zero = from
greatest_passing_number passes from (suc more) = if passes (from + suc more) then from + suc more else greatest_passing_number passes from more

-- the accept front: the greatest number, from what is accepted on, up to which everything is satisfied
abbrev pub accept_front : (ℕ → Report) → Log → ℕ → ℕ
accept_front reports log acc = greatest_passing_number (is_acceptable_front reports log acc) acc (top_of_log log - acc)
