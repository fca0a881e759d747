-- Keys: whose records a pass knows.
use Rattle.std.specs.Prelude.{ℕ, List, ◌++◌, map, Bool, false, ◌==◌, nat_lt, filter, count_by}
use Rattle.std.specs.List.{range_with_len}
use Rattle.am_base.specs.Names.{place_of_name}
use Rattle.am_group.specs.declared.event.Record.{Record}
use Rattle.am_shared_journal_defs.specs.declared.terms.SharerKey.{SharerKey}
use Rattle.am_shared_journal_defs.specs.declared.terms.SharerKey.TheVariants.{Place, Caller}

-- whether a record was done at a place, or by a caller
abbrev pub is_of : SharerKey → Record → Bool
is_of (Place place) r = place_of_name r.event.node == place
is_of (Caller caller) r = r.by.caller == caller

-- the records of a key, in order
abbrev pub of_key : SharerKey → List Record → List Record
of_key key records = filter (is_of key) records

abbrev pub same_key : SharerKey → SharerKey → Bool
same_key (Place a) (Place b) = a == b
same_key (Caller a) (Caller b) = a == b
same_key _ _ = false

-- how often a key is among some
abbrev pub times : SharerKey → List SharerKey → ℕ
times key keys = count_by (same_key key) keys

-- a journal has sixteen places, and so many callers
abbrev pub is_key : ℕ → SharerKey → Bool
is_key callers (Place place) = nat_lt place 16
is_key callers (Caller caller) = nat_lt caller callers

unfoldable pub place_keys : List SharerKey
place_keys = map Place (range_with_len 0 16)

unfoldable pub caller_keys : ℕ → List SharerKey
caller_keys callers = map Caller (range_with_len 0 callers)

abbrev pub all_keys : ℕ → List SharerKey
all_keys callers = place_keys ++ caller_keys callers
