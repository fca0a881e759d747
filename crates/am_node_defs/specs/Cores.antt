-- A node's part of a group: the list, and how far it is known, accepted and given out.
use Rattle.std.specs.Prelude.{◌≡◌, ℕ, zero, suc, ◌+◌, ◌-◌, List, ◌≤◌, max, min, nat_lt, if◌then◌else◌}
use Rattle.am_base.specs.declared.name.Stamp.{Stamp}
use Rattle.am_base.specs.declared.entry.Entry.{Entry}
use Rattle.am_base.specs.Founding.{Rules}
use Rattle.am_base.specs.Limits.{StampIsInRange}
use Rattle.am_base.specs.Lists.{Log, top_of_log, log_members_at, log_with_entry}
use Rattle.am_base.specs.Names.{union_of_names}
use Rattle.am_node_defs.specs.Kept.{IsEndOfLog, log_above}

-- the list is trimmed up to the base; a core of the code keeps its end from there on, and one of the protocol all of it
pub record CoreState : Type 0 where
  pub who : ℕ
  pub rules : Rules
  pub log : Log
  pub base : ℕ
  pub promise : Stamp
  pub told : ℕ
  pub acc : ℕ
  pub taken : ℕ
  pub start : ℕ

-- what a core of the code always keeps: its log has room for as much as the window asks for, the round of its promise
-- is within its limit, and its numbers stand in their order
pub record CoreIsWithinLimits (log : Log) (capacity : ℕ) (rules : Rules) (promise : Stamp) (acc taken : ℕ) : Type 0 where
  pub room : capacity ≡ rules.window + 15
  pub promised : StampIsInRange promise
  pub let_go : log.start ≤ taken
  pub given : taken ≤ acc
  pub accepted : acc ≤ top_of_log log

-- the numbers of a core stand in their order
pub record CoreFrontsAreInOrder (c : CoreState) : Type 0 where
  pub kept : c.base ≡ c.log.start
  pub let_go : c.base ≤ c.taken
  pub given : c.taken ≤ c.acc
  pub accepted : c.acc ≤ top_of_log c.log

-- what is accepted goes on to what is told, as far as the list is stored
unfoldable pub raise_accepted_to_told : CoreState → CoreState
raise_accepted_to_told c = record c { acc = max c.acc (min c.told (top_of_log c.log)) }

-- who joined passes over what is accepted below its Join
unfoldable pub pass_over_below_join : CoreState → CoreState
pass_over_below_join c = record c { taken = if nat_lt c.taken (c.start - 1) then max c.taken (min c.acc (c.start - 1)) else c.taken }

abbrev pub advance_core : CoreState → CoreState
advance_core c = pass_over_below_join (raise_accepted_to_told c)

-- the members after each number from one on, so many numbers up, together
unfoldable pub union_of_members_at : Log → ℕ → ℕ → List ℕ
union_of_members_at log from zero = log_members_at log from
union_of_members_at log from (suc more) = union_of_names (union_of_members_at log from more) (log_members_at log (from + suc more))

-- all who are members after some number from what is accepted on
abbrev pub members_since_accepted : CoreState → List ℕ
members_since_accepted c = union_of_members_at c.log c.acc (top_of_log c.log - c.acc)

-- the list is trimmed up to a number, where that is above the base: for the protocol, whose list stays, and for the code
abbrev pub trim_core_to : ℕ → CoreState → CoreState
trim_core_to base c = record c { base = max c.base base }

abbrev pub trim_core_list : ℕ → CoreState → CoreState
trim_core_list base c = if nat_lt c.base base then record c { log = log_above c.log base; base = base } else c

-- the same core with this list
abbrev pub core_with_log : Log → CoreState → CoreState
core_with_log all c = record c { log = all }

-- the core keeps the end of this list from its base on
pub record CoreKeepsEndOf (all : Log) (c : CoreState) : Type 0 where
  pub base : c.base ≡ c.log.start
  pub kept : IsEndOfLog all c.log

-- the core changes as the protocol's, whose list stays
abbrev pub CoreChangesAlike : (CoreState → CoreState) → CoreState → CoreState → Type 0
CoreChangesAlike f old new = (all : Log) → CoreKeepsEndOf all old → CoreKeepsEndOf all new × (core_with_log all new ≡ f (core_with_log all old))

-- the list gets this entry, and nothing else changes
abbrev pub CoreAddsEntry : Entry → CoreState → CoreState → Type 0
CoreAddsEntry e old new = (all : Log) → CoreKeepsEndOf all old → CoreKeepsEndOf (log_with_entry all e) new
    × (core_with_log (log_with_entry all e) new ≡ record (core_with_log all old) { log = log_with_entry all e })

-- this is what the protocol's core tells or sends
abbrev pub CoreTellsAlike : {A : Type 0} → (CoreState → A) → CoreState → A → Type 0
CoreTellsAlike f c told = (all : Log) → CoreKeepsEndOf all c → told ≡ f (core_with_log all c)

-- from the protocol's core before, the row gives what is told of its core afterwards
abbrev pub CoreRowGives : {A : Type 0} → (CoreState → A) → CoreState → (CoreState → A) → CoreState → Type 0
CoreRowGives row old told new = (all : Log) → CoreKeepsEndOf all old → (more : Log) × CoreKeepsEndOf more new × (row (core_with_log all old) ≡ told (core_with_log more new))
