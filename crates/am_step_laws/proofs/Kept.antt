-- What each step of a node keeps, and the changes that keep it.
use Rattle.am_step_laws.proofs.EffectWords.{◌≡◌, ℕ, ◌+◌, ◌-◌, ◌≤◌, true, false, not, ◌&&◌, Option, Some, None, ap, arith, length-append, nat_tests, Entry, Stamp}
use Rattle.am_step_laws.proofs.EffectWords.{stamp_is_less, Rules, pass_over_below_join, base_after_trim, raise_own_report, tell_accept_front, advance_with_reports, Node, Ballot, top, has_room, is_sequencer, push_entry}
use Rattle.am_step_laws.proofs.EffectWords.{trim_node_up_to, refresh_as_sequencer, refresh, settle_waiting_send, refresh_at_end, overtake_lower_ballot, node_with_promise, split_on_bool}
use Rattle.am_node_defs.specs.Cores.{raise_accepted_to_told}
use Rattle.am_node_defs.specs.Refresh.{trim_to_least_taken}
use Rattle.am_step_laws.proofs.{Rests.settle_keeps_property}

-- a ballot hasn't given up its own coordinator
abbrev pub BallotKeepsItsCoordinator : ℕ → Option Ballot → Type 0
BallotKeepsItsCoordinator who None = Unit {0}
BallotKeepsItsCoordinator who (Some b) = b.given_up who ≡ false

-- by the parts of a node: its rules, its name, its base and its top, and its last ballot
pub record PartsAreBounded (rules own : Rules) (who base high : ℕ) (ballot : Option Ballot) : Type 0 where
  pub founding : own ≡ rules
  pub few : high ≤ base + (rules.window + 15)
  pub itself : BallotKeepsItsCoordinator who ballot

abbrev pub NodeIsBounded : Rules → Node → Type 0
NodeIsBounded rules m = PartsAreBounded rules m.core.rules m.core.who m.core.base (top m) m.ballot

-- ---- entries

-- the next number, where that is within the bound
pub entry_within_window_keeps_bounds : (rules : Rules) (m : Node) (e : Entry) → NodeIsBounded rules m → top m + 1 ≤ m.core.base + (rules.window + 15) → NodeIsBounded rules (push_entry m e)
entry_within_window_keeps_bounds rules m e h low = record { founding = h.founding; few = simp length-append (omega arith); itself = h.itself }

pub pushed_entry_keeps_bounds : (rules : Rules) (m : Node) (e : Entry) → has_room m ≡ true → NodeIsBounded rules m → NodeIsBounded rules (push_entry m e)
pushed_entry_keeps_bounds rules m e room h =
    let same = ap (λ (r : Rules). r.window) h.founding in
    let low : top m + 1 - m.core.base ≤ m.core.rules.window = grind (arith, nat_tests) in
    entry_within_window_keeps_bounds rules m e h (omega arith)

-- a base that goes up
pub trim_keeps_bounds : (rules : Rules) (m : Node) (base : ℕ) → NodeIsBounded rules m → NodeIsBounded rules (trim_node_up_to m base)
trim_keeps_bounds rules m base h = let f = h.few in record { founding = h.founding; few = omega arith; itself = h.itself }

-- ---- promises

has_itself_still : (who : ℕ) (by : Stamp) (ballot : Option Ballot) → BallotKeepsItsCoordinator who ballot → BallotKeepsItsCoordinator who (overtake_lower_ballot by ballot)
has_itself_still who by None h = tt
has_itself_still who by (Some b) h = split_on_bool (not b.is_over && stamp_is_less b.stamp by) (λ t. rw t h) (λ f. rw f h)

pub promise_keeps_bounds : (rules : Rules) (m : Node) (stamp : Stamp) → NodeIsBounded rules m → NodeIsBounded rules (node_with_promise m stamp)
promise_keeps_bounds rules m stamp h = record { founding = h.founding; few = h.few; itself = has_itself_still m.core.who stamp m.ballot h.itself }

-- ---- the refresh

kept_after : (rules own : Rules) (who base high : ℕ) (ballot : Option Ballot) (least : Option ℕ) → PartsAreBounded rules own who base high ballot
    → PartsAreBounded rules own who (base_after_trim least base) high ballot
kept_after rules own who base high ballot None h = h
kept_after rules own who base high ballot (Some to) h = let f = h.few in record { founding = h.founding; few = omega arith; itself = h.itself }

kept_lead : (rules : Rules) (m : Node) → NodeIsBounded rules m → NodeIsBounded rules (refresh_as_sequencer m)
unfolding refresh_as_sequencer raise_own_report tell_accept_front advance_with_reports trim_to_least_taken raise_accepted_to_told pass_over_below_join
kept_lead rules m h = kept_after rules m.core.rules m.core.who m.core.base (top m) m.ballot _ h

pub refresh_keeps_bounds : (rules : Rules) (m : Node) → NodeIsBounded rules m → NodeIsBounded rules (refresh m)
unfolding refresh raise_accepted_to_told pass_over_below_join
refresh_keeps_bounds rules m h = split_on_bool (is_sequencer m) (λ t. rw t (kept_lead rules m h)) (λ f. rw f h)

-- ---- the end of a step

pub settle_keeps_bounds : (rules : Rules) (m : Node) → NodeIsBounded rules m → NodeIsBounded rules (settle_waiting_send m)
settle_keeps_bounds rules m h = settle_keeps_property (NodeIsBounded rules) m h (λ s k w at. h)

pub end_refresh_keeps_bounds : (rules : Rules) (m : Node) → NodeIsBounded rules m → NodeIsBounded rules (refresh_at_end m)
unfolding refresh_at_end
end_refresh_keeps_bounds rules m h = settle_keeps_bounds rules (refresh m) (refresh_keeps_bounds rules m h)
