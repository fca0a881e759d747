use Rattle.am_node_parts.proofs.Words.{◌≡◌, ℕ, ◌+◌, ◌<◌, ◌≤◌, false, log_entry_at, is_data_of, some_passes}
use Rattle.am_node_parts.proofs.parts.Parts.accepted_number.Given as goal

abbrev pub invariant-loop-before : goal.invariant-loop-before
invariant-loop-before l = (number : ℕ) → l.self.core.base ≤ number → number < l.before
    → some_passes (is_data_of l.self.core.who l.req) (log_entry_at l.self.core.log (number + 1)) ≡ false
