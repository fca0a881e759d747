-- What may found a group.
use Rattle.std.specs.Prelude.{ℕ, ◌<◌, ◌≤◌, List, slice_index, EachIndex}
use Rattle.am_base.specs.Most.{greatest_window, most_bytes_of_body}
use Rattle.am_base.specs.Names.{IsSetOfNames, size}

-- how a group begins: its founders, the resilience of their view, the window, the greatest body that goes by the sequencer
pub record Rules : Type 0 where
  pub founders : List ℕ
  pub resilience : ℕ
  pub window : ℕ
  pub pb_up_to : ℕ

abbrev pub rules_of : List ℕ → ℕ → ℕ → ℕ → Rules
rules_of founders resilience window pb_up_to = record { founders = founders; resilience = resilience; window = window; pb_up_to = pb_up_to }

-- there is somebody, everybody has life 1, and each number is within its limit
pub record MayFound (r : Rules) : Type 0 where
  pub names : IsSetOfNames r.founders
  pub somebody : 0 < size r.founders
  pub first_lives : EachIndex r.founders (λ place. slice_index r.founders place ≤ 1)
  pub resilience_within : r.resilience ≤ 15
  pub window_least : 0 < r.window
  pub window_most : r.window ≤ greatest_window
  pub pb_up_to_within : r.pb_up_to ≤ most_bytes_of_body
