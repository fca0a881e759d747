-- What a run gave to its applications.
use Rattle.std.specs.Prelude.{ℕ, List, [], ◌∷◌, if◌then◌else◌}
use Rattle.std.specs.List.{flat_map}
use Rattle.am_group.specs.declared.event.Record.{Record}
use Rattle.am_group.specs.declared.event.By.{By}
use Rattle.am_base.specs.declared.entry.Entry.{Entry}
use Rattle.am_base.specs.declared.outcome.Outcome.{Outcome}
use Rattle.am_base.specs.declared.outcome.Outcome.TheVariants as said
use Rattle.am_base.specs.Votes.{all_names}
use Rattle.am_group.specs.Deliveries.{acting_name_of_record, deliveries}
use Rattle.am_model.specs.Node.{has_log_by_status}
use Rattle.am_group_defs.specs.World.{World}

-- the same record with a caller's tag
abbrev pub with_tag : By → Record → Record
with_tag by r = record r { by = by }

-- ---- accepted sends

-- a send that was answered as accepted
pub record AcceptedSend : Type 0 where
  pub name : ℕ
  pub req : ℕ
  pub number : ℕ

abbrev pub accepted_send_of_outcome : ℕ → Outcome → List AcceptedSend
accepted_send_of_outcome name (said.Sent req number) = record { name = name; req = req; number = number } ∷ []
accepted_send_of_outcome name _ = []

abbrev pub accepted_sends : List Record → List AcceptedSend
accepted_sends records = flat_map (λ r. accepted_send_of_outcome (acting_name_of_record r) r.outcome) records

-- ---- logs

-- each name that has or had a list, in order, with what it was given
abbrev pub logs : World → List (ℕ × List (ℕ × Entry))
logs w = flat_map (λ name. if has_log_by_status (w.nodes name).status then (name, deliveries w.records name) ∷ [] else []) all_names
