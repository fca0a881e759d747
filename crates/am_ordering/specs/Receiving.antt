-- Pieces of a member's rows.
use Rattle.std.specs.Prelude.{◌≡◌, ℕ, Bool, true, false, max, nat_le, if◌then◌else◌}
use Rattle.am_node_defs.specs.Cores.{CoreState}
use Rattle.am_model.specs.Node.{Node, set_of_one_name, is_member, is_sequencer}
use Rattle.am_node_parts.specs.declared.reply.Note.TheVariants as notes
use Rattle.am_node_parts.specs.declared.reply.Telling.{Telling}
use Rattle.am_node_parts.specs.declared.reply.Telling.TheVariants as tell

-- what the sequencer's packet tells of its fronts, noted by a core
abbrev pub note : ℕ → ℕ → CoreState → CoreState
note base acc c = record c { told = max c.told acc; base = max c.base (if nat_le base c.taken then base else c.base) }

-- an Ack to a name, where it is due
abbrev pub ack_where : Bool → ℕ → Telling
ack_where is_due to = if is_due then tell.Note (set_of_one_name to) notes.Ack else tell.Nothing

-- a member that isn't the sequencer
pub record Follows (m : Node) : Type 0 where
  pub member : is_member m.status ≡ true
  pub follows : is_sequencer m ≡ false
