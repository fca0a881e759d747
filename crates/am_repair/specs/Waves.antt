-- What a round has brought about for one member, wave by wave.
use Rattle.std.specs.Prelude.{◌≡◌, ℕ, ◌+◌, ◌-◌, ◌<◌, ◌≤◌, min, Some, true}
use Rattle.am_base.specs.declared.image.Report.{Report}
use Rattle.am_base.specs.declared.entry.Entry.{Entry}
use Rattle.am_base.specs.Founding.{Rules}
use Rattle.am_base.specs.Lists.{log_entry_at}
use Rattle.am_packet.specs.declared.packet.Packet.{Packet}
use Rattle.am_packet.specs.declared.packet.Packet.TheVariants.{Bcast, Accept, Nack}
use Rattle.am_packet.specs.Boxes.{Letter, letter_to}
use Rattle.am_group.specs.Addressed.{is_for}
use Rattle.am_group.specs.Journals.{letter_at}
use Rattle.am_model.specs.Node.{set_of_one_name}
use Rattle.am_group_defs.specs.World.{World}
use Rattle.am_repair.specs.Rows.{PacketIsReport}
use Rattle.am_repair.specs.Calm.{Repair}

-- a letter above a number, for a name
pub record IsSentAfter (w : World) (after name : ℕ) (letter : Letter) : Type 0 where
  pub number : ℕ
  pub late : after < number
  pub there : letter_at w.letters number ≡ Some letter
  pub meant : is_for letter name ≡ true

-- the sequencer's poll, which tells of a list no shorter than it was, and of so much accepted
pub record IsPoll (r : Repair) (accepted : ℕ) (p : Packet) : Type 0 where
  pub base : ℕ
  pub acc : ℕ
  pub high : ℕ
  pub is : p ≡ Accept r.by r.view base acc high true
  pub far : r.high ≤ high
  pub told : accepted ≤ acc

-- after the ticks: such a poll is on its way
pub record Polled (r : Repair) (i after accepted : ℕ) (w : World) : Type 0 where
  pub letter : Letter
  pub sent : IsSentAfter w after i letter
  pub polls : IsPoll r accepted letter.packet
  pub open polls use *

-- a member's report, of at least so much stored
pub record ReportsFrom (r : Repair) (i stored : ℕ) (p : Packet) : Type 0 where
  pub report : Report
  pub is : PacketIsReport p i r.view report
  pub fits : report.taken ≤ report.stored
  pub much : stored ≤ report.stored

-- and so is such a report
pub record Reported (r : Repair) (i after stored : ℕ) (w : World) : Type 0 where
  pub letter : Letter
  pub sent : IsSentAfter w after r.by letter
  pub reports : ReportsFrom r i stored letter.packet
  pub open reports use *

-- a member's question, of just so much stored
pub record AsksFrom (r : Repair) (i stored : ℕ) (p : Packet) : Type 0 where
  pub report : Report
  pub is : p ≡ Nack i r.view report
  pub fits : report.taken ≤ report.stored
  pub exact : report.stored ≡ stored

-- after the first wave: a member that has less has asked for what is missing
pub record MissingIsAsked (r : Repair) (i after stored : ℕ) (w : World) : Type 0 where
  pub letter : Letter
  pub sent : IsSentAfter w after r.by letter
  pub asks : AsksFrom r i stored letter.packet
  pub open asks use *

-- an entry of the sequencer's list on its way to a member, which may store it where it comes next
pub record IsServed (rules : Rules) (r : Repair) (i letter number : ℕ) (w : World) : Type 0 where
  pub base : ℕ
  pub acc : ℕ
  pub entry : Entry
  pub there : letter_at w.letters letter ≡ Some (letter_to (set_of_one_name i) (Bcast r.by r.view base acc number entry))
  pub stands : log_entry_at (w.nodes r.by).core.log number ≡ Some entry
  pub taken : base ≤ (w.nodes i).core.taken
  pub within : number - base ≤ rules.window + 15

-- after the second: the entries above what it has stored, eight or as many as there are, one after the other
pub record Served (rules : Rules) (r : Repair) (i after stored : ℕ) (w : World) : Type 0 where
  pub first : ℕ
  pub late : after ≤ first
  pub many : ℕ
  pub enough : min (stored + 8) r.high ≤ stored + many
  pub each : (k : ℕ) → k < many → IsServed rules r i (first + 1 + k) (stored + 1 + k) w
