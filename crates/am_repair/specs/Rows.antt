-- What rows do in a group that stands in one view: what a tick sends there, and what hearing a letter does.
use Rattle.std.specs.Prelude.{◌≡◌, ℕ, ◌+◌, ◌-◌, ◌<◌, ◌≤◌, ◌⊎◌, min, List, [], ◌∷◌, ◌++◌, Bool, true, false, ◌==◌, All, Contains}
use Rattle.am_base.specs.declared.name.Stamp.{Stamp}
use Rattle.am_base.specs.declared.image.Report.{Report}
use Rattle.am_base.specs.declared.entry.Entry.{Entry}
use Rattle.am_base.specs.declared.event.NodeEvent.TheVariants as does
use Rattle.am_base.specs.Names.{has, size, names_of}
use Rattle.am_base.specs.Lists.{fits}
use Rattle.am_base.specs.Fronts.{counting_names_at}
use Rattle.am_packet.specs.declared.packet.Packet.{Packet}
use Rattle.am_packet.specs.declared.packet.Packet.TheVariants.{Request, Spread, Bcast, Accept, Ack, Nack}
use Rattle.am_packet.specs.Boxes.{Letter, letter_to}
use Rattle.am_model.specs.Node.{Node, top, image_of_node, view, members, other_members, set_of_one_name, acts_in_its_view, is_sequencer, has_own_leave, own_report_of, report_fits}
use Rattle.am_model.specs.Refresh.{refresh_at_end}
use Rattle.am_model.specs.Emit.{StepResult, bcast_packet_of, accept_packet_of, nack_packet_of, entries_to_serve}
use Rattle.am_model.specs.Step.{step, hear_packet}
use Rattle.am_model.specs.Calls.{is_unfinished_ballot}
use Rattle.am_model.specs.Sequencing.{has_no_join, take_report}
use Rattle.am_model.specs.Receiving.{is_view}
use Rattle.am_model.specs.Hearing.{hears_packet_of_sequencer, sequencer_hears_packet}

-- it doesn't leave, and no ballot of its own is open
pub record IsAtRest (m : Node) : Type 0 where
  pub stays : m.leaving ≡ false
  pub no_ballot : is_unfinished_ballot m.ballot ≡ false

-- ---- ticks

-- the sequencer tells all others how far its list goes and is accepted, and asks for a report
pub record Polls (s : StepResult) : Type 0 where
  pub there : (size (other_members s.node) == 0) ≡ false → Contains s.letters (letter_to (other_members s.node) (accept_packet_of s.node true))

abbrev pub SequencersPoll : Type 0
SequencersPoll = (m : Node) → is_sequencer m ≡ true → IsAtRest m → Polls (step m does.Tick)

-- packets that bring a report, but for the one of a leaver
pub data PacketIsReport : Packet → ℕ → Stamp → Report → Type 0 where
  ack : (s : ℕ) (v : Stamp) (report : Report) → PacketIsReport (Ack s v report) s v report
  nack : (s : ℕ) (v : Stamp) (report : Report) → PacketIsReport (Nack s v report) s v report
  request : (s : ℕ) (v : Stamp) (report : Report) (req : ℕ) (body : List ℕ) → PacketIsReport (Request s v report req body) s v report
  spread : (s : ℕ) (v : Stamp) (report : Report) (req : ℕ) (body : List ℕ) → PacketIsReport (Spread s v report req body) s v report

-- a member reports to its sequencer, with or without a send
pub record Reports (m : Node) (s : StepResult) : Type 0 where
  pub letter : Letter
  pub there : Contains s.letters letter
  pub any : letter.any ≡ false
  pub to : has letter.to (view m).by ≡ true
  pub says : PacketIsReport letter.packet s.node.core.who s.node.core.promise (own_report_of s.node)

abbrev pub MembersReport : Type 0
MembersReport = (m : Node) → acts_in_its_view m ≡ true → is_sequencer m ≡ false → IsAtRest m → has (members m) (view m).by ≡ true → Reports m (step m does.Tick)

-- ---- a member hears how far the list goes

pub record HearsFront (m : Node) (acc : ℕ) (n : Node) : Type 0 where
  pub stored : top n ≡ top m
  pub accepted : min acc (top m) ≤ n.core.acc

-- it accepts so far, as far as it has stored
abbrev pub FrontsAreHeard : Type 0
FrontsAreHeard = (m : Node) (s : ℕ) (v : Stamp) (base acc high : ℕ) (poll : Bool) → hears_packet_of_sequencer m s v ≡ true
    → HearsFront m acc (hear_packet m (Accept s v base acc high poll)).node

-- where it has less, it asks for what is missing
pub record Asks (m : Node) (s : ℕ) (step : StepResult) : Type 0 where
  pub stored : top step.node ≡ top m
  pub letters : step.letters ≡ letter_to (set_of_one_name s) (nack_packet_of step.node) ∷ []

abbrev pub GapsAreAsked : Type 0
GapsAreAsked = (m : Node) (s : ℕ) (v : Stamp) (base acc high : ℕ) (poll : Bool) → hears_packet_of_sequencer m s v ≡ true → top m < high → has_own_leave m ≡ false
    → Asks m s (hear_packet m (Accept s v base acc high poll))

-- ---- the sequencer hears reports

abbrev pub ReportsAreTaken : Type 0
ReportsAreTaken = (m : Node) (p : Packet) (s : ℕ) (v : Stamp) (report : Report) → PacketIsReport p s v report → sequencer_hears_packet m s v ≡ true
    → has_no_join m s ≡ false → report_fits m report ≡ true → report.stored ≤ ((hear_packet m p).node.reports s).stored

-- these entries, one Bcast each, from a number on
unfoldable pub bcasts : Node → List ℕ → ℕ → List Entry → List Letter
bcasts n to number [] = []
bcasts n to number (e ∷ es) = letter_to to (bcast_packet_of n number e) ∷ bcasts n to (number + 1) es

-- it sends what stands above what is stored, eight entries at most, and then perhaps how far the list is accepted
pub record Serves (m : Node) (s stored : ℕ) (step : StepResult) : Type 0 where
  pub same : step.node.core.log ≡ m.core.log
  pub more : List Letter
  pub letters : step.letters ≡ bcasts step.node (set_of_one_name s) (stored + 1) (entries_to_serve m stored) ++ more

abbrev pub NacksAreServed : Type 0
NacksAreServed = (m : Node) (s : ℕ) (v : Stamp) (report : Report) → sequencer_hears_packet m s v ≡ true → has_no_join m s ≡ false → report_fits m report ≡ true
    → (take_report m s report).core.base ≤ report.stored → Serves m s report.stored (hear_packet m (Nack s v report))

-- ---- a member hears an entry

-- what comes next, and fits
pub record ComesNext (m : Node) (base number : ℕ) (e : Entry) : Type 0 where
  pub next : number ≡ top m + 1
  pub stays : has_own_leave m ≡ false
  pub taken : base ≤ m.core.taken
  pub plain : is_view e ≡ false
  pub fits : fits (image_of_node m) e ≡ true
  pub within : number - base ≤ m.core.rules.window + 15

abbrev pub EntriesAreStored : Type 0
EntriesAreStored = (m : Node) (s : ℕ) (v : Stamp) (base acc number : ℕ) (e : Entry) → hears_packet_of_sequencer m s v ≡ true → ComesNext m base number e
    → top (hear_packet m (Bcast s v base acc number e)).node ≡ number

-- ---- how far the sequencer accepts

-- this name has reported all up to a number, or is the sequencer itself
abbrev pub HasReported : Node → ℕ → ℕ → Type 0
HasReported m high name = (name ≡ m.core.who) ⊎ (high ≤ (m.reports name).stored)

-- each name whose storage counts, of what isn't accepted up to a number, has reported all up to there
pub record HasReports (m : Node) (high : ℕ) : Type 0 where
  pub stored : high ≤ top m
  pub view : (image_of_node m).view_number ≤ high
  pub each : (number : ℕ) → m.core.acc < number → number ≤ high → (image_of_node m).view_number ≤ number
      → All (HasReported m high) (names_of (counting_names_at m.core.log number))

-- it accepts all of that at the end of its step
abbrev pub FrontsRise : Type 0
FrontsRise = (m : Node) (high : ℕ) → is_sequencer m ≡ true → HasReports m high → high ≤ (refresh_at_end m).core.acc
