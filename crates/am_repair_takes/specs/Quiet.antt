-- A group in one view in which nobody asks to join, and how its sequencer's list goes on there.
use Rattle.std.specs.Prelude.{◌≡◌, ℕ, ◌+◌, ◌-◌, ◌<◌, ◌≤◌, ◌==◌, List, ◌++◌, length, Some, true, false, All}
use Rattle.am_base.specs.declared.entry.Entry.{Entry}
use Rattle.am_base.specs.declared.event.NodeEvent.TheVariants as does
use Rattle.am_base.specs.Fronts.{counting_names_at}
use Rattle.am_base.specs.Founding.{Rules, MayFound}
use Rattle.am_base.specs.Lists.{Log, top_of_log, log_entry_at, fits, log_image_at, log_members_at, image_of_log}
use Rattle.am_base.specs.Names.{has, names_of}
use Rattle.am_packet.specs.declared.packet.Packet.{Packet}
use Rattle.am_packet.specs.declared.packet.Packet.TheVariants.{JoinAsk}
use Rattle.am_packet.specs.Boxes.{Letter}
use Rattle.am_group.specs.declared.event.Event.{Event}
use Rattle.am_group.specs.Journals.{letter_at}
use Rattle.am_model.specs.Node.{top}
use Rattle.am_model.specs.Step.{step}
use Rattle.am_group_defs.specs.World.{World, run}
use Rattle.am_repair.specs.Calm.{Repair, Calm}
use Rattle.am_repair.specs.Rounds.{round_of}
use Rattle.am_repair_takes.specs.Resting.{NobodyAsks, count_of_unnumbered_sends}
use Rattle.am_repair_takes.specs.Taking.{IsTaking}

-- ---- the sequencer's list

-- from a number on it tells the same members, who count for each entry above; and each of its entries fits
pub record GoesOnBySends (set : List ℕ) (high : ℕ) (log : Log) : Type 0 where
  pub members_ : (k : ℕ) → high ≤ k → k ≤ top_of_log log → log_members_at log k ≡ set
  pub counted_ : (k : ℕ) → high < k → k ≤ top_of_log log → counting_names_at log k ≡ set
  pub fit_ : (k : ℕ) (e : Entry) → log_entry_at log k ≡ Some e → fits (log_image_at log (k - 1)) e ≡ true

-- ---- the whole

-- not a request to join
abbrev pub NoAsk : Packet → Type 0
NoAsk (JoinAsk s v) = ⊥
NoAsk _ = Unit {0}

-- a calm world in which nobody who runs asks to join, and no letter of the schedule does: so many sends were made by each name, and as many
-- entries as the sequencer has, with the sends that it hasn't numbered, are no more than a total
pub record Quiet (r : Repair) (last : ℕ → ℕ) (total : ℕ) (w : World) : Type 0 where
  pub calm : Calm r w
  pub sent : r.sent ≤ length w.letters
  pub places : length r.members ≡ 16
  pub list : GoesOnBySends r.members r.high (w.nodes r.by).core.log
  pub few : top (w.nodes r.by) + count_of_unnumbered_sends last (image_of_log (w.nodes r.by).core.log) (names_of r.members) ≤ total
  pub asks : NobodyAsks w
  pub letters : (number : ℕ) (l : Letter) → r.sent < number → letter_at w.letters number ≡ Some l → NoAsk l.packet
  pub lasts : (name : ℕ) → (w.nodes name).sends.last ≡ last name

-- ---- claims

-- a quiet world of a run stays quiet through ticks, hearings of the schedule's own letters, and takes
abbrev pub QuietStays : Type 0
QuietStays = (rules : Rules) (events more : List Event) (r : Repair) (last : ℕ → ℕ) (total : ℕ) → MayFound rules → Quiet r last total (run rules events)
    → All (IsTaking r) more → Quiet r last total (run rules (events ++ more))

-- a repair that begins here, up to a higher number
abbrev pub raised : Repair → World → ℕ → Repair
raised r w high = record r { high = high; sent = length w.letters }

-- a quiet world is quiet for each higher number that the sequencer has reached
abbrev pub QuietIsRaised : Type 0
QuietIsRaised = (r : Repair) (last : ℕ → ℕ) (total high : ℕ) (w : World) → Quiet r last total w → r.high ≤ high → high ≤ top (w.nodes r.by)
    → Quiet (raised r w high) last total w

-- what a member has taken that has stored all up to where the sequencer stood, the sequencer knows after one round
abbrev pub RoundsTellTaken : Type 0
RoundsTellTaken = (rules : Rules) (events : List Event) (r : Repair) (last : ℕ → ℕ) (total name : ℕ) → MayFound rules
    → Quiet r last total (run rules events) → has r.members name ≡ true → (name == r.by) ≡ false → r.high ≤ top ((run rules events).nodes name)
    → ((run rules events).nodes name).core.taken ≤ (((round_of (run rules events)).nodes r.by).reports name).taken

-- Where the sequencer has accepted all up to where it stood, and it and each member have taken all up to a number, as it knows: its tick trims
-- its list up to there.
abbrev pub TicksTrim : Type 0
TicksTrim = (rules : Rules) (events : List Event) (r : Repair) (last : ℕ → ℕ) (total number : ℕ) → MayFound rules → Quiet r last total (run rules events)
    → r.high ≤ ((run rules events).nodes r.by).core.acc
    → ((name : ℕ) → has r.members name ≡ true → (name == r.by) ≡ false → number ≤ (((run rules events).nodes r.by).reports name).taken)
    → number ≤ ((run rules events).nodes r.by).core.taken
    → number ≤ (step ((run rules events).nodes r.by) does.Tick).node.core.base
