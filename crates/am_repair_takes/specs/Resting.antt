-- What is known of a group in one view in which nobody asks to join, towards that all that its members sent is answered.
use Rattle.std.specs.Prelude.{◌≡◌, ℕ, ◌+◌, ◌-◌, ◌<◌, ◌≤◌, List, true, false}
use Rattle.std.specs.List.{sum_by}
use Rattle.am_base.specs.declared.image.Report.{Report}
use Rattle.am_base.specs.declared.image.Image.{Image}
use Rattle.am_base.specs.declared.name.Stamp.{Stamp}
use Rattle.am_base.specs.Founding.{Rules, MayFound}
use Rattle.am_base.specs.Lists.{row_of_name}
use Rattle.am_base.specs.Names.{names_of}
use Rattle.am_packet.specs.declared.packet.Packet.{Packet}
use Rattle.am_group.specs.declared.event.Event.{Event}
use Rattle.am_node_defs.specs.Sends as own
use Rattle.am_model.specs.Node.{Node, image_of_node, members, own_row, report_fits, is_asking_status}
use Rattle.am_model.specs.Step.{hear_packet}
use Rattle.am_model.specs.Sequencing.{has_no_join}
use Rattle.am_model.specs.Hearing.{sequencer_hears_packet}
use Rattle.am_group_defs.specs.World.{World, is_stopped, run}
use Rattle.am_repair.specs.Rows.{PacketIsReport}

-- ---- what the sequencer hears of what was taken

-- it keeps no less than a report tells
abbrev pub TakenIsKnown : Type 0
TakenIsKnown = (m : Node) (p : Packet) (s : ℕ) (v : Stamp) (report : Report) → PacketIsReport p s v report → sequencer_hears_packet m s v ≡ true
    → has_no_join m s ≡ false → report_fits m report ≡ true → report.taken ≤ ((hear_packet m p).node.reports s).taken

-- ---- what is settled

-- in every run what is settled of a node's own sends stands in its list: the request that waits is at most one above the last of its own row
abbrev pub SettledStands : Type 0
SettledStands = (rules : Rules) (events : List Event) (name : ℕ) → MayFound rules → name < 256
    → own.next_request ((run rules events).nodes name).sends ≤ (own_row ((run rules events).nodes name)).last + 1

-- ---- who asks, and what isn't numbered

-- nobody who runs asks to join
abbrev pub NobodyAsks : World → Type 0
NobodyAsks w = (name : ℕ) → is_stopped w name ≡ false → is_asking_status (w.nodes name).status ≡ false

-- how many of some names' sends have no number yet, where so many were sent, and a list tells so
abbrev pub count_of_unnumbered_sends : (ℕ → ℕ) → Image → List ℕ → ℕ
count_of_unnumbered_sends last image names = sum_by (λ name. last name - (row_of_name image name).last) names

-- so of the members of this name's list, by that list
abbrev pub unnumbered_in : World → ℕ → ℕ
unnumbered_in w q = count_of_unnumbered_sends (λ name. (w.nodes name).sends.last) (image_of_node (w.nodes q)) (names_of (members (w.nodes q)))
