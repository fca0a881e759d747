-- How a send of a member gets its number: the member's tick hands it in, and the sequencer numbers it, where it has room.
use Rattle.std.specs.Prelude.{◌≡◌, ℕ, ◌+◌, List, Some, true, false, Contains}
use Rattle.am_base.specs.declared.name.Stamp.{Stamp}
use Rattle.am_base.specs.declared.image.Report.{Report}
use Rattle.am_base.specs.declared.event.NodeEvent.TheVariants as does
use Rattle.am_base.specs.Names.{has}
use Rattle.am_packet.specs.declared.packet.Packet.{Packet}
use Rattle.am_packet.specs.declared.packet.Packet.TheVariants.{Request, Spread}
use Rattle.am_packet.specs.Boxes.{Letter}
use Rattle.am_node_defs.specs.declared.sender.OwnSend.{OwnSend}
use Rattle.am_model.specs.Node.{Node, top, view, members, acts_in_its_view, is_sequencer, has_room, waiting_send_of, own_report_of, report_fits}
use Rattle.am_model.specs.Emit.{StepResult}
use Rattle.am_model.specs.Step.{step, hear_packet}
use Rattle.am_model.specs.Calls.{would_emit_send}
use Rattle.am_model.specs.Sequencing.{row_of_name_in_list, has_no_join}
use Rattle.am_model.specs.Hearing.{sequencer_hears_packet}
use Rattle.am_repair.specs.Rows.{IsAtRest}

-- ---- a member hands its waiting send in

-- packets that bring a send, with a report
pub data PacketIsSend : Packet → ℕ → Stamp → Report → ℕ → List ℕ → Type 0 where
  request : (s : ℕ) (v : Stamp) (report : Report) (req : ℕ) (body : List ℕ) → PacketIsSend (Request s v report req body) s v report req body
  spread : (s : ℕ) (v : Stamp) (report : Report) (req : ℕ) (body : List ℕ) → PacketIsSend (Spread s v report req body) s v report req body

pub record HandsIn (m : Node) (send : OwnSend) (s : StepResult) : Type 0 where
  pub letter : Letter
  pub there : Contains s.letters letter
  pub any : letter.any ≡ false
  pub to : has letter.to (view m).by ≡ true
  pub says : PacketIsSend letter.packet s.node.core.who s.node.core.promise (own_report_of s.node) send.req send.body

-- at each tick, until the send stands in its list
abbrev pub MembersHandIn : Type 0
MembersHandIn = (m : Node) (send : OwnSend) → acts_in_its_view m ≡ true → is_sequencer m ≡ false → IsAtRest m → has (members m) (view m).by ≡ true
    → waiting_send_of m ≡ Some send → would_emit_send m (Some send) ≡ true → HandsIn m send (step m does.Tick)

-- ---- the sequencer numbers it

-- what is the next send of its sender, who hasn't left, gets the next number, where there is room
abbrev pub NextSendsAreNumbered : Type 0
NextSendsAreNumbered = (m : Node) (p : Packet) (s : ℕ) (v : Stamp) (report : Report) (req : ℕ) (body : List ℕ) → PacketIsSend p s v report req body
    → sequencer_hears_packet m s v ≡ true → has_no_join m s ≡ false → report_fits m report ≡ true → (row_of_name_in_list m s).left ≡ 0 → req ≡ (row_of_name_in_list m s).last + 1
    → has_room m ≡ true → top (hear_packet m p).node ≡ top m + 1

-- and so does its own at its tick
abbrev pub OwnSendsAreNumbered : Type 0
OwnSendsAreNumbered = (m : Node) (send : OwnSend) → is_sequencer m ≡ true → IsAtRest m → waiting_send_of m ≡ Some send → would_emit_send m (Some send) ≡ true
    → has_room m ≡ true → top (step m does.Tick).node ≡ top m + 1
