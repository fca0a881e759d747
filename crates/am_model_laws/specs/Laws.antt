-- That the definitions mean what they say.
use Rattle.std.specs.Prelude.{◌≡◌, ◌≢◌, ◌⊎◌, ℕ, zero, suc, ◌+◌, ◌-◌, ◌<◌, ◌≤◌, max, List, ◌++◌, length, take, Option, Some, Bool, true, false, nat_le}
use Rattle.std.specs.Prelude.{if◌then◌else◌, ◌↔◌}
use Rattle.am_base.specs.declared.image.Image.{Image}
use Rattle.am_base.specs.declared.image.Report.{Report}
use Rattle.am_base.specs.declared.image.Vote.{Vote}
use Rattle.am_base.specs.declared.image.Row.{Row}
use Rattle.am_base.specs.declared.entry.Entry.{Entry}
use Rattle.am_base.specs.declared.entry.Entry.TheVariants.{Data}
use Rattle.am_base.specs.Names.{name_is_less}
use Rattle.am_base.specs.Votes.{NamedVote, vote_is_less, best_vote}
use Rattle.am_base.specs.declared.name.Stamp.{Stamp}
use Rattle.am_base.specs.Lists.{Log, row_at_place, row_of_name, after, fits, image_after_entries, AllEntriesFit, top_of_log, image_of_log, log_with_entry}
use Rattle.am_base.specs.Fronts.{is_held, is_satisfied, accept_front}
use Rattle.am_base.specs.declared.event.NodeEvent.{NodeEvent}
use Rattle.am_base.specs.declared.event.NodeEvent.TheVariants.{Hear}
use Rattle.am_packet.specs.declared.packet.Packet.{Packet}
use Rattle.am_packet.specs.declared.packet.Packet.TheVariants as packet
use Rattle.am_packet.specs.Limits.{IsPacket}
use Rattle.am_packet.specs.Spelling.{spelling}
use Rattle.am_model.specs.Node.{Node, top, image_of_node, report_fits, has_room, is_sequencer}
use Rattle.am_model.specs.Emit.{StepResult}
use Rattle.am_model.specs.Sequencing.{take_report}
use Rattle.am_model.specs.Hearing.{sequencer_hears_packet}
use Rattle.am_base.specs.declared.outcome.Outcome.{Outcome}
use Rattle.am_base.specs.declared.outcome.Outcome.TheVariants as said
use Rattle.am_group_defs.specs.World.{hear_cut}
use Rattle.am_model.specs.Refresh.{refresh}
use Rattle.am_model.specs.Step.{step, hear_packet}

-- a list that goes on tells what its beginning tells, and then the rest
abbrev pub FoldGoesOn : Type 0
FoldGoesOn = (image : Image) (number : ℕ) (xs ys : List Entry) → image_after_entries image number (xs ++ ys) ≡ image_after_entries (image_after_entries image number xs) (number + length xs) ys

-- a second refresh in a row changes nothing
abbrev pub RefreshOnce : Type 0
RefreshOnce = (m : Node) → refresh (refresh m) ≡ refresh m

-- ---- bytes

-- a packet's spelling is heard as that packet
abbrev pub SpellingIsHeard : Type 0
SpellingIsHeard = (m : Node) (packet : Packet) → IsPacket packet → step m (Hear (spelling packet)) ≡ hear_packet m packet

-- the first bytes of a spelling are heard as a cut packet: whole where all are there, and refused else
abbrev pub CutIsHeard : Type 0
CutIsHeard = (m : Node) (packet : Packet) (keep : ℕ) → IsPacket packet → step m (Hear (take keep (spelling packet))) ≡ hear_cut m keep packet

-- ---- the accept front

-- each entry above what is accepted is satisfied up to here
abbrev pub AllSatisfied : (ℕ → Report) → Log → ℕ → ℕ → Type 0
AllSatisfied reports log acc front = (number : ℕ) → acc < number → number ≤ front → is_satisfied reports log front number ≡ true

-- the greatest number up to which all is satisfied
pub record IsGreatestFront (reports : ℕ → Report) (log : Log) (acc front : ℕ) : Type 0 where
  pub least : acc ≤ front
  pub most : front ≤ max acc (top_of_log log)
  pub satisfied : AllSatisfied reports log acc front
  pub greatest : (higher : ℕ) → acc ≤ higher → higher ≤ top_of_log log → AllSatisfied reports log acc higher → higher ≤ front

abbrev pub AcceptFrontIsGreatest : Type 0
AcceptFrontIsGreatest = (reports : ℕ → Report) (log : Log) (acc : ℕ) → IsGreatestFront reports log acc (accept_front reports log acc)

-- as far up as each entry in turn passes, so many at most
unfoldable pub climb : (ℕ → Bool) → ℕ → ℕ → ℕ
climb passes from zero = from
climb passes from (suc more) = if passes (from + 1) then climb passes (from + 1) more else from

-- from below the last View, which has to be reached
abbrev pub climb_over : (ℕ → Bool) → ℕ → ℕ → ℕ → ℕ
climb_over passes view acc top = if nat_le view (climb passes (view - 1) (top - (view - 1))) then climb passes (view - 1) (top - (view - 1)) else acc

-- the walk upwards: entry by entry from what is accepted on, or from the last View where that is higher
abbrev pub walk : (ℕ → Report) → Log → ℕ → ℕ
walk reports log acc =
    if nat_le (image_of_log log).view_number acc then climb (is_held reports log) acc (top_of_log log - acc)
    else climb_over (is_held reports log) (image_of_log log).view_number acc (top_of_log log)

abbrev pub AcceptFrontByWalking : Type 0
AcceptFrontByWalking = (reports : ℕ → Report) (log : Log) (acc : ℕ) → accept_front reports log acc ≡ walk reports log acc

-- ---- letters

-- a step sends at most nine letters
abbrev pub FewLetters : Type 0
FewLetters = (m : Node) (event : NodeEvent) → length (step m event).letters ≤ 9

-- ---- votes

-- who showed a vote, and which is the best: the greatest, of the coordinator where it is among the greatest, else of the lowest name
pub record IsBestVote (votes : ℕ → Option Vote) (own : ℕ) (vote : Vote) (best : NamedVote) : Type 0 where
  pub shown : ((best.by ≡ own) × (best.vote ≡ vote)) ⊎ (votes best.by ≡ Some best.vote)
  pub above_own : vote_is_less best.vote vote ≡ false
  pub above_all : (name : ℕ) (v : Vote) → name < 256 → votes name ≡ Some v → vote_is_less best.vote v ≡ false
  pub own_first : best.by ≢ own → vote_is_less vote best.vote ≡ true
  pub lowest : best.by ≢ own → (name : ℕ) (v : Vote) → name < 256 → name_is_less name best.by ≡ true → votes name ≡ Some v → vote_is_less v best.vote ≡ true

-- of votes whose views' names are names
abbrev pub BestVoteIsGreatest : Type 0
BestVoteIsGreatest = (votes : ℕ → Option Vote) (own : ℕ) (vote : Vote) → vote.view.by < 256 → ((name : ℕ) (v : Vote) → votes name ≡ Some v → v.view.by < 256)
    → IsBestVote votes own vote (best_vote votes own vote)

-- ---- rows

-- what an entry may do to the row of a place where somebody joined: nothing, one more send, the end of a membership that
-- hadn't ended, or the beginning of a greater life's
abbrev pub RowStays : Row → Row → Type 0
RowStays before after_ = after_ ≡ before

abbrev pub HasSent : Row → Row → Type 0
HasSent before after_ = after_ ≡ record before { last = before.last + 1 }

abbrev pub RowHasLeft : ℕ → Row → Row → Type 0
RowHasLeft number before after_ = (before.left ≡ 0) × (after_ ≡ record before { left = number })

abbrev pub HasJoined : ℕ → Row → Row → Type 0
HasJoined number before after_ = (life : ℕ) × (before.life < life) × (0 < before.left) × (after_ ≡ record { life = life; joined = number; left = 0; last = 0 })

abbrev pub RowStep : ℕ → Row → Row → Type 0
RowStep number before after_ = (RowStays before after_ ⊎ HasSent before after_) ⊎ (RowHasLeft number before after_ ⊎ HasJoined number before after_)

abbrev pub RowsGoOn : Type 0
RowsGoOn = (image : Image) (number : ℕ) (e : Entry) (name : ℕ) → fits image e ≡ true → 0 < (row_at_place image name).joined
    → RowStep number (row_at_place image name) (row_at_place (after image number e) name)

-- a Data has the request after its sender's last, which it becomes
abbrev pub DataGoesOn : Type 0
DataGoesOn = (image : Image) (number from req : ℕ) (body : List ℕ) → fits image (Data from req body) ≡ true → (req ≡ (row_of_name image from).last + 1)
    × ((row_of_name (after image number (Data from req body)) from).last ≡ req)

-- the same membership, or a later one of the place
pub record IsSameMembership (before after_ : Row) : Type 0 where
  pub life : after_.life ≡ before.life
  pub joined : after_.joined ≡ before.joined
  pub last : before.last ≤ after_.last
  pub left : 0 < before.left → after_.left ≡ before.left

abbrev pub RowGoesOn : Row → Row → Type 0
RowGoesOn before after_ = IsSameMembership before after_ ⊎ (before.life < after_.life)

-- along a list a name's number of joining never changes, nor does its last request fall, until a greater life takes its place
abbrev pub MembershipsGoOn : Type 0
MembershipsGoOn = (image : Image) (number : ℕ) (es : List Entry) (name : ℕ) → 0 < number → AllEntriesFit image number es → 0 < (row_at_place image name).joined
    → RowGoesOn (row_at_place image name) (row_at_place (image_after_entries image number es) name)

-- ---- held

-- a send as a sequencer hears it: a Spread, or a Request
abbrev pub send_packet : Bool → ℕ → Stamp → Report → ℕ → List ℕ → Packet
send_packet true s v report req body = packet.Spread s v report req body
send_packet false s v report req body = packet.Request s v report req body

-- a member's next send, with a report that fits
pub record IsNextSend (m : Node) (s : ℕ) (report : Report) (req : ℕ) : Type 0 where
  pub known : 0 < (row_of_name (image_of_node m) s).joined
  pub fits : report_fits m report ≡ true
  pub stays : (row_of_name (image_of_node m) s).left ≡ 0
  pub next : req ≡ (row_of_name (image_of_node m) s).last + 1

abbrev pub OutcomeIsHeld : Outcome → Type 0
OutcomeIsHeld outcome = (base : ℕ) × (high : ℕ) × (outcome ≡ said.Held base high)

-- a send that passes its gate is held exactly where it is a member's next one, with a report that fits, and there is no room
-- once that is taken
abbrev pub HeldExactly : Type 0
HeldExactly = (m : Node) (s : ℕ) (v : Stamp) (report : Report) (req : ℕ) (body : List ℕ) (spread : Bool) → sequencer_hears_packet m s v ≡ true
    → OutcomeIsHeld (hear_packet m (send_packet spread s v report req body)).outcome ↔ (IsNextSend m s report req × (has_room (take_report m s report) ≡ false))

-- why a send stays without a number, where it isn't held
pub data IsTurnedDown : Outcome → Type 0 where
  elsewhere : IsTurnedDown said.Elsewhere
  stranger : IsTurnedDown said.Stranger
  unfit : IsTurnedDown said.Unfit
  again : IsTurnedDown said.Again
  early : (last : ℕ) → IsTurnedDown (said.Early last)

-- what a step makes of a send: it has the next number; it is held, with the base and the top of the node after the step; or
-- it is turned down
pub data IsAnswered (m : Node) (s req : ℕ) (body : List ℕ) (done : StepResult) : Type 0 where
  numbered : done.outcome ≡ said.Numbered (top m + 1) → done.node.core.log ≡ log_with_entry m.core.log (Data s req body) → IsAnswered m s req body done
  held : done.outcome ≡ said.Held done.node.core.base (top done.node) → done.node.core.log ≡ m.core.log → IsAnswered m s req body done
  turned_down : IsTurnedDown done.outcome → done.node.core.log ≡ m.core.log → IsAnswered m s req body done

-- and a sequencer gives no other answer to a send
abbrev pub SendsAnswered : Type 0
SendsAnswered = (m : Node) (s : ℕ) (v : Stamp) (report : Report) (req : ℕ) (body : List ℕ) (spread : Bool) → is_sequencer m ≡ true
    → IsAnswered m s req body (hear_packet m (send_packet spread s v report req body))
