-- The letters of a step: each kind by name, with what its fields are of the node after the step, and when it is sent.
use Rattle.std.specs.Prelude.{◌≡◌, ◌≢◌, ℕ, ◌+◌, ◌<◌, ◌≤◌, List, slice_get, Some, Bool, true, false, ◌==◌}
use Rattle.am_base.specs.declared.name.Stamp.{Stamp}
use Rattle.am_base.specs.declared.image.Report.{Report}
use Rattle.am_base.specs.declared.entry.Entry.{Entry}
use Rattle.am_base.specs.declared.entry.Entry.TheVariants.{Data, Join}
use Rattle.am_base.specs.declared.outcome.Outcome.TheVariants as said
use Rattle.am_base.specs.Lists.{Log, top_of_log, log_entry_at, row_at_place}
use Rattle.am_base.specs.Names.{life_of_name}
use Rattle.am_packet.specs.declared.packet.Packet.{Packet}
use Rattle.am_packet.specs.declared.packet.Packet.TheVariants as packet
use Rattle.am_packet.specs.Boxes.{Letter}
use Rattle.am_packet.specs.Kinds.{goes_to_any}
use Rattle.am_node_defs.specs.declared.sender.OwnSend.{OwnSend}
use Rattle.am_model.specs.Node.{Node, Ballot, top, image_of_node, view, set_of_one_name, acts_in_its_view, is_sequencer, is_member, is_asking_status}
use Rattle.am_model.specs.Emit as emits
use Rattle.am_model.specs.Ballots.{vote_packet_of, next_stamp}
use Rattle.am_model.specs.Sequencing.{row_of_name_in_list}
use Rattle.am_model.specs.Joining.{leaver_may_go}
use Rattle.am_model.specs.Resets.{may_fetch}
use Rattle.am_model.specs.Ticks.{members_of_view_entry}
use Rattle.am_step_laws.specs.Causes.{Cause, hears, CauseHasSend}
use Rattle.am_step_laws.specs.Looks.{HasOpenBallot}

-- ---- what is told of a node

-- among a node's own sends is one with this request and body
pub record HasOwnSend (n : Node) (req : ℕ) (body : List ℕ) : Type 0 where
  pub index : ℕ
  pub send : OwnSend
  pub there : slice_get n.sends.queue index ≡ Some send
  pub request : send.req ≡ req
  pub body_ : send.body ≡ body

-- an entry stands in a list at this number, where the list's start isn't above this base
pub record EntryStands (log : Log) (base number : ℕ) (e : Entry) : Type 0 where
  pub index : ℕ
  pub there : slice_get log.entries index ≡ Some e
  pub at : log.start ≤ base → number ≡ log.start + index + 1
  pub within : number ≤ top_of_log log

-- a joiner is welcomed where its Join is accepted: once it was numbered, or where it asks again, is a member, and hasn't stored it
pub data MayWelcome (m : Node) (n : Node) (s : ℕ) : Type 0 where
  just_joined : (number : ℕ) → number ≡ top m + 1 → top n ≡ number → number ≤ n.core.acc → EntryStands n.core.log m.core.base number (Join s) → MayWelcome m n s
  asks_again : n.core.log ≡ m.core.log → ((row_at_place (image_of_node m) s).life ≢ 0 → (row_at_place (image_of_node m) s).life ≡ life_of_name s)
      → 0 < (row_at_place (image_of_node m) s).joined
      → (row_at_place (image_of_node m) s).left ≡ 0 → (row_at_place (image_of_node m) s).joined ≤ m.core.acc → (m.reports s).stored < (row_at_place (image_of_node m) s).joined
      → MayWelcome m n s

-- a vote is asked for by the ballot that the node has begun, or that was open before
pub data MayInvite (m : Node) (n : Node) : Type 0 where
  has_begun : (b : Ballot) → n.ballot ≡ Some b → n.core.promise ≡ next_stamp m → MayInvite m n
  goes_on : (b : Ballot) → HasOpenBallot m b → MayInvite m n

-- and so is an entry; else by who doesn't act, or begins its list
pub data MayFetch (m : Node) (n : Node) (to : List ℕ) : Type 0 where
  for_ballot : (b : Ballot) → HasOpenBallot n b → (from want : ℕ) → b.answer ≡ said.Fetching from want → to ≡ set_of_one_name from → MayFetch m n to
  of_promise : (n.core.promise.by == n.core.who) ≡ false → to ≡ set_of_one_name n.core.promise.by → MayFetch m n to

-- a View is told by who acts in it, or has just decided it
pub data MayTellResult (n : Node) : Type 0 where
  leads : is_sequencer n ≡ true → MayTellResult n
  decided : (b : Ballot) (number : ℕ) (names : List ℕ) → n.ballot ≡ Some b → b.answer ≡ said.Decided number names → view n ≡ b.stamp → MayTellResult n

-- ---- the letters

pub data Says (m : Node) (c : Cause) (n : Node) : List ℕ → Packet → Type 0 where
  request : (to : List ℕ) (req : ℕ) (body : List ℕ) → acts_in_its_view n ≡ true → is_sequencer n ≡ false → HasOwnSend n req body → Says m c n to (emits.request_packet_of n req body)
  spread : (to : List ℕ) (req : ℕ) (body : List ℕ) → acts_in_its_view n ≡ true → is_sequencer n ≡ false → HasOwnSend n req body → Says m c n to (emits.spread_packet_of n req body)
  bcast : (to : List ℕ) (number : ℕ) (e : Entry) → is_sequencer n ≡ true → EntryStands n.core.log m.core.base number e → Says m c n to (emits.bcast_packet_of n number e)
  order : (to : List ℕ) (number from req : ℕ) (v : Stamp) (report : Report) (body : List ℕ) → c ≡ hears (packet.Spread from v report req body)
      → is_sequencer n ≡ true → EntryStands n.core.log m.core.base number (Data from req body) → Says m c n to (emits.order_packet_of n number from req)
  accept : (to : List ℕ) (poll : Bool) → is_sequencer n ≡ true → Says m c n to (emits.accept_packet_of n poll)
  ack : (to : List ℕ) → acts_in_its_view n ≡ true → Says m c n to (emits.ack_packet_of n)
  nack : (to : List ℕ) → acts_in_its_view n ≡ true → Says m c n to (emits.nack_packet_of n)
  hold : (to : List ℕ) (s : ℕ) (v : Stamp) (report : Report) (req : ℕ) (body : List ℕ) → CauseHasSend c s v report req body → is_sequencer n ≡ true
      → Says m c n to (emits.hold_packet_of n req)
  join_ask : (to : List ℕ) → is_asking_status n.status ≡ true → Says m c n to (emits.join_ask_packet_of n)
  welcome : (s : ℕ) → is_sequencer n ≡ true → MayWelcome m n s → Says m c n (set_of_one_name s) (emits.welcome_packet_of n s)
  leave_ask : (to : List ℕ) → is_member n.status ≡ true → n.leaving ≡ true → Says m c n to (emits.leave_ask_packet_of n)
  gone : (s : ℕ) → is_sequencer n ≡ true → leaver_may_go n s ≡ true → Says m c n (set_of_one_name s) (emits.gone_packet_of n (row_of_name_in_list n s).left)
  invite : (to : List ℕ) → MayInvite m n → Says m c n to (emits.invite_packet_of n)
  vote : (s : ℕ) (v : Stamp) → c ≡ hears (packet.Invite s v) → Says m c n (set_of_one_name s) (vote_packet_of n)
  fetch : (to : List ℕ) → MayFetch m n to → Says m c n to (emits.fetch_packet_of n)
  piece : (s : ℕ) (v : Stamp) (stored number : ℕ) (e : Entry) → c ≡ hears (packet.Fetch s v stored) → may_fetch n s v ≡ true
      → EntryStands n.core.log m.core.base number e → Says m c n (set_of_one_name s) (emits.piece_packet_of n number e)
  result : (to : List ℕ) (number : ℕ) (names : List ℕ) → number ≡ (image_of_node n).view_number → members_of_view_entry (log_entry_at n.core.log number) ≡ names → MayTellResult n
      → Says m c n to (emits.result_packet_of n number names (image_of_node n).resilience)
  hand_over : (to : List ℕ) → is_sequencer n ≡ true → n.leaving ≡ true → Says m c n to (emits.hand_over_packet_of n)

-- a letter goes to any life only where its kind does
pub record LetterSays (m : Node) (c : Cause) (n : Node) (letter : Letter) : Type 0 where
  pub says : Says m c n letter.to letter.packet
  pub any : letter.any ≡ goes_to_any letter.packet
