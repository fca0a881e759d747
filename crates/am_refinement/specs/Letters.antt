-- What each letter says that is so of the group, when it is sent and when it is heard.
use Rattle.std.specs.Prelude.{◌≡◌, ◌≢◌, ◌⊎◌, ℕ, ◌+◌, ◌<◌, ◌≤◌, List, [], ◌∷◌, ◌++◌, length, take, Some, true, false, slice_get}
use Rattle.am_base.specs.declared.entry.GroupView.{GroupView}
use Rattle.am_base.specs.declared.name.Stamp.{Stamp}
use Rattle.am_base.specs.declared.image.Report.{Report}
use Rattle.am_base.specs.declared.image.Vote.{Vote}
use Rattle.am_base.specs.declared.image.Image.{Image}
use Rattle.am_base.specs.declared.entry.Entry.{Entry}
use Rattle.am_base.specs.declared.entry.Entry.TheVariants.{Data, Leave, View}
use Rattle.am_base.specs.Names.{has}
use Rattle.am_base.specs.Lists.{members_of_image}
use Rattle.am_packet.specs.declared.packet.Packet.{Packet}
use Rattle.am_packet.specs.declared.packet.Packet.TheVariants.{Request, Spread, Bcast, Order, Accept, Ack, Nack, Welcome, LeaveAsk, Gone, Vote as VoteOf, Fetch}
use Rattle.am_packet.specs.declared.packet.Packet.TheVariants.{Piece, Result}
use Rattle.am_packet.specs.Boxes.{Letter}
use Rattle.am_group.specs.Journals.{item_at}
use Rattle.am_group.specs.declared.event.Record.{Record}
use Rattle.am_base.specs.Whole.{IsBeginningOf, image_of_list, is_member_at_end, stamp_of_list, key_of_stamp}
use Rattle.am_abstract_group.specs.Group.{Group, IsThere}
use Rattle.am_group_defs.specs.World.{World}
use Rattle.am_group_defs.specs.Claims.{IsSend}

-- ---- of a group

-- the line of a decided view
abbrev pub line : Group → Stamp → List Entry
line s v = s.views.line (key_of_stamp v)

abbrev pub IsDecided : Group → Stamp → Type 0
IsDecided s v = s.views.decided (key_of_stamp v) ≡ true

-- a name showed its list to a ballot, and so did each other member of that list that is there
pub record AllShown (s : Group) (v : Stamp) (name : ℕ) : Type 0 where
  pub list : List Entry
  pub shown : s.shown (key_of_stamp v) name ≡ Some list
  pub others : (j : ℕ) → is_member_at_end list j ≡ true → IsThere (s.node j) → (j ≡ v.by) ⊎ ((other : List Entry) × (s.shown (key_of_stamp v) j ≡ Some other))

-- what is accepted up to here is stored by each name that was a member by then, is there, and isn't leaving
pub record Trimmed (s : Group) (base : ℕ) : Type 0 where
  pub accepted : base ≤ length s.group
  pub stored : (j : ℕ) → IsThere (s.node j) → (s.node j).leaving ≡ false → is_member_at_end (take base s.group) j ≡ true
      → IsBeginningOf (take base s.group) (s.node j).list

-- ---- by kind

-- the sequencer of a decided view, and how far it accepted: no further than each later ballot found
pub record SequencerSays (s : Group) (sender : ℕ) (v : Stamp) (acc : ℕ) : Type 0 where
  pub by : v.by ≡ sender
  pub decided : IsDecided s v
  pub accepted : acc ≤ length s.group
  pub before : (x : ℕ) → s.views.decided x ≡ true → key_of_stamp v < x → acc ≤ length (s.views.chosen x).before

pub record EntrySays (s : Group) (sender : ℕ) (v : Stamp) (acc number : ℕ) (e : Entry) : Type 0 where
  pub sequencer : SequencerSays s sender v acc
  pub stands : item_at (line s v) number ≡ Some e

-- a send that was asked for
pub record WasAsked (w : World) (name req : ℕ) (body : List ℕ) : Type 0 where
  pub index : ℕ
  pub done : Record
  pub there : slice_get w.records index ≡ Some done
  pub is : IsSend done name req body

pub record OrderSays (w : World) (s : Group) (sender : ℕ) (v : Stamp) (acc number from req : ℕ) : Type 0 where
  pub body : List ℕ
  pub entry : EntrySays s sender v acc number (Data from req body)
  pub asked : WasAsked w from req body

-- what a member has stored in its view
pub record ReportSays (s : Group) (sender : ℕ) (v : Stamp) (report : Report) : Type 0 where
  pub decided : IsDecided s v
  pub within : report.stored ≤ length (s.node sender).list
  pub begins : IsBeginningOf (take report.stored (s.node sender).list) (line s v)

pub record SendSays (w : World) (s : Group) (sender : ℕ) (v : Stamp) (report : Report) (req : ℕ) (body : List ℕ) : Type 0 where
  pub reports : ReportSays s sender v report
  pub asked : WasAsked w sender req body

-- a leaver of a view that wasn't decided yet: its Join was accepted before, so the view chose it; where it is a name of the view, the view has
-- what it reports
pub record LeaverWaits (s : Group) (sender : ℕ) (v : Stamp) (report : Report) : Type 0 where
  pub within : report.stored ≤ length (s.node sender).list
  pub join : ℕ
  pub accepted : join ≤ length s.group
  pub joined : is_member_at_end (take join s.group) sender ≡ true
  pub later : IsDecided s v → IsBeginningOf (take join s.group) (s.views.chosen (key_of_stamp v)).before
  pub begins : IsDecided s v → has (s.views.chosen (key_of_stamp v)).members sender ≡ true → IsBeginningOf (take report.stored (s.node sender).list) (line s v)

pub data LeaverSays (s : Group) (sender : ℕ) (v : Stamp) (report : Report) : Type 0 where
  of_view : (s.node sender).leaving ≡ true → ReportSays s sender v report → LeaverSays s sender v report
  before_it : (s.node sender).leaving ≡ true → LeaverWaits s sender v report → LeaverSays s sender v report

-- to a joiner: it became a member at this number of what is accepted, above the base, and before each later view
pub record WelcomeSays (s : Group) (sender : ℕ) (v : Stamp) (base join : ℕ) (image : Image) (name : ℕ) : Type 0 where
  pub by : v.by ≡ sender
  pub decided : IsDecided s v
  pub above : base < join
  pub accepted : join ≤ length s.group
  pub joined : is_member_at_end (take join s.group) name ≡ true
  pub first : (a : List Entry) → IsBeginningOf a s.group → length a < join → is_member_at_end a name ≡ true → ⊥
  pub image_ : image ≡ image_of_list (take base s.group)
  pub later : (x : ℕ) → s.views.decided x ≡ true → key_of_stamp v < x → IsBeginningOf (take join s.group) (s.views.chosen x).before

-- who has a log, or will have none, doesn't heed a Welcome
pub data WelcomeTo (s : Group) (sender : ℕ) (v : Stamp) (base join : ℕ) (image : Image) (name : ℕ) : Type 0 where
  has_begun : (s.node name).has_log ≡ true → WelcomeTo s sender v base join image name
  has_gone : (s.node name).stopped ≡ true → WelcomeTo s sender v base join image name
  has_left : (s.node name).departed ≡ true → WelcomeTo s sender v base join image name
  is_leaving : (s.node name).leaving ≡ true → WelcomeTo s sender v base join image name
  may_begin : WelcomeSays s sender v base join image name → WelcomeTo s sender v base join image name

-- to a leaver: it has stopped, or its Leave is accepted, and stored by all who were members before it, are there and stay
pub data GoneSays (s : Group) (number name : ℕ) : Type 0 where
  has_stopped : (s.node name).stopped ≡ true → GoneSays s number name
  may_go : (before : List Entry) → length before + 1 ≡ number → IsBeginningOf (before ++ Leave name ∷ []) s.group
      → ((j : ℕ) → is_member_at_end before j ≡ true → IsThere (s.node j) → (s.node j).leaving ≡ false → IsBeginningOf (before ++ Leave name ∷ []) (s.node j).list)
      → GoneSays s number name

-- a vote for another's ballot tells the list that was shown to it
pub record VoteTells (s : Group) (sender : ℕ) (v : Stamp) (vote : Vote) : Type 0 where
  pub list : List Entry
  pub shown : s.shown (key_of_stamp v) sender ≡ Some list
  pub view : vote.view ≡ stamp_of_list list
  pub top : vote.top ≡ length list
  pub members : vote.members ≡ members_of_image (image_of_list list)
  pub taken : vote.taken ≤ length list

pub data VoteSays (s : Group) (sender : ℕ) (v : Stamp) (vote : Vote) : Type 0 where
  own : v.by ≡ sender → VoteSays s sender v vote
  tells : VoteTells s sender v vote → VoteSays s sender v vote
  over : IsDecided s v → VoteSays s sender v vote

-- a ballot's own name fetches from who showed a list, once all of its members that are there did
pub data FetchSays (s : Group) (sender : ℕ) (v : Stamp) (to : List ℕ) : Type 0 where
  for_ballot : v.by ≡ sender → ((h : ℕ) → has to h ≡ true → AllShown s v h) → FetchSays s sender v to
  of_promise : v.by ≢ sender → ((h : ℕ) → has to h ≡ true → h ≡ v.by) → FetchSays s sender v to

-- an entry of a view's line, or of the list that was shown to a ballot
pub record ShownEntry (s : Group) (sender : ℕ) (v : Stamp) (number : ℕ) (e : Entry) : Type 0 where
  pub served : s.served (key_of_stamp v) sender ≡ true
  pub list : List Entry
  pub shown : s.shown (key_of_stamp v) sender ≡ Some list
  pub stands : item_at list number ≡ Some e

pub data PieceSays (s : Group) (sender : ℕ) (v : Stamp) (number : ℕ) (e : Entry) : Type 0 where
  of_line : v.by ≡ sender → IsDecided s v → item_at (line s v) number ≡ Some e → PieceSays s sender v number e
  of_shown : ShownEntry s sender v number e → PieceSays s sender v number e
  over : v.by ≢ sender → IsDecided s v → PieceSays s sender v number e

pub record ResultSays (s : Group) (sender number : ℕ) (v : GroupView) : Type 0 where
  pub by : v.stamp.by ≡ sender
  pub decided : IsDecided s v.stamp
  pub stands : item_at (line s v.stamp) number ≡ Some (View v)

-- ---- each packet, to these names; what it trims was stored

abbrev pub PacketSays : World → Group → List ℕ → Packet → Type 0
PacketSays w s to (Request i v report req body) = SendSays w s i v report req body
PacketSays w s to (Spread i v report req body) = SendSays w s i v report req body
PacketSays w s to (Bcast i v base acc number e) = Trimmed s base × EntrySays s i v acc number e
PacketSays w s to (Order i v base acc number from req) = Trimmed s base × OrderSays w s i v acc number from req
PacketSays w s to (Accept i v base acc high poll) = Trimmed s base × SequencerSays s i v acc
PacketSays w s to (Ack i v report) = ReportSays s i v report
PacketSays w s to (Nack i v report) = ReportSays s i v report
PacketSays w s to (Welcome i v base join image) = Trimmed s base × ((name : ℕ) → has to name ≡ true → WelcomeTo s i v base join image name)
PacketSays w s to (LeaveAsk i v report) = LeaverSays s i v report
PacketSays w s to (Gone i v number) = (name : ℕ) → has to name ≡ true → GoneSays s number name
PacketSays w s to (VoteOf i v vote) = (vote.view.by < 256) × VoteSays s i v vote
PacketSays w s to (Fetch i v stored) = FetchSays s i v to
PacketSays w s to (Piece i v base number e) = Trimmed s base × PieceSays s i v number e
PacketSays w s to (Result i base number v) = Trimmed s base × (v.stamp.by ≡ i → ResultSays s i number v)
PacketSays w s to _ = Unit {0}

-- and the stamp of each was begun, and isn't above its sender's promise (am_run_laws)
abbrev pub LetterStampIsBegun : World → Group → Letter → Type 0
LetterStampIsBegun w s letter = PacketSays w s letter.to letter.packet
