-- What stays so while a schedule runs in a group that stands in one view.
use Rattle.std.specs.Prelude.{◌≡◌, ℕ, ◌<◌, ◌≤◌, ◌⊎◌, List, Some, None, Bool, true, false, ◌&&◌, ◌||◌, ◌==◌, nat_lt, All, ◌-◌}
use Rattle.am_base.specs.declared.name.Stamp.{Stamp}
use Rattle.am_base.specs.declared.image.Report.{Report}
use Rattle.am_base.specs.declared.image.Image.{Image}
use Rattle.am_base.specs.declared.entry.Entry.{Entry}
use Rattle.am_base.specs.declared.entry.Entry.TheVariants.{Data}
use Rattle.am_base.specs.Names.{place_of_name, life_of_name, has, names_of}
use Rattle.am_base.specs.Lists.{row_at_place, log_image_at, log_entry_at, log_members_at, fits}
use Rattle.am_base.specs.Fronts.{counting_names_at}
use Rattle.am_packet.specs.declared.packet.Packet.{Packet}
use Rattle.am_packet.specs.declared.packet.Packet.TheVariants.{Request, Spread, Bcast, Order, Accept, Ack, Nack, Hold, JoinAsk, Welcome, LeaveAsk, Gone, Fetch}
use Rattle.am_packet.specs.declared.packet.Packet.TheVariants.{Piece, Result}
use Rattle.am_packet.specs.Boxes.{Letter}
use Rattle.am_group.specs.Journals.{letter_at}
use Rattle.am_model.specs.Node.{Node, top, image_of_node, view, acts_in_its_view, is_member, is_sequencer, has_log_by_status, has_departed}
use Rattle.am_model.specs.Calls.{is_unfinished_ballot}
use Rattle.am_group_defs.specs.World.{World, current, is_stopped}
use Rattle.am_step_laws.specs.Letters.{MayTellResult}
use Rattle.am_repair.specs.Rows.{IsAtRest}

-- what a schedule is about: the sequencer, its view and where its View stands, the members of its list as it began, and whose membership had
-- ended in it, how far that list went then, and how many letters had been sent
pub record Repair : Type 0 where
  pub by : ℕ
  pub view : Stamp
  pub at : ℕ
  pub members : List ℕ
  pub gone : ℕ → Bool
  pub high : ℕ
  pub sent : ℕ

-- a name was a member, and is none: it has left or was given up, or its place has a later life
abbrev pub is_past : Image → ℕ → Bool
is_past image name = nat_lt 0 (row_at_place image name).joined && (nat_lt (life_of_name name) (row_at_place image name).life
    || (((row_at_place image name).life == life_of_name name) && nat_lt 0 (row_at_place image name).left))

-- ---- nodes

-- The sequencer: its list goes on by what ends nobody's membership, and begins none anew. Up to where it went its entries fit, and whose
-- storage counts for what isn't accepted yet is a member.
pub record LeadsCalmly (r : Repair) (m : Node) : Type 0 where
  pub leads : is_sequencer m ≡ true
  pub view_ : view m ≡ r.view
  pub number : (image_of_node m).view_number ≡ r.at
  pub rest : IsAtRest m
  pub high : r.high ≤ top m
  pub reached : r.at ≤ r.high
  pub fit : (k : ℕ) (e : Entry) → k ≤ r.high → log_entry_at m.core.log k ≡ Some e → fits (log_image_at m.core.log (k - 1)) e ≡ true
  pub members_ : (name k : ℕ) → has r.members name ≡ true → r.high ≤ k → k ≤ top m → has (log_members_at m.core.log k) name ≡ true
  pub gone : (name : ℕ) → r.gone name ≡ true → is_past (image_of_node m) name ≡ true
  pub counted : (k : ℕ) → m.core.acc < k → k ≤ r.high → r.at ≤ k → All (λ name. has r.members name ≡ true) (names_of (counting_names_at m.core.log k))

-- a member's list goes to this number at least, and tells what the sequencer's tells up to there; and the sequencer trims and knows no more of
-- it than it has taken
pub record AgreesFrom (at : ℕ) (q m : Node) : Type 0 where
  pub reached : at ≤ top m
  pub low : q.core.log.start ≤ top m
  pub within : top m ≤ top q
  pub told_ : image_of_node m ≡ log_image_at q.core.log (top m)
  pub base : q.core.base ≤ m.core.taken
  pub reported : (q.reports m.core.who).taken ≤ m.core.taken

-- a member, whose list has the view's View
pub record FollowsView (r : Repair) (q m : Node) : Type 0 where
  pub acts_ : acts_in_its_view m ≡ true
  pub view_ : view m ≡ r.view
  pub rest : IsAtRest m
  pub agrees : AgreesFrom r.at q m
  pub open agrees use *

-- anybody else that is there and isn't leaving: no ballot, and who was welcomed has promised the view
pub record IsApart (r : Repair) (m : Node) : Type 0 where
  pub no_ballot : m.ballot ≡ None
  pub stays : m.leaving ≡ false
  pub promised : is_member m.status ≡ true → m.core.promise ≡ r.view

-- who is leaving, and has left the sequencer's list: it has no open ballot, and tells no View of its own
pub record IsLeaver (r : Repair) (m : Node) : Type 0 where
  pub gone : r.gone m.core.who ≡ true
  pub leaves : m.leaving ≡ true
  pub log : has_log_by_status m.status ≡ true
  pub no_ballot : is_unfinished_ballot m.ballot ≡ false
  pub tells : MayTellResult m → m.core.promise.by ≡ m.core.who → ⊥

-- the one or the other
abbrev pub IsElsewhere : Repair → Node → Type 0
IsElsewhere r m = IsApart r m ⊎ IsLeaver r m

-- ---- letters of the schedule

-- a report of a member tells no more than it has
pub record ReportIs (r : Repair) (w : World) (s : ℕ) (report : Report) : Type 0 where
  pub stored : has r.members s ≡ true → report.stored ≤ top (w.nodes s)
  pub taken : has r.members s ≡ true → report.taken ≤ (w.nodes s).core.taken

abbrev pub SequencerHas : Repair → World → ℕ → Entry → Type 0
SequencerHas r w number e = log_entry_at (w.nodes r.by).core.log number ≡ Some e

abbrev pub IsCalm : Repair → World → Packet → Type 0
IsCalm r w (Request s v report req body) = ReportIs r w s report
IsCalm r w (Spread s v report req body) = ReportIs r w s report
IsCalm r w (Bcast s v base acc number e) = SequencerHas r w number e
IsCalm r w (Order s v base acc number from req) = (body : List ℕ) × SequencerHas r w number (Data from req body)
IsCalm r w (Accept s v base acc high poll) = Unit {0}
IsCalm r w (Ack s v report) = ReportIs r w s report
IsCalm r w (Nack s v report) = ReportIs r w s report
IsCalm r w (Hold s v base high req) = Unit {0}
IsCalm r w (JoinAsk s v) = Unit {0}
IsCalm r w (Welcome s v base join image) = v ≡ r.view
IsCalm r w (LeaveAsk s v report) = (r.gone s ≡ true) × ReportIs r w s report
IsCalm r w (Gone s v number) = Unit {0}
IsCalm r w (Fetch s v stored) = Unit {0}
IsCalm r w (Piece s v base number e) = Unit {0}
IsCalm r w (Result s base number v) = v.stamp.by ≡ s → v.stamp ≡ r.view
-- and none of a ballot
IsCalm r w _ = ⊥

-- ---- the whole

-- the sequencer leads, and members follow
pub record CalmNodes (r : Repair) (nodes : ℕ → Node) : Type 0 where
  pub own : r.view.by ≡ r.by
  pub listed : has r.members r.by ≡ true
  pub who : (name : ℕ) → (nodes name).core.who ≡ name
  pub leads : LeadsCalmly r (nodes r.by)
  pub follows : (name : ℕ) → has r.members name ≡ true → (name == r.by) ≡ false → FollowsView r (nodes r.by) (nodes name)

pub record Calm (r : Repair) (w : World) : Type 0 where
  pub nodes : CalmNodes r w.nodes
  pub open nodes use *
  -- members are there
  pub current_ : (name : ℕ) → has r.members name ≡ true → current w (place_of_name name) ≡ name
  pub runs : (name : ℕ) → has r.members name ≡ true → is_stopped w name ≡ false
  -- and anybody else that runs is apart, or leaves
  pub apart : (name : ℕ) → has r.members name ≡ false → is_stopped w name ≡ false → has_departed (w.nodes name).status ≡ false
      → IsElsewhere r (w.nodes name)
  pub letters : (number : ℕ) (letter : Letter) → r.sent < number → letter_at w.letters number ≡ Some letter → IsCalm r w letter.packet
