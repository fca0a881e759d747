-- The changes of a node, by name: what it was before, what makes it change, and what stands then. A step is some of them in turn.
use Rattle.std.specs.Prelude.{◌≡◌, ℕ, ◌+◌, ◌<◌, ◌≤◌, max, min, List, length, Some, true, false, ◌||◌, ◌==◌, nat_lt, nat_le}
use Rattle.am_base.specs.declared.entry.GroupView.{GroupView}
use Rattle.am_base.specs.declared.image.Report.{Report}
use Rattle.am_base.specs.declared.image.Image.{Image}
use Rattle.am_base.specs.declared.image.Vote.{Vote}
use Rattle.am_base.specs.declared.name.Stamp.{Stamp}
use Rattle.am_base.specs.declared.entry.Entry.{Entry}
use Rattle.am_base.specs.declared.entry.Entry.TheVariants.{Data, Join, Leave, View}
use Rattle.am_base.specs.declared.outcome.Outcome.{Outcome}
use Rattle.am_base.specs.declared.outcome.Outcome.TheVariants as said
use Rattle.am_base.specs.declared.event.NodeEvent.TheVariants as does
use Rattle.am_base.specs.Names.{size}
use Rattle.am_base.specs.Stamps.{stamp_is_less, stamps_are_equal}
use Rattle.am_base.specs.Lists.{fits, log_entry_at, row_of_name}
use Rattle.am_packet.specs.declared.packet.Packet.TheVariants as packet
use Rattle.am_node_defs.specs.declared.sender.OwnSend.{OwnSend}
use Rattle.am_node_defs.specs.Sends as own
use Rattle.am_node_defs.specs.Bodies.{keep_body}
use Rattle.am_model.specs.declared.status.Status.TheVariants as status
use Rattle.am_model.specs.Node.{Node, Ballot, top, image_of_node, view, own_row, other_members, is_member, is_sequencer, has_room, has_own_leave, number_is_within_bound}
use Rattle.am_model.specs.Node.{report_fits, node_with_report, push_entry, trim_node_up_to, waiting_send_of, node_unsettled_count}
use Rattle.am_model.specs.Refresh.{refresh, settle_waiting_send, refresh_at_end}
use Rattle.am_model.specs.Ballots.{BallotVerdict, node_with_promise, next_stamp, new_ballot}
use Rattle.am_model.specs.Calls.{node_with_queued_send, is_unfinished_ballot}
use Rattle.am_model.specs.Sequencing.{row_of_name_in_list, has_no_join}
use Rattle.am_model.specs.Receiving.{is_view, node_with_noted_fronts, bodies_after_stored_entry, body_of_spread_send}
use Rattle.am_model.specs.Joining.{node_with_joiner_reports, node_of_welcomed}
use Rattle.am_model.specs.Resets.{is_unfetchable_view, fetches_from}
use Rattle.am_model.specs.Hearing.{member_hears_other, member_or_asker_hears_other, hears_packet_of_its_view, hears_packet_of_sequencer}
use Rattle.am_step_laws.specs.Causes.{Cause, calls, hears, CauseHasSend, CauseHasReport, CauseHasFronts}
use Rattle.am_step_laws.specs.Looks.{MayBegin, BeginsBy, HasOpenBallot, LooksAtBallot, BallotIsLookedAt}

-- ---- the sequencer

-- another name's report that could be made of the sequencer's list, where that name's Join stands in it
pub record MayReport (m : Node) (s : ℕ) (v : Stamp) (report : Report) : Type 0 where
  pub leads : is_sequencer m ≡ true
  pub other : (s == m.core.who) ≡ false
  pub view : stamps_are_equal v (view m) ≡ true
  pub known : has_no_join m s ≡ false
  pub fits : report_fits m report ≡ true

-- what a sequencer numbers: a member's next send, its own waiting one, a Join that fits, and the Leave of a member that asks
pub data IsNumberedBy (c : Cause) (m : Node) : Entry → Type 0 where
  asked_send : (s : ℕ) (v : Stamp) (report : Report) (req : ℕ) (body : List ℕ) → CauseHasSend c s v report req body → has_no_join m s ≡ false
      → nat_lt 0 (row_of_name_in_list m s).left ≡ false → req ≡ (row_of_name_in_list m s).last + 1 → IsNumberedBy c m (Data s req body)
  own_send : (s : OwnSend) → waiting_send_of m ≡ Some s → nat_lt (own_row m).last s.req ≡ true → IsNumberedBy c m (Data m.core.who s.req s.body)
  asked_join : (s : ℕ) (v : Stamp) → c ≡ hears (packet.JoinAsk s v) → (s == m.core.who) ≡ false → fits (image_of_node m) (Join s) ≡ true → IsNumberedBy c m (Join s)
  asked_leave : (s : ℕ) (v : Stamp) (report : Report) → c ≡ hears (packet.LeaveAsk s v report) → (s == m.core.who) ≡ false → has_no_join m s ≡ false
      → ((row_of_name_in_list m s).left == 0) ≡ true → IsNumberedBy c m (Leave s)

-- ---- a member

-- what comes next in the list and fits, where its sender trimmed no further than was taken here; it's within the bound above this
-- base, and the node's own Leave isn't in the list
pub record MayStore (m : Node) (above base number : ℕ) (e : Entry) : Type 0 where
  pub next : number ≡ top m + 1
  pub taken : base ≤ m.core.taken
  pub stays : has_own_leave m ≡ false
  pub fits : fits (image_of_node m) e ≡ true
  pub within : number_is_within_bound m above number ≡ true

-- the entry that the sequencer numbered, whole, or by a send whose body is there
pub data CarriesEntry (c : Cause) (m : Node) (s : ℕ) (v : Stamp) (base acc number : ℕ) : Entry → Type 0 where
  whole_entry : (e : Entry) → c ≡ hears (packet.Bcast s v base acc number e) → CarriesEntry c m s v base acc number e
  by_number : (from req : ℕ) (body : List ℕ) → c ≡ hears (packet.Order s v base acc number from req) → body_of_spread_send m from req ≡ Some body
      → CarriesEntry c m s v base acc number (Data from req body)

-- a joiner begins where it was told, at a Join above the base of a view that isn't below its promise
pub record MayBeWelcomed (m : Node) (s : ℕ) (v : Stamp) (base join : ℕ) (image : Image) : Type 0 where
  pub asks : member_or_asker_hears_other m s ≡ true
  pub own : (v.by == s) ≡ true
  pub no_member : is_member m.status ≡ false
  pub promise : stamp_is_less v m.core.promise ≡ false
  pub above : base < join
  pub within : number_is_within_bound m base join ≡ true
  pub view : stamp_is_less v image.view ≡ false
  pub new : nat_lt 0 (row_of_name image m.core.who).joined ≡ false

-- what is fetched: of the promise's own name without an unfinished ballot, or of the name that the ballot fetches from
pub data MayStoreFetched (m : Node) (s : ℕ) (v : Stamp) (e : Entry) : Type 0 where
  without_ballot : is_unfinished_ballot m.ballot ≡ false → (v.by == s) ≡ true → is_unfetchable_view v false e ≡ false → MayStoreFetched m s v e
  for_ballot : (b : Ballot) → HasOpenBallot m b → fetches_from b.answer s ≡ true → is_unfetchable_view v true e ≡ false → MayStoreFetched m s v e

-- ---- promises

pub data MayPromise (c : Cause) (m : Node) : Stamp → Type 0 where
  invited : (s : ℕ) (v : Stamp) → c ≡ hears (packet.Invite s v) → member_or_asker_hears_other m s ≡ true → (v.by == s) ≡ true → MayPromise c m v
  overtaken : (s : ℕ) (v : Stamp) (vote : Vote) → c ≡ hears (packet.Vote s v vote) → member_hears_other m s ≡ true → stamp_is_less m.core.promise v ≡ true → MayPromise c m v
  told_result : (s : ℕ) (base number : ℕ) (v : GroupView) → c ≡ hears (packet.Result s base number v)
      → member_hears_other m s ≡ true → (v.stamp.by == s) ≡ true → (v.stamp.by == m.core.who) ≡ false → MayPromise c m v.stamp

-- ---- the changes

-- by what made the node do the step, and by what it answers
pub data Change (c : Cause) (o : Outcome) : Node → Node → Type 0 where
  -- what it does with what it knows: at the end of a step, and once a report is taken
  refreshes : {m : Node} → Change c o m (refresh m)
  -- its waiting send is settled where it is accepted: at the end of a step
  settles : {m : Node} → Change c o m (settle_waiting_send m)
  -- the sequencer takes a report, lets a joiner's begin, and numbers an entry
  takes_report : {m : Node} (s : ℕ) (v : Stamp) (report : Report) → CauseHasReport c s v report → MayReport m s v report → Change c o m (node_with_report m s report)
  admits : {m : Node} (s : ℕ) (v : Stamp) → c ≡ hears (packet.JoinAsk s v) → is_sequencer m ≡ true → fits (image_of_node m) (Join s) ≡ true
      → Change c o m (node_with_joiner_reports m s)
  numbers : {m : Node} (e : Entry) → is_sequencer m ≡ true → has_room m ≡ true → IsNumberedBy c m e → Change c o m (push_entry m e)
  -- a member keeps a body that was spread, notes the sequencer's fronts, and stores an entry
  keeps_body : {m : Node} (s : ℕ) (v : Stamp) (report : Report) (req : ℕ) (body : List ℕ) → c ≡ hears (packet.Spread s v report req body)
      → hears_packet_of_its_view m s v ≡ true → Change c o m (record m { bodies = keep_body s req body m.bodies })
  notes : {m : Node} (s : ℕ) (v : Stamp) (base acc : ℕ) → CauseHasFronts c s v base acc → hears_packet_of_sequencer m s v ≡ true → Change c o m (node_with_noted_fronts m base acc)
  stores : {m : Node} (s : ℕ) (v : Stamp) (base acc number : ℕ) (e : Entry) → CarriesEntry c m s v base acc number e → hears_packet_of_sequencer m s v ≡ true
      → is_view e ≡ false → MayStore m m.core.base base number e → Change c o m (record (push_entry m e) { bodies = bodies_after_stored_entry m.bodies e })
  -- a joiner's list begins
  begins_list : {m : Node} (s : ℕ) (v : Stamp) (base join : ℕ) (image : Image) → c ≡ hears (packet.Welcome s v base join image) → o ≡ said.Welcomed join
      → MayBeWelcomed m s v base join image → Change c o m (node_of_welcomed m v base join image)
  -- a leaver that was let go departs
  departs : {m : Node} (s : ℕ) (v : Stamp) (number : ℕ) → c ≡ hears (packet.Gone s v number) → member_hears_other m s ≡ true → m.leaving ≡ true
      → Change c o m (record m { status = status.Departed })
  -- the promise is a stamp that isn't below it
  promises : {m : Node} (v : Stamp) → stamp_is_less v m.core.promise ≡ false → MayPromise c m v → Change c o m (node_with_promise m v)
  -- a ballot begins, of the next round of its own, with a resilience of at most 15
  opens : {m : Node} (least resilience : ℕ) → BeginsBy m c → MayBegin m
      → Change c o m (record (node_with_promise m (next_stamp m)) { ballot = Some (new_ballot (next_stamp m) least (min resilience 15)) })
  -- a ballot is looked at
  looks : {m : Node} (b : Ballot) (verdict : BallotVerdict) → b.is_over ≡ false → BallotIsLookedAt c m b → LooksAtBallot m b verdict → o ≡ verdict.outcome
      → Change c o m verdict.node
  -- a fetched entry is stored
  fetches : {m : Node} (s : ℕ) (v : Stamp) (base number : ℕ) (e : Entry) → c ≡ hears (packet.Piece s v base number e) → member_hears_other m s ≡ true
      → stamps_are_equal v m.core.promise ≡ true → stamps_are_equal (view m) v ≡ false → MayStoreFetched m s v e → MayStore m (max m.core.base base) base number e
      → Change c o m (push_entry (trim_node_up_to m base) e)
  -- the View of the ballot that it promised is stored
  stores_view : {m : Node} (s : ℕ) (base number : ℕ) (v : GroupView) → c ≡ hears (packet.Result s base number v)
      → member_hears_other m s ≡ true → (v.stamp.by == s) ≡ true → (v.stamp.by == m.core.who) ≡ false → m.core.promise ≡ v.stamp → stamps_are_equal (view m) v.stamp ≡ false
      → MayStore m (max m.core.base base) base number (View v) → Change c o m (push_entry (trim_node_up_to m base) (View v))
  -- the application sends, collects what came of a send, takes the next entry, asks to join, and asks to leave
  queues : {m : Node} (body : List ℕ) → c ≡ calls (does.Send body) → o ≡ said.Queued (m.sends.last + 1) → is_member m.status ≡ true → m.leaving ≡ false
      → nat_le 4 (length m.sends.queue) ≡ false → Change c o m (node_with_queued_send m body)
  collects : {m : Node} (req : ℕ) → c ≡ calls (does.Done req) → Change c o m (record m { sends = own.collect req m.sends })
  takes : {m : Node} (e : Entry) → c ≡ calls does.Take → o ≡ said.Took (m.core.taken + 1) e → is_member m.status ≡ true → (m.core.taken == m.core.acc) ≡ false
      → log_entry_at m.core.log (m.core.taken + 1) ≡ Some e → Change c o m (record m { core = record (m.core) { taken = m.core.taken + 1 } })
  asks_to_join : {m : Node} → c ≡ calls does.Join → m.status ≡ status.Stranger → Change c o m (record m { status = status.Asking })
  asks_to_leave : {m : Node} → c ≡ calls does.Leave → m.status ≡ status.Member → m.leaving ≡ false → (nat_lt 0 (node_unsettled_count m) || is_unfinished_ballot m.ballot)
      ≡ false → Change c o m (record m { leaving = true })
  -- the last member, which is leaving, numbers its own Leave and departs
  closes : {m : Node} → is_sequencer m ≡ true → m.leaving ≡ true → nat_lt 0 (size (other_members m)) ≡ false → has_room m ≡ true
      → Change c o m (record (refresh_at_end (push_entry m (Leave m.core.who))) { status = status.Departed })

-- some changes in turn
pub data Changes (c : Cause) (o : Outcome) : Node → Node → Type 0 where
  unchanged : {m : Node} → Changes c o m m
  changed : {m n k : Node} → Change c o m n → Changes c o n k → Changes c o m k
