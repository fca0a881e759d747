-- The course of a step: in which order its changes come, and how it ends.
use Rattle.std.specs.Prelude.{◌≡◌, ℕ, nat_lt, List, [], true, false}
use Rattle.am_base.specs.declared.image.Report.{Report}
use Rattle.am_base.specs.declared.name.Stamp.{Stamp}
use Rattle.am_base.specs.declared.entry.Entry.TheVariants.{Leave}
use Rattle.am_base.specs.declared.outcome.Outcome.{Outcome}
use Rattle.am_base.specs.declared.event.NodeEvent.{NodeEvent}
use Rattle.am_base.specs.Names.{size}
use Rattle.am_packet.specs.declared.packet.Packet.TheVariants as packet
use Rattle.am_packet.specs.Boxes.{Letter}
use Rattle.am_model.specs.declared.status.Status.TheVariants.{Departed}
use Rattle.am_model.specs.Node.{Node, Ballot, view, other_members, is_sequencer, has_room, node_with_report, push_entry}
use Rattle.am_model.specs.Refresh.{refresh, refresh_at_end}
use Rattle.am_model.specs.Ballots.{BallotVerdict}
use Rattle.am_model.specs.Hearing.{member_hears_other}
use Rattle.am_step_laws.specs.Causes.{Cause, calls, hears, CauseHasReport}
use Rattle.am_step_laws.specs.Looks.{BallotIsLookedAt, LooksAtBallot}
use Rattle.am_step_laws.specs.Changes.{MayReport, Change, refreshes, departs, looks, closes}

-- no refresh and no look at a ballot, and nobody departs
abbrev pub IsPlainChange : {c : Cause} {o : Outcome} {m n : Node} → Change c o m n → Type 0
IsPlainChange refreshes = ⊥
IsPlainChange (departs s v number is heard leaves) = ⊥
IsPlainChange (looks b verdict over why look is) = ⊥
IsPlainChange (closes leads leaves alone room) = ⊥
IsPlainChange _ = Unit {0}

-- plain changes in turn, from the node as it was, or from where it took a report and did at once what it does with what it knows
pub data PlainChangesInTurn (c : Cause) (o : Outcome) (m : Node) : Node → Type 0 where
  nothing_yet : PlainChangesInTurn c o m m
  used_report : (s : ℕ) (v : Stamp) (report : Report) → CauseHasReport c s v report → MayReport m s v report → PlainChangesInTurn c o m (refresh (node_with_report m s report))
  and_then : {n k : Node} → PlainChangesInTurn c o m n → (z : Change c o n k) → IsPlainChange z → PlainChangesInTurn c o m k

-- and a look at a ballot comes last
pub data ChangesWithLook (c : Cause) (o : Outcome) (m : Node) : Node → Type 0 where
  plainly : {n : Node} → PlainChangesInTurn c o m n → ChangesWithLook c o m n
  looked : {n : Node} (b : Ballot) (verdict : BallotVerdict) → PlainChangesInTurn c o m n → b.is_over ≡ false → BallotIsLookedAt c n b → LooksAtBallot n b verdict → o ≡ verdict.outcome
      → ChangesWithLook c o m verdict.node

-- Then comes the refresh at the end of each step. A leaver that was let go departs before that, and the last member, which by a call or the
-- tick numbered its own Leave, after it; both send nothing.
pub data EndOfStep (c : Cause) (o : Outcome) (m : Node) : List Letter → Node → Type 0 where
  at_end : {letters : List Letter} {x : Node} → ChangesWithLook c o m x → EndOfStep c o m letters (refresh_at_end x)
  let_go : (s : ℕ) (v : Stamp) (number : ℕ) → c ≡ hears (packet.Gone s v number) → member_hears_other m s ≡ true → m.leaving ≡ true
      → EndOfStep c o m [] (refresh_at_end (record m { status = Departed }))
  closing : {x : Node} (event : NodeEvent) → c ≡ calls event → PlainChangesInTurn c o m x → is_sequencer x ≡ true → x.leaving ≡ true → nat_lt 0 (size (other_members x)) ≡ false
      → has_room x ≡ true → view x ≡ view m
      → EndOfStep c o m [] (record (refresh_at_end (push_entry x (Leave x.core.who))) { status = Departed })
