use Rattle.am_shared_journal.proofs.Words.{rules, sym, ap, length}
use Rattle.am_shared_journal.proofs.Committing.{CommitHoldsRule, commit_holds_rule, SatAfterCommit, sat_after_commit_by_answer, CommitLeavesSeats, commit_leaves_seats, SeatsHaveTheirBadges, commit_adds_record, commit_refused_keeps_seats, next_lawful_after_commit, seen_lawful_after_commit}
use Rattle.am_shared_journal.proofs.{Passing.pass_sits_at_seat, wire.SharedJournal.commit.Given.Over}
use Rattle.am_shared_journal.proofs.wire.SharedJournal.commit.Goals as goal

-- what is known at the end
record Left (g : Over) (c : goal.After-drop-pass-inside g) : Type 0 where
  pub holds : CommitHoldsRule g.L.Law.next c.args.pass.now c.args.share.now c.take.new.seat.me
  pub later : SatAfterCommit c.take.new.seat.me c.args.item c.add-added.result c.add-added.new.seat.me
  pub seats : CommitLeavesSeats c.args.pass.now c.args.share.now c.add-added.new.seat.me c.part.new.seat.me c.part.result.me
  pub badges : SeatsHaveTheirBadges c.args.pass.now c.args.share.now c.part.new.seat.me c.part.result.me c.into_badge-2.result.table_id
      c.into_badge.result.table_id c.into_badge-2.result.views c.into_badge.result.views

left : (g : Over) (c : goal.After-drop-pass-inside g) → Left g c
left g c =
    let holds =
    commit_holds_rule _ _ _ _ _ _ _ _ _
    (pass_sits_at_seat _ _ _ c.seat_in-seat.result.me (sym c.pass.view_is) c.pass.invariant c.seat_in-seat.ensures.one c.seat_in-seat.ensures.empty)
    (pass_sits_at_seat _ _ _ c.seat_in.result.me (sym c.share.view_is) c.share.invariant c.seat_in.ensures.one c.seat_in.ensures.empty)
    c.requires.ready.terms (ap length c.requires.ready.caller) c.unite.ensures.unites c.take.ensures.takes
    in
    let later = sat_after_commit_by_answer _ _ _ _ c.take.ensures.takes.turn c.add-added.ensures.ok c.add-added.ensures.err in record {
      holds = holds;
      later = later;
      seats = commit_leaves_seats _ _ _ _ _ _ _ _ _ _ holds later c.give.ensures.gave c.part.ensures.parts;
      badges = record { wires = (search rules, search rules); one = (c.into_badge-2.ensures.2, c.into_badge.ensures.2) };
    }

pub returns-clause-ok : goal.returns-clause-ok
returns-clause-ok g c = let l = left g c in
    commit_adds_record _ _ _ _ _ _ _ _ _ _ _ _ _ l.holds l.later l.seats l.badges c.add-added.ensures.number c.add-added.ensures.room

pub returns-clause-err : goal.returns-clause-err
returns-clause-err g c = let l = left g c in commit_refused_keeps_seats _ _ _ _ _ _ _ _ _ _ _ _ _ l.holds l.later l.seats l.badges

pub returns-clause-lawful : goal.returns-clause-lawful
returns-clause-lawful g c =
    let l = left g c in
    seen_lawful_after_commit _ _ _ _ _ _ _ _ _ _ _ l.holds l.later l.seats l.badges.one.0 (next_lawful_after_commit _ _ _ _ _ l.holds c.requires.ready.next_)
