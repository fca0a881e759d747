use Rattle.am_shared_journal.proofs.Words.{rules, sym}
use Rattle.am_shared_journal.proofs.{Passing.pass_sits_at_seat, Passing.idle_seat_rests, Passing.pass_sees_view_of_seat, Passing.PassesMeetAtSeat, Passing.passes_meet_at_seat, wire.SharedJournal.meet.Given.Over}
use Rattle.am_shared_journal.proofs.wire.SharedJournal.meet.Goals as goal

they_met : (g : Over) (c : goal.After-drop-pass-inside g) → PassesMeetAtSeat g.L.Law.next c.args.pass.now c.args.share.now c.part.new.seat.me c.part.result.me
they_met g c =
    passes_meet_at_seat _ _ _ _ _ c.seat_in-seat.result.me c.seat_in.result.me _ _ _
    (pass_sits_at_seat _ _ _ c.seat_in-seat.result.me (sym c.pass.view_is) c.pass.invariant c.seat_in-seat.ensures.one c.seat_in-seat.ensures.empty)
    (pass_sits_at_seat _ _ _ c.seat_in.result.me (sym c.share.view_is) c.share.invariant c.seat_in.ensures.one c.seat_in.ensures.empty)
    c.requires.terms c.requires.one c.unite.ensures.unites c.part.ensures.parts

pub invariant_of-pass : goal.invariant_of-pass
invariant_of-pass g c = let m = they_met g c in idle_seat_rests c.part.new.seat.me _ m.idle.0 m.keyed.0 c.into_badge-2.ensures.2

pub returns-clause-pass : goal.returns-clause-pass
returns-clause-pass g c = let m = they_met g c in pass_sees_view_of_seat _ _ _ _ c.into_badge-2.ensures.2 (search rules) m.terms.0 m.keys.0 m.goes.0

pub returns-clause-share : goal.returns-clause-share
returns-clause-share g c = let m = they_met g c in pass_sees_view_of_seat _ _ _ _ c.into_badge.ensures.2 (search rules) m.terms.1 m.keys.1 m.goes.1
