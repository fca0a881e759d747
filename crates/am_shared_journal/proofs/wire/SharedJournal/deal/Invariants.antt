use Rattle.am_shared_journal.proofs.Dealt.{KeysAreDealtUpTo}
use Rattle.am_shared_journal.proofs.wire.SharedJournal.deal.Given as goal

abbrev pub invariant-loop-done : goal.invariant-loop-done
invariant-loop-done g l = KeysAreDealtUpTo l.initial.seat.table_id l.initial.seat.me.0.terms l.initial.seat.me.0.keys l._done l.seat.table_id l.seat.me l.passes.items
