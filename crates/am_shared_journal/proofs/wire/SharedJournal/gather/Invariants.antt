use Rattle.am_shared_journal.proofs.Words.{◌≡◌, ◌∷◌, Gathered}
use Rattle.am_shared_journal.proofs.wire.SharedJournal.gather.Given as goal

abbrev pub invariant-loop-other : goal.invariant-loop-other
invariant-loop-other g l = (l.pass.wire ≡ l.initial.pass.wire) × Gathered (l.initial.pass ∷ l.yielded) l.pass
