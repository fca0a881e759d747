use Rattle.std.proofs.Common.{◌≡◌, ◌+◌, drop}
use Rattle.am_group.specs.Journals.{letters_of_records}
use Rattle.am_group.specs.Addressed.{first_for, next_for}
use Rattle.am_journal.proofs.journal.Journal.next_for.Given as goal

abbrev pub invariant-loop-number : goal.invariant-loop-number
invariant-loop-number l = first_for (drop l.number (letters_of_records l.self.records)) (l.number + 1) l.node ≡ next_for (letters_of_records l.self.records) l.node l.fn.after
