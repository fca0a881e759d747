use Rattle.am_shared_journal.proofs.Words.{rules, refl, letters_of_records}
use Rattle.am_shared_journal.proofs.Looks.{looks_without_letter_are_looks}
use Rattle.am_shared_journal.proofs.sheet.Sheet.new.Goals as goal

pub invariant_of-result : goal.invariant_of-result
invariant_of-result c = (search rules, looks_without_letter_are_looks (letters_of_records c.new.result.records) (record { name = c.of_byte.result; after = 0; seen = 0 }) refl refl)
