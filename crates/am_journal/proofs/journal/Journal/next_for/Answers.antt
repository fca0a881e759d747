use Rattle.std.proofs.Common.{◌∙◌, sym, arith}
use Rattle.am_group.specs.Journals.{letters_of_records}
use Rattle.am_journal.proofs.Search.{search_begins_after_number, search_finds_none_past_last, search_finds_letter_for_name, search_passes_other_letter, search_past_all_letters}
use Rattle.am_journal.proofs.journal.Journal.next_for.Goals as goal

pub loop-number-init : goal.loop-number-init
loop-number-init c = search_begins_after_number (letters_of_records c.args.self.now.records) c.args.node c.args.after

pub returns-then-is_for : goal.returns-then-is_for
returns-then-is_for c = search_finds_letter_for_name (letters_of_records c.args.self.now.records) c.args.node c.loop-number.number c.in-Some.letter.now _ (sym c.in-Some.ensures)
    (sym c.is_for.ensures ∙ c.if-is_for.true) c.loop-number.invariant

pub returns-in-None : goal.returns-in-None
returns-in-None c = search_finds_none_past_last (letters_of_records c.args.self.now.records) c.args.node c.loop-number.number _ (sym c.in-None.ensures) c.loop-number.invariant

pub loop-number-preserved : goal.loop-number-preserved
loop-number-preserved c = search_passes_other_letter (letters_of_records c.args.self.now.records) c.args.node c.loop-number.number c.in-Some.letter.now _ (sym c.in-Some.ensures)
    (sym c.is_for.ensures ∙ c.if-is_for.false) c.loop-number.invariant

pub returns : goal.returns
returns c = search_past_all_letters (letters_of_records c.args.self.now.records) c.args.node c.loop-number.number _
    (omega (arith, c.packets-number-end.ensures, c.loop-number-test.false)) c.loop-number.invariant
