use Rattle.std.proofs.Common.{rules}
use Rattle.am_shared_journal.proofs.Keeps.{rule_allows_give_of_slot}
use Rattle.am_shared_journal.proofs.wire.SharedJournal.give.Goals as goal

pub store-requires : goal.store-requires
store-requires g c = (search rules, search rules, rule_allows_give_of_slot _ _ _ _ _ c.requires.turn)
