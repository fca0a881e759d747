use Rattle.std.proofs.Common.{rules}
use Rattle.am_shared_journal.proofs.Sharing.{rule_allows_split_of_seat}
use Rattle.am_shared_journal.proofs.wire.SharedJournal.part.Goals as goal

pub split_seat-requires : goal.split_seat-requires
split_seat-requires g c = (search rules, search rules, rule_allows_split_of_seat _ _ _ _ c.requires.idle.turn)
