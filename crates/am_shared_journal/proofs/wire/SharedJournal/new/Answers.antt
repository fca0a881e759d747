use Rattle.std.proofs.Common.{rules}
use Rattle.am_shared_journal.proofs.Sharing.{first_view_opens_wire}
use Rattle.am_shared_journal.proofs.wire.SharedJournal.new.Goals as goal

pub new-requires-2 : goal.new-requires-2
new-requires-2 g c = first_view_opens_wire _ _ _ (search rules)
