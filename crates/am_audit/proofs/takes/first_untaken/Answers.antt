use Rattle.std.proofs.Common.{[], refl}
use Rattle.am_audit.proofs.Counting.{nothing_is_counted_at_first}
use Rattle.am_audit.proofs.takes.first_untaken.Goals as goal

pub loop-at-init : goal.loop-at-init
loop-at-init c = record { before = []; so_many = refl; done = nothing_is_counted_at_first; rest = refl }
