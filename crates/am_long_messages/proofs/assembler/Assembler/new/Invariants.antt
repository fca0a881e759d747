use Rattle.std.proofs.Common.{◌≡◌, None, replicate, map}
use Rattle.am_long_messages.specs.Rooms.{begun_in}
use Rattle.am_long_messages.proofs.assembler.Assembler.new.Given as goal

abbrev pub invariant-loop : goal.invariant-loop
invariant-loop l = map begun_in l.rooms.items ≡ replicate l.counter None
