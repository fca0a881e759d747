use Rattle.std.proofs.Common.{◌≡◌, ◌++◌, take}
use Rattle.am_player.proofs.run.do_events.Given as goal

abbrev pub invariant-loop-event : goal.invariant-loop-event
invariant-loop-event l = l.world ≡ record l.fn.world { events = l.fn.world.events ++ take l.event-index l.events }
