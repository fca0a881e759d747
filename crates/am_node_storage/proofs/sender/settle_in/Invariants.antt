use Rattle.std.proofs.Common.{◌≡◌, ◌++◌, take, drop, map}
use Rattle.am_node_defs.specs.Sends.{settle_send}
use Rattle.am_node_storage.proofs.sender.settle_in.Given as goal

abbrev pub invariant-loop-send : goal.invariant-loop-send
invariant-loop-send l = take l.send-index l.queue ++ map (settle_send l.req l.number) (drop l.send-index l.queue)
    ≡ map (settle_send l.req l.number) l.initial.queue
