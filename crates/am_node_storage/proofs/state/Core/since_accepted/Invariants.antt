use Rattle.std.proofs.Common.{◌≡◌, ◌-◌}
use Rattle.am_node_defs.specs.Cores.{union_of_members_at}
use Rattle.am_node_storage.proofs.state.Core.since_accepted.Given as goal

abbrev pub invariant-loop-number : goal.invariant-loop-number
invariant-loop-number g l = l.names ≡ union_of_members_at (g.L.Log.list l.self-inside.log) l.self-inside.acc (l.number - l.self-inside.acc)
