use Rattle.std.proofs.Common.{◌≡◌, take}
use Rattle.std.specs.List.{flat_map}
use Rattle.am_group.specs.Deliveries.{entries_given_to}
use Rattle.am_group_list.proofs.delivered.deliveries.Given as goal

abbrev pub invariant-loop-item : goal.invariant-loop-item
invariant-loop-item l = l.given.items ≡ flat_map (entries_given_to l.node) (take l.item-index l.records)
