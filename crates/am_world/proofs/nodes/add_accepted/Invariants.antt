use Rattle.am_world.proofs.Words.{◌≡◌, ◌≤◌, ◌++◌, max, vec_capacity, vec_len, state_of}
use Rattle.am_world.proofs.Grown.{entries_between_numbers}
use Rattle.am_world.proofs.nodes.add_accepted.Given as goal

abbrev pub invariant-loop-before : goal.invariant-loop-before
invariant-loop-before l = record {
  most : l.before ≤ max (vec_len l.fn.group) (state_of l.node).core.acc;
  stored : vec_len l.group ≡ max (vec_len l.fn.group) l.before;
  room : vec_capacity l.group ≡ vec_capacity l.fn.group;
  items : l.group.items ≡ l.fn.group.items ++ entries_between_numbers (state_of l.node).core.log (vec_len l.fn.group) l.before;
}
