-- What every run keeps.
use Rattle.std.proofs.Common.{take, refl, arith}
use Rattle.am_base.specs.Founding.{Rules}
use Rattle.am_step_laws.proofs.Nodes.{IsKeptFromTheFirst, nodes_of_runs_keep}
use Rattle.am_step_laws.specs.Claim.{NodesAreBounded}
use Rattle.am_step_laws.proofs.Kept.{NodeIsBounded}
use Rattle.am_step_laws.proofs.Changes.{change_keeps_node_bounds}

pub first_nodes_keep_bounds : (rules : Rules) → IsKeptFromTheFirst rules (NodeIsBounded rules)
first_nodes_keep_bounds rules = record {
  founder_has = λ name. record { founding = refl; few = omega arith; itself = tt };
  stranger_has = λ name. record { founding = refl; few = omega arith; itself = tt };
  change_keeps = λ m n. change_keeps_node_bounds rules m n;
}

pub node_bounds_hold_in_runs : NodesAreBounded
node_bounds_hold_in_runs rules events founds = record {
  each = λ k name. let few = (nodes_of_runs_keep rules (NodeIsBounded rules) (first_nodes_keep_bounds rules) (take k events) name).few in omega arith;
}
