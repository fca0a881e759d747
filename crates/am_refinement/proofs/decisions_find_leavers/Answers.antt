use Rattle.am_refinement.proofs.{ChainNames.moves_keep_names_named, Branches.branches_begin_chain, Branches.moves_keep_branches, Branches.decisions_find_all_branches}
use Rattle.am_refinement.proofs.decisions_find_leavers.Goals as goal

pub returns : goal.returns
returns c = record { begin = branches_begin_chain; moves = moves_keep_branches; new = decisions_find_all_branches; names = moves_keep_names_named }
