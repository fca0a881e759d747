use Rattle.std.proofs.Common.{◌≡◌, ◌++◌, filter}
use Rattle.am_base.specs.Votes.{all_names}
use Rattle.am_world.specs.Runs.{replay}
use Rattle.am_player.proofs.Names.{name_has_log_in_world, names_from_rank}
use Rattle.am_player.proofs.run.logged_names.Given as goal

abbrev pub invariant-loop-rank : goal.invariant-loop-rank
invariant-loop-rank l = l.each.items ++ filter (name_has_log_in_world (replay l.world)) (names_from_rank l.rank) ≡ filter (name_has_log_in_world (replay l.world)) all_names
