use Rattle.std.proofs.Common.{arith}
use Rattle.am_world.specs.Runs.{replay}
use Rattle.am_player.proofs.Names.{logged_names_with_next_rank, logged_names_past_last_rank}
use Rattle.am_player.proofs.run.logged_names.Goals as goal

pub loop-rank-preserved : goal.loop-rank-preserved
loop-rank-preserved c = logged_names_with_next_rank (replay c.args.world.now) c.loop-rank.each.items c.push_where.new.each.items c.loop-rank.rank c.of_byte-name.result
    c.has_log.result c.loop-rank-test.true (omega arith) c.has_log.ensures c.in_ok-push_where.ensures c.loop-rank.invariant

pub returns : goal.returns
returns c = logged_names_past_last_rank (replay c.args.world.now) c.loop-rank.each.items c.loop-rank.rank c.loop-rank-test.false c.loop-rank.invariant
