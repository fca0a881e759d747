use Rattle.am_world.proofs.Words.{watching_of}
use Rattle.am_world.proofs.Kept.{begin_is_watched}
use Rattle.am_world.proofs.world.World.with_room.Goals as goal

pub invariant_of-result : goal.invariant_of-result
invariant_of-result c = begin_is_watched c.in_ok-run.run' c.args.founding.now
    (watching_of c.new-2.result) c.founders-founders.ensures.within c.in_ok-run.ensures c.new-2.ensures
