use Rattle.std.proofs.Common.{◌∷◌, ◌∙◌}
use Rattle.am_shared_journal.proofs.Gathering.{gathered_passes_with_one_more}
use Rattle.am_shared_journal.proofs.wire.SharedJournal.gather.Goals as goal

pub loop-other-preserved : goal.loop-other-preserved
loop-other-preserved g c = (
  c.join.ensures.wire ∙ c.loop-other.invariant.0,
  gathered_passes_with_one_more (c.args.pass.now ∷ c.loop-other.yielded) c.loop-other.pass c.in-Some.other c.join.new.pass c.loop-other.invariant.1 c.join.ensures,
)
