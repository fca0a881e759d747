use Rattle.std.proofs.Common.{◌∙◌}
use Rattle.am_race_laws.proofs.Joined.{joined_pass_keeps_places, joined_pass_adds_caller}
use Rattle.am_calls.proofs.dealing.with_callers.Goals as goal

pub loop-caller-preserved : goal.loop-caller-preserved
loop-caller-preserved g c = (
  c.join.ensures.wire ∙ c.loop-caller.invariant.0,
  joined_pass_keeps_places 16 c.loop-caller.pass c.into_share.result c.join.new.pass c.loop-caller.invariant.1 c.join.ensures,
  joined_pass_adds_caller g.N.Racing.plan c.loop-caller.pass c.into_share.result c.join.new.pass c.loop-caller.yielded c.in-Some.caller c.loop-caller.invariant.2 c.join.ensures
      c.into_share.ensures.keys c.into_share.ensures.seen c.into_share.ensures.made,
)
