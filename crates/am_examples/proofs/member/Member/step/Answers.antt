use Rattle.am_examples.proofs.Steps.{step_of_equal_outcome}
use Rattle.am_examples.proofs.member.Member.step.Goals as goal

pub returns-in-Ok-clause-does : goal.returns-in-Ok-clause-does
returns-in-Ok-clause-does c = step_of_equal_outcome c.args.event.now _ _ c.in-Ok.outcome c.in-Ok.letters c.in-Ok.ensures.order.0 c.in-Ok.ensures.does
