use Rattle.am_race_laws.proofs.Finishing.{luck_after_no_records}
use Rattle.am_calls.proofs.caller.Hand.new.Goals as goal

pub returns-clause-chooser : goal.returns-clause-chooser
returns-clause-chooser c = luck_after_no_records c.args.plan.now c.args.number c.from.result c.new.result c.from.ensures c.new.ensures
