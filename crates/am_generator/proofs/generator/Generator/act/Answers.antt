use Rattle.am_generator.proofs.Words.{◌+◌, ap, refl}
use Rattle.am_group.specs.declared.event.Act.TheVariants as act
use Rattle.am_generator.specs.Generating.{act_at, after_turn}
use Rattle.am_generator.proofs.generator.Generator.act.Goals as goal

pub returns-in-Done : goal.returns-in-Done
unfolding act_at after_turn
returns-in-Done c = λ d h. rw c.in-Done.is (record { does = ap (λ n. act.Done (n + 1)) (c.sent_by.ensures.value d h); driven = h })

pub returns-in-Take : goal.returns-in-Take
unfolding act_at after_turn
returns-in-Take c = λ d h. rw c.in-Take.is (record { does = refl; driven = h })

pub returns-in-Tick : goal.returns-in-Tick
unfolding act_at after_turn
returns-in-Tick c = λ d h. rw c.in-Tick.is (record { does = refl; driven = h })
