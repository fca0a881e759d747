use Rattle.std.proofs.Common.{length, ◌∙◌}
use Rattle.am_race_laws.proofs.Fresh.{numbers_of_fresh_callers}
use Rattle.am_calls.proofs.job.does_over.Goals as goal

pub finish-requires : goal.finish-requires
finish-requires g c = record {
  callers = c.in_ok-callers.ensures.numbers
      ∙ numbers_of_fresh_callers (length g.N.Racing.plan.threads) c.in_ok-kernels.callers.items c.in_ok-kernels.ensures;
}

pub returns-clause-left : goal.returns-clause-left
returns-clause-left g c = record {
  left = record {
    callers = c.in_ok-callers.callers.items;
    numbers = c.in_ok-callers.ensures.numbers
        ∙ numbers_of_fresh_callers (length g.N.Racing.plan.threads) c.in_ok-kernels.callers.items c.in_ok-kernels.ensures;
    legal = c.finish.ensures.legal;
    ends = c.finish.ensures.ends;
  };
  done = c.in_ok-callers.ensures.done;
}
