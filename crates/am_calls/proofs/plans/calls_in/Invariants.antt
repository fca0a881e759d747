use Rattle.std.proofs.Common.{◌≡◌, length, min, sum_by, take}
use Rattle.am_base.specs.Most.{most_events_of_run}
use Rattle.am_group.specs.declared.plan.ThreadPlan.{ThreadPlan}
use Rattle.am_calls.proofs.plans.calls_in.Given as goal

abbrev pub invariant-loop-thread : goal.invariant-loop-thread
invariant-loop-thread l = l.sum ≡ min (sum_by (λ (thread : ThreadPlan). length thread.calls) (take l.thread-index l.threads)) most_events_of_run
