-- The calls of a race's threads.
use Rattle.std.specs.Prelude.{◌≡◌, ℕ, ◌+◌, ◌*◌, ◌≤◌, List, [], length, Option, Some, None, Bool, true, false, slice_get, sum_by}
use Rattle.std.specs.List.{list_all}
use Rattle.am_base.specs.Most.{most_events_of_run}
use Rattle.am_group.specs.declared.event.Act.{Act}
use Rattle.am_group.specs.declared.event.Act.TheVariants as act
use Rattle.am_group.specs.declared.event.Record.{Record}
use Rattle.am_group.specs.declared.plan.RacePlan.{RacePlan}
use Rattle.am_group.specs.declared.plan.ThreadPlan.{ThreadPlan}
use Rattle.am_race_laws.specs.Legal.{is_played}

abbrev pub calls_in : Option ThreadPlan → List Act
calls_in None = []
calls_in (Some thread) = thread.calls

-- a caller makes the calls of its thread
abbrev pub calls_of : RacePlan → ℕ → List Act
calls_of plan caller = calls_in (slice_get plan.threads caller)

-- how many records there may be: those of a call are its own act, its turns and its check
abbrev pub most_records : RacePlan → ℕ
most_records plan = sum_by (λ (thread : ThreadPlan). length thread.calls) plan.threads * (plan.turns + 2)

-- the calls that end with a check
abbrev pub has_check : Act → Bool
has_check (act.Send body) = true
has_check act.Join = true
has_check act.Leave = true
has_check (act.Reset least resilience) = true
has_check _ = false

-- the acts that are calls: those, a receive, and a stop
abbrev pub is_call : Act → Bool
is_call act.Take = true
is_call act.Stop = true
is_call other = has_check other

abbrev pub has_calls : RacePlan → Bool
has_calls plan = list_all (λ (thread : ThreadPlan). list_all is_call thread.calls) plan.threads

-- sixteen threads at most make calls, so few that all their records fit into one journal
pub record MayRace (plan : RacePlan) : Type 0 where
  pub threads : length plan.threads ≤ 16
  pub calls : has_calls plan ≡ true
  pub most : most_records plan ≤ most_events_of_run

-- each thread has done its calls, as far as they go on
abbrev pub ArePlayed : RacePlan → List Record → Type 0
ArePlayed plan journal = (caller : ℕ) (thread : ThreadPlan) → slice_get plan.threads caller ≡ Some thread → is_played plan.turns thread caller journal ≡ true
