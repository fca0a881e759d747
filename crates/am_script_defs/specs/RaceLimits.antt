-- What every race keeps to.
use Rattle.std.specs.Prelude.{◌<◌, ◌≤◌, length, All}
use Rattle.am_base.specs.Most.{most_events_of_run}
use Rattle.am_base.specs.Founding.{MayFound}
use Rattle.am_group.specs.declared.event.Act.{Act}
use Rattle.am_group.specs.declared.event.Act.TheVariants as act
use Rattle.am_group.specs.declared.plan.ThreadPlan.{ThreadPlan}
use Rattle.am_group.specs.declared.plan.RacePlan.{RacePlan}
use Rattle.am_script_defs.specs.Limits.{ActWithin}
use Rattle.am_script_defs.specs.Races.{most_lost, most_repeated, most_turns, most_calls, calls_in_all, records_of}

-- an act that a thread can call for
abbrev pub CallWithin : Act → Type 0
CallWithin (act.Send body) = ActWithin (act.Send body)
CallWithin act.Take = Unit {0}
CallWithin act.Join = Unit {0}
CallWithin act.Leave = Unit {0}
CallWithin (act.Reset least resilience) = ActWithin (act.Reset least resilience)
CallWithin act.Stop = Unit {0}
CallWithin _ = ⊥

-- the node of a thread is its place's name of life 1
pub record ThreadWithin (thread : ThreadPlan) : Type 0 where
  pub node : thread.node < 16
  pub calls : All CallWithin thread.calls

-- what holds of every race
pub record RaceWithin (plan : RacePlan) : Type 0 where
  pub may_found : MayFound plan.founding
  pub loss : plan.loss ≤ most_lost
  pub repeat : plan.repeat ≤ most_repeated
  pub some_turns : 0 < plan.turns
  pub few_turns : plan.turns ≤ most_turns
  pub some_threads : 0 < length plan.threads
  pub few_threads : length plan.threads ≤ 16
  pub each : All ThreadWithin plan.threads
  pub few_calls : calls_in_all plan.threads ≤ most_calls
  pub few_records : records_of plan ≤ most_events_of_run
