-- A race of a script may be run.
use Rattle.std.proofs.Common.{◌≡◌, suc, List, [], ◌∷◌, Bool, true, false, ◌&&◌, refl, arith, All}
use Rattle.std.specs.List.{list_all}
use Rattle.am_group.specs.declared.event.Act.{Act}
use Rattle.am_group.specs.declared.plan.ThreadPlan.{ThreadPlan}
use Rattle.am_group.specs.declared.plan.RacePlan.{RacePlan}
use Rattle.am_race_laws.specs.Plans.{is_call, MayRace}
use Rattle.am_script_defs.specs.RaceLimits.{CallWithin, ThreadWithin, RaceWithin}
use Rattle.am_trace_laws.proofs.RacedScripts.{call_within_limits_is_call}

both : (a b : Bool) → a ≡ true → b ≡ true → (a && b) ≡ true
both true b is more = more
both false b is more = cc

later : {A : Type 0} (P : A → Type 0) (x : A) (xs : List A) → All P (x ∷ xs) → All P xs
later P x xs all = λ k d within. all (suc k) d (omega arith)

calls_are : (calls : List Act) → All CallWithin calls → list_all is_call calls ≡ true
calls_are [] all = refl
calls_are (a ∷ calls) all = both (is_call a) (list_all is_call calls) (call_within_limits_is_call a (all 0 a (omega arith))).0 (calls_are calls (later CallWithin a calls all))

threads_call : (threads : List ThreadPlan) → All ThreadWithin threads → list_all (λ thread. list_all is_call thread.calls) threads ≡ true
threads_call [] all = refl
threads_call (thread ∷ threads) all =
    both (list_all is_call thread.calls) (list_all (λ one. list_all is_call one.calls) threads)
    (calls_are thread.calls (all 0 thread (omega arith)).calls) (threads_call threads (later ThreadWithin thread threads all))

pub race_within_may_race : (plan : RacePlan) → RaceWithin plan → MayRace plan
race_within_may_race plan within = record { threads = within.few_threads; calls = threads_call plan.threads within.each; most = within.few_records }
