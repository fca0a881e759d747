use Rattle.std.proofs.Common.{◌≡◌, ℕ, ◌≤◌, leb, true, length, sum_by, rules, arith}
use Rattle.std.proofs.lemmas.Bool.Decides.{nat_tests}
use Rattle.am_base.specs.Most.{most_events_of_run}
use Rattle.am_group.specs.declared.plan.ThreadPlan.{ThreadPlan}
use Rattle.am_race_laws.specs.Plans.{has_calls}
use Rattle.am_race_laws.proofs.Mayings.{all_calls_fit_in_journal, capped_calls_fit_in_journal}
use Rattle.am_calls.proofs.plans.may_race.Goals as goal

at_most : (a b : ℕ) → leb a b ≡ true → a ≤ b
at_most a b t = grind (arith, nat_tests)

is_at_most : (a b : ℕ) → a ≤ b → leb a b ≡ true
is_at_most a b t = grind (arith, nat_tests)

pub returns : goal.returns
returns c =
    let turns = c.args.plan.now.turns in
    let made = sum_by (λ (thread : ThreadPlan). length thread.calls) c.args.plan.now.threads in
    let few : length c.args.plan.now.threads ≤ 16 = search rules in
    let all : has_calls c.args.plan.now ≡ true = search rules in
    rw (c.calls_in.ensures, c.from.ensures, c.as_slice-threads.ensures) (
      λ t. record {
        threads = few;
        calls = all;
        most = all_calls_fit_in_journal made most_events_of_run turns (omega arith) (at_most _ _ t);
      },
      λ may. is_at_most _ _ (capped_calls_fit_in_journal made most_events_of_run turns may.most),
    )
