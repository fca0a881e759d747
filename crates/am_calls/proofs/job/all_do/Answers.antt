use Rattle.std.proofs.Common.{rules, length, sym, ◌∙◌}
use Rattle.am_race_laws.specs.Callings.{Calling}
use Rattle.am_race_laws.proofs.Fresh.{caller_at_index_is_fresh}
use Rattle.am_race_laws.proofs.Running.{given_numbers_are_jobs_numbers}
use Rattle.am_calls.proofs.job.all_do.Goals as goal

pub map_vec-requires-after_bounds : goal.map_vec-requires-after_bounds
map_vec-requires-after_bounds g c κs within = λ i x low there.
    let fresh = caller_at_index_is_fresh (length g.N.Racing.plan.threads) i c.args.callers.items x c.requires.fresh low there in
    search rules

pub returns-clause-numbers : goal.returns-clause-numbers
returns-clause-numbers g c =
    given_numbers_are_jobs_numbers (λ (x : Calling). x.number) _ c.args.callers.items c.in_ok-back.back.items (sym c.in_ok-back.back.ok.0 ∙ c.in_ok-back.ensures.len
    ∙ c.args.callers.ok.0)
    (λ i d h. let e = (c.in_ok-back.ensures.each i d h).1 in record { job = e.job; is = e.job_is; number = let k = e.call.met in search rules })
