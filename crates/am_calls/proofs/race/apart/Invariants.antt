use Rattle.std.proofs.Common.{◌≡◌, ◌≤◌, map, length, vec_len}
use Rattle.std.specs.Prelude.{vec_capacity}
use Rattle.am_race_laws.specs.Ran.{first_refusal}
use Rattle.am_calls.proofs.race.apart.Given as goal

abbrev pub invariant-loop-one : goal.invariant-loop-one
invariant-loop-one g l =
    (vec_len l.callers ≡ length l.yielded) × (vec_len l.fn.ran ≤ vec_capacity l.callers)
    × (l.callers.items ≡ map (λ one. one.caller) l.yielded) × (l.refusal ≡ first_refusal (map (λ one. one.refusal) l.yielded))
