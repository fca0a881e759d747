-- Threads are read in turn.
use Rattle.std.proofs.Common.{◌≡◌, ℕ, ◌+◌, ◌<◌, List, [], ◌∷◌, ◌++◌, length, drop, slice_index_or, append_assoc, sym, ◌∙◌, Ok, Err, refl, ap}
use Rattle.std.proofs.lemmas.List.{drop_more}
use Rattle.am_group.specs.declared.plan.ThreadPlan.{ThreadPlan}
use Rattle.json.specs.declared.value.Value.{Value}
use Rattle.am_script_defs.specs.Refusals.{ReadOrRefused, ◌>>=◌}
use Rattle.am_script_defs.specs.Races.{thread_from, each_thread}
use Rattle.am_script.specs.Seen.{seen, items_seen}

-- one thread more of those that are read in turn
read_more : (thread : ThreadPlan) (threads : List ThreadPlan) (later : ReadOrRefused (List ThreadPlan))
    → ((later >>= λ xs. Ok (thread ∷ xs)) >>= λ xs. Ok (threads ++ xs)) ≡ (later >>= λ xs. Ok ((threads ++ thread ∷ []) ++ xs))
read_more thread threads (Ok xs) = ap (λ (ys : List ThreadPlan). let r : ReadOrRefused (List ThreadPlan) = Ok ys in r) (sym (append_assoc threads (thread ∷ []) xs))
read_more thread threads (Err e) = refl

pub threads_read_with_next_thread : {A : Type 0} (founding first i count : ℕ) (list : List (Value A)) (value : Value A) (thread : ThreadPlan) (threads more : List ThreadPlan)
    (whole : ReadOrRefused (List ThreadPlan))
    → i < length list → value ≡ slice_index_or list i value → thread_from founding first (seen value) ≡ Ok thread → count ≡ length thread.calls
    → more ≡ threads ++ thread ∷ []
    → whole ≡ (each_thread founding first (items_seen (drop i list)) >>= λ later. Ok (threads ++ later))
    → whole ≡ (each_thread founding (first + count) (items_seen (drop (i + 1) list)) >>= λ later. Ok (more ++ later))
threads_read_with_next_thread founding first i count list value thread threads more whole within is told counted pushed h =
    let rest = items_seen (drop (i + 1) list) in
    let left : drop i list ≡ value ∷ drop (i + 1) list = drop_more list i value within ∙ ap (λ v. v ∷ drop (i + 1) list) (sym is) in
    let opened : each_thread founding first (items_seen (drop i list)) ≡ (each_thread founding (first + length thread.calls) rest >>= λ xs. Ok (thread ∷ xs)) =
    ap (λ vs. each_thread founding first (items_seen vs)) left
    ∙ ap (λ (r : ReadOrRefused ThreadPlan). r >>= λ one. each_thread founding (first + length one.calls) rest >>= λ xs. Ok (one ∷ xs)) told in
    h ∙ ap (λ (r : ReadOrRefused (List ThreadPlan)). r >>= λ later. Ok (threads ++ later)) opened
    ∙ read_more thread threads (each_thread founding (first + length thread.calls) rest)
    ∙ ap (λ n. each_thread founding (first + n) rest >>= λ later. Ok ((threads ++ thread ∷ []) ++ later)) (sym counted)
    ∙ ap (λ (xs : List ThreadPlan). each_thread founding (first + count) rest >>= λ later. Ok (xs ++ later)) (sym pushed)
