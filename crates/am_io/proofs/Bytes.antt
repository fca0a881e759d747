-- Reads and writes one after the other.
use Rattle.std.proofs.Common.{◌≡◌, ℕ, ◌+◌, ◌-◌, ◌<◌, ◌≤◌, List, [], ◌++◌, Option, Some, None, length, sym, ap, ◌∙◌, append_assoc, append-nil, take, drop, subst, length-drop}
use Rattle.std.proofs.Common.{take_all, arith}
use Rattle.std.specs.Io.KnownBytes.{Consumes, Appends}
use Rattle.std.proofs.Math.Seq.{take-add}
use Rattle.std.proofs.lemmas.Grind.{common_steps}
use Rattle.am_io.specs.Outside.{GaveMore, GaveAtMost}

pub source_consumed_both_parts : (a b c : Option (List ℕ)) (xs ys : List ℕ) → Consumes a b xs → Consumes b c ys → Consumes a c (xs ++ ys)
source_consumed_both_parts (Some a) (Some b) (Some c) xs ys h k = h ∙ (ap (λ (l : List ℕ). xs ++ l) k ∙ sym (append_assoc xs ys c))
source_consumed_both_parts (Some a) (Some b) None xs ys h k = k
source_consumed_both_parts (Some a) None c xs ys h k = absurd h
source_consumed_both_parts None b c xs ys h k = tt

pub sink_appended_both_parts : (a b c : Option (List ℕ)) (xs ys : List ℕ) → Appends a b xs → Appends b c ys → Appends a c (xs ++ ys)
sink_appended_both_parts (Some a) (Some b) (Some c) xs ys h k = k ∙ (ap (λ (l : List ℕ). l ++ ys) h ∙ append_assoc a xs ys)
sink_appended_both_parts (Some a) (Some b) None xs ys h k = k
sink_appended_both_parts (Some a) None c xs ys h k = absurd h
sink_appended_both_parts None b c xs ys h k = tt

pub sink_appended_nothing : (a : Option (List ℕ)) → Appends a a []
sink_appended_nothing (Some a) = sym (append-nil a)
sink_appended_nothing None = tt

pub source_gave_more_than_limit : (limit n : ℕ) (a b c : Option (List ℕ)) (xs into : List ℕ) → Consumes a b xs → Consumes b c (take n into) → n ≤ length into
    → limit - length xs < n → length xs ≤ limit → GaveMore limit a c
source_gave_more_than_limit limit n a b c xs into h k le over room = (xs ++ take n into, source_consumed_both_parts a b c xs (take n into) h k, grind (arith, common_steps))

pub source_gave_at_most_limit : (limit n : ℕ) (a b c : Option (List ℕ)) (xs into : List ℕ) → Consumes a b xs → Consumes b c (take n into) → n ≤ length into
    → n ≤ limit - length xs → length xs ≤ limit → GaveAtMost limit a c
source_gave_at_most_limit limit n a b c xs into h k le fits room = (xs ++ take n into, source_consumed_both_parts a b c xs (take n into) h k, grind (arith, common_steps))

pub source_gave_some_bytes : (n : ℕ) (a b c : Option (List ℕ)) (xs into : List ℕ) → Consumes a b xs → Consumes b c (take n into) → 0 < n → n ≤ length into → GaveMore 0 a c
source_gave_some_bytes n a b c xs into h k some le = (xs ++ take n into, source_consumed_both_parts a b c xs (take n into) h k, grind (arith, common_steps))

-- a write of what comes after the first `m`
pub sink_appended_longer_part : (a b c : Option (List ℕ)) (xs : List ℕ) (m n : ℕ) → Appends a b (take m xs) → Appends b c (take n (take (length xs - m) (drop m xs)))
    → Appends a c (take (m + n) xs)
sink_appended_longer_part a b c xs m n h k =
    let rest : take (length xs - m) (drop m xs) ≡ drop m xs = take_all _ _ (simp length-drop (omega arith)) in
    let then : Appends b c (take n (drop m xs)) = subst (λ (l : List ℕ). Appends b c (take n l)) rest k in
    subst (λ (l : List ℕ). Appends a c l) (sym (take-add m n xs)) (sink_appended_both_parts a b c (take m xs) (take n (drop m xs)) h then)
