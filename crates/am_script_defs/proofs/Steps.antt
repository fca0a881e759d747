-- What is read was read step by step; numbers are within their limits.
use Rattle.std.proofs.Common.{◌≡◌, ℕ, ◌+◌, ◌≤◌, List, [], All, Option, Some, None, Result, Ok, Err, IfOk, Bool, true, false, is_some, ◌&&◌, nat_le, refl, subst, cond}
use Rattle.std.proofs.Common.{arith}
use Rattle.std.specs.Option.{ok_or, option_map_or}
use Rattle.std.specs.Prelude.{option_and_then}
use Rattle.std.proofs.lemmas.Bool.{leb-true}
use Rattle.std.proofs.lemmas.List.Elements.{All-cons}
use Rattle.serde_json.specs.Data.{Data, Items, no_items, item}
use Rattle.serde_json.specs.Find.{as_number, as_u64, as_object}
use Rattle.am_script_defs.specs.declared.key.ScriptKey.{ScriptKey}
use Rattle.am_script_defs.specs.declared.refusal.ScriptRefusal.{ScriptRefusal}
use Rattle.am_script_defs.specs.declared.refusal.ScriptRefusal.TheVariants.{BadValue}
use Rattle.am_script_defs.specs.Keys.{has_only, value_at}
use Rattle.am_script_defs.specs.Refusals.{ReadOrRefused, ◌>>=◌, Answers}
use Rattle.am_script_defs.specs.Scripts.{behind}
use Rattle.am_script_defs.specs.Values.{of_object, object_with, items_read_from, value_in, number_within, number_at_key, number_or}

pub ok_of_read_is_injective : {A : Type 0} (x y : A) → (let r : ReadOrRefused A = Ok x in r) ≡ Ok y → x ≡ y
ok_of_read_is_injective x y h = cc

pub ok_of_bound_read : {A B P : Type 0} (a : ReadOrRefused A) (f : A → ReadOrRefused B) (y : B) → (a >>= f) ≡ Ok y → ((x : A) → a ≡ Ok x → f x ≡ Ok y → P) → P
ok_of_bound_read (Ok x) f y h then = then x refl h
ok_of_bound_read (Err e) f y h then = cc

-- an object's kind, and then what is read by it
pub of_object_of_bound_read : {A B : Type 0} (k : ScriptKey) (place : ℕ) (d : Data) (a : ReadOrRefused A) (f : A → ReadOrRefused B)
    → of_object k place d (a >>= f) ≡ (of_object k place d a >>= f)
of_object_of_bound_read k place d a f = either (is_some (as_object d))
  where
    either : (b : Bool) → cond b (a >>= f) (Err (BadValue k place)) ≡ (cond b a (Err (BadValue k place)) >>= f)
    either true = refl
    either false = refl

-- what holds of all that may be read of a document's one key holds of the answer
pub answer_behind_key_is_ok : {A : Type 0} (P : A → Type 0) (k : ScriptKey) (from : Data → ReadOrRefused A) → ((v : Data) (x : A) → from v ≡ Ok x → P x) → (d : Data)
    (r : Result A ScriptRefusal) → Answers (behind k d >>= from) r → IfOk r P
answer_behind_key_is_ok P k from holds d (Ok x) is = ok_of_bound_read (behind k d) from x is (λ v there told. holds v x told)
answer_behind_key_is_ok P k from holds d (Err e) is = tt

pub ok_of_read_if_true : {A P : Type 0} (b : Bool) (a : ReadOrRefused A) (e : ScriptRefusal) (y : A) → cond b a (Err e) ≡ Ok y → (b ≡ true → a ≡ Ok y → P) → P
ok_of_read_if_true true a e y h then = then refl h
ok_of_read_if_true false a e y h then = cc

pub ok_of_read_if_false : {A P : Type 0} (b : Bool) (a : ReadOrRefused A) (e : ScriptRefusal) (y : A) → cond b (Err e) a ≡ Ok y → (a ≡ Ok y → P) → P
ok_of_read_if_false true a e y h then = cc
ok_of_read_if_false false a e y h then = then h

pub both_of_tests : (a b : Bool) → (a && b) ≡ true → (a ≡ true) × (b ≡ true)
both_of_tests true b h = (refl, h)
both_of_tests false b h = cc

-- what was read of an object of these keys
pub ok_of_object_with_keys : {A P : Type 0} (keys : List ScriptKey) (k : ScriptKey) (d : Data) (a : ReadOrRefused A) (y : A) → object_with keys k d a ≡ Ok y → (a ≡ Ok y → P) → P
ok_of_object_with_keys keys k d a y h then = ok_of_read_if_true (is_some (as_object d)) _ _ y h (λ is_one inner. ok_of_read_if_true (has_only keys d) _ _ y inner (λ only told. then told))

-- what holds of each item holds of all
pub each_read_is_within : {A : Type 0} (P : A → Type 0) (one : ℕ → Data → ReadOrRefused A) → ((place : ℕ) (d : Data) (x : A) → one place d ≡ Ok x → P x)
    → (place : ℕ) (ds : Items) (xs : List A) → items_read_from one place ds ≡ Ok xs → All P xs
each_read_is_within P one fits place no_items xs h = subst (λ ys. All P ys) (ok_of_read_is_injective [] xs h) (λ k d lt. absurd (omega arith))
each_read_is_within P one fits place (item d ds) xs h = ok_of_bound_read (one place d) _ xs h
    (λ x told rest. ok_of_bound_read (items_read_from one (place + 1) ds) _ xs rest (λ more others is.
    subst (λ ys. All P ys) (ok_of_read_is_injective _ xs is) (All-cons P x more (fits place d x told) (each_read_is_within P one fits (place + 1) ds more others))))

pub number_from_is_within : (k : ScriptKey) (place least most : ℕ) (d : Data) (n : ℕ) → number_within k place least most d ≡ Ok n → (least ≤ n) × (n ≤ most)
unfolding number_within
number_from_is_within k place least most d n h = ok_of_bound_read (ok_or (option_and_then as_u64 (as_number d)) (BadValue k place)) _ n h
    (λ found there told. ok_of_read_if_true (nat_le least found && nat_le found most) _ _ n told (λ fits is.
    let tests = both_of_tests _ _ fits in
    subst (λ (m : ℕ). (least ≤ m) × (m ≤ most)) (ok_of_read_is_injective found n is) (leb-true least found tests.0, leb-true found most tests.1)))

pub number_in_range_is_within : (k : ScriptKey) (place least most : ℕ) (d : Data) (n : ℕ) → number_at_key k place least most d ≡ Ok n → (least ≤ n) × (n ≤ most)
number_in_range_is_within k place least most d n h = ok_of_bound_read (value_in k place d) _ n h (λ v there told. number_from_is_within k place least most v n told)

number_or_at : (otherwise : ℕ) (k : ScriptKey) (place least most : ℕ) (found : Option Data) (n : ℕ) → least ≤ otherwise → otherwise ≤ most
    → option_map_or (number_within k place least most) found (Ok otherwise) ≡ Ok n → (least ≤ n) × (n ≤ most)
number_or_at otherwise k place least most None n low high h = subst (λ (m : ℕ). (least ≤ m) × (m ≤ most)) (ok_of_read_is_injective otherwise n h) (low, high)
number_or_at otherwise k place least most (Some v) n low high h = number_from_is_within k place least most v n h

pub number_or_other_is_within : (otherwise : ℕ) (k : ScriptKey) (place least most : ℕ) (d : Data) (n : ℕ) → least ≤ otherwise → otherwise ≤ most
    → number_or otherwise k place least most d ≡ Ok n → (least ≤ n) × (n ≤ most)
number_or_other_is_within otherwise k place least most d n low high h = number_or_at otherwise k place least most (value_at k d) n low high h
