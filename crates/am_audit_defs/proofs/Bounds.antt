-- What is read is within its limits.
use Rattle.std.proofs.Common.{◌≡◌, ℕ, ◌≤◌, ◌==◌, List, Option, Some, None, Result, Ok, Err, Bool, true, false, cond, not, ◌||◌, nat_le, length, drop, refl, sym}
use Rattle.std.proofs.Common.{subst, ap, arith, ◌⊎◌, ⊎_elim, inl, inr}
use Rattle.std.specs.Prelude.{codes, slice_index}
use Rattle.std.specs.Str.Parse.{digits_value}
use Rattle.std.proofs.lemmas.Bool.{leb-true}
use Rattle.am_base.specs.Most.{greatest_number}
use Rattle.am_base.specs.Limits.{EntryIsInRange}
use Rattle.am_base.specs.declared.entry.GroupView.{GroupView}
use Rattle.am_base.specs.declared.name.Stamp.{Stamp}
use Rattle.am_text_defs.specs.declared.fault.FieldFault.{FieldFault}
use Rattle.am_text_defs.specs.declared.fault.FieldFault.TheVariants.{Form, Limit}
use Rattle.am_text_defs.specs.Fields.{cut_of, same, and_then, is_numeral, number_up_to, number_in_text, name_in_text, stamp_with, stamp_in_text, names_in_text}
use Rattle.am_audit_defs.specs.declared.outline.Outline.{Outline}
use Rattle.am_audit_defs.specs.declared.outline.Outline.TheVariants as outlines
use Rattle.am_audit_defs.specs.Fields.{two_of, is_body, data_parts, data_of, resilience_in_text, resilience_in, view_in_text, outline_of}
use Rattle.am_audit_defs.specs.Verdicts.{bare_entry}

-- what was read first, where all was read
pub chained_result_is_ok : {A B : Type 0} (r : Result A FieldFault) (f : A → Result B FieldFault) (y : B) → and_then r f ≡ Ok y → (x : A) × (r ≡ Ok x) × (f x ≡ Ok y)
chained_result_is_ok (Ok x) f y h = (x, refl, h)
chained_result_is_ok (Err fault) f y h = cc

-- which way a test went
pub chosen_branch_of_value : {A : Type 0} (b : Bool) (x y z : A) → cond b x y ≡ z → ((b ≡ true) × (x ≡ z)) ⊎ ((b ≡ false) × (y ≡ z))
chosen_branch_of_value true x y z h = inl (refl, h)
chosen_branch_of_value false x y z h = inr (refl, h)

-- what was read, where the other way is a fault
pub guarded_result_is_ok : {A : Type 0} (b : Bool) (x : Result A FieldFault) (fault : FieldFault) (y : A) → cond b x (Err fault) ≡ Ok y → (b ≡ true) × (x ≡ Ok y)
guarded_result_is_ok true x fault y h = (refl, h)
guarded_result_is_ok false x fault y h = cc

unguarded : {A : Type 0} (b : Bool) (x : Result A FieldFault) (fault : FieldFault) (y : A) → cond b (Err fault) x ≡ Ok y → (b ≡ false) × (x ≡ Ok y)
unguarded true x fault y h = cc
unguarded false x fault y h = (refl, h)

pub same_result_same_value : {A : Type 0} (x y : A) (r : Result A FieldFault) → r ≡ Ok x → r ≡ Ok y → x ≡ y
same_result_same_value x y r h i = cc

-- a number is at most the greatest
up_to : (most : ℕ) (word : List ℕ) (n : ℕ) → number_up_to most word ≡ Ok n → n ≤ most
unfolding number_up_to
up_to most word n h =
    let numeral = guarded_result_is_ok (is_numeral word) (cond (nat_le (digits_value 10 word) most) (Ok (digits_value 10 word)) (Err Limit)) Form n h in
    let low = guarded_result_is_ok (nat_le (digits_value 10 word) most) (Ok (digits_value 10 word)) Limit n numeral.1 in
    let is : digits_value 10 word ≡ n = same_result_same_value (digits_value 10 word) n (Ok (digits_value 10 word)) refl low.1 in
    omega (arith, leb-true (digits_value 10 word) most low.0, is)

stamp_round : (round : ℕ) (rest : Option (List ℕ)) (stamp : Stamp) → stamp_with round rest ≡ Ok stamp → stamp.round ≡ round
stamp_round round None stamp h = cc
stamp_round round (Some word) stamp h =
    let by = chained_result_is_ok (name_in_text word) (λ by. Ok (record { round = round; by = by })) stamp h in
    let is : record { round = round; by = by.0 } ≡ stamp = same_result_same_value _ stamp (Ok (record { round = round; by = by.0 })) refl by.2 in
    ap (λ (s : Stamp). s.round) (sym is)

stamp_within : (word : List ℕ) (stamp : Stamp) → stamp_in_text word ≡ Ok stamp → stamp.round ≤ greatest_number
unfolding stamp_in_text
stamp_within word stamp h =
    let round = chained_result_is_ok (number_in_text (cut_of 46 word).0) (λ round. stamp_with round (cut_of 46 word).1) stamp h in
    omega (arith, up_to greatest_number (cut_of 46 word).0 round.0 round.1, stamp_round round.0 (cut_of 46 word).1 stamp round.2)

resilience_within : (word : List ℕ) (resilience : ℕ) → resilience_in_text word ≡ Ok resilience → resilience ≤ 15
unfolding resilience_in_text
resilience_within word resilience h =
    let rest = unguarded ((length word == 0) || not (slice_index word 0 == 114)) (and_then (number_up_to 15 (drop 1 word)) (λ r. cond (r == 0)
    (Err Form) (Ok r))) Form resilience h in
    let number = chained_result_is_ok (number_up_to 15 (drop 1 word)) (λ r. cond (r == 0) (Err Form) (Ok r)) resilience rest.1 in
    let some = unguarded (number.0 == 0) (Ok number.0) Form resilience number.2 in
    let is : number.0 ≡ resilience = same_result_same_value number.0 resilience (Ok number.0) refl some.1 in
    omega (arith, up_to 15 (drop 1 word) number.0 number.1, is)

resilience_in_within : (word : Option (List ℕ)) (resilience : ℕ) → resilience_in word ≡ Ok resilience → resilience ≤ 15
resilience_in_within None resilience h = let is : 0 ≡ resilience = same_result_same_value 0 resilience (Ok 0) refl h in omega (arith, is)
resilience_in_within (Some word) resilience h = resilience_within word resilience h

view_within : (text : List ℕ) (outline : Outline) → view_in_text text ≡ Ok outline → EntryIsInRange (bare_entry outline)
unfolding view_in_text
view_within text outline h =
    let first = chained_result_is_ok (two_of text) _ outline h in
    let stamp = chained_result_is_ok (stamp_in_text first.0.0) _ outline first.2 in
    let members = chained_result_is_ok (names_in_text (cut_of 32 first.0.1).0) _ outline stamp.2 in
    let viewed : ℕ → GroupView = λ r. record { stamp = stamp.0; members = members.0; resilience = r } in
    let resilience = chained_result_is_ok (resilience_in (cut_of 32 first.0.1).1) (λ r. Ok (outlines.View (viewed r))) outline members.2 in
    let is : outlines.View (viewed resilience.0) ≡ outline = same_result_same_value _ outline (Ok (outlines.View (viewed resilience.0))) refl resilience.2 in
    subst (λ (o : Outline). EntryIsInRange (bare_entry o)) is
    (stamp_within first.0.0 stamp.0 stamp.1, resilience_in_within (cut_of 32 first.0.1).1 resilience.0 resilience.1)

pub data_parts_read_within : (text : List ℕ) (parts : ℕ × ℕ × List ℕ) → data_parts text ≡ Ok parts → parts.1 ≤ greatest_number
unfolding data_parts
data_parts_read_within text parts h =
    let first = chained_result_is_ok (two_of text) _ parts h in
    let from = chained_result_is_ok (name_in_text first.0.0) _ parts first.2 in
    let second = chained_result_is_ok (two_of first.0.1) _ parts from.2 in
    let req = chained_result_is_ok (number_in_text second.0.0) (λ req. Ok (from.0, req, second.0.1)) parts second.2 in
    let is : (from.0, req.0, second.0.1) ≡ parts = same_result_same_value (from.0, req.0, second.0.1) parts (Ok (from.0, req.0, second.0.1)) refl req.2 in
    omega (arith, up_to greatest_number second.0.0 req.0 req.1, ap (λ (p : ℕ × ℕ × List ℕ). p.1) is)

data_within : (text : List ℕ) (outline : Outline) → data_of text ≡ Ok outline → EntryIsInRange (bare_entry outline)
unfolding data_of
data_within text outline h =
    let parts = chained_result_is_ok (data_parts text) _ outline h in
    let checked = chained_result_is_ok (is_body parts.0.2) (λ c. Ok (outlines.Data parts.0.0 parts.0.1)) outline parts.2 in
    let is : outlines.Data parts.0.0 parts.0.1 ≡ outline = same_result_same_value _ outline (Ok (outlines.Data parts.0.0 parts.0.1)) refl checked.2 in
    subst (λ (o : Outline). EntryIsInRange (bare_entry o)) is (data_parts_read_within text parts.0 parts.1)

join_within : (word : List ℕ) (outline : Outline) → and_then (name_in_text word) (λ name. Ok (outlines.Join name)) ≡ Ok outline → EntryIsInRange (bare_entry outline)
join_within word outline h =
    let name = chained_result_is_ok (name_in_text word) (λ name. Ok (outlines.Join name)) outline h in
    let is : outlines.Join name.0 ≡ outline = same_result_same_value _ outline (Ok (outlines.Join name.0)) refl name.2 in
    subst (λ (o : Outline). EntryIsInRange (bare_entry o)) is tt

leave_within : (word : List ℕ) (outline : Outline) → and_then (name_in_text word) (λ name. Ok (outlines.Leave name)) ≡ Ok outline → EntryIsInRange (bare_entry outline)
leave_within word outline h =
    let name = chained_result_is_ok (name_in_text word) (λ name. Ok (outlines.Leave name)) outline h in
    let is : outlines.Leave name.0 ≡ outline = same_result_same_value _ outline (Ok (outlines.Leave name.0)) refl name.2 in
    subst (λ (o : Outline). EntryIsInRange (bare_entry o)) is tt

-- an entry's numbers are within their limits
pub outline_read_is_entry : (text : List ℕ) (outline : Outline) → outline_of text ≡ Ok outline → EntryIsInRange (bare_entry outline)
unfolding outline_of
outline_read_is_entry text outline h =
    let first = chained_result_is_ok (two_of text) _ outline h in
    ⊎_elim (λ c. data_within first.0.1 outline c.1)
    (λ c. ⊎_elim (λ d. join_within first.0.1 outline d.1)
    (λ d. ⊎_elim (λ e. leave_within first.0.1 outline e.1)
    (λ e. view_within first.0.1 outline (guarded_result_is_ok (same first.0.0 (codes "view")) (view_in_text first.0.1) Form outline e.1).1)
    (chosen_branch_of_value (same first.0.0 (codes "leave")) _ _ _ d.1))
    (chosen_branch_of_value (same first.0.0 (codes "join")) _ _ _ c.1))
    (chosen_branch_of_value (same first.0.0 (codes "data")) _ _ _ first.2)
