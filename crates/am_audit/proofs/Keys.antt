-- A send's name and request as one number.
use Rattle.std.proofs.Common.{◌≡◌, ℕ, ◌+◌, ◌*◌, ◌<◌, ◌≤◌, ◌==◌, ◌&&◌, List, [], ◌∷◌, Some, None}
use Rattle.std.proofs.Common.{Result, Ok, Err, OnOk, false, cond, refl, sym, ap, ◌∙◌, arith, ⊎_elim}
use Rattle.std.proofs.lemmas.Bool.{cases_eq, eq-eqb}
use Rattle.std.proofs.lemmas.Bool.Decides.{nat_tests}
use Rattle.am_base.specs.Most.{greatest_number}
use Rattle.am_text_defs.specs.declared.fault.FieldFault.{FieldFault}
use Rattle.am_audit_defs.specs.Fields.{two_of, expect, data_parts, data_in, is_send}
use Rattle.am_audit_defs.specs.Lines.{Line}
use Rattle.am_audit_defs.specs.Verdicts.{or_else, first_sent, twice_by, twice_at, once_more, stands}
use Rattle.am_audit_defs.proofs.Bounds.{chained_result_is_ok, data_parts_read_within}
use Rattle.std.specs.Prelude.{codes}
use Rattle.am_audit.specs.Keeping.{send_key, has_send_key, first_by_key, twice_by_key, stands_by_key}

differs : (a b : ℕ) → (a ≡ b → ⊥) → (a == b) ≡ false
differs a b ne = grind (arith, nat_tests)

-- requests of 32 bits make different numbers
pub send_key_is_injective : (f r from req : ℕ) → r < 4294967296 → req < 4294967296 → (send_key f r == send_key from req) ≡ ((f == from) && (r == req))
send_key_is_injective f r from req low low' = ⊎_elim
    (λ (e : f ≡ from). ⊎_elim
    (λ (h : r ≡ req). eq-eqb (send_key f r) (send_key from req) (ap (λ (x : ℕ). x * 4294967296 + r) e ∙ ap (λ (x : ℕ). from * 4294967296 + x) h)
    ∙ sym (ap (λ b. b && (r == req)) (eq-eqb f from e) ∙ eq-eqb r req h))
    (λ (ne : r ≡ req → ⊥). differs (send_key f r) (send_key from req) (λ k. ne (omega arith))
    ∙ sym (ap (λ b. b && (r == req)) (eq-eqb f from e) ∙ differs r req ne))
    (cases_eq r req))
    (λ (ne : f ≡ from → ⊥). differs (send_key f r) (send_key from req) (λ k. ne (omega arith))
    ∙ sym (ap (λ b. b && (r == req)) (differs f from ne)))
    (cases_eq f from)

data_within : (text : List ℕ) (parts : ℕ × ℕ × List ℕ) → data_in text ≡ Ok parts → parts.1 ≤ greatest_number
unfolding data_in
data_within text parts h =
    let first = chained_result_is_ok (two_of text) _ parts h in
    let checked = chained_result_is_ok (expect (codes "data") first.0.0) (λ c. data_parts first.0.1) parts first.2 in
    data_parts_read_within first.0.1 parts checked.2

key_by : (from req : ℕ) (sent : Result (ℕ × ℕ × List ℕ) FieldFault) → req < 4294967296 → ((parts : ℕ × ℕ × List ℕ) → sent ≡ Ok parts → parts.1 ≤ greatest_number)
    → has_send_key (send_key from req) sent ≡ is_send from req sent
key_by from req (Ok parts) low within = send_key_is_injective parts.0 parts.1 from req (omega (arith, within parts refl)) low
key_by from req (Err fault) low within = refl

-- sent has a send's number exactly where it is the send
key_is_send : (from req : ℕ) (text : List ℕ) → req < 4294967296 → has_send_key (send_key from req) (data_in text) ≡ is_send from req (data_in text)
key_is_send from req text low = key_by from req (data_in text) low (data_within text)

first_is : (from req : ℕ) (before : List Line) → req < 4294967296 → first_by_key (send_key from req) before ≡ first_sent from req before
first_is from req [] low = refl
first_is from req (line ∷ before) low =
    ap (λ o. or_else o (cond (has_send_key (send_key from req) (data_in line.text)) (Some line.number) None)) (first_is from req before low)
    ∙ ap (λ b. or_else (first_sent from req before) (cond b (Some line.number) None)) (key_is_send from req line.text low)

twice_if : (before : List Line) (sent : Result (ℕ × ℕ × List ℕ) FieldFault) (number : ℕ) → ((parts : ℕ × ℕ × List ℕ) → sent ≡ Ok parts → parts.1 ≤ greatest_number)
    → twice_by_key before sent number ≡ twice_at before sent number
twice_if before (Ok sent) number within = ap (λ o. twice_by o sent.0 sent.1 number) (first_is sent.0 sent.1 before (omega (arith, within sent refl)))
twice_if before (Err fault) number within = refl

pub twice_at_by_keys : (before : List Line) (text : List ℕ) (number : ℕ) → twice_by_key before (data_in text) number ≡ twice_at before (data_in text) number
twice_at_by_keys before text number = twice_if before (data_in text) number (data_within text)

pub stands_by_keys_is_stands : (number from req : ℕ) (texts : List (List ℕ)) → req < 4294967296 → stands_by_key number (send_key from req) texts ≡ stands number from req texts
stands_by_keys_is_stands number from req [] low = refl
stands_by_keys_is_stands number from req (text ∷ texts) low =
    ap (λ o. cond (has_send_key (send_key from req) (data_in text)) (Some (once_more number o)) o) (stands_by_keys_is_stands (number + 1) from req texts low)
    ∙ ap (λ b. cond b (Some (once_more number (stands (number + 1) from req texts))) (stands (number + 1) from req texts)) (key_is_send from req text low)

-- what holds where all is well, and what follows
pub on_ok_by_implied_claim : {T E : Type 0} (r : Result T E) {P Q : Type 0} → OnOk r P → (P → Q) → OnOk r Q
on_ok_by_implied_claim (Ok x) p h = h p
on_ok_by_implied_claim (Err e) p h = tt
