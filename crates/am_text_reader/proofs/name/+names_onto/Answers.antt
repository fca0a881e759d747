use Rattle.std.proofs.Common.{◌≡◌, ℕ, List, ◌+◌, Ok, Err, ap, ap₂, ◌∙◌, rules, arith, true, false, nat_lt}
use Rattle.am_base.specs.Names.{place_of_name}
use Rattle.std.proofs.lemmas.Bool.Decides.{nat_tests}
use Rattle.am_text_defs.specs.Fields.{names_onto, split_text}
use Rattle.am_text_defs.proofs.Names.{names_onto_by_parts}
use Rattle.am_text_reader.proofs.name.+names_onto.Goals as goal

pub returns-in_err-name : goal.returns-in_err-name
returns-in_err-name t c =
    let h = names_onto_by_parts c.args.least c.args.set c.args.text.now _ _ _ c.cut.ensures.first c.cut.ensures.rest c.in_err-name.ensures in
    let e : c.from_residual.result ≡ Err c.in_err-name.field-0.0 = search rules in
    e ∙ h

pub returns-then-place-least : goal.returns-then-place-least
returns-then-place-least t c =
    let h = names_onto_by_parts c.args.least c.args.set c.args.text.now _ _ _ c.cut.ensures.first c.cut.ensures.rest c.in_ok-name.ensures in
    let below : nat_lt (place_of_name c.in_ok-name.name) c.args.least ≡ true = grind (arith, nat_tests, c.if-place-least.true, c.place.ensures.value) in
    rw below at h

pub returns-in-Some : goal.returns-in-Some
returns-in-Some t c =
    let h = names_onto_by_parts c.args.least c.args.set c.args.text.now _ _ _ c.cut.ensures.first c.cut.ensures.rest c.in_ok-name.ensures in
    let below : nat_lt (place_of_name c.in_ok-name.name) c.args.least ≡ false = grind (arith, nat_tests, c.if-place-least.false, c.place.ensures.value) in
    let i = rw below at h in
    c.names_onto.ensures ∙ ap₂ (λ (n : ℕ) (set : List ℕ). names_onto n set (split_text 44 c.in-Some.rest.now)) (ap (λ (n : ℕ). n + 1) c.place-in-Some.ensures.value) c.with.ensures
    ∙ (rw c.in-Some.is at i)

pub returns-in-None : goal.returns-in-None
returns-in-None t c =
    let h = names_onto_by_parts c.args.least c.args.set c.args.text.now _ _ _ c.cut.ensures.first c.cut.ensures.rest c.in_ok-name.ensures in
    let below : nat_lt (place_of_name c.in_ok-name.name) c.args.least ≡ false = grind (arith, nat_tests, c.if-place-least.false, c.place.ensures.value) in
    let i = rw below at h in
    ap Ok c.with-in-None.ensures ∙ (rw c.in-None.is at i)
