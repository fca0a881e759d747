-- What an assembler answers to an entry, and what has ended then.
use Rattle.std.proofs.Common.{◌≡◌, ℕ, List, true, ◌==◌, Option, Some, None, cond, refl, sym, ap, ◌∙◌}
use Rattle.std.proofs.lemmas.Bool.Decides.{nat_tests}
use Rattle.std.proofs.Common.{arith}
use Rattle.am_base.specs.declared.entry.Entry.{Entry}
use Rattle.am_base.specs.declared.entry.Entry.TheVariants.{Data, Join, Leave, View}
use Rattle.am_service_defs.specs.declared.fed.Fed.TheVariants as feds
use Rattle.am_service_defs.specs.Assembling.{Assembly, Taken, plain, passed, part, whole, taken_at, fed_by, ended_by, after_entry, fed_with, ended_from}
use Rattle.am_long_messages.proofs.Keeping.{ended_by_other_body}

-- where the answer isn't that a message is whole, none has ended
pub after_entry_ended_none : (a : Assembly) (entry : Entry) → ((whose : ℕ) → fed_with a entry ≡ feds.Whole whose → ⊥) → (after_entry a entry).ended ≡ None
unfolding after_entry fed_with
after_entry_ended_none a (Data from req body) other = sym (ended_by_other_body from (taken_at a from body) other)
after_entry_ended_none a (Join name) other = refl
after_entry_ended_none a (Leave name) other = refl
after_entry_ended_none a (View v) other = refl

some_by : (from whose : ℕ) (taken : Taken) → fed_by from taken ≡ feds.Whole whose → (message : List ℕ) × (ended_by from taken ≡ Some (whose, message))
some_by from whose plain is = absurd (cc)
some_by from whose passed is = absurd (cc)
some_by from whose (part begun) is = absurd (cc)
some_by from whose (whole message) is = let same : from ≡ whose = cc in (message, ap (λ n. Some (n, message)) same)

-- where it is, one of that name has ended
pub after_entry_ended_message : (a : Assembly) (entry : Entry) (whose : ℕ) → fed_with a entry ≡ feds.Whole whose
    → (message : List ℕ) × ((after_entry a entry).ended ≡ Some (whose, message))
unfolding after_entry fed_with
after_entry_ended_message a (Data from req body) whose is = some_by from whose (taken_at a from body) is
after_entry_ended_message a (Join name) whose is = absurd (cc)
after_entry_ended_message a (Leave name) whose is = absurd (cc)
after_entry_ended_message a (View v) whose is = absurd (cc)

-- it is the one that is told of that name
pub ended_from_of_ended_message : (ended : Option (ℕ × List ℕ)) (whose : ℕ) (message : List ℕ) → ended ≡ Some (whose, message) → ended_from whose ended ≡ Some message
ended_from_of_ended_message ended whose message is =
    let own : (whose == whose) ≡ true = grind (arith, nat_tests) in
    ap (ended_from whose) is ∙ ap (λ b. cond b (Some message) None) own
