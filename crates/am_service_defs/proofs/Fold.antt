-- What an assembler has after a list is what the list's own places had sent.
use Rattle.std.proofs.Common.{◌≡◌, ℕ, ◌<◌, List, [], ◌∷◌, ◌++◌, length, get_or, ◌==◌, Option, Some, None, refl, sym, ap, ◌∙◌, subst, arith, get_or-set_same}
use Rattle.std.proofs.Common.{get_or-set_other, length-set}
use Rattle.std.specs.Prelude.{fold, replicate}
use Rattle.std.proofs.Math.ListN.{set}
use Rattle.std.proofs.lemmas.Bool.{eqb-true, eqb-false, cond-true, cond-false}
use Rattle.std.proofs.lemmas.List.Sums.{fold-append}
use Rattle.std.proofs.lemmas.Option.{same_Some}
use Rattle.std.proofs.lemmas.List.{get_or-replicate}
use Rattle.byteorder.specs.Endian.{big_from}
use Rattle.am_base.proofs.Greatest.{split_on_bool}
use Rattle.am_base.specs.Names.{place_of_name}
use Rattle.am_base.specs.declared.entry.Entry.{Entry}
use Rattle.am_base.specs.declared.entry.Entry.TheVariants.{Data, Join, Leave, View}
use Rattle.am_service_defs.specs.declared.fed.Fed.TheVariants as feds
use Rattle.am_service_defs.specs.Messages.{sent_from, from_place, last_so_many, message_of, message_at}
use Rattle.am_service_defs.specs.Assembling.{Begun, Assembly, Taken, plain, passed, part, whole, taken_with, taken_at, begun_by, ended_by, fed_by, no_parts, after_entry}
use Rattle.am_service_defs.specs.Assembling.{fed_with, assembled, MessagesAssemble}
use Rattle.am_service_defs.proofs.Ends.{from_place-more, sent_from_own_place, message_at-more, message_found_at_last_body}
use Rattle.am_service_defs.proofs.Endings.{BodiesEndWithMessage, bodies_found_end_with_message, list_has_last_item}
use Rattle.am_service_defs.proofs.Assembles.{begun_message_with_next_body, begun_message_after_bodies, taken_body_completes_message, completed_message_ends_list}

-- ---- each place by itself

sixteen_after : (a : Assembly) (e : Entry) → length a.begun ≡ 16 → length (after_entry a e).begun ≡ 16
unfolding after_entry
sixteen_after a (Data from req body) long = length-set _ _ _ ∙ long
sixteen_after a (Join name) long = long
sixteen_after a (Leave name) long = long
sixteen_after a (View v) long = long

place_after : (a : Assembly) (e : Entry) (place : ℕ) → length a.begun ≡ 16 → place < 16
    → get_or (after_entry a e).begun place None ≡ fold begun_message_with_next_body (get_or a.begun place None) (sent_from place e)
unfolding after_entry
place_after a (Data from req body) place long there = split_on_bool (place_of_name from == place)
    (λ here.
    let at : place_of_name from ≡ place = eqb-true (place_of_name from) place here in
    let within : place_of_name from < length a.begun = omega (arith, at) in
    let next = begun_by (taken_at a from body) in
    ap (λ p. get_or (set a.begun (place_of_name from) next) p None) (sym at) ∙ get_or-set_same a.begun (place_of_name from) next None within
    ∙ ap (λ p. begun_by (taken_with (get_or a.begun p None) from body)) at
    ∙ ap (fold begun_message_with_next_body (get_or a.begun place None)) (sym (cond-true (place_of_name from == place) ((from, body) ∷ []) [] here)))
    (λ other.
    let not_at : place ≡ place_of_name from → ⊥ = λ e. eqb-false (place_of_name from) place other (sym e) in
    get_or-set_other a.begun (place_of_name from) place _ None not_at
    ∙ ap (fold begun_message_with_next_body (get_or a.begun place None)) (sym (cond-false (place_of_name from == place) ((from, body) ∷ []) [] other)))
place_after a (Join name) place long there = refl
place_after a (Leave name) place long there = refl
place_after a (View v) place long there = refl

places_after : (a : Assembly) (list : List Entry) (place : ℕ) → length a.begun ≡ 16 → place < 16
    → get_or (fold after_entry a list).begun place None ≡ fold begun_message_with_next_body (get_or a.begun place None) (from_place place list)
unfolding from_place
places_after a [] place long there = refl
places_after a (e ∷ es) place long there =
    places_after (after_entry a e) es place (sixteen_after a e long) there
    ∙ ap (λ b. fold begun_message_with_next_body b (from_place place es)) (place_after a e place long there)
    ∙ sym (fold-append begun_message_with_next_body (get_or a.begun place None) (sent_from place e) (from_place place es))

place_of_none : (place : ℕ) → place < 16 → ◌≡◌ {A = Option Begun} (get_or (replicate 16 None) place None) None
place_of_none place there = get_or-replicate 16 place None None there

begun_at : (list : List Entry) (place : ℕ) → place < 16 → get_or (assembled list).begun place None ≡ begun_message_after_bodies (from_place place list)
unfolding begun_message_after_bodies
begun_at list place there = places_after no_parts list place refl there ∙ ap (λ b. fold begun_message_with_next_body b (from_place place list)) (place_of_none place there)

-- ---- one entry more

same_messages : (a b : Option (ℕ × List ℕ)) → ((m : ℕ × List ℕ) → a ≡ Some m → b ≡ Some m) → ((m : ℕ × List ℕ) → b ≡ Some m → a ≡ Some m) → a ≡ b
same_messages None None f g = refl
same_messages None (Some m) f g = g m refl
same_messages (Some m) b f g = sym (f m refl)

-- what a Data more comes to is what ends with it
data_ends : (sent : List (ℕ × List ℕ)) (whose : ℕ) (body : List ℕ)
    → ended_by whose (taken_with (begun_message_after_bodies sent) whose body) ≡ message_of whose (last_so_many (sent ++ (whose, body) ∷ []) (big_from 3 2 body))
data_ends sent whose body = same_messages _ _
    (λ m had. let ends = completed_message_ends_list sent whose body m.0 m.1 had in message_found_at_last_body sent whose body m.0 m.1 ends.1)
    (λ m had.
    let is = bodies_found_end_with_message (sent ++ (whose, body) ∷ []) (big_from 3 2 body) whose m.0 m.1 had in
    taken_body_completes_message sent whose body m.0 m.1 (subst (λ n. BodiesEndWithMessage (sent ++ (whose, body) ∷ []) n m.1) (sym is.0) is.1))

taken_data : (list : List Entry) (from req : ℕ) (body : List ℕ)
    → ended_by from (taken_at (assembled list) from body) ≡ message_at (list ++ Data from req body ∷ [])
taken_data list from req body =
    let there : place_of_name from < 16 = omega arith in
    ap (λ b. ended_by from (taken_with b from body)) (begun_at list (place_of_name from) there)
    ∙ data_ends (from_place (place_of_name from) list) from body
    ∙ ap (λ xs. message_of from (last_so_many xs (big_from 3 2 body)))
    (ap (λ xs. from_place (place_of_name from) list ++ xs) (sym (sent_from_own_place from req body)) ∙ sym (from_place-more (place_of_name from) list (Data from req body)))
    ∙ sym (message_at-more list (Data from req body))

-- after one entry more it has what ends with it
ended_after : (list : List Entry) (e : Entry) → (after_entry (assembled list) e).ended ≡ message_at (list ++ e ∷ [])
unfolding after_entry
ended_after list (Data from req body) = taken_data list from req body
ended_after list (Join name) = sym (message_at-more list (Join name))
ended_after list (Leave name) = sym (message_at-more list (Leave name))
ended_after list (View v) = sym (message_at-more list (View v))

ended : (list : List Entry) → (assembled list).ended ≡ message_at list
unfolding message_at
ended [] = refl
ended (e ∷ es) =
    let cut = list_has_last_item e es in
    ap (λ xs. (assembled xs).ended) cut.2 ∙ ap (λ (a : Assembly). a.ended) (fold-append after_entry no_parts cut.0 (cut.1 ∷ []))
    ∙ ended_after cut.0 cut.1 ∙ sym (ap message_at cut.2)

-- ---- what is answered

whole_of : (from name : ℕ) (taken : Taken) → fed_by from taken ≡ feds.Whole name → (message : List ℕ) × (ended_by from taken ≡ Some (name, message))
whole_of from name plain fed = absurd (cc)
whole_of from name passed fed = absurd (cc)
whole_of from name (part begun) fed = absurd (cc)
whole_of from name (whole message) fed = let same : from ≡ name = cc in (message, ap (λ n. Some (n, message)) same)

of_whole : (from name : ℕ) (taken : Taken) (message : List ℕ) → ended_by from taken ≡ Some (name, message) → fed_by from taken ≡ feds.Whole name
of_whole from name plain message had = absurd (cc)
of_whole from name passed message had = absurd (cc)
of_whole from name (part begun) message had = absurd (cc)
of_whole from name (whole all) message had = ap (λ (m : ℕ × List ℕ). feds.Whole m.0) (same_Some (from, all) (name, message) had)

fed_whole : (list : List Entry) (e : Entry) (name : ℕ) → fed_with (assembled list) e ≡ feds.Whole name
    → (message : List ℕ) × (message_at (list ++ e ∷ []) ≡ Some (name, message))
unfolding fed_with
fed_whole list (Data from req body) name fed =
    let is = whole_of from name (taken_at (assembled list) from body) fed in (is.0, sym (taken_data list from req body) ∙ is.1)
fed_whole list (Join joiner) name fed = absurd (cc)
fed_whole list (Leave leaver) name fed = absurd (cc)
fed_whole list (View v) name fed = absurd (cc)

whole_fed : (list : List Entry) (e : Entry) (name : ℕ) (message : List ℕ) → message_at (list ++ e ∷ []) ≡ Some (name, message)
    → fed_with (assembled list) e ≡ feds.Whole name
unfolding fed_with
whole_fed list (Data from req body) name message had =
    of_whole from name (taken_at (assembled list) from body) message (taken_data list from req body ∙ had)
whole_fed list (Join joiner) name message had =
    let none : ◌≡◌ {A = Option (ℕ × List ℕ)} None (Some (name, message)) = sym (message_at-more list (Join joiner)) ∙ had in absurd (cc)
whole_fed list (Leave leaver) name message had =
    let none : ◌≡◌ {A = Option (ℕ × List ℕ)} None (Some (name, message)) = sym (message_at-more list (Leave leaver)) ∙ had in absurd (cc)
whole_fed list (View v) name message had =
    let none : ◌≡◌ {A = Option (ℕ × List ℕ)} None (Some (name, message)) = sym (message_at-more list (View v)) ∙ had in absurd (cc)

pub messages_assemble : MessagesAssemble
messages_assemble list = record { ended = ended list; whole = λ e name. (fed_whole list e name, λ m. whole_fed list e name m.0 m.1) }
