-- What a record of another place and another caller leaves as it is.
use Rattle.am_race_laws.proofs.Words.{◌≡◌, ℕ, List, [], ◌∷◌, ◌++◌, Bool, true, false, cond, refl, ap, ◌∙◌, ne_eqb, append-nil, filter, if◌then◌else◌, ◌==◌, ◌&&◌}
use Rattle.am_race_laws.proofs.Words.{◌||◌, list_any, list_any-append, filter-append, place_of_name, Record, is_either, up_to_last, OthersAreApart}

-- a record that doesn't pass a test is left out
left_out : (test : Record → Bool) (before : List Record) (r : Record) → test r ≡ false → filter test (before ++ r ∷ []) ≡ filter test before
left_out test before r fails =
    let alone : filter test (r ∷ []) ≡ [] = ap (λ (b : Bool). cond b (r ∷ []) []) fails in
    filter-append test before (r ∷ []) ∙ ap (λ (l : List Record). filter test before ++ l) alone ∙ append-nil (filter test before)

pub or_with_false : (b : Bool) → (b || false) ≡ b
or_with_false true = refl
or_with_false false = refl

any_left : (test : Record → Bool) (before : List Record) (r : Record) → test r ≡ false → list_any test (before ++ r ∷ []) ≡ list_any test before
any_left test before r fails =
    let alone : list_any test (r ∷ []) ≡ false = ap (λ (b : Bool). b || false) fails in
    list_any-append test before (r ∷ []) ∙ ap (λ (b : Bool). list_any test before || b) alone ∙ or_with_false (list_any test before)

known_left : (place caller : ℕ) (before : List Record) (r : Record) → is_either place caller r ≡ false
    → up_to_last place caller (before ++ r ∷ []) ≡ up_to_last place caller before
unfolding up_to_last
known_left place caller [] r fails = ap (λ (b : Bool). if b || false then r ∷ [] else []) fails
known_left place caller (q ∷ before) r fails =
    ap (λ (b : Bool). if b then q ∷ up_to_last place caller (before ++ r ∷ []) else []) (any_left (is_either place caller) (q ∷ before) r fails)
    ∙ ap (λ (l : List Record). if list_any (is_either place caller) (q ∷ before) then q ∷ l else []) (known_left place caller before r fails)

pub records_of_others_are_apart : OthersAreApart
records_of_others_are_apart place caller call before r apart =
    let far : (place_of_name r.event.node == place) ≡ false = ne_eqb (place_of_name r.event.node) place apart.place in
    let other : (r.by.caller == caller) ≡ false = ne_eqb r.by.caller caller apart.caller in record {
      known = known_left place caller before r (ap (λ (b : Bool). b || (r.by.caller == caller)) far ∙ other);
      place = left_out (λ q. place_of_name q.event.node == place) before r far;
      caller = left_out (λ q. q.by.caller == caller) before r other;
      call = left_out (λ q. (q.by.caller == caller) && (q.by.call == call)) before r (ap (λ (b : Bool). b && (r.by.call == call)) other);
    }
