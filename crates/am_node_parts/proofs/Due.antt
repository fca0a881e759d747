-- What is settled of a node's sends stands in its list, as that grows.
use Rattle.am_node_parts.proofs.Words.{◌≡◌, ⊎_elim, ℕ, zero, suc, ◌+◌, ◌-◌, ◌<◌, ◌≤◌, List, [], ◌∷◌, length, true, ◌==◌, nat_lt, Some, slice_get, refl, sym}
use Rattle.am_node_parts.proofs.Words.{◌∙◌, ap, subst, arith, nat_tests, Image, Row, Entry, Data, place_of_name, life_of_name, Log, log_entry_at, image_of_log, row_at_place, after}
use Rattle.am_node_parts.proofs.Words.{fits, image_after_entries, AllEntriesFit, request_of_sender_in_entry, split_on_bool_of_log, row_of_place, sixteen_rows_after_entry, IsNextRequest, entry_keeps_requests_in_turn, request_in_own_data, IsKept, is_data_of}
use Rattle.am_node_parts.proofs.Words.{data_of_own_request, some_passes, RequestMayBeDue}
use Rattle.am_node_parts.proofs.Settling.{passing_entry_is_some, entry_at_is_list_item}

-- the next request of a life of a place that such a row allows, at least as great as this one
record NextFrom (r : Row) (life least : ℕ) : Type 0 where
  pub next : ℕ
  pub is : IsNextRequest r life next
  pub low : least ≤ next

due_next : (r : Row) (life next : ℕ) → RequestMayBeDue r life next → NextFrom r life next
due_next r life next due = split_on_bool_of_log (r.joined == 0)
    (λ t.
    let z : r.joined ≡ 0 = grind (arith, nat_tests) in
    record { next = 1; is = record { free = λ h. refl; younger = λ h. refl; own = λ j l. absurd (omega arith) }; low = due.free z })
    (λ f. split_on_bool_of_log (nat_lt r.life life)
    (λ t.
    let y : r.life < life = grind (arith, nat_tests) in
    record { next = 1; is = record { free = λ h. refl; younger = λ h. refl; own = λ j l. absurd (omega arith) }; low = due.younger y })
    (λ old.
    let no : r.joined ≡ 0 → ⊥ = λ h. let x : ⊥ = grind (arith, nat_tests) in x in
    let not_younger : r.life < life → ⊥ = λ h. let x : ⊥ = grind (arith, nat_tests) in x in
    split_on_bool_of_log (r.life == life)
    (λ t.
    let e : r.life ≡ life = grind (arith, nat_tests) in
    record {
      next = r.last + 1;
      is = record { free = λ h. absurd (no h); younger = λ h. absurd (not_younger h); own = λ j l. refl };
      low = due.own (omega arith) e;
    })
    (λ other.
    record {
      next = next;
      is = record {
        free = λ h. absurd (no h);
        younger = λ h. absurd (not_younger h);
        own = λ j l. absurd (let x : ⊥ = grind (arith, nat_tests) in x);
      };
      low = omega arith;
    })))

next_due : (r : Row) (life next low : ℕ) → IsNextRequest r life next → low ≤ next → RequestMayBeDue r life low
next_due r life next low is le = record {
  free = λ h. let e = is.free h in omega arith;
  younger = λ h. let e = is.younger h in omega arith;
  own = λ j l. let e = is.own j l in omega arith;
}

-- the first request may always be next
pub first_request_is_due : (r : Row) (life next : ℕ) → next ≤ 1 → RequestMayBeDue r life next
first_request_is_due r life next h = record { free = λ z. h; younger = λ y. h; own = λ j l. omega arith }

-- ---- one entry more

next_after : (image : Image) (n : ℕ) (e : Entry) (name low : ℕ) → length image.rows ≡ 16 → 0 < n → fits image e ≡ true
    → NextFrom (row_of_place image (place_of_name name)) (life_of_name name) low → NextFrom (row_of_place (after image n e) (place_of_name name)) (life_of_name name) low
next_after image n e name low long up fit from =
    let le = from.low in
    ⊎_elim
    (λ (x : (request_of_sender_in_entry name e ≡ []) × IsNextRequest (row_of_place (after image n e) (place_of_name name)) (life_of_name name) from.next). record {
      next = from.next;
      is = x.1;
      low = le;
    })
    (λ (x : (request_of_sender_in_entry name e ≡ from.next ∷ []) × IsNextRequest (row_of_place (after image n e) (place_of_name name)) (life_of_name name) (from.next + 1)). record {
      next = from.next + 1;
      is = x.1;
      low = omega arith;
    })
    (entry_keeps_requests_in_turn image n e name from.next long up fit from.is)

pub due_request_after_entry : (image : Image) (n : ℕ) (e : Entry) (name next : ℕ) → length image.rows ≡ 16 → 0 < n → fits image e ≡ true
    → RequestMayBeDue (row_at_place image name) (life_of_name name) next → RequestMayBeDue (row_at_place (after image n e) name) (life_of_name name) next
due_request_after_entry image n e name next long up fit due =
    let after_it = next_after image n e name next long up fit (due_next (row_at_place image name) (life_of_name name) next due) in
    next_due (row_at_place (after image n e) name) (life_of_name name) after_it.next next after_it.is after_it.low

-- ---- a send that stands in the list

head_is : (a b : ℕ) → a ∷ [] ≡ b ∷ [] → a ≡ b
head_is a b e = cc

not_empty : (a : ℕ) → a ∷ [] ≡ [] → ⊥
not_empty a e = cc

next_own : (image : Image) (n name req : ℕ) (body : List ℕ) (low : ℕ) → length image.rows ≡ 16 → 0 < n → fits image (Data name req body) ≡ true
    → NextFrom (row_of_place image (place_of_name name)) (life_of_name name) low
    → NextFrom (row_of_place (after image n (Data name req body)) (place_of_name name)) (life_of_name name) (req + 1)
next_own image n name req body low long up fit from =
    let own = request_in_own_data name req body in
    ⊎_elim
    (λ (x : (request_of_sender_in_entry name (Data name req body) ≡ []) × IsNextRequest (row_of_place (after image n (Data name req body)) (place_of_name name)) (life_of_name name) from.next). absurd
    (not_empty req (sym own ∙ x.0)))
    (λ (x : (request_of_sender_in_entry name (Data name req body) ≡ from.next ∷ [])
    × IsNextRequest (row_of_place (after image n (Data name req body)) (place_of_name name)) (life_of_name name) (from.next + 1)).
    let same = head_is req from.next (sym own ∙ x.0) in
    record { next = from.next + 1; is = x.1; low = omega arith })
    (entry_keeps_requests_in_turn image n (Data name req body) name from.next long up fit from.is)

next_fold : (image : Image) (n : ℕ) (es : List Entry) (name low : ℕ) → length image.rows ≡ 16 → 0 < n → AllEntriesFit image n es
    → NextFrom (row_of_place image (place_of_name name)) (life_of_name name) low → NextFrom (row_of_place (image_after_entries image n es) (place_of_name name)) (life_of_name name) low
unfolding image_after_entries AllEntriesFit
next_fold image n [] name low long up fit from = from
next_fold image n (e ∷ es) name low long up fit from =
    next_fold (after image n e) (n + 1) es name low (sixteen_rows_after_entry image n e long) (omega arith) fit.1 (next_after image n e name low long up fit.0 from)

next_stands : (image : Image) (n : ℕ) (es : List Entry) (name req : ℕ) (body : List ℕ) (low k : ℕ) → length image.rows ≡ 16 → 0 < n → AllEntriesFit image n es
    → NextFrom (row_of_place image (place_of_name name)) (life_of_name name) low → slice_get es k ≡ Some (Data name req body)
    → NextFrom (row_of_place (image_after_entries image n es) (place_of_name name)) (life_of_name name) (req + 1)
unfolding image_after_entries AllEntriesFit
next_stands image n [] name req body low k long up fit from at = absurd (cc)
next_stands image n (e ∷ es) name req body low zero long up fit from at =
    let is : e ≡ Data name req body = cc in
    let here = subst (λ (x : Entry). fits image x ≡ true → NextFrom (row_of_place (after image n x) (place_of_name name)) (life_of_name name) (req + 1)) (sym is)
    (λ f. next_own image n name req body low long up f from) fit.0 in
    next_fold (after image n e) (n + 1) es name (req + 1) (sixteen_rows_after_entry image n e long) (omega arith) fit.1 here
next_stands image n (e ∷ es) name req body low (suc k) long up fit from at =
    next_stands (after image n e) (n + 1) es name req body low k (sixteen_rows_after_entry image n e long) (omega arith) fit.1
    (next_after image n e name low long up fit.0 from) at

-- some next request, whatever the row
some_next : (r : Row) (life : ℕ) → NextFrom r life 0
some_next r life = due_next r life 0 (record { free = λ h. omega arith; younger = λ h. omega arith; own = λ j l. omega arith })

due_stands : (image : Image) (n : ℕ) (es : List Entry) (name req : ℕ) (body : List ℕ) (k : ℕ) → length image.rows ≡ 16 → 0 < n → AllEntriesFit image n es
    → slice_get es k ≡ Some (Data name req body) → RequestMayBeDue (row_at_place (image_after_entries image n es) name) (life_of_name name) (req + 1)
due_stands image n es name req body k long up fit at =
    let last = next_stands image n es name req body 0 k long up fit (some_next (row_of_place image (place_of_name name)) (life_of_name name)) at in
    next_due (row_at_place (image_after_entries image n es) name) (life_of_name name) last.next (req + 1) last.is last.low

-- a send of the node's own that stands in its list
pub own_data_makes_next_due : (log : Log) (capacity who req before : ℕ) → IsKept log capacity → log.start ≤ before
    → some_passes (is_data_of who req) (log_entry_at log (before + 1)) ≡ true → RequestMayBeDue (row_at_place (image_of_log log) who) (life_of_name who) (req + 1)
own_data_makes_next_due log capacity who req before kept low at =
    let e = passing_entry_is_some (is_data_of who req) (log_entry_at log (before + 1)) at in
    let passes_it : is_data_of who req e.0 ≡ true = ap (some_passes (is_data_of who req)) (sym e.1) ∙ at in
    let send = data_of_own_request who req e.0 passes_it in
    let get : slice_get log.entries (before - log.start) ≡ Some (Data who req send.0) = sym (entry_at_is_list_item log before low) ∙ e.1 ∙ ap Some send.1 in
    due_stands log.image (log.start + 1) log.entries who req send.0 (before - log.start) kept.image.places (omega arith) kept.fit get
