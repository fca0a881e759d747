-- What the last Data of a member's place are, along a list that fits.
use Rattle.am_service_laws.proofs.Words.{◌≡◌, ℕ, ◌+◌, ◌-◌, ◌<◌, ◌≤◌, ◌==◌, true, List, [], ◌∷◌, ◌++◌, length, get_or, slice_get, Some, slice_index, refl, sym, ap}
use Rattle.am_service_laws.proofs.Words.{◌∙◌, subst, arith, ⊎_elim, suc, append_assoc, append-nil, length-append, get_or-append_seam, eqb-true, eqb-false}
use Rattle.am_service_laws.proofs.Words.{cond-false, flat_map-append, get_or-range_with_len, range_with_len, split_on_bool, place_of_name, life_of_name, Entry, Data, Join, Leave}
use Rattle.am_service_laws.proofs.Words.{View, IsBeginningOf, IsGoodList, image_of_list, is_member_at_end, list_begins_itself, front_begins_append, begins_through_both, push_then_append, entry_after_beginning, beginning_of_good_is_good, last_entry_fits}
use Rattle.am_service_laws.proofs.Words.{member_of_both_is_between, request_in_own_data, left_of_and, place_and_life_give_name, le_or_gt, requests_stand_in_turn, part_count, part_of, sent_from}
use Rattle.am_service_laws.proofs.Words.{from_place, parts_from, from_place-more, sent_from_own_place, first_parts, first_parts-none, first_parts-of, parts_from_is_first_parts, part_count_fits_size}
use Rattle.am_service_laws.proofs.Words.{slice_get_of_append_front, slice_get_within}
use Rattle.am_base.specs.Lists.{members_of_image, fits, request_of_sender_in_entry, requests_of_sender}

-- ---- one entry more

-- whoever sends is a member
sender_in : (list : List Entry) (from req : ℕ) (body : List ℕ) → IsGoodList (list ++ Data from req body ∷ []) → is_member_at_end list from ≡ true
unfolding is_member_at_end fits
sender_in list from req body good = left_of_and _ _ (last_entry_fits list (Data from req body) good)

-- of one place one life is a member
one_life : (list : List Entry) (a b : ℕ) → place_of_name a ≡ place_of_name b → is_member_at_end list a ≡ true → is_member_at_end list b ≡ true → a ≡ b
unfolding is_member_at_end
one_life list a b place one other =
    let la : slice_index (members_of_image (image_of_list list)) (place_of_name a) ≡ life_of_name a = eqb-true _ _ one in
    let lb : slice_index (members_of_image (image_of_list list)) (place_of_name b) ≡ life_of_name b = eqb-true _ _ other in
    place_and_life_give_name a b place (sym la ∙ ap (slice_index (members_of_image (image_of_list list))) place ∙ lb)

abbrev count_of : ℕ → List Entry → ℕ
count_of name list = length (requests_of_sender name list)

requests-more : (name : ℕ) (list : List Entry) (e : Entry) → requests_of_sender name (list ++ e ∷ []) ≡ requests_of_sender name list ++ request_of_sender_in_entry name e
requests-more name list e = flat_map-append (request_of_sender_in_entry name) list (e ∷ []) ∙ ap (λ xs. requests_of_sender name list ++ xs) (append-nil (request_of_sender_in_entry name e))

-- no request of the name
same_count : (name : ℕ) (list : List Entry) (e : Entry) → request_of_sender_in_entry name e ≡ [] → count_of name (list ++ e ∷ []) ≡ count_of name list
same_count name list e none = ap length (requests-more name list e ∙ ap (λ xs. requests_of_sender name list ++ xs) none ∙ append-nil (requests_of_sender name list))

-- a request of the name is the next one
next_count : (name : ℕ) (list : List Entry) (req : ℕ) (body : List ℕ) → IsGoodList (list ++ Data name req body ∷ [])
    → (req ≡ count_of name list + 1) × (count_of name (list ++ Data name req body ∷ []) ≡ count_of name list + 1)
next_count name list req body good =
    let all = list ++ Data name req body ∷ [] in
    let more : requests_of_sender name all ≡ requests_of_sender name list ++ req ∷ [] =
    requests-more name list (Data name req body) ∙ ap (λ xs. requests_of_sender name list ++ xs) (request_in_own_data name req body) in
    let long : count_of name all ≡ count_of name list + 1 = ap length more ∙ length-append (requests_of_sender name list) (req ∷ []) in
    let turn : requests_of_sender name all ≡ range_with_len 1 (count_of name all) = requests_stand_in_turn all good.fit name in
    let below : count_of name list < count_of name all = omega (arith, long) in
    let is : req ≡ 1 + count_of name list = sym (get_or-append_seam (requests_of_sender name list) req [] 0)
    ∙ ap (λ xs. get_or xs (count_of name list) 0) (sym more ∙ turn) ∙ get_or-range_with_len 1 (count_of name all) (count_of name list) 0 below in
    (omega (arith, is), long)

-- ---- the last parts

-- at the end of what was sent from a name's place are so many first parts of a message as the name made requests from the first on, and
-- the name was a member
record Tail (name first : ℕ) (message : List ℕ) (list : List Entry) : Type 0 where
  seen : List Entry
  begins : IsBeginningOf seen list
  member : is_member_at_end seen name ≡ true
  before : List (ℕ × List ℕ)
  parts : from_place (place_of_name name) list ≡ before ++ first_parts name (part_count (length message)) message ((count_of name list + 1) - first)

-- as long as there are parts to come
abbrev Tailed : ℕ → ℕ → List ℕ → List Entry → Type 0
Tailed name first message list = first ≤ count_of name list → count_of name list < first + part_count (length message) → Tail name first message list

-- what the name sends there are the parts
abbrev IsPartOf : ℕ → ℕ → List ℕ → ℕ → List ℕ → Type 0
IsPartOf name first message req body = first ≤ req → req < first + part_count (length message) → body ≡ part_of message (req - first)

-- a send of the name
tail_own : (name first : ℕ) (message : List ℕ) (list : List Entry) (req : ℕ) (body : List ℕ) → IsGoodList (list ++ Data name req body ∷ [])
    → IsPartOf name first message req body → Tailed name first message list → Tailed name first message (list ++ Data name req body ∷ [])
tail_own name first message list req body good is_part h up below =
    let all = list ++ Data name req body ∷ [] in
    let count = part_count (length message) in
    let next = next_count name list req body good in
    let body_is : body ≡ part_of message (req - first) = is_part (omega (arith, next.0, next.1)) (omega (arith, next.0, next.1)) in
    let sent : from_place (place_of_name name) all ≡ from_place (place_of_name name) list ++ (name, part_of message (req - first)) ∷ [] =
    from_place-more (place_of_name name) list (Data name req body) ∙ ap (λ xs. from_place (place_of_name name) list ++ xs) (sent_from_own_place name req body)
    ∙ ap (λ b. from_place (place_of_name name) list ++ (name, b) ∷ []) body_is in
    let last : suc (req - first) ≡ (count_of name all + 1) - first = omega (arith, next.0, next.1) in
    ⊎_elim
    (λ (older : first ≤ count_of name list).
    let t = h older (omega (arith, next.1)) in
    let index : (count_of name list + 1) - first ≡ req - first = omega (arith, next.0) in
    record {
      seen = list;
      begins = front_begins_append list (Data name req body ∷ []);
      member = sender_in list name req body good;
      before = t.before;
      parts = sent ∙ ap (λ xs. xs ++ (name, part_of message (req - first)) ∷ []) (t.parts ∙ ap (λ n. t.before ++ first_parts name count message n) index)
          ∙ append_assoc t.before _ _ ∙ ap (λ xs. t.before ++ xs) (sym (first_parts-of name message (req - first)))
          ∙ ap (λ n. t.before ++ first_parts name count message n) last;
    })
    (λ (new : count_of name list < first).
    let index : req - first ≡ 0 = omega (arith, next.0, next.1) in
    let none : first_parts name count message (req - first) ≡ [] = ap (first_parts name count message) index ∙ first_parts-none name count message in
    record {
      seen = list;
      begins = front_begins_append list (Data name req body ∷ []);
      member = sender_in list name req body good;
      before = from_place (place_of_name name) list;
      parts = sent
          ∙ ap (λ xs. from_place (place_of_name name) list ++ (xs ++ (name, part_of message (req - first)) ∷ [])) (sym none)
          ∙ ap (λ xs. from_place (place_of_name name) list ++ xs) (sym (first_parts-of name message (req - first)))
          ∙ ap (λ n. from_place (place_of_name name) list ++ first_parts name count message n) last;
    })
    (le_or_gt first (count_of name list))

-- an entry that is nothing of the name's place
tail_same : (name first : ℕ) (message : List ℕ) (list : List Entry) (e : Entry) → request_of_sender_in_entry name e ≡ [] → sent_from (place_of_name name) e ≡ []
    → Tailed name first message list → Tailed name first message (list ++ e ∷ [])
tail_same name first message list e none nothing h up below =
    let count = same_count name list e none in
    let t = h (omega (arith, count)) (omega (arith, count)) in
    record {
      seen = t.seen;
      begins = begins_through_both t.begins (front_begins_append list (e ∷ []));
      member = t.member;
      before = t.before;
      parts = from_place-more (place_of_name name) list e ∙ ap (λ xs. from_place (place_of_name name) list ++ xs) nothing ∙ append-nil (from_place (place_of_name name) list)
          ∙ t.parts ∙ ap (λ n. t.before ++ first_parts name (part_count (length message)) message ((n + 1) - first)) (sym count);
    }

-- a send of another life of the place: there is none as long as the name is a member
tail_other : (name first : ℕ) (message : List ℕ) (whole list : List Entry) (from req : ℕ) (body : List ℕ) → IsGoodList whole → is_member_at_end whole name ≡ true
    → IsBeginningOf (list ++ Data from req body ∷ []) whole → (from ≡ name → ⊥) → place_of_name from ≡ place_of_name name → request_of_sender_in_entry name (Data from req body) ≡ []
    → Tailed name first message list → Tailed name first message (list ++ Data from req body ∷ [])
tail_other name first message whole list from req body good member front other place none h up below =
    let count = same_count name list (Data from req body) none in
    let t = h (omega (arith, count)) (omega (arith, count)) in
    let there = begins_through_both (front_begins_append list (Data from req body ∷ [])) front in
    let own : is_member_at_end list name ≡ true = member_of_both_is_between name good t.begins there t.member member in
    let its : is_member_at_end list from ≡ true = sender_in list from req body (beginning_of_good_is_good front good) in
    absurd (other (one_life list from name place its own))

-- each entry in turn
tail_next : (name first : ℕ) (message : List ℕ) (whole list : List Entry) (e : Entry) → IsGoodList whole → is_member_at_end whole name ≡ true → IsBeginningOf (list ++ e ∷ []) whole
    → ((req : ℕ) (body : List ℕ) → e ≡ Data name req body → IsPartOf name first message req body)
    → Tailed name first message list → Tailed name first message (list ++ e ∷ [])
tail_next name first message whole list (Data from req body) good member front parts h = split_on_bool (from == name)
    (λ t.
    let same : from ≡ name = eqb-true from name t in
    let is : Data from req body ≡ Data name req body = ap (λ n. Data n req body) same in
    subst (λ n. Tailed name first message (list ++ Data n req body ∷ [])) (sym same)
    (tail_own name first message list req body (beginning_of_good_is_good (subst (λ n. IsBeginningOf (list ++ Data n req body ∷ []) whole) same front) good) (parts req body is) h))
    (λ f.
    let none : request_of_sender_in_entry name (Data from req body) ≡ [] = cond-false (from == name) (req ∷ []) [] f in
    let other : from ≡ name → ⊥ = eqb-false from name f in
    split_on_bool (place_of_name from == place_of_name name)
    (λ here. tail_other name first message whole list from req body good member front other (eqb-true (place_of_name from) (place_of_name name) here) none h)
    (λ away. tail_same name first message list (Data from req body) none (cond-false (place_of_name from == place_of_name name) ((from, body) ∷ []) [] away) h))
tail_next name first message whole list (Join joiner) good member front parts h = tail_same name first message list (Join joiner) refl refl h
tail_next name first message whole list (Leave leaver) good member front parts h = tail_same name first message list (Leave leaver) refl refl h
tail_next name first message whole list (View v) good member front parts h =
    tail_same name first message list (View v) refl refl h

-- what the name sends in a list are the parts
abbrev pub SendsOfNameAreParts : ℕ → ℕ → List ℕ → List Entry → Type 0
SendsOfNameAreParts name first message list = (k req : ℕ) (body : List ℕ) → slice_get list k ≡ Some (Data name req body) → IsPartOf name first message req body

tails : (name first : ℕ) (message : List ℕ) (whole list rest : List Entry) → IsGoodList whole → is_member_at_end whole name ≡ true → list ++ rest ≡ whole
    → SendsOfNameAreParts name first message whole → Tailed name first message list → Tailed name first message whole
tails name first message whole list [] good member is parts h = subst (Tailed name first message) (sym (append-nil list) ∙ is) h
tails name first message whole list (e ∷ es) good member is parts h =
    let front : IsBeginningOf (list ++ e ∷ []) whole = record { rest = es; same = push_then_append list e es ∙ is } in
    tails name first message whole (list ++ e ∷ []) es good member (push_then_append list e es ∙ is) parts
    (tail_next name first message whole list e good member front
    (λ req body own. parts (length list) req body (entry_after_beginning list e front ∙ ap Some own)) h)

-- a list whose last entry is the last of the parts
pub list_tail_ends_with_parts : (name first : ℕ) (message : List ℕ) (list : List Entry) (req : ℕ) (body : List ℕ) → IsGoodList (list ++ Data name req body ∷ []) → 0 < first
    → req + 1 ≡ first + part_count (length message) → SendsOfNameAreParts name first message (list ++ Data name req body ∷ [])
    → (before : List (ℕ × List ℕ)) × (from_place (place_of_name name) (list ++ Data name req body ∷ []) ≡ before ++ parts_from name message)
list_tail_ends_with_parts name first message list req body good some last parts =
    let all = list ++ Data name req body ∷ [] in
    let count = part_count (length message) in
    let next = next_count name list req body good in
    let front = front_begins_append list (Data name req body ∷ []) in
    let own = sender_in list name req body good in
    let in_list : SendsOfNameAreParts name first message list =
    λ k r b at. parts k r b (slice_get_of_append_front list (Data name req body ∷ []) k (slice_get_within list k (Data name r b) at) ∙ at) in
    let none : Tailed name first message [] = λ up below. absurd (omega arith) in
    let inner : Tailed name first message list = tails name first message list [] list (beginning_of_good_is_good front good) own refl in_list none in
    let there : slice_get all (length list) ≡ Some (Data name req body) = entry_after_beginning list (Data name req body) (list_begins_itself (list ++ Data name req body ∷ [])) in
    let outer = tail_own name first message list req body good (parts (length list) req body there) inner in
    let t = outer (omega (arith, next.0, next.1, (part_count_fits_size (length message)).some)) (omega (arith, next.0, next.1)) in
    let all_parts : (count_of name all + 1) - first ≡ count = omega (arith, next.0, next.1) in
    (t.before, t.parts ∙ ap (λ n. t.before ++ first_parts name count message n) all_parts ∙ ap (λ xs. t.before ++ xs) (sym (parts_from_is_first_parts name message)))
