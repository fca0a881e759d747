-- The parts of a message at the end of what was sent, and what they are together.
use Rattle.std.proofs.Common.{◌≡◌, ℕ, zero, suc, ◌+◌, ◌-◌, ◌*◌, ◌≤◌, ◌==◌, nat_le, true, List, [], ◌∷◌, ◌++◌, length, take, drop, map}
use Rattle.std.proofs.Common.{Option, Some, None, refl, sym, ap, ◌∙◌, subst, arith, append_assoc, length-append, take-append-drop, zero-add, add-one}
use Rattle.std.proofs.Common.{cond, append-nil}
use Rattle.std.proofs.lemmas.Bool.{leb-true, eqb-true, le-leb, eq-eqb, and_parts, and_from, cond-true}
use Rattle.std.proofs.lemmas.List.{take_all, take_at, drop_at, length-map}
use Rattle.std.proofs.lemmas.List.FromFn.{map-range_with_len_more, length-map-range_with_len}
use Rattle.std.proofs.lemmas.Option.{cond_some}
use Rattle.std.proofs.lemmas.Simd.{map-map}
use Rattle.std.proofs.Math.Seq.{take-add}
use Rattle.std.proofs.lemmas.List.Concat.{flat_map-append}
use Rattle.std.specs.List.{range_with_len}
use Rattle.std.specs.Bool.{Decides}
use Rattle.std.specs.Cmp.Lexicographic.{pointwise_decides, bytes_decides}
use Rattle.am_service_defs.specs.Parts.{part_count, payload_of, part_bytes, part_of, parts_of}
use Rattle.am_service_defs.specs.Messages.{parts_from, last_so_many, payloads_of, is_same, are_parts_of_message, message_of}
use Rattle.am_service_defs.proofs.Spelled.{part_count_fits_size}

-- ---- a list and one item more

snoc_parts : {A : Type 0} (xs ys : List A) (x y : A) → xs ++ x ∷ [] ≡ ys ++ y ∷ [] → (xs ≡ ys) × (x ≡ y)
snoc_parts xs ys x y h =
    let lengths = ap length h in
    let long : length xs ≡ length ys = omega (arith, length-append xs (x ∷ []), length-append ys (y ∷ []), lengths) in
    let same : xs ≡ ys = sym (take_at xs (x ∷ []) (length xs) refl) ∙ ap (take (length xs)) h ∙ take_at ys (y ∷ []) (length xs) (sym long) in
    let ends : x ∷ [] ≡ y ∷ [] = sym (drop_at xs (x ∷ []) (length xs) refl) ∙ ap (drop (length xs)) h ∙ drop_at ys (y ∷ []) (length xs) (sym long) in
    (same, cc)

pub list_has_last_item : {A : Type 0} (x : A) (xs : List A) → (init : List A) × (last : A) × (x ∷ xs ≡ init ++ last ∷ [])
list_has_last_item x [] = ([], x, refl)
list_has_last_item x (y ∷ ys) = let rest = list_has_last_item y ys in (x ∷ rest.0, rest.1, ap (λ zs. x ∷ zs) rest.2)

-- ---- the first parts

-- the first so many parts of bytes, as if there were so many in all
unfoldable pub first_parts : ℕ → ℕ → List ℕ → ℕ → List (ℕ × List ℕ)
first_parts name count bytes many = map (λ index. (name, part_bytes index count (payload_of bytes index))) (range_with_len 0 many)

pub first_parts-none : (name count : ℕ) (bytes : List ℕ) → first_parts name count bytes 0 ≡ []
unfolding first_parts
first_parts-none name count bytes = refl

pub first_parts-more : (name count : ℕ) (bytes : List ℕ) (many : ℕ)
    → first_parts name count bytes (many + 1) ≡ first_parts name count bytes many ++ (name, part_bytes many count (payload_of bytes many)) ∷ []
unfolding first_parts
first_parts-more name count bytes many = map-range_with_len_more _ 0 many many (zero-add many)

pub first_parts-suc : (name count : ℕ) (bytes : List ℕ) (many : ℕ)
    → first_parts name count bytes (suc many) ≡ first_parts name count bytes many ++ (name, part_bytes many count (payload_of bytes many)) ∷ []
first_parts-suc name count bytes many = ap (first_parts name count bytes) (sym (add-one many)) ∙ first_parts-more name count bytes many

pub parts_from_is_first_parts : (name : ℕ) (message : List ℕ)
    → parts_from name message ≡ first_parts name (part_count (length message)) message (part_count (length message))
unfolding first_parts parts_of part_of
parts_from_is_first_parts name message = map-map _ _ _

pub first_parts-of : (name : ℕ) (message : List ℕ) (many : ℕ) → let count = part_count (length message) in
    first_parts name count message (suc many) ≡ first_parts name count message many ++ (name, part_of message many) ∷ []
unfolding part_of
first_parts-of name message many = first_parts-suc name (part_count (length message)) message many

payloads_first : (name count : ℕ) (bytes : List ℕ) (many : ℕ) → payloads_of (first_parts name count bytes many) ≡ take (1019 * many) bytes
payloads_first name count bytes zero = ap payloads_of (first_parts-none name count bytes)
payloads_first name count bytes (suc n) =
    let more = first_parts-suc name count bytes n in
    let size : 1019 * suc n ≡ 1019 * n + 1019 = omega arith in
    ap payloads_of more ∙ flat_map-append (λ part. drop 5 part.1) (first_parts name count bytes n) ((name, part_bytes n count (payload_of bytes n)) ∷ [])
    ∙ ap (λ xs. xs ++ (payload_of bytes n ++ [])) (payloads_first name count bytes n) ∙ ap (λ xs. take (1019 * n) bytes ++ xs) (append-nil (payload_of bytes n))
    ∙ sym (take-add (1019 * n) 1019 bytes) ∙ ap (λ k. take k bytes) (sym size)

payloads_of_all : (name : ℕ) (message : List ℕ) → payloads_of (parts_from name message) ≡ message
payloads_of_all name message =
    ap payloads_of (parts_from_is_first_parts name message) ∙ payloads_first name _ message _
    ∙ take_all (1019 * part_count (length message)) message (part_count_fits_size (length message)).most

-- ---- a message at the end

-- the parts of a message of a name end what was sent
pub record BodiesEndWithMessage (sent : List (ℕ × List ℕ)) (name : ℕ) (message : List ℕ) : Type 0 where
  pub few : length message ≤ 65535
  pub before : List (ℕ × List ℕ)
  pub parts : sent ≡ before ++ parts_from name message

same_pair : (a b : ℕ × List ℕ) → Decides (is_same a b) (a ≡ b)
same_pair a b = (
  λ h. let both = and_parts (a.0 == b.0) _ h in
      let first = eqb-true a.0 b.0 both.0 in
      let second = (bytes_decides a.1 b.1).0 both.1 in
      λ i. (first i, second i),
  λ e. and_from _ _ (eq-eqb a.0 b.0 (ap (λ (p : ℕ × List ℕ). p.0) e)) ((bytes_decides a.1 b.1).1 (ap (λ (p : ℕ × List ℕ). p.1) e)),
)

pub bodies_found_end_with_message : (sent : List (ℕ × List ℕ)) (count name whose : ℕ) (message : List ℕ) → message_of name (last_so_many sent count) ≡ Some (whose, message)
    → (whose ≡ name) × BodiesEndWithMessage sent name message
bodies_found_end_with_message sent count name whose message h =
    let last = last_so_many sent count in
    let found = cond_some (are_parts_of_message name (payloads_of last) last) (name, payloads_of last) (whose, message) h in
    let whose_is : name ≡ whose = ap (λ (p : ℕ × List ℕ). p.0) found.1 in
    let message_is : payloads_of last ≡ message = ap (λ (p : ℕ × List ℕ). p.1) found.1 in
    let both = and_parts (nat_le (length (payloads_of last)) 65535) _ found.0 in
    let parts : last ≡ parts_from name (payloads_of last) = (pointwise_decides same_pair last (parts_from name (payloads_of last))).0 both.1 in
    let cut : sent ≡ take (length sent - count) sent ++ last = sym (take-append-drop (length sent - count) sent) in (
      sym whose_is,
      record {
        few = rw (← message_is) (leb-true _ 65535 both.0);
        before = take (length sent - count) sent;
        parts = cut ∙ ap (λ xs. take (length sent - count) sent ++ xs) (parts ∙ ap (parts_from name) message_is);
      },
    )

pub length-parts_from : (name : ℕ) (message : List ℕ) → length (parts_from name message) ≡ part_count (length message)
unfolding parts_of
length-parts_from name message = length-map (parts_of message) _ ∙ length-map-range_with_len _ 0 (part_count (length message))

pub message_at_end_of_bodies : (before : List (ℕ × List ℕ)) (name : ℕ) (message : List ℕ) → length message ≤ 65535
    → message_of name (last_so_many (before ++ parts_from name message) (part_count (length message))) ≡ Some (name, message)
message_at_end_of_bodies before name message few =
    let parts = parts_from name message in
    let count = part_count (length message) in
    let long = length-parts_from name message in
    let start : length before ≡ length (before ++ parts) - count = omega (arith, length-append before parts, long) in
    let last : last_so_many (before ++ parts) count ≡ parts = drop_at before parts (length (before ++ parts) - count) start in
    let all = payloads_of_all name message in
    let whole : are_parts_of_message name message parts ≡ true =
    and_from _ _ (le-leb (length message) 65535 few) ((pointwise_decides same_pair parts parts).1 refl) in
    ap (message_of name) last ∙ subst (λ m. cond {A = Option (ℕ × List ℕ)} (are_parts_of_message name m parts) (Some (name, m)) None ≡ Some (name, message)) (sym all)
    (cond-true {A = Option (ℕ × List ℕ)} (are_parts_of_message name message parts) (Some (name, message)) None whole)

-- what was sent last is the last part, and the others stand before it
pub record LastBodyIsPartOfMessage (sent : List (ℕ × List ℕ)) (whose : ℕ) (body : List ℕ) (name : ℕ) (message : List ℕ) : Type 0 where
  pub whose_is : whose ≡ name
  pub index : ℕ
  pub last : index + 1 ≡ part_count (length message)
  pub body_is : body ≡ part_of message index
  pub before : List (ℕ × List ℕ)
  pub others : sent ≡ before ++ first_parts name (part_count (length message)) message index

pub last_body_ends_message : (sent : List (ℕ × List ℕ)) (whose : ℕ) (body : List ℕ) (name : ℕ) (message : List ℕ) → BodiesEndWithMessage (sent ++ (whose, body) ∷ []) name message
    → LastBodyIsPartOfMessage sent whose body name message
unfolding part_of
last_body_ends_message sent whose body name message ending =
    let count = part_count (length message) in
    let index = count - 1 in
    let last : index + 1 ≡ count = omega (arith, (part_count_fits_size (length message)).some) in
    let all : parts_from name message ≡ first_parts name count message index ++ (name, part_bytes index count (payload_of message index)) ∷ [] =
    parts_from_is_first_parts name message ∙ ap (first_parts name count message) (sym last) ∙ first_parts-more name count message index in
    let is : sent ++ (whose, body) ∷ [] ≡ (ending.before ++ first_parts name count message index)
    ++ (name, part_bytes index count (payload_of message index)) ∷ [] =
    ending.parts ∙ ap (λ xs. ending.before ++ xs) all ∙ sym (append_assoc ending.before _ _) in
    let parts = snoc_parts sent _ (whose, body) _ is in
    record {
      whose_is = ap (λ (p : ℕ × List ℕ). p.0) parts.1;
      index = index;
      last = last;
      body_is = ap (λ (p : ℕ × List ℕ). p.1) parts.1;
      before = ending.before;
      others = parts.0;
    }
