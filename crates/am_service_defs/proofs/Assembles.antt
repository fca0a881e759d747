-- An assembler that is fed a list finds the messages that end in it.
use Rattle.std.proofs.Common.{◌≡◌, ◌⊎◌, ⊎_elim, inl, inr, ℕ, zero, suc, ◌+◌, ◌*◌, ◌<◌, ◌≤◌, List, [], ◌∷◌, ◌++◌, length, take, drop, cond, ◌==◌, ◌&&◌}
use Rattle.std.proofs.Common.{Option, Some, None, true, false, refl, sym, ap, ◌∙◌, subst, arith, length-append, length-drop, append-nil, append_assoc, add-one}
use Rattle.std.specs.Prelude.{fold}
use Rattle.std.proofs.Math.Seq.{take-add}
use Rattle.std.proofs.lemmas.Bool.{eq-eqb, ne_eqb, cond-true, cond-false, and_from, and_parts, eqb-true, eqb-false, cases_lt}
use Rattle.am_base.proofs.Greatest.{split_on_bool}
use Rattle.std.proofs.lemmas.List.{take_all, drop_at, take-append-le, drop-append-le}
use Rattle.std.proofs.lemmas.List.Sums.{fold-append}
use Rattle.std.proofs.lemmas.Option.{same_Some, some_pair_parts}
use Rattle.am_service_defs.specs.Parts.{Part, part_count, payload_of, part_bytes, part_of, part_in}
use Rattle.am_service_defs.specs.Messages.{parts_from}
use Rattle.am_service_defs.specs.Assembling.{Begun, Taken, plain, passed, part, whole, with_part, awaits, bytes_begun, take_part, taken_with, begun_by, ended_by}
use Rattle.am_service_defs.proofs.Spelled.{PartFitsMessage, part_read_fits_message, part_read_from_its_bytes, part_in_of_written_part, part_count_fits_size}
use Rattle.am_service_defs.proofs.Endings.{first_parts, first_parts-none, first_parts-more, first_parts-suc, first_parts-of, parts_from_is_first_parts, BodiesEndWithMessage, last_body_ends_message}

-- ---- what a part of a message comes to

-- a part that comes next
next_part : (begun : Option Begun) (name : ℕ) (p : Part) (bytes : List ℕ) → (p.index ≡ 0 → [] ≡ bytes)
    → (0 < p.index → begun ≡ Some (record { from = name; next = p.index; count = p.count; bytes = bytes }))
    → take_part begun name (Some p) ≡ with_part name p bytes
next_part begun name p bytes first other = ⊎_elim
    (λ (some : 0 < p.index).
    let not_first : (p.index == 0) ≡ false = ne_eqb p.index 0 (λ e. omega arith) in
    let waits : awaits begun name p ≡ true =
    ap (λ b. awaits b name p) (other some) ∙ and_from _ _ (and_from _ _ (eq-eqb name name refl) (eq-eqb p.index p.index refl)) (eq-eqb p.count p.count refl) in
    let same : bytes_begun begun ≡ bytes = ap bytes_begun (other some) in
    cond-false (p.index == 0) (with_part name p []) _ not_first ∙ cond-true (awaits begun name p) (with_part name p (bytes_begun begun)) passed waits
    ∙ ap (with_part name p) same)
    (λ (none : p.index ≤ 0).
    let zero : p.index ≡ 0 = omega arith in
    cond-true (p.index == 0) (with_part name p []) _ (eq-eqb p.index 0 zero) ∙ ap (with_part name p) (first zero))
    (cases_lt 0 p.index)

-- ---- what had begun after what was sent from a place

abbrev pub begun_message_with_next_body : Option Begun → ℕ × List ℕ → Option Begun
begun_message_with_next_body begun sent = begun_by (taken_with begun sent.0 sent.1)

unfoldable pub begun_message_after_bodies : List (ℕ × List ℕ) → Option Begun
begun_message_after_bodies sent = fold begun_message_with_next_body None sent

begun_after-more : (sent : List (ℕ × List ℕ)) (x : ℕ × List ℕ) → begun_message_after_bodies (sent ++ x ∷ []) ≡ begun_message_with_next_body (begun_message_after_bodies sent) x
unfolding begun_message_after_bodies
begun_after-more sent x = fold-append begun_message_with_next_body None sent (x ∷ [])

-- ---- parts in turn are put together

-- so far the bytes of the message
so_far : (message : List ℕ) (index : ℕ) → take (1019 * index) message ++ payload_of message index ≡ take (1019 * (index + 1)) message
so_far message index =
    let size : 1019 * (index + 1) ≡ 1019 * index + 1019 = omega arith in
    sym (take-add (1019 * index) 1019 message) ∙ ap (λ n. take n message) (sym size)

abbrev begun_with : ℕ → List ℕ → ℕ → Begun
begun_with name message index = record { from = name; next = index; count = part_count (length message); bytes = take (1019 * index) message }

same_begun : (name count a b : ℕ) (xs ys : List ℕ) → a ≡ b → xs ≡ ys
    → ◌≡◌ {A = Begun} (record { from = name; next = a; count = count; bytes = xs }) (record { from = name; next = b; count = count; bytes = ys })
same_begun name count a b xs ys h i = cc

takes_part : (begun : Option Begun) (name : ℕ) (message : List ℕ) (index : ℕ) → length message ≤ 65535 → index < part_count (length message)
    → (0 < index → begun ≡ Some (begun_with name message index)) → taken_with begun name (part_of message index)
    ≡ with_part name (record { index = index; count = part_count (length message); payload = payload_of message index }) (take (1019 * index) message)
takes_part begun name message index few within before =
    ap (take_part begun name) (part_in_of_written_part message index few within)
    ∙ next_part begun name (record { index = index; count = part_count (length message); payload = payload_of message index }) (take (1019 * index) message)
    (λ zero. sym (ap (λ n. take (1019 * n) message) zero)) before

-- after the first parts of a message, but not all
begins : (before : List (ℕ × List ℕ)) (name : ℕ) (message : List ℕ) (many : ℕ) → length message ≤ 65535 → many < part_count (length message) → 0 < many
    → begun_message_after_bodies (before ++ first_parts name (part_count (length message)) message many) ≡ Some (begun_with name message many)
begins before name message zero few within some = absurd (omega arith)
begins before name message (suc n) few within some =
    let count = part_count (length message) in
    let here : n < count = omega arith in
    let more : before ++ first_parts name count message (suc n) ≡ (before ++ first_parts name count message n) ++ (name, part_of message n) ∷ [] =
    ap (λ xs. before ++ xs) (first_parts-of name message n) ∙ sym (append_assoc before _ _) in
    let p : Part = record { index = n; count = count; payload = payload_of message n } in
    let not_last : (n + 1 == count) ≡ false = ne_eqb (n + 1) count (λ e. omega arith) in
    ap begun_message_after_bodies more ∙ begun_after-more (before ++ first_parts name count message n) (name, part_of message n)
    ∙ ap begun_by (takes_part _ name message n few here (λ up. begins before name message n few here up)
    ∙ cond-false (n + 1 == count) (whole (take (1019 * n) message ++ payload_of message n)) _ not_last)
    ∙ ap (λ b. Some b) (same_begun name count (n + 1) (suc n) (take (1019 * n) message ++ payload_of message n) (take (1019 * suc n) message) (add-one n)
    (so_far message n ∙ ap (λ m. take (1019 * m) message) (add-one n)))

-- the last part of a message makes it whole
pub taken_body_completes_message : (sent : List (ℕ × List ℕ)) (whose : ℕ) (body : List ℕ) (name : ℕ) (message : List ℕ) → BodiesEndWithMessage (sent ++ (whose, body) ∷ []) name message
    → ended_by whose (taken_with (begun_message_after_bodies sent) whose body) ≡ Some (name, message)
taken_body_completes_message sent whose body name message ending =
    let last = last_body_ends_message sent whose body name message ending in
    let count = part_count (length message) in
    let within : last.index < count = omega (arith, last.last) in
    let before : 0 < last.index → begun_message_after_bodies sent ≡ Some (begun_with name message last.index) =
    λ up. ap begun_message_after_bodies last.others ∙ begins last.before name message last.index ending.few within up in
    let all : take (1019 * last.index) message ++ payload_of message last.index ≡ message =
    so_far message last.index ∙ ap (λ n. take (1019 * n) message) last.last ∙ take_all (1019 * count) message (part_count_fits_size (length message)).most in
    ap (λ n. ended_by n (taken_with (begun_message_after_bodies sent) n body)) last.whose_is
    ∙ ap (λ b. ended_by name (taken_with (begun_message_after_bodies sent) name b)) last.body_is
    ∙ ap (ended_by name) (takes_part (begun_message_after_bodies sent) name message last.index ending.few within before
    ∙ cond-true (last.index + 1 == count) (whole (take (1019 * last.index) message ++ payload_of message last.index)) _
    (eq-eqb (last.index + 1) count last.last))
    ∙ ap (λ m. Some (name, m)) all

-- ---- what is put together are parts in turn

-- what had begun are the first parts of its bytes, at the end of what was sent
record Partly (sent : List (ℕ × List ℕ)) (b : Begun) : Type 0 where
  before : List (ℕ × List ℕ)
  parts : sent ≡ before ++ first_parts b.from b.count b.bytes b.next
  long : length b.bytes ≡ 1019 * b.next

abbrev IsSound : List (ℕ × List ℕ) → Option Begun → Type 0
IsSound sent begun = (b : Begun) → begun ≡ Some b → Partly sent b

-- the bytes before a part, which are the first parts of it
record Before (sent : List (ℕ × List ℕ)) (name : ℕ) (p : Part) (bytes : List ℕ) : Type 0 where
  before : List (ℕ × List ℕ)
  parts : sent ≡ before ++ first_parts name p.count bytes p.index
  long : length bytes ≡ 1019 * p.index

-- more bytes change none of the first parts
payload_front : (bytes more : List ℕ) (index : ℕ) → 1019 * index + 1019 ≤ length bytes → payload_of (bytes ++ more) index ≡ payload_of bytes index
payload_front bytes more index long =
    let start : 1019 * index ≤ length bytes = omega arith in
    let rest : 1019 ≤ length (drop (1019 * index) bytes) = omega (arith, length-drop (1019 * index) bytes) in
    ap (take 1019) (drop-append-le (1019 * index) bytes more start) ∙ take-append-le 1019 (drop (1019 * index) bytes) more rest

first_parts-front : (name count : ℕ) (bytes more : List ℕ) (many : ℕ) → 1019 * many ≤ length bytes
    → first_parts name count (bytes ++ more) many ≡ first_parts name count bytes many
first_parts-front name count bytes more zero long = first_parts-none name count (bytes ++ more) ∙ sym (first_parts-none name count bytes)
first_parts-front name count bytes more (suc n) long =
    let shorter : 1019 * n ≤ length bytes = omega arith in
    let here : 1019 * n + 1019 ≤ length bytes = omega arith in
    first_parts-suc name count (bytes ++ more) n
    ∙ ap (λ xs. xs ++ (name, part_bytes n count (payload_of (bytes ++ more) n)) ∷ []) (first_parts-front name count bytes more n shorter)
    ∙ ap (λ payload. first_parts name count bytes n ++ (name, part_bytes n count payload) ∷ []) (payload_front bytes more n here)
    ∙ sym (first_parts-suc name count bytes n)

payload_behind : (bytes payload : List ℕ) (index : ℕ) → length bytes ≡ 1019 * index → length payload ≤ 1019 → payload_of (bytes ++ payload) index ≡ payload
payload_behind bytes payload index long short = ap (take 1019) (drop_at bytes payload (1019 * index) long) ∙ take_all 1019 payload short

-- with the part, the first parts of all
payload_short : (p : Part) → PartFitsMessage p → length p.payload ≤ 1019
payload_short p fit = ⊎_elim
    (λ (below : p.index + 1 < p.count). omega (arith, fit.full below))
    (λ (above : p.count ≤ p.index + 1).
    let most : 1019 * p.index + length p.payload ≤ 1019 * p.count =
    subst (λ n. 1019 * p.index + length p.payload ≤ 1019 * n) (fit.ends above) (part_count_fits_size (1019 * p.index + length p.payload)).most in
    omega (arith, most, fit.within))
    (cases_lt (p.index + 1) p.count)

parts_with : (sent : List (ℕ × List ℕ)) (name : ℕ) (body : List ℕ) (p : Part) (bytes : List ℕ) → part_in body ≡ Some p → (h : Before sent name p bytes)
    → sent ++ (name, body) ∷ [] ≡ h.before ++ first_parts name p.count (bytes ++ p.payload) (p.index + 1)
parts_with sent name body p bytes is h =
    let short = payload_short p (part_read_fits_message body p is) in
    let last : part_bytes p.index p.count p.payload ≡ part_bytes p.index p.count (payload_of (bytes ++ p.payload) p.index) =
    ap (part_bytes p.index p.count) (sym (payload_behind bytes p.payload p.index h.long short)) in
    let front : first_parts name p.count bytes p.index ≡ first_parts name p.count (bytes ++ p.payload) p.index =
    sym (first_parts-front name p.count bytes p.payload p.index (omega (arith, h.long))) in
    ap (λ xs. xs ++ (name, body) ∷ []) h.parts ∙ append_assoc h.before _ _
    ∙ ap (λ b. h.before ++ (first_parts name p.count bytes p.index ++ (name, b) ∷ [])) (part_read_from_its_bytes body p is ∙ last)
    ∙ ap (λ xs. h.before ++ (xs ++ (name, part_bytes p.index p.count (payload_of (bytes ++ p.payload) p.index)) ∷ [])) front
    ∙ ap (λ xs. h.before ++ xs) (sym (first_parts-more name p.count (bytes ++ p.payload) p.index))

-- what a Data comes to, by what it is
data Comes (sent : List (ℕ × List ℕ)) (name : ℕ) (body : List ℕ) (taken : Taken) : Type 0 where
  as_plain : taken ≡ plain → Comes sent name body taken
  as_passed : taken ≡ passed → Comes sent name body taken
  as_part : (p : Part) → (bytes : List ℕ) → part_in body ≡ Some p → Before sent name p bytes → taken ≡ with_part name p bytes → Comes sent name body taken

goes_by : (sent : List (ℕ × List ℕ)) (begun : Option Begun) (name : ℕ) (body : List ℕ) (p : Part) → IsSound sent begun → part_in body ≡ Some p
    → Comes sent name body (cond (awaits begun name p) (with_part name p (bytes_begun begun)) passed)
goes_by sent None name body p sound is = as_passed refl
goes_by sent (Some b) name body p sound is = split_on_bool (awaits (Some b) name p)
    (λ waits.
    let both = and_parts ((b.from == name) && (b.next == p.index)) (b.count == p.count) waits in
    let head = and_parts (b.from == name) (b.next == p.index) both.0 in
    let from : b.from ≡ name = eqb-true b.from name head.0 in
    let next : b.next ≡ p.index = eqb-true b.next p.index head.1 in
    let count : b.count ≡ p.count = eqb-true b.count p.count both.1 in
    let partly = sound b refl in
    as_part p b.bytes is
    (record {
      before = partly.before;
      parts = partly.parts ∙ ap (λ n. partly.before ++ first_parts n b.count b.bytes b.next) from
          ∙ ap (λ n. partly.before ++ first_parts name n b.bytes b.next) count ∙ ap (λ n. partly.before ++ first_parts name p.count b.bytes n) next;
      long = omega (arith, partly.long, next);
    })
    (cond-true (awaits (Some b) name p) (with_part name p b.bytes) passed waits))
    (λ other. as_passed (cond-false (awaits (Some b) name p) (with_part name p b.bytes) passed other))

comes_by : (sent : List (ℕ × List ℕ)) (begun : Option Begun) (name : ℕ) (body : List ℕ) (read : Option Part) → IsSound sent begun → part_in body ≡ read
    → Comes sent name body (take_part begun name read)
comes_by sent begun name body None sound is = as_plain refl
comes_by sent begun name body (Some p) sound is = split_on_bool (p.index == 0)
    (λ first.
    let zero : p.index ≡ 0 = eqb-true p.index 0 first in
    let none : first_parts name p.count [] p.index ≡ [] = ap (first_parts name p.count []) zero ∙ first_parts-none name p.count [] in
    as_part p [] is
    (record { before = sent; parts = sym (append-nil sent) ∙ ap (λ xs. sent ++ xs) (sym none); long = omega arith })
    (cond-true (p.index == 0) (with_part name p []) _ first))
    (λ other. subst (λ t. Comes sent name body t) (sym (cond-false (p.index == 0) (with_part name p []) _ other)) (goes_by sent begun name body p sound is))

-- the part is kept where more are to come, and else all is there
kept : (name : ℕ) (p : Part) (bytes : List ℕ) (taken : Taken) → taken ≡ with_part name p bytes
    → ((p.index + 1 ≡ p.count) × (taken ≡ whole (bytes ++ p.payload)))
    ⊎ ((p.index + 1 ≡ p.count → ⊥) × (taken ≡ part (record { from = name; next = p.index + 1; count = p.count; bytes = bytes ++ p.payload })))
kept name p bytes taken is = split_on_bool (p.index + 1 == p.count)
    (λ last. inl (eqb-true (p.index + 1) p.count last, is ∙ cond-true (p.index + 1 == p.count) (whole (bytes ++ p.payload)) _ last))
    (λ more. inr (eqb-false (p.index + 1) p.count more, is ∙ cond-false (p.index + 1 == p.count) (whole (bytes ++ p.payload)) _ more))

sound_by : (sent : List (ℕ × List ℕ)) (name : ℕ) (body : List ℕ) (taken : Taken) → Comes sent name body taken
    → IsSound (sent ++ (name, body) ∷ []) (begun_by taken)
sound_by sent name body taken (as_plain is) b had = let none : ◌≡◌ {A = Option Begun} None (Some b) = sym (ap begun_by is) ∙ had in absurd (cc)
sound_by sent name body taken (as_passed is) b had = let none : ◌≡◌ {A = Option Begun} None (Some b) = sym (ap begun_by is) ∙ had in absurd (cc)
sound_by sent name body taken (as_part p bytes read h is) b had = ⊎_elim
    (λ (last : (p.index + 1 ≡ p.count) × (taken ≡ whole (bytes ++ p.payload))).
    let none : ◌≡◌ {A = Option Begun} None (Some b) = sym (ap begun_by last.1) ∙ had in absurd (cc))
    (λ (more : (p.index + 1 ≡ p.count → ⊥) × (taken ≡ part (record { from = name; next = p.index + 1; count = p.count; bytes = bytes ++ p.payload }))).
    let fit = part_read_fits_message body p read in
    let full = fit.full (omega (arith, fit.within, more.0)) in
    let same : Some (record { from = name; next = p.index + 1; count = p.count; bytes = bytes ++ p.payload }) ≡ Some b = sym (ap begun_by more.1) ∙ had in
    subst (λ (c : Begun). Partly (sent ++ (name, body) ∷ []) c) (same_Some _ b same)
    (record { before = h.before; parts = parts_with sent name body p bytes read h; long = omega (arith, length-append bytes p.payload, h.long, full) }))
    (kept name p bytes taken is)

sound_next : (sent : List (ℕ × List ℕ)) (begun : Option Begun) (name : ℕ) (body : List ℕ) → IsSound sent begun
    → IsSound (sent ++ (name, body) ∷ []) (begun_message_with_next_body begun (name, body))
sound_next sent begun name body sound = sound_by sent name body (taken_with begun name body) (comes_by sent begun name body (part_in body) sound refl)

sound_from : (sent rest : List (ℕ × List ℕ)) (begun : Option Begun) → IsSound sent begun → IsSound (sent ++ rest) (fold begun_message_with_next_body begun rest)
sound_from sent [] begun sound = subst (λ xs. IsSound xs begun) (sym (append-nil sent)) sound
sound_from sent (x ∷ rest) begun sound =
    subst (λ xs. IsSound xs (fold begun_message_with_next_body (begun_message_with_next_body begun x) rest)) (append_assoc sent (x ∷ []) rest)
    (sound_from (sent ++ x ∷ []) rest (begun_message_with_next_body begun x) (sound_next sent begun x.0 x.1 sound))

sound_after : (sent : List (ℕ × List ℕ)) → IsSound sent (begun_message_after_bodies sent)
unfolding begun_message_after_bodies
sound_after sent = sound_from [] sent None (λ b had. absurd (cc))

ends_by : (sent : List (ℕ × List ℕ)) (whose : ℕ) (body : List ℕ) (name : ℕ) (message : List ℕ) (taken : Taken) → Comes sent whose body taken
    → ended_by whose taken ≡ Some (name, message) → (name ≡ whose) × BodiesEndWithMessage (sent ++ (whose, body) ∷ []) name message
ends_by sent whose body name message taken (as_plain is) had =
    let none : ◌≡◌ {A = Option (ℕ × List ℕ)} None (Some (name, message)) = sym (ap (ended_by whose) is) ∙ had in absurd (cc)
ends_by sent whose body name message taken (as_passed is) had =
    let none : ◌≡◌ {A = Option (ℕ × List ℕ)} None (Some (name, message)) = sym (ap (ended_by whose) is) ∙ had in absurd (cc)
ends_by sent whose body name message taken (as_part p bytes read h is) had = ⊎_elim
    (λ (last : (p.index + 1 ≡ p.count) × (taken ≡ whole (bytes ++ p.payload))).
    let fit = part_read_fits_message body p read in
    let above : p.count ≤ p.index + 1 = omega (arith, last.0) in
    let same : ◌≡◌ {A = Option (ℕ × List ℕ)} (Some (whose, bytes ++ p.payload)) (Some (name, message)) = sym (ap (ended_by whose) last.1) ∙ had in
    let pair = some_pair_parts whose name (bytes ++ p.payload) message same in
    let size : length (bytes ++ p.payload) ≡ 1019 * p.index + length p.payload = omega (arith, length-append bytes p.payload, h.long) in
    let count : part_count (length (bytes ++ p.payload)) ≡ p.count = ap part_count size ∙ fit.ends above in
    let all : parts_from whose (bytes ++ p.payload) ≡ first_parts whose p.count (bytes ++ p.payload) (p.index + 1) =
    parts_from_is_first_parts whose (bytes ++ p.payload) ∙ ap (λ n. first_parts whose n (bytes ++ p.payload) n) count
    ∙ ap (first_parts whose p.count (bytes ++ p.payload)) (sym last.0) in
    let ending : BodiesEndWithMessage (sent ++ (whose, body) ∷ []) whose (bytes ++ p.payload) = record {
      few = omega (arith, size, fit.short above);
      before = h.before;
      parts = parts_with sent whose body p bytes read h ∙ ap (λ xs. h.before ++ xs) (sym all);
    } in (
      sym pair.0,
      subst (λ m. BodiesEndWithMessage (sent ++ (whose, body) ∷ []) name m) pair.1
          (subst (λ n. BodiesEndWithMessage (sent ++ (whose, body) ∷ []) n (bytes ++ p.payload)) pair.0 ending),
    ))
    (λ (more : (p.index + 1 ≡ p.count → ⊥) × (taken ≡ part (record { from = whose; next = p.index + 1; count = p.count; bytes = bytes ++ p.payload }))).
    let none : ◌≡◌ {A = Option (ℕ × List ℕ)} None (Some (name, message)) = sym (ap (ended_by whose) more.1) ∙ had in absurd (cc))
    (kept whose p bytes taken is)

-- what is whole ends what was sent
pub completed_message_ends_list : (sent : List (ℕ × List ℕ)) (whose : ℕ) (body : List ℕ) (name : ℕ) (message : List ℕ)
    → ended_by whose (taken_with (begun_message_after_bodies sent) whose body) ≡ Some (name, message) → (name ≡ whose) × BodiesEndWithMessage (sent ++ (whose, body) ∷ []) name message
completed_message_ends_list sent whose body name message had = ends_by sent whose body name message (taken_with (begun_message_after_bodies sent) whose body)
    (comes_by sent (begun_message_after_bodies sent) whose body (part_in body) (sound_after sent) refl) had
